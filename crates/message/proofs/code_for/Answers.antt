use mathlib.Core.Path.{◌≡◌, refl, sym, subst, ◌∙◌}
use Rattle.std.specs.Prelude.{Ok}
use Rattle.std.specs.Result.{IsOk}
use Rattle.message.specs.Code.{code_for}
use Rattle.message.proofs.CodeLaws.{given_lengths, code_made}
use Rattle.message.proofs.code_for.Goals as goal

pub string-s-requires : goal.string-s-requires
string-s-requires c = ((given_lengths _ _ c.requires.0).of_header, c.requires.1)

pub unwrap-requires : goal.unwrap-requires
unwrap-requires c = subst IsOk (sym (code_made _ _ _ _ _ c.requires.0 c.requires.1 c.string-s.ensures c.code.ensures)) refl

pub returns : goal.returns
returns c =
    let x = c.args in
    let e : Ok c.unwrap.result ≡ Ok (code_for x.key.now x.header.now x.body.now) =
    sym c.unwrap.ensures ∙ code_made _ _ _ _ _ c.requires.0 c.requires.1 c.string-s.ensures c.code.ensures
    in
    cc
