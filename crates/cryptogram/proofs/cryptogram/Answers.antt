use mathlib.Core.Path.{ap, ap₂, ◌∙◌}
use mathlib.Core.List.{List}
use Prim.Native.Nat.{ℕ}
use Rattle.std.specs.Prelude.{Ok}
use Rattle.gost.specs.Gost.{subkeys}
use Rattle.cipher.proofs.AnswerLaws.{exact, not_exact}
use Rattle.cryptogram.specs.Cryptogram.{cryptogram_of}
use Rattle.cryptogram.proofs.AnswerLaws.{no_key, no_data, made}
use Rattle.cryptogram.proofs.cryptogram.Goals as goal

pub returns-in_err-exactly : goal.returns-in_err-exactly
returns-in_err-exactly c = let h = not_exact 32 _ _ c.exactly.ensures c.in_err-exactly.was _ c.from_residual.ensures.1 in h.1 ∙ no_key _ _ _ _ h.0

pub returns-in_err-exactly-2 : goal.returns-in_err-exactly-2
returns-in_err-exactly-2 c =
    let h = not_exact 65 _ _ c.exactly-2.ensures c.in_err-exactly-2.was _ c.from_residual-in_err-exactly-2.ensures.1 in
    h.1 ∙ no_data _ _ _ _ h.0

pub returns : goal.returns
returns c =
    let x = c.args in
    let k = exact 32 _ _ c.exactly.ensures c.in_ok-exactly.was in
    let d = exact 65 _ _ c.exactly-2.ensures c.in_ok-exactly-2.was in
    ap Ok (c.cryptogram_with.ensures ∙ ap₂ (λ (s t : List ℕ). cryptogram_of s x.kind x.counter t) (c.expand-k.ensures ∙ ap (subkeys 8) k.1) d.1)
    ∙ made x.key.now x.kind x.counter x.d.now k.0 d.0
