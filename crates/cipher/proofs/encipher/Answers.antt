use mathlib.Core.Path.{ap, ap₂, ◌∙◌}
use mathlib.Core.List.{List}
use Prim.Native.Nat.{ℕ}
use Rattle.std.specs.Prelude.{Ok}
use Rattle.gost.specs.Gost.{through, forth, subkeys, encipher}
use Rattle.cipher.specs.Answers.{enciphered}
use Rattle.cipher.proofs.AnswerLaws.{exact, not_exact, no_key, no_block_lem, fits}
use Rattle.cipher.proofs.encipher.Goals as goal

pub returns-in_err-exactly : goal.returns-in_err-exactly
unfolding enciphered
returns-in_err-exactly c = let h = not_exact 32 _ _ c.exactly.ensures c.in_err-exactly.was _ c.from_residual.ensures.1 in h.1 ∙ no_key _ _ _ h.0

pub returns-in_err-exactly-2 : goal.returns-in_err-exactly-2
unfolding enciphered
returns-in_err-exactly-2 c =
    let h = not_exact 8 _ _ c.exactly-2.ensures c.in_err-exactly-2.was _ c.from_residual-in_err-exactly-2.ensures.1 in
    h.1 ∙ no_block_lem _ _ _ h.0

pub returns : goal.returns
unfolding enciphered encipher
returns c =
    let x = c.args in
    let k = exact 32 _ _ c.exactly.ensures c.in_ok-exactly.was in
    let b = exact 8 _ _ c.exactly-2.ensures c.in_ok-exactly-2.was in
    ap Ok (c.encipher_with.ensures ∙ ap₂ (λ (s t : List ℕ). through (forth s) t) (c.expand.ensures ∙ ap (subkeys 8) k.1) b.1)
    ∙ fits x.key.now x.block.now (encipher x.key.now x.block.now) k.0 b.0
