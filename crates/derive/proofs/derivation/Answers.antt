use mathlib.Core.Path.{◌≡◌, ap, ap₂, ◌∙◌}
use mathlib.Core.List.{List, [], ◌∷◌}
use Prim.Native.Nat.{ℕ}
use Rattle.std.specs.Prelude.{Ok}
use Rattle.hash.specs.declared.State.{State}
use Rattle.hash.specs.States.{poured_into, ended}
use Rattle.derive.specs.declared.Started.{Started}
use Rattle.derive.specs.Started.{started}
use Rattle.derive.proofs.Laws.{exact, not_exact, no_key_lem, fits, derived_parts}
use Rattle.derive.proofs.derivation.Goals as goal

pub returns-in_err-exactly : goal.returns-in_err-exactly
returns-in_err-exactly c = let h = not_exact 32 _ _ c.exactly.ensures c.in_err-exactly.was _ c.from_residual.ensures.1 in h.1 ∙ no_key_lem _ _ _ h.0

pub returns : goal.returns
returns c = let x = c.args in
    let key = x.key.now in
    let label = x.label.now in
    let seed = x.seed.now in
    let q = exact 32 _ _ c.exactly.ensures c.in_ok-exactly.was in
    let k : c.start-s.result ≡ started key = c.start-s.ensures ∙ ap started q.1 in
    let a = c.pour-a.ensures ∙ ap (λ (s : State). poured_into s label) (c.pour.ensures ∙ ap (λ (s : Started). poured_into s.inner (0x01 ∷ [])) k) in
    let b = c.pour-b.ensures ∙ ap (λ (s : State). poured_into s seed) (c.pour-2.ensures ∙ ap (λ (s : State). poured_into s (0x00 ∷ [])) a) in
    let e = c.end-x.ensures ∙ ap ended (c.pour-3.ensures ∙ ap (λ (s : State). poured_into s (0x01 ∷ 0x00 ∷ [])) b) in
    ap Ok (c.end.ensures ∙ ap ended (c.pour-4.ensures ∙ ap₂ (λ (s : Started) (y : List ℕ). poured_into s.outer y) k e) ∙ derived_parts key label seed)
    ∙ fits key label seed q.0
