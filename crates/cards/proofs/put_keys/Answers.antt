use mathlib.Core.Path.{◌≡◌, sym, ap, ◌∙◌}
use mathlib.Core.List.{List, ◌++◌}
use Prim.Native.Nat.{ℕ, ◌+◌, ◌-◌, ◌*◌, ◌<◌}
use native.Mathlib.Omega.{arith}
use lib.ListN.{length, take, drop, replicate}
use lib.Seq.{length-paste}
use borrow.Author.Rules.{rules}
use Rattle.std.specs.Prelude.{Result, Ok}
use Rattle.std.specs.Result.{is_ok, result_unwrap_or}
use Rattle.std.proofs.lemmas.Slice.{put_mid-paste}
use Rattle.answers.specs.declared.Refusal.{Refusal}
use Rattle.derive.specs.Kept.{derived_kept}
use Rattle.derive.specs.Derivation.{card_label}
use Rattle.cards.specs.Inner.{seed_of, keys_by}
use Rattle.cards.proofs.CardLaws.{key_turn, key_end, key_is}
use Rattle.cards.proofs.put_keys.Goals as goal

pub loop-i-init : goal.loop-i-init
loop-i-init c = let a = c.args in
    let e : a.n - 0 ≡ a.n = omega arith in
    (c.requires.2, ap (λ (j : ℕ). keys_by a.kept.now j a.cards.now) e)

pub unwrap-key-requires : goal.unwrap-key-requires
unwrap-key-requires c = let l = c.loop-i in
    let a = c.args in
    let s = c.unwrap_or-seed in
    let seed : length s.result ≡ 8 = search (rules, s.type_inv) in
    ap (λ (r : Result (List ℕ) Refusal). is_ok r)
    (key_is _ a.kept.now s.result c.derive_kept_over.result _ c.requires.0 seed c.iteration_constants-cs.ensures c.card_label.ensures c.derive_kept_over.ensures)

pub loop-i-preserved : goal.loop-i-preserved
loop-i-preserved c = let l = c.loop-i in
    let a = c.args in
    let ws = a.kept.now in
    let s = c.unwrap_or-seed in
    let key = c.unwrap-key.result in
    let h : l.i < a.n = search rules in
    let p : List ℕ = take 21 (drop (21 * l.i) a.cards.now) in
    let m : length l.out ≡ 32 * a.n = l.invariant.0 in
    let n : length key ≡ 32 = search (rules, c.unwrap-key.type_inv) in
    let seed : length s.result ≡ 8 = search (rules, s.type_inv) in
    let w : 32 * l.i + 32 - 32 * l.i ≡ 32 = omega arith in
    let q = put_mid-paste (32 * l.i) (32 * l.i + 32 - 32 * l.i) l.out c.copy_from_slice.new.self key 32 c.copy_from_slice.ensures.after (sym w) (sym n) in
    let y : s.result ≡ result_unwrap_or (seed_of p) (replicate 8 0) = s.ensures ∙ ap (λ (r : Result (List ℕ) Refusal). result_unwrap_or r (replicate 8 0)) c.seed_at.ensures in
    let u : ◌≡◌ {A = Result (List ℕ) Refusal} (Ok key) (Ok (derived_kept ws card_label s.result)) =
    sym c.unwrap-key.ensures
    ∙ key_is _ ws s.result c.derive_kept_over.result _ c.requires.0 seed c.iteration_constants-cs.ensures c.card_label.ensures c.derive_kept_over.ensures in
    let v : key ≡ derived_kept ws card_label s.result = cc in (
      ap length q ∙ length-paste l.out (32 * l.i) key 32 (omega arith) (omega arith) ∙ m,
      ap (λ (x : List ℕ). take (32 * (l.i + 1)) x ++ keys_by ws (a.n - (l.i + 1)) (drop (21 * (l.i + 1)) a.cards.now)) q
          ∙ key_turn a.cards.now a.n l.i h ws l.out key m n (v ∙ ap (derived_kept ws card_label) y)
          ∙ l.invariant.1,
    )

pub returns : goal.returns
returns c = let l = c.loop-i in
    let a = c.args in
    key_end a.kept.now a.cards.now l.out a.n l.i (omega arith) l.invariant.0 ∙ l.invariant.1
