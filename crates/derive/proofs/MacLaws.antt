-- HMAC under way: a case of the cutting, and what its functions answer. Assumes nothing.
use mathlib.Core.Path.{◌≡◌, refl, sym, ap, ◌∙◌}
use mathlib.Core.Bool.{Bool, true, false, cond}
use mathlib.Core.List.{List, []}
use Prim.Native.Nat.{ℕ, ◌+◌}
use borrow.Author.Tests.{eq-eqb, ne_eqb}
use lib.Dec.{eqb}
use lib.ListN.{length}
use Rattle.octets.specs.Lengths.{key_fits}
use Rattle.blocks.specs.Parts.{fits, part_number, poured, counted, after, CutAnyWay}
use Rattle.blocks.proofs.PartLaws.{Keeps, settled_poured, cut_any_way}
use Rattle.hash.specs.declared.State.{State}
use Rattle.hash.specs.States.{state_of, hash_way, begun, poured_into, fed, ended}
use Rattle.hash.proofs.Laws.{hash_keeps, total_poured_into, ended_total, told, left, cut_alike}
use Rattle.derive.specs.declared.Started.{Started}
use Rattle.derive.specs.Hmac.{ipad, opad, hmac}
use Rattle.derive.specs.Started.{started, hmac_with}
use Rattle.std.specs.Prelude.{Result, Ok, Err}
use Rattle.std.specs.Result.{IsErrAnd, result_unwrap_or}
use Rattle.std.proofs.lemmas.Result.{err_from_is_err_and}
use Rattle.answers.specs.declared.Refusal.{Refusal}
use Rattle.answers.specs.declared.Refusal.TheVariants.{Input}
use Rattle.answers.specs.Answers.{number_told}
use Rattle.derive.specs.Macing.{mac_way, mac_begun, mac_fed, mac_ended}
use Rattle.derive.proofs.Laws.{hmac_started}

mac_keeps : Keeps mac_way
mac_keeps =
    record {
      some = hash_keeps.some;
      step_anew = λ s c t n. refl;
      made_anew = λ s. hash_keeps.made_anew s.inner;
      held_anew = λ s. hash_keeps.held_anew s.inner;
      total_anew = λ s. hash_keeps.total_anew s.inner;
      anew_anew = λ s c t n d u k. refl;
    }

-- the inner hash is fed, and the outer waits
counted_inner : (s : Started) (m : List ℕ) → record { inner = counted hash_way s.inner m; outer = s.outer } ≡ counted mac_way s m
unfolding counted poured
counted_inner s m = refl

pub fed_not : (s : Started) (m : List ℕ) → fits s.inner.total (length m) ≡ false → mac_fed s m ≡ Err Input
unfolding mac_fed
fed_not s m e = ap (λ (b : Bool). cond {A = Result Started Refusal} b (Ok (counted mac_way s m)) (Err Input)) e

pub fed_on : (s : Started) (m : List ℕ) → fits s.inner.total (length m) ≡ true → mac_fed s m ≡ Ok (record { inner = counted hash_way s.inner m; outer = s.outer })
unfolding mac_fed
fed_on s m e = ap (λ (b : Bool). cond {A = Result Started Refusal} b (Ok (counted mac_way s m)) (Err Input)) e ∙ ap Ok (sym (counted_inner s m))

-- by what the inner hash answered: fed, or the caller's `?`
pub fed_inner : (s : Started) (m : List ℕ) (x : State) {r : Result State Refusal} → r ≡ fed s.inner m → r ≡ Ok x
    → Ok (record { inner = x; outer = s.outer }) ≡ mac_fed s m
unfolding fed
fed_inner s m x e f = go (fits s.inner.total (length m)) refl (sym f ∙ e)
  where
    go : (t : Bool) → fits s.inner.total (length m) ≡ t → Ok x ≡ cond {A = Result State Refusal} t (Ok (counted hash_way s.inner m)) (Err Input)
        → Ok (record { inner = x; outer = s.outer }) ≡ mac_fed s m
    go true h i = let k : x ≡ counted hash_way s.inner m = cc in ap (λ (y : State). Ok (record { inner = y; outer = s.outer })) k ∙ sym (fed_on s m h)
    go false h i = absurd cc

pub fed_refused : (s : Started) (m : List ℕ) (q : Refusal) {r : Result State Refusal} → r ≡ fed s.inner m → r ≡ Err q
    → (y : Result Started Refusal) → IsErrAnd y (λ e. e ≡ q) → y ≡ mac_fed s m
unfolding fed
fed_refused s m q e f y h = go (fits s.inner.total (length m)) refl (sym f ∙ e)
  where
    go : (t : Bool) → fits s.inner.total (length m) ≡ t → Err q ≡ cond {A = Result State Refusal} t (Ok (counted hash_way s.inner m)) (Err Input) → y ≡ mac_fed s m
    go true g i = absurd cc
    go false g i = let p = err_from_is_err_and y h in
        let k : q ≡ Input = cc in
        p.1 ∙ ap Err (p.2 ∙ k) ∙ sym (fed_not s m g)

poured_total : (s : Started) (m : List ℕ) → ended (poured mac_way s m (s.inner.total + length m)).inner ≡ ended (poured_into s.inner m)
unfolding poured_into poured
poured_total s m = ended_total s.inner m (s.inner.total + length m) s.inner.total

settled : (key : List ℕ) → counted mac_way (started key) [] ≡ started key
unfolding started poured_into
settled key =
    sym (counted_inner (started key) [])
    ∙ ap (λ (x : State). record { inner = x; outer = poured_into begun (opad key) }) (settled_poured hash_way hash_keeps begun (ipad key) begun.total)

nothing_fed : (key : List ℕ) → (started key).inner.total ≡ 0
unfolding started begun state_of
nothing_fed key = total_poured_into begun (ipad key)

module _ (key : List ℕ) where
  pub begun_not : (length key ≡ 32 → ⊥) → Err Input ≡ mac_begun key
  unfolding mac_begun key_fits
  begun_not h = simp (ne_eqb _ _ h)

  pub begun_fits : length key ≡ 32 → Ok (started key) ≡ mac_begun key
  unfolding mac_begun key_fits
  begun_fits h = simp (eq-eqb _ _ h)

  pub mac_begins : number_told (mac_begun key) ≡ cond (eqb (length key) 32) 0 1
  unfolding mac_begun key_fits
  mac_begins = told (started key) (eqb (length key) 32)

  -- the message fed at once
  ended_all : (m : List ℕ) → mac_ended (counted mac_way (started key) m) ≡ hmac key m
  unfolding mac_ended counted poured hmac_with
  ended_all m =
      let s : Started = started key in
      ap (λ (x : List ℕ). ended (poured_into s.outer x)) (poured_total s m) ∙ hmac_started key m

  pub started_cut : CutAnyWay (started key) (λ s m. number_told (mac_fed s m)) (λ s m. result_unwrap_or (mac_fed s m) s) mac_ended (hmac key)
  unfolding mac_fed part_number after
  started_cut =
      cut_alike (λ s m. sym (told (counted mac_way s m) (fits s.inner.total (length m)))) (λ s m. sym (left (counted mac_way s m) s (fits s.inner.total (length m))))
      (cut_any_way mac_way mac_keeps (started key) mac_ended (hmac key) (settled key) (nothing_fed key) ended_all)

  -- Wish 5, for HMAC: a key of 32 bytes begins a state of which parts cut any way give the answer of the whole
  pub mac_cut : length key ≡ 32
      → (s : Started) × (mac_begun key ≡ Ok s) × CutAnyWay s (λ x m. number_told (mac_fed x m)) (λ x m. result_unwrap_or (mac_fed x m) x) mac_ended (hmac key)
  mac_cut h = (started key, sym (begun_fits h), started_cut)
