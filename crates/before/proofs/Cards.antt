-- Which cards the side of the zeros touches. Assumes nothing.
use mathlib.Core.Path.{◌≡◌, refl, sym, ap, ap₂, ◌∙◌, subst}
use mathlib.Core.Logic.{⊎_elim}
use mathlib.Core.Bool.{Bool, true, false, not, ◌&&◌, cond, and-false, not-not}
use mathlib.Core.List.{List, [], ◌∷◌, ◌++◌, append-nil}
use Prim.Native.Nat.{ℕ, zero, suc, ◌-◌, ◌≤◌, ◌<◌}
use native.Mathlib.Nat.{add_comm}
use native.Mathlib.Omega.{arith}
use borrow.Author.Tests.{le-leb, lt-leb}
use lib.Dec.{leb}
use lib.ListN.{length, get_or, drop, replicate-append-replicate, length-append, length-drop, length-replicate}
use Rattle.std.specs.Prelude.{Ok, Err}
use Rattle.answers.specs.declared.Refusal.TheVariants.{Input, CardNumber}
use Rattle.octets.specs.Same.{same}
use Rattle.octets.specs.Digits.{pairs}
use Rattle.octets.proofs.SameLaws.{same_refl, same_true}
use Rattle.octets.proofs.DigitLaws.{pairs-same}
use Rattle.octets.proofs.Parts.{zeros, Below, below_append, below_drop, below_zeros}
use Rattle.blocks.proofs.Laws.{lt_or_ge}
use Rattle.octets.specs.Lengths.{key_fits}
use Rattle.derive.specs.Derivation.{derived, card_label}
use Rattle.keys.specs.CardNumber.{card_fits, X, sixteen, Y, packed_y}
use Rattle.keys.specs.Answers.{card_answer, card_key, card_key_packed}
use Rattle.keys.proofs.CardLaws.{length_X, length-sixteen, sixteen_small, X-small, fits}
use Rattle.before.specs.ZerosAfter.{sixteen as sixteenThen, Y as seedThen, packed_y as packedThen, card_key as keyThen, card_key_packed as packedKeyThen}
use Rattle.before.specs.ShortCards.{touched, TouchesShortCards}

-- 01's own P2: card number 123456789012, no sequence number
pub P2_then : seedThen (1 ∷ 2 ∷ 3 ∷ 4 ∷ 5 ∷ 6 ∷ 7 ∷ 8 ∷ 9 ∷ 0 ∷ 1 ∷ 2 ∷ []) 0 ≡ 0x0c ∷ 0x22 ∷ 0x38 ∷ 0x4e ∷ 0x5a ∷ 0x0c ∷ 0x00 ∷ 0x00 ∷ []
unfolding seedThen X sixteenThen pairs
P2_then = refl

-- ---- zeros on either side of a list: the same list exactly when it is all zeros

zeros_cons : (k : ℕ) (s : List ℕ) → zeros k ++ 0 ∷ s ≡ 0 ∷ zeros k ++ s
zeros_cons zero s = refl
zeros_cons (suc k) s = ap (λ (t : List ℕ). 0 ∷ t) (zeros_cons k s)

all_zero : (k : ℕ) (x : List ℕ) → zeros (suc k) ++ x ≡ x ++ zeros (suc k) → x ≡ zeros (length x)
all_zero k [] e = refl
all_zero k (a ∷ s) e =
    let h : 0 ≡ a = ap (λ (l : List ℕ). get_or l 0 0) e in
    let t : zeros k ++ a ∷ s ≡ s ++ zeros (suc k) = ap (drop 1) e in
    ap₂ {C = List ℕ} (λ b r. b ∷ r) (sym h) (all_zero k s (sym (zeros_cons k s) ∙ ap (λ (b : ℕ). zeros k ++ b ∷ s) h ∙ t))

either_side : (k n : ℕ) → zeros k ++ zeros n ≡ zeros n ++ zeros k
either_side k n = replicate-append-replicate k n 0 ∙ ap zeros (add_comm k n) ∙ sym (replicate-append-replicate n k 0)

-- ---- a test beside two bounds

above : (a n b : ℕ) (t : Bool) → b < n → (leb a n && (leb n b && t)) ≡ false
above a n b t h = simp (lt-leb n b h, and-false)

between : (a n b : ℕ) (t : Bool) → a ≤ n → n ≤ b → (leb a n && (leb n b && t)) ≡ t
between a n b t l h = simp (le-leb a n l, le-leb n b h)

-- ---- the sixteen digits

module _ (x : List ℕ) where
  then_small : Below 10 x → Below 10 (sixteenThen x)
  unfolding sixteenThen
  then_small h = below_append 10 (drop (length x - 16) x) (zeros (16 - length x)) (below_drop 10 (length x - 16) x h) (below_zeros 10 (16 - length x) (omega arith))

  length_then : length (sixteenThen x) ≡ 16
  unfolding sixteenThen
  length_then = simp (length-append, length-drop, length-replicate) (omega arith)

  -- sixteen digits and more: there are no zeros
  long_same : 16 ≤ length x → sixteen x ≡ sixteenThen x
  unfolding sixteen sixteenThen
  long_same h =
      let e : 16 - length x ≡ 0 = omega arith in
      let d = drop (length x - 16) x in
      ap (λ (k : ℕ). zeros k ++ d) e ∙ sym (append-nil d) ∙ ap (λ (k : ℕ). d ++ zeros k) (sym e)

  -- fewer: all of X, and some zeros
  short_now : length x < 16 → sixteen x ≡ zeros (suc (15 - length x)) ++ x
  unfolding sixteen
  short_now h =
      let e : length x - 16 ≡ 0 = omega arith in
      let f : 16 - length x ≡ suc (15 - length x) = omega arith in
      ap₂ (λ (k n : ℕ). zeros k ++ drop n x) f e

  short_then : length x < 16 → sixteenThen x ≡ x ++ zeros (suc (15 - length x))
  unfolding sixteenThen
  short_then h =
      let e : length x - 16 ≡ 0 = omega arith in
      let f : 16 - length x ≡ suc (15 - length x) = omega arith in
      ap₂ (λ (k n : ℕ). drop n x ++ zeros k) f e

  short_same : length x < 16 → x ≡ zeros (length x) → sixteen x ≡ sixteenThen x
  short_same h z =
      let k = suc (15 - length x) in
      short_now h
      ∙ ap (λ (s : List ℕ). zeros k ++ s) z
      ∙ either_side k (length x)
      ∙ ap (λ (s : List ℕ). s ++ zeros k) (sym z)
      ∙ sym (short_then h)

  short_zero : length x < 16 → sixteen x ≡ sixteenThen x → x ≡ zeros (length x)
  short_zero h e = all_zero (15 - length x) x (sym (short_now h) ∙ e ∙ short_then h)

  touched_long : 16 ≤ length x → touched x ≡ false
  unfolding touched
  touched_long h = search above

  touched_short : 14 ≤ length x → length x ≤ 15 → touched x ≡ not (same x (zeros (length x)))
  unfolding touched
  touched_short l h = search between

-- ---- the seed, in any base above the digits

both_ways : (a b : Bool) → (a ≡ true → b ≡ true) → (b ≡ true → a ≡ true) → a ≡ b
both_ways true b f g = sym (f refl)
both_ways false true f g = g refl
both_ways false false f g = refl

module _ (base : ℕ) (enough : 10 ≤ base) (x : List ℕ) (least : 14 ≤ length x) (small : Below 10 x) where
  abbrev now : List ℕ
  now = pairs base (sixteen x)

  abbrev then : List ℕ
  then = pairs base (sixteenThen x)

  digits_same : now ≡ then → sixteen x ≡ sixteenThen x
  digits_same =
      pairs-same base (sixteen x) (sixteenThen x) 8 (length-sixteen x) (length_then x)
      (λ i. omega (arith, sixteen_small x small i))
      (λ i. omega (arith, then_small x small i))

  zeros_same : length x < 16 → same now then ≡ same x (zeros (length x))
  zeros_same h =
      both_ways (same now then) (same x (zeros (length x)))
      (λ t. subst (λ (s : List ℕ). same x s ≡ true) (short_zero x h (digits_same (same_true now then t))) (same_refl x))
      (λ t. subst (λ (s : List ℕ). same now s ≡ true) (ap (pairs base) (short_same x h (same_true x (zeros (length x)) t))) (same_refl now))

  seeds : same now then ≡ not (touched x)
  seeds =
      ⊎_elim (λ l. zeros_same l ∙ sym (ap not (touched_short x least (omega arith)) ∙ not-not (same x (zeros (length x)))))
      (λ l. subst (λ (s : List ℕ). same now s ≡ true) (ap (pairs base) (long_same x l)) (same_refl now) ∙ sym (ap not (touched_long x l)))
      (lt_or_ge (length x) 16)

-- ---- the key

module _ (key pan : List ℕ) (q : ℕ) (y z : List ℕ) where
  only_card : (b : Bool) → (b ≡ true → y ≡ z)
      → cond (key_fits key) (cond b (Ok (derived key card_label y)) (Err CardNumber)) (Err Input) ≡ cond (key_fits key) (cond b (Ok (derived key card_label z)) (Err CardNumber)) (Err Input)
  only_card true e = ap (λ (s : List ℕ). cond (key_fits key) (Ok (derived key card_label s)) (Err Input)) (e refl)
  only_card false e = refl

  same_answer : (t : Bool) → (card_fits pan q ≡ true → same y z ≡ not t) → (card_fits pan q && t) ≡ false → card_answer key pan q y ≡ card_answer key pan q z
  unfolding card_answer
  same_answer t e h =
      only_card (card_fits pan q)
      (λ f.
      let n : t ≡ false = sym (ap (λ (b : Bool). b && t) f) ∙ h in
      same_true y z (e f ∙ ap not n))

-- ---- the theorem

seed_by : (base : ℕ) → 10 ≤ base → (pan : List ℕ) (q : ℕ) → card_fits pan q ≡ true
    → same (pairs base (sixteen (X pan q))) (pairs base (sixteenThen (X pan q))) ≡ not (touched (X pan q))
seed_by base h pan q t =
    let f = fits pan q t in
    seeds base h (X pan q) (omega (arith, f.least, length_X pan q)) (X-small pan q f)

seed_touched : (pan : List ℕ) (q : ℕ) → card_fits pan q ≡ true → same (Y pan q) (seedThen pan q) ≡ not (touched (X pan q))
unfolding Y seedThen
seed_touched = seed_by 10 (omega arith)

packed_touched : (pan : List ℕ) (q : ℕ) → card_fits pan q ≡ true → same (packed_y pan q) (packedThen pan q) ≡ not (touched (X pan q))
unfolding packed_y packedThen
packed_touched = seed_by 16 (omega arith)

pub touches_short_cards : TouchesShortCards
unfolding card_key card_key_packed keyThen packedKeyThen
touches_short_cards =
    record {
      of_seed = seed_touched;
      of_packed_seed = packed_touched;
      of_key = λ key pan q. same_answer key pan q (Y pan q) (seedThen pan q) (touched (X pan q)) (seed_touched pan q);
      of_packed_key = λ key pan q. same_answer key pan q (packed_y pan q) (packedThen pan q) (touched (X pan q)) (packed_touched pan q);
    }
