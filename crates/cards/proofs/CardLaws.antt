-- Many cards, one by one. Assumes nothing.
use mathlib.Core.Path.{◌≡◌, refl, sym, ap, ap₂, ◌∙◌}
use mathlib.Core.Bool.{Bool, true, false, cond, ◌&&◌, and-false, and-eq-true_iff}
use mathlib.Core.List.{List, ◌++◌, append_assoc, append-nil}
use Prim.Native.Nat.{ℕ, zero, suc, ◌+◌, ◌-◌, ◌*◌, ◌/◌, ◌%◌, ◌<◌, ◌≤◌}
use native.Mathlib.Nat.{add-zero}
use native.Mathlib.Omega.{arith}
use borrow.Author.Tests.{eq-eqb, ne_eqb, leb-true, leb-false}
use lib.Dec.{leb, lit<}
use lib.ListN.{length, get_or, take, drop, length-drop, replicate}
use lib.Seq.{paste, take-paste, drop-drop, take_all, get_or-take, get_or-drop, length-take-le}
use Rattle.octets.specs.Lengths.{key_fits}
use Rattle.octets.proofs.Parts.{part_part}
use Rattle.rounds.specs.Rounds.{constants}
use Rattle.answers.specs.declared.Refusal.{Refusal}
use Rattle.answers.specs.declared.Refusal.TheVariants.{CardNumber}
use Rattle.std.specs.Prelude.{Result, Ok, Err}
use Rattle.std.specs.Result.{is_err, result_unwrap_or}
use Rattle.derive.specs.Derivation.{card_label}
use Rattle.derive.specs.Kept.{kept_words, derived_kept}
use Rattle.derive.specs.Answers.{derivation_over}
use Rattle.derive.proofs.Laws.{derivation_over_lem, kept_fits_lem, derived_kept_lem}
use Rattle.keys.specs.CardNumber.{card_fits, Y}
use Rattle.keys.specs.Answers.{card_key, seed_answer}
use Rattle.keys.proofs.CardLaws.{too_long}
use Rattle.keys.proofs.AnswerLaws.{seed_no, card_is}
use Rattle.cards.specs.Cards.{pan_of, sequence_of, all_fit, cards_keys, lengths_fit, cards_number, cards_after}
use Rattle.cards.specs.Inner.{seed_of, keys_by}

-- the card at a place
module _ (cs : List ℕ) (p : ℕ) (h : p + 21 ≤ length cs) where
  length_card : length (take 21 (drop p cs)) ≡ 21
  length_card = length-take-le 21 (drop p cs) (simp length-drop (omega arith))

  card_at : (i : ℕ) → i < 21 → get_or (take 21 (drop p cs)) i 0 ≡ get_or cs (p + i) 0
  card_at i l = get_or-take 21 (drop p cs) i 0 l ∙ get_or-drop p cs i 0

  count_at : get_or (take 21 (drop p cs)) 0 0 ≡ get_or cs p 0
  count_at = card_at 0 (lit< tt) ∙ ap (λ (i : ℕ). get_or cs i 0) (add-zero p)

  pub seed_none : 19 < get_or cs p 0 → Err CardNumber ≡ seed_of (take 21 (drop p cs))
  unfolding seed_of pan_of
  seed_none g =
      let c : List ℕ = take 21 (drop p cs) in
      let n : length (drop 1 c) ≡ 20 = length-drop 1 c ∙ omega (arith, length_card) in
      seed_no (take (get_or c 0 0) (drop 1 c)) (sequence_of c) false (too_long (take (get_or c 0 0) (drop 1 c)) (sequence_of c) (long c n (omega (arith, count_at)))) refl
    where
      long : (c : List ℕ) → length (drop 1 c) ≡ 20 → 19 < get_or c 0 0 → 19 < length (take (get_or c 0 0) (drop 1 c))
      long c n g = by_length (leb (get_or c 0 0) 20) refl
        where
          by_length : (t : Bool) → leb (get_or c 0 0) 20 ≡ t → 19 < length (take (get_or c 0 0) (drop 1 c))
          by_length true e =
              let l : get_or c 0 0 ≤ 20 = leb-true (get_or c 0 0) 20 e in
              let m : length (take (get_or c 0 0) (drop 1 c)) ≡ get_or c 0 0 = length-take-le (get_or c 0 0) (drop 1 c) (omega arith) in
              omega arith
          by_length false e =
              let l : 20 < get_or c 0 0 = leb-false (get_or c 0 0) 20 e in
              let m : take (get_or c 0 0) (drop 1 c) ≡ drop 1 c = take_all (get_or c 0 0) (drop 1 c) (omega arith) in
              let k : length (take (get_or c 0 0) (drop 1 c)) ≡ 20 = ap length m ∙ n in
              omega arith

  pub seed_part : (n k : ℕ) (r : Result (List ℕ) Refusal) → n ≡ get_or cs p 0 → n ≤ 19 → k ≡ n → r ≡ seed_answer (take k (drop (p + 1) cs)) (get_or cs (p + 20) 0) → r ≡ seed_of (take 21 (drop p cs))
  unfolding seed_of pan_of sequence_of
  seed_part n k r e l q f =
      f
      ∙ ap₂ seed_answer
      (sym (part_part cs p 21 1 k h (omega arith)) ∙ ap (λ (m : ℕ). take m (drop 1 (take 21 (drop p cs)))) (q ∙ e ∙ sym count_at))
      (sym (card_at 20 (lit< tt)))

-- a seed comes with no refusal exactly where the card fits
pub fits_of : (c : List ℕ) → is_err (seed_of c) ≡ false → card_fits (pan_of c) (sequence_of c) ≡ true
unfolding seed_of seed_answer
fits_of c e = go (card_fits (pan_of c) (sequence_of c)) e
  where
    go : (t : Bool) → is_err (cond t (Ok (Y (pan_of c) (sequence_of c))) (Err CardNumber)) ≡ false → t ≡ true
    go true e = refl
    go false e = sym e

pub unfit_of : (c : List ℕ) → is_err (seed_of c) ≡ true → card_fits (pan_of c) (sequence_of c) ≡ false
unfolding seed_of seed_answer
unfit_of c e = go (card_fits (pan_of c) (sequence_of c)) e
  where
    go : (t : Bool) → is_err (cond t (Ok (Y (pan_of c) (sequence_of c))) (Err CardNumber)) ≡ true → t ≡ false
    go true e = sym e
    go false e = refl

-- the seed of a card that fits; zeros stand for another's
pub seed_is : (c : List ℕ) → card_fits (pan_of c) (sequence_of c) ≡ true → seed_of c ≡ Ok (Y (pan_of c) (sequence_of c))
unfolding seed_of seed_answer
seed_is c f = simp f

pub seed_or_zeros : (c : List ℕ) → card_fits (pan_of c) (sequence_of c) ≡ true → result_unwrap_or (seed_of c) (replicate 8 0) ≡ Y (pan_of c) (sequence_of c)
seed_or_zeros c f = ap (λ (r : Result (List ℕ) Refusal). result_unwrap_or r (replicate 8 0)) (seed_is c f)

-- i of n cards are looked at
module _ (cs : List ℕ) (n i : ℕ) (h : i < n) where
  next : drop 21 (drop (21 * i) cs) ≡ drop (21 * (i + 1)) cs
  next = let e : 21 * i + 21 ≡ 21 * (i + 1) = omega arith in drop-drop 21 (21 * i) cs ∙ ap (λ (m : ℕ). drop m cs) e

  left : n - i ≡ suc (n - (i + 1))
  left = omega arith

  pub fit_turn : is_err (seed_of (take 21 (drop (21 * i) cs))) ≡ false → all_fit (n - (i + 1)) (drop (21 * (i + 1)) cs) ≡ all_fit (n - i) (drop (21 * i) cs)
  unfolding all_fit
  fit_turn e =
      ap (all_fit (n - (i + 1))) (sym next)
      ∙ ap (λ (t : Bool). t && all_fit (n - (i + 1)) (drop 21 (drop (21 * i) cs))) (sym (fits_of (take 21 (drop (21 * i) cs)) e))
      ∙ ap (λ (k : ℕ). all_fit k (drop (21 * i) cs)) (sym left)

  pub fit_not : is_err (seed_of (take 21 (drop (21 * i) cs))) ≡ true → false ≡ all_fit (n - i) (drop (21 * i) cs)
  unfolding all_fit
  fit_not e =
      ap (λ (t : Bool). t && all_fit (n - (i + 1)) (drop 21 (drop (21 * i) cs))) (sym (unfit_of (take 21 (drop (21 * i) cs)) e))
      ∙ ap (λ (k : ℕ). all_fit k (drop (21 * i) cs)) (sym left)

  -- a key written
  pub key_turn : (k out key : List ℕ) → length out ≡ 32 * n → length key ≡ 32 → key ≡ derived_kept k card_label (result_unwrap_or (seed_of (take 21 (drop (21 * i) cs))) (replicate 8 0))
      → take (32 * (i + 1)) (paste out (32 * i) key 32) ++ keys_by k (n - (i + 1)) (drop (21 * (i + 1)) cs) ≡ take (32 * i) out ++ keys_by k (n - i) (drop (21 * i) cs)
  unfolding keys_by
  key_turn k out key m l e =
      let q : 32 * (i + 1) ≡ 32 * i + 32 = omega arith in
      let rest : List ℕ = keys_by k (n - (i + 1)) (drop 21 (drop (21 * i) cs)) in
      ap₂ (λ (j : ℕ) (x : List ℕ). take j (paste out (32 * i) key 32) ++ keys_by k (n - (i + 1)) x) q (sym next)
      ∙ ap (λ (x : List ℕ). x ++ rest) (take-paste out (32 * i) key 32 (omega arith) (omega arith) ∙ ap (λ (x : List ℕ). take (32 * i) out ++ x) (take_all 32 key (omega arith)))
      ∙ append_assoc (take (32 * i) out) key rest
      ∙ ap (λ (x : List ℕ). take (32 * i) out ++ (x ++ rest)) e
      ∙ ap (λ (j : ℕ). take (32 * i) out ++ keys_by k j (drop (21 * i) cs)) (sym left)

pub fit_end : (cs : List ℕ) (n i : ℕ) → n ≤ i → true ≡ all_fit (n - i) (drop (21 * i) cs)
unfolding all_fit
fit_end cs n i h = let e : 0 ≡ n - i = omega arith in ap (λ (k : ℕ). all_fit k (drop (21 * i) cs)) e

pub key_end : (k cs out : List ℕ) (n i : ℕ) → i ≡ n → length out ≡ 32 * n → out ≡ take (32 * i) out ++ keys_by k (n - i) (drop (21 * i) cs)
unfolding keys_by
key_end k cs out n i e m =
    let z : 0 ≡ n - i = omega arith in
    sym (take_all (32 * i) out (omega arith)) ∙ sym (append-nil (take (32 * i) out)) ∙ ap (λ (j : ℕ). take (32 * i) out ++ keys_by k j (drop (21 * i) cs)) z

-- a key comes with no refusal where the words are 256
pub key_is : (cs : List (List ℕ)) (ws seed : List ℕ) (r : Result (List ℕ) Refusal) (l : List ℕ) → length ws ≡ 256 → length seed ≡ 8 → cs ≡ constants → l ≡ card_label
    → r ≡ derivation_over cs ws l seed → r ≡ Ok (derived_kept ws card_label seed)
unfolding card_label
key_is cs ws seed r l h n d e f =
    f
    ∙ ap₂ (λ (x : List (List ℕ)) (y : List ℕ). derivation_over x ws y seed) d e
    ∙ derivation_over_lem ws card_label seed refl n
    ∙ sym (kept_fits_lem ws card_label seed h)

-- the keys under the kept key are the cards' keys
module _ (key : List ℕ) (h : length key ≡ 32) where
  one : (c : List ℕ) → card_fits (pan_of c) (sequence_of c) ≡ true
      → derived_kept (kept_words key) card_label (result_unwrap_or (seed_of c) (replicate 8 0)) ≡ result_unwrap_or (card_key key (pan_of c) (sequence_of c)) (replicate 32 0)
  one c f =
      ap (derived_kept (kept_words key) card_label) (seed_or_zeros c f)
      ∙ derived_kept_lem key card_label (Y (pan_of c) (sequence_of c)) h
      ∙ sym (ap (λ (r : Result (List ℕ) Refusal). result_unwrap_or r (replicate 32 0)) (card_is key h (pan_of c) (sequence_of c) f))

  pub keys_kept : (n : ℕ) (cs : List ℕ) → all_fit n cs ≡ true → keys_by (kept_words key) n cs ≡ cards_keys key n cs
  unfolding keys_by cards_keys all_fit
  keys_kept zero cs e = refl
  keys_kept (suc n) cs e =
      let b = (and-eq-true_iff (card_fits (pan_of (take 21 cs)) (sequence_of (take 21 cs))) (all_fit n (drop 21 cs))).0 e in
      ap₂ (λ (x y : List ℕ). x ++ y) (one (take 21 cs) b.0) (keys_kept n (drop 21 cs) b.1)

-- what is answered
module _ (key cs lent : List ℕ) where
  refused : lengths_fit key cs lent ≡ false → (1 ≡ cards_number key cs lent) × (lent ≡ cards_after key cs lent)
  unfolding cards_number cards_after
  refused e = (simp e, simp e)

  pub no_key : (length key ≡ 32 → ⊥) → (1 ≡ cards_number key cs lent) × (lent ≡ cards_after key cs lent)
  unfolding lengths_fit key_fits
  no_key h = refused (simp (ne_eqb _ _ h))

  pub no_cards : (length cs % 21 ≡ 0 → ⊥) → (1 ≡ cards_number key cs lent) × (lent ≡ cards_after key cs lent)
  unfolding lengths_fit
  no_cards h = refused (simp (ne_eqb _ _ h, and-false))

  pub no_place : (length lent ≡ 32 * (length cs / 21) → ⊥) → (1 ≡ cards_number key cs lent) × (lent ≡ cards_after key cs lent)
  unfolding lengths_fit
  no_place h = refused (simp (ne_eqb _ _ h, and-false))

  module _ (h : length key ≡ 32) (w : length cs % 21 ≡ 0) (l : length lent ≡ 32 * (length cs / 21)) where
    good : lengths_fit key cs lent ≡ true
    unfolding lengths_fit key_fits
    good = simp (eq-eqb _ _ h, eq-eqb _ _ w, eq-eqb _ _ l)

    pub no_card : all_fit (length cs / 21) cs ≡ false → (2 ≡ cards_number key cs lent) × (lent ≡ cards_after key cs lent)
    unfolding cards_number cards_after
    no_card f = (simp (good, f), simp (good, f))

    pub all_keys : all_fit (length cs / 21) cs ≡ true → (x : List ℕ) → x ≡ keys_by (kept_words key) (length cs / 21) cs → (0 ≡ cards_number key cs lent) × (x ≡ cards_after key cs lent)
    unfolding cards_number cards_after
    all_keys f x e = (simp (good, f), e ∙ keys_kept key h (length cs / 21) cs f ∙ sym (simp (good, f)))
