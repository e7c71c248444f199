-- What the entry points answer, test by test. Assumes nothing.
use mathlib.Core.Path.{◌≡◌, refl, sym, ap, ◌∙◌}
use mathlib.Core.Bool.{Bool, true, false, not, cond, and-true, and-false}
use mathlib.Core.List.{List, ◌++◌}
use Prim.Native.Nat.{ℕ, ◌+◌, ◌-◌, ◌<◌, ◌≤◌}
use borrow.Author.Tests.{eq-eqb, ne_eqb, le-leb, lt-leb, not-true, not-false}
use lib.ListN.{length, take, replicate, length-append}
use lib.Dec.{eqb}
use Rattle.answers.specs.declared.Refusal.{Refusal}
use Rattle.answers.specs.Answers.{exactly}
use Rattle.answers.specs.declared.Refusal.TheVariants.{Input, CardNumber}
use Rattle.std.specs.Prelude.{Result, Ok, Err}
use Rattle.std.specs.Result.{result_unwrap_or}
use Rattle.octets.specs.Lengths.{key_fits}
use Rattle.octets.specs.Numbers.{be_octets, le_octets}
use Rattle.octets.proofs.NumberLaws.{length-be_octets}
use Rattle.gost.specs.Gost.{encipher}
use Rattle.cipher.specs.Answers.{block_fits, block_answer, enciphered}
use Rattle.hash.specs.Hash.{hash256}
use Rattle.derive.specs.Derivation.{derived, card_label}
use Rattle.derive.specs.Kept.{kept_words}
use Rattle.derive.specs.Answers.{seed_fits, card_derivation, derivation_kept}
use Rattle.derive.proofs.Laws.{fits, card_seed, derivation_kept_lem}
use Rattle.keys.specs.CardNumber.{card_fits, Y, packed_y}
use Rattle.keys.specs.Seeds.{session_seed, idn_block}
use Rattle.keys.specs.Answers.{card_answer, card_key, card_key_packed, seed_answer, session_key, script_key, session_key_kept, script_key_kept, counter_key, idn, idn_answer}

module _ (key pan : List ℕ) (q : ℕ) (y : List ℕ) where
  pub card_no_key : (length key ≡ 32 → ⊥) → Err Input ≡ card_answer key pan q y
  unfolding card_answer key_fits
  card_no_key h = simp (ne_eqb _ _ h)

  pub card_no_card : length key ≡ 32 → (t : Bool) → t ≡ card_fits pan q → not t ≡ true → Err CardNumber ≡ card_answer key pan q y
  unfolding card_answer key_fits
  card_no_card h t e n = simp (eq-eqb _ _ h, sym e ∙ not-true t n)

  pub card_yes : length key ≡ 32 → (t : Bool) → t ≡ card_fits pan q → not t ≡ false → length y ≡ 8 → card_derivation key y ≡ card_answer key pan q y
  unfolding card_answer key_fits
  card_yes h t e n l = sym (fits key card_label y h ∙ card_seed key y l) ∙ sym (simp (eq-eqb _ _ h, sym e ∙ not-false t n))

module _ (pan : List ℕ) (q : ℕ) (t : Bool) (e : t ≡ card_fits pan q) where
  pub seed_no : not t ≡ true → Err CardNumber ≡ seed_answer pan q
  unfolding seed_answer
  seed_no n = simp (sym e ∙ not-true t n)

  pub seed_yes : not t ≡ false → (y : List ℕ) → y ≡ Y pan q → Ok y ≡ seed_answer pan q
  unfolding seed_answer
  seed_yes n y f = ap Ok f ∙ sym (simp (sym e ∙ not-false t n))

-- a session key under the kept master key is the session key
module _ (key : List ℕ) where
  pub session_kept : (atc : ℕ) → length key ≡ 32 → session_key_kept (kept_words key) atc ≡ session_key key atc
  unfolding session_key_kept session_key session_seed be_octets le_octets
  session_kept atc h = derivation_kept_lem key card_label (session_seed atc) h ∙ card_seed key (session_seed atc) refl

  pub script_kept : (cryptogram : List ℕ) → length key ≡ 32 → script_key_kept (kept_words key) cryptogram ≡ script_key key cryptogram
  unfolding script_key_kept script_key card_derivation
  script_kept cryptogram h = ap (λ (x : Result (List ℕ) Refusal). cond (seed_fits cryptogram) x (Err Input)) (derivation_kept_lem key card_label cryptogram h)

-- where the cryptogram has the length of a seed, and where not
module _ (ws cryptogram : List ℕ) where
  pub script_no_seed : (q : Refusal) → Err q ≡ exactly 8 cryptogram → Err q ≡ script_key_kept ws cryptogram
  unfolding script_key_kept seed_fits
  script_no_seed q e = go (eqb (length cryptogram) 8) e
    where
      go : (t : Bool) → ◌≡◌ {A = Result (List ℕ) Refusal} (Err q) (cond t (Ok cryptogram) (Err Input))
          → Err q ≡ cond t (derivation_kept ws card_label cryptogram) (Err Input)
      go true e = cc
      go false e = e

  pub script_seed : (s : List ℕ) → Ok s ≡ exactly 8 cryptogram → derivation_kept ws card_label s ≡ script_key_kept ws cryptogram
  unfolding script_key_kept seed_fits
  script_seed s e = go (eqb (length cryptogram) 8) e
    where
      go : (t : Bool) → ◌≡◌ {A = Result (List ℕ) Refusal} (Ok s) (cond t (Ok cryptogram) (Err Input))
          → derivation_kept ws card_label s ≡ cond t (derivation_kept ws card_label cryptogram) (Err Input)
      go true e = cc
      go false e = cc

pub counter_no_key : (key : List ℕ) → (length key ≡ 32 → ⊥) → Err Input ≡ counter_key key
unfolding counter_key key_fits
counter_no_key key h = simp (ne_eqb _ _ h)

pub counter_yes : (key : List ℕ) → length key ≡ 32 → Ok (hash256 key) ≡ counter_key key
unfolding counter_key key_fits
counter_yes key h = simp (eq-eqb _ _ h)

module _ (key : List ℕ) (atc n : ℕ) where
  pub idn_short : n < 2 → Err Input ≡ idn_answer key atc n
  unfolding idn_answer
  idn_short h = simp (lt-leb _ _ h, and-false)

  pub idn_long : 8 < n → Err Input ≡ idn_answer key atc n
  unfolding idn_answer
  idn_long h = simp (lt-leb _ _ h, and-false)

  enciphered_block : enciphered key (idn_block atc) ≡ cond (key_fits key) (Ok (encipher key (idn_block atc))) (Err Input)
  unfolding enciphered block_answer block_fits idn_block be_octets le_octets
  enciphered_block = simp (eq-eqb (length (idn_block atc)) 8 refl, and-true)

  -- for a good length: the refusal of the cipher, or the first of what it gives
  module _ (l : 2 ≤ n) (m : n ≤ 8) where
    idn_long_enough : idn_answer key atc n ≡ cond (key_fits key) (Ok (idn key atc n)) (Err Input)
    unfolding idn_answer
    idn_long_enough = simp (le-leb _ _ l, le-leb _ _ m, and-true)

    pub idn_ok : (b x : List ℕ) → Ok b ≡ enciphered key (idn_block atc) → x ≡ take n b ++ replicate (8 - n) 0 → Ok x ≡ idn_answer key atc n
    unfolding idn
    idn_ok b x e w = go (key_fits key) (e ∙ enciphered_block) ∙ sym idn_long_enough
      where
        go : (t : Bool) → ◌≡◌ {A = Result (List ℕ) Refusal} (Ok b) (cond t (Ok (encipher key (idn_block atc))) (Err Input))
            → Ok x ≡ cond t (Ok (take n (encipher key (idn_block atc)) ++ replicate (8 - n) 0)) (Err Input)
        go true e = let f : b ≡ encipher key (idn_block atc) = cc in ap Ok (w ∙ ap (λ (y : List ℕ). take n y ++ replicate (8 - n) 0) f)
        go false e = cc

    pub idn_err : (q : Refusal) → Err q ≡ enciphered key (idn_block atc) → Err q ≡ idn_answer key atc n
    idn_err q e = go (key_fits key) (e ∙ enciphered_block) ∙ sym idn_long_enough
      where
        go : (t : Bool) → ◌≡◌ {A = Result (List ℕ) Refusal} (Err q) (cond t (Ok (encipher key (idn_block atc))) (Err Input))
            → Err q ≡ cond t (Ok (idn key atc n)) (Err Input)
        go true e = cc
        go false e = e

    -- under a key of 32 octets the enciphered block comes with no refusal
    pub idn_yes : length key ≡ 32 → (r : Result (List ℕ) Refusal) → r ≡ enciphered key (idn_block atc) → (x : List ℕ)
        → x ≡ take n (result_unwrap_or r (replicate 8 0)) ++ replicate (8 - n) 0 → Ok x ≡ idn_answer key atc n
    unfolding key_fits
    idn_yes h r e x w =
        let f : r ≡ Ok (encipher key (idn_block atc)) =
        e ∙ enciphered_block ∙ ap (λ (t : Bool). cond t (Ok (encipher key (idn_block atc))) (Err Input)) (eq-eqb _ _ h) in
        idn_ok (encipher key (idn_block atc)) x (sym f ∙ e) (w ∙ ap (λ (s : Result (List ℕ) Refusal). take n (result_unwrap_or s (replicate 8 0)) ++ replicate (8 - n) 0) f)

-- the keys themselves, where the lengths and the card fit
pub length_seed : (atc : ℕ) → length (session_seed atc) ≡ 8
unfolding session_seed
length_seed atc = length-append (be_octets 2 atc) _ ∙ ap (λ (k : ℕ). k + 6) (length-be_octets 2 atc)

module _ (key : List ℕ) (h : length key ≡ 32) where
  module _ (pan : List ℕ) (q : ℕ) (f : card_fits pan q ≡ true) where
    pub card_is : card_key key pan q ≡ Ok (derived key card_label (Y pan q))
    unfolding card_key card_answer key_fits
    card_is = simp (eq-eqb _ _ h, f)

    pub packed_is : card_key_packed key pan q ≡ Ok (derived key card_label (packed_y pan q))
    unfolding card_key_packed card_answer key_fits
    packed_is = simp (eq-eqb _ _ h, f)

  pub session_is : (atc : ℕ) → session_key key atc ≡ Ok (derived key card_label (session_seed atc))
  unfolding session_key
  session_is atc = sym (fits key card_label (session_seed atc) h ∙ card_seed key (session_seed atc) (length_seed atc))

  pub script_is : (cryptogram : List ℕ) → length cryptogram ≡ 8 → script_key key cryptogram ≡ Ok (derived key card_label cryptogram)
  unfolding script_key
  script_is cryptogram l = sym (fits key card_label cryptogram h ∙ card_seed key cryptogram l)
