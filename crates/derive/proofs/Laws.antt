-- A started key gives what the key gives; and what the entry points answer, test by test. Assumes nothing.
use mathlib.Core.Path.{◌≡◌, refl, sym, ap, ap₂, ◌∙◌}
use mathlib.Core.Bool.{Bool, true, false, cond}
use mathlib.Core.List.{List, [], ◌∷◌, ◌++◌, append-nil}
use Prim.Native.Nat.{ℕ, suc, ◌+◌, ◌-◌, ◌*◌}
use native.Mathlib.Omega.{arith}
use borrow.Author.Tests.{eq-eqb, ne_eqb, eqb-true, eqb-false}
use lib.Dec.{lit≤, eqb}
use lib.ListN.{length, take, drop, replicate, length-append, length-drop}
use lib.Seq.{take_at, drop_at, take_all}
use Rattle.std.specs.Prelude.{Result, Ok, Err}
use Rattle.std.specs.Result.{IsErrAnd}
use Rattle.std.proofs.lemmas.Result.{err_from_is_err_and}
use Rattle.answers.specs.declared.Refusal.{Refusal}
use Rattle.answers.specs.declared.Refusal.TheVariants.{Input}
use Rattle.answers.specs.Answers.{exactly}
use Rattle.octets.proofs.Parts.{zeros, elements, elements_all}
use Rattle.rounds.specs.Rounds.{constants}
use Rattle.rounds.specs.Lent.{laid_words}
use Rattle.rounds.proofs.LentLaws.{laid_zeros}
use Rattle.hash.specs.declared.State.{State}
use Rattle.hash.specs.Hash.{hash256}
use Rattle.hash.specs.States.{begun, poured_into, ended}
use Rattle.hash.specs.Ahead.{ahead_of, ended_ahead, last_block, ended_block}
use Rattle.hash.proofs.Laws.{poured_on, ended_poured, length-hash256}
use Rattle.hash.proofs.AheadLaws.{length-ahead, eights_poured, ended_ahead_lem, poured_block, length-block, ended_block_lem}
use Rattle.derive.specs.Kept.{kept_words, kept_fits, derived_kept, derived_over}
use Rattle.derive.proofs.PadLaws.{length-ipad, length-opad}
use Rattle.derive.specs.Hmac.{ipad, opad, hmac}
use Rattle.derive.specs.Derivation.{string, derived, card_label}
use Rattle.derive.specs.Started.{started, hmac_with}
use Rattle.octets.specs.Lengths.{key_fits}
use Rattle.derive.specs.Answers.{seed_fits, maced, derivation, card_derivation, derivation_kept, derivation_over, key_of}

two_parts : (x y : List ℕ) → ended (poured_into (poured_into begun x) y) ≡ hash256 (x ++ y)
two_parts x y = ap ended (poured_on begun x y) ∙ ended_poured (x ++ y)

-- the key is paid for once, and every message gets its code
pub hmac_started : (key m : List ℕ) → hmac_with (started key) m ≡ hmac key m
unfolding hmac_with started hmac
hmac_started key m =
    ap (λ (x : List ℕ). ended (poured_into (poured_into begun (opad key)) x)) (two_parts (ipad key) m) ∙ two_parts (opad key) (hash256 (ipad key ++ m))

-- a derived key has 32 bytes
pub length-derived : (key label seed : List ℕ) → length (derived key label seed) ≡ 32
unfolding derived hmac
length-derived key label seed = length-hash256 _

-- the string poured in five parts
pub derived_parts : (key label seed : List ℕ)
    → ended (poured_into (started key).outer (ended (poured_into (poured_into (poured_into (poured_into (poured_into (started key).inner (0x01 ∷ [])) label) (0x00 ∷ [])) seed) (0x01 ∷ 0x00 ∷ []))))
    ≡ derived key label seed
unfolding derived string hmac_with
derived_parts key label seed =
    let i : State = (started key).inner in
    let end : List ℕ = 0x01 ∷ 0x00 ∷ [] in
    let all =
    poured_on (poured_into (poured_into (poured_into i (0x01 ∷ [])) label) (0x00 ∷ [])) seed end
    ∙ poured_on (poured_into (poured_into i (0x01 ∷ [])) label) (0x00 ∷ []) (seed ++ end)
    ∙ poured_on (poured_into i (0x01 ∷ [])) label (0x00 ∷ (seed ++ end))
    ∙ poured_on i (0x01 ∷ []) (label ++ (0x00 ∷ (seed ++ end))) in
    ap (λ (s : State). ended (poured_into (started key).outer (ended s))) all ∙ hmac_started key (string label seed)

-- a key kept: the words of the inner hash, and those of the outer
module _ (key : List ℕ) where
  abbrev inner : List ℕ
  inner = ahead_of (started key).inner.core

  abbrev outer : List ℕ
  outer = ahead_of (started key).outer.core

  length_inner : length inner ≡ 128
  unfolding started
  length_inner = length-ahead (poured_into begun (ipad key)).core (eights_poured (ipad key))

  length-outer : length outer ≡ 128
  unfolding started
  length-outer = length-ahead (poured_into begun (opad key)).core (eights_poured (opad key))

  pub length-kept : length (kept_words key) ≡ 256
  unfolding kept_words
  length-kept = length-append inner outer ∙ ap₂ (λ (x y : ℕ). x + y) length_inner length-outer

  pub kept_laid : (a b x y : List ℕ) → a ≡ inner → b ≡ outer → x ≡ laid_words (zeros 256) 0 a → y ≡ laid_words x 128 b → y ≡ kept_words key
  unfolding kept_words
  kept_laid a b x y ea eb ex ey =
      ey
      ∙ ap₂ (λ (v w : List ℕ). laid_words v 128 w) (ex ∙ ap (laid_words (zeros 256) 0) ea ∙ laid_zeros [] inner 0 128 256 refl length_inner (lit≤ tt)) eb
      ∙ laid_zeros inner outer 128 128 128 length_inner length-outer (lit≤ tt)
      ∙ append-nil (inner ++ outer)

  -- it gives what the key gives
  pub derived_kept_lem : (label seed : List ℕ) → length key ≡ 32 → derived_kept (kept_words key) label seed ≡ derived key label seed
  unfolding derived_kept kept_words started derived hmac
  derived_kept_lem label seed e =
      let i : State = poured_into begun (ipad key) in
      let o : State = poured_into begun (opad key) in
      let m : List ℕ = string label seed in
      ap₂ (λ (x y : List ℕ). ended_ahead y (ended_ahead x m)) (take_at inner outer 128 length_inner) (drop_at inner outer 128 length_inner)
      ∙ ended_ahead_lem o.core (eights_poured (opad key)) (ended_ahead (ahead_of i.core) m)
      ∙ ap₂ (λ (s : State) (x : List ℕ). ended (poured_into s x)) (poured_block (opad key) (length-opad key e))
      (ended_ahead_lem i.core (eights_poured (ipad key)) m
      ∙ ap (λ (s : State). ended (poured_into s m)) (poured_block (ipad key) (length-ipad key e))
      ∙ two_parts (ipad key) m)
      ∙ two_parts (opad key) (hash256 (ipad key ++ m))

-- the string as the code has it
pub string_made : (label seed : List ℕ) → length label ≡ 4 → length seed ≡ 8
    → 0x01 ∷ elements label 0 0 4 ++ 0x00 ∷ elements seed 0 0 8 ++ 0x01 ∷ 0x00 ∷ [] ≡ string label seed
unfolding string
string_made label seed h l = ap₂ (λ (x y : List ℕ). 0x01 ∷ (x ++ 0x00 ∷ (y ++ 0x01 ∷ 0x00 ∷ []))) (sym (elements_all label 4 h)) (sym (elements_all seed 8 l))

-- what is lent has the length asked for, or the caller's `?` answers 1
pub exact : (n : ℕ) (l x : List ℕ) {r : Result (List ℕ) Refusal} → r ≡ exactly n l → r ≡ Ok x → (length l ≡ n) × (x ≡ l)
exact n l x e f = go (eqb (length l) n) refl (sym f ∙ e)
  where
    go : (t : Bool) → eqb (length l) n ≡ t → Ok x ≡ cond {A = Result (List ℕ) Refusal} t (Ok l) (Err Input) → (length l ≡ n) × (x ≡ l)
    go true f h = (eqb-true (length l) n f, cc)
    go false f h = absurd cc

pub not_exact : (n : ℕ) (l : List ℕ) (q : Refusal) {r : Result (List ℕ) Refusal} → r ≡ exactly n l → r ≡ Err q
    → {B : Type 0} (s : Result B Refusal) → IsErrAnd s (λ e. e ≡ q) → (length l ≡ n → ⊥) × (s ≡ Err Input)
not_exact n l q e f {B} s h = go (eqb (length l) n) refl (sym f ∙ e)
  where
    go : (t : Bool) → eqb (length l) n ≡ t → Err q ≡ cond {A = Result (List ℕ) Refusal} t (Ok l) (Err Input) → (length l ≡ n → ⊥) × (s ≡ Err Input)
    go true f h = absurd cc
    go false f i = (eqb-false (length l) n f, (let p = err_from_is_err_and s h in let k : q ≡ Input = cc in p.1 ∙ ap Err (p.2 ∙ k)))

module _ (key m : List ℕ) where
  pub hmac_no_key : (length key ≡ 32 → ⊥) → Err Input ≡ maced key m
  unfolding maced key_fits
  hmac_no_key h = simp (ne_eqb _ _ h)

  pub hmac_fits : length key ≡ 32 → Ok (hmac key m) ≡ maced key m
  unfolding maced key_fits
  hmac_fits h = simp (eq-eqb _ _ h)

module _ (key label seed : List ℕ) where
  pub no_key_lem : (length key ≡ 32 → ⊥) → Err Input ≡ derivation key label seed
  unfolding derivation key_fits
  no_key_lem h = simp (ne_eqb _ _ h)

  pub fits : length key ≡ 32 → Ok (derived key label seed) ≡ derivation key label seed
  unfolding derivation key_fits
  fits h = simp (eq-eqb _ _ h)

  -- the derivation is the HMAC of the string
  pub derivation_maced : maced key (string label seed) ≡ derivation key label seed
  unfolding maced derivation derived
  derivation_maced = refl

  -- and under the kept key it is the same
  pub derivation_kept_lem : length key ≡ 32 → derivation_kept (kept_words key) label seed ≡ derivation key label seed
  unfolding derivation_kept kept_fits
  derivation_kept_lem h = simp (eq-eqb _ _ (length-kept key)) (ap Ok (derived_kept_lem key label seed h) ∙ fits h)

module _ (key seed : List ℕ) where
  pub card_no_seed : (length seed ≡ 8 → ⊥) → Err Input ≡ card_derivation key seed
  unfolding card_derivation seed_fits
  card_no_seed h = simp (ne_eqb _ _ h)

  pub card_seed : length seed ≡ 8 → derivation key card_label seed ≡ card_derivation key seed
  unfolding card_derivation seed_fits
  card_seed h = simp (eq-eqb _ _ h)

module _ (ws label seed : List ℕ) where
  pub kept_no_words : (length ws ≡ 256 → ⊥) → Err Input ≡ derivation_kept ws label seed
  unfolding derivation_kept kept_fits
  kept_no_words h = simp (ne_eqb _ _ h)

  pub kept_fits_lem : length ws ≡ 256 → Ok (derived_kept ws label seed) ≡ derivation_kept ws label seed
  unfolding derivation_kept kept_fits
  kept_fits_lem h = simp (eq-eqb _ _ h)

  -- with the constants of the RFC, by last blocks
  module _ (h : length label ≡ 4) (l : length seed ≡ 8) where
    length-string : length (string label seed) ≡ 16
    unfolding string
    length-string =
        let e : length (seed ++ 0x01 ∷ 0x00 ∷ []) ≡ length seed + 2 = length-append seed (0x01 ∷ 0x00 ∷ []) in
        let f : length (label ++ 0x00 ∷ (seed ++ 0x01 ∷ 0x00 ∷ [])) ≡ length label + suc (length (seed ++ 0x01 ∷ 0x00 ∷ [])) =
        length-append label (0x00 ∷ (seed ++ 0x01 ∷ 0x00 ∷ [])) in
        omega arith

    derived_over_lem : derived_over constants ws label seed ≡ derived_kept ws label seed
    unfolding derived_over derived_kept
    derived_over_lem =
        let m : List ℕ = string label seed in
        let n : length m ≡ 16 = length-string in
        let b : 128 ≡ 8 * length m = omega arith in
        let x : List ℕ = ended_block constants (take 128 ws) 128 (last_block m) in
        let k : length x ≡ 32 = length-block constants (take 128 ws) 128 (last_block m) in
        let d : 256 ≡ 8 * length x = omega arith in
        ap (λ (i : ℕ). ended_block constants (drop 128 ws) i (last_block x)) d
        ∙ ended_block_lem (drop 128 ws) x (omega arith)
        ∙ ap (ended_ahead (drop 128 ws))
        (ap (λ (i : ℕ). ended_block constants (take 128 ws) i (last_block m)) b ∙ ended_block_lem (take 128 ws) m (omega arith))

    pub derivation_over_lem : derivation_over constants ws label seed ≡ derivation_kept ws label seed
    unfolding derivation_over derivation_kept
    derivation_over_lem = ap (λ (x : List ℕ). cond (kept_fits ws) (Ok x) (Err Input)) derived_over_lem

module _ (cs : List (List ℕ)) (ws label seed : List ℕ) where
  pub over_no_words : (length ws ≡ 256 → ⊥) → Err Input ≡ derivation_over cs ws label seed
  unfolding derivation_over kept_fits
  over_no_words h = simp (ne_eqb _ _ h)

  -- by the halves that the code lends
  pub over_lent : length ws ≡ 256 → (m x y : List ℕ) → m ≡ string label seed → x ≡ ended_block cs (take 128 ws) 128 (last_block m)
      → y ≡ ended_block cs (take (length ws - 128) (drop 128 ws)) 256 (last_block x) → Ok y ≡ derivation_over cs ws label seed
  unfolding derivation_over kept_fits derived_over
  over_lent h m x y d e f =
      let n : length (drop 128 ws) ≡ 128 = length-drop 128 ws ∙ omega arith in
      simp (eq-eqb _ _ h)
      (ap Ok
      (f
      ∙ ap₂ (λ (a b : List ℕ). ended_block cs a 256 (last_block b)) (take_all (length ws - 128) (drop 128 ws) (omega arith))
      (e ∙ ap (λ (s : List ℕ). ended_block cs (take 128 ws) 128 (last_block s)) d)))

module _ (key : List ℕ) where
  pub key_of_none : (length key ≡ 32 → ⊥) → replicate 32 0 ≡ key_of key
  unfolding key_of key_fits
  key_of_none h = simp (ne_eqb _ _ h)

  pub key_of_fits : length key ≡ 32 → key_of key ≡ key
  unfolding key_of key_fits
  key_of_fits h = simp (eq-eqb _ _ h)
