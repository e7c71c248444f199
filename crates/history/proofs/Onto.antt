-- The first block leads the code anywhere: the 16 rounds of a block can be undone, so for every rest and every state there is a first block that
-- reaches it. So the cryptogram is any four octets, written twice, by the terminal's first eight bytes. Assumes nothing.
use Prim.Native.Nat.{ℕ, zero, suc, ◌*◌, ◌/◌}
use native.Mathlib.Omega.{arith}
use mathlib.Core.Path.{◌≡◌, refl, sym, ap, ap₂, ◌∙◌}
use mathlib.Core.List.{List, [], ◌∷◌, ◌++◌, reverse, reverse-reverse}
use lib.Bits.{xor_lt, xor_zero_l}
use lib.Dec.{lit<}
use lib.ListN.{length, take, drop, replicate, length-drop}
use lib.Seq.{length-take-le}
use Rattle.octets.specs.Numbers.{Octets, le_octets, be_octets}
use Rattle.octets.proofs.Xor.{xor_twice}
use Rattle.octets.proofs.NumberLaws.{octets-le_octets, octets-be_octets}
use Rattle.octets.proofs.Parts.{octets_test, octets-take, octets-drop, octets-append}
use Rattle.blocks.specs.Blocks.{taken, absorbed}
use Rattle.gost.specs.declared.Halves.{Halves}
use Rattle.gost.specs.Gost.{rounds, exchanged, halves, block}
use Rattle.gost.proofs.Rounds.{Words, rounds-back, rounds-words, exchanged_words}
use Rattle.gost.proofs.Octets.{length-block, halves_block, halves_words}
use Rattle.cipher.specs.Code.{added, code_step, start, state, code_of}
use Rattle.cipher.proofs.CodeLaws.{code_continues}
use Rattle.cryptogram.specs.declared.Kind.{Kind}
use Rattle.cryptogram.specs.declared.Kind.TheVariants.{Arqc, Tc, Aac}
use Rattle.cryptogram.specs.Data.{width, widths, fields, row, place, counter_place, issuer_place, kind_place, kind_bits, marked, card_data}
use Rattle.cryptogram.specs.Cryptogram.{twice, double_code, string, cryptogram_of}
use Rattle.history.specs.Demand2.{CryptogramOnto}

module _ (ks : List ℕ) where
  -- the state ahead of the 16 rounds
  unfoldable pub undone : Halves → Halves
  undone s = exchanged (rounds (reverse (ks ++ ks)) (exchanged s))

  redone : (s : Halves) → rounds (ks ++ ks) (undone s) ≡ s
  unfolding undone exchanged
  redone s =
      ap (λ (l : List ℕ). rounds l (exchanged (rounds (reverse (ks ++ ks)) (exchanged s)))) (sym (reverse-reverse (ks ++ ks)))
      ∙ rounds-back (reverse (ks ++ ks)) (exchanged s)

  undone_words : (s : Halves) → Words s → Words (undone s)
  unfolding undone
  undone_words s w = exchanged_words _ (rounds-words (reverse (ks ++ ks)) _ (exchanged_words s w))

  -- the state ahead of a block, and of some blocks
  unfoldable pub ahead : Halves → List ℕ → Halves
  ahead s b = added (undone s) (halves b)

  step_ahead : (s : Halves) (b : List ℕ) → code_step ks (ahead s b) b ≡ s
  unfolding ahead code_step added
  step_ahead s b =
      ap₂ (λ (x y : ℕ). rounds (ks ++ ks) (record { n1 = x; n2 = y })) (xor_twice (undone s).n1 (halves b).n1) (xor_twice (undone s).n2 (halves b).n2)
      ∙ redone s

  ahead_words : (s : Halves) (b : List ℕ) → Words s → Words (halves b) → Words (ahead s b)
  unfolding ahead added
  ahead_words s b w v =
      let u = undone_words s w in
      record { low = xor_lt 32 _ _ u.low v.low; high = xor_lt 32 _ _ u.high v.high }

  unfoldable pub backwards : ℕ → Halves → List ℕ → Halves
  backwards zero s m = s
  backwards (suc n) s m = ahead (backwards n s (drop 8 m)) (take 8 m)

  forwards : (n : ℕ) (s : Halves) (m : List ℕ) → taken 8 (code_step ks) n (backwards n s m) m ≡ s
  unfolding taken backwards
  forwards zero s m = refl
  forwards (suc n) s m = ap (λ (a : Halves). taken 8 (code_step ks) n a (drop 8 m)) (step_ahead (backwards n s (drop 8 m)) (take 8 m)) ∙ forwards n s (drop 8 m)

  backwards_words : (n : ℕ) (s : Halves) (m : List ℕ) → length m ≡ n * 8 → Octets m → Words s → Words (backwards n s m)
  unfolding backwards
  backwards_words zero s m e o w = w
  backwards_words (suc n) s m e o w =
      let l : length (drop 8 m) ≡ n * 8 = length-drop 8 m ∙ omega arith in
      ahead_words _ (take 8 m) (backwards_words n s (drop 8 m) l (octets-drop 8 m o) w) (halves_words (take 8 m) (length-take-le 8 m (omega arith)) (octets-take 8 m o))

  -- the first block
  abbrev leading : ℕ → Halves → List ℕ → List ℕ
  leading n s m = block (undone (backwards n s m))

  one_block : (x : Halves) → state ks (block x) ≡ code_step ks start (block x)
  unfolding state absorbed taken block le_octets
  one_block x = refl

  from_zeros : (x : Halves) → added start x ≡ x
  unfolding added start
  from_zeros x = ap₂ (λ (a b : ℕ). record { n1 = a; n2 = b }) (xor_zero_l x.n1) (xor_zero_l x.n2)

  first_state : (x : Halves) → Words x → state ks (block (undone x)) ≡ x
  unfolding code_step
  first_state x w =
      one_block (undone x)
      ∙ ap (λ (y : Halves). rounds (ks ++ ks) (added start y)) (halves_block (undone x) (undone_words x w))
      ∙ ap (rounds (ks ++ ks)) (from_zeros (undone x))
      ∙ redone x

  pub code_onto : (n : ℕ) (s : Halves) (m : List ℕ) → length m ≡ n * 8 → Octets m → Words s → state ks (leading n s m ++ m) ≡ s
  unfolding absorbed
  code_onto n s m e o w =
      let q : length m / 8 ≡ n = omega arith in
      code_continues ks 1 (leading n s m) m (length-block _)
      ∙ ap (λ (a : Halves). absorbed 8 (code_step ks) a m) (first_state (backwards n s m) (backwards_words n s m e o w))
      ∙ ap (λ (k : ℕ). taken 8 (code_step ks) k (backwards n s m) m) q
      ∙ forwards n s m

-- of the string under a cryptogram, the first eight octets are the terminal's
abbrev end : List ℕ
end = replicate 28 0 ++ (0x80 ∷ replicate 6 0)

abbrev bits : Kind → List ℕ
bits kind = 0 ∷ 0 ∷ 0 ∷ marked kind 0 ∷ []

abbrev bare : Kind → ℕ → List ℕ
bare kind atc = replicate 23 0 ++ (be_octets 2 atc ++ (bits kind ++ end))

bits_octets : (k : Kind) → Octets (bits k)
unfolding marked kind_bits
bits_octets Arqc = octets_test (bits Arqc) tt
bits_octets Tc = octets_test (bits Tc) tt
bits_octets Aac = octets_test (bits Aac) tt

bare_octets : (kind : Kind) (atc : ℕ) → Octets (bare kind atc)
bare_octets kind atc =
    octets-append (replicate 23 0) (be_octets 2 atc ++ (bits kind ++ end)) (octets_test (replicate 23 0) tt)
    (octets-append (be_octets 2 atc) (bits kind ++ end) (octets-be_octets 2 atc) (octets-append (bits kind) end (bits_octets kind) (octets_test end tt)))

bare_length : (kind : Kind) (atc : ℕ) → length (bare kind atc) ≡ 8 * 8
unfolding be_octets le_octets
bare_length kind atc = refl

bare_string : (kind : Kind) (atc : ℕ) (x : Halves) → string kind atc (block x ++ replicate 57 0) ≡ block x ++ bare kind atc
unfolding string card_data be_octets le_octets kind_place issuer_place counter_place place row fields widths width block marked
bare_string kind atc x = refl

block_octets : (x : Halves) → Octets (block x ++ replicate 57 0)
unfolding block
block_octets x =
    octets-append (le_octets 4 x.n1 ++ le_octets 4 x.n2) (replicate 57 0)
    (octets-append (le_octets 4 x.n1) (le_octets 4 x.n2) (octets-le_octets 4 x.n1) (octets-le_octets 4 x.n2)) (octets_test (replicate 57 0) tt)

block_long : (x : Halves) → length (block x ++ replicate 57 0) ≡ 65
unfolding block le_octets
block_long x = refl

pub cryptogram_onto : CryptogramOnto
unfolding cryptogram_of double_code code_of
cryptogram_onto ks kind atc w h =
    let s : Halves = record { n1 = w; n2 = 0 } in
    let x : Halves = undone ks (backwards ks 8 s (bare kind atc)) in
    record {
      its_data = block x ++ replicate 57 0;
      octets = block_octets x;
      data_length_lem = block_long x;
      gives =
          ap (λ (m : List ℕ). twice (le_octets 4 (state ks m).n1)) (bare_string kind atc x)
          ∙ ap (λ (y : Halves). twice (le_octets 4 y.n1)) (code_onto ks 8 s (bare kind atc) (bare_length kind atc) (bare_octets kind atc) (record { low = h; high = lit< tt }));
    }
