-- Blocks of a message in the code: read as words, put into a buffer, padded. Assumes nothing.
use mathlib.Core.Path.{◌≡◌, refl, sym, ap, ap₂, ◌∙◌}
use mathlib.Core.List.{List, [], ◌∷◌, ◌++◌, append-nil, append_assoc}
use Prim.Native.Nat.{ℕ, suc, ◌+◌, ◌-◌, ◌*◌, ◌<◌, ◌≤◌}
use native.Mathlib.Numerals.{add-one}
use native.Mathlib.Omega.{arith}
use lib.Dec.{lit≤}
use lib.ListN.{length, take, drop, set, get_or, replicate, length-append}
use lib.Seq.{paste, length-take-le, set_at, drop-append-add, take-append_seam, take-suc, take_all}
use Rattle.std.specs.Int.{w64, from_le_bytes}
use Rattle.octets.specs.Numbers.{le, le_octets}
use Rattle.octets.proofs.Parts.{zeros, drop-zeros, part_part, elements, elements_all}
use Rattle.lps.specs.Vectors.{each, words, bytes}
use Rattle.hash.specs.Hash.{padded}
use Rattle.blocks.specs.Parts.{filled}

-- the words of the block from p on
module _ (m : List ℕ) (p : ℕ) (h : p + 64 ≤ length m) where
  word_of : (i : ℕ) → 8 * i + 8 ≤ 64 → le (take 8 (drop (p + 8 * i) m)) ≡ le (take 8 (drop (8 * i) (take 64 (drop p m))))
  word_of i l = ap le (sym (part_part m p 64 (8 * i) 8 h l))

  pub words_at : each (λ i. le (take 8 (drop (p + 8 * i) m))) ≡ words (take 64 (drop p m))
  unfolding words
  words_at =
      λ k.
      word_of 0 (lit≤ tt) k
      ∷ word_of 1 (lit≤ tt) k
      ∷ word_of 2 (lit≤ tt) k
      ∷ word_of 3 (lit≤ tt) k
      ∷ word_of 4 (lit≤ tt) k
      ∷ word_of 5 (lit≤ tt) k
      ∷ word_of 6 (lit≤ tt) k
      ∷ word_of 7 (lit≤ tt) k
      ∷ []

-- the word that std reads of eight bytes
eight : (a b c d e f g h : ℕ) → from_le_bytes w64 (a ∷ b ∷ c ∷ d ∷ e ∷ f ∷ g ∷ h ∷ []) ≡ le (a ∷ b ∷ c ∷ d ∷ e ∷ f ∷ g ∷ h ∷ [])
unfolding le
eight a b c d e f g h = omega arith

pub word_read : (s : List ℕ) → length s ≡ 8 → from_le_bytes w64 s ≡ le s
word_read s n =
    let e : s ≡ elements s 0 0 8 = elements_all s 8 n in
    ap (from_le_bytes w64) e
    ∙ eight (get_or s 0 0) (get_or s 1 0) (get_or s 2 0) (get_or s 3 0) (get_or s 4 0) (get_or s 5 0) (get_or s 6 0) (get_or s 7 0)
    ∙ ap le (sym e)

bytes-append : (v w : List ℕ) → bytes (v ++ w) ≡ bytes v ++ bytes w
unfolding bytes
bytes-append [] w = refl
bytes-append (x ∷ v) w = ap (λ (s : List ℕ). le_octets 8 x ++ s) (bytes-append v w) ∙ sym (append_assoc (le_octets 8 x) (bytes v) (bytes w))

-- a turn of the loop that writes words
pub bytes_turn : (v : List ℕ) (i : ℕ) → i < length v → bytes (take i v) ++ le_octets 8 (get_or v i 0) ≡ bytes (take (i + 1) v)
unfolding bytes
bytes_turn v i h =
    ap (λ (s : List ℕ). bytes (take i v) ++ s) (sym (append-nil (le_octets 8 (get_or v i 0))))
    ∙ sym (ap (λ (j : ℕ). bytes (take j v)) (add-one i) ∙ ap bytes (take-suc v i 0 h) ∙ bytes-append (take i v) (get_or v i 0 ∷ []))

-- the bytes of the upper half of a vector
pub bytes_upper : (v : List ℕ) → length v ≡ 8 → bytes (drop 4 v) ≡ drop 32 (bytes v)
unfolding bytes le_octets
bytes_upper v n =
    let e : v ≡ elements v 0 0 8 = elements_all v 8 n in
    ap (λ (x : List ℕ). bytes (drop 4 x)) e ∙ ap (λ (x : List ℕ). drop 32 (bytes x)) (sym e)

-- a part of a string is put in
pub put_part : (b s : List ℕ) (at n : ℕ) → n ≤ length s → paste b at (take n s) n ≡ paste b at s n
put_part b s at n h =
    ap (λ (x : List ℕ). take at b ++ x ++ drop (at + n) b) (take_all n (take n s) (omega (arith, length-take-le n s h)))

-- bytes put after those that a buffer has
pub put_filled : (t s : List ℕ) (at n : ℕ) → length t ≡ at → at + n ≤ 64 → n ≤ length s → paste (filled 64 t) at s n ≡ filled 64 (t ++ take n s)
unfolding filled
put_filled t s at n e h l =
    let z : List ℕ = replicate (64 - length t) 0 in
    let m : length (t ++ take n s) ≡ at + n = length-append t (take n s) ∙ ap₂ (λ (x y : ℕ). x + y) e (length-take-le n s l) in
    let d : 64 - length t - n ≡ 64 - length (t ++ take n s) = omega arith in
    ap (λ (k : ℕ). take k (t ++ z) ++ take n s ++ drop (k + n) (t ++ z)) (sym e)
    ∙ ap₂ (λ (x y : List ℕ). x ++ take n s ++ y) (take-append_seam t z)
    (drop-append-add t z n ∙ drop-zeros n (64 - length t) ∙ ap (λ (k : ℕ). replicate k 0) d)

pub put_empty : (s : List ℕ) (n : ℕ) → n ≤ 64 → n ≤ length s → paste (zeros 64) 0 s n ≡ filled 64 (take n s)
unfolding filled
put_empty s n h l = put_filled [] s 0 n refl (omega arith) l

-- a full buffer
pub filled-full : (t : List ℕ) → length t ≡ 64 → filled 64 t ≡ t
unfolding filled
filled-full t e =
    let z : 64 - length t ≡ 0 = omega arith in
    ap (λ (k : ℕ). t ++ replicate k 0) z ∙ append-nil t

-- the last block
pub padded_filled : (t : List ℕ) (n : ℕ) → length t ≡ n → n < 64 → set (filled 64 t) n 1 ≡ padded t
unfolding filled padded
padded_filled t n e h =
    let z : 64 - length t ≡ suc (63 - length t) = omega arith in
    ap (λ (k : ℕ). set (t ++ replicate k 0) n 1) z ∙ set_at t 0 (replicate (63 - length t) 0) 1 n e
