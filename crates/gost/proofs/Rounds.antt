-- Rounds in turn, and rounds undone. Assumes nothing.
use Rattle.std.proofs.Common.{◌≡◌, ℕ, ◌+◌, ◌^◌, ◌<◌, List, [], ◌∷◌, ◌++◌, reverse, length, get_or, drop, refl, ap, ◌∙◌, ap₂, append_assoc, add-one, arith, drop-cons}
use mathlib.Core.List.{reverse-cons, reverse-append, reverse-reverse}
use lib.Bits.{xor_lt}
use Rattle.octets.proofs.Xor.{xor_twice}
use Rattle.gost.specs.declared.Halves.{Halves}
use Rattle.gost.specs.Gost.{rows, substituted, shifted, mixed, round, rounds, exchanged, forth, back}
use Rattle.gost.proofs.Rows.{words, looked_up, looked_lt}

-- rounds with xs, and then with ys
pub rounds-append : (xs ys : List ℕ) (s : Halves) → rounds (xs ++ ys) s ≡ rounds ys (rounds xs s)
unfolding rounds
rounds-append [] ys s = refl
rounds-append (x ∷ xs) ys s = rounds-append xs ys (round x s)

-- a turn of the loop over the subkeys
pub rounds_turn : (ks : List ℕ) (i : ℕ) (s : Halves) → i < length ks → rounds (drop i ks) s ≡ rounds (drop (i + 1) ks) (round (get_or ks i 0) s)
unfolding rounds
rounds_turn ks i s h = rw (add-one, drop-cons ks i 0) refl

-- a round is undone by itself, with the halves exchanged
round_back : (k : ℕ) (s : Halves) → round k (exchanged (round k s)) ≡ exchanged s
unfolding round exchanged
round_back k s = ap (λ (x : ℕ). record { n1 = x; n2 = s.n1 }) (xor_twice s.n2 (mixed s.n1 k))

-- the rounds with the subkeys in the other order undo the rounds
pub rounds-back : (ks : List ℕ) (s : Halves) → rounds (reverse ks) (exchanged (rounds ks s)) ≡ exchanged s
unfolding rounds
rounds-back [] s = refl
rounds-back (k ∷ ks) s =
    ap (λ (l : List ℕ). rounds l (exchanged (rounds ks (round k s)))) (reverse-cons k ks)
    ∙ rounds-append (reverse ks) (k ∷ []) (exchanged (rounds ks (round k s)))
    ∙ ap (round k) (rounds-back ks (round k s))
    ∙ round_back k s

pub reverse_forth : (ks : List ℕ) → reverse (forth ks) ≡ back ks
unfolding forth back
reverse_forth ks = simp (reverse-append, reverse-reverse, append_assoc)

pub reverse_back : (ks : List ℕ) → reverse (back ks) ≡ forth ks
unfolding forth back
reverse_back ks = simp (reverse-append, reverse-reverse, append_assoc)

-- ---- the halves are words

pub record Words (s : Halves) : Type 0 where
  pub low : s.n1 < 2 ^ 32
  pub high : s.n2 < 2 ^ 32

shifted_lt : (x : ℕ) → x < 2 ^ 32 → shifted x < 2 ^ 32
unfolding shifted
shifted_lt x h = omega arith

substituted_lt : (x : ℕ) → substituted rows x < 2 ^ 32
substituted_lt x = omega (arith, looked_up x, looked_lt words x)

mixed_lt : (x k : ℕ) → mixed x k < 2 ^ 32
unfolding mixed
mixed_lt x k = shifted_lt _ (substituted_lt _)

round_words : (k : ℕ) (s : Halves) → Words s → Words (round k s)
unfolding round
round_words k s w = record { low = xor_lt 32 s.n2 (mixed s.n1 k) w.high (mixed_lt s.n1 k); high = w.low }

pub rounds-words : (ks : List ℕ) (s : Halves) → Words s → Words (rounds ks s)
unfolding rounds
rounds-words [] s w = w
rounds-words (k ∷ ks) s w = rounds-words ks (round k s) (round_words k s w)

pub exchanged_words : (s : Halves) → Words s → Words (exchanged s)
unfolding exchanged
exchanged_words s w = record { low = w.high; high = w.low }

-- ---- the 32 rounds of a block, eight at a time

pub rounds_up : {r : List ℕ} {a b c d : Halves} (ks : List ℕ) (s : Halves)
    → r ≡ reverse ks
    → a ≡ rounds ks s
    → b ≡ rounds ks a
    → c ≡ rounds ks b
    → d ≡ rounds r c
    → d ≡ rounds (forth ks) s
unfolding forth
rounds_up ks s r a b c d = d ∙ ap₂ rounds r (c ∙ ap (rounds ks) (b ∙ ap (rounds ks) a)) ∙ simp rounds-append

pub rounds_down : {r : List ℕ} {a b c d : Halves} (ks : List ℕ) (s : Halves)
    → r ≡ reverse ks
    → a ≡ rounds ks s
    → b ≡ rounds r a
    → c ≡ rounds r b
    → d ≡ rounds r c
    → d ≡ rounds (back ks) s
unfolding back
rounds_down ks s r a b c d = d ∙ ap₂ rounds r (c ∙ ap₂ rounds r (b ∙ ap₂ rounds r a)) ∙ simp rounds-append
