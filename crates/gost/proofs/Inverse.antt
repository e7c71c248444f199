-- A block enciphered and deciphered, and the other way round, is the block, under every key. Assumes nothing.
use Rattle.std.proofs.Common.{◌≡◌, ℕ, List, reverse, length, sym, refl, ap, ◌∙◌}
use Rattle.octets.specs.Numbers.{Octets}
use Rattle.gost.specs.declared.Halves.{Halves}
use Rattle.gost.specs.Gost.{rounds, exchanged, halves, block, through, forth, back, subkeys, encipher, decipher}
use Rattle.gost.proofs.Rounds.{rounds-back, rounds-words, exchanged_words, reverse_forth, reverse_back}
use Rattle.gost.proofs.Octets.{length-block, halves_block, halves_words, block_halves}

exchanged_twice : (s : Halves) → exchanged (exchanged s) ≡ s
unfolding exchanged
exchanged_twice s = refl

length-through : (ks b : List ℕ) → length (through ks b) ≡ 8
unfolding through
length-through ks b = length-block (exchanged (rounds ks (halves b)))

pub length-encipher : (key b : List ℕ) → length (encipher key b) ≡ 8
unfolding encipher
length-encipher key b = length-through (forth (subkeys 8 key)) b

pub length-decipher : (key b : List ℕ) → length (decipher key b) ≡ 8
unfolding decipher
length-decipher key b = length-through (back (subkeys 8 key)) b

module _ (b : List ℕ) (e : length b ≡ 8) (o : Octets b) where
  -- through the rounds, and through the rounds in the other order
  undone : (xs ys : List ℕ) → reverse xs ≡ ys → through ys (through xs b) ≡ b
  unfolding through
  undone xs ys r =
      let s : Halves = rounds xs (halves b) in
      ap (λ (t : Halves). block (exchanged (rounds ys t)))
      (halves_block (exchanged s) (exchanged_words s (rounds-words xs (halves b) (halves_words b e o))))
      ∙ ap (λ (zs : List ℕ). block (exchanged (rounds zs (exchanged s)))) (sym r)
      ∙ ap (λ (t : Halves). block (exchanged t)) (rounds-back xs (halves b))
      ∙ ap block (exchanged_twice (halves b))
      ∙ block_halves b e o

  pub deciphered_with : (ks : List ℕ) → through (back ks) (through (forth ks) b) ≡ b
  deciphered_with ks = undone (forth ks) (back ks) (reverse_forth ks)

  pub enciphered_with : (ks : List ℕ) → through (forth ks) (through (back ks) b) ≡ b
  enciphered_with ks = undone (back ks) (forth ks) (reverse_back ks)

  pub decipher-encipher : (key : List ℕ) → decipher key (encipher key b) ≡ b
  unfolding decipher encipher
  decipher-encipher key = deciphered_with (subkeys 8 key)

  pub encipher-decipher : (key : List ℕ) → encipher key (decipher key b) ≡ b
  unfolding decipher encipher
  encipher-decipher key = enciphered_with (subkeys 8 key)
