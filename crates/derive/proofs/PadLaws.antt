-- The loop that pads a key. Assumes nothing.
use mathlib.Core.Path.{◌≡◌, sym, ap, ap₂, ◌∙◌}
use mathlib.Core.List.{List, ◌++◌, map, map-append}
use Prim.Native.Nat.{ℕ, ◌+◌, ◌-◌, ◌<◌}
use native.Mathlib.Omega.{arith}
use lib.Bits.{bit_xor}
use lib.ListN.{length, take, get_or, set, replicate, length-append, length-map, length-replicate, get_or-append}
use lib.Seq.{paste, take_at}
use Rattle.octets.proofs.Parts.{get_d_map, made_turn}
use Rattle.derive.specs.Hmac.{key_pad, ipad, opad}

module _ (p : ℕ) (key : List ℕ) (e : length key ≡ 32) where
  long : length (key ++ replicate (64 - length key) 0) ≡ 64
  long = length-append key (replicate (64 - length key) 0) ∙ ap₂ (λ (x y : ℕ). x + y) e (length-replicate (64 - length key) 0 ∙ ap (λ (n : ℕ). 64 - n) e)

  length-padded : length (key_pad p key) ≡ 64
  unfolding key_pad
  length-padded = length-map (key ++ replicate (64 - length key) 0) (λ b. bit_xor b p) ∙ long

  pub pad_turn : (i : ℕ) → i < 32 → set (paste (replicate 64 p) 0 (key_pad p key) i) i (bit_xor (get_or key i 0) p) ≡ paste (replicate 64 p) 0 (key_pad p key) (i + 1)
  unfolding key_pad
  pad_turn i h =
      let k : List ℕ = key ++ replicate (64 - length key) 0 in
      let l : length k ≡ 64 = long in
      let d : length (replicate {A = ℕ} 64 p) ≡ 64 = length-replicate 64 p in
      let m : length (map (λ b. bit_xor b p) k) ≡ length k = length-map k (λ b. bit_xor b p) in
      made_turn (replicate 64 p) (key_pad p key) i (bit_xor (get_or key i 0) p) (omega arith) (omega arith)
      (sym (get_d_map (λ b. bit_xor b p) k i (omega arith) ∙ ap (λ (b : ℕ). bit_xor b p) (get_or-append key (replicate (64 - length key) 0) 0 i (omega arith))))

  pub pad_end : paste (replicate 64 p) 0 (key_pad p key) 32 ≡ key_pad p key
  unfolding key_pad
  pad_end =
      let f : ℕ → ℕ = λ b. bit_xor b p in
      let w : key_pad p key ≡ map f key ++ map f (replicate 32 0) =
      ap (λ (n : ℕ). map f (key ++ replicate (64 - n) 0)) e ∙ map-append f key (replicate 32 0) in
      let l : length (map f key) ≡ 32 = length-map key f ∙ e in
      ap (λ (s : List ℕ). take 32 s ++ replicate 32 p) w
      ∙ ap (λ (s : List ℕ). s ++ replicate 32 p) (take_at (map f key) (map f (replicate 32 0)) 32 l)
      ∙ sym w

pub length-ipad : (key : List ℕ) → length key ≡ 32 → length (ipad key) ≡ 64
unfolding ipad
length-ipad key e = length-padded 0x36 key e

pub length-opad : (key : List ℕ) → length key ≡ 32 → length (opad key) ≡ 64
unfolding opad
length-opad key e = length-padded 0x5c key e
