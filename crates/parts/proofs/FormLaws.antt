-- A state written and read is the same state. Assumes nothing.
use mathlib.Core.Path.{◌≡◌, refl, sym, ap, ap₂, ◌∙◌}
use mathlib.Core.List.{List, [], ◌∷◌, ◌++◌}
use Prim.Native.Nat.{ℕ, zero, suc, ◌+◌, ◌*◌, ◌%◌, ◌^◌, ◌<◌}
use native.Mathlib.Nat.{mod-eq_of_lt}
use native.Mathlib.Omega.{arith}
use lib.ListN.{length, take, drop, get_or, length-append}
use lib.Seq.{take_at, drop_at, drop-drop, get_or-drop}
use Rattle.octets.specs.Numbers.{Octets, le, le_octets}
use Rattle.octets.proofs.Parts.{Below, elements, elements_all}
use Rattle.octets.proofs.NumberLaws.{length-le_octets, le-le_octets}
use Rattle.lps.specs.Vectors.{words, bytes}
use Rattle.lps.proofs.Bytes.{length-bytes}
use Rattle.hash.specs.declared.State.{State}
use Rattle.derive.specs.declared.Started.{Started}
use Rattle.gost.specs.declared.Halves.{Halves}
use Rattle.gost.specs.Gost.{subkeys, halves, block}
use Rattle.gost.proofs.Octets.{length-block}
use Rattle.gost.proofs.Rounds.{Words}
use Rattle.cipher.specs.declared.Coding.{Coding}
use Rattle.parts.specs.Forms.{hash_in, hash_out, mac_in, mac_out, octets_of, code_in, code_out}
use Rattle.parts.proofs.LayLaws.{Sized, length-hash_out, length-octets_of}
use Rattle.parts.proofs.WordLaws.{Vector, CoreGood}

-- the words of a vector's bytes are the vector
pub words_bytes : (v : List ℕ) → Vector v → words (bytes v) ≡ v
unfolding words bytes le_octets
words_bytes v k =
    let e : v ≡ elements v 0 0 8 = elements_all v 8 k.eight in
    let w : (i : ℕ) → le (le_octets 8 (get_or v i 0)) ≡ get_or v i 0 = λ i. le-le_octets 8 (get_or v i 0) (k.wide i) in
    ap (λ (x : List ℕ). words (bytes x)) e
    ∙ (λ j. w 0 j ∷ w 1 j ∷ w 2 j ∷ w 3 j ∷ w 4 j ∷ w 5 j ∷ w 6 j ∷ w 7 j ∷ [])
    ∙ sym e

-- five parts one after the other: where each stands
module _ (x y z u t : List ℕ) (a b c d : ℕ) (lx : length x ≡ a) (ly : length y ≡ b) (lz : length z ≡ c) (lu : length u ≡ d) where
  all : List ℕ
  all = x ++ (y ++ (z ++ (u ++ t)))

  second : drop a all ≡ y ++ (z ++ (u ++ t))
  unfolding all
  second = drop_at x (y ++ (z ++ (u ++ t))) a lx

  third : drop (a + b) all ≡ z ++ (u ++ t)
  third = sym (drop-drop b a all) ∙ ap (drop b) second ∙ drop_at y (z ++ (u ++ t)) b ly

  fourth : drop (a + b + c) all ≡ u ++ t
  fourth = sym (drop-drop c (a + b) all) ∙ ap (drop c) third ∙ drop_at z (u ++ t) c lz

  fifth : drop (a + b + c + d) all ≡ t
  fifth = sym (drop-drop d (a + b + c) all) ∙ ap (drop d) fourth ∙ drop_at u t d lu

-- ---- a hash

pub record Good (s : State) : Type 0 where
  pub core_good : CoreGood s.core
  pub block : length s.buffer ≡ 64
  pub octets : Octets s.buffer
  pub less : s.fill < 64
  pub most : s.total < 2 ^ 32

pub sized : (s : State) → Good s → Sized s
sized s k =
    record {
      hs = k.core_good.h_good.eight;
      ns = k.core_good.n_good.eight;
      sums = k.core_good.s_good.eight;
      block = k.block;
    }

-- the fill and the total
end_fill : (n k : ℕ) → n < 256 → get_or (n % 256 ∷ le_octets 4 k) 0 0 ≡ n
end_fill n k h = mod-eq_of_lt h

end_total : (n k : ℕ) → k < 2 ^ 32 → le (take 4 (drop 1 (n % 256 ∷ le_octets 4 k))) ≡ k
unfolding le_octets
end_total n k h = le-le_octets 4 k h

length-words : (v : List ℕ) → Vector v → length (bytes v) ≡ 64
length-words v k = length-bytes v ∙ ap (λ (n : ℕ). n * 8) k.eight

pub hash_again : (s : State) → Good s → hash_in (hash_out s) ≡ s
unfolding hash_in hash_out all
hash_again s k =
    let x : List ℕ = bytes s.core.h in
    let y : List ℕ = bytes s.core.n in
    let z : List ℕ = bytes s.core.sigma in
    let u : List ℕ = s.buffer in
    let t : List ℕ = s.fill % 256 ∷ le_octets 4 s.total in
    let g = k.core_good in
    let lx : length x ≡ 64 = length-words s.core.h g.h_good in
    let ly : length y ≡ 64 = length-words s.core.n g.n_good in
    let lz : length z ≡ 64 = length-words s.core.sigma g.s_good in
    let b : List ℕ = x ++ (y ++ (z ++ (u ++ t))) in
    let e5 : drop 256 b ≡ t = fifth x y z u t 64 64 64 64 lx ly lz k.block in
    let h : words (take 64 b) ≡ s.core.h = ap words (take_at x (y ++ (z ++ (u ++ t))) 64 lx) ∙ words_bytes s.core.h g.h_good in
    let n : words (take 64 (drop 64 b)) ≡ s.core.n =
    ap (λ (v : List ℕ). words (take 64 v)) (second x y z u t 64 64 64 64 lx ly lz k.block) ∙ ap words (take_at y (z ++ (u ++ t)) 64 ly) ∙ words_bytes s.core.n g.n_good in
    let m : words (take 64 (drop 128 b)) ≡ s.core.sigma =
    ap (λ (v : List ℕ). words (take 64 v)) (third x y z u t 64 64 64 64 lx ly lz k.block) ∙ ap words (take_at z (u ++ t) 64 lz) ∙ words_bytes s.core.sigma g.s_good in
    let p : take 64 (drop 192 b) ≡ u = ap (take 64) (fourth x y z u t 64 64 64 64 lx ly lz k.block) ∙ take_at u t 64 k.block in
    let f : get_or b 256 0 ≡ s.fill = sym (get_or-drop 256 b 0 0) ∙ ap (λ (v : List ℕ). get_or v 0 0) e5 ∙ end_fill s.fill s.total (omega (arith, k.less)) in
    let q : le (take 4 (drop 257 b)) ≡ s.total =
    ap (λ (v : List ℕ). le (take 4 v)) (sym (drop-drop 1 256 b) ∙ ap (drop 1) e5) ∙ end_total s.fill s.total k.most in
    λ i. record { core = record { h = h i; n = n i; sigma = m i }; buffer = p i; fill = f i; total = q i }

-- ---- HMAC

pub record MacGood (s : Started) : Type 0 where
  pub inner_good : Good s.inner
  pub outer_good : Good s.outer

pub length-mac_out : (s : Started) → MacGood s → length (mac_out s) ≡ 522
unfolding mac_out
length-mac_out s k =
    length-append (hash_out s.inner) (hash_out s.outer)
    ∙ ap₂ (λ (n m : ℕ). n + m) (length-hash_out s.inner (sized s.inner k.inner_good)) (length-hash_out s.outer (sized s.outer k.outer_good))

pub mac_again : (s : Started) → MacGood s → mac_in (mac_out s) ≡ s
unfolding mac_in mac_out
mac_again s k =
    let x : List ℕ = hash_out s.inner in
    let y : List ℕ = hash_out s.outer in
    let l : length x ≡ 261 = length-hash_out s.inner (sized s.inner k.inner_good) in
    ap₂ (λ (u v : State). record { inner = u; outer = v })
    (ap hash_in (take_at x y 261 l) ∙ hash_again s.inner k.inner_good)
    (ap hash_in (drop_at x y 261 l) ∙ hash_again s.outer k.outer_good)

-- ---- a code

pub record CodeGood (s : Coding) : Type 0 where
  pub eight : length s.subkeys ≡ 8
  pub keys : Below (2 ^ 32) s.subkeys
  pub words : Words s.halves
  pub block : length s.buffer ≡ 8
  pub octets : Octets s.buffer
  pub less : s.fill < 8
  pub most : s.total < 2 ^ 32

-- subkeys are those of their octets
pub subkeys_again : (ks : List ℕ) → Below (2 ^ 32) ks → subkeys (length ks) (octets_of ks) ≡ ks
unfolding subkeys octets_of le_octets
subkeys_again [] h = refl
subkeys_again (k ∷ ks) h = ap₂ (λ (x : ℕ) (s : List ℕ). x ∷ s) (le-le_octets 4 k (h zero)) (subkeys_again ks (λ i. h (suc i)))

halves_again : (h : Halves) (t : List ℕ) → Words h → halves (block h ++ t) ≡ h
unfolding halves block le_octets
halves_again h t w = ap₂ (λ (x y : ℕ). record { n1 = x; n2 = y }) (le-le_octets 4 h.n1 w.low) (le-le_octets 4 h.n2 w.high)

pub length-code_out : (s : Coding) → CodeGood s → length (code_out s) ≡ 53
unfolding code_out
length-code_out s k =
    let t : List ℕ = s.fill % 256 ∷ le_octets 4 s.total in
    let m : length t ≡ 5 = ap suc (length-le_octets 4 s.total) in
    length-append (octets_of s.subkeys) (block s.halves ++ (s.buffer ++ t))
    ∙ ap (λ (j : ℕ). length (octets_of s.subkeys) + j)
    (length-append (block s.halves) (s.buffer ++ t) ∙ ap (λ (j : ℕ). length (block s.halves) + j) (length-append s.buffer t))
    ∙ omega (arith, length-octets_of s.subkeys, length-block s.halves, k.eight, k.block)

pub code_again : (s : Coding) → CodeGood s → code_in (code_out s) ≡ s
unfolding code_in code_out all
code_again s k =
    let x : List ℕ = octets_of s.subkeys in
    let y : List ℕ = block s.halves in
    let u : List ℕ = s.buffer in
    let t : List ℕ = s.fill % 256 ∷ le_octets 4 s.total in
    let lx : length x ≡ 32 = length-octets_of s.subkeys ∙ ap (λ (n : ℕ). n * 4) k.eight in
    let ly : length y ≡ 8 = length-block s.halves in
    let b : List ℕ = x ++ (y ++ (u ++ t)) in
    let e5 : drop 48 b ≡ t = fifth x y [] u t 32 8 0 8 lx ly refl k.block in
    let ks : subkeys 8 (take 32 b) ≡ s.subkeys =
    ap (subkeys 8) (take_at x (y ++ (u ++ t)) 32 lx) ∙ ap (λ (n : ℕ). subkeys n x) (sym k.eight) ∙ subkeys_again s.subkeys k.keys in
    let h : halves (drop 32 b) ≡ s.halves = ap halves (second x y [] u t 32 8 0 8 lx ly refl k.block) ∙ halves_again s.halves (u ++ t) k.words in
    let p : take 8 (drop 40 b) ≡ u = ap (take 8) (third x y [] u t 32 8 0 8 lx ly refl k.block) ∙ take_at u t 8 k.block in
    let f : get_or b 48 0 ≡ s.fill = sym (get_or-drop 48 b 0 0) ∙ ap (λ (v : List ℕ). get_or v 0 0) e5 ∙ end_fill s.fill s.total (omega (arith, k.less)) in
    let q : le (take 4 (drop 49 b)) ≡ s.total =
    ap (λ (v : List ℕ). le (take 4 v)) (sym (drop-drop 1 48 b) ∙ ap (drop 1) e5) ∙ end_total s.fill s.total k.most in
    λ i. record { subkeys = ks i; halves = h i; buffer = p i; fill = f i; total = q i }
