-- Bytes written one after the other are written at once. Assumes nothing.
use mathlib.Core.Path.{◌≡◌, refl, sym, ap, ap₂, ◌∙◌}
use mathlib.Core.List.{List, [], ◌∷◌, ◌++◌, append_assoc, append-nil}
use Prim.Native.Nat.{ℕ, zero, suc, ◌+◌, ◌-◌, ◌*◌, ◌%◌, ◌<◌, ◌≤◌}
use native.Mathlib.Omega.{arith}
use native.Mathlib.Numerals.{add-one}
use native.Mathlib.Nat.{not-suc-le-zero, le_of_suc-le-suc}
use Rattle.std.specs.Int.{w32, from_le_bytes}
use lib.ListN.{length, take, drop, get_or, length-append, length-drop}
use lib.Seq.{paste, take_all, length-take-le, take-paste, drop-paste, drop-drop}
use Rattle.octets.specs.Numbers.{le, le_octets}
use Rattle.octets.proofs.Parts.{made_end, elements, elements_all}
use Rattle.octets.proofs.NumberLaws.{length-le_octets}
use Rattle.lps.specs.Vectors.{words, bytes}
use Rattle.lps.proofs.Bytes.{length-bytes}
use Rattle.gost.proofs.Octets.{length-block}
use Rattle.gost.specs.Gost.{subkeys, halves, block}
use Rattle.gost.specs.declared.Halves.{Halves}
use Rattle.hash.specs.declared.State.{State}
use Rattle.hash.specs.declared.Core.{Core}
use Rattle.derive.specs.declared.Started.{Started}
use Rattle.cipher.specs.declared.Coding.{Coding}
use Rattle.parts.specs.Forms.{hash_in, hash_out, mac_in, mac_out, code_in, code_out, octets_of}

-- x of n bytes from p on, and then y of m bytes after it
pub laid_then : (b : List ℕ) {b1 b2 : List ℕ} (x y : List ℕ) (p n m q k : ℕ) → length x ≡ n → length y ≡ m → q ≡ p + n → k ≡ n + m → p + k ≤ length b
    → b1 ≡ paste b p x n → b2 ≡ paste b1 q y m → b2 ≡ paste b p (x ++ y) k
laid_then b {b1} {b2} x y p n m q k hx hy hq hk h e1 e2 =
    let l : length (x ++ y) ≡ k = length-append x y ∙ omega arith in
    let t : take (p + n) (paste b p x n) ≡ take p b ++ x = take-paste b p x n (omega arith) (omega arith) ∙ ap (λ s. take p b ++ s) (take_all n x (omega arith)) in
    let d : drop (p + n + m) (paste b p x n) ≡ drop (p + n + m) b =
    sym (drop-drop m (p + n) (paste b p x n)) ∙ ap (drop m) (drop-paste b p x n (omega arith) (omega arith)) ∙ drop-drop m (p + n) b in
    let a : p + n + m ≡ p + k = omega arith in
    e2
    ∙ ap₂ (λ (s : List ℕ) (j : ℕ). paste s j y m) e1 hq
    ∙ ap₂ (λ (s u : List ℕ). s ++ take m y ++ u) t d
    ∙ ap (λ (s : List ℕ). take p b ++ x ++ s ++ drop (p + n + m) b) (take_all m y (omega arith))
    ∙ ap₂ (λ (s : List ℕ) (j : ℕ). s ++ drop j b) (append_assoc (take p b) x y) a
    ∙ ap (λ (s : List ℕ). take p b ++ s ++ drop (p + k) b) (sym (take_all k (x ++ y) (omega arith)))

-- what was written by its whole length
pub laid_length : (b : List ℕ) {b1 : List ℕ} (x : List ℕ) (p n : ℕ) → length x ≡ n → b1 ≡ paste b p x (length x) → b1 ≡ paste b p x n
laid_length b {b1} x p n e h = h ∙ ap (paste b p x) e

-- all of b
pub laid_all : (b : List ℕ) {b1 : List ℕ} (x : List ℕ) (n : ℕ) → length b ≡ n → length x ≡ n → b1 ≡ paste b 0 x n → b1 ≡ x
laid_all b {b1} x n hb hx e = e ∙ made_end b x n hb hx

-- the word that std reads of four bytes
four : (a b c d : ℕ) → from_le_bytes w32 (a ∷ b ∷ c ∷ d ∷ []) ≡ le (a ∷ b ∷ c ∷ d ∷ [])
unfolding le
four a b c d = omega arith

pub word_read : (s : List ℕ) → length s ≡ 4 → from_le_bytes w32 s ≡ le s
word_read s n =
    let e : s ≡ elements s 0 0 4 = elements_all s 4 n in
    ap (from_le_bytes w32) e ∙ four (get_or s 0 0) (get_or s 1 0) (get_or s 2 0) (get_or s 3 0) ∙ ap le (sym e)

-- what a hash is read from
pub hash_read : (b : List ℕ) {x y z h n s buffer : List ℕ} {fill total : ℕ}
    → x ≡ take 64 (drop 0 b) → h ≡ words x → y ≡ take 64 (drop 64 b) → n ≡ words y → z ≡ take 64 (drop 128 b) → s ≡ words z
    → buffer ≡ take 64 (drop 192 b) → fill ≡ get_or b 256 0 → total ≡ le (take 4 (drop 257 b))
    → ◌≡◌ {A = State} (record { core = record { h = h; n = n; sigma = s }; buffer = buffer; fill = fill; total = total }) (hash_in b)
unfolding hash_in
hash_read b x h y n z s f g t i =
    record {
      core = record { h = (h ∙ ap words x) i; n = (n ∙ ap words y) i; sigma = (s ∙ ap words z) i };
      buffer = f i;
      fill = g i;
      total = t i;
    }

-- and an HMAC
pub mac_read : (b : List ℕ) {x y : State} → x ≡ hash_in (take 261 b) → y ≡ hash_in (take (length b - 261) (drop 261 b))
    → ◌≡◌ {A = Started} (record { inner = x; outer = y }) (mac_in b)
unfolding mac_in
mac_read b x y =
    let e : take (length b - 261) (drop 261 b) ≡ drop 261 b = take_all (length b - 261) (drop 261 b) (simp length-drop (omega arith)) in
    ap₂ (λ (u v : State). record { inner = u; outer = v }) x (y ∙ ap hash_in e)

-- the fill and the total
pub end_list : (f n : ℕ) (t : List ℕ) → t ≡ le_octets 4 n → f % 256 ∷ get_or t 0 0 ∷ get_or t 1 0 ∷ get_or t 2 0 ∷ get_or t 3 0 ∷ [] ≡ f % 256 ∷ le_octets 4 n
unfolding le_octets
end_list f n t e = ap (λ (s : List ℕ). f % 256 ∷ get_or s 0 0 ∷ get_or s 1 0 ∷ get_or s 2 0 ∷ get_or s 3 0 ∷ []) e

-- the halves
pub halves_list : (h : Halves) (x y : List ℕ) → x ≡ le_octets 4 h.n1 → y ≡ le_octets 4 h.n2
    → get_or x 0 0 ∷ get_or x 1 0 ∷ get_or x 2 0 ∷ get_or x 3 0 ∷ get_or y 0 0 ∷ get_or y 1 0 ∷ get_or y 2 0 ∷ get_or y 3 0 ∷ [] ≡ block h
unfolding block le_octets
halves_list h x y ex ey =
    ap₂ (λ (s t : List ℕ). get_or s 0 0 ∷ get_or s 1 0 ∷ get_or s 2 0 ∷ get_or s 3 0 ∷ get_or t 0 0 ∷ get_or t 1 0 ∷ get_or t 2 0 ∷ get_or t 3 0 ∷ []) ex ey

-- the subkeys, one more
more_octets : (ks : List ℕ) (i : ℕ) → i < length ks → octets_of (take i ks) ++ le_octets 4 (get_or ks i 0) ≡ octets_of (take (suc i) ks)
unfolding octets_of
more_octets [] i h = absurd (not-suc-le-zero h)
more_octets (k ∷ ks) zero h = sym (append-nil (le_octets 4 k))
more_octets (k ∷ ks) (suc i) h =
    append_assoc (le_octets 4 k) (octets_of (take i ks)) (le_octets 4 (get_or ks i 0))
    ∙ ap (λ (s : List ℕ). le_octets 4 k ++ s) (more_octets ks i (le_of_suc-le-suc h))

pub length-octets_of : (ks : List ℕ) → length (octets_of ks) ≡ length ks * 4
unfolding octets_of
length-octets_of [] = refl
length-octets_of (k ∷ ks) =
    let e : length (octets_of ks) ≡ length ks * 4 = length-octets_of ks in
    length-append (le_octets 4 k) (octets_of ks) ∙ omega (arith, length-le_octets 4 k)

-- a turn of the loop that writes them
pub octets_turn : (b ks : List ℕ) (i : ℕ) {b1 b2 w : List ℕ} → i < 8 → length ks ≡ 8 → 32 ≤ length b → w ≡ le_octets 4 (get_or ks i 0)
    → b1 ≡ paste b 0 (octets_of (take i ks)) (4 * i) → b2 ≡ paste b1 (4 * i) w (length w) → b2 ≡ paste b 0 (octets_of (take (i + 1) ks)) (4 * (i + 1))
octets_turn b ks i {b1} {b2} {w} h k l e e1 e2 =
    let t : length (take i ks) ≡ i = length-take-le i ks (omega arith) in
    let m : length (octets_of (take i ks)) ≡ 4 * i = length-octets_of (take i ks) ∙ omega arith in
    let n : length w ≡ 4 = ap length e ∙ length-le_octets 4 (get_or ks i 0) in
    laid_then b (octets_of (take i ks)) w 0 (4 * i) 4 (4 * i) (4 * (i + 1)) m n (omega arith) (omega arith) (omega arith) e1 (laid_length b1 w (4 * i) 4 n e2)
    ∙ ap (λ (s : List ℕ). paste b 0 s (4 * (i + 1)))
    (ap (λ (s : List ℕ). octets_of (take i ks) ++ s) e ∙ more_octets ks i (omega arith) ∙ ap (λ (j : ℕ). octets_of (take j ks)) (sym (add-one i)))

-- the words of a hash
pub core_laid : (b : List ℕ) (p : ℕ) (c : Core) {x y z b1 b2 b3 : List ℕ} → p + 192 ≤ length b → length x ≡ 64 → length y ≡ 64 → length z ≡ 64
    → x ≡ bytes c.h → y ≡ bytes c.n → z ≡ bytes c.sigma
    → b1 ≡ paste b p x (length x) → b2 ≡ paste b1 (p + 64) y (length y) → b3 ≡ paste b2 (p + 128) z (length z)
    → b3 ≡ paste b p (bytes c.h ++ (bytes c.n ++ bytes c.sigma)) 192
core_laid b p c {x} {y} {z} {b1} {b2} {b3} h lx ly lz ex ey ez e1 e2 e3 =
    let xy : length (x ++ y) ≡ 128 = length-append x y ∙ omega arith in
    let two = laid_then b x y p 64 64 (p + 64) 128 lx ly refl refl (omega arith) (laid_length b x p 64 lx e1) (laid_length b1 y (p + 64) 64 ly e2) in
    laid_then b (x ++ y) z p 128 64 (p + 128) 192 xy lz refl refl h two (laid_length b2 z (p + 128) 64 lz e3)
    ∙ ap (λ (s : List ℕ). paste b p s 192) (append_assoc x y z ∙ ap₂ (λ (u v : List ℕ). u ++ v) ex (ap₂ (λ (u v : List ℕ). u ++ v) ey ez))

-- eight words each, and a buffer of 64
pub record Sized (s : State) : Type 0 where
  pub hs : length s.core.h ≡ 8
  pub ns : length s.core.n ≡ 8
  pub sums : length s.core.sigma ≡ 8
  pub block : length s.buffer ≡ 64

length_core : (h n s : List ℕ) → length h ≡ 8 → length n ≡ 8 → length s ≡ 8 → length (bytes h ++ (bytes n ++ bytes s)) ≡ 192
length_core h n s eh en es =
    length-append (bytes h) (bytes n ++ bytes s)
    ∙ ap (λ (k : ℕ). length (bytes h) + k) (length-append (bytes n) (bytes s))
    ∙ omega (arith, length-bytes h, length-bytes n, length-bytes s)

pub length-hash_out : (s : State) → Sized s → length (hash_out s) ≡ 261
unfolding hash_out
length-hash_out s k =
    let t : List ℕ = s.fill % 256 ∷ le_octets 4 s.total in
    let m : length t ≡ 5 = ap suc (length-le_octets 4 s.total) in
    length-append (bytes s.core.h) _
    ∙ ap (λ (j : ℕ). length (bytes s.core.h) + j)
    (length-append (bytes s.core.n) _ ∙ ap (λ (j : ℕ). length (bytes s.core.n) + j)
    (length-append (bytes s.core.sigma) _ ∙ ap (λ (j : ℕ). length (bytes s.core.sigma) + j) (length-append s.buffer t)))
    ∙ omega (arith, length-bytes s.core.h, length-bytes s.core.n, length-bytes s.core.sigma)

-- a hash
pub hash_laid : (b : List ℕ) (p : ℕ) (s : State) {b1 b2 b3 : List ℕ} → p + 261 ≤ length b → Sized s
    → b1 ≡ paste b p (bytes s.core.h ++ (bytes s.core.n ++ bytes s.core.sigma)) 192
    → b2 ≡ paste b1 (p + 192) s.buffer (length s.buffer)
    → b3 ≡ paste b2 (p + 256) (s.fill % 256 ∷ le_octets 4 s.total) 5
    → b3 ≡ paste b p (hash_out s) 261
unfolding hash_out
hash_laid b p s {b1} {b2} {b3} h k e1 e2 e3 =
    let x : List ℕ = bytes s.core.h in
    let y : List ℕ = bytes s.core.n in
    let z : List ℕ = bytes s.core.sigma in
    let t : List ℕ = s.fill % 256 ∷ le_octets 4 s.total in
    let m : length t ≡ 5 = ap suc (length-le_octets 4 s.total) in
    let l : length (x ++ (y ++ z)) ≡ 192 = length_core s.core.h s.core.n s.core.sigma k.hs k.ns k.sums in
    let n : length (x ++ (y ++ z) ++ s.buffer) ≡ 256 = length-append (x ++ (y ++ z)) s.buffer ∙ omega (arith, k.block) in
    let two = laid_then b (x ++ (y ++ z)) s.buffer p 192 64 (p + 192) 256 l k.block refl refl (omega arith) e1 (laid_length b1 s.buffer (p + 192) 64 k.block e2) in
    laid_then b (x ++ (y ++ z) ++ s.buffer) t p 256 5 (p + 256) 261 n m refl refl h two e3
    ∙ ap (λ (u : List ℕ). paste b p u 261) (append_assoc (x ++ (y ++ z)) s.buffer t ∙ append_assoc x (y ++ z) (s.buffer ++ t) ∙ ap (λ (u : List ℕ). x ++ u) (append_assoc y z (s.buffer ++ t)))

pub hash_whole : (b : List ℕ) (s : State) {b1 : List ℕ} → length b ≡ 261 → Sized s → b1 ≡ paste b 0 (hash_out s) 261 → b1 ≡ hash_out s
hash_whole b s h k e = laid_all b (hash_out s) 261 h (length-hash_out s k) e

-- an HMAC
pub mac_laid : (b : List ℕ) (s : Started) {b1 b2 : List ℕ} → length b ≡ 522 → Sized s.inner → Sized s.outer
    → b1 ≡ paste b 0 (hash_out s.inner) 261 → b2 ≡ paste b1 261 (hash_out s.outer) 261 → b2 ≡ mac_out s
unfolding mac_out
mac_laid b s {b1} {b2} h i o e1 e2 =
    let x : length (hash_out s.inner) ≡ 261 = length-hash_out s.inner i in
    let y : length (hash_out s.outer) ≡ 261 = length-hash_out s.outer o in
    let z : length (hash_out s.inner ++ hash_out s.outer) ≡ 522 = length-append (hash_out s.inner) (hash_out s.outer) ∙ omega arith in
    laid_all b (hash_out s.inner ++ hash_out s.outer) 522 h z
    (laid_then b (hash_out s.inner) (hash_out s.outer) 0 261 261 261 522 x y refl refl (omega arith) e1 e2)

-- a code
pub code_laid : (b : List ℕ) (s : Coding) {b1 b2 b3 b4 : List ℕ} → length b ≡ 53 → length s.subkeys ≡ 8 → length s.buffer ≡ 8
    → b1 ≡ paste b 0 (octets_of s.subkeys) 32
    → b2 ≡ paste b1 32 (block s.halves) 8
    → b3 ≡ paste b2 40 s.buffer (length s.buffer)
    → b4 ≡ paste b3 48 (s.fill % 256 ∷ le_octets 4 s.total) 5
    → b4 ≡ code_out s
unfolding code_out
code_laid b s {b1} {b2} {b3} {b4} h k n e1 e2 e3 e4 =
    let x : List ℕ = octets_of s.subkeys in
    let y : List ℕ = block s.halves in
    let t : List ℕ = s.fill % 256 ∷ le_octets 4 s.total in
    let lx : length x ≡ 32 = length-octets_of s.subkeys ∙ omega arith in
    let ly : length y ≡ 8 = length-block s.halves in
    let lt : length t ≡ 5 = ap suc (length-le_octets 4 s.total) in
    let lxy : length (x ++ y) ≡ 40 = length-append x y ∙ omega arith in
    let lxyz : length (x ++ y ++ s.buffer) ≡ 48 = length-append (x ++ y) s.buffer ∙ omega arith in
    let l : length (x ++ y ++ s.buffer ++ t) ≡ 53 = length-append (x ++ y ++ s.buffer) t ∙ omega arith in
    let two = laid_then b x y 0 32 8 32 40 lx ly refl refl (omega arith) e1 e2 in
    let three = laid_then b (x ++ y) s.buffer 0 40 8 40 48 lxy n refl refl (omega arith) two (laid_length b2 s.buffer 40 8 n e3) in
    laid_all b (x ++ y ++ s.buffer ++ t) 53 h l (laid_then b (x ++ y ++ s.buffer) t 0 48 5 48 53 lxyz lt refl refl (omega arith) three e4)
    ∙ append_assoc (x ++ y) s.buffer t
    ∙ append_assoc x y (s.buffer ++ t)

-- what a code is read from
pub code_read : (b : List ℕ) {key ks buffer : List ℕ} {n1 n2 fill total : ℕ} → n1 ≡ le (take 4 (drop 32 b))
    → n2 ≡ le (take 4 (drop 36 b)) → key ≡ take 32 b → ks ≡ subkeys 8 key → buffer ≡ take 8 (drop 40 b)
    → fill ≡ get_or b 48 0 → total ≡ le (take 4 (drop 49 b))
    → ◌≡◌ {A = Coding} (record { subkeys = ks; halves = record { n1 = n1; n2 = n2 }; buffer = buffer; fill = fill; total = total }) (code_in b)
unfolding code_in halves
code_read b {key} {ks} {buffer} {n1} {n2} x y k ek f g t =
    let d : n2 ≡ le (take 4 (drop 4 (drop 32 b))) = y ∙ ap (λ (u : List ℕ). le (take 4 u)) (sym (drop-drop 4 32 b)) in
    λ i.
    record {
      subkeys = (ek ∙ ap (subkeys 8) k) i;
      halves = record { n1 = x i; n2 = d i };
      buffer = f i;
      fill = g i;
      total = t i;
    }
