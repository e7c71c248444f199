-- The octets of a line, and the copies out of a frame. Assumes nothing.
use Prim.Native.Nat.{ℕ, suc, ◌+◌, ◌*◌, ◌/◌, ◌≤◌, ◌<◌}
use native.Mathlib.Omega.{arith}
use native.Mathlib.Numerals.{add-one}
use mathlib.Core.Path.{◌≡◌, refl, sym, ap, ◌∙◌}
use mathlib.Core.List.{List, [], ◌∷◌, ◌++◌, append_assoc, append-nil}
use lib.ListN.{length, get_or, take, drop, set, length-drop}
use lib.Seq.{drop-cons, take-suc-set}
use Rattle.lines.specs.Lines.{octet_of, octets_of}

-- two digits are an octet
octets_pair : (s : List ℕ) (j : ℕ) → j + 1 < length s
    → octets_of (drop j s) ≡ octet_of (get_or s j 0) (get_or s (j + 1) 0) ∷ octets_of (drop (suc (suc j)) s)
unfolding octets_of
octets_pair s j h =
    let l : j < length s = omega arith in
    let m : suc j < length s = omega arith in
    ap octets_of (drop-cons s j 0 l)
    ∙ ap (λ (t : List ℕ). octets_of (get_or s j 0 ∷ t)) (drop-cons s (suc j) 0 m)
    ∙ ap (λ (k : ℕ). octet_of (get_or s j 0) (get_or s k 0) ∷ octets_of (drop (suc (suc j)) s)) (sym (add-one j))

octets-short : (s : List ℕ) → length s ≤ 1 → octets_of s ≡ []
unfolding octets_of
octets-short [] h = refl
octets-short (a ∷ []) h = refl
octets-short (a ∷ b ∷ s) h = absurd (omega arith)

pub octets_turn : (s b : List ℕ) (i v : ℕ) → i < length b → 2 * i + 1 < length s
    → v ≡ octet_of (get_or s (2 * i) 0) (get_or s (2 * i + 1) 0)
    → take i b ++ octets_of (drop (2 * i) s) ≡ octets_of s
    → take (i + 1) (set b i v) ++ octets_of (drop (2 * (i + 1)) s) ≡ octets_of s
octets_turn s b i v hb hs e w =
    let k : 2 * (i + 1) ≡ suc (suc (2 * i)) = omega arith in
    rw (add-one, take-suc-set b i v)
    (ap (λ (j : ℕ). (take i b ++ v ∷ []) ++ octets_of (drop j s)) (ap (λ (n : ℕ). 2 * n) (sym (add-one i)) ∙ k)
    ∙ append_assoc (take i b) (v ∷ []) (octets_of (drop (suc (suc (2 * i))) s))
    ∙ ap (λ (x : ℕ). take i b ++ x ∷ octets_of (drop (suc (suc (2 * i))) s)) e
    ∙ ap (λ (t : List ℕ). take i b ++ t) (sym (octets_pair s (2 * i) hs))
    ∙ w)

pub octets_end : (s b : List ℕ) (i : ℕ) → i ≡ length s / 2 → take i b ++ octets_of (drop (2 * i) s) ≡ octets_of s
    → take (length s / 2) b ≡ octets_of s
octets_end s b i d w =
    let h : length (drop (2 * i) s) ≤ 1 = simp length-drop (omega arith) in
    ap (λ (k : ℕ). take k b) (sym d)
    ∙ sym (append-nil (take i b))
    ∙ ap (λ (t : List ℕ). take i b ++ t) (sym (octets-short (drop (2 * i) s) h))
    ∙ w
