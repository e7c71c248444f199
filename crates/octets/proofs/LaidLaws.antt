-- Strings laid over a buffer: one after the other, and through a part that is lent from a place on. Assumes nothing.
use mathlib.Core.Path.{◌≡◌, refl, sym, ap, ap₂, ◌∙◌}
use mathlib.Core.List.{List, [], ◌++◌, append_assoc, append-nil}
use Prim.Native.Nat.{ℕ, ◌+◌, ◌-◌, ◌≤◌}
use native.Mathlib.Omega.{arith}
use lib.ListN.{length, take, drop, length-append, length-drop, drop_of_length-le}
use lib.Seq.{length-take-le, take_all, take_at, drop_at, take-add, drop-drop}
use borrow.Rule.Slice.PartMut.{put_mid}
use Rattle.octets.specs.Laid.{laid}

module _ (b : List ℕ) (p : ℕ) (s : List ℕ) (h : p + length s ≤ length b) where
  head_length : length (take p b ++ s) ≡ p + length s
  head_length = length-append (take p b) s ∙ ap (λ (k : ℕ). k + length s) (length-take-le p b (omega arith))

  pub length-laid : length (laid b p s) ≡ length b
  unfolding laid
  length-laid = let e : length (take p b) ≡ p = length-take-le p b (omega arith) in simp (length-append, length-drop) (omega arith)

  -- the string stands there
  pub laid_there : take (length s) (drop p (laid b p s)) ≡ s
  unfolding laid
  laid_there =
      ap (λ (x : List ℕ). take (length s) (drop p x)) (append_assoc (take p b) s (drop (p + length s) b))
      ∙ ap (take (length s)) (drop_at (take p b) (s ++ drop (p + length s) b) p (length-take-le p b (omega arith)))
      ∙ take_at s (drop (p + length s) b) (length s) refl

  -- what stands before it and after it stays
  pub laid_before : take p (laid b p s) ≡ take p b
  unfolding laid
  laid_before =
      ap (take p) (append_assoc (take p b) s (drop (p + length s) b))
      ∙ take_at (take p b) (s ++ drop (p + length s) b) p (length-take-le p b (omega arith))

  pub laid_after : drop (p + length s) (laid b p s) ≡ drop (p + length s) b
  unfolding laid
  laid_after = drop_at (take p b ++ s) (drop (p + length s) b) (p + length s) head_length

  -- the next string after it
  pub laid_laid : (t : List ℕ) (q : ℕ) → q ≡ p + length s → laid (laid b p s) q t ≡ laid b p (s ++ t)
  unfolding laid
  laid_laid t q e =
      let r = drop (p + length s) b in
      let l : length (take p b ++ s) ≡ q = head_length ∙ sym e in
      let n : p + length s + length t ≡ p + length (s ++ t) = let a = length-append s t in omega arith in
      ap₂ (λ (x y : List ℕ). x ++ t ++ y) (take_at (take p b ++ s) r q l)
      (sym (drop-drop (length t) q (take p b ++ s ++ r)) ∙ ap (drop (length t)) (drop_at (take p b ++ s) r q l) ∙ drop-drop (length t) (p + length s) b ∙ ap (λ (k : ℕ). drop k b) n)
      ∙ ap (λ (x : List ℕ). x ++ drop (p + length (s ++ t)) b) (append_assoc (take p b) s t)

pub lent_length : (b : List ℕ) (a : ℕ) → length (take (length b - a) (drop a b)) ≡ length b - a
lent_length b a = length-take-le (length b - a) (drop a b) (omega (arith, length-drop a b))

-- laid over the part of a buffer from place a on, which is then put back
pub laid_lent : (b : List ℕ) (a : ℕ) (x : List ℕ) (p : ℕ) (s : List ℕ) → a ≤ length b → x ≡ laid (take (length b - a) (drop a b)) p s
    → put_mid a (length b - a) b x ≡ laid b (a + p) s
unfolding laid
laid_lent b a x p s h e =
    let q = drop a b in
    let w : take (length b - a) q ≡ q = take_all (length b - a) q (omega (arith, length-drop a b)) in
    let z : drop (length b - a) q ≡ [] = drop_of_length-le q {i = length b - a} (omega (arith, length-drop a b)) in
    let n : a + (p + length s) ≡ a + p + length s = omega arith in
    ap₂ (λ (y r : List ℕ). take a b ++ (y ++ r)) (e ∙ ap (λ (y : List ℕ). take p y ++ s ++ drop (p + length s) y) w) z
    ∙ ap (λ (y : List ℕ). take a b ++ y) (append-nil (take p q ++ s ++ drop (p + length s) q))
    ∙ sym (append_assoc (take a b) (take p q ++ s) (drop (p + length s) q))
    ∙ ap₂ (λ (y r : List ℕ). y ++ r) (sym (append_assoc (take a b) (take p q) s) ∙ ap (λ (y : List ℕ). y ++ s) (sym (take-add a p b)))
    (drop-drop (p + length s) a b ∙ ap (λ (k : ℕ). drop k b) n)
