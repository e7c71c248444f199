-- The cutting, once over the size of a block, the step and the state: parts one after the other are the parts at once. Assumes nothing.
use mathlib.Core.Path.{◌≡◌, refl, sym, ap, ap₂, ◌∙◌}
use mathlib.Core.Bool.{Bool, true, false, not, cond}
use mathlib.Core.List.{List, [], ◌∷◌, ◌++◌, append_assoc, append-nil}
use Prim.Native.Nat.{ℕ, zero, ◌+◌, ◌-◌, ◌%◌, ◌<◌, ◌≤◌}
use native.Mathlib.Nat.{mod-eq_of_lt, add_assoc, add-zero, zero-add}
use native.Mathlib.Omega.{arith}
use borrow.Author.Tests.{leb-true, leb-false, le-leb, lt-leb}
use lib.Dec.{leb}
use lib.ListN.{length, take, replicate, length-append}
use lib.Seq.{take-append_seam}
use Rattle.blocks.specs.Blocks.{absorbed, tail}
use Rattle.blocks.specs.Parts.{fits, part_number, whole, fitting, Way, filled, poured, counted, after, after_all, CutAnyWay}
use Rattle.blocks.proofs.Laws.{joined, absorbed_end, tail_end, tail_short}

-- what a buffer holds, as take reads it
pub held_filled : (size : ℕ) (t : List ℕ) → length t < size → take (length t % size) (filled size t) ≡ t
unfolding filled
held_filled size t h =
    ap (λ (n : ℕ). take n (t ++ replicate (size - length t) 0)) (mod-eq_of_lt h)
    ∙ take-append_seam t (replicate (size - length t) 0)

not-true : (r : Bool) → not r ≡ true → r ≡ false
not-true true h = sym h
not-true false h = refl

not-false : (r : Bool) → not r ≡ false → r ≡ true
not-false true h = refl
not-false false h = sym h

-- which parts fit
fitting-none : (n : ℕ) → fitting n [] ≡ []
unfolding fitting
fitting-none n = refl

fitting-fits : (n : ℕ) (m : List ℕ) (ms : List (List ℕ)) → fits n (length m) ≡ true → fitting n (m ∷ ms) ≡ m ++ fitting (n + length m) ms
unfolding fitting fits
fitting-fits n m ms h = ap (λ (b : Bool). cond b (m ++ fitting (n + length m) ms) (fitting n ms)) h

fitting_not : (n : ℕ) (m : List ℕ) (ms : List (List ℕ)) → fits n (length m) ≡ false → fitting n (m ∷ ms) ≡ fitting n ms
unfolding fitting fits
fitting_not n m ms h = ap (λ (b : Bool). cond b (m ++ fitting (n + length m) ms) (fitting n ms)) h

fits_within : (n k : ℕ) → n + k ≤ 4294967295 → fits n k ≡ true
unfolding fits
fits_within n k h = le-leb (n + k) 4294967295 h

-- as the code asks: by the room that is left
pub fits_room : (n k : ℕ) → n ≤ 4294967295 → leb k (4294967295 - n) ≡ fits n k
unfolding fits
fits_room n k h = by (leb k (4294967295 - n)) refl
  where
    by : (b : Bool) → leb k (4294967295 - n) ≡ b → leb k (4294967295 - n) ≡ leb (n + k) 4294967295
    by true e = e ∙ sym (le-leb (n + k) 4294967295 (omega (arith, leb-true k (4294967295 - n) e)))
    by false e = e ∙ sym (lt-leb (n + k) 4294967295 (omega (arith, leb-false k (4294967295 - n) e)))

pub fits_most : (n k : ℕ) (r : Bool) → r ≡ fits n k → not r ≡ false → n + k ≤ 4294967295
unfolding fits
fits_most n k r e h = leb-true (n + k) 4294967295 (sym e ∙ not-false r h)

fitting_all : (ms : List (List ℕ)) (n : ℕ) → n + length (whole ms) ≤ 4294967295 → fitting n ms ≡ whole ms
unfolding whole
fitting_all [] n h = fitting-none n
fitting_all (m ∷ ms) n h =
    let e : length (m ++ whole ms) ≡ length m + length (whole ms) = length-append m (whole ms) in
    fitting-fits n m ms (fits_within n (length m) (omega arith))
    ∙ ap (λ (x : List ℕ). m ++ x) (fitting_all ms (n + length m) (omega arith))

-- a state gives back what is set in it, and keeps its step
pub record Keeps {S A : Type 0} (w : Way S A) : Type 0 where
  pub some : zero < w.size
  pub step_anew : (s : S) (a : A) (t : List ℕ) (n : ℕ) → w.step (w.anew s a t n) ≡ w.step s
  pub made_anew : (s : S) (a : A) (t : List ℕ) (n : ℕ) → w.made (w.anew s a t n) ≡ a
  pub held_anew : (s : S) (a : A) (t : List ℕ) (n : ℕ) → length t < w.size → w.held (w.anew s a t n) ≡ t
  pub total_anew : (s : S) (a : A) (t : List ℕ) (n : ℕ) → w.total (w.anew s a t n) ≡ n
  pub anew_anew : (s : S) (a : A) (t : List ℕ) (n : ℕ) (b : A) (u : List ℕ) (k : ℕ) → w.anew (w.anew s a t n) b u k ≡ w.anew s b u k

module _ {S A : Type 0} (w : Way S A) (l : Keeps w) where
  pub total_poured : (s : S) (m : List ℕ) (n : ℕ) → w.total (poured w s m n) ≡ n
  unfolding poured
  total_poured s m n = l.total_anew s _ _ n

  -- after a state that holds nothing
  pub poured_none : (s : S) (a : A) (k : ℕ) (x : List ℕ) (n : ℕ)
      → poured w (w.anew s a [] k) x n ≡ w.anew s (absorbed w.size (w.step s) a x) (tail w.size x) n
  unfolding poured
  poured_none s a k x n =
      let z = w.size in
      let p : S = w.anew s a [] k in
      l.anew_anew s a [] k (absorbed z (w.step p) (w.made p) (w.held p ++ x)) (tail z (w.held p ++ x)) n
      ∙ ap₂ (λ (f : A → List ℕ → A) (b : A). w.anew s (absorbed z f b (w.held p ++ x)) (tail z (w.held p ++ x)) n) (l.step_anew s a [] k) (l.made_anew s a [] k)
      ∙ ap (λ (u : List ℕ). w.anew s (absorbed z (w.step s) a (u ++ x)) (tail z (u ++ x)) n) (l.held_anew s a [] k l.some)

  -- two parts
  pub poured_poured : (s : S) (x y : List ℕ) (n k : ℕ) → poured w (poured w s x n) y k ≡ poured w s (x ++ y) k
  unfolding poured
  poured_poured s x y n k =
      let z = w.size in
      let h : List ℕ = w.held s ++ x in
      let a : A = absorbed z (w.step s) (w.made s) h in
      let t : List ℕ = tail z h in
      let p : S = w.anew s a t n in
      let j = joined z l.some (w.step s) (w.made s) h y in
      let e : w.held p ≡ t = l.held_anew s a t n (tail_short z l.some h) in
      l.anew_anew s a t n (absorbed z (w.step p) (w.made p) (w.held p ++ y)) (tail z (w.held p ++ y)) k
      ∙ ap₂ (λ (f : A → List ℕ → A) (b : A). w.anew s (absorbed z f b (w.held p ++ y)) (tail z (w.held p ++ y)) k) (l.step_anew s a t n) (l.made_anew s a t n)
      ∙ ap (λ (u : List ℕ). w.anew s (absorbed z (w.step s) a (u ++ y)) (tail z (u ++ y)) k) e
      ∙ ap₂ (λ (b : A) (u : List ℕ). w.anew s b u k) j.state j.rest
      ∙ ap (λ (u : List ℕ). w.anew s (absorbed z (w.step s) (w.made s) u) (tail z u) k) (append_assoc (w.held s) x y)

  total_counted : (s : S) (m : List ℕ) → w.total (counted w s m) ≡ w.total s + length m
  unfolding counted
  total_counted s m = total_poured s m (w.total s + length m)

  counted_counted : (s : S) (x y : List ℕ) → counted w (counted w s x) y ≡ counted w s (x ++ y)
  unfolding counted
  counted_counted s x y =
      let n : ℕ = w.total s + length x in
      let e : w.total (poured w s x n) + length y ≡ w.total s + length (x ++ y) =
      ap (λ (k : ℕ). k + length y) (total_poured s x n) ∙ add_assoc (w.total s) (length x) (length y) ∙ ap (λ (k : ℕ). w.total s + k) (sym (length-append x y)) in
      poured_poured s x y n (w.total (poured w s x n) + length y) ∙ ap (poured w s (x ++ y)) e

  -- a state that holds its bytes as feeding leaves them
  abbrev pub Settled : S → Type 0
  Settled s = counted w s [] ≡ s

  pub settled_counted : (s : S) (m : List ℕ) → Settled (counted w s m)
  settled_counted s m = counted_counted s m [] ∙ ap (counted w s) (append-nil m)

  pub settled_poured : (s : S) (x : List ℕ) (n : ℕ) → Settled (poured w s x n)
  unfolding counted
  settled_poured s x n =
      poured_poured s x [] n (w.total (poured w s x n) + 0)
      ∙ ap₂ (poured w s) (append-nil x) (add-zero (w.total (poured w s x n)) ∙ total_poured s x n)

  pub settled_none : (s : S) (a : A) (k : ℕ) → Settled (w.anew s a [] k)
  unfolding counted
  settled_none s a k =
      poured_none s a k [] (w.total (w.anew s a [] k) + 0)
      ∙ ap₂ (λ (b : A) (u : List ℕ). w.anew s b u (w.total (w.anew s a [] k) + 0)) (absorbed_end w.size l.some (w.step s) a [] l.some) (tail_end w.size l.some [] l.some)
      ∙ ap (w.anew s a []) (add-zero (w.total (w.anew s a [] k)) ∙ l.total_anew s a [] k)

  after_fits : (s : S) (m : List ℕ) → fits (w.total s) (length m) ≡ true → after w s m ≡ counted w s m
  unfolding after
  after_fits s m h = simp h

  after_not : (s : S) (m : List ℕ) → fits (w.total s) (length m) ≡ false → after w s m ≡ s
  unfolding after
  after_not s m h = ap (λ (b : Bool). cond b (counted w s m) s) h

  -- a part as the code answers it: r says whether it fits
  module _ (s : S) (m : List ℕ) (r : Bool) (e : r ≡ fits (w.total s) (length m)) where
    pub refused : not r ≡ true → (1 ≡ part_number (w.total s) m) × (s ≡ after w s m)
    unfolding part_number
    refused h = let q = sym e ∙ not-true r h in (sym (ap (λ (b : Bool). cond b 0 1) q), sym (after_not s m q))

    pub accepted : not r ≡ false → (0 ≡ part_number (w.total s) m) × (counted w s m ≡ after w s m)
    unfolding part_number
    accepted h = let q = sym e ∙ not-false r h in (sym (ap (λ (b : Bool). cond b 0 1) q), sym (after_fits s m q))

  left_alone : (s : S) (m : List ℕ) (b : Bool) → fits (w.total s) (length m) ≡ b → (part_number (w.total s) m ≡ 0 → ⊥) → after w s m ≡ s
  unfolding part_number
  left_alone s m true e h = absurd (h (ap (λ (b : Bool). cond b 0 1) e))
  left_alone s m false e h = after_not s m e

  -- any parts are the bytes of those that fit
  pub cut : (ms : List (List ℕ)) (s : S) → Settled s → after_all (after w) s ms ≡ counted w s (fitting (w.total s) ms)
  unfolding after_all
  cut [] s e = sym e ∙ ap (counted w s) (sym (fitting-none (w.total s)))
  cut (m ∷ ms) s e = by (fits (w.total s) (length m)) refl (λ t d. cut ms t d)
    where
      by : (b : Bool) → fits (w.total s) (length m) ≡ b → ((t : S) → Settled t → after_all (after w) t ms ≡ counted w t (fitting (w.total t) ms))
          → after_all (after w) (after w s m) ms ≡ counted w s (fitting (w.total s) (m ∷ ms))
      by true h rest =
          ap (λ (t : S). after_all (after w) t ms) (after_fits s m h)
          ∙ rest (counted w s m) (settled_counted s m)
          ∙ ap (λ (n : ℕ). counted w (counted w s m) (fitting n ms)) (total_counted s m)
          ∙ counted_counted s m (fitting (w.total s + length m) ms)
          ∙ ap (counted w s) (sym (fitting-fits (w.total s) m ms h))
      by false h rest =
          ap (λ (t : S). after_all (after w) t ms) (after_not s m h)
          ∙ rest s e
          ∙ ap (counted w s) (sym (fitting_not (w.total s) m ms h))

  -- so, from a state with nothing fed, it is cut any way where the end gives the answer to a message fed at once
  pub cut_any_way : {R : Type 0} (begun : S) (ended : S → R) (answer : List ℕ → R) → Settled begun → w.total begun ≡ 0
      → ((m : List ℕ) → ended (counted w begun m) ≡ answer m) → CutAnyWay begun (λ s m. part_number (w.total s) m) (after w) ended answer
  unfolding part_number fits
  cut_any_way begun ended answer e z f =
      let all : (ms : List (List ℕ)) → after_all (after w) begun ms ≡ counted w begun (fitting 0 ms) =
      λ ms. cut ms begun e ∙ ap (λ (n : ℕ). counted w begun (fitting n ms)) z in
      record {
        answered = λ ms. ap ended (all ms) ∙ f (fitting 0 ms);
        numbered = λ ms m.
            ap (λ (n : ℕ). cond (leb (n + length m) 4294967295) 0 1)
            (ap w.total (all ms) ∙ total_counted begun (fitting 0 ms) ∙ ap (λ (n : ℕ). n + length (fitting 0 ms)) z ∙ zero-add (length (fitting 0 ms)));
        unchanged = λ s m h. left_alone s m (fits (w.total s) (length m)) refl h;
        same = λ ms ns h. all ms ∙ ap (counted w begun) h ∙ sym (all ns);
        within = λ ms h. fitting_all ms 0 (omega (arith, h));
      }

-- the statement leaves no choice: what meets it gives the same answers, whatever its states
module _ {S T R : Type 0} {b : S} {n : S → List ℕ → ℕ} {x : S → List ℕ → S} {e : S → R} {c : T} {k : T → List ℕ → ℕ} {y : T → List ℕ → T} {f : T → R}
    {answer : List ℕ → R} (one : CutAnyWay b n x e answer) (other : CutAnyWay c k y f answer) where
  pub no_other_end : (ms : List (List ℕ)) → e (after_all x b ms) ≡ f (after_all y c ms)
  no_other_end ms = one.answered ms ∙ sym (other.answered ms)

  pub no_other_number : (ms : List (List ℕ)) (m : List ℕ) → n (after_all x b ms) m ≡ k (after_all y c ms) m
  no_other_number ms m = one.numbered ms m ∙ sym (other.numbered ms m)
