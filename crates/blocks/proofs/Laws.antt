-- Laws of a message taken in blocks, for any size and step: a block more, the end, whole blocks appended, and a message cut anywhere.
-- Assumes nothing.
use mathlib.Core.Path.{◌≡◌, refl, sym, ap, ap₂, ◌∙◌}
use mathlib.Core.Logic.{◌⊎◌, inl, inr, ⊎_elim}
use mathlib.Core.Bool.{Bool, true, false}
use mathlib.Core.List.{List, [], ◌++◌}
use Prim.Native.Nat.{ℕ, zero, suc, ◌+◌, ◌-◌, ◌*◌, ◌/◌, ◌%◌, ◌<◌, ◌≤◌}
use native.Mathlib.Nat.{div-eq_of_lt, add-mul-div_right, le_refl, add_comm, suc-mul, sub-add_cancel, one-mul, zero-mul, mul-div_cancel, div-add-mod', mod-lt}
use native.Mathlib.Numerals.{add-one}
use native.Mathlib.Omega.{arith}
use borrow.Author.Tests.{ltb-true, ltb-false}
use lib.Dec.{ltb}
use lib.ListN.{length, take, drop, length-append, length-drop}
use lib.Seq.{take-append-le, drop-append-le, drop-drop, drop-length}
use Rattle.blocks.specs.Blocks.{taken, absorbed, tail}

pub lt_or_ge : (a b : ℕ) → (a < b) ⊎ (b ≤ a)
lt_or_ge a b = by (ltb a b) refl
  where
    by : (t : Bool) → ltb a b ≡ t → (a < b) ⊎ (b ≤ a)
    by true e = inl (ltb-true a b e)
    by false e = inr (ltb-false a b e)

module _ (size : ℕ) (pos : zero < size) where
  count : (n : ℕ) → size ≤ n → n / size ≡ suc ((n - size) / size)
  count n h =
      ap (λ (k : ℕ). k / size) (sym (sub-add_cancel h) ∙ ap (λ (k : ℕ). n - size + k) (sym (one-mul size)))
      ∙ add-mul-div_right (n - size) 1 pos
      ∙ add-one ((n - size) / size)

  -- no whole block: all is left
  pub tail_end : (m : List ℕ) → length m < size → tail size m ≡ m
  unfolding tail
  tail_end m h = ap (λ (k : ℕ). drop k m) (ap (λ (k : ℕ). k * size) (div-eq_of_lt h) ∙ zero-mul size)

  -- a block is passed
  pub tail_step : (m : List ℕ) → size ≤ length m → tail size m ≡ tail size (drop size m)
  unfolding tail
  tail_step m h =
      ap (λ (k : ℕ). drop k m)
      (ap (λ (k : ℕ). k * size) (count (length m) h)
      ∙ suc-mul ((length m - size) / size) size
      ∙ add_comm ((length m - size) / size * size) size)
      ∙ sym (drop-drop ((length m - size) / size * size) size m)
      ∙ ap (λ (k : ℕ). drop (k / size * size) (drop size m)) (sym (length-drop size m))

  -- what is left is shorter than a block
  pub tail_short : (m : List ℕ) → length (tail size m) < size
  unfolding tail
  tail_short m =
      let e : length m / size * size + length m % size ≡ length m = div-add-mod' (length m) size in
      let l : length m % size < size = mod-lt (length m) pos in
      simp length-drop (omega arith)

  -- whole blocks leave nothing
  pub tail_whole : (n : ℕ) (m : List ℕ) → length m ≡ n * size → tail size m ≡ []
  unfolding tail
  tail_whole n m e =
      ap (λ (k : ℕ). drop (k / size * size) m) e
      ∙ ap (λ (k : ℕ). drop (k * size) m) (mul-div_cancel n pos)
      ∙ ap (λ (k : ℕ). drop k m) (sym e)
      ∙ drop-length m

  module _ {A : Type 0} (step : A → List ℕ → A) where
    -- a turn of a loop over n blocks, at block i
    pub taken_turn : (n i : ℕ) (a : A) (m : List ℕ) → i < n
        → taken size step (n - i) a (drop (i * size) m) ≡ taken size step (n - (i + 1)) (step a (take size (drop (i * size) m))) (drop ((i + 1) * size) m)
    unfolding taken
    taken_turn n i a m h =
        let e : n - i ≡ suc (n - (i + 1)) = omega arith in
        let d : i * size + size ≡ (i + 1) * size = sym (ap (λ (k : ℕ). k * size) (add-one i) ∙ suc-mul i size) in
        ap (λ (k : ℕ). taken size step k a (drop (i * size) m)) e
        ∙ ap (taken size step (n - (i + 1)) (step a (take size (drop (i * size) m)))) (drop-drop size (i * size) m ∙ ap (λ (k : ℕ). drop k m) d)

    pub taken_none : (n : ℕ) (a : A) (m : List ℕ) → n ≡ 0 → taken size step n a m ≡ a
    unfolding taken
    taken_none n a m e = ap (λ (k : ℕ). taken size step k a m) e

    pub absorbed_end : (a : A) (m : List ℕ) → length m < size → absorbed size step a m ≡ a
    unfolding absorbed
    absorbed_end a m h = taken_none (length m / size) a m (div-eq_of_lt h)

    pub absorbed_step : (a : A) (m : List ℕ) → size ≤ length m → absorbed size step a m ≡ absorbed size step (step a (take size m)) (drop size m)
    unfolding absorbed taken
    absorbed_step a m h =
        ap (λ (k : ℕ). taken size step k a m) (count (length m) h)
        ∙ ap (λ (k : ℕ). taken size step (k / size) (step a (take size m)) (drop size m)) (sym (length-drop size m))

    -- a message in two parts: what the first leaves goes before the second
    pub record Joined (a : A) (m x : List ℕ) : Type 0 where
      pub state : absorbed size step (absorbed size step a m) (tail size m ++ x) ≡ absorbed size step a (m ++ x)
      pub rest : tail size (tail size m ++ x) ≡ tail size (m ++ x)

    at-end : (a : A) (m x : List ℕ) → length m < size → Joined a m x
    at-end a m x h =
        record {
          state = ap₂ (λ (b : A) (t : List ℕ). absorbed size step b (t ++ x)) (absorbed_end a m h) (tail_end m h);
          rest = ap (λ (t : List ℕ). tail size (t ++ x)) (tail_end m h);
        }

    more : (a : A) (m x : List ℕ) → size ≤ length m → Joined (step a (take size m)) (drop size m) x → Joined a m x
    more a m x h ih =
        let l : size ≤ length (m ++ x) = simp length-append (omega arith) in
        let d : drop size (m ++ x) ≡ drop size m ++ x = drop-append-le size m x h in
        let t : take size (m ++ x) ≡ take size m = take-append-le size m x h in
        record {
          state =
              ap₂ (λ (b : A) (r : List ℕ). absorbed size step b (r ++ x)) (absorbed_step a m h) (tail_step m h)
              ∙ ih.state
              ∙ sym (absorbed_step a (m ++ x) l ∙ ap₂ (λ (b r : List ℕ). absorbed size step (step a b) r) t d);
          rest =
              ap (λ (r : List ℕ). tail size (r ++ x)) (tail_step m h)
              ∙ ih.rest
              ∙ sym (tail_step (m ++ x) l ∙ ap (tail size) d);
        }

    go : (f : ℕ) (a : A) (m x : List ℕ) → length m ≤ f → Joined a m x
    go zero a m x h = at-end a m x (omega arith)
    go (suc f) a m x h =
        ⊎_elim (λ l. at-end a m x l)
        (λ l. more a m x l (go f (step a (take size m)) (drop size m) x (simp length-drop (omega arith))))
        (lt_or_ge (length m) size)

    pub joined : (a : A) (m x : List ℕ) → Joined a m x
    joined a m x = go (length m) a m x (le_refl (length m))

    -- whole blocks appended go on from the state reached
    pub continued : (n : ℕ) (a : A) (m x : List ℕ) → length m ≡ n * size → absorbed size step a (m ++ x) ≡ absorbed size step (absorbed size step a m) x
    continued n a m x e =
        sym (joined a m x).state
        ∙ ap (λ (t : List ℕ). absorbed size step (absorbed size step a m) (t ++ x)) (tail_whole n m e)
