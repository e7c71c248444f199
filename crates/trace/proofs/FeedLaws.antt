-- The turns of the loop that feeds a part. Assumes nothing.
use Prim.Native.Nat.{ℕ, suc, ◌+◌, ◌≤◌, ◌<◌}
use native.Mathlib.Omega.{arith}
use native.Mathlib.Numerals.{add-one}
use mathlib.Core.Path.{◌≡◌, sym, ap, ◌∙◌}
use mathlib.Core.List.{List}
use lib.ListN.{length, get_or, take, drop, set, replicate, drop_of_length-le}
use lib.Seq.{drop-cons}
use borrow.Author.Tests.{eq-eqb, ne_eqb, le-leb, lt-leb}
use Rattle.lines.specs.declared.Held.{Held}
use Rattle.lines.specs.declared.Said.{Said}
use Rattle.lines.specs.Lines.{longest}
use Rattle.lines.specs.Said.{longest_answer, said}
use Rattle.frames.specs.Frames.{answer_to}
use Rattle.trace.specs.declared.Trace.{Trace}
use Rattle.trace.specs.declared.Fed.{Fed}
use Rattle.trace.specs.Feeding.{line_of, extended, resting, closed, completed, fed_from, fed, ended}

-- the code's struct
abbrev pub made : Held → List ℕ → ℕ → Trace
made h l n = record { held = h; line = l; count = n }

pub completed_made : (t : Trace) (n : ℕ) (s : Said) → s ≡ said (answer_to t.held (take t.count t.line)) → closed t n s ≡ completed t n
unfolding completed line_of
completed_made t n s e = ap (closed t n) e

-- one byte: the line feed, a sign that is kept, a sign past the longest line
module _ (t : Trace) (s : List ℕ) (h : Held) (l : List ℕ) (n i : ℕ) (p : i < length s) (w : fed_from (made h l n) i (drop i s) ≡ fed t s) where
  pub feed_line : (x : Fed) → get_or s i 0 ≡ 10 → x ≡ completed (made h l n) (i + 1) → x ≡ fed t s
  unfolding fed_from
  feed_line x e c = c ∙ sym (sym w ∙ rw (drop-cons s i 0) (rw (eq-eqb _ _ e)))

  more : (get_or s i 0 ≡ 10 → ⊥) → fed_from (extended (made h l n) (get_or s i 0)) (i + 1) (drop (i + 1) s) ≡ fed t s
  unfolding fed_from
  more e =
      let u : Trace = extended (made h l n) (get_or s i 0) in
      let v : fed_from (made h l n) i (drop i s) ≡ fed_from u (i + 1) (drop (suc i) s) = rw (drop-cons s i 0) (rw (ne_eqb _ _ e)) in
      ap (λ (k : ℕ). fed_from u (i + 1) (drop k s)) (add-one i) ∙ sym v ∙ w

  pub feed_kept_lem : (get_or s i 0 ≡ 10 → ⊥) → n ≤ longest → (l' : List ℕ) (n' : ℕ) → l' ≡ set l n (get_or s i 0) → n' ≡ n + 1
      → fed_from (made h l' n') (i + 1) (drop (i + 1) s) ≡ fed t s
  unfolding extended
  feed_kept_lem e k l' n' f g = rw (f, g) (rw (le-leb _ _ k) at (more e))

  pub feed_past : (get_or s i 0 ≡ 10 → ⊥) → longest < n → (l' : List ℕ) (n' : ℕ) → l' ≡ l → n' ≡ n
      → fed_from (made h l' n') (i + 1) (drop (i + 1) s) ≡ fed t s
  unfolding extended
  feed_past e k l' n' f g = rw (f, g) (rw (lt-leb _ _ k) at (more e))

pub feed_end : (t : Trace) (s : List ℕ) (u : Trace) (i : ℕ) → i ≡ length s → fed_from u i (drop i s) ≡ fed t s
    → ◌≡◌ {A = Fed} (record { trace = u; taken = length s; count = 0; answer = replicate longest_answer 0 }) (fed t s)
unfolding fed_from resting
feed_end t s u i e w =
    let p : length s ≤ i = omega arith in
    sym (sym w ∙ ap (fed_from u i) (drop_of_length-le s {i = i} p) ∙ ap (resting u) e)

-- the end
pub end_empty : (t : Trace) → t.count ≡ 0 → ◌≡◌ {A = Fed} (record { trace = t; taken = 0; count = 0; answer = replicate longest_answer 0 }) (ended t)
unfolding ended resting
end_empty t e = rw (eq-eqb _ _ e)

pub end_line : (t : Trace) (x : Fed) → (t.count ≡ 0 → ⊥) → x ≡ completed t 0 → x ≡ ended t
unfolding ended
end_line t x n e = e ∙ rw (ne_eqb _ _ n)
