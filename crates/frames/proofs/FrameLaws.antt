-- One law for each way out of a frame's functions. Assumes nothing.
use Prim.Native.Nat.{ℕ, zero, suc, ◌-◌, ◌/◌, ◌%◌, ◌≤◌, ◌<◌}
use native.Mathlib.Omega.{arith}
use mathlib.Core.Path.{◌≡◌, refl, sym, ap, ap₂, ◌∙◌}
use mathlib.Core.Bool.{Bool, true, false, not, ◌&&◌, ◌||◌, cond, and-eq-true_iff}
use mathlib.Core.List.{List, [], ◌∷◌}
use lib.Dec.{leb, eqb}
use lib.ListN.{length, get_or, take, drop, length-take, length-drop, drop_of_length-le}
use lib.Seq.{take_all, get_or-take, take-nil}
use borrow.Author.Tests.{eq-eqb, ne_eqb, le-leb, lt-leb, eqb-true, eqb-false, not-true, not-false}
use Rattle.octets.specs.Numbers.{be}
use Rattle.octets.proofs.Arms.{None}
use Rattle.octets.proofs.Parts.{elements_part}
use Rattle.transaction.specs.Transaction.{is_open}
use Rattle.card.specs.declared.Card.{Card}
use Rattle.card.specs.declared.Reply.{Reply}
use Rattle.card.specs.Record.{sound}
use Rattle.card.specs.Calls.{judged_under, due_under, after_under, plain, step, Open, IssuerAnswer, Script, Close, Withdraw, Counters, CheckPin}
use Rattle.card.specs.Personalise.{personalised}
use Rattle.lines.specs.declared.Held.{Held}
use Rattle.lines.specs.declared.Said.{Said}
use Rattle.lines.specs.Lines.{longest, kept_signs, last_frame, legible, hexadecimal, octets_of, readable, readable_under}
use Rattle.lines.specs.Answers.{holding, numbered, replied}
use Rattle.lines.specs.Said.{said}
use Rattle.frames.specs.Frames.{part, tries_in, personalised_by, personalised_by_under, starts, overlong, bare, called, called_under, calling_under, framed, framed_under, answer_to, answer_to_under}

-- 00
loads : (n : ℕ) → 115 ≤ n → n ≤ 116 → (eqb n 115 || eqb n 116) ≡ true
loads n a b = go (eqb n 115) refl
  where
    go : (x : Bool) → eqb n 115 ≡ x → (x || eqb n 116) ≡ true
    go true e = refl
    go false e = let z : n ≡ 115 → ⊥ = eqb-false n 115 e in eq-eqb n 116 (omega arith)

pub tries_given : (s : List ℕ) → length s ≡ 116 → get_or s 115 0 ≡ tries_in s
tries_given s e = rw (eq-eqb _ _ e)

pub tries_full : (s : List ℕ) → (length s ≡ 116 → ⊥) → 3 ≡ tries_in s
tries_full s n = rw (ne_eqb _ _ n)

pub fresh_made : (s ac smi smc cs b : List ℕ) (atc n : ℕ) (p : Reply) → (115 ≤ length s) × (length s ≤ 116)
    → ac ≡ part 0 32 s → smi ≡ part 32 32 s → smc ≡ part 64 32 s → atc ≡ be (get_or s 96 0 ∷ get_or s 97 0 ∷ []) → cs ≡ part 98 8 s → b ≡ part 107 8 s → n ≡ tries_in s
    → p ≡ personalised ac smi smc atc cs (get_or s 106 0) b n → p ≡ personalised_by s
unfolding personalised_by_under part
fresh_made s ac smi smc cs b atc n p l e1 e2 e3 e4 e5 e6 e7 e =
    let x = l.0 in
    let y = l.1 in
    let c : atc ≡ be (take 2 (drop 96 s)) = e4 ∙ ap be (sym (elements_part s 96 2 (omega arith))) in
    e ∙ rw (e1, e2, e3, c, e5, e6, e7, loads (length s) x y)

module _ (h : Held) (s : List ℕ) (x : Said) where
  pub starts_unfit : (length s ≡ 115 → ⊥) → (length s ≡ 116 → ⊥) → x ≡ said (numbered h 1) → x ≡ said (starts h (personalised_by s))
  unfolding personalised_by_under starts
  starts_unfit n m e = e ∙ rw (ne_eqb (length s) 115 n, ne_eqb (length s) 116 m)

  pub starts_refused : (p : Reply) → p ≡ personalised_by s → (p.code ≡ 0 → ⊥) → x ≡ said (numbered h p.code) → x ≡ said (starts h (personalised_by s))
  unfolding starts
  starts_refused p q n e = e ∙ rw (← q, ne_eqb _ _ n)

  pub starts_done : (p : Reply) (k : Held) → p ≡ personalised_by s → p.code ≡ 0 → k ≡ holding p.card → x ≡ said (numbered k 0)
      → x ≡ said (starts h (personalised_by s))
  unfolding starts
  starts_done p k q n g e = e ∙ rw (g, ← q, eq-eqb _ _ n)

-- 04 and 06 with bytes after: what Close says of the phase
phase_first : (r : Card) (a o s : Bool) → sound r ≡ a → is_open r.transaction.phase ≡ o → r.transaction.spoilt ≡ s
    → overlong r ≡ plain r (cond (eqb (step r Close).code 6) 6 1)
unfolding overlong judged_under due_under after_under
phase_first r false o s e f g = rw e
phase_first r true false s e f g = rw (e, f)
phase_first r true true false e f g = rw (e, f, g)
phase_first r true true true e f g = rw (e, f, g)

module _ (r : Card) (p x : Reply) (q : p ≡ step r Close) where
  by_close : overlong r ≡ plain r (cond (eqb p.code 6) 6 1)
  by_close =
      phase_first r (sound r) (is_open r.transaction.phase) r.transaction.spoilt refl refl refl
      ∙ ap (λ (a : Reply). plain r (cond (eqb a.code 6) 6 1)) (sym q)

  pub overlong_idle : p.code ≡ 6 → x ≡ plain r 6 → x ≡ overlong r
  overlong_idle n e = e ∙ sym (by_close ∙ rw (eq-eqb _ _ n))

  pub overlong_open : (p.code ≡ 6 → ⊥) → x ≡ plain r 1 → x ≡ overlong r
  overlong_open n e = e ∙ sym (by_close ∙ rw (ne_eqb _ _ n))

pub rest_all : (n : ℕ) (s : List ℕ) → take (length s - n) (drop n s) ≡ drop n s
rest_all n s = take_all (length s - n) (drop n s) (simp length-drop (omega arith))

-- 02 and 03 shorter than their first part
pub answer_short : (r : Card) (s : List ℕ) (x : Reply) → length s < 8 → x ≡ step r (IssuerAnswer s []) → x ≡ step r (IssuerAnswer (take 8 s) (drop 8 s))
answer_short r s x h e =
    e ∙ ap₂ (λ (a b : List ℕ). step r (IssuerAnswer a b)) (sym (take_all 8 s (omega arith))) (sym (drop_of_length-le s {i = 8} (omega arith)))

pub script_short : (r : Card) (s : List ℕ) (x : Reply) → length s < 4 → x ≡ step r (Script s []) → x ≡ step r (Script (take 4 s) (drop 4 s))
script_short r s x h e =
    e ∙ ap₂ (λ (a b : List ℕ). step r (Script a b)) (sym (take_all 4 s (omega arith))) (sym (drop_of_length-le s {i = 4} (omega arith)))

pub answer_parts : (r : Card) (s : List ℕ) (x : Reply) → x ≡ step r (IssuerAnswer (take 8 s) (take (length s - 8) (drop 8 s)))
    → x ≡ step r (IssuerAnswer (take 8 s) (drop 8 s))
answer_parts r s x e = e ∙ ap (λ (b : List ℕ). step r (IssuerAnswer (take 8 s) b)) (rest_all 8 s)

pub script_parts : (r : Card) (s : List ℕ) (x : Reply) → x ≡ step r (Script (take 4 s) (take (length s - 4) (drop 4 s)))
    → x ≡ step r (Script (take 4 s) (drop 4 s))
script_parts r s x e = e ∙ ap (λ (b : List ℕ). step r (Script (take 4 s) b)) (rest_all 4 s)

-- with and without bytes after
pub bare_not : (s : List ℕ) (a b x : Reply) (t : Bool) → t ≡ eqb (length s) 0 → t ≡ false → x ≡ b → x ≡ bare s a b
bare_not s a b x t q h e = e ∙ rw (← q, h)

pub bare_so : (s : List ℕ) (a b x : Reply) (t : Bool) → t ≡ eqb (length s) 0 → t ≡ true → x ≡ a → x ≡ bare s a b
bare_so s a b x t q h e = e ∙ rw (← q, h)

-- 01 to 07
module _ (r : Card) (f : ℕ) (s : List ℕ) (x : Reply) where
  pub called_1 : f ≡ 1 → x ≡ step r (Open s) → x ≡ called r f s
  unfolding called_under
  called_1 h e = e ∙ rw h

  pub called_2 : f ≡ 2 → x ≡ step r (IssuerAnswer (take 8 s) (drop 8 s)) → x ≡ called r f s
  unfolding called_under
  called_2 h e = e ∙ rw h

  pub called_3 : f ≡ 3 → x ≡ step r (Script (take 4 s) (drop 4 s)) → x ≡ called r f s
  unfolding called_under
  called_3 h e = e ∙ rw h

  pub called_4 : f ≡ 4 → x ≡ bare s (step r Close) (overlong r) → x ≡ called r f s
  unfolding called_under
  called_4 h e = e ∙ rw h

  pub called_5 : f ≡ 5 → x ≡ bare s (step r Withdraw) (plain r 1) → x ≡ called r f s
  unfolding called_under
  called_5 h e = e ∙ rw h

  pub called_6 : f ≡ 6 → x ≡ bare s (step r Counters) (overlong r) → x ≡ called r f s
  unfolding called_under
  called_6 h e = e ∙ rw h

  pub called_7 : None 1 6 f → x ≡ step r (CheckPin s) → x ≡ called r f s
  unfolding called_under
  called_7 n e =
      e
      ∙ rw (ne_eqb _ _ n.0.0.0.0.0.1, ne_eqb _ _ n.0.0.0.0.1, ne_eqb _ _ n.0.0.0.1, ne_eqb _ _ n.0.0.1, ne_eqb _ _ n.0.1, ne_eqb _ _ n.1)

-- a frame
module _ (h : Held) (f : ℕ) (s : List ℕ) (x : Said) where
  pub framed_new : f ≡ 0 → x ≡ said (starts h (personalised_by s)) → x ≡ said (framed h f s)
  unfolding framed_under
  framed_new z e = e ∙ rw (eq-eqb _ _ z)

  pub framed_none : (f ≡ 0 → ⊥) → not h.exists ≡ true → x ≡ said (numbered h 6) → x ≡ said (framed h f s)
  unfolding framed_under calling_under
  framed_none z n e = e ∙ rw (ne_eqb _ _ z, not-true h.exists n)

  pub framed_one : (f ≡ 0 → ⊥) → not h.exists ≡ false → (p : Reply) → p ≡ called h.card f s → x ≡ said (replied f p) → x ≡ said (framed h f s)
  unfolding framed_under calling_under
  framed_one z n p q e = e ∙ rw (ne_eqb _ _ z, not-false h.exists n, q)

-- a line
pub unread : (h : Held) (l : List ℕ) (x : Said) → readable l ≡ false → x ≡ said (numbered h 13) → x ≡ said (answer_to h l)
unfolding answer_to_under
unread h l x n e = e ∙ rw n

pub readable_long : (l : List ℕ) → longest < length l → readable l ≡ false
unfolding readable_under
readable_long l n = rw (lt-leb _ _ n)

and-false : (b : Bool) → (b && false) ≡ false
and-false false = refl
and-false true = refl

pub readable_foreign : (l : List ℕ) → hexadecimal l ≡ false → readable l ≡ false
unfolding readable_under
readable_foreign l n = rw (n, and-false (leb (length l) longest))

pub readable_above : (l : List ℕ) → last_frame < get_or (octets_of l) 0 0 → readable l ≡ false
unfolding readable_under
readable_above l n = rw (lt-leb _ _ n, and-false (hexadecimal l), and-false (leb (length l) longest))

pub readable_so : (l : List ℕ) → length l ≤ longest → hexadecimal l ≡ true → get_or (octets_of l) 0 0 ≤ last_frame → readable l ≡ true
unfolding readable_under
readable_so l n h f = rw (le-leb _ _ n, h, le-leb _ _ f)

-- digits are an even number, and not none
pub hexadecimal_some : (l : List ℕ) → hexadecimal l ≡ true → 0 < length l / 2
unfolding hexadecimal
hexadecimal_some l e =
    let p = (and-eq-true_iff (not (eqb (length l) 0)) (eqb (length l % 2) 0 && legible l)).0 e in
    let z : length l ≡ 0 → ⊥ = eqb-false _ _ (not-true _ p.0) in
    let o : length l % 2 ≡ 0 = eqb-true _ _ ((and-eq-true_iff (eqb (length l % 2) 0) (legible l)).0 p.1).0 in
    omega arith

tail_take : (b : List ℕ) (m : ℕ) → take (m - 1) (drop 1 b) ≡ drop 1 (take m b)
tail_take [] zero = refl
tail_take [] (suc m) = take-nil (suc m - 1)
tail_take (x ∷ b) zero = refl
tail_take (x ∷ b) (suc m) =
    let e : suc m - 1 ≡ m = omega arith in
    ap (λ (n : ℕ). take n b) e

module _ (h : Held) (l b : List ℕ) (x : Said) (n : length l ≤ longest) (d : hexadecimal l ≡ true) (w : take (length l / 2) b ≡ octets_of l) where
  first_byte : get_or b 0 0 ≡ get_or (octets_of l) 0 0
  first_byte = sym (get_or-take (length l / 2) b 0 0 (hexadecimal_some l d)) ∙ ap (λ (s : List ℕ). get_or s 0 0) w

  pub read_above : last_frame < get_or b 0 0 → x ≡ said (numbered h 13) → x ≡ said (answer_to h l)
  read_above f e = unread h l x (readable_above l (rw first_byte at f)) e

  pub read_done : get_or b 0 0 ≤ last_frame → x ≡ said (framed h (get_or b 0 0) (take (length l / 2 - 1) (drop 1 b))) → x ≡ said (answer_to h l)
  unfolding answer_to_under
  read_done f e =
      e
      ∙ ap₂ (λ (t : ℕ) (s : List ℕ). said (framed h t s)) first_byte (tail_take b (length l / 2) ∙ ap (drop 1) w)
      ∙ rw (readable_so l n d (rw first_byte at f))

-- the signs that are kept
pub answer_long : (h : Held) (line : List ℕ) (n : ℕ) (x : Said) → length line ≡ kept_signs → longest < n → x ≡ said (numbered h 13) → x ≡ said (answer_to h (take n line))
answer_long h line n x l g e = unread h (take n line) x (readable_long (take n line) (simp length-take (omega arith))) e

pub answer_foreign : (h : Held) (line : List ℕ) (n : ℕ) (x : Said) (b : Bool) → b ≡ hexadecimal (take n line) → not b ≡ true → x ≡ said (numbered h 13)
    → x ≡ said (answer_to h (take n line))
answer_foreign h line n x b f g e = unread h (take n line) x (readable_foreign (take n line) (sym f ∙ not-true _ g)) e
