-- Our trace is our box behind the frames. Assumes nothing.
use Prim.Native.Nat.{ℕ, zero, suc, ◌≤◌}
use native.Mathlib.Omega.{arith}
use mathlib.Core.Path.{◌≡◌, refl, ap, ◌∙◌}
use mathlib.Core.Bool.{Bool, true, false, not, ◌&&◌, ◌||◌, cond, and-eq-true_iff}
use mathlib.Core.List.{List, [], ◌∷◌, ◌++◌, map, flat_map}
use lib.Dec.{eqb, leb}
use lib.ListN.{length, get_or, take, drop}
use borrow.Author.Tests.{leb-true}
use Rattle.transaction.specs.Transaction.{is_open}
use Rattle.card.specs.declared.Card.{Card}
use Rattle.card.specs.declared.Reply.{Reply}
use Rattle.card.specs.Record.{sound}
use Rattle.card.specs.Calls.{Call, Open, IssuerAnswer, Script, Close, Withdraw, Counters, plain, step, CheckPin}
use Rattle.card.specs.Personalise.{blank}
use Rattle.lines.specs.declared.Held.{Held}
use Rattle.lines.specs.Lines.{longest, last_frame, hexadecimal, octets_of, readable, readable_under, lines, line_for}
use Rattle.lines.specs.Answers.{nothing, LineAnswer, numbered, octets_for, replied}
use Rattle.frames.specs.Frames.{personalised_by_under, starts as startsNow, overlong, called_under, calling_under, framed, framed_under, answer_to, answer_to_under}
use Rattle.trace.specs.Traced.{answers, answers_under, traced, traced_under}
use Rattle.history.specs.Run.{Loading, personalised_with, frame, ours}
use Rattle.dispatch.specs.Dispatch.{Frame, unreadable, misfit, personalise, call, surplus, loading_in, alone, frame_of, frame_in}
use Rattle.dispatch.specs.Behind.{with_record, number_by, surplus_number, answered, after_frames, answers_to, traced_by}
use Rattle.dispatch.specs.Statement.{of_held, as_answer, after_lines}

abbrev held : Bool → Card → Held
held e r = record { exists = e; card = r }

-- what is answered to a frame that is known
abbrev now : Held → Frame → LineAnswer
now h f = as_answer (answered ours (of_held h) f)

loads_so : (h : Held) (x : Loading) → startsNow h (personalised_with x) ≡ now h (personalise x)
unfolding startsNow answered
loads_so h x = go (eqb (personalised_with x).code 0)
  where
    go : (e : Bool) → cond e (numbered (held true (personalised_with x).card) 0) (numbered h (personalised_with x).code)
        ≡ as_answer (cond e (number_by ours (with_record ours (personalised_with x).card) 0) (number_by ours (of_held h) (personalised_with x).code))
    go true = refl
    go false = refl

misfit_so : (h : Held) → startsNow h (plain blank 1) ≡ now h misfit
unfolding startsNow answered
misfit_so h = refl

call_so : (h : Held) (c : Call) → cond h.exists (replied (frame c) (step h.card c)) (numbered h 6) ≡ now h (call c)
unfolding answered replied octets_for
call_so h c = go h.exists h.card
  where
    go : (e : Bool) (r : Card) → cond e (replied (frame c) (step r c)) (numbered (held e r) 6) ≡ now (held e r) (call c)
    go true r = refl
    go false r = refl

-- a frame with bytes after its first is answered by a number
abbrev surplus_to : Card → Call → Reply
surplus_to r c = plain r (surplus_number r c)

one_or_six : (f : ℕ) (r : Card) (e : Bool) → octets_for f (plain r (cond e 6 1)) ≡ cond e 6 1 ∷ []
unfolding octets_for
one_or_six f r true = refl
one_or_six f r false = refl

surplus_octets : (r : Card) (c : Call) → octets_for (frame c) (surplus_to r c) ≡ surplus_number r c ∷ []
unfolding overlong
surplus_octets r c = go (eqb (frame c) 5) (sound r && not (is_open r.transaction.phase))
  where
    go : (five e : Bool) → octets_for (frame c) (plain r (cond five 1 (cond e 6 1))) ≡ cond five 1 (cond e 6 1) ∷ []
    go true e = one_or_six (frame c) r false
    go false e = one_or_six (frame c) r e

surplus_so : (h : Held) (c : Call) (s : List ℕ) → cond h.exists (replied (frame c) (surplus_to h.card c)) (numbered h 6) ≡ now h (surplus c s)
unfolding answered replied
surplus_so h c s = go h.exists h.card
  where
    go : (e : Bool) (r : Card) → cond e (replied (frame c) (surplus_to r c)) (numbered (held e r) 6) ≡ now (held e r) (surplus c s)
    go true r = ap (λ (t : List ℕ). record { after = held true r; octets = t }) (surplus_octets r c)
    go false r = refl

-- a frame that stands alone, or has bytes after its first
alone_so : (h : Held) (c : Call) (s : List ℕ)
    → cond h.exists (replied (frame c) (cond (eqb (length s) 0) (step h.card c) (surplus_to h.card c))) (numbered h 6) ≡ now h (alone c s)
alone_so h c s = go (eqb (length s) 0) refl
  where
    go : (e : Bool) → eqb (length s) 0 ≡ e
        → cond h.exists (replied (frame c) (cond (eqb (length s) 0) (step h.card c) (surplus_to h.card c))) (numbered h 6) ≡ now h (alone c s)
    go true e = rw e (call_so h c)
    go false e = rw e (surplus_so h c s)

pub by_frame : (h : Held) (f : ℕ) (s : List ℕ) → f ≤ last_frame → framed h f s ≡ now h (frame_of f s)
unfolding framed_under frame_of calling_under called_under personalised_by_under overlong
by_frame h zero s p = go (eqb (length s) 115 || eqb (length s) 116)
  where
    go : (e : Bool) → startsNow h (cond e (personalised_with (loading_in s)) (plain blank 1)) ≡ now h (cond e (personalise (loading_in s)) misfit)
    go true = loads_so h (loading_in s)
    go false = misfit_so h
by_frame h (suc zero) s p = call_so h (Open s)
by_frame h (suc (suc zero)) s p = call_so h (IssuerAnswer (take 8 s) (drop 8 s))
by_frame h (suc (suc (suc zero))) s p = call_so h (Script (take 4 s) (drop 4 s))
by_frame h (suc (suc (suc (suc zero)))) s p = alone_so h Close s
by_frame h (suc (suc (suc (suc (suc zero))))) s p = alone_so h Withdraw s
by_frame h (suc (suc (suc (suc (suc (suc zero)))))) s p = alone_so h Counters s
by_frame h (suc (suc (suc (suc (suc (suc (suc zero))))))) s p = call_so h (CheckPin s)
by_frame h (suc (suc (suc (suc (suc (suc (suc (suc f)))))))) s p = absurd (omega arith)

pub first_small : (l : List ℕ) → readable l ≡ true → get_or (octets_of l) 0 0 ≤ last_frame
unfolding readable_under
first_small l e =
    let a = (and-eq-true_iff (leb (length l) longest) _).0 e in
    leb-true _ _ ((and-eq-true_iff (hexadecimal l) _).0 a.1).1

pub of_line : (h : Held) (l : List ℕ) → answer_to h l ≡ as_answer (answered ours (of_held h) (frame_in l))
unfolding answer_to_under frame_in answered
of_line h l = go (readable l) refl
  where
    go : (e : Bool) → readable l ≡ e
        → cond e (framed h (get_or (octets_of l) 0 0) (drop 1 (octets_of l))) (numbered h 13)
        ≡ now h (cond e (frame_of (get_or (octets_of l) 0 0) (drop 1 (octets_of l))) unreadable)
    go true e = by_frame h _ _ (first_small l e)
    go false e = refl

-- line after line
pub after_lines_lem : (h : Held) (ls : List (List ℕ)) → of_held (after_lines h ls) ≡ after_frames ours (of_held h) (map frame_in ls)
unfolding after_lines after_frames
after_lines_lem h [] = refl
after_lines_lem h (l ∷ ls) =
    after_lines_lem (answer_to h l).after ls ∙ ap (λ (a : LineAnswer). after_frames ours (of_held a.after) (map frame_in ls)) (of_line h l)

of_answers : (h : Held) (ls : List (List ℕ)) → answers h ls ≡ flat_map line_for (answers_to ours (of_held h) (map frame_in ls))
unfolding answers_under answers_to flat_map
of_answers h [] = refl
of_answers h (l ∷ ls) =
    ap (λ (t : List ℕ). line_for (answer_to h l).octets ++ t) (of_answers (answer_to h l).after ls)
    ∙ ap (λ (a : LineAnswer). line_for a.octets ++ flat_map line_for (answers_to ours (of_held a.after) (map frame_in ls))) (of_line h l)

pub of_trace : (text : List ℕ) → traced text ≡ traced_by ours blank text
unfolding traced_under traced_by
of_trace text = of_answers nothing (lines text)
