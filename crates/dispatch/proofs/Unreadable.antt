-- A line is answered 13 exactly when it cannot be read. Assumes nothing.
use Prim.Native.Nat.{ℕ, zero, suc, ◌≤◌}
use native.Mathlib.Omega.{arith}
use mathlib.Core.Path.{◌≡◌, refl, sym, ap, ◌∙◌}
use mathlib.Core.Bool.{Bool, true, false, not, ◌&&◌, ◌||◌, cond, false≢true}
use mathlib.Core.Logic.{◌↔◌}
use mathlib.Core.List.{List, [], ◌∷◌}
use lib.Dec.{eqb, leb}
use lib.ListN.{length, get_or, drop}
use Rattle.answers.specs.declared.Refusal.{Refusal}
use Rattle.answers.specs.declared.Refusal.TheVariants.{Input, ShapeWrong, PhaseWrong, CounterFull, CodeDiffers, PinFormat, SpoiltClosed, ArpcDiffers, NoTries, WrongPin}
use Rattle.answers.specs.Refusals.{number}
use Rattle.octets.specs.Same.{same}
use Rattle.pin.specs.Answers.{read_block, decipher_pin}
use Rattle.shapes.specs.declared.command.Command.{Command}
use Rattle.std.specs.Prelude.{Result, Ok, Err, is_err}
use Rattle.shapes.specs.Shape.{length_of, tag_of, shape}
use Rattle.shapes.specs.Command.{command_of}
use Rattle.shapes.proofs.CommandLaws.{why_unlisted_lem}
use Rattle.transaction.specs.Transaction.{is_open, is_arqc}
use Rattle.card.specs.declared.Card.{Card}
use Rattle.card.specs.Keys.{smc_key}
use Rattle.card.specs.Record.{sound, full_tries}
use Rattle.card.specs.Calls.{Call, Open, IssuerAnswer, Script, Close, Withdraw, Counters, strikes, Verdict, refuse, accept, first_struck, read, unlisted, why_unlisted, unread, judged_script, arpc_for, judged, judged_under, Answer as CallAnswer, only, gives, due_by, due, due_under, CheckPin, is_kept}
use Rattle.card.specs.Personalise.{fresh, loading, loaded_by, personalised}
use Rattle.lines.specs.declared.Held.{Held}
use Rattle.lines.specs.Lines.{last_frame, octets_of, readable}
use Rattle.lines.specs.Answers.{LineAnswer, octets_for}
use Rattle.frames.specs.Frames.{overlong, answer_to, answer_to_under}
use Rattle.history.specs.Run.{Loading, personalised_with, did, frame, ours}
use Rattle.dispatch.specs.Dispatch.{Frame, unreadable, misfit, personalise, call, surplus, loading_in, alone, frame_of}
use Rattle.dispatch.specs.Behind.{HeldBy, with_record, AnswerBy, number_by, octets_in, answered}
use Rattle.dispatch.specs.Statement.{of_held, as_answer}
use Rattle.dispatch.proofs.Ours.{by_frame, first_small}

-- no refusal of the card is 13, and what is accepted is 0
abbrev thirteen : ℕ → Bool
thirteen n = eqb n 13

abbrev as_thirteen : Verdict → Bool
as_thirteen (refuse q) = thirteen (number q)
as_thirteen accept = false

not_unlisted : (h : List ℕ) (tag n : ℕ) → thirteen (number (why_unlisted (command_of h tag n))) ≡ false
not_unlisted h tag n = go (command_of h tag n) refl
  where
    go : (l : Result Command Refusal) → command_of h tag n ≡ l → thirteen (number (why_unlisted l)) ≡ false
    go (Ok c) e = refl
    go (Err q) e = ap (λ (w : Refusal). thirteen (number w)) (why_unlisted_lem h tag n q e)

two : (a b : Bool) (q w : Refusal) → thirteen (number q) ≡ false → thirteen (number w) ≡ false
    → as_thirteen (first_struck (strikes a q ∷ strikes b w ∷ [])) ≡ false
two true b q w e f = e
two false true q w e f = f
two false false q w e f = refl

three : (a b c : Bool) (q w x : Refusal) → thirteen (number q) ≡ false → thirteen (number w) ≡ false → thirteen (number x) ≡ false
    → as_thirteen (first_struck (strikes a q ∷ strikes b w ∷ strikes c x ∷ [])) ≡ false
three true b c q w x e f g = e
three false b c q w x e f g = two b c w x f g

not_judged : (r : Card) (c : Call) → as_thirteen (judged r c) ≡ false
unfolding judged_under judged_script
not_judged r (Open d) =
    three (is_open r.transaction.phase) (not (eqb (length d) 65)) (eqb r.atc 65535 || eqb r.counters.session 65535) PhaseWrong Input CounterFull refl refl refl
not_judged r (IssuerAnswer x u) =
    three (not (is_arqc r.transaction.phase)) (not (eqb (length x) 8 && eqb (length u) 4)) (not (same x (arpc_for r u))) PhaseWrong Input ArpcDiffers refl refl refl
not_judged r (Script h m) =
    go (not (is_open r.transaction.phase)) (not (eqb (length h) 4)) (not (shape m)) (unlisted (command_of h (tag_of m) (length_of m)))
  where
    go : (o l x u : Bool)
        → as_thirteen
        (first_struck
        (strikes o PhaseWrong
        ∷ strikes l Input
        ∷ strikes x ShapeWrong
        ∷ strikes u (why_unlisted (command_of h (tag_of m) (length_of m)))
        ∷ strikes (eqb r.counters.failures 65535) CounterFull
        ∷ strikes (not (read r h m).coded) CodeDiffers
        ∷ strikes (unread (read r h m).command (read r h m).block) PinFormat
        ∷ [])) ≡ false
    go true l x u = refl
    go false true x u = refl
    go false false true u = refl
    go false false false true = not_unlisted h (tag_of m) (length_of m)
    go false false false false =
        three (eqb r.counters.failures 65535) (not (read r h m).coded) (unread (read r h m).command (read r h m).block) CounterFull CodeDiffers PinFormat refl refl refl
not_judged r Close = two (not (is_open r.transaction.phase)) r.transaction.spoilt PhaseWrong SpoiltClosed refl refl
not_judged r Withdraw = refl
not_judged r (CheckPin b) =
    six (not (is_open r.transaction.phase)) (not (eqb (length b) 8)) (eqb r.tries 0) (eqb r.counters.decipherments 65535)
    (is_err (decipher_pin (smc_key r) b)) (not (is_kept r (decipher_pin (smc_key r) b)))
  where
    six : (o l t f p k : Bool)
        → as_thirteen
        (first_struck
        (strikes o PhaseWrong
        ∷ strikes l Input
        ∷ strikes t NoTries
        ∷ strikes f CounterFull
        ∷ strikes p PinFormat
        ∷ strikes k WrongPin
        ∷ [])) ≡ false
    six true l t f p k = refl
    six false true t f p k = refl
    six false false true f p k = refl
    six false false false f p k = three f p k CounterFull PinFormat WrongPin refl refl refl
not_judged r Counters = two (not (is_open r.transaction.phase)) false PhaseWrong PhaseWrong refl refl

not_given : (r : Card) (c : Call) → thirteen (gives r c).number ≡ false
not_given r (Open d) = refl
not_given r (IssuerAnswer x u) = refl
not_given r (Script h m) = refl
not_given r Close = refl
not_given r Withdraw = refl
not_given r Counters = refl
not_given r (CheckPin b) = refl

not_due : (r : Card) (c : Call) → thirteen (due r c).number ≡ false
unfolding due_under
not_due r c = go (sound r) (judged r c) (not_judged r c)
  where
    go : (b : Bool) (v : Verdict) → as_thirteen v ≡ false → thirteen (cond b (due_by r c v) (only (number Input))).number ≡ false
    go true (refuse q) e = e
    go true accept e = not_given r c
    go false v e = refl

not_loaded : (x : Loading) → thirteen (personalised_with x).code ≡ false
unfolding personalised
not_loaded x =
    go (loading x.mark x.block x.tries)
    (three (not (leb x.mark 1)) (not (leb x.tries full_tries)) (is_err (read_block x.block)) Input Input PinFormat refl refl refl)
  where
    go : (v : Verdict) → as_thirteen v ≡ false → thirteen (loaded_by (fresh x.ac x.smi x.smc x.atc x.counters x.mark x.block x.tries) v).code ≡ false
    go (refuse q) e = e
    go accept e = refl

-- the first octet of an answer
first : List ℕ → ℕ
first [] = 0
first (x ∷ t) = x

first_octet : (c : Call) (a : CallAnswer) → thirteen a.number ≡ false → thirteen (first (octets_in (did c a))) ≡ false
unfolding octets_for first
first_octet c a e = go (eqb a.number 0) (eqb (frame c) 1) (eqb (frame c) 6)
  where
    go : (z o s : Bool) → thirteen (first (cond z (cond o (0 ∷ a.kind ∷ a.bytes) (cond s (0 ∷ a.bytes) (0 ∷ []))) (a.number ∷ []))) ≡ false
    go true true s = refl
    go true false true = refl
    go true false false = refl
    go false o s = e

-- whether a frame can be read
is_read : Frame → Bool
is_read unreadable = false
is_read misfit = true
is_read (personalise x) = true
is_read (call c) = true
is_read (surplus c s) = true

not_answered : (h : HeldBy ours) (f : Frame) → is_read f ≡ true → thirteen (first (answered ours h f).octets) ≡ false
unfolding answered first is_read overlong
not_answered h unreadable p = absurd (false≢true p)
not_answered h misfit p = refl
not_answered h (personalise x) p = go (eqb (personalised_with x).code 0)
  where
    go : (e : Bool)
        → thirteen (first (cond e (number_by ours (with_record ours (ours.start x)) 0) (number_by ours h (personalised_with x).code)).octets) ≡ false
    go true = refl
    go false = not_loaded x
not_answered h (call c) p = go h.exists
  where
    told : AnswerBy ours
    told = record { after = with_record ours (ours.after h.state c); octets = octets_in (did c (due h.state c)) }

    go : (e : Bool) → thirteen (first (cond e told (number_by ours h 6)).octets) ≡ false
    go true = first_octet c (due h.state c) (not_due h.state c)
    go false = refl
not_answered h (surplus c s) p = go h.exists (eqb (frame c) 5) (sound h.state && not (is_open h.state.transaction.phase))
  where
    go : (e five b : Bool) → thirteen (cond e (cond five 1 (cond b 6 1)) 6) ≡ false
    go true true b = refl
    go true false true = refl
    go true false false = refl
    go false five b = refl

alone_read : (c : Call) (s : List ℕ) → is_read (alone c s) ≡ true
unfolding is_read
alone_read c s = go (eqb (length s) 0)
  where
    go : (e : Bool) → is_read (cond e (call c) (surplus c s)) ≡ true
    go true = refl
    go false = refl

frame_read : (f : ℕ) (s : List ℕ) → f ≤ last_frame → is_read (frame_of f s) ≡ true
unfolding frame_of is_read
frame_read zero s p = go (eqb (length s) 115 || eqb (length s) 116)
  where
    go : (e : Bool) → is_read (cond e (personalise (loading_in s)) misfit) ≡ true
    go true = refl
    go false = refl
frame_read (suc zero) s p = refl
frame_read (suc (suc zero)) s p = refl
frame_read (suc (suc (suc zero))) s p = refl
frame_read (suc (suc (suc (suc zero)))) s p = alone_read Close s
frame_read (suc (suc (suc (suc (suc zero))))) s p = alone_read Withdraw s
frame_read (suc (suc (suc (suc (suc (suc zero)))))) s p = alone_read Counters s
frame_read (suc (suc (suc (suc (suc (suc (suc zero))))))) s p = refl
frame_read (suc (suc (suc (suc (suc (suc (suc (suc f)))))))) s p = absurd (omega arith)

pub of_unreadable : (h : Held) (l : List ℕ) → ((answer_to h l).octets ≡ 13 ∷ []) ↔ (readable l ≡ false)
unfolding answer_to_under first
of_unreadable h l = (go (readable l) refl, λ e. rw e)
  where
    go : (e : Bool) → readable l ≡ e → (answer_to h l).octets ≡ 13 ∷ [] → readable l ≡ false
    go false e p = e
    go true e p =
        let f = get_or (octets_of l) 0 0 in
        let s = drop 1 (octets_of l) in
        let w : answer_to h l ≡ as_answer (answered ours (of_held h) (frame_of f s)) = rw e (by_frame h f s (first_small l e)) in
        let n = not_answered (of_held h) (frame_of f s) (frame_read f s (first_small l e)) in
        absurd (false≢true (sym n ∙ ap (λ (a : LineAnswer). thirteen (first a.octets)) (sym w) ∙ ap (λ (t : List ℕ). thirteen (first t)) p))
