-- Feeding again what a full buffer left: the trace goes on as if it had been fed at once, and so do the answers; and what an error leaves. Assumes nothing.
use Prim.Native.Nat.{ℕ, ◌+◌, ◌-◌}
use native.Mathlib.Nat.{zero-add}
use mathlib.Core.Path.{◌≡◌, sym, ap, ap₂, ◌∙◌, subst}
use Rattle.std.proofs.Common.{Option, Some, None, IfSome, ◌<◌, ◌^◌, arith, length-append}
use mathlib.Core.Logic.{inl, inr}
use Rattle.clerk.specs.Answered.{Answered, AppendsSome}
use Rattle.trace.specs.Traced.{traced}
use Rattle.std.specs.Io.KnownBytes.{Appends, Consumes}
use Rattle.std.proofs.KnownBytes.{Appends-trans}
use mathlib.Core.List.{List, [], ◌∷◌, ◌++◌, append-nil}
use Rattle.std.proofs.Common.{append_assoc, Result, Ok, Err, OnErr, OnOk}
use lib.ListN.{length, take, drop, take-append-drop}
use lib.Seq.{take-append_seam}
use Rattle.trace.specs.declared.Trace.{Trace}
use Rattle.trace.specs.declared.Filled.{Filled}
use Rattle.trace.specs.Feeding.{begun, ended, answer_in, after_all, answers_all, Filling, filling, Fills}
use Rattle.trace.proofs.TraceLaws.{fed_fed, traced_fed}
use Rattle.trace.proofs.FillLaws.{Ran, run_law}
use Rattle.frames.proofs.FrameLaws.{rest_all}

pub goes_on : (t : Trace) (s d₀ d : List ℕ) (r : Filled) → Fills (filling (length d₀) t s) d₀ r d → after_all r.trace (drop r.taken s) ≡ after_all t s
goes_on t s d₀ d r f =
    let a : Ran (length d₀) t 0 [] s (filling (length d₀) t s) = run_law (length d₀) t s in
    let x : r.taken ≡ a.count = ap (λ (y : Filled). y.taken) f.answer ∙ a.taken ∙ zero-add a.count in
    let e : r.trace ≡ after_all t (take a.count s) = ap (λ (y : Filled). y.trace) f.answer ∙ a.trace in
    ap₂ after_all e (ap (λ (k : ℕ). drop k s) x) ∙ sym (fed_fed t (take a.count s) (drop a.count s)).0 ∙ ap (after_all t) (take-append-drop a.count s)

-- the rest of a block, fed again
pub goes_on_rest : (t t₀ : Trace) (s b d₀ d : List ℕ) (r : Filled) → Fills (filling (length d₀) t s) d₀ r d → after_all t s ≡ after_all t₀ b
    → after_all r.trace (take (length s - r.taken) (drop r.taken s)) ≡ after_all t₀ b
goes_on_rest t t₀ s b d₀ d r f e = ap (after_all r.trace) (rest_all r.taken s) ∙ goes_on t s d₀ d r f ∙ e

-- a block used up
pub used_up : (t t₀ : Trace) (s b : List ℕ) → length s ≡ 0 → after_all t s ≡ after_all t₀ b → t ≡ after_all t₀ b
unfolding after_all
used_up t t₀ [] b h e = e
used_up t t₀ (x ∷ s) b h e = absurd (omega arith)

-- what is written, and what is to be written for the rest
pub says_on : (t : Trace) (s d₀ d : List ℕ) (r : Filled) → Fills (filling (length d₀) t s) d₀ r d
    → take r.written d ++ answers_all r.trace (drop r.taken s) ≡ answers_all t s
says_on t s d₀ d r f =
    let q : Filling = filling (length d₀) t s in
    let a : Ran (length d₀) t 0 [] s q = run_law (length d₀) t s in
    let x : r.taken ≡ a.count = ap (λ (y : Filled). y.taken) f.answer ∙ a.taken ∙ zero-add a.count in
    let e : r.trace ≡ after_all t (take a.count s) = ap (λ (y : Filled). y.trace) f.answer ∙ a.trace in
    let w : take r.written d ≡ q.text = ap₂ take (ap (λ (y : Filled). y.written) f.answer) f.bytes ∙ take-append_seam q.text _ in
    ap₂ (λ (u v : List ℕ). u ++ v) (w ∙ a.text) (ap₂ answers_all e (ap (λ (k : ℕ). drop k s) x))
    ∙ sym (fed_fed t (take a.count s) (drop a.count s)).1
    ∙ ap (answers_all t) (take-append-drop a.count s)

pub says_on_rest : (t : Trace) (s d₀ d : List ℕ) (r : Filled) → Fills (filling (length d₀) t s) d₀ r d
    → take r.written d ++ answers_all r.trace (take (length s - r.taken) (drop r.taken s)) ≡ answers_all t s
says_on_rest t s d₀ d r f =
    ap (λ (x : List ℕ). take r.written d ++ answers_all r.trace x) (rest_all r.taken s) ∙ says_on t s d₀ d r f

pub said_all : (t t₀ : Trace) (s b w : List ℕ) → length s ≡ 0 → w ++ answers_all t s ≡ answers_all t₀ b → w ≡ answers_all t₀ b
unfolding answers_all
said_all t t₀ [] b w h e = sym (append-nil w) ∙ e
said_all t t₀ (x ∷ s) b w h e = absurd (omega arith)

-- what a block adds to what was answered before it
pub said_more : (o u v : Option (List ℕ)) (t : Trace) (bs p : List ℕ) → t ≡ after_all begun bs → Appends o u (answers_all begun bs) → Appends u v (answers_all t p)
    → Appends o v (answers_all begun (bs ++ p))
said_more o u v t bs p e a b =
    let x : answers_all begun (bs ++ p) ≡ answers_all begun bs ++ answers_all t p =
    (fed_fed begun bs p).1 ∙ ap (λ (s : Trace). answers_all begun bs ++ answers_all s p) (sym e)
    in
    subst (Appends o v) (sym x) (Appends-trans o u v (answers_all begun bs) (answers_all t p) a b)

-- all that a reader has, answered, and the answer at its end: the whole output
pub whole : (a b o u v : Option (List ℕ)) (t : Trace) → Answered a b o u t → Appends u v (answer_in (ended t))
    → IfSome a (λ (input : List ℕ). length input < 2 ^ 64 - 1 → Appends o v (traced input))
whole None b o u v t x w = tt
whole (Some s) None o u v t x w = absurd x.read
whole (Some s) (Some r) o u v t x w =
    λ h.
    let m : length s ≡ length x.bytes + length r = ap length x.read ∙ length-append x.bytes r in
    let e : s ≡ x.bytes =
    elim x.all [
      | inl n ↦ x.read ∙ ap (λ (y : List ℕ). x.bytes ++ y) n ∙ append-nil x.bytes
      | inr n ↦ absurd (omega arith)
    ]
    in
    let y : answers_all begun x.bytes ++ answer_in (ended t) ≡ traced s =
    ap (λ (z : Trace). answers_all begun x.bytes ++ answer_in (ended z)) x.trace ∙ traced_fed x.bytes ∙ ap traced (sym e)
    in
    subst (Appends o v) y (Appends-trans o u v (answers_all begun x.bytes) (answer_in (ended t)) x.written w)

-- ---- what an error leaves

-- what a function says of its error, where it hands on another's
pub at_error : {T E P : Type 0} (r : Result T E) → P → OnErr r P
at_error (Ok x) p = tt
at_error (Err e) p = p

-- what it says more of its answer, where it hands on another's
pub ok_more : {T E P Q : Type 0} (r : Result T E) → (P → Q) → OnOk r P → OnOk r Q
ok_more (Ok x) f p = f p
ok_more (Err e) f p = tt

pub err_more : {T E P Q : Type 0} (r : Result T E) → (P → Q) → OnErr r P → OnErr r Q
err_more (Ok x) f p = tt
err_more (Err e) f p = f p

-- the front of some bytes, appended
pub some_of : (o v : Option (List ℕ)) (all done rest : List ℕ) → all ≡ done ++ rest → Appends o v done → AppendsSome o v all
some_of o v all done rest e a = (length done, subst (Appends o v) (sym (ap (take (length done)) e ∙ take-append_seam done rest)) a)

pub some_all : (o v : Option (List ℕ)) (all : List ℕ) → Appends o v all → AppendsSome o v all
some_all o v all a = some_of o v all all [] (sym (append-nil all)) a

-- a beginning of the front
pub some_wider : (o v : Option (List ℕ)) (all front rest : List ℕ) → all ≡ front ++ rest → AppendsSome o v front → AppendsSome o v all
some_wider o v all front rest e a =
    some_of o v all (take a.0 front) (drop a.0 front ++ rest)
    (e ∙ ap (λ (s : List ℕ). s ++ rest) (sym (take-append-drop a.0 front)) ∙ append_assoc (take a.0 front) (drop a.0 front) rest)
    a.1

-- the front, and then a beginning of the rest
pub some_more : (o u v : Option (List ℕ)) (all front rest : List ℕ) → all ≡ front ++ rest → Appends o u front → AppendsSome u v rest → AppendsSome o v all
some_more o u v all front rest e a b =
    some_of o v all (front ++ take b.0 rest) (drop b.0 rest)
    (e ∙ ap (λ (s : List ℕ). front ++ s) (sym (take-append-drop b.0 rest)) ∙ sym (append_assoc front (take b.0 rest) (drop b.0 rest)))
    (Appends-trans o u v front (take b.0 rest) a b.1)

-- what a block adds, where a beginning of its answers was written
pub said_some_more : (o u v : Option (List ℕ)) (t : Trace) (bs p : List ℕ) → t ≡ after_all begun bs → Appends o u (answers_all begun bs) → AppendsSome u v (answers_all t p)
    → AppendsSome o v (answers_all begun (bs ++ p))
said_some_more o u v t bs p e a b =
    let x : answers_all begun (bs ++ p) ≡ answers_all begun bs ++ answers_all t p =
    (fed_fed begun bs p).1 ∙ ap (λ (s : Trace). answers_all begun bs ++ answers_all s p) (sym e)
    in
    some_more o u v _ (answers_all begun bs) (answers_all t p) x a b

-- a beginning of the answers to what was read is one of the answers to all that a reader has
pub said_some : (a b o v : Option (List ℕ)) (bs : List ℕ) → Consumes a b bs → AppendsSome o v (answers_all begun bs)
    → IfSome a (λ (input : List ℕ). AppendsSome o v (answers_all begun input))
said_some None b o v bs p s = tt
said_some (Some x) None o v bs p s = absurd p
said_some (Some x) (Some y) o v bs p s =
    some_wider o v (answers_all begun x) (answers_all begun bs) (answers_all (after_all begun bs) y) (ap (answers_all begun) p ∙ (fed_fed begun bs y).1) s

-- and one of the whole output
pub traced_some : (a o v : Option (List ℕ)) → IfSome a (λ (input : List ℕ). AppendsSome o v (answers_all begun input))
    → IfSome a (λ (input : List ℕ). length input < 2 ^ 64 - 1 → AppendsSome o v (traced input))
traced_some None o v s = tt
traced_some (Some x) o v s = λ h. some_wider o v (traced x) (answers_all begun x) (answer_in (ended (after_all begun x))) (sym (traced_fed x)) s

-- all that a reader has, answered, and a beginning of the answer at its end
pub whole_some : (a b o u v : Option (List ℕ)) (t : Trace) → Answered a b o u t → AppendsSome u v (answer_in (ended t))
    → IfSome a (λ (input : List ℕ). length input < 2 ^ 64 - 1 → AppendsSome o v (traced input))
whole_some None b o u v t x w = tt
whole_some (Some s) None o u v t x w = absurd x.read
whole_some (Some s) (Some r) o u v t x w =
    λ h.
    let m : length s ≡ length x.bytes + length r = ap length x.read ∙ length-append x.bytes r in
    let e : s ≡ x.bytes =
    elim x.all [
      | inl n ↦ x.read ∙ ap (λ (y : List ℕ). x.bytes ++ y) n ∙ append-nil x.bytes
      | inr n ↦ absurd (omega arith)
    ]
    in
    let y : traced s ≡ answers_all begun x.bytes ++ answer_in (ended t) =
    ap traced e ∙ sym (traced_fed x.bytes) ∙ ap (λ (z : Trace). answers_all begun x.bytes ++ answer_in (ended z)) (sym x.trace)
    in
    some_more o u v (traced s) (answers_all begun x.bytes) (answer_in (ended t)) y x.written w
