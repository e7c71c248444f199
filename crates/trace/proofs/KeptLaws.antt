-- The words of the record's master keys that are kept from line to line. Assumes nothing.
use Prim.Native.Nat.{ℕ, zero, suc, ◌+◌, ◌≤◌}
use native.Mathlib.Omega.{arith}
use mathlib.Core.Path.{◌≡◌, refl, sym, ap, subst, ◌∙◌}
use mathlib.Core.Bool.{Bool, true, false, cond, false≢true}
use mathlib.Core.List.{List, [], ◌∷◌}
use lib.Dec.{eqb, leb}
use borrow.Author.Tests.{eqb-false}
use lib.ListN.{length, get_or, take, set}
use lib.Seq.{take_all}
use Rattle.derive.specs.Kept.{kept_words}
use Rattle.derive.proofs.Laws.{length-kept}
use Rattle.card.specs.Record.{Masters, masters}
use Rattle.card.specs.Words.{FitAll}
use Rattle.lines.specs.declared.Held.{Held}
use Rattle.lines.specs.Lines.{longest, hexadecimal, octet_of, octets_of, readable, readable_under}
use Rattle.lines.specs.Said.{said}
use Rattle.frames.proofs.MasterLaws.{masters_answer}
use Rattle.trace.specs.declared.Trace.{Trace}
use Rattle.trace.specs.declared.Fed.{Fed}
use Rattle.trace.specs.declared.Words.{Words}
use Rattle.trace.specs.Feeding.{line_of, extended, resting, completed, fed_from, fed}
use Rattle.trace.specs.Inner.{no_words, Holds, Ready, left_of}

-- none, and all
pub kept_none : (ws key : List ℕ) → length ws ≡ 256 → Holds ws 0 key
kept_none ws key l = record { size = l; most = omega arith; fits = λ e. absurd (omega arith) }

pub kept_all : (ws key : List ℕ) → ws ≡ kept_words key → Holds ws 256 key
kept_all ws key e =
    let l : length ws ≡ 256 = ap length e ∙ length-kept key in
    record { size = l; most = omega arith; fits = λ z. take_all 256 ws (omega arith) ∙ e }

pub kept_within : {ws : List ℕ} {n : ℕ} {key : List ℕ} → Holds ws n key → n ≤ length ws
kept_within k = let m = k.most in let l = k.size in omega arith

-- a line that does not begin with two digits 0 leaves the keys
first_octet : (c : ℕ) (l : List ℕ) → readable (take c l) ≡ true → get_or (octets_of (take c l)) 0 0 ≡ octet_of (get_or l 0 0) (get_or l 1 0)
unfolding readable_under hexadecimal octets_of
first_octet zero l e = absurd (false≢true e)
first_octet (suc zero) [] e = absurd (false≢true e)
first_octet (suc zero) (x ∷ l) e = absurd (false≢true e)
first_octet (suc (suc c)) [] e = absurd (false≢true e)
first_octet (suc (suc c)) (x ∷ []) e = absurd (false≢true e)
first_octet (suc (suc c)) (x ∷ y ∷ l) e = refl

abbrev first_of : Trace → ℕ
first_of t = octet_of (get_or t.line 0 0) (get_or t.line 1 0)

completed_masters : (t : Trace) (n : ℕ) → (first_of t ≡ 0 → ⊥) → masters (completed t n).trace.held.card ≡ masters t.held.card
unfolding completed line_of said
completed_masters t n h = masters_answer t.held (take t.count t.line) (λ e z. h (sym (first_octet t.count t.line e) ∙ z))

completed_line : (t : Trace) (n : ℕ) → (completed t n).trace.line ≡ t.line
unfolding completed
completed_line t n = refl

extended_held : (t : Trace) (b : ℕ) → (extended t b).held ≡ t.held
unfolding extended
extended_held t b = go (leb t.count longest)
  where
    go : (x : Bool) → (cond x (record { held = t.held; line = set t.line t.count b; count = t.count + 1 }) t).held ≡ t.held
    go true = refl
    go false = refl

fed_masters : (s : List ℕ) (t : Trace) (n : ℕ) → (first_of (fed_from t n s).trace ≡ 0 → ⊥) → masters (fed_from t n s).trace.held.card ≡ masters t.held.card
unfolding fed_from resting
fed_masters [] t n h = refl
fed_masters (b ∷ s) t n h = go (eqb b 10) h (fed_masters s (extended t b) (n + 1))
  where
    go : (x : Bool) → (first_of (cond x (completed t (n + 1)) (fed_from (extended t b) (n + 1) s)).trace ≡ 0 → ⊥)
        → ((first_of (fed_from (extended t b) (n + 1) s).trace ≡ 0 → ⊥) → masters (fed_from (extended t b) (n + 1) s).trace.held.card ≡ masters (extended t b).held.card)
        → masters (cond x (completed t (n + 1)) (fed_from (extended t b) (n + 1) s)).trace.held.card ≡ masters t.held.card
    go true g f = completed_masters t (n + 1) (λ e. g (ap (λ (l : List ℕ). octet_of (get_or l 0 0) (get_or l 1 0)) (completed_line t (n + 1)) ∙ e))
    go false g f = f g ∙ ap (λ (k : Held). masters k.card) (extended_held t b)

pub ready_none : (ac smi smc : List ℕ) (m : Masters) → length ac ≡ 256 → length smi ≡ 256 → length smc ≡ 256 → Ready ac smi smc no_words m
ready_none ac smi smc m a b c = record { of_ac = kept_none ac m.ac a; of_smi = kept_none smi m.smi b; of_smc = kept_none smc m.smc c }

pub ready_start : (ac smi smc : List ℕ) (k : Words) (m : Masters) → k ≡ no_words → length ac ≡ 256 → length smi ≡ 256 → length smc ≡ 256 → Ready ac smi smc k m
ready_start ac smi smc k m e a b c = subst (λ (j : Words). Ready ac smi smc j m) (sym e) (ready_none ac smi smc m a b c)

pub ready_next : {f g : Fed} {ac smi smc : List ℕ} {k : Words} → f ≡ g → Ready ac smi smc k (masters g.trace.held.card) → Ready ac smi smc k (masters f.trace.held.card)
ready_next {f} {g} {ac} {smi} {smc} {k} e r = subst (λ (x : Fed). Ready ac smi smc k (masters x.trace.held.card)) (sym e) r

pub fit_all : {ac smi smc : List ℕ} {k : Words} {m : Masters} → Ready ac smi smc k m → FitAll (take k.ac ac) (take k.smi smi) (take k.smc smc) m
fit_all r = (r.of_ac.fits, r.of_smi.fits, r.of_smc.fits)

-- what is left after a line fits the record after it
pub left_ready : (t : Trace) (s ac smi smc : List ℕ) (k n : Words) (f : Fed) → f ≡ fed t s → Ready ac smi smc k (masters t.held.card) → n ≡ left_of k (get_or f.trace.line 0 0) (get_or f.trace.line 1 0)
    → Ready ac smi smc n (masters (fed t s).trace.held.card)
left_ready t s ac smi smc k n f e r w = go (eqb (first_of (fed t s).trace) 0) refl (w ∙ ap (λ (g : Fed). left_of k (get_or g.trace.line 0 0) (get_or g.trace.line 1 0)) e)
  where
    go : (x : Bool) → eqb (first_of (fed t s).trace) 0 ≡ x → n ≡ cond x no_words k → Ready ac smi smc n (masters (fed t s).trace.held.card)
    go true z v =
        subst (λ (j : Words). Ready ac smi smc j (masters (fed t s).trace.held.card)) (sym v)
        (ready_none ac smi smc (masters (fed t s).trace.held.card) r.of_ac.size r.of_smi.size r.of_smc.size)
    go false z v =
        subst (λ (j : Words). Ready ac smi smc j (masters (fed t s).trace.held.card)) (sym v)
        (subst (λ (m : Masters). Ready ac smi smc k m) (sym (fed_masters s t 0 (eqb-false _ _ z))) r)
