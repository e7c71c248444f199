use Rattle.std.proofs.Common.{◌≡◌, ◌≤◌, ℕ, List, length}
use Rattle.std.specs.Io.KnownBytes.{Appends, Consumes}
use Rattle.lines.specs.Said.{longest_answer}
use Rattle.trace.specs.Feeding.{begun, after_all, answers_all}
use Rattle.clerk.proofs.answer_all.Given as goal

abbrev pub invariant-loop : goal.invariant-loop
invariant-loop g l = (longest_answer ≤ length l.out) × ((bs : List ℕ) × Consumes (g.R.Read.remaining l.initial.from) (g.R.Read.remaining l.from) bs × (l.t ≡ after_all begun bs) × Appends (g.W.Write.contents l.initial.to) (g.W.Write.contents l.to) (answers_all begun bs) × (l.counter ≤ length bs))
