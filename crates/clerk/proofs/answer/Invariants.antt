use Rattle.std.proofs.Common.{◌≡◌, ◌≤◌, ◌++◌, ℕ, List, length}
use Rattle.std.specs.Io.KnownBytes.{Appends}
use Rattle.lines.specs.Said.{longest_answer}
use Rattle.trace.specs.Feeding.{after_all, answers_all}
use Rattle.clerk.proofs.answer.Given as goal

abbrev pub invariant-loop-rest : goal.invariant-loop-rest
invariant-loop-rest g l = (longest_answer ≤ length l.out) × (after_all l.t l.rest ≡ after_all l.initial.t l.block) × ((ws : List ℕ) × Appends (g.W.Write.contents l.initial.to) (g.W.Write.contents l.to) ws × (ws ++ answers_all l.t l.rest ≡ answers_all l.initial.t l.block))

abbrev pub decreases-loop-rest : goal.decreases-loop-rest
decreases-loop-rest g l = length l.rest
