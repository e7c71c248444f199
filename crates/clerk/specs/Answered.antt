-- What was read and what was written for it, where a reader's bytes and a writer's are known. Assumes nothing.
use Rattle.std.specs.Prelude.{ℕ, ◌≡◌, ◌≤◌, List, Option, ◌⊎◌, ◌-◌, ◌^◌, length, take}
use Rattle.std.specs.Io.KnownBytes.{Appends, Consumes, IsAtEnd}
use Rattle.trace.specs.declared.Trace.{Trace}
use Rattle.trace.specs.Feeding.{begun, after_all, answers_all}

-- the bytes that were read were fed, all their answers were written, and t is the trace after them
pub record Answered (from from' to to' : Option (List ℕ)) (t : Trace) : Type 0 where
  pub bytes : List ℕ
  pub read : Consumes from from' bytes
  pub trace : t ≡ after_all begun bytes
  pub written : Appends to to' (answers_all begun bytes)
  pub all : IsAtEnd from' ⊎ (2 ^ 64 - 1 ≤ length bytes)

-- a beginning of bs was appended, and nothing else
abbrev pub AppendsSome : Option (List ℕ) → Option (List ℕ) → List ℕ → Type 0
AppendsSome old new bs = (k : ℕ) × Appends old new (take k bs)
