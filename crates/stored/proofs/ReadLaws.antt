-- The entries of a table put into their places, when all are put. Assumes nothing.
use Prim.Native.Nat.{ℕ, ◌+◌}
use native.Mathlib.Omega.{arith}
use mathlib.Core.Path.{◌≡◌, ap₂, ◌∙◌}
use mathlib.Core.List.{List, ◌++◌, append-nil}
use lib.ListN.{length, drop_of_length-le}
use lib.Seq.{paste, take_all}
use Rattle.table.specs.declared.Entry.{Entry}
use Rattle.stored.specs.Form.{table_in}
use Rattle.stored.proofs.FormLaws.{length_entries}

pub read_end : (d : List Entry) (b : List ℕ) (i : ℕ) → length d ≡ 64 → i ≡ 64 → paste d 0 (table_in b) i ≡ table_in b
unfolding table_in
read_end d b i l h =
    ap₂ (λ (x y : List Entry). x ++ y) (take_all i (table_in b) (omega (arith, length_entries 64 0 b))) (drop_of_length-le d {i = 0 + i} (omega arith))
    ∙ append-nil (table_in b)
