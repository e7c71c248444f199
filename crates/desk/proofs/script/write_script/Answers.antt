use native.Mathlib.Omega.{arith}
use lib.ListN.{length}
use Rattle.shapes.proofs.LengthLaws.{place_small}
use Rattle.desk.proofs.ScriptLaws.{script_none, script_fits}
use mathlib.Core.Logic.{inl, inr}
use Rattle.desk.proofs.script.write_script.Goals.{then-buffer-place-via-then-buffer-place, then-buffer-place-via-else-buffer-place+then-buffer-place-2}
use Rattle.desk.proofs.script.write_script.Goals as goal

pub overflow_add-size-2 : goal.overflow_add-size-2
overflow_add-size-2 c = record { fits = omega (arith, place_small (length c.args.data.now), c.place_of.ensures) }

pub returns-then-buffer-place : goal.returns-then-buffer-place
returns-then-buffer-place c = let a = c.args in script_none a.c _ a.data.now a.buffer.now a.place _ c.place_of.ensures
    (elim c.then-buffer-place.branch [
      | then-buffer-place-via-then-buffer-place w ↦ inl (omega arith)
      | then-buffer-place-via-else-buffer-place+then-buffer-place-2 w ↦ inr (omega arith)
    ])

pub lay_script-requires : goal.lay_script-requires
lay_script-requires c = let a = c.args in (c.requires, script_fits a.c _ a.data.now a.buffer.now a.place _ c.place_of.ensures (omega arith) (omega arith))
