use Rattle.std.proofs.Common.{◌∙◌, length, sym, refl, arith}
use Rattle.std.proofs.lemmas.Slice.{put_mid-paste}
use Rattle.rounds.proofs.LentLaws.{laid_in, laid_not}
use Rattle.rounds.proofs.lay.Goals as goal
use Rattle.rounds.proofs.lay.Goals.{else-w-b-via-then-w-b+else-p-b, else-w-b-via-else-w-b}

pub returns-then-p-b : goal.returns-then-p-b
returns-then-p-b c = let a = c.args in
    let w = a.w.now in
    put_mid-paste a.p _ a.b.now _ w (length w) c.copy_from_slice.ensures.after (omega arith) refl
    ∙ sym (laid_in a.b.now a.p w (length w) refl (omega (arith, c.if-w-b.true, c.if-p-b.true)))

pub returns-else-w-b : goal.returns-else-w-b
returns-else-w-b c =
    elim c.else-w-b.branch [
      | else-w-b-via-then-w-b+else-p-b w ↦ laid_not _ _ _ (omega arith)
      | else-w-b-via-else-w-b w ↦ laid_not _ _ _ (omega arith)
    ]
