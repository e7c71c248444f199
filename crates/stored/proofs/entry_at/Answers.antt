use Rattle.stored.proofs.FormLaws.{entry_read}
use Rattle.stored.proofs.entry_at.Goals as goal

pub returns : goal.returns
returns c = entry_read _ _ _ c.digits_at-digits.ensures _ c.high_low.ensures
