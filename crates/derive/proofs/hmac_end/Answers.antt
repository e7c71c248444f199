use Rattle.derive.specs.Macing.{mac_ended}
use Rattle.derive.proofs.hmac_end.Goals as goal

pub returns : goal.returns
unfolding mac_ended
returns c = cc
