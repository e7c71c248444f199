use Rattle.derive.specs.Started.{hmac_with}
use Rattle.derive.proofs.hmac_with.Goals as goal

pub returns : goal.returns
unfolding hmac_with
returns c = cc
