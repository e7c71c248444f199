use Rattle.cryptogram.proofs.DataLaws.{string_made}
use Rattle.cryptogram.proofs.string_of.Goals as goal

pub returns : goal.returns
returns c = search string_made
