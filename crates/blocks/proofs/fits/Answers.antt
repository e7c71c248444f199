use native.Mathlib.Omega.{arith}
use Rattle.blocks.proofs.PartLaws.{fits_room}
use Rattle.blocks.proofs.fits.Goals as goal

pub returns : goal.returns
returns c = fits_room _ _ (omega arith)
