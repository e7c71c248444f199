use native.Mathlib.Omega.{arith}
use Rattle.scripts.proofs.StoreLaws.{data_laid}
use Rattle.scripts.proofs.write_data.Goals as goal

pub returns : goal.returns
returns c = let x = c.args in
    data_laid x.out.now x.at x.source.now x.place x.n _ _ _ c.requires.0 (omega arith) (omega arith) c.copy_from_slice.ensures.after
