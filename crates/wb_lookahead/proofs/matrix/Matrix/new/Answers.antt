use Rattle.std.proofs.Common.{refl}
use Rattle.wb_lookahead.specs.Matrices.{rows_of}
use Rattle.wb_lookahead.proofs.matrix.Matrix.new.Goals as goal

pub returns : goal.returns
unfolding rows_of
returns c = refl
