use Rattle.std.proofs.Common.{◌<◌, length}
use Rattle.wb_grammar.proofs.PathLemmas.{GoesBack}
use Rattle.wb_grammar.proofs.paths.walk_back.Given as goal

abbrev pub invariant-back : goal.invariant-back
invariant-back l = (l.at < length l.trail) × GoesBack l.trail l.place l.path.items l.at

abbrev pub decreases-back : goal.decreases-back
decreases-back l = l.at
