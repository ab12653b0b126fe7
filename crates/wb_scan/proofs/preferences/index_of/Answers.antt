use Rattle.std.proofs.Common.{arith, get_or, refl}
use Rattle.wb_scan.proofs.PreferenceLemmas.{indexed_all, indexed_more}
use Rattle.wb_scan.proofs.preferences.index_of.Goals as goal

pub pairs-preserved : goal.pairs-preserved
pairs-preserved c =
    indexed_more c.args.pairs.now c.pairs.index.keys c.insert.new.self.keys c.pairs.pair-index
    (get_or c.args.pairs.now c.pairs.pair-index (0, 0)) c.in-Ok.field-0 (omega arith) refl c.in-Ok.ensures.added c.in-Ok.ensures.keys c.pairs.invariant

pub returns : goal.returns
returns c = indexed_all c.args.pairs.now c.pairs.index.keys c.pairs.pair-index (omega arith) c.pairs.invariant
