use Rattle.std.proofs.Common.{sym, subst}
use Rattle.wb_determinism.specs.Inner.Envelopes.{AreContaining}
use Rattle.wb_determinism.proofs.envelope.envelope_row.Goals as goal

pub row_by-requires-clause-containing : goal.row_by-requires-clause-containing
row_by-requires-clause-containing c =
    subst (AreContaining c.args.context.now.host.now c.args.own.now) (sym c.deref.ensures.value) c.in_ok-containing.ensures
