use Rattle.std.proofs.Common.{sym, subst}
use Rattle.wb_flow.specs.Occurrences.{IsIndexOf}
use Rattle.wb_flow.proofs.occurrences.OccurrenceIndex.new.Goals as goal

pub returns : goal.returns
returns c = subst (IsIndexOf c.args.attributes.now.occurrences) (sym c.in_ok-add_keys.ensures) c.in_ok-index.ensures
