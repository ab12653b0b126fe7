use Rattle.wb_operations.proofs.KeptLemmas.{kept-push}
use Rattle.wb_operations.proofs.table.OperationTable.add.Goals as goal

pub returns-clause-kept : goal.returns-clause-kept
returns-clause-kept g c =
    kept-push c.args.self.now.signatures c.add.new.self _ c.args.self.now.built_in c.args.self.now.runs.items c.reserve.new.self.items
    c.push_reserved.new.self.items c.args.run _ _ _
    c.requires.kept c.in_ok-number.ensures.ok c.push_reserved.ensures.items c.in_ok-reserve.ensures.items
    (record { callable = c.requires.callable; answers = c.requires.answers }) c.requires.kind
