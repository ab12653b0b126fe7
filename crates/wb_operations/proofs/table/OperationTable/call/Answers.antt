use Rattle.std.proofs.Common.{◌≡◌, ◌+◌, ◌-◌, ◌<◌, ℕ, Some, length, sym, subst, arith}
use Rattle.wb_operations.proofs.KeptLemmas.{kept-at}
use Rattle.wb_operations.proofs.table.OperationTable.call.Goals as goal

pub call_run-requires : goal.call_run-requires
call_run-requires g c =
    (kept-at c.args.self.now.signatures c.args.self.now.built_in c.args.self.now.runs.items _ _ _ c.args.operation c.index.result.now
    c.args.arguments c.requires.kept c.requires.there (omega arith) c.index.ensures c.requires.fits).callable

pub returns : goal.returns
returns g c =
    (kept-at c.args.self.now.signatures c.args.self.now.built_in c.args.self.now.runs.items _ _ _ c.args.operation c.index.result.now
    c.args.arguments c.requires.kept c.requires.there
    (omega arith) c.index.ensures c.requires.fits).answers c.call_run.result c.call_run.ensures
