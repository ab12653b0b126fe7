use Rattle.std.proofs.Common.{sym, ap, subst, ◌∙◌}
use Rattle.wb_base.specs.Different.{Differ}
use Rattle.wb_operations.specs.Operations.{names_of}
use Rattle.wb_operations.proofs.EntryLemmas.{found-among, none-among, names-signatures}
use Rattle.wb_operations.proofs.signatures.OperationSignatures.find.Goals as goal

pub returns-clause-found : goal.returns-clause-found
returns-clause-found c = found-among c.self.inside.names c.self.inside.entries.items c.args.self.now c.args.name.now c.find.result
    c.self.invariant.counted c.self.view_is c.find.ensures.found

pub returns-clause-none : goal.returns-clause-none
returns-clause-none c = none-among c.self.inside.names c.self.inside.entries.items c.args.self.now c.args.name.now c.find.result
    c.self.invariant.counted c.self.view_is c.find.ensures.none

pub returns-clause-different : goal.returns-clause-different
returns-clause-different c =
    subst Differ (sym (names-signatures c.self.inside.names c.self.inside.entries.items c.self.invariant.counted)
    ∙ ap names_of c.self.view_is) c.find.ensures.different
