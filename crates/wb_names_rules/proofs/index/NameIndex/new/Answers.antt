use Rattle.std.proofs.Common.{List, subst}
use Rattle.wb_names_theory.specs.declared.declaration.Declaration.{Declaration}
use Rattle.wb_names_rules.specs.Index.{CountOnce}
use Rattle.wb_names_rules.proofs.LookupLemmas.{once_all}
use Rattle.wb_names_rules.proofs.index.NameIndex.new.Goals as goal

pub returns-clause-once : goal.returns-clause-once
returns-clause-once c =
    subst (λ (ds : List Declaration). CountOnce ds) c.deref.ensures.value
    (once_all c.deref.result.now c.in_ok-table.table.keys c.in_ok-table.table.places.items c.in_ok-table.ensures.ok)
