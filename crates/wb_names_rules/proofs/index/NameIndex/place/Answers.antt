use Rattle.std.proofs.Common.{subst, List}
use Rattle.wb_names_theory.specs.declared.declaration.Declaration.{Declaration}
use Rattle.wb_names_rules.specs.Index.{CountOnce}
use Rattle.wb_names_rules.specs.Inner.Indexed.{IsFound}
use Rattle.wb_names_rules.proofs.LookupLemmas.{is_found, once_all}
use Rattle.wb_names_rules.proofs.index.NameIndex.place.Goals as goal

pub returns-clause-found : goal.returns-clause-found
returns-clause-found c =
    subst (λ (ds : List Declaration). IsFound ds c.args.key.now c.place.result) c.self.view_is
    (is_found c.self.inside.declarations.items c.self.inside.table.keys c.self.inside.table.places.items c.args.key.now c.place.result
    c.self.invariant c.place.ensures.found c.place.ensures.none)

pub returns-clause-once : goal.returns-clause-once
returns-clause-once c =
    subst (λ (ds : List Declaration). CountOnce ds) c.self.view_is
    (once_all c.self.inside.declarations.items c.self.inside.table.keys c.self.inside.table.places.items c.self.invariant)
