use Rattle.std.proofs.Common.{◌∷◌, ◌++◌}
use Rattle.wb_names_theory.specs.declared.declaration.Declaration.TheVariants as d
use Rattle.wb_names_rules.specs.Keys.{marked}
use Rattle.wb_names_rules.proofs.LookupLemmas.{found_as, none_as, not_there, label_there}
use Rattle.wb_names_rules.proofs.index.NameIndex.label.Goals as goal

pub returns-clause-found : goal.returns-clause-found
returns-clause-found c =
    found_as c.args.self.now c.pair_place.result (4 ∷ (marked c.args.production.now ++ c.args.label.now)) _ (label_there c.args.self.now
    c.args.production.now c.args.label.now) c.pair_place.ensures.found

pub returns-clause-none : goal.returns-clause-none
returns-clause-none c =
    none_as c.args.self.now c.pair_place.result (4 ∷ (marked c.args.production.now ++ c.args.label.now)) _ (λ none. λ is. not_there
    c.args.self.now (d.Label c.args.production.now c.args.label.now is) c.requires none) c.pair_place.ensures.found
