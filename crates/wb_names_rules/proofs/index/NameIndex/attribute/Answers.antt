use Rattle.std.proofs.Common.{◌∷◌}
use Rattle.wb_names_theory.specs.declared.declaration.Declaration.TheVariants as d
use Rattle.wb_names_rules.proofs.LookupLemmas.{found_as, none_as, not_there, attribute_there}
use Rattle.wb_names_rules.proofs.index.NameIndex.attribute.Goals as goal

pub returns-clause-found : goal.returns-clause-found
returns-clause-found c =
    found_as c.args.self.now c.text_place.result (1 ∷ c.args.name.now) _ (attribute_there c.args.self.now c.args.name.now)
    c.text_place.ensures.found

pub returns-clause-none : goal.returns-clause-none
returns-clause-none c =
    none_as c.args.self.now c.text_place.result (1 ∷ c.args.name.now) _ (λ none. λ direction. not_there c.args.self.now (d.Attribute
    c.args.name.now direction) tt none) c.text_place.ensures.found
