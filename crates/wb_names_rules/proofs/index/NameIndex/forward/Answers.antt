use Rattle.std.proofs.Common.{◌∷◌}
use Rattle.wb_names_theory.specs.declared.declaration.Declaration.TheVariants as d
use Rattle.wb_names_rules.proofs.LookupLemmas.{found_as, none_as, not_there, forward_there}
use Rattle.wb_names_rules.proofs.index.NameIndex.forward.Goals as goal

pub returns-clause-found : goal.returns-clause-found
returns-clause-found c =
    found_as c.args.self.now c.text_place.result (6 ∷ c.args.production.now) _ (forward_there c.args.self.now c.args.production.now)
    c.text_place.ensures.found

pub returns-clause-none : goal.returns-clause-none
returns-clause-none c =
    none_as c.args.self.now c.text_place.result (6 ∷ c.args.production.now) _ (λ none. not_there c.args.self.now (d.Forward
    c.args.production.now) tt none) c.text_place.ensures.found
