use Rattle.std.proofs.Common.{◌∷◌}
use Rattle.wb_names_theory.specs.declared.declaration.Declaration.TheVariants as d
use Rattle.wb_names_rules.proofs.LookupLemmas.{found_as, none_as, not_there, left_there}
use Rattle.wb_names_rules.proofs.index.NameIndex.left.Goals as goal

pub returns-clause-found : goal.returns-clause-found
returns-clause-found c =
    found_as c.args.self.now c.text_place.result (3 ∷ c.args.production.now) _ (left_there c.args.self.now c.args.production.now)
    c.text_place.ensures.found

pub returns-clause-none : goal.returns-clause-none
returns-clause-none c =
    none_as c.args.self.now c.text_place.result (3 ∷ c.args.production.now) _ (λ none. λ nonterminal. not_there c.args.self.now (d.Left
    c.args.production.now nonterminal) tt none) c.text_place.ensures.found
