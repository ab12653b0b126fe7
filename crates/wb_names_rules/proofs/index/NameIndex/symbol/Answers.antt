use Rattle.std.proofs.Common.{◌∷◌}
use Rattle.wb_names_theory.specs.declared.declaration.Declaration.TheVariants as d
use Rattle.wb_names_rules.proofs.LookupLemmas.{found_as, none_as, not_there, symbol_there}
use Rattle.wb_names_rules.proofs.index.NameIndex.symbol.Goals as goal

pub returns-clause-found : goal.returns-clause-found
returns-clause-found c =
    found_as c.args.self.now c.text_place.result (0 ∷ c.args.name.now) _ (symbol_there c.args.self.now c.args.name.now)
    c.text_place.ensures.found

pub returns-clause-none : goal.returns-clause-none
returns-clause-none c =
    none_as c.args.self.now c.text_place.result (0 ∷ c.args.name.now) _ (λ none. λ is. not_there c.args.self.now (d.Symbol
    c.args.name.now is) tt none) c.text_place.ensures.found
