use Rattle.std.proofs.Common.{◌∷◌, ◌++◌}
use Rattle.wb_names_theory.specs.declared.declaration.Declaration.TheVariants as d
use Rattle.wb_names_rules.specs.Keys.{marked}
use Rattle.wb_names_rules.proofs.LookupLemmas.{found_as, none_as, not_there, occurrence_there}
use Rattle.wb_names_rules.proofs.index.NameIndex.occurrence.Goals as goal

pub returns-clause-found : goal.returns-clause-found
returns-clause-found c =
    found_as c.args.self.now c.pair_place.result (2 ∷ (marked c.args.attribute.now ++ c.args.nonterminal.now)) _ (occurrence_there
    c.args.self.now c.args.attribute.now c.args.nonterminal.now) c.pair_place.ensures.found

pub returns-clause-none : goal.returns-clause-none
returns-clause-none c =
    none_as c.args.self.now c.pair_place.result (2 ∷ (marked c.args.attribute.now ++ c.args.nonterminal.now)) _ (λ none. not_there
    c.args.self.now (d.Occurrence c.args.attribute.now c.args.nonterminal.now) tt none) c.pair_place.ensures.found
