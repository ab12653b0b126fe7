use Rattle.std.proofs.Common.{◌∙◌, subst, List, ℕ}
use Rattle.wb_names_rules.specs.Inner.Indexed.{IsFound}
use Rattle.wb_names_rules.proofs.index.NameIndex.pair_place.Goals as goal

pub returns-clause-found : goal.returns-clause-found
returns-clause-found c =
    subst (λ (k : List ℕ). IsFound c.args.self.now k c.place.result) (c.deref.ensures.value ∙ c.in_ok-key.ensures) c.place.ensures.found
