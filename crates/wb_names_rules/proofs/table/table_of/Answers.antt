use Rattle.std.proofs.Common.{[], ℕ, List, sym, subst}
use Rattle.wb_names_rules.specs.declared.table.Pass.TheVariants.{Symbols}
use Rattle.wb_names_rules.specs.Indexed.{IsIndexed}
use Rattle.wb_names_rules.proofs.IndexLemmas.{none_indexed}
use Rattle.wb_names_rules.proofs.table.table_of.Goals as goal

pub add_passes-requires : goal.add_passes-requires
add_passes-requires c =
    subst (λ (keys : List (List ℕ)). IsIndexed c.args.declarations.now keys c.new-2.result.items Symbols 0) (sym c.new.ensures)
    (subst (λ (places : List ℕ). IsIndexed c.args.declarations.now [] places Symbols 0) (sym c.new-2.ensures.items)
    (none_indexed c.args.declarations.now))
