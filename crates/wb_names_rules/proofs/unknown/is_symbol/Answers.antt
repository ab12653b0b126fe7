use Rattle.wb_names_theory.specs.declared.declaration.Declaration.TheVariants as d
use Rattle.wb_names_theory.specs.declared.declaration.Sort.{Sort}
use Rattle.wb_names_rules.proofs.UnknownLemmas.{some_test}
use Rattle.wb_names_rules.proofs.unknown.is_symbol.Goals as goal

pub returns : goal.returns
returns c =
    some_test c.args.index.now (λ (is : Sort). d.Symbol c.args.name.now is) c.in_ok-symbol.field-0 c.is_some.result c.is_some.ensures
    c.in_ok-symbol.ensures.found c.in_ok-symbol.ensures.none
