use Rattle.wb_syntax_resolved.specs.declared.attributes.Direction.{Direction}
use Rattle.wb_names_theory.specs.declared.declaration.Declaration.TheVariants as d
use Rattle.wb_names_rules.proofs.UnknownLemmas.{some_test}
use Rattle.wb_names_rules.proofs.unknown.is_attribute.Goals as goal

pub returns : goal.returns
returns c =
    some_test c.args.index.now (λ (direction : Direction). d.Attribute c.args.name.now direction) c.in_ok-attribute.field-0 c.is_some.result
    c.is_some.ensures c.in_ok-attribute.ensures.found c.in_ok-attribute.ensures.none
