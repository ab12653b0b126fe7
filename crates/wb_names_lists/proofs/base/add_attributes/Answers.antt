use Rattle.wb_syntax_resolved.specs.declared.attributes.Attribute.{Attribute}
use Rattle.wb_names_theory.specs.declared.declaration.Declaration.TheVariants as d
use Rattle.wb_names_lists.proofs.ListLemmas.{map_next, map_all}
use Rattle.wb_names_lists.proofs.base.add_attributes.Goals as goal

pub attributes-preserved : goal.attributes-preserved
attributes-preserved c =
    map_next (λ (x : Attribute). d.Attribute x.name x.direction)
    c.args.attributes.now c.attributes.attribute-index c.attribute-item.result c.args.out.now.items c.attributes.out.items
    c.add_attribute.new.out.items
    c.attributes.invariant c.attributes-test.true c.attribute-item.is c.in_ok-add_attribute.ensures

pub returns : goal.returns
returns c =
    map_all (λ (x : Attribute). d.Attribute x.name x.direction)
    c.args.attributes.now c.attributes.attribute-index c.args.out.now.items c.attributes.out.items c.attributes.invariant
    c.attributes-test.false
