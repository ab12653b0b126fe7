use Rattle.std.proofs.Common.{List, sym, subst, take, ◌+◌}
use Rattle.wb_syntax_resolved.specs.declared.attributes.Attribute.{Attribute}
use Rattle.wb_names_rows.specs.Base.{IsAttributeNow}
use Rattle.wb_names_rows.specs.Moves.{KindIsWithin}
use Rattle.wb_names_rows.specs.Plains.{AddsEach}
use Rattle.wb_names_rows.proofs.PlainLemmas.{each_more, each_all}
use Rattle.wb_names_rows.proofs.base.add_attributes.Goals as goal

pub loop-attribute-preserved : goal.loop-attribute-preserved
loop-attribute-preserved c =
    let now = IsAttributeNow c.args.moves.now in
    subst (λ (z : List Attribute). AddsEach now (take (c.loop-attribute.attribute-index + 1) c.args.attributes.now) c.args.made.now.items z)
    (sym c.in_ok-push.ensures.ok)
    (each_more now c.args.attributes.now c.loop-attribute.attribute-index c.attribute-item.result c.in_ok-moved.moved c.args.made.now.items
    c.loop-attribute.made.items c.loop-attribute.invariant c.loop-attribute-test.true c.attribute-item.is c.in_ok-moved.ensures)

pub moved_attribute-requires : goal.moved_attribute-requires
moved_attribute-requires c =
    subst (λ (z : Attribute). KindIsWithin c.args.moves.now z.kind) (sym c.attribute-item.is)
    (c.requires c.loop-attribute.attribute-index c.attribute-item.result c.loop-attribute-test.true)

pub returns : goal.returns
returns c =
    each_all (IsAttributeNow c.args.moves.now) c.args.attributes.now c.loop-attribute.attribute-index c.args.made.now.items
    c.loop-attribute.made.items
    c.loop-attribute.invariant c.loop-attribute-test.false
