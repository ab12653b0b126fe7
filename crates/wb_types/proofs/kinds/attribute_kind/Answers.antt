use Rattle.std.proofs.Common.{◌∙◌, sym}
use Rattle.wb_syntax_resolved.specs.declared.attributes.Attribute.{Attribute}
use Rattle.wb_types.proofs.PlaceLemmas.{map_at, map_past, nothing_exact}
use Rattle.wb_types.proofs.kinds.attribute_kind.Goals as goal

pub returns-then-number-attributes : goal.returns-then-number-attributes
returns-then-number-attributes c =
    nothing_exact _ (λ is. is) (map_past (λ (r : Attribute). r.kind) c.args.attributes.now.attributes c.as_slice-attributes.result.now
    c.args.number
    c.as_slice-attributes.ensures c.if-number-attributes.true)

pub returns : goal.returns
returns c =
    let there = map_at (λ (r : Attribute). r.kind) c.args.attributes.now.attributes c.as_slice-attributes.result.now c.args.number
    c.index-attributes-number.result c.as_slice-attributes.ensures c.if-number-attributes.false in
    λ is. (λ e. there ∙ e, λ e. sym there ∙ e)
