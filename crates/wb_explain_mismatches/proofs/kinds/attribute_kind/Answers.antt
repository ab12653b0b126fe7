use Rattle.wb_syntax_resolved.specs.declared.attributes.Attribute.{Attribute}
use Rattle.wb_explain_mismatches.proofs.PlaceLemmas.{map_at}
use Rattle.wb_explain_mismatches.proofs.kinds.attribute_kind.Goals as goal

pub returns : goal.returns
returns c =
    map_at (λ (r : Attribute). r.kind) c.args.attributes.now.attributes c.as_slice-attributes.result.now c.args.number
    c.index-attributes-number.result c.as_slice-attributes.ensures c.if-number-attributes.false
