use Rattle.std.proofs.Common.{◌≡◌, ◌++◌, take, map}
use Rattle.wb_syntax_resolved.specs.declared.attributes.Attribute.{Attribute}
use Rattle.wb_names_theory.specs.declared.declaration.Declaration.TheVariants as d
use Rattle.wb_names_lists.proofs.base.add_attributes.Given as goal

abbrev pub invariant-attributes : goal.invariant-attributes
invariant-attributes l = l.out.items ≡ l.fn.out.items ++ map (λ (x : Attribute). d.Attribute x.name x.direction) (take l.attribute-index l.attributes)
