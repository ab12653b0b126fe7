use Rattle.std.proofs.Common.{All, take}
use Rattle.wb_base.specs.declared.symbol.Kind.{Kind}
use Rattle.wb_syntax_resolved.specs.declared.equation.Equation.{Equation}
use Rattle.wb_types.specs.Expected.{attribute_of}
use Rattle.wb_types.specs.Kinds.{IsAttributeKind}
use Rattle.wb_types.specs.Inner.Passes.{Passes}
use Rattle.wb_types.proofs.check.check_equations.Given as goal

abbrev pub invariant-equations : goal.invariant-equations
invariant-equations l = All
    (λ (z : Equation). (is : Kind) → IsAttributeKind l.context.attributes.now (attribute_of z.target) is
    → Passes l.context.rule l.context.attributes.now l.context.operations.now l.context.production.now z.nodes is)
    (take l.equation-index l.equation-items)
