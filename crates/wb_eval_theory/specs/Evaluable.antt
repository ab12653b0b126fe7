-- When evaluation is safe, and which attributes may be asked of a tree.
use Rattle.std.specs.Prelude.{ℕ, All}
use Rattle.wb_flow_theory.specs.Modular.{EachProduction}
use Rattle.wb_flow_theory.specs.Occurrences.{Occurs, Needs}
use Rattle.wb_flow_theory.specs.WellDefined.{IsWellDefinedProduction}
use Rattle.wb_base.specs.Different.{Differ}
use Rattle.wb_operations.specs.Operations.{Operations, IsPlainSignature, KeepsKinds, names_of}
use Rattle.wb_syntax_resolved.specs.Attribution.{IsAttribution}
use Rattle.wb_syntax_resolved.specs.declared.attributes.Direction.TheVariants.{Synthesized}
use Rattle.wb_syntax_resolved.specs.declared.attribution.AttributionParts.{AttributionParts}
use Rattle.wb_types.specs.Rules.{KindsOk}
use Rattle.wb_values.specs.Fits.{FitsTree}
use Rattle.wb_values.specs.Tree.{Tree}

-- the operations have different names, take and give plain values alone, and each gives values of its kind
pub record AreOperations (operations : Operations) : Type 0 where
  pub names : Differ (names_of operations.signatures)
  pub plain : All IsPlainSignature operations.signatures
  pub kinds : KeepsKinds operations.signatures operations.meaning

-- the attributes of each production are well defined, and each expression is of the kind that its place asks for, over these operations
pub record IsEvaluable (a : AttributionParts) (operations : Operations) : Type 0 where
  pub attribution : IsAttribution a
  pub productions : EachProduction a (IsWellDefinedProduction a)
  pub kinds : KindsOk a operations.signatures
  pub with_operations : AreOperations operations

-- the tree is one of a nonterminal on which the synthesized attribute occurs, and its flow type there is empty
pub record IsAsked (a : AttributionParts) (top : Tree) (attribute : ℕ) : Type 0 where
  pub nonterminal : ℕ
  pub fits : FitsTree a.signatures top nonterminal
  pub occurs : Occurs a Synthesized attribute nonterminal
  pub needs_nothing : (i : ℕ) → ¬ Needs a attribute nonterminal i
