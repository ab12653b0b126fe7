-- The kind rules have at most one answer.
use Rattle.std.proofs.Common.{ℕ, List}
use Rattle.wb_syntax_expressions.specs.declared.node.Node.TheVariants as n
use Rattle.wb_lemmas.proofs.Elements.{all_contained}
use Rattle.wb_operations.specs.Operations.{OperationSignature}
use Rattle.wb_syntax_resolved.specs.declared.attribution.AttributionParts.{AttributionParts}
use Rattle.wb_types.specs.OneAnswer.{RulesExclude, RefusalsExclude, HaveOneAnswer}
use Rattle.wb_types.specs.Refusals.{CallsUnknown, HasWrongArity, HasWrongKind}
use Rattle.wb_types.specs.Rules.{IsKnown, AreKnown, HaveArities, HaveExpectedKinds, KindsOk}

module _ (a : AttributionParts) (operations : List OperationSignature) where
  -- a call of what isn't there is no known one
  unknown_known : (name : List ℕ) → CallsUnknown a operations name → AreKnown a operations → ⊥
  unknown_known name calls known =
      let e = calls.expression in
      calls.unknown (all_contained (IsKnown operations) e.nodes (n.Call name calls.arguments)
      (known e.production e.nodes e.expected calls.offset e.listed e.is_expected) calls.calls)

  wrong_right : (at : ℕ) → HasWrongArity a operations at → HaveArities a operations → ⊥
  wrong_right at wrong arities = let e = wrong.expression in wrong.wrong (arities e.production e.nodes e.expected at e.listed e.is_expected)

  other_same : (at : ℕ) → HasWrongKind a operations at → HaveExpectedKinds a operations → ⊥
  other_same at wrong kinds = let e = wrong.expression in wrong.wrong (kinds e.production e.nodes e.expected at e.listed e.is_expected)

  pub one_answer : HaveOneAnswer a operations
  one_answer = record { rules = rules; refusals = refusals } where
    rules : KindsOk a operations → RulesExclude a operations
    rules ok = record {
      unknown = λ name calls. unknown_known name calls ok.known;
      arity = λ at wrong. wrong_right at wrong ok.arities;
      kind = λ at wrong. other_same at wrong ok.kinds;
    }

    refusals : RefusalsExclude a operations
    refusals = record {
      unknown_arity = λ name at calls wrong. unknown_known name calls wrong.known;
      unknown_kind = λ name at calls wrong. unknown_known name calls wrong.known;
      arity_kind = λ at other first second. wrong_right at first second.arities;
    }
