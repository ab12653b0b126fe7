-- What is said of what is found.
use Rattle.std.proofs.Common.{◌≡◌, ◌⊎◌, inl, inr, ◌++◌, [], ℕ, List, Result, Ok, Err, OnOk, Contains, ap, ◌∙◌, append_assoc}
use Rattle.wb_base.specs.declared.symbol.Kind.{Kind}
use Rattle.wb_operations.specs.Operations.{OperationSignature}
use Rattle.wb_syntax_resolved.specs.declared.attribution.AttributionParts.{AttributionParts}
use Rattle.wb_syntax_resolved.specs.declared.production.Production.{Production}
use Rattle.wb_syntax_resolved.specs.Expression.{Node}
use Rattle.wb_types.specs.Expected.{IsExpected}
use Rattle.wb_types.specs.Refusals.{ExpressionAt}
use Rattle.wb_explain_mismatches.specs.declared.step.Step.{Step}
use Rattle.wb_explain_mismatches.specs.Steps.{Leads}
use Rattle.wb_explain_mismatches.specs.Wrong.{IsWrongCount, IsWrongPart, IsWrongWhole}
use Rattle.wb_explain_mismatches.specs.Said.{IsSaid, count_said, mismatch_said, part_said, steps_said, whole_said}
use Rattle.wb_explain_mismatches.specs.Inner.Saying.{CountIsSaid, Grows, MayBeSaid, MaySayCount, MaySayKind}

-- what follows from what is so where it went well
pub on_ok : {T E : Type 0} (r : Result T E) (P Q : Type 0) → (P → Q) → OnOk r P → OnOk r Q
on_ok (Ok x) P Q f p = f p
on_ok (Err e) P Q f p = tt

-- two pieces, one after the other
pub two_pieces : (old a b first new : List ℕ) → first ≡ old ++ a → new ≡ first ++ b → new ≡ old ++ (a ++ b)
two_pieces old a b first new one two = two ∙ (ap (λ (z : List ℕ). z ++ b) one ∙ append_assoc old a b)

-- lines before, which kind is wanted and which is there, the steps, and what comes after
pub is_said : (a : AttributionParts) (operations : List OperationSignature) (role : List ℕ) (wanted found : Kind) (steps : List Step)
    (old before first second third new : List ℕ) → (steps ≡ []) ⊎ Leads a.signatures operations steps found wanted
    → first ≡ old ++ before → second ≡ first ++ mismatch_said a role wanted found → third ≡ second ++ steps_said a operations steps
    → Grows third new → IsSaid a operations role wanted found old new
is_said a operations role wanted found steps old before first second third new lead one two three (after, four) = record {
  steps = steps;
  lead = lead;
  before = before;
  after = after;
  lines = four ∙ ap (λ (z : List ℕ). z ++ after) (three ∙ ap (λ (z : List ℕ). z ++ steps_said a operations steps)
      (two ∙ ap (λ (z : List ℕ). z ++ mismatch_said a role wanted found) one));
}

-- lines before, how many arguments are wanted and there, and what comes after
pub count_is_said : (a : AttributionParts) (node : Node) (takes : ℕ) (old before first second new : List ℕ) → first ≡ old ++ before
    → second ≡ first ++ count_said a node takes → Grows second new → CountIsSaid a node takes old new
count_is_said a node takes old before first second new one two (after, three) = record {
  before = before;
  after = after;
  lines = three ∙ ap (λ (z : List ℕ). z ++ after) (two ∙ ap (λ (z : List ℕ). z ++ count_said a node takes) one);
}

module _ (a : AttributionParts) (operations : List OperationSignature) (offset : ℕ) (production : Production) (nodes : List Node)
    (expected : Kind) (listed : Contains a.productions production) (is : IsExpected a production nodes expected offset) where
  -- the expression at the offset
  abbrev there : ExpressionAt a offset
  there = record { production = production; listed = listed; nodes = nodes; expected = expected; is_expected = is }

  -- of a part
  pub part_may : (node : Node) (number : ℕ) (wanted found : Kind) (old new : List ℕ)
      → IsWrongPart a operations production nodes node number wanted found
      → MayBeSaid a operations (part_said a node number) wanted found old new → MaySayKind a operations offset old new
  part_may node number wanted found old new wrong (inl same) = inl same
  part_may node number wanted found old new wrong (inr said) = inr (inl (record {
    expression = there;
    node = node;
    number = number;
    wanted = wanted;
    found = found;
    wrong = wrong;
    is_said = said;
  }))

  -- of the whole
  pub whole_may : (found : Kind) (old new : List ℕ) → IsWrongWhole a operations production nodes expected found
      → MayBeSaid a operations whole_said expected found old new → MaySayKind a operations offset old new
  whole_may found old new wrong (inl same) = inl same
  whole_may found old new wrong (inr said) = inr (inr (record {
    expression = there;
    found = found;
    wrong = wrong;
    is_said = said;
  }))

  -- of a number of arguments
  pub count_may : (node : Node) (takes : ℕ) (old new : List ℕ) → IsWrongCount a operations nodes node takes
      → (new ≡ old) ⊎ CountIsSaid a node takes old new → MaySayCount a operations offset old new
  count_may node takes old new wrong (inl same) = inl same
  count_may node takes old new wrong (inr said) = inr (record {
    expression = there;
    node = node;
    takes = takes;
    wrong = wrong;
    before = said.before;
    after = said.after;
    lines = said.lines;
  })
