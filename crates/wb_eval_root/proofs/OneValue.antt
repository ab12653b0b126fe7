-- One thing comes of an attribute at the root of a tree at most.
use Rattle.std.proofs.Common.{◌≡◌, ◌<◌, ◌≤◌, ℕ, List, Bool, true, false, length, slice_get, refl, sym, ap, subst, ◌∙◌}
use Rattle.std.proofs.Math.Dec.{ltb}
use Rattle.std.proofs.lemmas.Bool.{lt-ltb, le-ltb}
use Rattle.wb_eval_theory.specs.Instances.{root, synthesized_at}
use Rattle.wb_eval_theory.specs.Needed.{NeedsMoreThan}
use Rattle.wb_eval_theory.specs.Walks.{Outcome, value, fault}
use Rattle.wb_eval_theory.proofs.AnswerLemmas as answers
use Rattle.wb_operations.specs.Operations.{Operations}
use Rattle.wb_syntax_resolved.specs.declared.attribution.AttributionParts.{AttributionParts}
use Rattle.wb_terms.specs.Printed.{printed_value}
use Rattle.wb_values.specs.Tree.{Tree}
use Rattle.wb_eval_root.specs.Values.{ComesTo, HasOneValue, IsTreeValue, operation_shown}
use Rattle.wb_eval_root.specs.declared.value.TreeValue.{TreeValue}
use Rattle.wb_eval_root.specs.declared.value.TreeValue.TheVariants as v

-- what comes, before it is printed
data Found : Type 0 where
  came : Outcome → Found
  too_much : Found

-- a printed text, unless it is too long
abbrev by_length : List ℕ → Bool → TreeValue
by_length text true = v.TooLong
by_length text false = v.Value text

module _ (a : AttributionParts) (operations : Operations) where
  -- what is shown of it
  abbrev shown : Found → TreeValue
  shown (came (value x)) = by_length (printed_value a.signatures x) (ltb 16777216 (length (printed_value a.signatures x)))
  shown (came (fault number code)) = v.Fault (operation_shown (slice_get operations.signatures number)) code
  shown too_much = v.MoreSteps

module _ (a : AttributionParts) (operations : Operations) (top : Tree) (attribute steps : ℕ) where
  -- what comes
  abbrev IsFound : Found → Type 0
  IsFound (came outcome) = ComesTo a operations top attribute steps outcome
  IsFound too_much = NeedsMoreThan a operations top (synthesized_at root attribute) steps

  -- it is shown so
  record Came (x : TreeValue) : Type 0 where
    found : Found
    is : IsFound found
    shows : x ≡ shown a operations found

  of_value : (x : TreeValue) → IsTreeValue a operations top attribute steps x → Came x
  of_value (v.Value printed) (has, short) = record {
    found = came (value has.given);
    is = has.comes;
    shows =
        let le : length (printed_value a.signatures has.given) ≤ 16777216 = subst (λ z. length z ≤ 16777216) has.is short in
        ap v.Value has.is ∙ sym (ap (by_length (printed_value a.signatures has.given))
        (le-ltb 16777216 (length (printed_value a.signatures has.given)) le));
  }
  of_value v.TooLong has = record {
    found = came (value has.has.given);
    is = has.has.comes;
    shows =
        let lt : 16777216 < length (printed_value a.signatures has.has.given) = subst (λ z. 16777216 < length z) has.has.is has.long in
        sym (ap (by_length (printed_value a.signatures has.has.given))
        (lt-ltb 16777216 (length (printed_value a.signatures has.has.given)) lt));
  }
  of_value (v.Fault operation code) has = record {
    found = came (fault has.number code);
    is = has.comes;
    shows = ap (λ z. v.Fault z code) has.is;
  }
  of_value v.MoreSteps has = record { found = too_much; is = has; shows = refl }

  one_found : (x y : Found) → IsFound x → IsFound y → x ≡ y
  one_found (came o) (came p) first second = ap came (answers.one_answer a operations top first.has second.has)
  one_found (came o) too_much first second = absurd (first.within second)
  one_found too_much (came p) first second = absurd (second.within first)
  one_found too_much too_much first second = refl

-- two of them are one
pub one_value : (a : AttributionParts) (operations : Operations) → HasOneValue a operations
one_value a operations top attribute steps x y first second =
    let p = of_value a operations top attribute steps x first in
    let q = of_value a operations top attribute steps y second in
    let same = one_found a operations top attribute steps p.found q.found p.is q.is in
    p.shows ∙ (ap (shown a operations) same ∙ sym q.shows)
