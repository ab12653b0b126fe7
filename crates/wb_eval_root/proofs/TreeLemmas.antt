-- What comes of an attribute that has a value.
use Rattle.std.proofs.Common.{◌≡◌, ℕ, List, Result, Ok, Err, IfOk, refl, subst}
use Rattle.wb_eval_theory.specs.Walks.{value}
use Rattle.wb_eval.specs.declared.evaluated.Evaluated.{Evaluated}
use Rattle.wb_eval.specs.declared.evaluated.Evaluated.TheVariants as e
use Rattle.wb_eval.specs.Evaluates.{IsValue}
use Rattle.wb_operations.specs.Operations.{Operations}
use Rattle.wb_syntax_resolved.specs.declared.attribution.AttributionParts.{AttributionParts}
use Rattle.wb_terms.specs.Printed.{printed_value}
use Rattle.wb_values.specs.declared.value.Value as stored
use Rattle.wb_values.specs.Tree.{Tree, Value}
use Rattle.wb_values.specs.ValuesIn.{value_in}
use Rattle.wb_eval_root.specs.Inner.Printed.{IsPrinted}
use Rattle.wb_eval_root.specs.Values.{ComesTo, IsTreeValue}
use Rattle.wb_eval_root.specs.declared.value.TreeValue.{TreeValue}
use Rattle.wb_eval_root.specs.declared.value.TreeValue.TheVariants as v

module _ (a : AttributionParts) (operations : Operations) (top : Tree) (attribute steps : ℕ) where
  -- the printed value, or that it is too long
  printed_tree : (given : Value) → ComesTo a operations top attribute steps (value given) → (x : TreeValue)
      → IsPrinted (printed_value a.signatures given) x → IsTreeValue a operations top attribute steps x
  printed_tree given comes (v.Value printed) (same, short) = (record { given = given; comes = comes; is = same }, short)
  printed_tree given comes v.TooLong long = record {
    printed = printed_value a.signatures given;
    has = record { given = given; comes = comes; is = refl };
    long = long;
  }
  printed_tree given comes (v.Fault operation code) is = absurd is
  printed_tree given comes v.MoreSteps is = absurd is

  -- the same of an answer that memory may hinder
  with_memory : {E : Type 0} (given : Value) → ComesTo a operations top attribute steps (value given) → (x : Result TreeValue E)
      → IfOk x (IsPrinted (printed_value a.signatures given)) → IfOk x (IsTreeValue a operations top attribute steps)
  with_memory given comes (Ok x) is = printed_tree given comes x is
  with_memory given comes (Err error) is = tt

  -- a value that was evaluated
  pub value_shown : {E : Type 0} (b : AttributionParts) → b ≡ a → (trees : List Tree) (found : Evaluated) (given : stored.Value)
      → found ≡ e.Value given → IsValue a operations top attribute steps trees found → (x : Result TreeValue E)
      → IfOk x (IsPrinted (printed_value b.signatures (value_in trees given))) → IfOk x (IsTreeValue a operations top attribute steps)
  value_shown b same trees found given is has x printed =
      let (answer, inside, within) = subst (IsValue a operations top attribute steps trees) is has in
      let comes : ComesTo a operations top attribute steps (value (value_in trees given)) = record { has = answer; within = within } in
      with_memory (value_in trees given) comes x
      (subst (λ (z : AttributionParts). IfOk x (IsPrinted (printed_value z.signatures (value_in trees given)))) same printed)
