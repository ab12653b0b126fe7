-- What is asked of a tree, and what comes of it, is the same in other numbers.
use Rattle.std.proofs.Common.{◌≡◌, ◌∙◌, ℕ, List, Option, Some, None, IsSomeAnd, option_map, slice_get, sym, ap, subst}
use Rattle.std.proofs.lemmas.Option.{same_Some}
use Rattle.wb_flow_theory.specs.Occurrences.{Needs}
use Rattle.wb_eval_theory.specs.Walks.{Outcome}
use Rattle.wb_operations.specs.Operations.{Operations}
use Rattle.wb_compose_theory_attribute_order.specs.Attributions.{IsSameAttribution}
use Rattle.wb_compose_theory_attribute_order.specs.Renumberings.{Renumbering}
use Rattle.wb_compose_theory_attribute_order.specs.Values.{renamed_outcome, renamed_tree, renamed_value}
use Rattle.wb_compose_theory_attribute_order.proofs.LawLemmas.{same_answers, same_needs, value_alike}
use Rattle.wb_compose_theory_attribute_order.proofs.RowLemmas.{asked_alike}
use Rattle.wb_syntax_resolved.specs.Attribution.{IsAttribution}
use Rattle.wb_syntax_resolved.specs.declared.attributes.Attribute.{Attribute}
use Rattle.wb_syntax_resolved.specs.declared.attributes.Direction.TheVariants.{Synthesized}
use Rattle.wb_syntax_resolved.specs.declared.attribution.AttributionParts.{AttributionParts}
use Rattle.wb_syntax_resolved.specs.Owners.{printed_name}
use Rattle.wb_compose_texts.specs.Asked.{IsAskedOn, IsPrintedAs}
use Rattle.wb_compose_texts.specs.TreeValues.{ComesTo, HasPrintedValue, IsTreeValue}
use Rattle.wb_compose_texts.specs.tree_value.TreeValue.{TreeValue}
use Rattle.wb_compose_texts.specs.tree_value.TreeValue.TheVariants as v
use Rattle.wb_values.specs.Tree.{Tree}

-- what something is of an element that may be there
some_is : {X Y : Type 0} (f : X → Y) (o : Option X) (y : Y) → IsSomeAnd o (λ x. f x ≡ y) → option_map f o ≡ Some y
some_is f None y is = absurd is
some_is f (Some x) y is = ap Some is

is_some : {X Y : Type 0} (f : X → Y) (o : Option X) (y : Y) → option_map f o ≡ Some y → IsSomeAnd o (λ x. f x ≡ y)
is_some f None y is = absurd (cc is)
is_some f (Some x) y is = same_Some (f x) y is

module _ {r s : Renumbering} {a b : AttributionParts} (same : IsSameAttribution r s a b) where
  abbrev printed_in : AttributionParts → Attribute → List ℕ
  printed_in c x = printed_name c.extensions x.owner x.name

  named_there : (name : List ℕ) (y : ℕ) → IsPrintedAs a name y → IsPrintedAs b name (r.numbers.attribute y)
  named_there name y named =
      is_some (printed_in b) (slice_get b.attributes (r.numbers.attribute y)) name
      ((asked_alike same).named y ∙ some_is (printed_in a) (slice_get a.attributes y) name named)

  nothing_there : (m y : ℕ) → ((i : ℕ) → ¬ Needs a y m i) → (i : ℕ) → ¬ Needs b (r.numbers.attribute y) (r.numbers.nonterminal m) i
  nothing_there m y none i needs =
      none (s.numbers.attribute i) (((asked_alike same).needs y m (s.numbers.attribute i)).1
      (subst (Needs b (r.numbers.attribute y) (r.numbers.nonterminal m)) (sym (same.redone.numbers.attribute i)) needs))

  -- an attribute that may be asked
  pub asked_there : (name : List ℕ) (m y : ℕ) → IsAskedOn a name m y
      → IsAskedOn b name (r.numbers.nonterminal m) (r.numbers.attribute y)
  asked_there name m y asked = record {
    named = named_there name y asked.named;
    occurs = ((asked_alike same).occurs Synthesized y m).0 asked.occurs;
    needs_nothing = nothing_there m y asked.needs_nothing;
  }

  module _ (is : IsAttribution a) (ok : IsAttribution b) (operations : Operations) (top : Tree) (y steps : ℕ) where
    comes_there : (o : Outcome) → ComesTo a operations top y steps o
        → ComesTo b operations (renamed_tree r.numbers top) (r.numbers.attribute y) steps (renamed_outcome r.numbers o)
    comes_there o comes = record {
      has = (same_answers r s a b is ok same operations top y o).0 comes.has;
      within = λ needed. comes.within ((same_needs r s a b is ok same operations top y steps).1 needed);
    }

    printed_there : (printed : List ℕ) → HasPrintedValue a operations top y steps printed
        → HasPrintedValue b operations (renamed_tree r.numbers top) (r.numbers.attribute y) steps printed
    printed_there printed has = record {
      given = renamed_value r.numbers has.given;
      comes = comes_there (Outcome.value has.given) has.comes;
      is = has.is ∙ sym (value_alike is ok same has.given);
    }

    -- and what comes of it
    pub value_there : (value : TreeValue) → IsTreeValue a operations top y steps value
        → IsTreeValue b operations (renamed_tree r.numbers top) (r.numbers.attribute y) steps value
    value_there (v.Value printed) has = (printed_there printed has.0, has.1)
    value_there v.TooLong has = record { printed = has.printed; has = printed_there has.printed has.has; long = has.long }
    value_there (v.Fault operation code) has =
        record { number = has.number; comes = comes_there (Outcome.fault has.number code) has.comes; is = has.is }
    value_there v.MoreSteps needed = (same_needs r s a b is ok same operations top y steps).0 needed
