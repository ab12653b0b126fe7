-- What the laws say of an attribution in two numberings.
use Rattle.std.specs.Prelude.{◌≡◌, ◌↔◌, ℕ, option_map, slice_get}
use Rattle.wb_flow_theory.specs.Occurrences.{Needs, Occurs}
use Rattle.wb_eval_theory.specs.Answers.{HasAnswer}
use Rattle.wb_eval_theory.specs.Instances.{root, synthesized_at}
use Rattle.wb_eval_theory.specs.Needed.{NeedsMoreThan}
use Rattle.wb_eval_theory.specs.Walks.{Outcome}
use Rattle.wb_operations.specs.Operations.{Operations}
use Rattle.wb_syntax_resolved.specs.declared.attributes.Attribute.{Attribute}
use Rattle.wb_syntax_resolved.specs.declared.attributes.Direction.{Direction}
use Rattle.wb_syntax_resolved.specs.declared.attribution.AttributionParts.{AttributionParts}
use Rattle.wb_syntax_resolved.specs.Owners.{printed_name}
use Rattle.wb_terms.specs.Printed.{printed_value}
use Rattle.wb_compose_theory_attributes.specs.Numbers.{NumberMap}
use Rattle.wb_values.specs.Tree.{Tree, Value}
use Rattle.wb_compose_theory_attribute_order.specs.Values.{renamed_outcome, renamed_tree, renamed_value}

module _ (t : NumberMap) (a b : AttributionParts) where
  -- at the root of the tree, and of the same in new numbers, an attribute has the same outcomes, in new numbers
  abbrev pub HasSameAnswers : Operations → Tree → Type 0
  HasSameAnswers operations top =
      (attribute : ℕ) (o : Outcome) → HasAnswer a operations top (synthesized_at root attribute) o
      ↔ HasAnswer b operations (renamed_tree t top) (synthesized_at root (t.attribute attribute)) (renamed_outcome t o)

  -- and for it there are as many instances needed
  abbrev pub HasSameNeeds : Operations → Tree → Type 0
  HasSameNeeds operations top =
      (attribute n : ℕ) → NeedsMoreThan a operations top (synthesized_at root attribute) n
      ↔ NeedsMoreThan b operations (renamed_tree t top) (synthesized_at root (t.attribute attribute)) n

  -- the value and the same in new numbers are printed alike
  abbrev pub IsPrintedAlike : Value → Type 0
  IsPrintedAlike v = printed_value b.signatures (renamed_value t v) ≡ printed_value a.signatures v

  -- an attribute is printed like its new number, occurs on the same nonterminals, going the same way, and needs the same there
  pub record MayBeAskedAlike : Type 0 where
    pub named : (y : ℕ) → option_map (λ (x : Attribute). printed_name b.extensions x.owner x.name) (slice_get b.attributes (t.attribute y))
        ≡ option_map (λ (x : Attribute). printed_name a.extensions x.owner x.name) (slice_get a.attributes y)
    pub occurs : (d : Direction) (y m : ℕ) → Occurs a d y m ↔ Occurs b d (t.attribute y) (t.nonterminal m)
    pub needs : (y m i : ℕ) → Needs a y m i ↔ Needs b (t.attribute y) (t.nonterminal m) (t.attribute i)
