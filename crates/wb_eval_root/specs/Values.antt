-- What comes of an attribute at the root of a tree, within so many steps: a printed value, a fault, or that more steps are needed.
use Rattle.std.specs.Prelude.{◌≡◌, ◌<◌, ◌≤◌, ℕ, List, [], Option, Some, None, length, slice_get}
use Rattle.wb_eval_theory.specs.Answers.{HasAnswer}
use Rattle.wb_eval_theory.specs.Instances.{root, synthesized_at}
use Rattle.wb_eval_theory.specs.Needed.{NeedsMoreThan}
use Rattle.wb_eval_theory.specs.Walks.{Outcome, value, fault}
use Rattle.wb_operations.specs.Operations.{Operations, OperationSignature}
use Rattle.wb_syntax_resolved.specs.declared.attribution.AttributionParts.{AttributionParts}
use Rattle.wb_terms.specs.Printed.{printed_value}
use Rattle.wb_values.specs.Tree.{Tree, Value}
use Rattle.wb_eval_root.specs.declared.value.TreeValue.{TreeValue}
use Rattle.wb_eval_root.specs.declared.value.TreeValue.TheVariants as v

-- the name of an operation; what is none has the empty one
abbrev pub operation_shown : Option OperationSignature → List ℕ
operation_shown None = []
operation_shown (Some s) = s.name

module _ (a : AttributionParts) (operations : Operations) (top : Tree) (attribute steps : ℕ) where
  -- the attribute has this outcome at the root of the tree, for which no more instances are needed than there are steps
  pub record ComesTo (outcome : Outcome) : Type 0 where
    pub has : HasAnswer a operations top (synthesized_at root attribute) outcome
    pub within : ¬ NeedsMoreThan a operations top (synthesized_at root attribute) steps

  -- it has a value that is printed so
  pub record HasPrintedValue (printed : List ℕ) : Type 0 where
    pub given : Value
    pub comes : ComesTo (value given)
    pub is : printed ≡ printed_value a.signatures given

  -- it has one whose printed text is longer than 16,777,216 bytes
  pub record HasTooLongValue : Type 0 where
    pub printed : List ℕ
    pub has : HasPrintedValue printed
    pub long : 16777216 < length printed

  -- it has none, since the operation of this name fails with this code
  pub record HasFault (operation : List ℕ) (code : ℕ) : Type 0 where
    pub number : ℕ
    pub comes : ComesTo (fault number code)
    pub is : operation ≡ operation_shown (slice_get operations.signatures number)

  -- this comes of the attribute within so many steps; more are needed where more instances are
  abbrev pub IsTreeValue : TreeValue → Type 0
  IsTreeValue (v.Value printed) = HasPrintedValue printed × (length printed ≤ 16777216)
  IsTreeValue v.TooLong = HasTooLongValue
  IsTreeValue (v.Fault operation code) = HasFault operation code
  IsTreeValue v.MoreSteps = NeedsMoreThan a operations top (synthesized_at root attribute) steps

-- one thing comes of an attribute of a tree at most
abbrev pub HasOneValue : AttributionParts → Operations → Type 0
HasOneValue a operations =
    (top : Tree) (attribute steps : ℕ) (one other : TreeValue) → IsTreeValue a operations top attribute steps one
    → IsTreeValue a operations top attribute steps other → one ≡ other
