-- What an evaluation answers: the value or the fault of the attribute of the root, or that more instances are needed than there are steps.
use Rattle.std.specs.Prelude.{◌≡◌, ◌++◌, ℕ, List, length}
use Rattle.wb_operations.specs.Operations.{Operations}
use Rattle.wb_values.specs.Tree.{Tree}
use Rattle.wb_values.specs.ValuesIn.{value_in, IsIn}
use Rattle.wb_syntax_resolved.specs.declared.attribution.AttributionParts.{AttributionParts}
use Rattle.wb_eval_theory.specs.Answers.{HasAnswer}
use Rattle.wb_eval_theory.specs.Instances.{root, synthesized_at}
use Rattle.wb_eval_theory.specs.Needed.{NeedsMoreThan}
use Rattle.wb_eval_theory.specs.Walks.{value, fault}
use Rattle.wb_eval.specs.declared.evaluated.Evaluated.{Evaluated}
use Rattle.wb_eval.specs.declared.evaluated.Evaluated.TheVariants.{Value, Fault, MoreSteps}

-- the store holds what it held, and maybe more after it
abbrev pub HoldsMore : List Tree → List Tree → Type 0
HoldsMore old new = (more : List Tree) × (new ≡ old ++ more)

module _ (a : AttributionParts) (operations : Operations) (top : Tree) (attribute steps : ℕ) where
  -- no more instances are needed than there are steps
  abbrev pub IsWithin : Type 0
  IsWithin = ¬ NeedsMoreThan a operations top (synthesized_at root attribute) steps

  -- a value is the attribute's, among these trees, and within the steps
  abbrev pub IsValue : List Tree → Evaluated → Type 0
  IsValue trees (Value v) =
      HasAnswer a operations top (synthesized_at root attribute) (value (value_in trees v)) × IsIn (length trees) v × IsWithin
  IsValue trees other = Unit {0}

  -- a fault is the attribute's, within the steps
  abbrev pub IsFault : Evaluated → Type 0
  IsFault (Fault operation code) = HasAnswer a operations top (synthesized_at root attribute) (fault operation code) × IsWithin
  IsFault other = Unit {0}

  -- more steps are asked for where more instances are needed
  abbrev pub AsksMore : Evaluated → Type 0
  AsksMore MoreSteps = NeedsMoreThan a operations top (synthesized_at root attribute) steps
  AsksMore other = Unit {0}
