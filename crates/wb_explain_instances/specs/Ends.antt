-- What is said of attributes that wait: the place of the equation in which the evaluation ended, and a line for each of them.
use Rattle.std.specs.Prelude.{◌≡◌, ◌⊎◌, ◌++◌, ◌-◌, ℕ, List, [], Some, length, slice_get}
use Rattle.wb_eval.specs.declared.halt.Waiting.{Waiting}
use Rattle.wb_eval.specs.declared.machine.Key.{Key}
use Rattle.wb_explain_instances.specs.Equations.{SaysEquation}
use Rattle.wb_explain_instances.specs.Said.{HasChain}
use Rattle.wb_explain_places.specs.declared.source.Source.{Source}
use Rattle.wb_syntax_resolved.specs.declared.attribution.AttributionParts.{AttributionParts}
use Rattle.wb_syntax_resolved.specs.declared.production.Production.{Production}
use Rattle.wb_values.specs.Tree.{Tree}

-- these bytes begin with the place of the equation of the last of what waits, after some text
pub record HasPlace (productions : List Production) (trees : List Tree) (w : Waiting) (files : List Source) (head : List ℕ) : Type 0 where
  pub last : Key
  pub is_last : slice_get w.keys.items (length w.keys.items - 1) ≡ Some last
  pub text : List ℕ
  pub place : List ℕ
  pub rest : List ℕ
  pub says : SaysEquation productions trees w files last text [] place
  pub is : head ≡ place ++ rest

-- so they do, where something waits
abbrev pub HasHead : List Production → List Tree → Waiting → List Source → List ℕ → Type 0
HasHead productions trees w files head = (length w.keys.items ≡ 0) ⊎ HasPlace productions trees w files head

-- after what was there come such bytes, and then the lines of what waits, and others
pub record SaysEnd (a : AttributionParts) (trees : List Tree) (w : Waiting) (files : List Source) (old new : List ℕ) : Type 0 where
  pub head : List ℕ
  pub middle : List ℕ
  pub rest : List ℕ
  pub place : HasHead a.productions trees w files head
  pub chain : HasChain a w.keys.items (old ++ head) middle
  pub is : new ≡ middle ++ rest
