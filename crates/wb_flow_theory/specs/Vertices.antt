-- What an equation of a production can define or read.
use Rattle.std.specs.Prelude.{ℕ}
use Rattle.wb_syntax_resolved.specs.declared.equation.Place.{Place}
use Rattle.wb_syntax_resolved.specs.declared.equation.Place.TheVariants as place

-- what an expression makes a tree for: the local of this number, or what the production forwards to
pub data Made : Type 0 where
  local : ℕ → Made
  forward : Made

-- a step down from a node: to the child of this number, or to a tree that an expression makes
pub data Step : Type 0 where
  child : ℕ → Step
  made : Made → Step

-- a vertex of a flow graph; an attribute is given by its number
pub data Vertex : Type 0 where
  -- a synthesized attribute of the production's top, and an inherited one
  top_synthesized : ℕ → Vertex
  top_inherited : ℕ → Vertex
  -- a synthesized attribute one step down, and an inherited one
  synthesized : Step → ℕ → Vertex
  inherited : Step → ℕ → Vertex
  -- the tree of a local, or the forwarded tree
  tree_of : Made → Vertex

-- the step to a child or local
abbrev pub step_to : Place → Step
step_to (place.Child k) = child k
step_to (place.Local x) = made (local x)
