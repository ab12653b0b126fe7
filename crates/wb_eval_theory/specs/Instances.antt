-- Attribute instances, by paths from the root.
use Rattle.std.specs.Prelude.{ℕ}
use Rattle.wb_flow_theory.specs.Vertices.{Made, Step, Vertex, top_synthesized, top_inherited, synthesized, inherited, tree_of}

-- how a node is reached: from the root, a step at a time
pub data Path : Type 0 where
  root : Path
  down : Path → Step → Path

-- what can be asked
pub data Instance : Type 0 where
  -- a synthesized attribute of the node at a path, and an inherited one
  synthesized_at : Path → ℕ → Instance
  inherited_at : Path → ℕ → Instance
  -- the tree of a local, or of the forward, of the node at a path
  tree_at : Path → Made → Instance

-- the instance that a vertex of a production's flow graph is at a node of that production
abbrev pub instance_of : Path → Vertex → Instance
instance_of q (top_synthesized x) = synthesized_at q x
instance_of q (top_inherited i) = inherited_at q i
instance_of q (synthesized s x) = synthesized_at (down q s) x
instance_of q (inherited s i) = inherited_at (down q s) i
instance_of q (tree_of k) = tree_at q k

-- the path of the node whose production says what the instance is
abbrev pub home : Instance → Path
home (synthesized_at root x) = root
home (synthesized_at (down q s) x) = q
home (inherited_at root i) = root
home (inherited_at (down q s) i) = q
home (tree_at q k) = q
