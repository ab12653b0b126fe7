-- Who sees which names, and who may declare and write what.
use Rattle.std.specs.Prelude.{◌≡◌, ◌⊎◌, ℕ, List, Some, IsTrue, Contains}
use Rattle.wb_flow_theory.specs.Rules.{Reads}
use Rattle.wb_flow_theory.specs.Vertices.{local, forward, Step, child, made, Vertex, top_synthesized, top_inherited, synthesized}
use Rattle.wb_flow_theory.specs.Vertices.{inherited, tree_of}
use Rattle.wb_syntax_resolved.specs.declared.attributes.Direction.{Direction}
use Rattle.wb_syntax_resolved.specs.declared.attributes.Direction.TheVariants.{Synthesized, Inherited}
use Rattle.wb_syntax_resolved.specs.Expression.{Node}
use Rattle.wb_compose_theory_worlds.specs.Worlds.{Owner, host, World, part_of, Sees, below, OccursIn, IsVertexIn}

abbrev pub IsOwnLocal : World → Owner → ℕ → Step → Type 0
IsOwnLocal w o p (child k) = ⊥
IsOwnLocal w o p (made (local x)) = w.local_owner p x ≡ o
IsOwnLocal w o p (made forward) = ⊥

-- an owner declares that the inherited attribute occurs on the nonterminal one step down
abbrev pub DeclaresBelow : World → Owner → ℕ → Step → ℕ → Type 0
DeclaresBelow w o p s i = (m : ℕ) × (below w p s ≡ Some m) × IsTrue (w.declares Inherited o m i)

-- an owner writes an equation only on its own production, on its own local, or for an occurrence that it declared
abbrev pub MayWrite : World → Owner → ℕ → Vertex → Type 0
MayWrite w o p (top_synthesized a) = (w.production_owner p ≡ o) ⊎ IsTrue (w.declares Synthesized o (w.left p) a)
MayWrite w o p (top_inherited i) = ⊥
MayWrite w o p (synthesized s a) = ⊥
MayWrite w o p (inherited s i) = (w.production_owner p ≡ o) ⊎ (IsOwnLocal w o p s ⊎ DeclaresBelow w o p s i)
MayWrite w o p (tree_of (local x)) = w.local_owner p x ≡ o
MayWrite w o p (tree_of forward) = w.production_owner p ≡ o

pub record IsNamed (w : World) : Type 0 where
  pub start_host : w.nonterminal_owner w.start ≡ host
  -- a production, and a local, have nonterminals that their owner sees; a local is on a production that its owner sees
  pub left_seen : (p : ℕ) → Sees (w.production_owner p) (w.nonterminal_owner (w.left p))
  pub child_seen : (p k m : ℕ) → w.child_at p k ≡ Some m → Sees (w.production_owner p) (w.nonterminal_owner m)
  pub local_seen : (p x m : ℕ) → w.local_at p x ≡ Some m → Sees (w.local_owner p x) (w.nonterminal_owner m)
  pub local_there : (p x m : ℕ) → w.local_at p x ≡ Some m → Sees (w.local_owner p x) (w.production_owner p)
  -- an occurrence is of an attribute and on a nonterminal that its owner sees, and one of them is its own
  pub nonterminal : (d : Direction) (o : Owner) (m a : ℕ) → IsTrue (w.declares d o m a) → Sees o (w.nonterminal_owner m)
  pub attribute : (d : Direction) (o : Owner) (m a : ℕ) → IsTrue (w.declares d o m a) → Sees o (w.attribute_owner a)
  pub own : (d : Direction) (o : Owner) (m a : ℕ) → IsTrue (w.declares d o m a) → (w.nonterminal_owner m ≡ o) ⊎ (w.attribute_owner a ≡ o)
  -- on a closed nonterminal only its owner declares one
  pub closed : (d : Direction) (o : Owner) (m a : ℕ) → IsTrue (w.declares d o m a) → IsTrue (w.closed m) → w.nonterminal_owner m ≡ o
  -- a flow type names attributes that occur there, as its owner sees it
  pub needs_named : (o : Owner) (m a i : ℕ) → IsTrue (w.declares Synthesized o m a) → Contains (w.needs m a) i
      → OccursIn w (part_of o) Inherited m i
  pub forward_named : (m i : ℕ) → Contains (w.forward_needs m) i → OccursIn w (part_of (w.nonterminal_owner m)) Inherited m i
  -- a rule is at a production and for a vertex that its writer sees and may write, and reads what it sees
  pub writes_there : (o : Owner) (p : ℕ) (v : Vertex) (e : List Node) → w.writes o p v ≡ Some e → Sees o (w.production_owner p)
  pub writes_seen : (o : Owner) (p : ℕ) (v : Vertex) (e : List Node) → w.writes o p v ≡ Some e → IsVertexIn w (part_of o) p v
  pub writes_may : (o : Owner) (p : ℕ) (v : Vertex) (e : List Node) → w.writes o p v ≡ Some e → MayWrite w o p v
  pub reads_seen : (o : Owner) (p : ℕ) (v : Vertex) (e : List Node) (x : Vertex) → w.writes o p v ≡ Some e → Reads e x
      → IsVertexIn w (part_of o) p x
