-- The attributes of a host and its extensions, in one space of names: a part of them is no list, and nothing is renumbered.
use Rattle.std.specs.Prelude.{◌≡◌, ◌<◌, ℕ, zero, suc, Bool, List, Option, Some, None, IsTrue}
use Rattle.wb_flow_theory.specs.Vertices.{local, forward, Step, child, made, Vertex, top_synthesized, top_inherited, synthesized}
use Rattle.wb_flow_theory.specs.Vertices.{inherited, tree_of}
use Rattle.wb_syntax_resolved.specs.declared.attributes.Direction.{Direction}
use Rattle.wb_syntax_resolved.specs.declared.attributes.Direction.TheVariants.{Synthesized, Inherited}
use Rattle.wb_syntax_resolved.specs.Expression.{Node}

-- who declares or writes something: the host, or the extension of this number
pub data Owner : Type 0 where
  host : Owner
  extension : ℕ → Owner

-- the owner that attributions call by this number
abbrev pub owner_of : ℕ → Owner
owner_of zero = host
owner_of (suc k) = extension k

-- all names of a host and any number of extensions, with what each of them declares and writes
pub record World : Type 0 where
  pub start : ℕ
  pub nonterminal_owner : ℕ → Owner
  -- whether only the nonterminal's owner may declare that an attribute occurs on it
  pub closed : (nonterminal : ℕ) → Bool
  pub attribute_owner : ℕ → Owner
  -- whether the owner declares that an attribute of this direction occurs on the nonterminal
  pub declares : Direction → Owner → (nonterminal attribute : ℕ) → Bool
  -- the flow type of an attribute on a nonterminal, and that of the nonterminal's forward
  pub needs : (nonterminal attribute : ℕ) → List ℕ
  pub forward_needs : (nonterminal : ℕ) → List ℕ
  pub production_owner : ℕ → Owner
  pub left : ℕ → ℕ
  -- the nonterminal of the tree at a child, and at a local, of which each has an owner
  pub child_at : (production child : ℕ) → Option ℕ
  pub local_at : (production local : ℕ) → Option ℕ
  pub local_owner : (production local : ℕ) → Owner
  -- the expression that an owner writes at a production for a vertex
  pub writes : Owner → (production : ℕ) → Vertex → Option (List Node)

-- the attribute grammars that are made of these names
pub data Part : Type 0 where
  -- the host
  plain : Part
  -- the host with one extension
  alone : ℕ → Part
  -- the union of the host with the first extensions, as many as this
  union : ℕ → Part

abbrev pub Has : Part → Owner → Type 0
Has part host = Unit {0}
Has plain (extension k) = ⊥
Has (alone e) (extension k) = k ≡ e
Has (union n) (extension k) = k < n

-- what an owner has before it when it is tested: the host, and itself
abbrev pub part_of : Owner → Part
part_of host = plain
part_of (extension k) = alone k

-- the first owner sees the names of the second
abbrev pub Sees : Owner → Owner → Type 0
Sees o other = Has (part_of o) other

-- the nonterminal of the forwarded tree, where something is written for it
abbrev pub forwarded : ℕ → Option (List Node) → Option ℕ
forwarded left None = None
forwarded left (Some nodes) = Some left

-- the nonterminal one step down, where there is a tree
abbrev pub below : World → ℕ → Step → Option ℕ
below w p (child k) = w.child_at p k
below w p (made (local x)) = w.local_at p x
below w p (made forward) = forwarded (w.left p) (w.writes (w.production_owner p) p (tree_of forward))

abbrev pub step_owner : World → ℕ → Step → Owner
step_owner w p (child k) = w.production_owner p
step_owner w p (made (local x)) = w.local_owner p x
step_owner w p (made forward) = w.production_owner p

abbrev pub IsForwarding : World → ℕ → Type 0
IsForwarding w p = (e : List Node) × (w.writes (w.production_owner p) p (tree_of forward) ≡ Some e)

-- what there is in a part: a step down, an occurrence, a rule
abbrev pub IsBelowIn : World → Part → ℕ → Step → ℕ → Type 0
IsBelowIn w part p s m = (below w p s ≡ Some m) × Has part (step_owner w p s)

abbrev pub OccursIn : World → Part → Direction → ℕ → ℕ → Type 0
OccursIn w part d m a = (o : Owner) × Has part o × IsTrue (w.declares d o m a)

abbrev pub IsRuleIn : World → Part → ℕ → Vertex → List Node → Type 0
IsRuleIn w part p v e = (o : Owner) × Has part o × (w.writes o p v ≡ Some e)

abbrev pub HasRuleIn : World → Part → ℕ → Vertex → Type 0
HasRuleIn w part p v = (e : List Node) × IsRuleIn w part p v e

-- a vertex of a production's flow graph in a part
abbrev pub IsVertexIn : World → Part → ℕ → Vertex → Type 0
IsVertexIn w part p (top_synthesized a) = OccursIn w part Synthesized (w.left p) a
IsVertexIn w part p (top_inherited i) = OccursIn w part Inherited (w.left p) i
IsVertexIn w part p (synthesized s a) = (m : ℕ) × IsBelowIn w part p s m × OccursIn w part Synthesized m a
IsVertexIn w part p (inherited s i) = (m : ℕ) × IsBelowIn w part p s m × OccursIn w part Inherited m i
IsVertexIn w part p (tree_of k) = (m : ℕ) × IsBelowIn w part p (made k) m
