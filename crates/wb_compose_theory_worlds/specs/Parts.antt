-- When a production is well defined in a part, and when a host and its extensions are.
use Rattle.std.specs.Prelude.{◌≡◌, ◌⊎◌, ◌<◌, ℕ, List, IsTrue, Contains}
use Rattle.wb_flow_theory.specs.Flow.{Leads}
use Rattle.wb_flow_theory.specs.Rules.{Reads}
use Rattle.wb_flow_theory.specs.Vertices.{Made, forward, Step, made, Vertex, top_synthesized, top_inherited, synthesized, inherited}
use Rattle.wb_flow_theory.specs.Vertices.{tree_of}
use Rattle.wb_syntax_resolved.specs.declared.attributes.Direction.TheVariants.{Synthesized, Inherited}
use Rattle.wb_syntax_resolved.specs.Expression.{Node}
use Rattle.wb_compose_theory_worlds.specs.Worlds.{host, extension, World, Part, plain, alone, Has, IsForwarding, IsBelowIn, OccursIn}
use Rattle.wb_compose_theory_worlds.specs.Worlds.{IsRuleIn, HasRuleIn}

-- an edge of a production's flow graph in a part: the first vertex needs the second
pub data HasEdgeIn (w : World) (part : Part) (p : ℕ) : Vertex → Vertex → Type 0 where
  -- the expression of an equation, of a local or of the forward reads it
  by_rule : {v x : Vertex} {e : List Node} → IsRuleIn w part p v e → Reads e x → HasEdgeIn w part p v x
  -- a synthesized attribute one step down needs each inherited one there that its flow type has
  by_flow_type : {s : Step} {a i m : ℕ} → IsBelowIn w part p s m → OccursIn w part Synthesized m a → Contains (w.needs m a) i
      → HasEdgeIn w part p (synthesized s a) (inherited s i)
  -- a synthesized attribute of a local, or of the forwarded tree, needs the tree
  by_tree : {k : Made} {a m : ℕ} → IsBelowIn w part p (made k) m → OccursIn w part Synthesized m a
      → HasEdgeIn w part p (synthesized (made k) a) (tree_of k)
  -- what has no rule goes through the forward
  by_copy_up : {a : ℕ} → OccursIn w part Synthesized (w.left p) a → ¬ HasRuleIn w part p (top_synthesized a) → IsForwarding w p
      → HasEdgeIn w part p (top_synthesized a) (synthesized (made forward) a)
  by_copy_down : {i : ℕ} → OccursIn w part Inherited (w.left p) i → ¬ HasRuleIn w part p (inherited (made forward) i) → IsForwarding w p
      → HasEdgeIn w part p (inherited (made forward) i) (top_inherited i)

-- the first vertex reaches the second
abbrev pub ReachesIn : World → Part → ℕ → Vertex → Vertex → Type 0
ReachesIn w part p v x = Leads (HasEdgeIn w part p) v x

-- the attributes of a production are well defined in a part
pub record IsWellDefinedIn (w : World) (part : Part) (p : ℕ) : Type 0 where
  -- each synthesized attribute of the left side has an equation, or the production forwards
  pub top : (a : ℕ) → OccursIn w part Synthesized (w.left p) a → HasRuleIn w part p (top_synthesized a) ⊎ IsForwarding w p
  -- where an attribute one step down is read, each inherited one that its flow type has has an equation, but at the forwarded tree
  pub below : (v : Vertex) (e : List Node) (s : Step) (a m i : ℕ) → IsRuleIn w part p v e → Reads e (synthesized s a)
      → IsBelowIn w part p s m → Contains (w.needs m a) i → HasRuleIn w part p (inherited s i) ⊎ (s ≡ made forward)
  -- flow types have what is reached
  pub flow_types : (a i : ℕ) → OccursIn w part Synthesized (w.left p) a → ReachesIn w part p (top_synthesized a) (top_inherited i)
      → Contains (w.needs (w.left p) a) i
  pub forward_flow_type : (i : ℕ) → ReachesIn w part p (tree_of forward) (top_inherited i) → Contains (w.forward_needs (w.left p)) i
  -- nothing needs itself
  pub acyclic : (v : Vertex) → ¬ ReachesIn w part p v v

-- each production of the part is
abbrev pub AreProductionsWellDefined : World → Part → Type 0
AreProductionsWellDefined w part = (p : ℕ) → Has part (w.production_owner p) → IsWellDefinedIn w part p

-- each flow type has all that the flow type of the forward has
abbrev pub HoldForwards : World → Part → Type 0
HoldForwards w part = (m a i : ℕ) → OccursIn w part Synthesized m a → Contains (w.forward_needs m) i → Contains (w.needs m a) i

-- the start has no inherited attribute
abbrev pub StartInheritsNothing : World → Part → Type 0
StartInheritsNothing w part = (i : ℕ) → ¬ OccursIn w part Inherited w.start i

-- the attributes of the part are well defined
pub record IsWellDefinedPart (w : World) (part : Part) : Type 0 where
  pub productions : AreProductionsWellDefined w part
  pub forward_needs : HoldForwards w part
  pub start_inherits : StartInheritsNothing w part

-- an extension's production on a nonterminal of the host that isn't closed forwards
abbrev pub ForwardsInHost : World → ℕ → Type 0
ForwardsInHost w k = (p : ℕ) → w.production_owner p ≡ extension k → w.nonterminal_owner (w.left p) ≡ host → ¬ IsTrue (w.closed (w.left p))
    → IsForwarding w p

-- in an extension's production on a nonterminal of the host, an equation for an inherited attribute of the forwarded tree reaches only
-- inherited attributes of the top that are in the flow type of the forward, or the attribute itself
abbrev pub ForwardsReach : World → ℕ → Type 0
ForwardsReach w k = (p i j : ℕ) → w.production_owner p ≡ extension k → w.nonterminal_owner (w.left p) ≡ host
    → HasRuleIn w (alone k) p (inherited (made forward) i) → ReachesIn w (alone k) p (inherited (made forward) i) (top_inherited j)
    → Contains (w.forward_needs (w.left p)) j ⊎ (j ≡ i)

-- the attributes of an extension are well defined with those of the host alone
pub record IsWellDefinedExtension (w : World) (k : ℕ) : Type 0 where
  pub part : IsWellDefinedPart w (alone k)
  pub forwards : ForwardsInHost w k
  pub forward_equations : ForwardsReach w k

-- those of the host are, and each of the first n extensions' are with the host alone
pub record AreWellDefinedApart (w : World) (n : ℕ) : Type 0 where
  pub host_part : IsWellDefinedPart w plain
  pub extensions : (k : ℕ) → k < n → IsWellDefinedExtension w k
