-- A part of a world in the numbers of another world.
use Rattle.std.specs.Prelude.{◌≡◌, ℕ, List, map}
use Rattle.wb_flow_theory.specs.Rules.{Reads}
use Rattle.wb_flow_theory.specs.Vertices.{Step, Vertex}
use Rattle.wb_syntax_resolved.specs.declared.attributes.Direction.{Direction}
use Rattle.wb_syntax_resolved.specs.declared.attributes.Direction.TheVariants.{Synthesized}
use Rattle.wb_syntax_resolved.specs.Expression.{Node}
use Rattle.wb_compose_theory_worlds.specs.Worlds.{Owner, host, extension, World, Part, alone, Has, IsForwarding, IsBelowIn, OccursIn}
use Rattle.wb_compose_theory_worlds.specs.Worlds.{IsRuleIn}
use Rattle.wb_compose_theory_attributes.specs.Numbers.{NumberMap, IsOneToOne, new_step, new_vertex}

-- the second expression reads exactly what the first reads, in new numbers
pub record ReadsAlike (t : NumberMap) (p : ℕ) (e f : List Node) : Type 0 where
  pub to : (x : Vertex) → Reads e x → Reads f (new_vertex t p x)
  pub from : (y : Vertex) → Reads f y → (x : Vertex) × Reads e x × (y ≡ new_vertex t p x)

-- the part of the first world, and the part of the second
module _ (v : World) (part : Part) (w : World) (other : Part) (t : NumberMap) where
  -- the second part has at the production's new number what the first has at the production: the left side, the trees one step down, the
  -- rules, and whether it forwards
  pub record IsProductionImage (p : ℕ) : Type 0 where
    pub left : w.left (t.production p) ≡ t.nonterminal (v.left p)
    pub below_to : (s : Step) (m : ℕ) → IsBelowIn v part p s m → IsBelowIn w other (t.production p) (new_step t p s) (t.nonterminal m)
    pub below_from : (r : Step) (n : ℕ) → IsBelowIn w other (t.production p) r n
        → (s : Step) × (m : ℕ) × IsBelowIn v part p s m × (r ≡ new_step t p s) × (n ≡ t.nonterminal m)
    pub rule_to : (x : Vertex) (e : List Node) → IsRuleIn v part p x e
        → (f : List Node) × IsRuleIn w other (t.production p) (new_vertex t p x) f × ReadsAlike t p e f
    pub rule_from : (y : Vertex) (f : List Node) → IsRuleIn w other (t.production p) y f
        → (x : Vertex) × (e : List Node) × IsRuleIn v part p x e × (y ≡ new_vertex t p x) × ReadsAlike t p e f
    pub forwards_to : IsForwarding v p → IsForwarding w (t.production p)
    pub forwards_from : IsForwarding w (t.production p) → IsForwarding v p

  -- the second part is the first in new numbers: it has the start, the productions, the occurrences with their flow types and the flow
  -- types of forwards that the first has, and no others
  pub record IsImage : Type 0 where
    pub once : IsOneToOne t
    pub start : w.start ≡ t.nonterminal v.start
    pub production_to : (p : ℕ) → Has part (v.production_owner p) → Has other (w.production_owner (t.production p))
    pub production_from : (q : ℕ) → Has other (w.production_owner q)
        → (p : ℕ) × Has part (v.production_owner p) × (q ≡ t.production p)
    pub rows : (p : ℕ) → Has part (v.production_owner p) → IsProductionImage p
    pub occurs_to : (d : Direction) (m a : ℕ) → OccursIn v part d m a → OccursIn w other d (t.nonterminal m) (t.attribute a)
    pub occurs_from : (d : Direction) (n b : ℕ) → OccursIn w other d n b
        → (m : ℕ) × (a : ℕ) × OccursIn v part d m a × (n ≡ t.nonterminal m) × (b ≡ t.attribute a)
    pub needs : (m a : ℕ) → OccursIn v part Synthesized m a
        → w.needs (t.nonterminal m) (t.attribute a) ≡ map t.attribute (v.needs m a)
    pub forward_needs : (m : ℕ) → w.forward_needs (t.nonterminal m) ≡ map t.attribute (v.forward_needs m)

-- the owner that the host, or the only extension, of a world is in another, where the extension is that of this number
abbrev pub owner_among : ℕ → Owner → Owner
owner_among k host = host
owner_among k (extension j) = extension k

-- the host with the extension k of the second world is the host with the first extension of the first world in new numbers, owners and
-- what is closed included
pub record IsExtensionImage (v w : World) (k : ℕ) (t : NumberMap) : Type 0 where
  pub image : IsImage v (alone 0) w (alone k) t
  pub production_owner : (p : ℕ) → Has (alone 0) (v.production_owner p)
      → w.production_owner (t.production p) ≡ owner_among k (v.production_owner p)
  pub nonterminal_owner : (m : ℕ) → w.nonterminal_owner (t.nonterminal m) ≡ owner_among k (v.nonterminal_owner m)
  pub closed : (m : ℕ) → w.closed (t.nonterminal m) ≡ v.closed m
