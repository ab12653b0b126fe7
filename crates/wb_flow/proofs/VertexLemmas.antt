-- Which vertices of the definitions are named, and that a tree's attributes are vertices of its production.
use Rattle.std.proofs.Common.{◌≡◌, inl, inr, ℕ, List, Option, None, Some, refl, sym, ap, subst, option_map, slice_get, Contains}
use Rattle.std.specs.Prelude.{◌↔◌, IsSome}
use Rattle.std.proofs.lemmas.Option.{same_Some}
use Rattle.wb_base.specs.declared.symbol.Kind.TheVariants as kind
use Rattle.wb_lemmas.proofs.Elements.{all_contained}
use Rattle.wb_flow_theory.specs.Vertices as w
use Rattle.wb_flow_theory.specs.Occurrences.{Goes, IsOn, Occurs}
use Rattle.wb_flow_theory.specs.Rules.{IsBelow}
use Rattle.wb_flow_theory.specs.Flow.{IsVertex}
use Rattle.wb_flow_theory.proofs.OccurrenceLemmas.{goes_seen}
use Rattle.wb_flow.specs.declared.positions.Position.{Position}
use Rattle.wb_flow.specs.declared.positions.Position.TheVariants as p
use Rattle.wb_flow.specs.declared.positions.TreeAt.{TreeAt}
use Rattle.wb_flow.specs.declared.vertex.Vertex.{Vertex}
use Rattle.wb_flow.specs.declared.vertex.Vertex.TheVariants as code
use Rattle.wb_flow.specs.Inner.Adding.{SomeOf}
use Rattle.wb_flow.specs.Inner.Positions.{vertex_at, tree_at, child_nonterminal, kind_nonterminal, nonterminal_at, HasTree, IsVertexOf}
use Rattle.wb_flow.specs.Vertices.{known_direction, direction_of, top_vertex, vertex_below, vertex_of}
use Rattle.wb_syntax_resolved.specs.declared.attributes.Direction.{Direction}
use Rattle.wb_syntax_resolved.specs.declared.attributes.Direction.TheVariants.{Synthesized, Inherited}
use Rattle.wb_syntax_resolved.specs.declared.attribution.AttributionParts.{AttributionParts}
use Rattle.wb_syntax_resolved.specs.declared.production.Child.{Child}
use Rattle.wb_syntax_resolved.specs.declared.production.ChildKind.{ChildKind}
use Rattle.wb_syntax_resolved.specs.declared.production.ChildKind.TheVariants as child
use Rattle.wb_syntax_resolved.specs.declared.production.Forward.{Forward}
use Rattle.wb_syntax_resolved.specs.declared.production.Local.{Local}
use Rattle.wb_syntax_resolved.specs.declared.production.Production.{Production}
use Rattle.wb_syntax_resolved.specs.Attribution.{IsAttribution}
use Rattle.wb_syntax_resolved.specs.Named.{IsNamedOccurrence}

-- the position that a step leads to
abbrev pub position_of : w.Step → Position
position_of (w.child k) = p.Child k
position_of (w.made (w.local x)) = p.Local x
position_of (w.made w.forward) = p.Forward

-- the step that leads to a position
abbrev pub step_at : Position → Option w.Step
step_at p.Top = None
step_at (p.Child k) = Some (w.child k)
step_at (p.Local x) = Some (w.made (w.local x))
step_at p.Forward = Some (w.made w.forward)

pub step_back : (s : w.Step) → step_at (position_of s) ≡ Some s
step_back (w.child k) = refl
step_back (w.made (w.local x)) = refl
step_back (w.made w.forward) = refl

-- the name of a vertex
abbrev pub name_of : w.Vertex → Vertex
name_of (w.top_synthesized x) = code.Top x
name_of (w.top_inherited x) = code.Top x
name_of (w.synthesized s x) = vertex_at (position_of s) x
name_of (w.inherited s x) = vertex_at (position_of s) x
name_of (w.tree_of (w.local x)) = code.LocalTree x
name_of (w.tree_of w.forward) = code.ForwardTree

top_name : (d : Direction) (x : ℕ) → name_of (top_vertex d x) ≡ code.Top x
top_name Synthesized x = refl
top_name Inherited x = refl

below_name : (s : w.Step) (d : Direction) (x : ℕ) → name_of (vertex_below s d x) ≡ vertex_at (position_of s) x
below_name s Synthesized x = refl
below_name s Inherited x = refl

-- a vertex is named by what names it
pub name_of_vertex : (a : AttributionParts) (c : Vertex) → name_of (vertex_of a c) ≡ c
name_of_vertex a (code.Top x) = top_name (direction_of a x) x
name_of_vertex a (code.Child k x) = below_name (w.child k) (direction_of a x) x
name_of_vertex a (code.Local y x) = below_name (w.made (w.local y)) (direction_of a x) x
name_of_vertex a (code.Forward x) = below_name (w.made w.forward) (direction_of a x) x
name_of_vertex a (code.LocalTree y) = refl
name_of_vertex a code.ForwardTree = refl

module _ (a : AttributionParts) where
  -- the direction of an attribute
  pub direction_is : (d : Direction) (x : ℕ) → Goes a d x → direction_of a x ≡ d
  direction_is d x goes = ap known_direction goes

  -- an attribute of the top that goes this way
  pub top_is : (d : Direction) (x : ℕ) → Goes a d x → vertex_of a (code.Top x) ≡ top_vertex d x
  top_is d x goes = ap (λ z. top_vertex z x) (direction_is d x goes)

  -- an attribute one step down that goes this way
  pub below_is : (position : Position) (s : w.Step) (d : Direction) (x : ℕ) → step_at position ≡ Some s → Goes a d x
      → vertex_of a (vertex_at position x) ≡ vertex_below s d x
  below_is p.Top s d x is goes = absurd (cc is)
  below_is (p.Child k) s d x is goes =
      subst (λ z. vertex_of a (code.Child k x) ≡ vertex_below z d x) (same_Some (w.child k) s is)
      (ap (λ z. vertex_below (w.child k) z x) (direction_is d x goes))
  below_is (p.Local y) s d x is goes =
      subst (λ z. vertex_of a (code.Local y x) ≡ vertex_below z d x) (same_Some (w.made (w.local y)) s is)
      (ap (λ z. vertex_below (w.made (w.local y)) z x) (direction_is d x goes))
  below_is p.Forward s d x is goes =
      subst (λ z. vertex_of a (code.Forward x) ≡ vertex_below z d x) (same_Some (w.made w.forward) s is)
      (ap (λ z. vertex_below (w.made w.forward) z x) (direction_is d x goes))

  -- the tree at a position, where an expression makes it
  pub tree_is : (position : Position) (c : Vertex) → tree_at position ≡ Some c
      → (k : w.Made) × (step_at position ≡ Some (w.made k)) × (vertex_of a c ≡ w.tree_of k)
  tree_is p.Top c is = absurd (cc is)
  tree_is (p.Child k) c is = absurd (cc is)
  tree_is (p.Local x) c is = (w.local x, refl, ap (vertex_of a) (sym (same_Some (code.LocalTree x) c is)))
  tree_is p.Forward c is = (w.forward, refl, ap (vertex_of a) (sym (same_Some code.ForwardTree c is)))

-- a child is a tree of a nonterminal
child_is : (k : ChildKind) (m : ℕ) → child_nonterminal k ≡ Some m → k ≡ child.Value (kind.Tree m)
child_is (child.Terminal number) m is = absurd (cc is)
child_is (child.Value kind.Int) m is = absurd (cc is)
child_is (child.Value kind.Bool) m is = absurd (cc is)
child_is (child.Value kind.Text) m is = absurd (cc is)
child_is (child.Value (kind.Tree n)) m is = ap (λ z. child.Value (kind.Tree z)) (same_Some n m is)

child_at : (o : Option Child) (m : ℕ) → kind_nonterminal o ≡ Some m → option_map (λ (c : Child). c.kind) o ≡ Some (child.Value (kind.Tree m))
child_at None m is = absurd (cc is)
child_at (Some c) m is = ap Some (child_is c.kind m is)

child_from : (o : Option Child) (m : ℕ) → option_map (λ (c : Child). c.kind) o ≡ Some (child.Value (kind.Tree m)) → kind_nonterminal o ≡ Some m
child_from None m is = absurd (cc is)
child_from (Some c) m is = let same : c.kind ≡ child.Value (kind.Tree m) = cc in ap child_nonterminal same

-- a local is a tree of a nonterminal
local_at : (o : Option Local) (m : ℕ) → option_map (λ (l : Local). l.nonterminal) o ≡ Some m
    → option_map (λ (l : Local). child.Value (kind.Tree l.nonterminal)) o ≡ Some (child.Value (kind.Tree m))
local_at None m is = absurd (cc is)
local_at (Some l) m is = ap (λ z. Some (child.Value (kind.Tree z))) (same_Some l.nonterminal m is)

local_from : (o : Option Local) (m : ℕ) → option_map (λ (l : Local). child.Value (kind.Tree l.nonterminal)) o ≡ Some (child.Value (kind.Tree m))
    → option_map (λ (l : Local). l.nonterminal) o ≡ Some m
local_from None m is = absurd (cc is)
local_from (Some l) m is = let same : l.nonterminal ≡ m = cc is in ap Some same

-- what is forwarded to is a tree of the left side
forward_at : (o : Option Forward) (left m : ℕ) → option_map (λ (f : Forward). left) o ≡ Some m → IsSome o × (left ≡ m)
forward_at None left m is = absurd (cc is)
forward_at (Some f) left m is = (refl, same_Some left m is)

forward_from : (o : Option Forward) (left m : ℕ) → IsSome o → left ≡ m → option_map (λ (f : Forward). left) o ≡ Some m
forward_from None left m some same = absurd (cc)
forward_from (Some f) left m some same = ap Some same

module _ (production : Production) where
  -- a tree at a position is one step down
  pub tree_below : (position : Position) (s : w.Step) (m : ℕ) → step_at position ≡ Some s → nonterminal_at production position ≡ Some m
      → IsBelow production s m
  tree_below p.Top s m step is = absurd (cc step)
  tree_below (p.Child k) s m step is =
      subst (λ z. IsBelow production z m) (same_Some (w.child k) s step) (child_at (slice_get production.children k) m is)
  tree_below (p.Local x) s m step is =
      subst (λ z. IsBelow production z m) (same_Some (w.made (w.local x)) s step) (local_at (slice_get production.locals x) m is)
  tree_below p.Forward s m step is =
      subst (λ z. IsBelow production z m) (same_Some (w.made w.forward) s step) (forward_at production.forward production.left m is)

  -- what is one step down is a tree at a position
  pub below_tree : (s : w.Step) (m : ℕ) → IsBelow production s m → nonterminal_at production (position_of s) ≡ Some m
  below_tree (w.child k) m is = child_from (slice_get production.children k) m is
  below_tree (w.made (w.local x)) m is = local_from (slice_get production.locals x) m is
  below_tree (w.made w.forward) m (some, same) = forward_from production.forward production.left m some same

  module _ (a : AttributionParts) where
    -- attributes that occur are vertices, and vertices are attributes that occur
    pub top_vertex_is : (d : Direction) (x : ℕ) → Occurs a d x production.left → IsVertex a production (top_vertex d x)
    top_vertex_is Synthesized x occurs = occurs
    top_vertex_is Inherited x occurs = occurs

    pub top_occurs : (d : Direction) (x : ℕ) → IsVertex a production (top_vertex d x) → Occurs a d x production.left
    top_occurs Synthesized x is = is
    top_occurs Inherited x is = is

    pub below_vertex_is : (s : w.Step) (d : Direction) (x m : ℕ) → IsBelow production s m → Occurs a d x m
        → IsVertex a production (vertex_below s d x)
    below_vertex_is s Synthesized x m below occurs = (m, below, occurs)
    below_vertex_is s Inherited x m below occurs = (m, below, occurs)

    pub below_occurs : (s : w.Step) (d : Direction) (x : ℕ) → IsVertex a production (vertex_below s d x)
        → (m : ℕ) × IsBelow production s m × Occurs a d x m
    below_occurs s Synthesized x is = is
    below_occurs s Inherited x is = is

-- what occurs goes some way
pub on_goes : (a : AttributionParts) → IsAttribution a → (x m : ℕ) → IsOn a x m → Goes a (direction_of a x) x
on_goes a is x m (needs, flow) =
    let o = flow.occurrence in
    let named = all_contained (IsNamedOccurrence a) a.occurrences o is.named.occurrences flow.listed in
    let goes = subst (Goes a named.direction) flow.of_attribute (goes_seen a o.owner named.direction o.attribute named.attribute) in
    subst (λ d. Goes a d x) (sym (direction_is a named.direction x goes)) goes

pub on_occurs : (a : AttributionParts) → IsAttribution a → (x m : ℕ) → IsOn a x m → Occurs a (direction_of a x) x m
on_occurs a is x m on = record { goes = on_goes a is x m on; on = on }

module _ (a : AttributionParts) (is : IsAttribution a) (production : Production) where
  -- a vertex of a tree is one of its production
  attribute_vertex : (position : Position) (m x : ℕ) → nonterminal_at production position ≡ Some m → IsOn a x m
      → IsVertex a production (vertex_of a (vertex_at position x))
  attribute_vertex p.Top m x there on =
      top_vertex_is production a (direction_of a x) x (subst (Occurs a (direction_of a x) x) (sym (same_Some production.left m there)) (on_occurs a is x m on))
  attribute_vertex (p.Child k) m x there on =
      below_vertex_is production a (w.child k) (direction_of a x) x m (tree_below production (p.Child k) (w.child k) m refl there)
      (on_occurs a is x m on)
  attribute_vertex (p.Local y) m x there on =
      below_vertex_is production a (w.made (w.local y)) (direction_of a x) x m
      (tree_below production (p.Local y) (w.made (w.local y)) m refl there) (on_occurs a is x m on)
  attribute_vertex p.Forward m x there on =
      below_vertex_is production a (w.made w.forward) (direction_of a x) x m
      (tree_below production p.Forward (w.made w.forward) m refl there) (on_occurs a is x m on)

  made_vertex : (position : Position) (m : ℕ) (c : Vertex) → nonterminal_at production position ≡ Some m → tree_at position ≡ Some c
      → IsVertex a production (vertex_of a c)
  made_vertex position m c there at =
      let (k, step, same) = tree_is a position c at in
      subst (IsVertex a production) (sym same) (m, tree_below production position (w.made k) m step there)

  pub tree_vertex : (t : TreeAt) (c : Vertex) → HasTree production t → IsVertexOf a t c → IsVertex a production (vertex_of a c)
  tree_vertex t c there (inl made) = made_vertex t.position t.nonterminal c there made
  tree_vertex t c there (inr (x, on, same)) =
      subst (λ z. IsVertex a production (vertex_of a z)) (sym same) (attribute_vertex t.position t.nonterminal x there on)

  -- a vertex of a production is one of a tree
  abbrev IsVertexOfSome : Vertex → Type 0
  IsVertexOfSome c = (t : TreeAt) × HasTree production t × IsVertexOf a t c

  below_tree_of : (s : w.Step) (d : Direction) (x : ℕ) → IsVertex a production (vertex_below s d x) → IsVertexOfSome (vertex_at (position_of s) x)
  below_tree_of s d x vertex =
      let (m, below, occurs) = below_occurs production a s d x vertex in
      (record { position = position_of s; nonterminal = m }, below_tree production s m below, inr (x, occurs.on, refl))

  pub vertex_tree : (c : Vertex) → IsVertex a production (vertex_of a c) → IsVertexOfSome c
  vertex_tree (code.Top x) vertex =
      let occurs = top_occurs production a (direction_of a x) x vertex in
      (record { position = p.Top; nonterminal = production.left }, refl, inr (x, occurs.on, refl))
  vertex_tree (code.Child k x) vertex = below_tree_of (w.child k) (direction_of a x) x vertex
  vertex_tree (code.Local y x) vertex = below_tree_of (w.made (w.local y)) (direction_of a x) x vertex
  vertex_tree (code.Forward x) vertex = below_tree_of (w.made w.forward) (direction_of a x) x vertex
  vertex_tree (code.LocalTree y) (m, below) =
      (record { position = p.Local y; nonterminal = m }, below_tree production (w.made (w.local y)) m below, inl refl)
  vertex_tree code.ForwardTree (m, below) =
      (record { position = p.Forward; nonterminal = m }, below_tree production (w.made w.forward) m below, inl refl)

  -- the vertices of all trees are those of the production
  pub trees_vertices : (trees : List TreeAt) → ((t : TreeAt) → Contains trees t ↔ HasTree production t) → (c : Vertex)
      → SomeOf trees (IsVertexOf a) c ↔ IsVertex a production (vertex_of a c)
  trees_vertices trees all c = (
    (λ (t, has, of). tree_vertex t c ((all t).0 has) of),
    (λ vertex. let (t, there, of) = vertex_tree c vertex in (t, (all t).1 there, of)),
  )

-- a vertex of a production has a name that names it
module _ (a : AttributionParts) (production : Production) where
  pub named_vertex : (u : w.Vertex) → IsVertex a production u → vertex_of a (name_of u) ≡ u
  named_vertex (w.top_synthesized x) occurs = top_is a Synthesized x occurs.goes
  named_vertex (w.top_inherited x) occurs = top_is a Inherited x occurs.goes
  named_vertex (w.synthesized s x) (m, below, occurs) = below_is a (position_of s) s Synthesized x (step_back s) occurs.goes
  named_vertex (w.inherited s x) (m, below, occurs) = below_is a (position_of s) s Inherited x (step_back s) occurs.goes
  named_vertex (w.tree_of (w.local x)) is = refl
  named_vertex (w.tree_of w.forward) is = refl
