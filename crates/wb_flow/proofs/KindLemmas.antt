-- One edge more of each kind.
use Rattle.std.proofs.Common.{◌≡◌, ◌+◌, ◌∙◌, ◌∷◌, ◌++◌, [], ◌⊎◌, inl, inr, ℕ, List, None, Some, length, refl, sym, ap, subst}
use Rattle.std.proofs.Common.{slice_get}
use Rattle.std.proofs.Common.{Contains}
use Rattle.std.specs.Prelude.{◌↔◌}
use Rattle.std.proofs.lemmas.Option.{same_Some, slice_get_within}
use Rattle.wb_lemmas.proofs.Places.{at_once}
use Rattle.wb_flow_theory.specs.Occurrences.{Goes}
use Rattle.wb_flow.specs.Rules.{target_of, IsDefined}
use Rattle.wb_flow.specs.declared.arrows.Arrow.{Arrow}
use Rattle.wb_flow.specs.declared.positions.Position.{Position}
use Rattle.wb_flow.specs.declared.vertex.Vertex.{Vertex}
use Rattle.wb_flow.specs.declared.vertex.Vertex.TheVariants as code
use Rattle.wb_flow.specs.Inner.Adding.{SomeOf, SomeBelow}
use Rattle.wb_flow.specs.Adding.{Adds}
use Rattle.wb_flow.specs.Inner.Arrows.{IsReadArrow, IsExpressionArrow, IsEquationArrow, IsLocalArrow, IsForwardArrow, IsRuleArrow}
use Rattle.wb_flow.specs.Reads.{read_by}
use Rattle.wb_flow.specs.Inner.Arrows.{IsNeedArrow, IsTreeArrow, IsCopyArrow}
use Rattle.wb_flow.specs.Inner.Positions.{vertex_at, tree_at}
use Rattle.wb_flow.proofs.AddingLemmas.{adds_as, adds_one, adds_none}
use Rattle.wb_flow.proofs.ReadLemmas.{one_way}
use Rattle.wb_syntax_resolved.specs.declared.attributes.Direction.TheVariants.{Synthesized, Inherited}
use Rattle.wb_syntax_resolved.specs.declared.attribution.AttributionParts.{AttributionParts}
use Rattle.wb_syntax_resolved.specs.declared.equation.Equation.{Equation}
use Rattle.wb_syntax_resolved.specs.declared.production.Forward.{Forward}
use Rattle.wb_syntax_resolved.specs.declared.production.Local.{Local}
use Rattle.wb_syntax_resolved.specs.declared.production.Production.{Production}
use Rattle.wb_syntax_resolved.specs.Expression.{Node}

abbrev pub arrow : Vertex → Vertex → Arrow
arrow from to = record { from = from; to = to }

same_arrow : (from to : Vertex) (x : Arrow) → x.from ≡ from → x.to ≡ to → x ≡ arrow from to
same_arrow from to x left right = ap (λ z. arrow z x.to) left ∙ ap (arrow from) right

-- an edge for what a node reads
pub read_one : (xs ys : List Arrow) (from : Vertex) (node : Node) (to : Vertex) → read_by node ≡ Some to → ys ≡ xs ++ arrow from to ∷ []
    → Adds xs ys (IsReadArrow from node)
read_one xs ys from node to at is =
    adds_as xs ys (λ x. x ≡ arrow from to) (IsReadArrow from node) (λ x. (
      (λ same. subst (IsReadArrow from node) (sym same) (refl, at)),
      (λ (left, right). same_arrow from to x left (same_Some x.to to (sym right ∙ at))),
    )) (adds_one xs ys (arrow from to) is)

-- and none where it reads nothing
pub read_none : (xs : List Arrow) (from : Vertex) (node : Node) → read_by node ≡ None → Adds xs xs (IsReadArrow from node)
read_none xs from node none = adds_none xs (IsReadArrow from node) (λ r (left, right). let bad = sym none ∙ right in cc)

-- an edge by a flow type
pub need_one : (xs ys : List Arrow) (position : Position) (x i : ℕ) (from to : Vertex) → from ≡ vertex_at position x → to ≡ vertex_at position i
    → ys ≡ xs ++ arrow from to ∷ [] → Adds xs ys (IsNeedArrow position x i)
need_one xs ys position x i from to left right is =
    adds_as xs ys (λ r. r ≡ arrow from to) (IsNeedArrow position x i) (λ r. (
      (λ same. (ap (λ z. z.from) same ∙ left, ap (λ z. z.to) same ∙ right)),
      (λ (l, m). same_arrow from to r (l ∙ sym left) (m ∙ sym right)),
    )) (adds_one xs ys (arrow from to) is)

-- an edge to a tree
pub tree_one : (a : AttributionParts) (xs ys : List Arrow) (position : Position) (x : ℕ) (from to : Vertex) → Goes a Synthesized x
    → from ≡ vertex_at position x → tree_at position ≡ Some to → ys ≡ xs ++ arrow from to ∷ [] → Adds xs ys (IsTreeArrow a position x)
tree_one a xs ys position x from to goes left at is =
    adds_as xs ys (λ r. r ≡ arrow from to) (IsTreeArrow a position x) (λ r. (
      (λ same. (goes, ap (λ z. z.from) same ∙ left, at ∙ ap (λ z. Some z.to) (sym same))),
      (λ (up, l, m). same_arrow from to r (l ∙ sym left) (same_Some r.to to (sym m ∙ at))),
    )) (adds_one xs ys (arrow from to) is)

-- an edge where no equation is
pub undefined_one : (production : Production) (xs ys : List Arrow) (edge : Arrow) → ¬ IsDefined production edge.from → ys ≡ xs ++ edge ∷ []
    → Adds xs ys (λ r. (r ≡ edge) × ¬ IsDefined production edge.from)
undefined_one production xs ys edge none is =
    adds_as xs ys (λ r. r ≡ edge) (λ r. (r ≡ edge) × ¬ IsDefined production edge.from)
    (λ r. ((λ same. (same, none)), (λ both. both.0))) (adds_one xs ys edge is)

pub defined_none : (production : Production) (xs : List Arrow) (edge : Arrow) → IsDefined production edge.from
    → Adds xs xs (λ r. (r ≡ edge) × ¬ IsDefined production edge.from)
defined_none production xs edge defined =
    adds_none xs (λ r. (r ≡ edge) × ¬ IsDefined production edge.from) (λ r both. both.1 defined)

module _ (a : AttributionParts) (production : Production) (x : ℕ) (xs ys : List Arrow) where
  -- copies of a synthesized attribute, of an inherited one, and of another
  pub copy_up : Goes a Synthesized x
      → Adds xs ys (λ r. (r ≡ arrow (code.Top x) (code.Forward x)) × ¬ IsDefined production (code.Top x)) → Adds xs ys (IsCopyArrow a production x)
  copy_up up adds =
      adds_as xs ys (λ r. (r ≡ arrow (code.Top x) (code.Forward x)) × ¬ IsDefined production (code.Top x)) (IsCopyArrow a production x)
      (λ r. (
        (λ (same, none). inl (up, none, ap (λ z. z.from) same, ap (λ z. z.to) same)),
        (λ either. elim either [
          | inl (goes, none, left, right) ↦ (same_arrow (code.Top x) (code.Forward x) r left right, none)
          | inr (down, none, left, right) ↦ absurd (one_way a x up down)
        ]),
      )) adds

  pub copy_down : Goes a Inherited x
      → Adds xs ys (λ r. (r ≡ arrow (code.Forward x) (code.Top x)) × ¬ IsDefined production (code.Forward x))
      → Adds xs ys (IsCopyArrow a production x)
  copy_down down adds =
      adds_as xs ys (λ r. (r ≡ arrow (code.Forward x) (code.Top x)) × ¬ IsDefined production (code.Forward x)) (IsCopyArrow a production x)
      (λ r. (
        (λ (same, none). inr (down, none, ap (λ z. z.from) same, ap (λ z. z.to) same)),
        (λ either. elim either [
          | inl (up, none, left, right) ↦ absurd (one_way a x up down)
          | inr (goes, none, left, right) ↦ (same_arrow (code.Forward x) (code.Top x) r left right, none)
        ]),
      )) adds

pub copy_none : (a : AttributionParts) (production : Production) (x : ℕ) (xs : List Arrow) → ¬ Goes a Synthesized x → ¬ Goes a Inherited x
    → Adds xs xs (IsCopyArrow a production x)
copy_none a production x xs up down = adds_none xs (IsCopyArrow a production x) none where
  none : (r : Arrow) → ¬ IsCopyArrow a production x r
  none r (inl is) = up is.0
  none r (inr is) = down is.0

-- the reads of one local, of what is forwarded to, and of all
pub local_one : (production : Production) (xs ys : List Arrow) (k : ℕ) (l : Local) → slice_get production.locals k ≡ Some l
    → Adds xs ys (IsExpressionArrow (code.LocalTree k) l.nodes) → Adds xs ys (IsLocalArrow production k)
local_one production xs ys k l there adds =
    adds_as xs ys (IsExpressionArrow (code.LocalTree k) l.nodes) (IsLocalArrow production k) (λ r. (
      (λ reads. (l, there, reads)),
      (λ (m, at, reads). subst (λ (z : Local). IsExpressionArrow (code.LocalTree k) z.nodes r) (at_once production.locals k m l at there) reads),
    )) adds

pub forward_one : (production : Production) (xs ys : List Arrow) (f : Forward) → production.forward ≡ Some f
    → Adds xs ys (IsExpressionArrow code.ForwardTree f.nodes) → Adds xs ys (IsForwardArrow production)
forward_one production xs ys f there adds =
    adds_as xs ys (IsExpressionArrow code.ForwardTree f.nodes) (IsForwardArrow production) (λ r. (
      (λ reads. (f, there, reads)),
      (λ (g, at, reads). subst (λ (z : Forward). IsExpressionArrow code.ForwardTree z.nodes r) (same_Some g f (sym at ∙ there)) reads),
    )) adds

pub forward_none : (production : Production) (xs : List Arrow) → production.forward ≡ None → Adds xs xs (IsForwardArrow production)
forward_none production xs none =
    adds_none xs (IsForwardArrow production) (λ r (f, there, reads). let bad = sym none ∙ there in cc)

pub rules_all : (production : Production) (xs ys : List Arrow)
    → Adds xs ys (λ r. (SomeOf production.equations IsEquationArrow r
    ⊎ SomeBelow (length production.locals) (IsLocalArrow production) r) ⊎ IsForwardArrow production r)
    → Adds xs ys (IsRuleArrow production)
rules_all production xs ys adds =
    adds_as xs ys (λ r. (SomeOf production.equations IsEquationArrow r
    ⊎ SomeBelow (length production.locals) (IsLocalArrow production) r) ⊎ IsForwardArrow production r) (IsRuleArrow production)
    (λ r. (to r, from r)) adds where
      to : (r : Arrow) → (SomeOf production.equations IsEquationArrow r
          ⊎ SomeBelow (length production.locals) (IsLocalArrow production) r) ⊎ IsForwardArrow production r → IsRuleArrow production r
      to r (inl (inl equation)) = inl equation
      to r (inl (inr (k, lt, local))) = inr (inl (k, local))
      to r (inr forward) = inr (inr forward)

      from : (r : Arrow) → IsRuleArrow production r → (SomeOf production.equations IsEquationArrow r
          ⊎ SomeBelow (length production.locals) (IsLocalArrow production) r) ⊎ IsForwardArrow production r
      from r (inl equation) = inl (inl equation)
      from r (inr (inl (k, (l, there, reads)))) = inl (inr (k, slice_get_within production.locals k l there, (l, there, reads)))
      from r (inr (inr forward)) = inr forward

-- the targets of all equations are what is defined
pub defined_all : (production : Production) (equations : List Equation) → equations ≡ production.equations → (set : List Vertex)
    → ((v : Vertex) → Contains set v ↔ SomeOf equations (λ (e : Equation) (z : Vertex). z ≡ target_of e.target) v) → (v : Vertex)
    → Contains set v ↔ IsDefined production v
defined_all production equations same set some v = (
  (λ has. let (e, listed, is) = (some v).0 has in (e, subst (λ z. Contains z e) same listed, sym is)),
  (λ (e, listed, is). (some v).1 (e, subst (λ z. Contains z e) (sym same) listed, sym is)),
)
