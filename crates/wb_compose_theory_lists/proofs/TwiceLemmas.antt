-- Rows that get new numbers twice.
use Rattle.std.proofs.Common.{◌≡◌, ◌∙◌, ◌∷◌, [], ℕ, zero, suc, Bool, List, Option, Some, None, map, option_map, refl, ap}
use Rattle.wb_base.specs.declared.symbol.Kind.{Kind}
use Rattle.wb_base.specs.declared.symbol.Kind.TheVariants as kind
use Rattle.wb_syntax_expressions.specs.declared.node.Node.TheVariants as n
use Rattle.wb_syntax_resolved.specs.declared.attributes.Attribute.{Attribute}
use Rattle.wb_syntax_resolved.specs.declared.attributes.Direction.{Direction}
use Rattle.wb_syntax_resolved.specs.declared.attributes.Nonterminal.{Nonterminal}
use Rattle.wb_syntax_resolved.specs.declared.attributes.Occurrence.{Occurrence}
use Rattle.wb_syntax_resolved.specs.declared.equation.Equation.{Equation}
use Rattle.wb_syntax_resolved.specs.declared.equation.Place.{Place}
use Rattle.wb_syntax_resolved.specs.declared.equation.Place.TheVariants as place
use Rattle.wb_syntax_resolved.specs.declared.equation.Target.{Target}
use Rattle.wb_syntax_resolved.specs.declared.equation.Target.TheVariants as target
use Rattle.wb_syntax_resolved.specs.declared.production.Child.{Child}
use Rattle.wb_syntax_resolved.specs.declared.production.ChildKind.{ChildKind}
use Rattle.wb_syntax_resolved.specs.declared.production.ChildKind.TheVariants as child
use Rattle.wb_syntax_resolved.specs.declared.production.Forward.{Forward}
use Rattle.wb_syntax_resolved.specs.declared.production.Local.{Local}
use Rattle.wb_syntax_resolved.specs.Expression.{Node}
use Rattle.wb_compose_theory_attributes.specs.Numbers.{NumberMap}
use Rattle.wb_compose_theory_attributes.specs.Rows.{new_owner, new_kind, new_child_kind, new_child, new_nonterminal, new_attribute}
use Rattle.wb_compose_theory_attributes.specs.Rows.{new_occurrence}
use Rattle.wb_compose_theory_attributes.specs.Rows.{new_place, new_node, new_target, new_equation, new_local, new_forward}

pub map_twice : {X Y Z : Type 0} (f : X → Y) (g : Y → Z) (h : X → Z) → ((x : X) → g (f x) ≡ h x) → (xs : List X)
    → map g (map f xs) ≡ map h xs
map_twice f g h is [] = refl
map_twice f g h is (x ∷ xs) = ap (λ z. z ∷ map g (map f xs)) (is x) ∙ ap (λ z. h x ∷ z) (map_twice f g h is xs)

pub option_twice : {X Y Z : Type 0} (f : X → Y) (g : Y → Z) (h : X → Z) → ((x : X) → g (f x) ≡ h x) → (o : Option X)
    → option_map g (option_map f o) ≡ option_map h o
option_twice f g h is None = refl
option_twice f g h is (Some x) = ap Some (is x)

-- the third numbers are those that the first become by the second
pub record IsTwice (s t r : NumberMap) : Type 0 where
  pub terminal : (i : ℕ) → t.terminal (s.terminal i) ≡ r.terminal i
  pub nonterminal : (i : ℕ) → t.nonterminal (s.nonterminal i) ≡ r.nonterminal i
  pub attribute : (i : ℕ) → t.attribute (s.attribute i) ≡ r.attribute i
  pub production : (i : ℕ) → t.production (s.production i) ≡ r.production i

-- the same of owners
pub record AreOwnersTwice (i j k : ℕ) : Type 0 where
  pub is : (owner : ℕ) → new_owner j (new_owner i owner) ≡ new_owner k owner

-- rows of these parts
abbrev nonterminal_row : List ℕ → ℕ → Bool → List ℕ → Nonterminal
nonterminal_row name owner closed forward_needs = record { name = name; owner = owner; closed = closed; forward_needs = forward_needs }

abbrev attribute_row : List ℕ → ℕ → Direction → Kind → Attribute
attribute_row name owner direction is = record { name = name; owner = owner; direction = direction; kind = is }

abbrev occurrence_row : ℕ → ℕ → ℕ → List ℕ → Occurrence
occurrence_row owner attribute nonterminal needs =
    record { owner = owner; attribute = attribute; nonterminal = nonterminal; needs = needs }

abbrev child_row : List ℕ → ChildKind → Child
child_row label is = record { label = label; kind = is }

abbrev equation_row : ℕ → ℕ → Target → List Node → Equation
equation_row owner offset to nodes = record { owner = owner; offset = offset; target = to; nodes = nodes }

abbrev local_row : List ℕ → ℕ → ℕ → ℕ → List Node → Local
local_row label owner offset nonterminal nodes =
    record { label = label; owner = owner; offset = offset; nonterminal = nonterminal; nodes = nodes }

abbrev forward_row : ℕ → List Node → Forward
forward_row offset nodes = record { offset = offset; nodes = nodes }

module _ (s t r : NumberMap) (twice : IsTwice s t r) where
  kind_twice : (is : Kind) → new_kind t (new_kind s is) ≡ new_kind r is
  kind_twice kind.Int = refl
  kind_twice kind.Bool = refl
  kind_twice kind.Text = refl
  kind_twice (kind.Tree m) = ap kind.Tree (twice.nonterminal m)

  child_kind_twice : (is : ChildKind) → new_child_kind t (new_child_kind s is) ≡ new_child_kind r is
  child_kind_twice (child.Terminal number) = ap child.Terminal (twice.terminal number)
  child_kind_twice (child.Value is) = ap child.Value (kind_twice is)

  pub child_twice : (c : Child) → new_child t (new_child s c) ≡ new_child r c
  child_twice c = ap (child_row c.label) (child_kind_twice c.kind)

  module _ (i j k : ℕ) (owners : AreOwnersTwice i j k) where
    pub nonterminal_twice : (x : Nonterminal) → new_nonterminal t j (new_nonterminal s i x) ≡ new_nonterminal r k x
    nonterminal_twice x =
        ap (λ z. nonterminal_row x.name z x.closed (map t.attribute (map s.attribute x.forward_needs))) (owners.is x.owner)
        ∙ ap (nonterminal_row x.name (new_owner k x.owner) x.closed)
        (map_twice s.attribute t.attribute r.attribute twice.attribute x.forward_needs)

    pub attribute_twice : (x : Attribute) → new_attribute t j (new_attribute s i x) ≡ new_attribute r k x
    attribute_twice x =
        ap (λ z. attribute_row x.name z x.direction (new_kind t (new_kind s x.kind))) (owners.is x.owner)
        ∙ ap (attribute_row x.name (new_owner k x.owner) x.direction) (kind_twice x.kind)

    pub occurrence_twice : (x : Occurrence) → new_occurrence t j (new_occurrence s i x) ≡ new_occurrence r k x
    occurrence_twice x =
        ap (λ z. occurrence_row z (t.attribute (s.attribute x.attribute)) (t.nonterminal (s.nonterminal x.nonterminal))
        (map t.attribute (map s.attribute x.needs))) (owners.is x.owner)
        ∙ (ap (λ z. occurrence_row (new_owner k x.owner) z (t.nonterminal (s.nonterminal x.nonterminal))
        (map t.attribute (map s.attribute x.needs))) (twice.attribute x.attribute)
        ∙ (ap (λ z. occurrence_row (new_owner k x.owner) (r.attribute x.attribute) z (map t.attribute (map s.attribute x.needs)))
        (twice.nonterminal x.nonterminal)
        ∙ ap (occurrence_row (new_owner k x.owner) (r.attribute x.attribute) (r.nonterminal x.nonterminal))
        (map_twice s.attribute t.attribute r.attribute twice.attribute x.needs)))

  -- what is written on a production, whose numbers these are
  module _ (p q m : ℕ) (locals : (y : ℕ) → t.local_in q (s.local_in p y) ≡ r.local_in m y) where
    place_twice : (at : Place) → new_place t q (new_place s p at) ≡ new_place r m at
    place_twice (place.Child l) = refl
    place_twice (place.Local y) = ap place.Local (locals y)

    node_twice : (node : Node) → new_node t q (new_node s p node) ≡ new_node r m node
    node_twice (n.Label at) = ap n.Label (place_twice at)
    node_twice (n.Read at x) =
        ap (λ z. n.Read z (t.attribute (s.attribute x))) (place_twice at) ∙ ap (n.Read (new_place r m at)) (twice.attribute x)
    node_twice (n.Lexeme at) = ap n.Lexeme (place_twice at)
    node_twice (n.Top x) = ap n.Top (twice.attribute x)
    node_twice (n.Forward x) = ap n.Forward (twice.attribute x)
    node_twice (n.Build number children) = ap (λ z. n.Build z children) (twice.production number)
    node_twice node = refl

    nodes_twice : (nodes : List Node) → map (new_node t q) (map (new_node s p) nodes) ≡ map (new_node r m) nodes
    nodes_twice nodes = map_twice (new_node s p) (new_node t q) (new_node r m) node_twice nodes

    target_twice : (to : Target) → new_target t q (new_target s p to) ≡ new_target r m to
    target_twice (target.Top x) = ap target.Top (twice.attribute x)
    target_twice (target.Place at x) =
        ap (λ z. target.Place z (t.attribute (s.attribute x))) (place_twice at) ∙ ap (target.Place (new_place r m at)) (twice.attribute x)
    target_twice (target.Forward x) = ap target.Forward (twice.attribute x)

    pub forward_twice : (f : Forward) → new_forward t q (new_forward s p f) ≡ new_forward r m f
    forward_twice f = ap (forward_row f.offset) (nodes_twice f.nodes)

    module _ (i j k : ℕ) (owners : AreOwnersTwice i j k) where
      pub equation_twice : (e : Equation) → new_equation t q j (new_equation s p i e) ≡ new_equation r m k e
      equation_twice e =
          ap (λ z. equation_row z e.offset (new_target t q (new_target s p e.target)) (map (new_node t q) (map (new_node s p) e.nodes)))
          (owners.is e.owner)
          ∙ (ap (λ z. equation_row (new_owner k e.owner) e.offset z (map (new_node t q) (map (new_node s p) e.nodes)))
          (target_twice e.target)
          ∙ ap (equation_row (new_owner k e.owner) e.offset (new_target r m e.target)) (nodes_twice e.nodes))

      pub local_twice : (l : Local) → new_local t q j (new_local s p i l) ≡ new_local r m k l
      local_twice l =
          ap (λ z. local_row l.label z l.offset (t.nonterminal (s.nonterminal l.nonterminal)) (map (new_node t q) (map
          (new_node s p) l.nodes)))
          (owners.is l.owner)
          ∙ (ap (λ z. local_row l.label (new_owner k l.owner) l.offset z (map (new_node t q) (map (new_node s p) l.nodes)))
          (twice.nonterminal l.nonterminal)
          ∙ ap (local_row l.label (new_owner k l.owner) l.offset (r.nonterminal l.nonterminal)) (nodes_twice l.nodes))

-- owners of the host's rows, and of an extension's
pub host_owners : (j : ℕ) → AreOwnersTwice 0 j 0
host_owners j = record { is = go } where
  go : (owner : ℕ) → new_owner j (new_owner 0 owner) ≡ new_owner 0 owner
  go zero = refl
  go (suc owner) = refl

pub own_owners : (k : ℕ) → AreOwnersTwice 1 (suc k) (suc k)
own_owners k = record { is = go } where
  go : (owner : ℕ) → new_owner (suc k) (new_owner 1 owner) ≡ new_owner (suc k) owner
  go zero = refl
  go (suc owner) = refl
