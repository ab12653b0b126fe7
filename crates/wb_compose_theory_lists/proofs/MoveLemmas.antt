-- Moved rows are rows in new numbers, where moved numbers are the new ones.
use Rattle.std.proofs.Common.{◌≡◌, ◌∙◌, ◌<◌, ◌∷◌, [], ℕ, Bool, List, Option, Some, None, All, map, option_map, refl, sym, ap, subst}
use Rattle.std.specs.Prelude.{option_to_list}
use Rattle.std.specs.List.{AllZip}
use Rattle.std.proofs.lemmas.List.Elements.{All-head, All-tail}
use Rattle.wb_base.specs.declared.symbol.Kind.{Kind}
use Rattle.wb_base.specs.declared.symbol.Kind.TheVariants as kind
use Rattle.wb_syntax_expressions.specs.declared.node.Node.TheVariants as n
use Rattle.wb_syntax_resolved.specs.declared.attributes.Attribute.{Attribute}
use Rattle.wb_syntax_resolved.specs.declared.attributes.Direction.{Direction}
use Rattle.wb_syntax_resolved.specs.declared.attributes.Nonterminal.{Nonterminal}
use Rattle.wb_syntax_resolved.specs.declared.attributes.Occurrence.{Occurrence}
use Rattle.wb_syntax_resolved.specs.declared.equation.Equation.{Equation}
use Rattle.wb_syntax_resolved.specs.declared.equation.Place.{Place}
use Rattle.wb_syntax_resolved.specs.declared.equation.Place.TheVariants as place
use Rattle.wb_syntax_resolved.specs.declared.equation.Target.{Target}
use Rattle.wb_syntax_resolved.specs.declared.equation.Target.TheVariants as target
use Rattle.wb_syntax_resolved.specs.declared.production.Child.{Child}
use Rattle.wb_syntax_resolved.specs.declared.production.ChildKind.{ChildKind}
use Rattle.wb_syntax_resolved.specs.declared.production.ChildKind.TheVariants as child
use Rattle.wb_syntax_resolved.specs.declared.production.Forward.{Forward}
use Rattle.wb_syntax_resolved.specs.declared.production.Local.{Local}
use Rattle.wb_syntax_resolved.specs.Expression.{Node}
use Rattle.wb_names_numbers_theory.specs.Moved.{Move, IsMovedNonterminalNumber, IsMovedTerminalNumber, IsMovedAttributeNumber}
use Rattle.wb_names_numbers_theory.specs.Moved.{IsMovedProductionNumber}
use Rattle.wb_names_numbers_theory.specs.Moved.{IsMovedKind, IsMovedChildKind, IsMovedChild, IsMovedPlace, AreMovedNodes, IsMovedTarget}
use Rattle.wb_names_numbers_theory.specs.Moved.{IsMovedEquation}
use Rattle.wb_names_numbers_theory.specs.Moved.{IsMovedLocal, IsMovedForward, IsMovedNonterminal, IsMovedAttribute, IsMovedOccurrence}
use Rattle.wb_names_numbers_theory.specs.Numbering.{Labels}
use Rattle.wb_names_numbers_theory.specs.Renaming.{IsRenamedNode}
use Rattle.wb_compose_theory_attributes.specs.Numbers.{NumberMap}
use Rattle.wb_compose_theory_attributes.specs.Rows.{new_owner, new_kind, new_child_kind, new_child, new_nonterminal, new_attribute}
use Rattle.wb_compose_theory_attributes.specs.Rows.{new_occurrence}
use Rattle.wb_compose_theory_attributes.specs.Rows.{new_place, new_node, new_target, new_equation, new_local, new_forward}

-- a list of what each element becomes
pub zip_is : {X Y : Type 0} (R : X → Y → Type 0) (f : X → Y) → ((x : X) (y : Y) → R x y → y ≡ f x) → (xs : List X) (ys : List Y) → AllZip R xs ys
    → ys ≡ map f xs
zip_is R f is [] [] all = refl
zip_is R f is [] (y ∷ ys) all = absurd all
zip_is R f is (x ∷ xs) [] all = absurd all
zip_is R f is (x ∷ xs) (y ∷ ys) all = ap (λ z. z ∷ ys) (is x y all.0) ∙ ap (λ z. f x ∷ z) (zip_is R f is xs ys all.1)

-- the same where a fact of each element is needed
pub zip_is_all : {X Y : Type 0} (R : X → Y → Type 0) (P : X → Type 0) (f : X → Y) → ((x : X) (y : Y) → R x y → P x → y ≡ f x) → (xs : List X)
    → (ys : List Y) → AllZip R xs ys → All P xs → ys ≡ map f xs
zip_is_all R P f is [] [] all each = refl
zip_is_all R P f is [] (y ∷ ys) all each = absurd all
zip_is_all R P f is (x ∷ xs) [] all each = absurd all
zip_is_all R P f is (x ∷ xs) (y ∷ ys) all each =
    ap (λ z. z ∷ ys) (is x y all.0 (All-head P x xs each)) ∙ ap (λ z. f x ∷ z) (zip_is_all R P f is xs ys all.1 (All-tail P x xs each))

pub option_is : {X Y : Type 0} (R : X → Y → Type 0) (f : X → Y) → ((x : X) (y : Y) → R x y → y ≡ f x) → (o : Option X) (p : Option Y)
    → AllZip R (option_to_list o) (option_to_list p) → p ≡ option_map f o
option_is R f is None None all = refl
option_is R f is None (Some y) all = absurd all
option_is R f is (Some x) None all = absurd all
option_is R f is (Some x) (Some y) all = ap Some (is x y all.0)

-- moved numbers are the new ones
pub record MovesBy (m : Move) (u : NumberMap) (terminals : ℕ) : Type 0 where
  pub terminal : (i j : ℕ) → i < terminals → IsMovedTerminalNumber m i j → j ≡ u.terminal i
  pub nonterminal : (i j : ℕ) → IsMovedNonterminalNumber m i j → j ≡ u.nonterminal i
  pub attribute : (i j : ℕ) → IsMovedAttributeNumber m i j → j ≡ u.attribute i
  pub production : (i j : ℕ) → IsMovedProductionNumber m i j → j ≡ u.production i
  pub owner : (o : ℕ) → m.owner_in o ≡ o

-- rows of these parts
abbrev pub nonterminal_row : List ℕ → ℕ → Bool → List ℕ → Nonterminal
nonterminal_row name owner closed forward_needs = record { name = name; owner = owner; closed = closed; forward_needs = forward_needs }

abbrev pub attribute_row : List ℕ → ℕ → Direction → Kind → Attribute
attribute_row name owner direction is = record { name = name; owner = owner; direction = direction; kind = is }

abbrev pub occurrence_row : ℕ → ℕ → ℕ → List ℕ → Occurrence
occurrence_row owner attribute nonterminal needs =
    record { owner = owner; attribute = attribute; nonterminal = nonterminal; needs = needs }

abbrev pub child_row : List ℕ → ChildKind → Child
child_row label is = record { label = label; kind = is }

abbrev pub equation_row : ℕ → ℕ → Target → List Node → Equation
equation_row owner offset to nodes = record { owner = owner; offset = offset; target = to; nodes = nodes }

abbrev pub local_row : List ℕ → ℕ → ℕ → ℕ → List Node → Local
local_row label owner offset nonterminal nodes =
    record { label = label; owner = owner; offset = offset; nonterminal = nonterminal; nodes = nodes }

abbrev pub forward_row : ℕ → List Node → Forward
forward_row offset nodes = record { offset = offset; nodes = nodes }

module _ (m : Move) (u : NumberMap) (terminals : ℕ) (moves : MovesBy m u terminals) where
  -- the owner of what is the host's
  owner_is : (owner to : ℕ) → to ≡ m.owner_in owner → owner ≡ 0 → to ≡ new_owner 0 owner
  owner_is owner to is zero_is = is ∙ (moves.owner owner ∙ (zero_is ∙ sym (ap (new_owner 0) zero_is)))

  kind_is : (is to : Kind) → IsMovedKind m is to → to ≡ new_kind u is
  kind_is kind.Int to moved = moved
  kind_is kind.Bool to moved = moved
  kind_is kind.Text to moved = moved
  kind_is (kind.Tree number) to (other, moved, is) = is ∙ ap kind.Tree (moves.nonterminal number other moved)

  -- a terminal of a child is in range
  abbrev pub TerminalBelow : ChildKind → Type 0
  TerminalBelow is = (number : ℕ) → is ≡ child.Terminal number → number < terminals

  child_kind_is : (is to : ChildKind) → IsMovedChildKind m is to → TerminalBelow is → to ≡ new_child_kind u is
  child_kind_is (child.Terminal number) to (other, moved, is) below =
      is ∙ ap child.Terminal (moves.terminal number other (below number refl) moved)
  child_kind_is (child.Value is) to (other, moved, is') below = is' ∙ ap child.Value (kind_is is other moved)

  pub child_is : (c to : Child) → IsMovedChild m c to → TerminalBelow c.kind → to ≡ new_child u c
  child_is c to moved below =
      ap (λ z. child_row z to.kind) moved.label ∙ ap (child_row c.label) (child_kind_is c.kind to.kind moved.is_kind below)

  needs_are : (needs to : List ℕ) → AllZip (IsMovedAttributeNumber m) needs to → to ≡ map u.attribute needs
  needs_are needs to all = zip_is (IsMovedAttributeNumber m) u.attribute moves.attribute needs to all

  pub nonterminal_is : (x to : Nonterminal) → IsMovedNonterminal m x to → x.owner ≡ 0 → to ≡ new_nonterminal u 0 x
  nonterminal_is x to moved zero_is =
      ap (λ z. nonterminal_row z to.owner to.closed to.forward_needs) moved.name
      ∙ (ap (λ z. nonterminal_row x.name z to.closed to.forward_needs) (owner_is x.owner to.owner moved.owner zero_is)
      ∙ (ap (λ z. nonterminal_row x.name (new_owner 0 x.owner) z to.forward_needs) moved.closed
      ∙ ap (nonterminal_row x.name (new_owner 0 x.owner) x.closed) (needs_are x.forward_needs to.forward_needs moved.needs)))

  pub attribute_is : (x to : Attribute) → IsMovedAttribute m x to → x.owner ≡ 0 → to ≡ new_attribute u 0 x
  attribute_is x to moved zero_is =
      ap (λ z. attribute_row z to.owner to.direction to.kind) moved.name
      ∙ (ap (λ z. attribute_row x.name z to.direction to.kind) (owner_is x.owner to.owner moved.owner zero_is)
      ∙ (ap (λ z. attribute_row x.name (new_owner 0 x.owner) z to.kind) moved.direction
      ∙ ap (attribute_row x.name (new_owner 0 x.owner) x.direction) (kind_is x.kind to.kind moved.is_kind)))

  pub occurrence_is : (x to : Occurrence) → IsMovedOccurrence m x to → x.owner ≡ 0 → to ≡ new_occurrence u 0 x
  occurrence_is x to moved zero_is =
      ap (λ z. occurrence_row z to.attribute to.nonterminal to.needs) (owner_is x.owner to.owner moved.owner zero_is)
      ∙ (ap (λ z. occurrence_row (new_owner 0 x.owner) z to.nonterminal to.needs) (moves.attribute x.attribute to.attribute moved.attribute)
      ∙ (ap (λ z. occurrence_row (new_owner 0 x.owner) (u.attribute x.attribute) z to.needs)
      (moves.nonterminal x.nonterminal to.nonterminal moved.nonterminal)
      ∙ ap (occurrence_row (new_owner 0 x.owner) (u.attribute x.attribute) (u.nonterminal x.nonterminal))
      (needs_are x.needs to.needs moved.needs)))

  -- on a production with these labels, where locals keep their place
  module _ (labels others : Labels) (p : ℕ) (locals : (k : ℕ) (to : Place) → IsMovedPlace m labels others (place.Local k) to
      → to ≡ place.Local (u.local_in p k)) where
    place_is : (at to : Place) → IsMovedPlace m labels others at to → to ≡ new_place u p at
    place_is (place.Child k) to moved = moved
    place_is (place.Local k) to moved = locals k to moved

    node_is : (node to : Node) → IsRenamedNode (IsMovedPlace m labels others) (IsMovedAttributeNumber m) (IsMovedProductionNumber m) node to
        → to ≡ new_node u p node
    node_is (n.Label at) to (other, moved, is) = is ∙ ap n.Label (place_is at other moved)
    node_is (n.Read at x) to (other, number, moved, numbered, is) =
        is ∙ (ap (λ z. n.Read z number) (place_is at other moved) ∙ ap (n.Read (new_place u p at)) (moves.attribute x number numbered))
    node_is (n.Lexeme at) to (other, moved, is) = is ∙ ap n.Lexeme (place_is at other moved)
    node_is (n.Top x) to (number, moved, is) = is ∙ ap n.Top (moves.attribute x number moved)
    node_is (n.Forward x) to (number, moved, is) = is ∙ ap n.Forward (moves.attribute x number moved)
    node_is (n.Build number children) to (other, moved, is) = is ∙ ap (λ z. n.Build z children) (moves.production number other moved)
    node_is node to moved = moved

    nodes_are : (nodes to : List Node) → AreMovedNodes m labels others nodes to → to ≡ map (new_node u p) nodes
    nodes_are nodes to all =
        zip_is (IsRenamedNode (IsMovedPlace m labels others) (IsMovedAttributeNumber m) (IsMovedProductionNumber m)) (new_node u p) node_is
        nodes to all

    target_is : (x to : Target) → IsMovedTarget m labels others x to → to ≡ new_target u p x
    target_is (target.Top x) to (number, moved, is) = is ∙ ap target.Top (moves.attribute x number moved)
    target_is (target.Place at x) to (other, number, moved, numbered, is) =
        is ∙ (ap (λ z. target.Place z number) (place_is at other moved)
        ∙ ap (target.Place (new_place u p at)) (moves.attribute x number numbered))
    target_is (target.Forward x) to (number, moved, is) = is ∙ ap target.Forward (moves.attribute x number moved)

    pub equation_is : (x to : Equation) → IsMovedEquation m labels others x to → x.owner ≡ 0 → to ≡ new_equation u p 0 x
    equation_is x to moved zero_is =
        ap (λ z. equation_row z to.offset to.target to.nodes) (owner_is x.owner to.owner moved.owner zero_is)
        ∙ (ap (λ z. equation_row (new_owner 0 x.owner) z to.target to.nodes) moved.offset
        ∙ (ap (λ z. equation_row (new_owner 0 x.owner) x.offset z to.nodes) (target_is x.target to.target moved.target)
        ∙ ap (equation_row (new_owner 0 x.owner) x.offset (new_target u p x.target)) (nodes_are x.nodes to.nodes moved.nodes)))

    pub local_is : (x to : Local) → IsMovedLocal m labels others x to → x.owner ≡ 0 → to ≡ new_local u p 0 x
    local_is x to moved zero_is =
        ap (λ z. local_row z to.owner to.offset to.nonterminal to.nodes) moved.label
        ∙ (ap (λ z. local_row x.label z to.offset to.nonterminal to.nodes) (owner_is x.owner to.owner moved.owner zero_is)
        ∙ (ap (λ z. local_row x.label (new_owner 0 x.owner) z to.nonterminal to.nodes) moved.offset
        ∙ (ap (λ z. local_row x.label (new_owner 0 x.owner) x.offset z to.nodes)
        (moves.nonterminal x.nonterminal to.nonterminal moved.nonterminal)
        ∙ ap (local_row x.label (new_owner 0 x.owner) x.offset (u.nonterminal x.nonterminal)) (nodes_are x.nodes to.nodes moved.nodes))))

    pub forward_is : (x to : Forward) → IsMovedForward m labels others x to → to ≡ new_forward u p x
    forward_is x to moved =
        ap (λ z. forward_row z to.nodes) moved.offset ∙ ap (forward_row x.offset) (nodes_are x.nodes to.nodes moved.nodes)
