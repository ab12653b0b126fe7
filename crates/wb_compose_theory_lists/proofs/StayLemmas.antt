-- Rows that keep their numbers are what they were.
use Rattle.std.proofs.Common.{◌≡◌, ◌∙◌, ◌∷◌, [], ℕ, List, Option, Some, None, All, map, option_map, refl, sym, ap, subst}
use Rattle.std.proofs.lemmas.List.Elements.{All-head, All-tail}
use Rattle.wb_base.specs.declared.symbol.Kind.{Kind}
use Rattle.wb_base.specs.declared.symbol.Kind.TheVariants as kind
use Rattle.wb_syntax_expressions.specs.declared.node.Node.TheVariants as n
use Rattle.wb_syntax_resolved.specs.declared.attributes.Attribute.{Attribute}
use Rattle.wb_syntax_resolved.specs.declared.attributes.Nonterminal.{Nonterminal}
use Rattle.wb_syntax_resolved.specs.declared.attributes.Occurrence.{Occurrence}
use Rattle.wb_syntax_resolved.specs.declared.equation.Equation.{Equation}
use Rattle.wb_syntax_resolved.specs.declared.equation.Place.{Place}
use Rattle.wb_syntax_resolved.specs.declared.equation.Place.TheVariants as place
use Rattle.wb_syntax_resolved.specs.declared.equation.Target.{Target}
use Rattle.wb_syntax_resolved.specs.declared.equation.Target.TheVariants as target
use Rattle.wb_syntax_resolved.specs.declared.production.Child.{Child}
use Rattle.wb_syntax_resolved.specs.declared.production.ChildKind.{ChildKind}
use Rattle.wb_syntax_resolved.specs.declared.production.ChildKind.TheVariants as child
use Rattle.wb_syntax_resolved.specs.declared.production.Forward.{Forward}
use Rattle.wb_syntax_resolved.specs.declared.production.Local.{Local}
use Rattle.wb_syntax_resolved.specs.Expression.{Node}
use Rattle.wb_compose_theory_attributes.specs.Numbers.{NumberMap}
use Rattle.wb_compose_theory_attributes.specs.Rows.{new_owner, new_kind, new_child_kind, new_child, new_nonterminal, new_attribute}
use Rattle.wb_compose_theory_attributes.specs.Rows.{new_occurrence}
use Rattle.wb_compose_theory_attributes.specs.Rows.{new_place, new_node, new_target, new_equation, new_local, new_forward}
use Rattle.wb_compose_theory_lists.proofs.MoveLemmas.{nonterminal_row, attribute_row, occurrence_row, child_row, equation_row, local_row}
use Rattle.wb_compose_theory_lists.proofs.MoveLemmas.{forward_row}

pub map_stays : {X : Type 0} (f : X → X) → ((x : X) → f x ≡ x) → (xs : List X) → map f xs ≡ xs
map_stays f is [] = refl
map_stays f is (x ∷ xs) = ap (λ z. z ∷ map f xs) (is x) ∙ ap (λ z. x ∷ z) (map_stays f is xs)

pub map_stays_all : {X : Type 0} (P : X → Type 0) (f : X → X) → ((x : X) → P x → f x ≡ x) → (xs : List X) → All P xs → map f xs ≡ xs
map_stays_all P f is [] each = refl
map_stays_all P f is (x ∷ xs) each =
    ap (λ z. z ∷ map f xs) (is x (All-head P x xs each)) ∙ ap (λ z. x ∷ z) (map_stays_all P f is xs (All-tail P x xs each))

pub option_stays : {X : Type 0} (f : X → X) → ((x : X) → f x ≡ x) → (o : Option X) → option_map f o ≡ o
option_stays f is None = refl
option_stays f is (Some x) = ap Some (is x)

-- each number stays
pub record Stays (v : NumberMap) : Type 0 where
  pub terminal : (i : ℕ) → v.terminal i ≡ i
  pub nonterminal : (i : ℕ) → v.nonterminal i ≡ i
  pub attribute : (i : ℕ) → v.attribute i ≡ i
  pub production : (i : ℕ) → v.production i ≡ i
  pub local_in : (p i : ℕ) → v.local_in p i ≡ i

module _ (v : NumberMap) (stays : Stays v) (o : ℕ) (fixed : new_owner o o ≡ o) where
  owner_stays : (owner : ℕ) → owner ≡ o → new_owner o owner ≡ owner
  owner_stays owner is = ap (new_owner o) is ∙ (fixed ∙ sym is)

  kind_stays : (is : Kind) → new_kind v is ≡ is
  kind_stays kind.Int = refl
  kind_stays kind.Bool = refl
  kind_stays kind.Text = refl
  kind_stays (kind.Tree m) = ap kind.Tree (stays.nonterminal m)

  child_kind_stays : (is : ChildKind) → new_child_kind v is ≡ is
  child_kind_stays (child.Terminal number) = ap child.Terminal (stays.terminal number)
  child_kind_stays (child.Value is) = ap child.Value (kind_stays is)

  pub child_stays : (c : Child) → new_child v c ≡ c
  child_stays c = ap (child_row c.label) (child_kind_stays c.kind)

  pub nonterminal_stays : (x : Nonterminal) → x.owner ≡ o → new_nonterminal v o x ≡ x
  nonterminal_stays x is =
      ap (λ z. nonterminal_row x.name z x.closed (map v.attribute x.forward_needs)) (owner_stays x.owner is)
      ∙ ap (nonterminal_row x.name x.owner x.closed) (map_stays v.attribute stays.attribute x.forward_needs)

  pub attribute_stays : (x : Attribute) → x.owner ≡ o → new_attribute v o x ≡ x
  attribute_stays x is =
      ap (λ z. attribute_row x.name z x.direction (new_kind v x.kind)) (owner_stays x.owner is)
      ∙ ap (attribute_row x.name x.owner x.direction) (kind_stays x.kind)

  pub occurrence_stays : (x : Occurrence) → x.owner ≡ o → new_occurrence v o x ≡ x
  occurrence_stays x is =
      ap (λ z. occurrence_row z (v.attribute x.attribute) (v.nonterminal x.nonterminal) (map v.attribute x.needs)) (owner_stays x.owner is)
      ∙ (ap (λ z. occurrence_row x.owner z (v.nonterminal x.nonterminal) (map v.attribute x.needs)) (stays.attribute x.attribute)
      ∙ (ap (λ z. occurrence_row x.owner x.attribute z (map v.attribute x.needs)) (stays.nonterminal x.nonterminal)
      ∙ ap (occurrence_row x.owner x.attribute x.nonterminal) (map_stays v.attribute stays.attribute x.needs)))

  module _ (p : ℕ) where
    place_stays : (at : Place) → new_place v p at ≡ at
    place_stays (place.Child k) = refl
    place_stays (place.Local k) = ap place.Local (stays.local_in p k)

    node_stays : (node : Node) → new_node v p node ≡ node
    node_stays (n.Label at) = ap n.Label (place_stays at)
    node_stays (n.Read at x) = ap (λ z. n.Read z (v.attribute x)) (place_stays at) ∙ ap (n.Read at) (stays.attribute x)
    node_stays (n.Lexeme at) = ap n.Lexeme (place_stays at)
    node_stays (n.Top x) = ap n.Top (stays.attribute x)
    node_stays (n.Forward x) = ap n.Forward (stays.attribute x)
    node_stays (n.Build number children) = ap (λ z. n.Build z children) (stays.production number)
    node_stays node = refl

    target_stays : (x : Target) → new_target v p x ≡ x
    target_stays (target.Top x) = ap target.Top (stays.attribute x)
    target_stays (target.Place at x) =
        ap (λ z. target.Place z (v.attribute x)) (place_stays at) ∙ ap (target.Place at) (stays.attribute x)
    target_stays (target.Forward x) = ap target.Forward (stays.attribute x)

    pub equation_stays : (e : Equation) → e.owner ≡ o → new_equation v p o e ≡ e
    equation_stays e is =
        ap (λ z. equation_row z e.offset (new_target v p e.target) (map (new_node v p) e.nodes)) (owner_stays e.owner is)
        ∙ (ap (λ z. equation_row e.owner e.offset z (map (new_node v p) e.nodes)) (target_stays e.target)
        ∙ ap (equation_row e.owner e.offset e.target) (map_stays (new_node v p) node_stays e.nodes))

    pub local_stays : (l : Local) → l.owner ≡ o → new_local v p o l ≡ l
    local_stays l is =
        ap (λ z. local_row l.label z l.offset (v.nonterminal l.nonterminal) (map (new_node v p) l.nodes)) (owner_stays l.owner is)
        ∙ (ap (λ z. local_row l.label l.owner l.offset z (map (new_node v p) l.nodes)) (stays.nonterminal l.nonterminal)
        ∙ ap (local_row l.label l.owner l.offset l.nonterminal) (map_stays (new_node v p) node_stays l.nodes))

    pub forward_stays : (f : Forward) → new_forward v p f ≡ f
    forward_stays f = ap (forward_row f.offset) (map_stays (new_node v p) node_stays f.nodes)
