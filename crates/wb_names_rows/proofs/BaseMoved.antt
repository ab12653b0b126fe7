-- Rows of a base in other numbers are moved rows, where its attributes and the places of its labels stay.
use Rattle.std.proofs.Common.{◌≡◌, ◌<◌, ℕ, List, All, [], ◌∷◌, length, sym, subst, refl, ◌∙◌}
use Rattle.std.specs.List.{AllZip}
use Rattle.std.proofs.lemmas.List.Elements.{All-tail, All-head}
use Rattle.wb_syntax_expressions.specs.declared.node.Node.TheVariants as part
use Rattle.wb_syntax_resolved.specs.declared.attributes.Attribute.{Attribute}
use Rattle.wb_syntax_resolved.specs.declared.attributes.Occurrence.{Occurrence}
use Rattle.wb_syntax_resolved.specs.declared.equation.Equation.{Equation}
use Rattle.wb_syntax_resolved.specs.declared.equation.Place.{Place}
use Rattle.wb_syntax_resolved.specs.declared.equation.Place.TheVariants as place
use Rattle.wb_syntax_resolved.specs.declared.equation.Target.{Target}
use Rattle.wb_syntax_resolved.specs.declared.equation.Target.TheVariants as target
use Rattle.wb_syntax_resolved.specs.declared.production.Forward.{Forward}
use Rattle.wb_syntax_resolved.specs.declared.production.Local.{Local}
use Rattle.wb_syntax_resolved.specs.declared.terminal.Preference.{Preference}
use Rattle.wb_syntax_resolved.specs.Expression.{Node}
use Rattle.wb_names_numbers_theory.specs.Moved.{Move, IsMovedNumber, IsMovedAttributeNumber, IsMovedProductionNumber, IsMovedPlace}
use Rattle.wb_names_numbers_theory.specs.Moved.{IsMovedTarget}
use Rattle.wb_names_numbers_theory.specs.Moved.{IsMovedEquation, IsMovedLocal, IsMovedForward}
use Rattle.wb_names_numbers_theory.specs.Moved.{IsMovedAttribute, IsMovedOccurrence, IsMovedPreference}
use Rattle.wb_names_numbers_theory.specs.Numbering.{Labels}
use Rattle.wb_names_numbers_theory.specs.Renaming.{IsRenamedNode}
use Rattle.wb_names_rows.specs.declared.moves.Moves.{Moves}
use Rattle.wb_names_rows.specs.Base.{IsAttributeNow, IsOccurrenceNow, IsPreferenceNow}
use Rattle.wb_names_rows.specs.Moves.{IsNodeNow, IsEquationNow, IsLocalNow, IsForwardNow}
use Rattle.wb_names_rows.proofs.MovedLemmas.{AreMoves, moved_kind}

-- a number of an attribute, a place, and what a node and a target have of them are in range
abbrev pub IsPlaceIn : Labels → Place → Type 0
IsPlaceIn labels (place.Child k) = Unit {0}
IsPlaceIn labels (place.Local k) = k < length labels.locals

abbrev pub IsNodeIn : Move → Labels → Node → Type 0
IsNodeIn m labels (part.Label p) = IsPlaceIn labels p
IsNodeIn m labels (part.Read p a) = IsPlaceIn labels p × (a < length m.from.attributes)
IsNodeIn m labels (part.Lexeme p) = IsPlaceIn labels p
IsNodeIn m labels (part.Top a) = a < length m.from.attributes
IsNodeIn m labels (part.Forward a) = a < length m.from.attributes
IsNodeIn m labels node = Unit {0}

abbrev pub IsTargetIn : Move → Labels → Target → Type 0
IsTargetIn m labels (target.Top a) = a < length m.from.attributes
IsTargetIn m labels (target.Place p a) = IsPlaceIn labels p × (a < length m.from.attributes)
IsTargetIn m labels (target.Forward a) = a < length m.from.attributes

-- owners and attributes stay
pub record Stays (m : Move) : Type 0 where
  pub owners : (o : ℕ) → m.owner_in o ≡ o
  pub attributes : (k : ℕ) → k < length m.from.attributes → IsMovedAttributeNumber m k k

-- rows by their tables
module _ (t : Moves) (m : Move) (are : AreMoves t m) (stays : Stays m) where
  same_attribute : (k j : ℕ) → k < length m.from.attributes → j ≡ k → IsMovedAttributeNumber m k j
  same_attribute k j within is = subst (IsMovedAttributeNumber m k) (sym is) (stays.attributes k within)

  same_owner : (o p : ℕ) → p ≡ o → p ≡ m.owner_in o
  same_owner o p is = is ∙ sym (stays.owners o)

  same_needs : (needs : List ℕ) → All (λ (k : ℕ). k < length m.from.attributes) needs → AllZip (IsMovedAttributeNumber m) needs needs
  same_needs [] all = tt
  same_needs (k ∷ needs) all =
      let P : ℕ → Type 0 = λ (j : ℕ). j < length m.from.attributes in
      (stays.attributes k (All-head P k needs all), same_needs needs (All-tail P k needs all))

  pub moved_attribute : (a to : Attribute) → IsAttributeNow t a to → IsMovedAttribute m a to
  moved_attribute a to e = record {
    name = e.name;
    owner = same_owner a.owner to.owner e.owner;
    direction = e.direction;
    is_kind = moved_kind t m are a.kind to.kind e.is_kind;
  }

  pub moved_occurrence : (o to : Occurrence) → o.attribute < length m.from.attributes
      → All (λ (k : ℕ). k < length m.from.attributes) o.needs → IsOccurrenceNow t o to → IsMovedOccurrence m o to
  moved_occurrence o to within all e = record {
    owner = same_owner o.owner to.owner e.owner;
    attribute = same_attribute o.attribute to.attribute within e.attribute;
    nonterminal = are.nonterminals o.nonterminal to.nonterminal e.nonterminal;
    needs = subst (AllZip (IsMovedAttributeNumber m) o.needs) (sym e.needs) (same_needs o.needs all);
  }

  pub moved_preference : (p to : Preference) → IsPreferenceNow t p to → IsMovedPreference m p to
  moved_preference p to e =
      record { first = are.terminals p.first to.first e.first; second = are.terminals p.second to.second e.second }

  -- what is written on a production whose locals stay
  module _ (labels others : Labels) (locals : (k : ℕ) → k < length labels.locals
      → IsMovedNumber m.owner_in labels.locals others.locals k k) where
    same_place : (p q : Place) → IsPlaceIn labels p → q ≡ p → IsMovedPlace m labels others p q
    same_place (place.Child k) q within is = is
    same_place (place.Local k) q within is = (k, locals k within, is)

    abbrev Moved : Node → Node → Type 0
    Moved node to = IsRenamedNode (IsMovedPlace m labels others) (IsMovedAttributeNumber m) (IsMovedProductionNumber m) node to

    moved_node : (node to : Node) → IsNodeIn m labels node → IsNodeNow t node to → Moved node to
    moved_node (part.Label p) to within e = (e.0, same_place p e.0 within e.1, e.2)
    moved_node (part.Read p a) to within e =
        (e.0, e.1, same_place p e.0 within.0 e.2, same_attribute a e.1 within.1 e.3, e.4)
    moved_node (part.Lexeme p) to within e = (e.0, same_place p e.0 within e.1, e.2)
    moved_node (part.Top a) to within e = (e.0, same_attribute a e.0 within e.1, e.2)
    moved_node (part.Forward a) to within e = (e.0, same_attribute a e.0 within e.1, e.2)
    moved_node (part.Build p places) to within e = (e.0, are.productions p e.0 e.1, e.2)
    moved_node node to within e = e

    moved_nodes : (nodes to : List Node) → All (IsNodeIn m labels) nodes → AllZip (IsNodeNow t) nodes to → AllZip Moved nodes to
    moved_nodes [] [] within all = tt
    moved_nodes [] (y ∷ ys) within all = absurd all
    moved_nodes (x ∷ xs) [] within all = absurd all
    moved_nodes (x ∷ xs) (y ∷ ys) within all = (
      moved_node x y (All-head (IsNodeIn m labels) x xs within) all.0,
      moved_nodes xs ys (All-tail (IsNodeIn m labels) x xs within) all.1,
    )

    moved_target : (from to : Target) → IsTargetIn m labels from → to ≡ from → IsMovedTarget m labels others from to
    moved_target (target.Top a) to within is = (a, stays.attributes a within, is)
    moved_target (target.Place (place.Child k) a) to within is = (place.Child k, a, refl, stays.attributes a within.1, is)
    moved_target (target.Place (place.Local k) a) to within is =
        (place.Local k, a, (k, locals k within.0, refl), stays.attributes a within.1, is)
    moved_target (target.Forward a) to within is = (a, stays.attributes a within, is)

    pub moved_equation : (e to : Equation) → IsTargetIn m labels e.target → All (IsNodeIn m labels) e.nodes → IsEquationNow t e to
        → IsMovedEquation m labels others e to
    moved_equation e to within all is = record {
      owner = same_owner e.owner to.owner is.owner;
      offset = is.offset;
      target = moved_target e.target to.target within is.target;
      nodes = moved_nodes e.nodes to.nodes all is.nodes;
    }

    pub moved_local : (l to : Local) → All (IsNodeIn m labels) l.nodes → IsLocalNow t l to → IsMovedLocal m labels others l to
    moved_local l to all is = record {
      label = is.label;
      owner = same_owner l.owner to.owner is.owner;
      offset = is.offset;
      nonterminal = are.nonterminals l.nonterminal to.nonterminal is.nonterminal;
      nodes = moved_nodes l.nodes to.nodes all is.nodes;
    }

    pub moved_forward : (f to : Forward) → All (IsNodeIn m labels) f.nodes → IsForwardNow t f to → IsMovedForward m labels others f to
    moved_forward f to all is = record { offset = is.offset; nodes = moved_nodes f.nodes to.nodes all is.nodes }
