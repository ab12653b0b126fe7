-- What is beside a moved row is one, where no name is there twice.
use Rattle.std.proofs.Common.{◌≡◌, ℕ, List, ap, sym, ◌∙◌}
use Rattle.wb_lemmas.proofs.Zips.{one_zip}
use Rattle.wb_base.specs.declared.symbol.Kind.{Kind}
use Rattle.wb_base.specs.declared.symbol.Kind.TheVariants as kind
use Rattle.wb_syntax_resolved.specs.declared.attributes.Attribute.{Attribute}
use Rattle.wb_syntax_resolved.specs.declared.attributes.Nonterminal.{Nonterminal}
use Rattle.wb_syntax_resolved.specs.declared.attributes.Occurrence.{Occurrence}
use Rattle.wb_syntax_resolved.specs.declared.equation.Equation.{Equation}
use Rattle.wb_syntax_resolved.specs.declared.equation.Place.{Place}
use Rattle.wb_syntax_resolved.specs.declared.equation.Place.TheVariants as place
use Rattle.wb_syntax_resolved.specs.declared.equation.Target.{Target}
use Rattle.wb_syntax_resolved.specs.declared.equation.Target.TheVariants as target
use Rattle.wb_syntax_resolved.specs.declared.production.Child.{Child}
use Rattle.wb_syntax_resolved.specs.declared.production.ChildKind.{ChildKind}
use Rattle.wb_syntax_resolved.specs.declared.production.ChildKind.TheVariants as child
use Rattle.wb_syntax_resolved.specs.declared.production.Forward.{Forward}
use Rattle.wb_syntax_resolved.specs.declared.production.Local.{Local}
use Rattle.wb_syntax_resolved.specs.declared.terminal.Preference.{Preference}
use Rattle.wb_syntax_resolved.specs.declared.terminal.Terminal.{Terminal}
use Rattle.wb_syntax_resolved.specs.Expression.{Node}
use Rattle.wb_syntax_resolved.specs.Once.{NamesDiffer}
use Rattle.wb_names_numbers_theory.specs.Numbering.{Labels}
use Rattle.wb_names_numbers_theory.specs.Renaming.{IsRenamedNode}
use Rattle.wb_names_numbers_theory.specs.Moved.{Move, IsMovedKind, IsMovedChildKind, IsMovedChild, IsMovedPlace, IsMovedTarget}
use Rattle.wb_names_numbers_theory.specs.Moved.{IsMovedEquation, IsMovedLocal, IsMovedForward, IsMovedNonterminal, IsMovedAttribute}
use Rattle.wb_names_numbers_theory.specs.Moved.{IsMovedOccurrence}
use Rattle.wb_names_numbers_theory.specs.Moved.{IsMovedTerminal, IsMovedPreference, AreMovedNodes, IsMovedNonterminalNumber}
use Rattle.wb_names_numbers_theory.specs.Moved.{IsMovedTerminalNumber}
use Rattle.wb_names_numbers_theory.specs.Moved.{IsMovedAttributeNumber, IsMovedProductionNumber}
use Rattle.wb_names_numbers_theory.proofs.NumberLemmas.{one_moved}
use Rattle.wb_names_numbers_theory.proofs.RenamingLemmas.{one_node}
use Rattle.wb_names_numbers_theory.proofs.OneRow.{AreDistinct, terminals_differ, nonterminals_differ, productions_differ, same_terminal}
use Rattle.wb_names_numbers_theory.proofs.OneRow.{same_nonterminal, same_attribute, same_occurrence, same_preference, same_child}
use Rattle.wb_names_numbers_theory.proofs.OneRow.{same_equation}
use Rattle.wb_names_numbers_theory.proofs.OneRow.{same_local, same_forward}

module _ (m : Move) (distinct : AreDistinct m.to) where
  pub one_moved_nonterminal : (number x y : ℕ) → IsMovedNonterminalNumber m number x → IsMovedNonterminalNumber m number y → x ≡ y
  one_moved_nonterminal number x y e f =
      one_moved m.owner_in m.from.nonterminals m.to.nonterminals (nonterminals_differ m.to distinct) number x y e f

  one_moved_terminal : (number x y : ℕ) → IsMovedTerminalNumber m number x → IsMovedTerminalNumber m number y → x ≡ y
  one_moved_terminal number x y e f =
      one_moved m.owner_in m.from.terminals m.to.terminals (terminals_differ m.to distinct) number x y e f

  one_moved_attribute : (number x y : ℕ) → IsMovedAttributeNumber m number x → IsMovedAttributeNumber m number y → x ≡ y
  one_moved_attribute number x y e f = one_moved m.owner_in m.from.attributes m.to.attributes distinct.attributes number x y e f

  one_moved_production : (number x y : ℕ) → IsMovedProductionNumber m number x → IsMovedProductionNumber m number y → x ≡ y
  one_moved_production number x y e f =
      one_moved m.owner_in m.from.productions m.to.productions (productions_differ m.to distinct) number x y e f

  one_moved_kind : (from x y : Kind) → IsMovedKind m from x → IsMovedKind m from y → x ≡ y
  one_moved_kind kind.Int x y e f = e ∙ sym f
  one_moved_kind kind.Bool x y e f = e ∙ sym f
  one_moved_kind kind.Text x y e f = e ∙ sym f
  one_moved_kind (kind.Tree number) x y e f = e.2 ∙ (ap kind.Tree (one_moved_nonterminal number e.0 f.0 e.1 f.1) ∙ sym f.2)

  one_moved_child_kind : (from x y : ChildKind) → IsMovedChildKind m from x → IsMovedChildKind m from y → x ≡ y
  one_moved_child_kind (child.Terminal number) x y e f = e.2 ∙ (ap child.Terminal (one_moved_terminal number e.0 f.0 e.1 f.1) ∙ sym f.2)
  one_moved_child_kind (child.Value is) x y e f = e.2 ∙ (ap child.Value (one_moved_kind is e.0 f.0 e.1 f.1) ∙ sym f.2)

  pub one_moved_child : (c y z : Child) → IsMovedChild m c y → IsMovedChild m c z → y ≡ z
  one_moved_child c y z e f = same_child y z (e.label ∙ sym f.label) (one_moved_child_kind c.kind y.kind z.kind e.is_kind f.is_kind)

  pub one_moved_terminal_row : (t y z : Terminal) → IsMovedTerminal m t y → IsMovedTerminal m t z → y ≡ z
  one_moved_terminal_row t y z e f =
      same_terminal y z (e.name ∙ sym f.name) (e.owner ∙ sym f.owner) (e.kind ∙ sym f.kind) (e.pattern ∙ sym f.pattern)

  pub one_moved_nonterminal_row : (t y z : Nonterminal) → IsMovedNonterminal m t y → IsMovedNonterminal m t z → y ≡ z
  one_moved_nonterminal_row t y z e f =
      same_nonterminal y z (e.name ∙ sym f.name) (e.owner ∙ sym f.owner) (e.closed ∙ sym f.closed)
      (one_zip (IsMovedAttributeNumber m) one_moved_attribute t.forward_needs y.forward_needs z.forward_needs e.needs f.needs)

  pub one_moved_attribute_row : (t y z : Attribute) → IsMovedAttribute m t y → IsMovedAttribute m t z → y ≡ z
  one_moved_attribute_row t y z e f =
      same_attribute y z (e.name ∙ sym f.name) (e.owner ∙ sym f.owner) (e.direction ∙ sym f.direction)
      (one_moved_kind t.kind y.kind z.kind e.is_kind f.is_kind)

  pub one_moved_occurrence_row : (t y z : Occurrence) → IsMovedOccurrence m t y → IsMovedOccurrence m t z → y ≡ z
  one_moved_occurrence_row t y z e f =
      same_occurrence y z (e.owner ∙ sym f.owner) (one_moved_attribute t.attribute y.attribute z.attribute e.attribute f.attribute)
      (one_moved_nonterminal t.nonterminal y.nonterminal z.nonterminal e.nonterminal f.nonterminal)
      (one_zip (IsMovedAttributeNumber m) one_moved_attribute t.needs y.needs z.needs e.needs f.needs)

  pub one_moved_preference_row : (t y z : Preference) → IsMovedPreference m t y → IsMovedPreference m t z → y ≡ z
  one_moved_preference_row t y z e f =
      same_preference y z (one_moved_terminal t.first y.first z.first e.first f.first)
      (one_moved_terminal t.second y.second z.second e.second f.second)

  -- on productions with these labels
  module _ (labels others : Labels) (differ : NamesDiffer others.locals) where
    one_moved_place : (from x y : Place) → IsMovedPlace m labels others from x → IsMovedPlace m labels others from y → x ≡ y
    one_moved_place (place.Child k) x y e f = e ∙ sym f
    one_moved_place (place.Local k) x y e f =
        e.2 ∙ (ap place.Local (one_moved m.owner_in labels.locals others.locals differ k e.0 f.0 e.1 f.1) ∙ sym f.2)

    one_moved_nodes : (nodes xs ys : List Node) → AreMovedNodes m labels others nodes xs → AreMovedNodes m labels others nodes ys → xs ≡ ys
    one_moved_nodes nodes xs ys e f =
        one_zip (IsRenamedNode (IsMovedPlace m labels others) (IsMovedAttributeNumber m) (IsMovedProductionNumber m))
        (one_node (IsMovedPlace m labels others) (IsMovedAttributeNumber m) (IsMovedProductionNumber m) one_moved_place one_moved_attribute
        one_moved_production) nodes xs ys e f

    one_moved_target : (from x y : Target) → IsMovedTarget m labels others from x → IsMovedTarget m labels others from y → x ≡ y
    one_moved_target (target.Top a) x y e f = e.2 ∙ (ap target.Top (one_moved_attribute a e.0 f.0 e.1 f.1) ∙ sym f.2)
    one_moved_target (target.Place at a) x y e f =
        e.4 ∙ (ap (λ p. target.Place p e.1) (one_moved_place at e.0 f.0 e.2 f.2)
        ∙ (ap (λ k. target.Place f.0 k) (one_moved_attribute a e.1 f.1 e.3 f.3) ∙ sym f.4))
    one_moved_target (target.Forward a) x y e f = e.2 ∙ (ap target.Forward (one_moved_attribute a e.0 f.0 e.1 f.1) ∙ sym f.2)

    pub one_moved_equation : (w y z : Equation) → IsMovedEquation m labels others w y → IsMovedEquation m labels others w z → y ≡ z
    one_moved_equation w y z e f =
        same_equation y z (e.owner ∙ sym f.owner) (e.offset ∙ sym f.offset)
        (one_moved_target w.target y.target z.target e.target f.target) (one_moved_nodes w.nodes y.nodes z.nodes e.nodes f.nodes)

    pub one_moved_local : (w y z : Local) → IsMovedLocal m labels others w y → IsMovedLocal m labels others w z → y ≡ z
    one_moved_local w y z e f =
        same_local y z (e.label ∙ sym f.label) (e.owner ∙ sym f.owner) (e.offset ∙ sym f.offset)
        (one_moved_nonterminal w.nonterminal y.nonterminal z.nonterminal e.nonterminal f.nonterminal)
        (one_moved_nodes w.nodes y.nodes z.nodes e.nodes f.nodes)

    pub one_moved_forward : (w y z : Forward) → IsMovedForward m labels others w y → IsMovedForward m labels others w z → y ≡ z
    one_moved_forward w y z e f = same_forward y z (e.offset ∙ sym f.offset) (one_moved_nodes w.nodes y.nodes z.nodes e.nodes f.nodes)
