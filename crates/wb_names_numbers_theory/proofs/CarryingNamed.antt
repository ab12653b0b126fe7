-- What is named in a resolved specification is named in one that has it, in whose numbers it is given.
use Rattle.std.proofs.Common.{◌≡◌, ◌∷◌, [], ℕ, List, Option, Some, None, All, ap, sym, refl, subst, ◌∙◌}
use Rattle.std.specs.Prelude.{option_to_list, IsSome}
use Rattle.std.specs.List.{AllZip}
use Rattle.std.proofs.lemmas.List.Elements.{All-nil, All-cons, All-head, All-tail}
use Rattle.wb_base.specs.declared.symbol.Kind.{Kind}
use Rattle.wb_base.specs.declared.symbol.Kind.TheVariants as kind
use Rattle.wb_base.specs.Identifiers.{IsName}
use Rattle.wb_syntax_expressions.specs.declared.node.Node.TheVariants as n
use Rattle.wb_syntax_resolved.specs.declared.attributes.Direction.{Direction}
use Rattle.wb_syntax_resolved.specs.declared.attributes.Direction.TheVariants.{Synthesized, Inherited}
use Rattle.wb_syntax_resolved.specs.declared.equation.Equation.{Equation}
use Rattle.wb_syntax_resolved.specs.declared.equation.Place.{Place}
use Rattle.wb_syntax_resolved.specs.declared.equation.Target.{Target}
use Rattle.wb_syntax_resolved.specs.declared.equation.Target.TheVariants as target
use Rattle.wb_syntax_resolved.specs.declared.production.Child.{Child}
use Rattle.wb_syntax_resolved.specs.declared.production.ChildKind.{ChildKind}
use Rattle.wb_syntax_resolved.specs.declared.production.ChildKind.TheVariants as child
use Rattle.wb_syntax_resolved.specs.declared.production.Local.{Local}
use Rattle.wb_syntax_resolved.specs.declared.production.Production.{Production}
use Rattle.wb_syntax_resolved.specs.declared.production.ProductionRole.{ProductionRole}
use Rattle.wb_syntax_resolved.specs.declared.production.ProductionRole.TheVariants.{Concrete, Abstract}
use Rattle.wb_syntax_resolved.specs.declared.resolved.ResolvedParts.{ResolvedParts}
use Rattle.wb_syntax_resolved.specs.Expression.{Node}
use Rattle.wb_syntax_resolved.specs.Named.{IsNamedNode, IsNamedExpression, IsNamedTarget, IsNamedEquation, IsNamedLocal, IsChildKindOf}
use Rattle.wb_syntax_resolved.specs.Named.{IsNamedChild}
use Rattle.wb_syntax_resolved.specs.Once.{NamesDiffer}
use Rattle.wb_syntax_resolved.specs.Owners.{Sees, IsOwner}
use Rattle.wb_syntax_resolved.specs.Visible.{SeesNonterminal, SeesOccurrence, SeesPlace}
use Rattle.wb_names_numbers_theory.specs.Numbering.{numbering_of, labels_in}
use Rattle.wb_names_numbers_theory.specs.Renaming.{IsRenamedNode}
use Rattle.wb_names_numbers_theory.specs.Moved.{IsMovedKind, IsMovedChildKind, IsMovedChild, IsMovedPlace, IsMovedTarget, IsMovedEquation}
use Rattle.wb_names_numbers_theory.specs.Moved.{IsMovedLocal}
use Rattle.wb_names_numbers_theory.specs.Moved.{AreMovedNodes, IsMovedAttributeNumber, IsMovedProductionNumber, IsMovedNonterminalNumber}
use Rattle.wb_names_numbers_theory.specs.Carried.{IsCarriedProduction, IsCarried, move_between}
use Rattle.wb_names_numbers_theory.proofs.Carrying.{carried_nonterminal, carried_production, carried_occurrence, carried_kind}
use Rattle.wb_names_numbers_theory.proofs.Carrying.{carried_place}
use Rattle.wb_names_numbers_theory.proofs.Carrying.{sees_moved}
use Rattle.wb_names_numbers_theory.proofs.OneRow.{AreDistinct}
use Rattle.wb_names_numbers_theory.proofs.RenamingLemmas.{renamed_whole}

-- a fact of each element of the first list holds of each of the second, where the relation carries it over
pub carried_all : {A B : Type 0} (R : A → B → Type 0) (P : A → Type 0) (Q : B → Type 0) → ((x : A) (y : B) → R x y → P x → Q y)
    → (xs : List A) (ys : List B) → AllZip R xs ys → All P xs → All Q ys
carried_all R P Q gives [] [] all each = All-nil Q
carried_all R P Q gives [] (y ∷ ys) all each = absurd all
carried_all R P Q gives (x ∷ xs) [] all each = absurd all
carried_all R P Q gives (x ∷ xs) (y ∷ ys) all each =
    All-cons Q y ys (gives x y all.0 (All-head P x xs each)) (carried_all R P Q gives xs ys all.1 (All-tail P x xs each))

-- where the first is something, the second is
pub something : {X : Type 0} (R : X → X → Type 0) (x y : Option X) → AllZip R (option_to_list x) (option_to_list y) → IsSome x → IsSome y
something R None y all is = absurd (cc is)
something R (Some x) None all is = absurd all
something R (Some x) (Some y) all is = refl

-- the kind of a moved tree is one of the moved nonterminal, and a value stays one
pub record TreeThere (IsNumber : ℕ → ℕ → Type 0) (number : ℕ) (to : ChildKind) : Type 0 where
  pub other : ℕ
  pub moved : IsNumber number other
  pub is : to ≡ child.Value (kind.Tree other)

module _ (f : ℕ → ℕ) (r s : ResolvedParts) (distinct : AreDistinct (numbering_of s)) (carried : IsCarried f r s) (p q : Production)
    (head : IsCarriedProduction (move_between f r s) p q) (differ : NamesDiffer (labels_in q).locals) where
  tree_there : (number : ℕ) (to : ChildKind) → IsMovedChildKind (move_between f r s) (child.Value (kind.Tree number)) to
      → TreeThere (IsMovedNonterminalNumber (move_between f r s)) number to
  tree_there number to e = record { other = e.1.0; moved = e.1.1; is = e.2 ∙ ap child.Value e.1.2 }

  -- an attribute of a child or local
  attribute_of_place : (owner : ℕ) (direction : Direction) (at to : Place) (k i number : ℕ)
      → SeesPlace p owner at (child.Value (kind.Tree number)) → IsMovedPlace (move_between f r s) (labels_in p) (labels_in q) at to
      → SeesOccurrence r.attributes owner direction k number → IsMovedAttributeNumber (move_between f r s) k i
      → (nonterminal : ℕ) × SeesPlace q (f owner) to (child.Value (kind.Tree nonterminal))
      × SeesOccurrence s.attributes (f owner) direction i nonterminal
  attribute_of_place owner direction at to k i number sees moved occurs attribute =
      let t = carried_place f r s distinct carried p q head differ owner at to (child.Value (kind.Tree number)) sees moved in
      let tree = tree_there number t.to_kind t.moved in (
        tree.other,
        subst (SeesPlace q (f owner) to) tree.is t.sees,
        carried_occurrence f r s distinct carried owner direction k number i tree.other occurs attribute tree.moved,
      )

  value_there : (is : Kind) (to : ChildKind) → IsMovedChildKind (move_between f r s) (child.Value is) to → (k : Kind) × (to ≡ child.Value k)
  value_there is to e = (e.0, e.2)

  lexeme_there : (number : ℕ) (to : ChildKind) → IsMovedChildKind (move_between f r s) (child.Terminal number) to
      → (k : ℕ) × (to ≡ child.Terminal k)
  lexeme_there number to e = (e.0, e.2)

  -- a node
  pub carried_node : (owner : ℕ) (node to : Node)
      → IsRenamedNode (IsMovedPlace (move_between f r s) (labels_in p) (labels_in q)) (IsMovedAttributeNumber (move_between f r s))
      (IsMovedProductionNumber (move_between f r s)) node to
      → IsNamedNode r.attributes p owner node → IsNamedNode s.attributes q (f owner) to
  carried_node owner (n.Label at) to e h =
      let t = carried_place f r s distinct carried p q head differ owner at e.0 (child.Value h.0) h.1 e.1 in
      let v = value_there h.0 t.to_kind t.moved in
      subst (IsNamedNode s.attributes q (f owner)) (sym e.2) (v.0, subst (SeesPlace q (f owner) e.0) v.1 t.sees)
  carried_node owner (n.Read at a) to e h =
      subst (IsNamedNode s.attributes q (f owner)) (sym e.4)
      (attribute_of_place owner Synthesized at e.0 a e.1 h.0 h.1 e.2 h.2 e.3)
  carried_node owner (n.Lexeme at) to e h =
      let t = carried_place f r s distinct carried p q head differ owner at e.0 (child.Terminal h.0) h.1 e.1 in
      let v = lexeme_there h.0 t.to_kind t.moved in
      subst (IsNamedNode s.attributes q (f owner)) (sym e.2) (v.0, subst (SeesPlace q (f owner) e.0) v.1 t.sees)
  carried_node owner (n.Top a) to e h =
      subst (IsNamedNode s.attributes q (f owner)) (sym e.2)
      (carried_occurrence f r s distinct carried owner Inherited a p.left e.0 q.left h e.1 head.left)
  carried_node owner (n.Forward a) to e h =
      subst (IsNamedNode s.attributes q (f owner)) (sym e.2) (
        something _ p.forward q.forward head.forward h.0,
        carried_occurrence f r s distinct carried owner Synthesized a p.left e.0 q.left h.1 e.1 head.left,
      )
  carried_node owner (n.Build number places) to e h =
      subst (IsNamedNode s.attributes q (f owner)) (sym e.2) (carried_production f r s distinct carried owner number e.0 h e.1)
  carried_node owner (n.Call operation places) to e h = subst (IsNamedNode s.attributes q (f owner)) (sym e) h
  carried_node owner node to e h = subst (IsNamedNode s.attributes q (f owner)) (sym e) tt

  -- an expression
  pub carried_expression : (owner : ℕ) (nodes others : List Node) → AreMovedNodes (move_between f r s) (labels_in p) (labels_in q) nodes
      others
      → IsNamedExpression r.attributes p owner nodes → IsNamedExpression s.attributes q (f owner) others
  carried_expression owner nodes others all named = record {
    whole = renamed_whole (IsMovedPlace (move_between f r s) (labels_in p) (labels_in q)) (IsMovedAttributeNumber (move_between f r s))
        (IsMovedProductionNumber (move_between f r s)) nodes others named.whole all;
    named = carried_all (IsRenamedNode (IsMovedPlace (move_between f r s) (labels_in p) (labels_in q))
        (IsMovedAttributeNumber (move_between f r s)) (IsMovedProductionNumber (move_between f r s))) (IsNamedNode r.attributes p owner)
        (IsNamedNode s.attributes q (f owner)) (carried_node owner) nodes others all named.named;
  }

  -- what an equation is for
  carried_target : (owner : ℕ) (from to : Target) → IsMovedTarget (move_between f r s) (labels_in p) (labels_in q) from to
      → IsNamedTarget r.attributes p owner from → IsNamedTarget s.attributes q (f owner) to
  carried_target owner (target.Top a) to e h =
      subst (IsNamedTarget s.attributes q (f owner)) (sym e.2)
      (carried_occurrence f r s distinct carried owner Synthesized a p.left e.0 q.left h e.1 head.left)
  carried_target owner (target.Place at a) to e h =
      subst (IsNamedTarget s.attributes q (f owner)) (sym e.4)
      (attribute_of_place owner Inherited at e.0 a e.1 h.0 h.1 e.2 h.2 e.3)
  carried_target owner (target.Forward a) to e h =
      subst (IsNamedTarget s.attributes q (f owner)) (sym e.2) (
        something _ p.forward q.forward head.forward h.0,
        carried_occurrence f r s distinct carried owner Inherited a p.left e.0 q.left h.1 e.1 head.left,
      )

  -- an equation and a local, where the owners of the first are owners of the second
  module _ (owners : (o : ℕ) → IsOwner r.attributes.extensions o → IsOwner s.attributes.extensions (f o)) where
    pub carried_equation : (e to : Equation) → IsMovedEquation (move_between f r s) (labels_in p) (labels_in q) e to
        → IsNamedEquation r.attributes p e → IsNamedEquation s.attributes q to
    carried_equation e to moved named =
        let there : Sees (f e.owner) q.owner = subst (Sees (f e.owner)) (sym head.owner) (sees_moved f carried.host e.owner p.owner
        named.there) in
        record {
          owner = subst (IsOwner s.attributes.extensions) (sym moved.owner) (owners e.owner named.owner);
          there = subst (λ o. Sees o q.owner) (sym moved.owner) there;
          target = subst (λ o. IsNamedTarget s.attributes q o to.target) (sym moved.owner)
              (carried_target e.owner e.target to.target moved.target named.target);
          value = subst (λ o. IsNamedExpression s.attributes q o to.nodes) (sym moved.owner)
              (carried_expression e.owner e.nodes to.nodes moved.nodes named.value);
        }

    pub carried_local : (l to : Local) → IsMovedLocal (move_between f r s) (labels_in p) (labels_in q) l to
        → IsNamedLocal r.attributes p l → IsNamedLocal s.attributes q to
    carried_local l to moved named =
        let there : Sees (f l.owner) q.owner = subst (Sees (f l.owner)) (sym head.owner) (sees_moved f carried.host l.owner p.owner
        named.there) in
        record {
          owner = subst (IsOwner s.attributes.extensions) (sym moved.owner) (owners l.owner named.owner);
          there = subst (λ o. Sees o q.owner) (sym moved.owner) there;
          label = subst IsName (sym moved.label) named.label;
          nonterminal = subst (λ o. SeesNonterminal s.attributes o to.nonterminal) (sym moved.owner)
              (carried_nonterminal f r s distinct carried l.owner l.nonterminal to.nonterminal named.nonterminal moved.nonterminal);
          value = subst (λ o. IsNamedExpression s.attributes q o to.nodes) (sym moved.owner)
              (carried_expression l.owner l.nodes to.nodes moved.nodes named.value);
        }

  -- a child
  carried_child_kind : (owner : ℕ) (role : ProductionRole) (is to : ChildKind) → IsMovedChildKind (move_between f r s) is to
      → IsChildKindOf r.attributes owner role is → IsChildKindOf s.attributes (f owner) role to
  carried_child_kind owner Concrete (child.Terminal number) to e h = subst (IsChildKindOf s.attributes (f owner) Concrete) (sym e.2) tt
  carried_child_kind owner Concrete (child.Value is) to e h =
      let moved : IsMovedKind (move_between f r s) (kind.Tree h.0) e.0 = subst (λ z. IsMovedKind (move_between f r s) z e.0) h.1 e.1 in
      subst (IsChildKindOf s.attributes (f owner) Concrete) (sym e.2)
      (moved.0, moved.2, carried_nonterminal f r s distinct carried owner h.0 moved.0 h.2 moved.1)
  carried_child_kind owner Abstract (child.Terminal number) to e h = absurd h
  carried_child_kind owner Abstract (child.Value is) to e h =
      subst (IsChildKindOf s.attributes (f owner) Abstract) (sym e.2) (carried_kind f r s distinct carried owner is e.0 h e.1)

  pub carried_child : (c to : Child) → IsMovedChild (move_between f r s) c to → IsNamedChild r.attributes p c
      → IsNamedChild s.attributes q to
  carried_child c to moved named = record {
    label = subst IsName (sym moved.label) named.label;
    is_kind = subst (λ o. IsChildKindOf s.attributes o q.role to.kind) (sym head.owner)
        (subst (λ o. IsChildKindOf s.attributes (f p.owner) o to.kind) (sym head.role)
        (carried_child_kind p.owner p.role c.kind to.kind moved.is_kind named.is_kind));
  }
