-- What a resolved base names is in range, so it is in tables of its length.
use Rattle.std.proofs.Common.{◌≡◌, ◌<◌, ℕ, List, Option, Some, None, length, map, slice_get, sym, subst, refl}
use Rattle.std.specs.Prelude.{option_map}
use Rattle.std.proofs.lemmas.List.{length-map}
use Rattle.std.proofs.lemmas.Option.{slice_get_within}
use Rattle.wb_base.specs.declared.symbol.Kind.{Kind}
use Rattle.wb_base.specs.declared.symbol.Kind.TheVariants as kind
use Rattle.wb_syntax_expressions.specs.declared.node.Node.TheVariants as part
use Rattle.wb_syntax_resolved.specs.declared.attributes.Attribute.{Attribute}
use Rattle.wb_syntax_resolved.specs.declared.attributes.Direction.{Direction}
use Rattle.wb_syntax_resolved.specs.declared.attributes.Direction.TheVariants.{Synthesized, Inherited}
use Rattle.wb_syntax_resolved.specs.declared.equation.Place.{Place}
use Rattle.wb_syntax_resolved.specs.declared.equation.Place.TheVariants as place
use Rattle.wb_syntax_resolved.specs.declared.equation.Target.{Target}
use Rattle.wb_syntax_resolved.specs.declared.equation.Target.TheVariants as target
use Rattle.wb_syntax_resolved.specs.declared.production.ChildKind.{ChildKind}
use Rattle.wb_syntax_resolved.specs.declared.production.ChildKind.TheVariants as child
use Rattle.wb_syntax_resolved.specs.declared.production.Local.{Local}
use Rattle.wb_syntax_resolved.specs.declared.production.Production.{Production}
use Rattle.wb_syntax_resolved.specs.Expression.{Node}
use Rattle.wb_syntax_resolved.specs.Named.{IsNamedNode, IsNamedTarget}
use Rattle.wb_syntax_resolved.specs.Visible.{SeesAttribute, SeesPlace, SeesKind, SeesNonterminal}
use Rattle.wb_names_numbers_theory.specs.Files.{File}
use Rattle.wb_names_numbers_theory.specs.Numbering.{Numbering, labels_in}
use Rattle.wb_names_numbers_theory.specs.Resolves.{move_of}
use Rattle.wb_names_rows.specs.declared.moves.Moves.{Moves}
use Rattle.wb_names_rows.specs.Moves.{NodeIsWithin, KindIsWithin}
use Rattle.wb_names_rows.proofs.BaseMoved.{IsPlaceIn, IsNodeIn, IsTargetIn}

-- what an element is from, where there is an image of it
some_of : {A B : Type 0} (f : A → B) (o : Option A) (y : B) → option_map f o ≡ Some y → (x : A) × (o ≡ Some x)
some_of f None y e = absurd (cc e)
some_of f (Some x) y e = (x, refl)

-- a place that is found is in a list of images too
within_map : {A B : Type 0} (f : A → B) (xs : List A) (k : ℕ) (x : A) → slice_get xs k ≡ Some x → k < length (map f xs)
within_map f xs k x at = subst (λ (z : ℕ). k < z) (sym (length-map xs f)) (slice_get_within xs k x at)

module _ (file : File) (n : Numbering) where
  pub attribute_in : (owner : ℕ) (goes : Direction) (k : ℕ) → SeesAttribute file.base.attributes owner goes k
      → k < length (move_of file n).from.attributes
  attribute_in owner goes k sees =
      within_map (λ (x : Attribute). (x.owner, x.name)) file.base.attributes.attributes k sees.attribute sees.is

  pub place_in : (production : Production) (owner : ℕ) (at : Place) (is : ChildKind) → SeesPlace production owner at is
      → IsPlaceIn (labels_in production) at
  place_in production owner (place.Child k) is sees = tt
  place_in production owner (place.Local k) is sees =
      let x = some_of (λ (l : Local). child.Value (kind.Tree l.nonterminal)) (slice_get production.locals k) is sees.is in
      within_map (λ (l : Local). (l.owner, l.label)) production.locals k x.0 x.1

  pub node_in : (production : Production) (owner : ℕ) (node : Node) → IsNamedNode file.base.attributes production owner node
      → IsNodeIn (move_of file n) (labels_in production) node
  node_in production owner (part.Label p) is = place_in production owner p (child.Value is.0) is.1
  node_in production owner (part.Read p k) is =
      (place_in production owner p (child.Value (kind.Tree is.0)) is.1, attribute_in owner Synthesized k is.2.attribute)
  node_in production owner (part.Lexeme p) is = place_in production owner p (child.Terminal is.0) is.1
  node_in production owner (part.Top k) is = attribute_in owner Inherited k is.attribute
  node_in production owner (part.Forward k) is = attribute_in owner Synthesized k is.1.attribute
  node_in production owner node is = tt

  pub target_in : (production : Production) (owner : ℕ) (to : Target) → IsNamedTarget file.base.attributes production owner to
      → IsTargetIn (move_of file n) (labels_in production) to
  target_in production owner (target.Top k) is = attribute_in owner Synthesized k is.attribute
  target_in production owner (target.Place p k) is =
      (place_in production owner p (child.Value (kind.Tree is.0)) is.1, attribute_in owner Inherited k is.2.attribute)
  target_in production owner (target.Forward k) is = attribute_in owner Inherited k is.1.attribute

  -- in tables of the base's length
  module _ (t : Moves) (productions : length t.productions.items ≡ length file.base.attributes.productions)
      (nonterminals : length t.nonterminals.items ≡ length file.base.attributes.nonterminals) where
    pub node_within : (production : Production) (owner : ℕ) (node : Node) → IsNamedNode file.base.attributes production owner node
        → NodeIsWithin t node
    node_within production owner (part.Build p places) is =
        subst (λ (z : ℕ). p < z) (sym productions) (slice_get_within file.base.attributes.productions p is.production is.is)
    node_within production owner node is = tt

    pub nonterminal_within : (owner k : ℕ) → SeesNonterminal file.base.attributes owner k → k < length t.nonterminals.items
    nonterminal_within owner k is =
        subst (λ (z : ℕ). k < z) (sym nonterminals) (slice_get_within file.base.attributes.nonterminals k is.nonterminal is.is)

    pub kind_within : (owner : ℕ) (is : Kind) → SeesKind file.base.attributes owner is → KindIsWithin t is
    kind_within owner kind.Int sees = tt
    kind_within owner kind.Bool sees = tt
    kind_within owner kind.Text sees = tt
    kind_within owner (kind.Tree k) sees = nonterminal_within owner k sees
