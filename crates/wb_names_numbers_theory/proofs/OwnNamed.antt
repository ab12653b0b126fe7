-- What a file writes on a production is named in its value.
use Rattle.std.proofs.Common.{◌≡◌, ◌∷◌, inl, inr, [], ℕ, List, Some, Contains, All, slice_get}
use Rattle.std.proofs.Common.{sym, refl, subst}
use Rattle.std.specs.Prelude.{IsSome}
use Rattle.wb_lemmas.proofs.Elements.{all_contained}
use Rattle.std.proofs.lemmas.List.Elements.{All-head}
use Rattle.wb_lemmas.proofs.Members.{contains_first, contains_later}
use Rattle.wb_base.specs.declared.symbol.Kind.{Kind}
use Rattle.wb_base.specs.declared.symbol.Kind.TheVariants as kind
use Rattle.wb_base.specs.Identifiers.{IsName}
use Rattle.wb_syntax_expressions.specs.declared.node.Node.TheVariants as part
use Rattle.wb_syntax_resolved.specs.declared.attributes.Direction.{Direction}
use Rattle.wb_syntax_resolved.specs.declared.attributes.Direction.TheVariants.{Synthesized, Inherited}
use Rattle.wb_syntax_resolved.specs.declared.equation.Place.{Place}
use Rattle.wb_syntax_resolved.specs.declared.equation.Target.{Target}
use Rattle.wb_syntax_resolved.specs.declared.production.ChildKind.{ChildKind}
use Rattle.wb_syntax_resolved.specs.declared.production.ChildKind.TheVariants as child
use Rattle.wb_syntax_resolved.specs.declared.production.Production.{Production}
use Rattle.wb_syntax_resolved.specs.declared.resolved.ResolvedParts.{ResolvedParts}
use Rattle.wb_syntax_resolved.specs.Expression as by_number
use Rattle.wb_syntax_resolved.specs.Named.{IsNamedNode, IsNamedExpression, IsNamedTarget}
use Rattle.wb_syntax_resolved.specs.Visible.{SeesPlace, SeesOccurrence}
use Rattle.wb_syntax.specs.declared.expression.Equation as written
use Rattle.wb_syntax.specs.declared.expression.Target as is_for
use Rattle.wb_syntax.specs.declared.expression.Target.TheVariants as g
use Rattle.wb_syntax.specs.declared.item.Item.{Item}
use Rattle.wb_syntax.specs.declared.pattern.Pattern.{Pattern}
use Rattle.wb_syntax.specs.Equations.{HasWholeEquations}
use Rattle.wb_syntax.specs.Expression as by_name
use Rattle.wb_syntax.specs.Names.{FormHasNames, node_names}
use Rattle.wb_names_theory.specs.declared.declaration.Declaration.{Declaration}
use Rattle.wb_names_theory.specs.declared.declaration.Declaration.TheVariants as d
use Rattle.wb_names_theory.specs.declared.declaration.Labelled.{Labelled}
use Rattle.wb_names_theory.specs.declared.declaration.Labelled.TheVariants as label
use Rattle.wb_names_theory.specs.declared.declaration.Site.TheVariants as site
use Rattle.wb_names_theory.specs.declared.declaration.Sort.TheVariants as sort
use Rattle.wb_names_theory.specs.declared.usage.LabelWanted.TheVariants as wanted
use Rattle.wb_names_theory.specs.declared.usage.Usage.{Usage}
use Rattle.wb_names_theory.specs.declared.usage.Usage.TheVariants as u
use Rattle.wb_names_theory.specs.declared.usage.Wanted.TheVariants as w
use Rattle.wb_names_theory.specs.Declares.{declarations}
use Rattle.wb_names_theory.specs.Hold.{NamesHold, AttributeFor}
use Rattle.wb_names_theory.specs.Meaning.{IsTree, IsLexeme}
use Rattle.wb_names_theory.specs.NamesOk.{scope_of}
use Rattle.wb_names_theory.specs.Uses.{uses, node_uses, target_uses}
use Rattle.wb_names_numbers_theory.specs.Files.{File, equations_on}
use Rattle.wb_names_numbers_theory.specs.Numbering.{Numbering, numbering_of, IsNumber, IsPlace, labels_in}
use Rattle.wb_names_numbers_theory.specs.Renaming.{IsRenamedNode}
use Rattle.wb_names_numbers_theory.specs.Written.{IsWrittenTarget, AreWrittenNodes}
use Rattle.wb_names_numbers_theory.proofs.Found.{sees_occurrence, sees_production, nonterminal_found, terminal_found, NameFound}
use Rattle.wb_names_numbers_theory.proofs.Ground.{Ground}
use Rattle.wb_names_numbers_theory.proofs.LabelsFound.{ChildrenScanned, LabelFound, Means, label_found}
use Rattle.wb_names_numbers_theory.proofs.OneRow.{LabelsDiffer, one_place, not_both}
use Rattle.wb_names_numbers_theory.proofs.RenamingLemmas.{renamed_whole}
use Rattle.wb_names_numbers_theory.proofs.RowLemmas.{all_zipped}
use Rattle.wb_names_numbers_theory.proofs.Selected.{block_of_equation}
use Rattle.wb_names_numbers_theory.proofs.SidesFound.{left_found, forward_found}
use Rattle.wb_names_numbers_theory.proofs.Used.{equation_used, node_used, target_used, equation_names, equation_whole}

-- places in lists of one, two and three
one_of_one : {X : Type 0} (x : X) → Contains (x ∷ []) x
one_of_one x = contains_first x []

one_of_two : {X : Type 0} (x y : X) → Contains (x ∷ y ∷ []) x
one_of_two x y = contains_first x (y ∷ [])

pub two_of_two : {X : Type 0} (x y : X) → Contains (x ∷ y ∷ []) y
two_of_two x y = contains_later x y (y ∷ []) (contains_first y [])

one_of_three : {X : Type 0} (x y z : X) → Contains (x ∷ y ∷ z ∷ []) x
one_of_three x y z = contains_first x (y ∷ z ∷ [])

pub three_of_three : {X : Type 0} (x y z : X) → Contains (x ∷ y ∷ z ∷ []) z
three_of_three x y z = contains_later x z (y ∷ z ∷ []) (two_of_two y z)

-- what is known of a file whose names are right in a format
pub record Known (file : File) (r : ResolvedParts) : Type 0 where
  pub ground : Ground file r
  pub format : ℕ
  pub hold : NamesHold (scope_of file.base file.owner format file.items)
  pub scanned : ChildrenScanned file
  pub names : All (λ (x : Item Pattern). FormHasNames x.form) file.items
  pub whole : All HasWholeEquations file.items

module _ (file : File) (r : ResolvedParts) (known : Known file r) where
  abbrev n : Numbering
  n = numbering_of r

  abbrev all : List Declaration
  all = declarations file.base file.items

  -- the attribute that a place asks for goes that way
  pub goes : (name : List ℕ) → AttributeFor all w.Synthesized name → Contains all (d.Attribute name Synthesized)
  goes name a = subst (λ z. Contains all (d.Attribute name z)) a.suits a.there

  pub comes : (name : List ℕ) → AttributeFor all w.Inherited name → Contains all (d.Attribute name Inherited)
  comes name a = subst (λ z. Contains all (d.Attribute name z)) a.suits a.there

  -- a tree, a value and a lexeme by their labels
  pub tree_of : (is : Labelled) (m : List ℕ) (at : ChildKind) → IsTree all is m → Means file n is at
      → (k : ℕ) × (at ≡ child.Value (kind.Tree k)) × IsNumber n.nonterminals file.owner m k
  tree_of is m at tree means =
      elim tree.0 [
        | inl e ↦ of_child (subst (λ z. Means file n z at) e means)
        | inr e ↦ subst (λ z. Means file n z at) e means
      ] where
        of_child : Means file n (label.Child m) at → (k : ℕ) × (at ≡ child.Value (kind.Tree k)) × IsNumber n.nonterminals file.owner m k
        of_child (inl x) =
            let f = nonterminal_found file r known.ground m tree.1 in
            absurd (not_both n known.ground.distinct file.owner m x.0 f.number x.2 f.is)
        of_child (inr x) = x

  value_of : (is : Labelled) (at : ChildKind) → ¬ IsLexeme all is → Means file n is at → (k : Kind) × (at ≡ child.Value k)
  value_of label.Plain at free means = means
  value_of (label.Child name) at free (inl x) = absurd (free (name, refl, x.3))
  value_of (label.Child name) at free (inr x) = (kind.Tree x.0, x.1)
  value_of (label.Local name) at free means = (kind.Tree means.0, means.1)

  lexeme_of : (is : Labelled) (at : ChildKind) → IsLexeme all is → Means file n is at → (k : ℕ) × (at ≡ child.Terminal k)
  lexeme_of is at lexeme means = of_child (subst (λ z. Means file n z at) lexeme.1 means) where
    there : (k : ℕ) → IsNumber n.nonterminals file.owner lexeme.0 k → ⊥
    there k x =
        let f : NameFound n.terminals file.owner lexeme.0 = elim lexeme.2 [
          | inl has ↦ terminal_found file r known.ground lexeme.0 sort.Terminal refl has
          | inr has ↦ terminal_found file r known.ground lexeme.0 sort.Marker refl has
        ] in
        not_both n known.ground.distinct file.owner lexeme.0 f.number k f.is x

    of_child : Means file n (label.Child lexeme.0) at → (k : ℕ) × (at ≡ child.Terminal k)
    of_child (inl x) = (x.0, x.1)
    of_child (inr x) = absurd (there x.0 x.2)

  module _ (at_row : ℕ) (row : Production) (is_there : slice_get r.attributes.productions at_row ≡ Some row)
      (differ : LabelsDiffer (labels_in row) row.owner file.owner) where
    -- the place of a label
    pub placed : (l : List ℕ) (is : Labelled) (at : Place) → (f : LabelFound file n row l is) → IsPlace (labels_in row) file.owner l at
        → SeesPlace row file.owner at f.to_kind
    placed l is at f here =
        subst (λ z. SeesPlace row file.owner z f.to_kind)
        (one_place n known.ground.distinct file.owner (labels_in row) row.owner differ l f.at at f.is_place here) f.there

    -- an attribute of a tree by its label
    of_label : (l a : List ℕ) (direction : Direction) (at : Place) (k : ℕ) → IsPlace (labels_in row) file.owner l at
        → IsNumber n.attributes file.owner a k → Contains all (d.Attribute a direction)
        → Contains (uses file.items) (u.Attribute row.name a (site.Label l))
        → (nonterminal : ℕ) × SeesPlace row file.owner at (child.Value (kind.Tree nonterminal))
        × SeesOccurrence r.attributes file.owner direction k nonterminal
    of_label l a direction at k here number goes used =
        let x = known.hold.meant.attributes row.name a (site.Label l) used in
        let f = label_found file r known.ground known.scanned at_row row is_there l x.there.0 x.there.1 in
        let t = tree_of x.there.0 x.nonterminal f.to_kind x.there.2 f.means in (
          t.0,
          subst (SeesPlace row file.owner at) t.1 (placed l x.there.0 at f here),
          sees_occurrence file r known.ground a x.nonterminal direction k t.0 number t.2 goes x.occurs,
        )

    -- an attribute of the top or of what is forwarded to
    of_top : (a : List ℕ) (direction : Direction) (k : ℕ) → IsNumber n.attributes file.owner a k → Contains all (d.Attribute a direction)
        → Contains (uses file.items) (u.Attribute row.name a site.Top) → SeesOccurrence r.attributes file.owner direction k row.left
    of_top a direction k number goes used =
        let x = known.hold.meant.attributes row.name a site.Top used in
        sees_occurrence file r known.ground a x.nonterminal direction k row.left number
        (left_found file r known.ground known.hold.placed at_row row is_there x.nonterminal x.there.0) goes x.occurs

    of_forward : (a : List ℕ) (direction : Direction) (k : ℕ) → IsNumber n.attributes file.owner a k
        → Contains all (d.Attribute a direction)
        → Contains (uses file.items) (u.Attribute row.name a site.Forward)
        → IsSome row.forward × SeesOccurrence r.attributes file.owner direction k row.left
    of_forward a direction k number goes used =
        let x = known.hold.meant.attributes row.name a site.Forward used in (
          forward_found file r known.ground known.hold.placed at_row row is_there (known.hold.meant.forward row.name a used),
          sees_occurrence file r known.ground a x.nonterminal direction k row.left number
              (left_found file r known.ground known.hold.placed at_row row is_there x.nonterminal x.there.0) goes x.occurs,
        )

    -- a node
    own_node : (node : by_name.Node) (to : by_number.Node)
        → ((it : Usage) → Contains (node_uses row.name node) it → Contains (uses file.items) it) → All IsName (node_names node)
        → IsRenamedNode (IsPlace (labels_in row) file.owner) (IsNumber n.attributes file.owner) (IsNumber n.productions file.owner) node to
        → IsNamedNode r.attributes row file.owner to
    own_node (part.Label l) to used names e =
        let x = known.hold.meant.labels row.name l wanted.Value (used (u.Label row.name l wanted.Value) (one_of_one (u.Label row.name l
        wanted.Value))) in
        let f = label_found file r known.ground known.scanned at_row row is_there l x.is x.there in
        let v = value_of x.is f.to_kind x.suits f.means in
        subst (IsNamedNode r.attributes row file.owner) (sym e.2)
        (v.0, subst (SeesPlace row file.owner e.0) v.1 (placed l x.is e.0 f e.1))
    own_node (part.Read l a) to used names e =
        subst (IsNamedNode r.attributes row file.owner) (sym e.4)
        (of_label l a Synthesized e.0 e.1 e.2 e.3
        (goes a (known.hold.meant.names a w.Synthesized (used (u.Name a w.Synthesized) (one_of_three (u.Name a w.Synthesized)
        (u.Label row.name l wanted.Tree) (u.Attribute row.name a (site.Label l))))))
        (used (u.Attribute row.name a (site.Label l)) (three_of_three (u.Name a w.Synthesized) (u.Label row.name l wanted.Tree)
        (u.Attribute row.name a (site.Label l)))))
    own_node (part.Lexeme l) to used names e =
        let x = known.hold.meant.labels row.name l wanted.Lexeme (used (u.Label row.name l wanted.Lexeme) (one_of_one (u.Label row.name l
        wanted.Lexeme))) in
        let f = label_found file r known.ground known.scanned at_row row is_there l x.is x.there in
        let v = lexeme_of x.is f.to_kind x.suits f.means in
        subst (IsNamedNode r.attributes row file.owner) (sym e.2)
        (v.0, subst (SeesPlace row file.owner e.0) v.1 (placed l x.is e.0 f e.1))
    own_node (part.Top a) to used names e =
        subst (IsNamedNode r.attributes row file.owner) (sym e.2)
        (of_top a Inherited e.0 e.1
        (comes a (known.hold.meant.names a w.Inherited (used (u.Name a w.Inherited) (one_of_two (u.Name a w.Inherited) (u.Attribute row.name
        a site.Top)))))
        (used (u.Attribute row.name a site.Top) (two_of_two (u.Name a w.Inherited) (u.Attribute row.name a site.Top))))
    own_node (part.Forward a) to used names e =
        subst (IsNamedNode r.attributes row file.owner) (sym e.2)
        (of_forward a Synthesized e.0 e.1
        (goes a (known.hold.meant.names a w.Synthesized (used (u.Name a w.Synthesized) (one_of_two (u.Name a w.Synthesized) (u.Attribute
        row.name a site.Forward)))))
        (used (u.Attribute row.name a site.Forward) (two_of_two (u.Name a w.Synthesized) (u.Attribute row.name a site.Forward))))
    own_node (part.Build name places) to used names e =
        subst (IsNamedNode r.attributes row file.owner) (sym e.2) (sees_production file r known.ground name e.0 e.1)
    own_node (part.Call operation places) to used names e =
        subst (IsNamedNode r.attributes row file.owner) (sym e) (All-head IsName operation [] names)
    own_node node to used names e = subst (IsNamedNode r.attributes row file.owner) (sym e) tt

    -- an expression
    pub own_expression : (q : written.Equation) → Contains (equations_on row.name file.items) q → (nodes : List by_number.Node)
        → AreWrittenNodes n file.owner (labels_in row) q.nodes nodes → IsNamedExpression r.attributes row file.owner nodes
    own_expression q has nodes all_renamed =
        let (b, there, same, inside) = block_of_equation row.name file.items q has in
        record {
          whole = renamed_whole (IsPlace (labels_in row) file.owner) (IsNumber n.attributes file.owner) (IsNumber n.productions file.owner)
              q.nodes
              nodes (equation_whole file.items known.whole b there q inside) all_renamed;
          named = own_nodes q.nodes nodes (λ node more it used.
              equation_used file.items b there q inside it (node_used b.name q node more it
              (subst (λ z. Contains (node_uses z node) it) (sym same) used)))
              (equation_names file.items known.names b there q inside).nodes all_renamed;
        } where
          own_nodes : (xs : List by_name.Node) (ys : List by_number.Node)
              → ((node : by_name.Node) → Contains xs node → (it : Usage) → Contains (node_uses row.name node) it
              → Contains (uses file.items) it)
              → All (λ node. All IsName (node_names node)) xs
              → AreWrittenNodes n file.owner (labels_in row) xs ys → All (IsNamedNode r.attributes row file.owner) ys
          own_nodes xs ys used names zipped = all_zipped _ (IsNamedNode r.attributes row file.owner) xs ys zipped
              (λ x y has_x has_y e. own_node x y (used x has_x) (all_contained (λ node. All IsName (node_names node)) xs x names has_x) e)

    -- what an equation is for
    own_target : (to : is_for.Target) (is : Target) → ((it : Usage) → Contains (target_uses row.name to) it → Contains (uses file.items) it)
        → IsWrittenTarget n file.owner (labels_in row) to is → IsNamedTarget r.attributes row file.owner is
    own_target (g.Top a) is used e =
        subst (IsNamedTarget r.attributes row file.owner) (sym e.2)
        (of_top a Synthesized e.0 e.1
        (goes a (known.hold.meant.names a w.Synthesized (used (u.Name a w.Synthesized) (one_of_two (u.Name a w.Synthesized) (u.Attribute
        row.name a site.Top)))))
        (used (u.Attribute row.name a site.Top) (two_of_two (u.Name a w.Synthesized) (u.Attribute row.name a site.Top))))
    own_target (g.Label l a) is used e =
        subst (IsNamedTarget r.attributes row file.owner) (sym e.4)
        (of_label l a Inherited e.0 e.1 e.2 e.3
        (comes a (known.hold.meant.names a w.Inherited (used (u.Name a w.Inherited) (one_of_three (u.Name a w.Inherited)
        (u.Label row.name l wanted.Tree) (u.Attribute row.name a (site.Label l))))))
        (used (u.Attribute row.name a (site.Label l)) (three_of_three (u.Name a w.Inherited) (u.Label row.name l wanted.Tree)
        (u.Attribute row.name a (site.Label l)))))
    own_target (g.Forward a) is used e =
        subst (IsNamedTarget r.attributes row file.owner) (sym e.2)
        (of_forward a Inherited e.0 e.1
        (comes a (known.hold.meant.names a w.Inherited (used (u.Name a w.Inherited) (one_of_two (u.Name a w.Inherited) (u.Attribute row.name
        a site.Forward)))))
        (used (u.Attribute row.name a site.Forward) (two_of_two (u.Name a w.Inherited) (u.Attribute row.name a site.Forward))))
    own_target (g.Local l m) is used e = absurd e
    own_target g.ForwardsTo is used e = absurd e

    pub own_equation_target : (q : written.Equation) → Contains (equations_on row.name file.items) q → (is : Target)
        → IsWrittenTarget n file.owner (labels_in row) q.target is → IsNamedTarget r.attributes row file.owner is
    own_equation_target q has is e =
        let (b, there, same, inside) = block_of_equation row.name file.items q has in
        own_target q.target is (λ it used. equation_used file.items b there q inside it (target_used b.name q it
        (subst (λ z. Contains (target_uses z q.target) it) (sym same) used))) e
