-- Where each name means what its place asks for, each name is there: so it has a number in a scope that has what is declared.
use Rattle.std.proofs.Common.{◌≡◌, ◌∷◌, ◌⊎◌, inl, inr, [], ℕ, List, Some, None, All, Contains, subst}
use Rattle.std.proofs.lemmas.List.Elements.{All-nil, All-cons}
use Rattle.std.specs.Prelude.{flat_map}
use Rattle.wb_lemmas.proofs.Elements.{all_from_contained}
use Rattle.wb_lemmas.proofs.Members.{contains_first, contains_later, append_contains_left, append_contains_right}
use Rattle.wb_syntax_expressions.specs.declared.node.Node.TheVariants as part
use Rattle.wb_syntax.specs.declared.expression.Equation.{Equation}
use Rattle.wb_syntax.specs.declared.expression.Target.{Target}
use Rattle.wb_syntax.specs.declared.expression.Target.TheVariants as g
use Rattle.wb_syntax.specs.declared.item.ItemForm.{ItemForm}
use Rattle.wb_syntax.specs.declared.item.ItemForm.TheVariants as f
use Rattle.wb_syntax.specs.declared.item.PlainForm.{PlainForm}
use Rattle.wb_syntax.specs.declared.item.PlainForm.TheVariants as i
use Rattle.wb_syntax.specs.declared.pattern.Pattern.{Pattern}
use Rattle.wb_syntax.specs.declared.production.NamedKind.{NamedKind}
use Rattle.wb_syntax.specs.declared.production.NamedKind.TheVariants as kind
use Rattle.wb_syntax.specs.declared.production.ProductionRole.{ProductionRole}
use Rattle.wb_syntax.specs.declared.production.ProductionRole.TheVariants.{Concrete, Abstract}
use Rattle.wb_syntax.specs.Expression.{Node}
use Rattle.wb_syntax.specs.Names.{kind_names}
use Rattle.wb_names_theory.specs.declared.declaration.Declaration.{Declaration}
use Rattle.wb_names_theory.specs.declared.declaration.Labelled.{Labelled}
use Rattle.wb_names_theory.specs.declared.declaration.Site.TheVariants as site
use Rattle.wb_names_theory.specs.declared.declaration.Sort.{Sort}
use Rattle.wb_names_theory.specs.declared.declaration.Sort.TheVariants as sort
use Rattle.wb_names_theory.specs.declared.usage.LabelWanted.{LabelWanted}
use Rattle.wb_names_theory.specs.declared.usage.LabelWanted.TheVariants as l
use Rattle.wb_names_theory.specs.declared.usage.Usage.{Usage}
use Rattle.wb_names_theory.specs.declared.usage.Usage.TheVariants as u
use Rattle.wb_names_theory.specs.declared.usage.Wanted.TheVariants as w
use Rattle.wb_names_theory.specs.Hold.{AreMeant}
use Rattle.wb_names_theory.specs.Meaning.{IsSymbol, HasLabel}
use Rattle.wb_names_theory.specs.Uses.{kind_uses, child_wanted, node_uses, target_uses, equation_uses, needs_uses, plain_uses, form_uses}
use Rattle.wb_names_numbers_theory.proofs.OwnDeclared.{flat_map_contains}
use Rattle.wb_names_rows.specs.declared.scope.Scope.{Scope}
use Rattle.wb_names_rows.specs.declared.scope.ProductionLabels.{ProductionLabels}
use Rattle.wb_names_rows.specs.Nodes.{NodeIsThere, TargetIsThere, EquationIsThere}
use Rattle.wb_names_rows.specs.Plains.{PlainIsThere, FormIsThere}
use Rattle.wb_names_rows.specs.Scope.{KindIsThere}
use Rattle.wb_names_rows.specs.There.{HasDeclared}

module _ (s : Scope) (declared : List Declaration) (used : List Usage) (has : HasDeclared s declared) (meant : AreMeant declared used) where
  -- a name by what its place asks for
  pub nonterminal_there : (name : List ℕ) → Contains used (u.Name name w.Nonterminal) → Contains s.nonterminals name
  nonterminal_there name uses =
      let is = meant.names name w.Nonterminal uses in
      has.nonterminals name (subst (IsSymbol declared name) is.suits is.there)

  pub production_there : (name : List ℕ) → Contains used (u.Name name w.Production) → Contains s.productions name
  production_there name uses =
      let is = meant.names name w.Production uses in
      has.productions name (subst (IsSymbol declared name) is.suits is.there)

  lexical_of : (name : List ℕ) (is : Sort) → IsSymbol declared name is → (is ≡ sort.Terminal) ⊎ (is ≡ sort.Layout) ⊎ (is ≡ sort.Marker)
      → Contains s.terminals name
  lexical_of name is there (inl e) = has.terminals name (subst (IsSymbol declared name) e there)
  lexical_of name is there (inr (inl e)) = has.layout name (subst (IsSymbol declared name) e there)
  lexical_of name is there (inr (inr e)) = has.markers name (subst (IsSymbol declared name) e there)

  pub terminal_there : (name : List ℕ) → Contains used (u.Name name w.Lexical) → Contains s.terminals name
  terminal_there name uses = let is = meant.names name w.Lexical uses in lexical_of name is.is is.there is.suits

  symbol_of : (name : List ℕ) (is : Sort) → IsSymbol declared name is → (is ≡ sort.Terminal) ⊎ (is ≡ sort.Marker) ⊎ (is ≡ sort.Nonterminal)
      → Contains s.terminals name ⊎ Contains s.nonterminals name
  symbol_of name is there (inl e) = inl (has.terminals name (subst (IsSymbol declared name) e there))
  symbol_of name is there (inr (inl e)) = inl (has.markers name (subst (IsSymbol declared name) e there))
  symbol_of name is there (inr (inr e)) = inr (has.nonterminals name (subst (IsSymbol declared name) e there))

  synthesized_there : (name : List ℕ) → Contains used (u.Name name w.Synthesized) → Contains s.attributes name
  synthesized_there name uses = let is = meant.names name w.Synthesized uses in has.attributes name is.direction is.there

  pub inherited_there : (name : List ℕ) → Contains used (u.Name name w.Inherited) → Contains s.attributes name
  inherited_there name uses = let is = meant.names name w.Inherited uses in has.attributes name is.direction is.there

  -- the kind of an attribute, and of a child
  pub kind_there : (is : NamedKind) → ((it : Usage) → Contains (kind_uses w.Nonterminal is) it → Contains used it)
      → All (Contains s.nonterminals) (kind_names is)
  kind_there kind.Int inside = All-nil (Contains s.nonterminals)
  kind_there kind.Bool inside = All-nil (Contains s.nonterminals)
  kind_there kind.Text inside = All-nil (Contains s.nonterminals)
  kind_there (kind.Name name) inside =
      All-cons (Contains s.nonterminals) name [] (nonterminal_there name (inside (u.Name name w.Nonterminal) (contains_first (u.Name name w.Nonterminal) []))) (All-nil (Contains s.nonterminals))

  abbrev IsThere : List ℕ → Type 0
  IsThere name = Contains s.terminals name ⊎ Contains s.nonterminals name

  pub child_there : (role : ProductionRole) (is : NamedKind)
      → ((it : Usage) → Contains (kind_uses (child_wanted role) is) it → Contains used it) → KindIsThere s is
  child_there role kind.Int inside = All-nil IsThere
  child_there role kind.Bool inside = All-nil IsThere
  child_there role kind.Text inside = All-nil IsThere
  child_there Concrete (kind.Name name) inside =
      let is = meant.names name w.GrammarSymbol (inside (u.Name name w.GrammarSymbol) (contains_first (u.Name name w.GrammarSymbol) [])) in
      All-cons IsThere name [] (symbol_of name is.is is.there is.suits) (All-nil IsThere)
  child_there Abstract (kind.Name name) inside =
      let there : Contains s.terminals name ⊎ Contains s.nonterminals name =
      inr (nonterminal_there name (inside (u.Name name w.Nonterminal) (contains_first (u.Name name w.Nonterminal) []))) in
      All-cons IsThere name [] there (All-nil IsThere)

  -- what is written on a production whose labels these are
  module _ (labels : ProductionLabels) (production : List ℕ)
      (known : (name : List ℕ) (is : Labelled) → HasLabel declared production name is → Contains labels.names name) where
    label_there : (name : List ℕ) (wanted : LabelWanted) → Contains used (u.Label production name wanted) → Contains labels.names name
    label_there name wanted uses = let is = meant.labels production name wanted uses in known name is.is is.there

    pub node_there : (node : Node) → ((it : Usage) → Contains (node_uses production node) it → Contains used it) → NodeIsThere s labels node
    node_there (part.Label name) inside =
        label_there name l.Value (inside (u.Label production name l.Value) (contains_first (u.Label production name l.Value) []))
    node_there (part.Read name a) inside =
        let rest : List Usage = u.Label production name l.Tree ∷ u.Attribute production a (site.Label name) ∷ [] in (
          label_there name l.Tree (inside (u.Label production name l.Tree) (contains_later (u.Name a w.Synthesized) (u.Label production name l.Tree)
              rest (contains_first (u.Label production name l.Tree) (u.Attribute production a (site.Label name) ∷ [])))),
          synthesized_there a (inside (u.Name a w.Synthesized) (contains_first (u.Name a w.Synthesized) rest)),
        )
    node_there (part.Lexeme name) inside =
        label_there name l.Lexeme (inside (u.Label production name l.Lexeme) (contains_first (u.Label production name l.Lexeme) []))
    node_there (part.Top a) inside =
        inherited_there a (inside (u.Name a w.Inherited) (contains_first (u.Name a w.Inherited) (u.Attribute production a site.Top ∷ [])))
    node_there (part.Forward a) inside =
        synthesized_there a
        (inside (u.Name a w.Synthesized) (contains_first (u.Name a w.Synthesized) (u.Attribute production a site.Forward ∷ [])))
    node_there (part.Build name places) inside =
        production_there name (inside (u.Name name w.Production) (contains_first (u.Name name w.Production) []))
    node_there node inside = tt

    pub target_there : (to : Target) → ((it : Usage) → Contains (target_uses production to) it → Contains used it)
        → TargetIsThere s labels to
    target_there (g.Top a) inside =
        synthesized_there a (inside (u.Name a w.Synthesized) (contains_first (u.Name a w.Synthesized) (u.Attribute production a site.Top ∷ [])))
    target_there (g.Label name a) inside =
        let rest : List Usage = u.Label production name l.Tree ∷ u.Attribute production a (site.Label name) ∷ [] in (
          label_there name l.Tree (inside (u.Label production name l.Tree) (contains_later (u.Name a w.Inherited) (u.Label production name l.Tree)
              rest (contains_first (u.Label production name l.Tree) (u.Attribute production a (site.Label name) ∷ [])))),
          inherited_there a (inside (u.Name a w.Inherited) (contains_first (u.Name a w.Inherited) rest)),
        )
    target_there (g.Forward a) inside =
        inherited_there a (inside (u.Name a w.Inherited) (contains_first (u.Name a w.Inherited) (u.Attribute production a site.Forward ∷ [])))
    target_there (g.Local name nonterminal) inside =
        nonterminal_there nonterminal (inside (u.Name nonterminal w.Nonterminal) (contains_first (u.Name nonterminal w.Nonterminal) []))
    target_there g.ForwardsTo inside = tt

    pub equation_there : (q : Equation) → ((it : Usage) → Contains (equation_uses production q) it → Contains used it)
        → EquationIsThere s labels q
    equation_there q inside =
        let targets = target_uses production q.target in
        let nodes = flat_map (node_uses production) q.nodes in
        record {
          target = target_there q.target (λ it has. inside it (append_contains_left targets nodes it has));
          nodes = all_from_contained (NodeIsThere s labels) q.nodes (λ node there. node_there node
              (λ it has. inside it (append_contains_right targets nodes it (flat_map_contains (node_uses production) q.nodes node it there has))));
        }

  -- what an item of names alone declares
  pub needs_there : (nonterminal : List ℕ) (needs : List (List ℕ))
      → ((it : Usage) → Contains (flat_map (needs_uses nonterminal) needs) it → Contains used it) → All (Contains s.attributes) needs
  needs_there nonterminal needs inside = all_from_contained (Contains s.attributes) needs (λ a there. inherited_there a
      (inside (u.Name a w.Inherited) (flat_map_contains (needs_uses nonterminal) needs a (u.Name a w.Inherited) there
      (contains_first (u.Name a w.Inherited) (u.Needs a nonterminal ∷ [])))))

  pub plain_there : (plain : PlainForm) → ((it : Usage) → Contains (plain_uses plain) it → Contains used it) → PlainIsThere s plain
  plain_there (i.Prefer first second) inside =
      let a : Usage = u.Name first w.Lexical in
      let b : Usage = u.Name second w.Lexical in (
        terminal_there first (inside a (contains_first a (b ∷ []))),
        terminal_there second (inside b (contains_later a b (b ∷ []) (contains_first b []))),
      )
  plain_there (i.Synthesized name is) inside = kind_there is inside
  plain_there (i.Inherited name is) inside = kind_there is inside
  plain_there (i.Occurs attribute nonterminal None) inside =
      let a : Usage = u.Name attribute w.Attribute in
      let b : Usage = u.Name nonterminal w.Nonterminal in
      let is = meant.names attribute w.Attribute (inside a (contains_first a (b ∷ []))) in (
        has.attributes attribute is.direction is.there,
        nonterminal_there nonterminal (inside b (contains_later a b (b ∷ []) (contains_first b []))),
        All-nil (Contains s.attributes),
      )
  plain_there (i.Occurs attribute nonterminal (Some needs)) inside =
      let a : Usage = u.Name attribute w.Synthesized in
      let b : Usage = u.Name nonterminal w.Nonterminal in
      let rest = flat_map (needs_uses nonterminal) needs in (
        synthesized_there attribute (inside a (contains_first a (b ∷ rest))),
        nonterminal_there nonterminal (inside b (contains_later a b (b ∷ rest) (contains_first b rest))),
        needs_there nonterminal needs (λ it more. inside it (contains_later a it (b ∷ rest) (contains_later b it rest more))),
      )
  plain_there (i.Nonterminal name) inside = tt
  plain_there (i.Start name) inside = tt
  plain_there (i.Extensible name) inside = tt
  plain_there (i.Closed name) inside = tt
  plain_there (i.ForwardOn nonterminal needs) inside = tt

  pub form_there : (form : ItemForm Pattern) → ((it : Usage) → Contains (form_uses form) it → Contains used it) → FormIsThere s form
  form_there (f.Plain plain) inside = plain_there plain inside
  form_there (f.Lexical role name pattern) inside = tt
  form_there (f.Production role p) inside = tt
  form_there (f.Aspect name equations) inside = tt
