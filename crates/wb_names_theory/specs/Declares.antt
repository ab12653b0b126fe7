-- What the items of a file declare, and what a base declares: what is there before the items, which is a resolved host, or nothing.
use Rattle.std.specs.Prelude.{ℕ, List, [], ◌∷◌, ◌++◌, Option, Some, None, cond, filter_map, map, flat_map, slice_get}
use Rattle.wb_base.specs.declared.symbol.Kind.TheVariants as kind
use Rattle.wb_syntax_resolved.specs.declared.attributes.Attribute.{Attribute}
use Rattle.wb_syntax_resolved.specs.declared.attributes.Direction.TheVariants.{Synthesized, Inherited}
use Rattle.wb_syntax_resolved.specs.declared.attributes.Nonterminal.{Nonterminal}
use Rattle.wb_syntax_resolved.specs.declared.attributes.Occurrence.{Occurrence}
use Rattle.wb_syntax_resolved.specs.declared.equation.Equation as resolved_equation
use Rattle.wb_syntax_resolved.specs.declared.equation.Place.{Place}
use Rattle.wb_syntax_resolved.specs.declared.equation.Place.TheVariants as place
use Rattle.wb_syntax_resolved.specs.declared.equation.Target as resolved_target
use Rattle.wb_syntax_resolved.specs.declared.equation.Target.TheVariants as target
use Rattle.wb_syntax_resolved.specs.declared.production.Child as resolved_child
use Rattle.wb_syntax_resolved.specs.declared.production.ChildKind.{ChildKind}
use Rattle.wb_syntax_resolved.specs.declared.production.ChildKind.TheVariants as child
use Rattle.wb_syntax_resolved.specs.declared.production.Forward.{Forward}
use Rattle.wb_syntax_resolved.specs.declared.production.Local.{Local}
use Rattle.wb_syntax_resolved.specs.declared.production.Production as resolved_production
use Rattle.wb_syntax_resolved.specs.declared.resolved.ResolvedParts.{ResolvedParts}
use Rattle.wb_syntax_resolved.specs.declared.terminal.Terminal.{Terminal}
use Rattle.wb_syntax_resolved.specs.declared.terminal.TerminalKind.{TerminalKind}
use Rattle.wb_syntax_resolved.specs.declared.terminal.TerminalKind.TheVariants as terminal
use Rattle.wb_syntax.specs.declared.expression.Equation.{Equation}
use Rattle.wb_syntax.specs.declared.expression.Target.{Target}
use Rattle.wb_syntax.specs.declared.expression.Target.TheVariants as t
use Rattle.wb_syntax.specs.declared.item.Item.{Item}
use Rattle.wb_syntax.specs.declared.item.ItemForm.{ItemForm}
use Rattle.wb_syntax.specs.declared.item.ItemForm.TheVariants as f
use Rattle.wb_syntax.specs.declared.item.PlainForm.{PlainForm}
use Rattle.wb_syntax.specs.declared.item.PlainForm.TheVariants as i
use Rattle.wb_syntax.specs.declared.pattern.Pattern.{Pattern}
use Rattle.wb_syntax.specs.declared.pattern.Role.{Role}
use Rattle.wb_syntax.specs.declared.pattern.Role.TheVariants as r
use Rattle.wb_syntax.specs.declared.production.Child.{Child}
use Rattle.wb_syntax.specs.declared.production.NamedKind.{NamedKind}
use Rattle.wb_syntax.specs.declared.production.NamedKind.TheVariants as k
use Rattle.wb_syntax.specs.declared.production.Production.{Production}
use Rattle.wb_names_theory.specs.declared.declaration.Declaration.{Declaration}
use Rattle.wb_names_theory.specs.declared.declaration.Declaration.TheVariants as d
use Rattle.wb_names_theory.specs.declared.declaration.Labelled.{Labelled}
use Rattle.wb_names_theory.specs.declared.declaration.Labelled.TheVariants as label
use Rattle.wb_names_theory.specs.declared.declaration.Site.{Site}
use Rattle.wb_names_theory.specs.declared.declaration.Site.TheVariants as site
use Rattle.wb_names_theory.specs.declared.declaration.Sort.{Sort}
use Rattle.wb_names_theory.specs.declared.declaration.Sort.TheVariants as sort
use Rattle.wb_names_theory.specs.Declarations.{Items}

-- what a terminal, layout or marker is declared as
abbrev pub role_sort : Role → Sort
role_sort r.Terminal = sort.Terminal
role_sort r.Ignore = sort.Layout
role_sort r.Marking = sort.Marker

-- what an item of names alone declares
abbrev pub plain_declaration : PlainForm → Declaration
plain_declaration (i.Prefer first second) = d.Preference first second
plain_declaration (i.Nonterminal name) = d.Symbol name sort.Nonterminal
plain_declaration (i.Start name) = d.Start name
plain_declaration (i.Extensible name) = d.Extensible name
plain_declaration (i.Closed name) = d.Closed name
plain_declaration (i.Synthesized name kind) = d.Attribute name Synthesized
plain_declaration (i.Inherited name kind) = d.Attribute name Inherited
plain_declaration (i.Occurs attribute nonterminal needs) = d.Occurrence attribute nonterminal
plain_declaration (i.ForwardOn nonterminal needs) = d.ForwardNeeds nonterminal

-- what a child is
abbrev pub labelled : NamedKind → Labelled
labelled k.Int = label.Plain
labelled k.Bool = label.Plain
labelled k.Text = label.Plain
labelled (k.Name name) = label.Child name

-- what a child of a production declares
abbrev pub child_declaration : List ℕ → Child → Declaration
child_declaration production c = d.Label production c.label (labelled c.kind)

-- what an equation on a production declares, by what it is for
abbrev pub target_declaration : List ℕ → Target → Declaration
target_declaration production (t.Top attribute) = d.Equation production attribute site.Top
target_declaration production (t.Label l attribute) = d.Equation production attribute (site.Label l)
target_declaration production (t.Forward attribute) = d.Equation production attribute site.Forward
target_declaration production (t.Local l nonterminal) = d.Label production l (label.Local nonterminal)
target_declaration production t.ForwardsTo = d.Forward production

-- what equations on a production declare
abbrev pub equation_declarations : List ℕ → List Equation → List Declaration
equation_declarations production equations = map (λ (e : Equation). target_declaration production e.target) equations

-- what a production declares
abbrev pub written_declarations : Production → List Declaration
written_declarations p =
    d.Symbol p.name sort.Production ∷ d.Left p.name p.left
    ∷ (map (child_declaration p.name) p.children ++ equation_declarations p.name p.equations)

-- what an item declares
abbrev pub form_declarations : ItemForm Pattern → List Declaration
form_declarations (f.Lexical role name pattern) = d.Symbol name (role_sort role) ∷ []
form_declarations (f.Plain plain) = plain_declaration plain ∷ []
form_declarations (f.Production role p) = written_declarations p
form_declarations (f.Aspect name equations) = equation_declarations name equations

-- what items declare
abbrev pub item_declarations : Items → List Declaration
item_declarations items = flat_map (λ (item : Item Pattern). form_declarations item.form) items

-- the name of what is there
abbrev pub name_in : {X : Type 0} → (X → List ℕ) → Option X → List ℕ
name_in name None = []
name_in name (Some x) = name x

-- what a resolved terminal is declared as
abbrev pub terminal_sort : TerminalKind → Sort
terminal_sort terminal.Plain = sort.Terminal
terminal_sort terminal.Ignore = sort.Layout
terminal_sort terminal.Marking = sort.Marker

-- the label of a place of a production
abbrev pub label_at : resolved_production.Production → Place → List ℕ
label_at p (place.Child n) = name_in (λ (c : resolved_child.Child). c.label) (slice_get p.children n)
label_at p (place.Local n) = name_in (λ (l : Local). l.label) (slice_get p.locals n)

-- the tree of which an equation of a resolved production gives an attribute
abbrev pub target_site : resolved_production.Production → resolved_target.Target → Site
target_site p (target.Top a) = site.Top
target_site p (target.Place at a) = site.Label (label_at p at)
target_site p (target.Forward a) = site.Forward

-- that a resolved production forwards, where it does
abbrev pub forward_declarations : List ℕ → Option Forward → List Declaration
forward_declarations production None = []
forward_declarations production (Some forward) = d.Forward production ∷ []

module _ (base : ResolvedParts) where
  -- the names of a base's terminals, nonterminals and attributes, by number
  abbrev pub terminal_name : ℕ → List ℕ
  terminal_name n = name_in (λ (x : Terminal). x.name) (slice_get base.terminals n)

  abbrev pub nonterminal_name : ℕ → List ℕ
  nonterminal_name n = name_in (λ (x : Nonterminal). x.name) (slice_get base.attributes.nonterminals n)

  abbrev pub attribute_name : ℕ → List ℕ
  attribute_name n = name_in (λ (x : Attribute). x.name) (slice_get base.attributes.attributes n)

  -- what a child of a base's production is
  abbrev pub base_labelled : ChildKind → Labelled
  base_labelled (child.Terminal n) = label.Child (terminal_name n)
  base_labelled (child.Value (kind.Tree n)) = label.Child (nonterminal_name n)
  base_labelled (child.Value other) = label.Plain

  -- the attribute that an equation of a base's production is for
  abbrev pub target_attribute : resolved_target.Target → List ℕ
  target_attribute (target.Top a) = attribute_name a
  target_attribute (target.Place at a) = attribute_name a
  target_attribute (target.Forward a) = attribute_name a

  -- what a base's production declares
  abbrev pub production_declarations : resolved_production.Production → List Declaration
  production_declarations p =
      d.Symbol p.name sort.Production ∷ d.Left p.name (nonterminal_name p.left)
      ∷ (map (λ (c : resolved_child.Child). d.Label p.name c.label (base_labelled c.kind)) p.children
      ++ map (λ (l : Local). d.Label p.name l.label (label.Local (nonterminal_name l.nonterminal))) p.locals
      ++ forward_declarations p.name p.forward
      ++ map (λ (e : resolved_equation.Equation). d.Equation p.name (target_attribute e.target) (target_site p e.target)) p.equations)

  -- the names that a base declares beside its productions
  abbrev pub base_names : List Declaration
  base_names =
      map (λ (x : Terminal). d.Symbol x.name (terminal_sort x.kind)) base.terminals
      ++ map (λ (x : Nonterminal). d.Symbol x.name sort.Nonterminal) base.attributes.nonterminals
      ++ map (λ (x : Attribute). d.Attribute x.name x.direction) base.attributes.attributes

  -- what a base declares: all but its start, extensible and closed nonterminals, preferences and flow types of forwards, which don't count
  -- for others
  abbrev pub base_declarations : List Declaration
  base_declarations =
      base_names
      ++ map (λ (x : Occurrence). d.Occurrence (attribute_name x.attribute) (nonterminal_name x.nonterminal)) base.attributes.occurrences
      ++ flat_map production_declarations base.attributes.productions

-- the name of a nonterminal that is closed
abbrev pub closed_name : Nonterminal → Option (List ℕ)
closed_name x = cond x.closed (Some x.name) None

-- the names of a base's closed nonterminals, which count for an extension's occurrences alone
abbrev pub closed_names : ResolvedParts → List (List ℕ)
closed_names base = filter_map closed_name base.attributes.nonterminals

-- what is declared in a base and by the items of a file
abbrev pub declarations : ResolvedParts → Items → List Declaration
declarations base items = base_declarations base ++ item_declarations items
