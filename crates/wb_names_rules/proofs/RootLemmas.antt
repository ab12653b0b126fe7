-- What comes with each declaration and each usage: a production with its left side and labels, and the names that are used beside it.
use Rattle.std.proofs.Common.{◌≡◌, ◌⊎◌, ◌∷◌, ◌++◌, [], ℕ, List, Option, Some, None, Contains, map, sym, ap, subst, inl, inr}
use Rattle.std.specs.List.{flat_map}
use Rattle.wb_lemmas.proofs.Elements.{all_contained}
use Rattle.wb_lemmas.proofs.Members.{contains_at, contains_first, contains_later, append_contains_left, append_contains_right}
use Rattle.wb_syntax_expressions.specs.declared.node.Node.TheVariants as n
use Rattle.wb_syntax_resolved.specs.declared.attributes.Attribute.{Attribute}
use Rattle.wb_syntax_resolved.specs.declared.attributes.Nonterminal.{Nonterminal}
use Rattle.wb_syntax_resolved.specs.declared.attributes.Occurrence.{Occurrence}
use Rattle.wb_syntax_resolved.specs.declared.equation.Equation as resolved_equation
use Rattle.wb_syntax_resolved.specs.declared.production.Child as resolved_child
use Rattle.wb_syntax_resolved.specs.declared.production.Forward.{Forward}
use Rattle.wb_syntax_resolved.specs.declared.production.Local.{Local}
use Rattle.wb_syntax_resolved.specs.declared.production.Production as resolved_production
use Rattle.wb_syntax_resolved.specs.declared.resolved.ResolvedParts.{ResolvedParts}
use Rattle.wb_syntax_resolved.specs.declared.terminal.Terminal.{Terminal}
use Rattle.wb_syntax_resolved.specs.declared.terminal.TerminalKind.{TerminalKind}
use Rattle.wb_syntax_resolved.specs.declared.terminal.TerminalKind.TheVariants as terminal
use Rattle.wb_syntax_resolved.specs.Named.{IsNamedProduction}
use Rattle.wb_syntax_resolved.specs.Resolved.{IsResolved}
use Rattle.wb_syntax.specs.declared.expression.Equation.{Equation}
use Rattle.wb_syntax.specs.declared.expression.Target.{Target}
use Rattle.wb_syntax.specs.declared.expression.Target.TheVariants as t
use Rattle.wb_syntax.specs.declared.item.Item.{Item}
use Rattle.wb_syntax.specs.declared.item.ItemForm.{ItemForm}
use Rattle.wb_syntax.specs.declared.item.ItemForm.TheVariants as f
use Rattle.wb_syntax.specs.declared.item.PlainForm.{PlainForm}
use Rattle.wb_syntax.specs.declared.item.PlainForm.TheVariants as i
use Rattle.wb_syntax.specs.declared.pattern.Pattern.{Pattern}
use Rattle.wb_syntax.specs.declared.pattern.Role.{Role}
use Rattle.wb_syntax.specs.declared.pattern.Role.TheVariants as r
use Rattle.wb_syntax.specs.declared.production.Child.{Child}
use Rattle.wb_syntax.specs.declared.production.NamedKind.{NamedKind}
use Rattle.wb_syntax.specs.declared.production.NamedKind.TheVariants as k
use Rattle.wb_syntax.specs.declared.production.Production.{Production}
use Rattle.wb_syntax.specs.Expression.{Node}
use Rattle.wb_names_theory.specs.declared.declaration.Declaration.{Declaration}
use Rattle.wb_names_theory.specs.declared.declaration.Declaration.TheVariants as d
use Rattle.wb_names_theory.specs.declared.declaration.Labelled.TheVariants as label
use Rattle.wb_names_theory.specs.declared.declaration.Site.{Site}
use Rattle.wb_names_theory.specs.declared.declaration.Site.TheVariants as site
use Rattle.wb_names_theory.specs.declared.declaration.Sort.{Sort}
use Rattle.wb_names_theory.specs.declared.declaration.Sort.TheVariants as sort
use Rattle.wb_names_theory.specs.declared.usage.LabelWanted.TheVariants as wanted
use Rattle.wb_names_theory.specs.declared.usage.Usage.{Usage}
use Rattle.wb_names_theory.specs.declared.usage.Usage.TheVariants as u
use Rattle.wb_names_theory.specs.declared.usage.Wanted.{Wanted}
use Rattle.wb_names_theory.specs.declared.usage.Wanted.TheVariants as w
use Rattle.wb_names_theory.specs.Declarations.{Items}
use Rattle.wb_names_theory.specs.Declares.{item_declarations, form_declarations, written_declarations, plain_declaration, child_declaration}
use Rattle.wb_names_theory.specs.Declares.{equation_declarations, target_declaration, role_sort, terminal_sort, base_declarations}
use Rattle.wb_names_theory.specs.Declares.{base_names}
use Rattle.wb_names_theory.specs.Declares.{production_declarations, nonterminal_name, name_in, base_labelled, forward_declarations}
use Rattle.wb_names_theory.specs.Declares.{target_attribute, target_site}
use Rattle.wb_names_theory.specs.Declares.{attribute_name}
use Rattle.wb_names_theory.specs.Meaning.{IsSymbol}
use Rattle.wb_names_theory.specs.Uses.{uses, form_uses, plain_uses, occurs_uses, needs_uses, kind_uses, equation_uses, target_uses}
use Rattle.wb_names_theory.specs.Uses.{node_uses}
use Rattle.wb_names_theory.specs.Uses.{child_wanted, read_uses}
use Rattle.wb_names_rules.proofs.StructureLemmas.{contains_map, contains_flat, each_append, each_map, each_flat, each_cons, each_none}

module _ (ds : List Declaration) (us : List Usage) where
  -- the production is declared, or a place asks for it
  abbrev pub IsKnownProduction : List ℕ → Type 0
  IsKnownProduction p = IsSymbol ds p sort.Production ⊎ Contains us (u.Name p w.Production)

  -- the left side of a production comes with its symbol
  abbrev pub HasLeftSide : List ℕ → Sort → Type 0
  HasLeftSide p sort.Production = (m : List ℕ) × Contains ds (d.Left p m)
  HasLeftSide p other = Unit {0}

  -- what comes with a declaration
  abbrev pub IsRooted : Declaration → Type 0
  IsRooted (d.Symbol p is) = HasLeftSide p is
  IsRooted (d.Left p m) = IsSymbol ds m sort.Nonterminal ⊎ Contains us (u.Name m w.Nonterminal)
  IsRooted (d.Label p l is) = IsKnownProduction p
  IsRooted other = Unit {0}

  -- the label of a tree whose attribute is used is used as one
  abbrev pub UsesTree : List ℕ → Site → Type 0
  UsesTree p (site.Label l) = Contains us (u.Label p l wanted.Tree)
  UsesTree p other = Unit {0}

  -- what comes with a usage
  abbrev pub IsGrounded : Usage → Type 0
  IsGrounded (u.Label p l is) = IsKnownProduction p
  IsGrounded (u.Attribute p a at) = IsKnownProduction p × UsesTree p at
  IsGrounded (u.Needs a m) = Contains us (u.Name m w.Nonterminal)
  IsGrounded other = Unit {0}

  -- no role is that of a production
  role_rooted : (role : Role) (name : List ℕ) → HasLeftSide name (role_sort role)
  role_rooted r.Terminal name = tt
  role_rooted r.Ignore name = tt
  role_rooted r.Marking name = tt

  plain_rooted : (plain : PlainForm) → IsRooted (plain_declaration plain)
  plain_rooted (i.Prefer a b) = tt
  plain_rooted (i.Nonterminal a) = tt
  plain_rooted (i.Start a) = tt
  plain_rooted (i.Extensible a) = tt
  plain_rooted (i.Closed a) = tt
  plain_rooted (i.Synthesized a b) = tt
  plain_rooted (i.Inherited a b) = tt
  plain_rooted (i.Occurs a b c) = tt
  plain_rooted (i.ForwardOn a b) = tt

  target_rooted : (p : List ℕ) → IsKnownProduction p → (target : Target) → IsRooted (target_declaration p target)
  target_rooted p known (t.Top a) = tt
  target_rooted p known (t.Label l a) = tt
  target_rooted p known (t.Forward a) = tt
  target_rooted p known (t.Local l m) = known
  target_rooted p known t.ForwardsTo = tt

  equations_rooted : (p : List ℕ) → IsKnownProduction p → (es : List Equation) → (one : Declaration) → Contains (equation_declarations p es) one
      → IsRooted one
  equations_rooted p known es =
      each_map IsRooted (λ (e : Equation). target_declaration p e.target) es (λ e there. target_rooted p known e.target)

  production_rooted : (p : Production) → IsSymbol ds p.name sort.Production → Contains ds (d.Left p.name p.left)
      → Contains us (u.Name p.left w.Nonterminal) → (one : Declaration) → Contains (written_declarations p) one → IsRooted one
  production_rooted p here left used =
      each_cons IsRooted (d.Symbol p.name sort.Production)
      (d.Left p.name p.left ∷ (map (child_declaration p.name) p.children ++ equation_declarations p.name p.equations)) (p.left, left)
      (each_cons IsRooted (d.Left p.name p.left) (map (child_declaration p.name) p.children ++ equation_declarations p.name p.equations) (inr used)
      (each_append IsRooted (map (child_declaration p.name) p.children) (equation_declarations p.name p.equations)
      (each_map IsRooted (child_declaration p.name) p.children (λ c there. inl here)) (equations_rooted p.name (inl here) p.equations)))

  form_rooted : (form : ItemForm Pattern) → ((one : Declaration) → Contains (form_declarations form) one → Contains ds one)
      → ((usage : Usage) → Contains (form_uses form) usage → Contains us usage) → (one : Declaration) → Contains (form_declarations form) one
      → IsRooted one
  form_rooted (f.Lexical role name pattern) sub use_of =
      each_cons IsRooted (d.Symbol name (role_sort role)) [] (role_rooted role name) (each_none IsRooted)
  form_rooted (f.Plain plain) sub use_of = each_cons IsRooted (plain_declaration plain) [] (plain_rooted plain) (each_none IsRooted)
  form_rooted (f.Production role p) sub use_of =
      let more = d.Left p.name p.left ∷ (map (child_declaration p.name) p.children ++ equation_declarations p.name p.equations) in
      production_rooted p (sub (d.Symbol p.name sort.Production) (contains_first (d.Symbol p.name sort.Production) more))
      (sub (d.Left p.name p.left) (contains_later (d.Symbol p.name sort.Production) (d.Left p.name p.left) more
      (contains_first (d.Left p.name p.left) (map (child_declaration p.name) p.children ++ equation_declarations p.name p.equations))))
      (use_of (u.Name p.left w.Nonterminal) (contains_first (u.Name p.left w.Nonterminal)
      (flat_map (λ (c : Child). kind_uses (child_wanted role) c.kind) p.children ++ flat_map (equation_uses p.name) p.equations)))
  form_rooted (f.Aspect name es) sub use_of =
      equations_rooted name (inr (use_of (u.Name name w.Production) (contains_first (u.Name name w.Production) (flat_map (equation_uses name) es)))) es

  pub items_rooted : (items : Items) → ((one : Declaration) → Contains (item_declarations items) one → Contains ds one)
      → ((usage : Usage) → Contains (uses items) usage → Contains us usage) → (one : Declaration) → Contains (item_declarations items) one
      → IsRooted one
  items_rooted items sub use_of =
      each_flat IsRooted (λ (item : Item Pattern). form_declarations item.form) items (λ item there. form_rooted item.form
      (λ one has. sub one (contains_flat (λ (item : Item Pattern). form_declarations item.form) items item one there has))
      (λ usage has. use_of usage (contains_flat (λ (item : Item Pattern). form_uses item.form) items item usage there has)))

  -- usages
  kind_grounded : (is : Wanted) (named : NamedKind) → (usage : Usage) → Contains (kind_uses is named) usage → IsGrounded usage
  kind_grounded is k.Int = each_none IsGrounded
  kind_grounded is k.Bool = each_none IsGrounded
  kind_grounded is k.Text = each_none IsGrounded
  kind_grounded is (k.Name name) = each_cons IsGrounded (u.Name name is) [] tt (each_none IsGrounded)

  need_grounded : (m a : List ℕ) → Contains us (u.Name m w.Nonterminal) → (usage : Usage) → Contains (needs_uses m a) usage → IsGrounded usage
  need_grounded m a used =
      each_cons IsGrounded (u.Name a w.Inherited) (u.Needs a m ∷ []) tt (each_cons IsGrounded (u.Needs a m) [] used (each_none IsGrounded))

  occurs_grounded : (a m : List ℕ) (needs : Option (List (List ℕ))) → ((usage : Usage) → Contains (occurs_uses a m needs) usage → Contains us usage)
      → (usage : Usage) → Contains (occurs_uses a m needs) usage → IsGrounded usage
  occurs_grounded a m None use_of =
      each_cons IsGrounded (u.Name a w.Attribute) (u.Name m w.Nonterminal ∷ []) tt
      (each_cons IsGrounded (u.Name m w.Nonterminal) [] tt (each_none IsGrounded))
  occurs_grounded a m (Some needs) use_of =
      let more = flat_map (needs_uses m) needs in
      let used = use_of (u.Name m w.Nonterminal) (contains_later (u.Name a w.Synthesized) (u.Name m w.Nonterminal) (u.Name m w.Nonterminal ∷ more)
      (contains_first (u.Name m w.Nonterminal) more)) in
      each_cons IsGrounded (u.Name a w.Synthesized) (u.Name m w.Nonterminal ∷ more) tt (each_cons IsGrounded (u.Name m w.Nonterminal) more tt
      (each_flat IsGrounded (needs_uses m) needs (λ b there. need_grounded m b used)))

  plain_grounded : (plain : PlainForm) → ((usage : Usage) → Contains (plain_uses plain) usage → Contains us usage) → (usage : Usage)
      → Contains (plain_uses plain) usage → IsGrounded usage
  plain_grounded (i.Prefer a b) use_of =
      each_cons IsGrounded (u.Name a w.Lexical) (u.Name b w.Lexical ∷ []) tt (each_cons IsGrounded (u.Name b w.Lexical) [] tt (each_none IsGrounded))
  plain_grounded (i.Nonterminal a) use_of = each_none IsGrounded
  plain_grounded (i.Start a) use_of = each_cons IsGrounded (u.Name a w.Nonterminal) [] tt (each_none IsGrounded)
  plain_grounded (i.Extensible a) use_of = each_cons IsGrounded (u.Name a w.Nonterminal) [] tt (each_none IsGrounded)
  plain_grounded (i.Closed a) use_of = each_cons IsGrounded (u.Name a w.Nonterminal) [] tt (each_none IsGrounded)
  plain_grounded (i.Synthesized a b) use_of = kind_grounded w.Nonterminal b
  plain_grounded (i.Inherited a b) use_of = kind_grounded w.Nonterminal b
  plain_grounded (i.Occurs a b c) use_of = occurs_grounded a b c use_of
  plain_grounded (i.ForwardOn m needs) use_of =
      let used = use_of (u.Name m w.Nonterminal) (contains_first (u.Name m w.Nonterminal) (flat_map (needs_uses m) needs)) in
      each_cons IsGrounded (u.Name m w.Nonterminal) (flat_map (needs_uses m) needs) tt
      (each_flat IsGrounded (needs_uses m) needs (λ b there. need_grounded m b used))

  module _ (p : List ℕ) (known : IsKnownProduction p) where
    name_attribute : (name a : List ℕ) (is : Wanted) (at : Site) → UsesTree p at → (usage : Usage)
        → Contains (u.Name name is ∷ u.Attribute p a at ∷ []) usage → IsGrounded usage
    name_attribute name a is at tree =
        each_cons IsGrounded (u.Name name is) (u.Attribute p a at ∷ []) tt
        (each_cons IsGrounded (u.Attribute p a at) [] (known, tree) (each_none IsGrounded))

    name_read : (name l a : List ℕ) (is : Wanted) → Contains us (u.Label p l wanted.Tree) → (usage : Usage)
        → Contains (u.Name name is ∷ read_uses p l a) usage → IsGrounded usage
    name_read name l a is tree =
        each_cons IsGrounded (u.Name name is) (read_uses p l a) tt (each_cons IsGrounded (u.Label p l wanted.Tree) (u.Attribute p a (site.Label l) ∷ [])
        known (each_cons IsGrounded (u.Attribute p a (site.Label l)) [] (known, tree) (each_none IsGrounded)))

    second_used : (first : Usage) (l a : List ℕ) → ((usage : Usage) → Contains (first ∷ read_uses p l a) usage → Contains us usage)
        → Contains us (u.Label p l wanted.Tree)
    second_used first l a use_of =
        use_of (u.Label p l wanted.Tree) (contains_later first (u.Label p l wanted.Tree) (read_uses p l a)
        (contains_first (u.Label p l wanted.Tree) (u.Attribute p a (site.Label l) ∷ [])))

    target_grounded : (target : Target) → ((usage : Usage) → Contains (target_uses p target) usage → Contains us usage) → (usage : Usage)
        → Contains (target_uses p target) usage → IsGrounded usage
    target_grounded (t.Top a) use_of = name_attribute a a w.Synthesized site.Top tt
    target_grounded (t.Label l a) use_of = name_read a l a w.Inherited (second_used (u.Name a w.Inherited) l a use_of)
    target_grounded (t.Forward a) use_of = name_attribute a a w.Inherited site.Forward tt
    target_grounded (t.Local l m) use_of = each_cons IsGrounded (u.Name m w.Nonterminal) [] tt (each_none IsGrounded)
    target_grounded t.ForwardsTo use_of = each_none IsGrounded

    node_grounded : (node : Node) → ((usage : Usage) → Contains (node_uses p node) usage → Contains us usage) → (usage : Usage)
        → Contains (node_uses p node) usage → IsGrounded usage
    node_grounded (n.Label l) use_of = each_cons IsGrounded (u.Label p l wanted.Value) [] known (each_none IsGrounded)
    node_grounded (n.Read l a) use_of = name_read a l a w.Synthesized (second_used (u.Name a w.Synthesized) l a use_of)
    node_grounded (n.Lexeme l) use_of = each_cons IsGrounded (u.Label p l wanted.Lexeme) [] known (each_none IsGrounded)
    node_grounded (n.Top a) use_of = name_attribute a a w.Inherited site.Top tt
    node_grounded (n.Forward a) use_of = name_attribute a a w.Synthesized site.Forward tt
    node_grounded (n.Build name children) use_of = each_cons IsGrounded (u.Name name w.Production) [] tt (each_none IsGrounded)
    node_grounded node use_of = each_none IsGrounded

    equation_grounded : (e : Equation) → ((usage : Usage) → Contains (equation_uses p e) usage → Contains us usage) → (usage : Usage)
        → Contains (equation_uses p e) usage → IsGrounded usage
    equation_grounded e use_of =
        each_append IsGrounded (target_uses p e.target) (flat_map (node_uses p) e.nodes)
        (target_grounded e.target (λ usage has. use_of usage (append_contains_left (target_uses p e.target) (flat_map (node_uses p) e.nodes) usage has)))
        (each_flat IsGrounded (node_uses p) e.nodes (λ node there. node_grounded node (λ usage has. use_of usage
        (append_contains_right (target_uses p e.target) (flat_map (node_uses p) e.nodes) usage
        (contains_flat (node_uses p) e.nodes node usage there has)))))

    equations_grounded : (es : List Equation) → ((usage : Usage) → Contains (flat_map (equation_uses p) es) usage → Contains us usage)
        → (usage : Usage) → Contains (flat_map (equation_uses p) es) usage → IsGrounded usage
    equations_grounded es use_of =
        each_flat IsGrounded (equation_uses p) es (λ e there. equation_grounded e (λ usage has. use_of usage
        (contains_flat (equation_uses p) es e usage there has)))

  form_grounded : (form : ItemForm Pattern) → ((one : Declaration) → Contains (form_declarations form) one → Contains ds one)
      → ((usage : Usage) → Contains (form_uses form) usage → Contains us usage) → (usage : Usage) → Contains (form_uses form) usage
      → IsGrounded usage
  form_grounded (f.Lexical role name pattern) sub use_of = each_none IsGrounded
  form_grounded (f.Plain plain) sub use_of = plain_grounded plain use_of
  form_grounded (f.Production role p) sub use_of =
      let children = flat_map (λ (c : Child). kind_uses (child_wanted role) c.kind) p.children in
      let rest = flat_map (equation_uses p.name) p.equations in
      let here = sub (d.Symbol p.name sort.Production) (contains_first (d.Symbol p.name sort.Production)
      (d.Left p.name p.left ∷ (map (child_declaration p.name) p.children ++ equation_declarations p.name p.equations))) in
      each_cons IsGrounded (u.Name p.left w.Nonterminal) (children ++ rest) tt (each_append IsGrounded children rest
      (each_flat IsGrounded (λ (c : Child). kind_uses (child_wanted role) c.kind) p.children (λ c there. kind_grounded (child_wanted role) c.kind))
      (equations_grounded p.name (inl here) p.equations (λ usage has. use_of usage
      (contains_later (u.Name p.left w.Nonterminal) usage (children ++ rest) (append_contains_right children rest usage has)))))
  form_grounded (f.Aspect name es) sub use_of =
      let here = use_of (u.Name name w.Production) (contains_first (u.Name name w.Production) (flat_map (equation_uses name) es)) in
      each_cons IsGrounded (u.Name name w.Production) (flat_map (equation_uses name) es) tt (equations_grounded name (inr here) es
      (λ usage has. use_of usage (contains_later (u.Name name w.Production) usage (flat_map (equation_uses name) es) has)))

  pub items_grounded : (items : Items) → ((one : Declaration) → Contains (item_declarations items) one → Contains ds one)
      → ((usage : Usage) → Contains (uses items) usage → Contains us usage) → (usage : Usage) → Contains (uses items) usage → IsGrounded usage
  items_grounded items sub use_of =
      each_flat IsGrounded (λ (item : Item Pattern). form_uses item.form) items (λ item there. form_grounded item.form
      (λ one has. sub one (contains_flat (λ (item : Item Pattern). form_declarations item.form) items item one there has))
      (λ usage has. use_of usage (contains_flat (λ (item : Item Pattern). form_uses item.form) items item usage there has)))

  -- what a base declares
  terminal_rooted : (is : TerminalKind) (name : List ℕ) → HasLeftSide name (terminal_sort is)
  terminal_rooted terminal.Plain name = tt
  terminal_rooted terminal.Ignore name = tt
  terminal_rooted terminal.Marking name = tt

  forward_rooted : (p : List ℕ) (forward : Option Forward) → (one : Declaration) → Contains (forward_declarations p forward) one → IsRooted one
  forward_rooted p None = each_none IsRooted
  forward_rooted p (Some forward) = each_cons IsRooted (d.Forward p) [] tt (each_none IsRooted)

  module _ (base : ResolvedParts) (resolved : IsResolved base)
      (sub : (one : Declaration) → Contains (base_declarations base) one → Contains ds one) where
    -- the parts of what a base declares
    abbrev terminals_of : List Declaration
    terminals_of = map (λ (x : Terminal). d.Symbol x.name (terminal_sort x.kind)) base.terminals

    abbrev nonterminals_of : List Declaration
    nonterminals_of = map (λ (x : Nonterminal). d.Symbol x.name sort.Nonterminal) base.attributes.nonterminals

    abbrev attributes_of : List Declaration
    attributes_of = map (λ (x : Attribute). d.Attribute x.name x.direction) base.attributes.attributes

    abbrev occurrences_of : List Declaration
    occurrences_of = map (λ (x : Occurrence). d.Occurrence (attribute_name base x.attribute) (nonterminal_name base x.nonterminal)) base.attributes.occurrences

    abbrev productions_of : List Declaration
    productions_of = flat_map (production_declarations base) base.attributes.productions

    -- a nonterminal of the base is declared
    nonterminal_there : (x : Nonterminal) → Contains base.attributes.nonterminals x → IsSymbol ds x.name sort.Nonterminal
    nonterminal_there x has =
        sub (d.Symbol x.name sort.Nonterminal) (append_contains_left (base_names base ++ occurrences_of) productions_of (d.Symbol x.name sort.Nonterminal)
        (append_contains_left (base_names base) occurrences_of (d.Symbol x.name sort.Nonterminal) (append_contains_left (terminals_of ++ nonterminals_of) attributes_of
        (d.Symbol x.name sort.Nonterminal) (append_contains_right terminals_of nonterminals_of (d.Symbol x.name sort.Nonterminal)
        (contains_map (λ (x : Nonterminal). d.Symbol x.name sort.Nonterminal) base.attributes.nonterminals x has)))))

    base_production_rooted : (p : resolved_production.Production) → Contains base.attributes.productions p
        → (one : Declaration) → Contains (production_declarations base p) one → IsRooted one
    base_production_rooted p has =
        let named = all_contained (IsNamedProduction base.attributes) base.attributes.productions p resolved.attributes.named.productions has in
        let l = named.left in
        let name : nonterminal_name base p.left ≡ l.nonterminal.name = ap (name_in (λ (x : Nonterminal). x.name)) l.is in
        let left_there = nonterminal_there l.nonterminal (contains_at base.attributes.nonterminals l.nonterminal p.left l.is) in
        let children = map (λ (c : resolved_child.Child). d.Label p.name c.label (base_labelled base c.kind)) p.children in
        let locals = map (λ (x : Local). d.Label p.name x.label (label.Local (nonterminal_name base x.nonterminal))) p.locals in
        let forward = forward_declarations p.name p.forward in
        let equations =
        map (λ (e : resolved_equation.Equation). d.Equation p.name (target_attribute base e.target) (target_site p e.target)) p.equations in
        let more = ((children ++ locals) ++ forward) ++ equations in
        let there = λ (one : Declaration) (at : Contains (production_declarations base p) one).
        sub one (append_contains_right (base_names base ++ occurrences_of) productions_of one
        (contains_flat (production_declarations base) base.attributes.productions p one has at)) in
        let here = there (d.Symbol p.name sort.Production) (contains_first (d.Symbol p.name sort.Production)
        (d.Left p.name (nonterminal_name base p.left) ∷ more)) in
        let left = there (d.Left p.name (nonterminal_name base p.left)) (contains_later (d.Symbol p.name sort.Production)
        (d.Left p.name (nonterminal_name base p.left)) (d.Left p.name (nonterminal_name base p.left) ∷ more)
        (contains_first (d.Left p.name (nonterminal_name base p.left)) more)) in
        each_cons IsRooted (d.Symbol p.name sort.Production) (d.Left p.name (nonterminal_name base p.left) ∷ more)
        (nonterminal_name base p.left, left)
        (each_cons IsRooted (d.Left p.name (nonterminal_name base p.left)) more
        (inl (subst (λ (m : List ℕ). IsSymbol ds m sort.Nonterminal) (sym name) left_there))
        (each_append IsRooted ((children ++ locals) ++ forward) equations (each_append IsRooted (children ++ locals) forward
        (each_append IsRooted children locals
        (each_map IsRooted (λ (c : resolved_child.Child). d.Label p.name c.label (base_labelled base c.kind)) p.children (λ c z. inl here))
        (each_map IsRooted (λ (x : Local). d.Label p.name x.label (label.Local (nonterminal_name base x.nonterminal))) p.locals (λ x z. inl here)))
        (forward_rooted p.name p.forward))
        (each_map IsRooted (λ (e : resolved_equation.Equation). d.Equation p.name (target_attribute base e.target) (target_site p e.target))
        p.equations (λ e z. tt))))

    pub base_rooted : (one : Declaration) → Contains (base_declarations base) one → IsRooted one
    base_rooted =
        each_append IsRooted (base_names base ++ occurrences_of) productions_of (each_append IsRooted (base_names base) occurrences_of (each_append IsRooted (terminals_of ++ nonterminals_of) attributes_of
        (each_append IsRooted terminals_of nonterminals_of
        (each_map IsRooted (λ (x : Terminal). d.Symbol x.name (terminal_sort x.kind)) base.terminals (λ x z. terminal_rooted x.kind x.name))
        (each_map IsRooted (λ (x : Nonterminal). d.Symbol x.name sort.Nonterminal) base.attributes.nonterminals (λ x z. tt)))
        (each_map IsRooted (λ (x : Attribute). d.Attribute x.name x.direction) base.attributes.attributes (λ x z. tt)))
        (each_map IsRooted (λ (x : Occurrence). d.Occurrence (attribute_name base x.attribute) (nonterminal_name base x.nonterminal))
        base.attributes.occurrences (λ x z. tt)))
        (each_flat IsRooted (production_declarations base) base.attributes.productions (λ p there. base_production_rooted p there))
