-- What a base's production names is in tables of the base's length.
use Rattle.std.proofs.Common.{◌≡◌, ◌<◌, ℕ, List, [], Option, Some, None, All, Contains, length, sym, refl, subst, ◌∙◌}
use Rattle.std.specs.Prelude.{IfSome, option_to_list}
use Rattle.std.proofs.lemmas.List.{length-map}
use Rattle.std.proofs.lemmas.List.Elements.{All-nil, All-cons}
use Rattle.std.proofs.lemmas.Option.{slice_get_within}
use Rattle.wb_lemmas.proofs.Elements.{all_contained, all_from_contained, all_weaker}
use Rattle.wb_syntax_resolved.specs.declared.attributes.Nonterminal.{Nonterminal}
use Rattle.wb_syntax_resolved.specs.declared.production.Child.{Child}
use Rattle.wb_syntax_resolved.specs.declared.production.ChildKind.{ChildKind}
use Rattle.wb_syntax_resolved.specs.declared.production.ChildKind.TheVariants as child
use Rattle.wb_syntax_resolved.specs.declared.production.Forward.{Forward}
use Rattle.wb_syntax_resolved.specs.declared.production.Production.{Production}
use Rattle.wb_syntax_resolved.specs.declared.production.ProductionRole.{ProductionRole}
use Rattle.wb_syntax_resolved.specs.declared.production.ProductionRole.TheVariants.{Concrete, Abstract}
use Rattle.wb_syntax_resolved.specs.declared.terminal.Terminal.{Terminal}
use Rattle.wb_syntax_resolved.specs.Expression.{Node}
use Rattle.wb_syntax_resolved.specs.Named.{IsNamedProduction, IsNamedChild, IsChildKindOf, IsNamedLocal, IsNamedEquation, IsNamedExpression}
use Rattle.wb_syntax_resolved.specs.Named.{IsNamedNode}
use Rattle.wb_syntax_resolved.specs.Resolved.{IsResolved, HasGrammarTerminals, IsTerminalChild}
use Rattle.wb_syntax_resolved.specs.Visible.{SeesKind}
use Rattle.wb_names_numbers_theory.specs.Files.{File}
use Rattle.wb_names_numbers_theory.specs.Numbering.{numbering_of}
use Rattle.wb_names_rows.specs.declared.moves.Moves.{Moves}
use Rattle.wb_names_rows.specs.declared.scope.Scope.{Scope}
use Rattle.wb_names_rows.specs.Moves.{ChildKindIsWithin, EquationIsWithin, LocalIsWithin, NodeIsWithin}
use Rattle.wb_names_rows.proofs.BaseWithin.{node_within, nonterminal_within, kind_within}
use Rattle.wb_names_symbols.specs.Symbols.{AreTables}

module _ (file : File) (s : Scope) (m : Moves) (tables : AreTables file s m) (base : IsResolved file.base) (p : Production)
    (has : Contains file.base.attributes.productions p) where
  named : IsNamedProduction file.base.attributes p
  named = all_contained (IsNamedProduction file.base.attributes) file.base.attributes.productions p base.attributes.named.productions has

  count_productions : length m.productions.items ≡ length file.base.attributes.productions
  count_productions = tables.productions.len ∙ length-map file.base.attributes.productions (λ (x : Production). x.name)

  count_nonterminals : length m.nonterminals.items ≡ length file.base.attributes.nonterminals
  count_nonterminals = tables.nonterminals.len ∙ length-map file.base.attributes.nonterminals (λ (x : Nonterminal). x.name)

  count_terminals : length m.terminals.items ≡ length file.base.terminals
  count_terminals = tables.terminals.len ∙ length-map file.base.terminals (λ (x : Terminal). x.name)

  nodes_within : (owner : ℕ) (nodes : List Node) → IsNamedExpression file.base.attributes p owner nodes → All (NodeIsWithin m) nodes
  nodes_within owner nodes is =
      all_weaker (IsNamedNode file.base.attributes p owner) (NodeIsWithin m) nodes
      (λ node one. node_within file (numbering_of file.base) m count_productions count_nonterminals p owner node one) is.named

  pub left_within : p.left < length m.nonterminals.items
  left_within = nonterminal_within file (numbering_of file.base) m count_productions count_nonterminals p.owner p.left named.left

  pub locals_within : All (LocalIsWithin m) p.locals
  locals_within = all_weaker (IsNamedLocal file.base.attributes p) (LocalIsWithin m) p.locals (λ l one. record {
    nonterminal = nonterminal_within file (numbering_of file.base) m count_productions count_nonterminals l.owner l.nonterminal
        one.nonterminal;
    nodes = nodes_within l.owner l.nodes one.value;
  }) named.locals

  pub equations_within : All (EquationIsWithin m) p.equations
  equations_within = all_weaker (IsNamedEquation file.base.attributes p) (EquationIsWithin m) p.equations
      (λ e one. nodes_within e.owner e.nodes one.value) named.equations

  pub forward_within : All (λ (f : Forward). All (NodeIsWithin m) f.nodes) (option_to_list p.forward)
  forward_within = from p.forward named.forward where
    from : (o : Option Forward) → IfSome o (λ (f : Forward). IsNamedExpression file.base.attributes p p.owner f.nodes)
        → All (λ (f : Forward). All (NodeIsWithin m) f.nodes) (option_to_list o)
    from None is = All-nil (λ (f : Forward). All (NodeIsWithin m) f.nodes)
    from (Some f) is =
        All-cons (λ (f : Forward). All (NodeIsWithin m) f.nodes) f [] (nodes_within p.owner f.nodes is)
        (All-nil (λ (f : Forward). All (NodeIsWithin m) f.nodes))

  -- the kind of a child
  kind_is : (role : ProductionRole) (kind : ChildKind) → IsChildKindOf file.base.attributes p.owner role kind
      → ((number : ℕ) → kind ≡ child.Terminal number → IsTerminalChild file.base p.owner number) → ChildKindIsWithin m kind
  kind_is Concrete (child.Terminal number) is terminal =
      let t = terminal number refl in
      subst (λ (z : ℕ). number < z) (sym count_terminals) (slice_get_within file.base.terminals number t.terminal t.is)
  kind_is Concrete (child.Value kind) (number, same, sees) terminal =
      kind_within file (numbering_of file.base) m count_productions count_nonterminals p.owner kind
      (subst (SeesKind file.base.attributes p.owner) (sym same) sees)
  kind_is Abstract (child.Terminal number) is terminal = absurd is
  kind_is Abstract (child.Value kind) is terminal =
      kind_within file (numbering_of file.base) m count_productions count_nonterminals p.owner kind is

  pub children_within : All (λ (c : Child). ChildKindIsWithin m c.kind) p.children
  children_within = all_from_contained (λ (c : Child). ChildKindIsWithin m c.kind) p.children (λ c more.
      let one = all_contained (IsNamedChild file.base.attributes p) p.children c named.children more in
      let terminals = all_contained (HasGrammarTerminals file.base) file.base.attributes.productions p base.children has in
      kind_is p.role c.kind one.is_kind
      (all_contained (λ (c : Child). (number : ℕ) → c.kind ≡ child.Terminal number → IsTerminalChild file.base p.owner number) p.children c
      terminals more))
