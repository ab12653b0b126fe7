-- What holds of the names of a base's rows and of what items declare holds of each name that is declared.
use Rattle.std.proofs.Common.{ℕ, List, Contains, refl, subst}
use Rattle.wb_syntax_resolved.specs.declared.attributes.Attribute.{Attribute}
use Rattle.wb_syntax_resolved.specs.declared.attributes.Direction.TheVariants.{Synthesized, Inherited}
use Rattle.wb_syntax_resolved.specs.declared.attributes.Nonterminal.{Nonterminal}
use Rattle.wb_syntax_resolved.specs.declared.production.Production.{Production}
use Rattle.wb_syntax_resolved.specs.declared.resolved.ResolvedParts.{ResolvedParts}
use Rattle.wb_syntax_resolved.specs.declared.terminal.Terminal.{Terminal}
use Rattle.wb_syntax_resolved.specs.declared.terminal.TerminalKind.{TerminalKind}
use Rattle.wb_syntax_resolved.specs.declared.terminal.TerminalKind.TheVariants as t
use Rattle.wb_syntax.specs.declared.expression.Target.{Target}
use Rattle.wb_syntax.specs.declared.expression.Target.TheVariants as g
use Rattle.wb_syntax.specs.declared.item.PlainForm.{PlainForm}
use Rattle.wb_syntax.specs.declared.item.PlainForm.TheVariants as i
use Rattle.wb_syntax.specs.declared.pattern.Role.{Role}
use Rattle.wb_syntax.specs.declared.pattern.Role.TheVariants as r
use Rattle.wb_names_theory.specs.declared.declaration.Declaration.{Declaration}
use Rattle.wb_names_theory.specs.declared.declaration.Declaration.TheVariants as d
use Rattle.wb_names_theory.specs.declared.declaration.Sort.{Sort}
use Rattle.wb_names_theory.specs.declared.declaration.Sort.TheVariants as sort
use Rattle.wb_names_theory.specs.Declarations.{Items, LexicalDeclaration, AttributeDeclaration, ProductionDeclaration, lexicals}
use Rattle.wb_names_theory.specs.Declarations.{nonterminals}
use Rattle.wb_names_theory.specs.Declarations.{attributes, productions, plain_items, nonterminal_of, attribute_of}
use Rattle.wb_names_theory.specs.Declares.{declarations, terminal_sort, role_sort, plain_declaration, target_declaration}
use Rattle.wb_names_numbers_theory.proofs.DeclaredBy.{IsDeclaredBy, declared_by}
use Rattle.wb_names_numbers_theory.proofs.DeclaredBy as by
use Rattle.wb_names_numbers_theory.proofs.OwnDeclared.{kept}

-- a word on the names of terminals, nonterminals, productions and attributes
module _ (T N P A : List ℕ → Type 0) where
  abbrev OfSort : Sort → List ℕ → Type 0
  OfSort sort.Terminal name = T name
  OfSort sort.Marker name = T name
  OfSort sort.Layout name = T name
  OfSort sort.Nonterminal name = N name
  OfSort sort.Production name = P name

  abbrev pub Holds : Declaration → Type 0
  Holds (d.Symbol name is) = OfSort is name
  Holds (d.Attribute name direction) = A name
  Holds other = Unit {0}

  by_kind : (kind : TerminalKind) (name : List ℕ) → T name → OfSort (terminal_sort kind) name
  by_kind t.Plain name is = is
  by_kind t.Ignore name is = is
  by_kind t.Marking name is = is

  by_role : (role : Role) (name : List ℕ) → T name → OfSort (role_sort role) name
  by_role r.Terminal name is = is
  by_role r.Ignore name is = is
  by_role r.Marking name is = is

  by_target : (name : List ℕ) (target : Target) → Holds (target_declaration name target)
  by_target name (g.Top a) = tt
  by_target name (g.Label l a) = tt
  by_target name (g.Forward a) = tt
  by_target name (g.Local l n) = tt
  by_target name g.ForwardsTo = tt

  module _ (base : ResolvedParts) (items : Items)
      (nonterminal : (name : List ℕ) → Contains (nonterminals items) name → N name)
      (attribute : (x : AttributeDeclaration) → Contains (attributes items) x → A x.name) where
    by_plain : (x : PlainForm) → Contains (plain_items items) x → Holds (plain_declaration x)
    by_plain (i.Prefer first second) has = tt
    by_plain (i.Nonterminal name) has = nonterminal name (kept nonterminal_of (plain_items items) (i.Nonterminal name) name has refl)
    by_plain (i.Start name) has = tt
    by_plain (i.Extensible name) has = tt
    by_plain (i.Closed name) has = tt
    by_plain (i.Synthesized name kind) has =
        attribute (record { name = name; direction = Synthesized; kind = kind })
        (kept attribute_of (plain_items items) (i.Synthesized name kind)
        (record { name = name; direction = Synthesized; kind = kind }) has refl)
    by_plain (i.Inherited name kind) has =
        attribute (record { name = name; direction = Inherited; kind = kind })
        (kept attribute_of (plain_items items) (i.Inherited name kind)
        (record { name = name; direction = Inherited; kind = kind }) has refl)
    by_plain (i.Occurs a n needs) has = tt
    by_plain (i.ForwardOn n needs) has = tt

    module _ (base_terminal : (x : Terminal) → Contains base.terminals x → T x.name)
        (base_nonterminal : (x : Nonterminal) → Contains base.attributes.nonterminals x → N x.name)
        (base_attribute : (x : Attribute) → Contains base.attributes.attributes x → A x.name)
        (base_production : (x : Production) → Contains base.attributes.productions x → P x.name)
        (lexical : (x : LexicalDeclaration) → Contains (lexicals items) x → T x.name)
        (production : (x : ProductionDeclaration) → Contains (productions items) x → P x.production.name) where
      holds_by : (it : Declaration) → IsDeclaredBy base items it → Holds it
      holds_by it (by.base_terminal x has e) = subst Holds e (by_kind x.kind x.name (base_terminal x has))
      holds_by it (by.base_nonterminal x has e) = subst Holds e (base_nonterminal x has)
      holds_by it (by.base_attribute x has e) = subst Holds e (base_attribute x has)
      holds_by it (by.base_occurrence x has e) = subst Holds e tt
      holds_by it (by.base_symbol p has e) = subst Holds e (base_production p has)
      holds_by it (by.base_left p has e) = subst Holds e tt
      holds_by it (by.base_child p has c more e) = subst Holds e tt
      holds_by it (by.base_local p has l more e) = subst Holds e tt
      holds_by it (by.base_forward p has f more e) = subst Holds e tt
      holds_by it (by.base_equation p has q more e) = subst Holds e tt
      holds_by it (by.lexical x has e) = subst Holds e (by_role x.role x.name (lexical x has))
      holds_by it (by.plain x has e) = subst Holds e (by_plain x has)
      holds_by it (by.production x has e) = subst Holds e (production x has)
      holds_by it (by.left x has e) = subst Holds e tt
      holds_by it (by.child x has c more e) = subst Holds e tt
      holds_by it (by.equation b has q more e) = subst Holds e (by_target b.name q.target)

      pub holds_of : (it : Declaration) → Contains (declarations base items) it → Holds it
      holds_of it has = holds_by it (declared_by base items it has)
