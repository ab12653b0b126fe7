-- The terminals among children are ones of the grammar.
use Rattle.std.proofs.Common.{◌≡◌, ◌≢◌, ◌⊎◌, inl, inr, ℕ, Bool, true, false, List, Some}
use Rattle.std.proofs.Common.{Contains, slice_get, ap, sym, refl, subst, ◌∙◌}
use Rattle.std.proofs.lemmas.Bool.{false≢true}
use Rattle.wb_lemmas.proofs.Elements.{all_contained}
use Rattle.wb_lemmas.proofs.Members.{contains_at}
use Rattle.wb_lemmas.proofs.Places.{at_once}
use Rattle.wb_syntax_resolved.specs.declared.attribution.AttributionParts.{AttributionParts}
use Rattle.wb_syntax_resolved.specs.declared.production.Child.{Child}
use Rattle.wb_syntax_resolved.specs.declared.production.ChildKind.{ChildKind}
use Rattle.wb_syntax_resolved.specs.declared.production.ChildKind.TheVariants as child
use Rattle.wb_syntax_resolved.specs.declared.production.Production.{Production}
use Rattle.wb_syntax_resolved.specs.declared.resolved.ResolvedParts.{ResolvedParts}
use Rattle.wb_syntax_resolved.specs.declared.terminal.Terminal.{Terminal}
use Rattle.wb_syntax_resolved.specs.declared.terminal.TerminalKind.{TerminalKind}
use Rattle.wb_syntax_resolved.specs.declared.terminal.TerminalKind.TheVariants as t
use Rattle.wb_syntax_resolved.specs.Owners.{Sees}
use Rattle.wb_syntax_resolved.specs.Resolved.{IsTerminalChild, HasGrammarTerminals}
use Rattle.wb_syntax.specs.declared.expression.Target as is_for
use Rattle.wb_syntax.specs.declared.expression.Target.TheVariants as g
use Rattle.wb_syntax.specs.declared.item.PlainForm.{PlainForm}
use Rattle.wb_syntax.specs.declared.item.PlainForm.TheVariants as i
use Rattle.wb_syntax.specs.declared.pattern.Role.{Role}
use Rattle.wb_syntax.specs.declared.pattern.Role.TheVariants as lexical_role
use Rattle.wb_syntax.specs.declared.production.Child as named
use Rattle.wb_syntax.specs.declared.production.NamedKind.{NamedKind}
use Rattle.wb_syntax.specs.declared.production.NamedKind.TheVariants as kinds
use Rattle.wb_names_theory.specs.declared.declaration.Declaration.TheVariants as d
use Rattle.wb_names_theory.specs.declared.declaration.Sort.{Sort}
use Rattle.wb_names_theory.specs.declared.declaration.Sort.TheVariants as sort
use Rattle.wb_names_theory.specs.Declarations.{LexicalDeclaration, ProductionDeclaration, lexicals}
use Rattle.wb_names_theory.specs.Declarations.{productions}
use Rattle.wb_names_theory.specs.Declares.{role_sort, terminal_sort, plain_declaration, target_declaration}
use Rattle.wb_names_numbers_theory.specs.Files.{File}
use Rattle.wb_names_numbers_theory.specs.Given.{IsFile}
use Rattle.wb_names_numbers_theory.specs.Moved.{IsMovedTerminalNumber, IsMovedChild, IsMovedChildKind}
use Rattle.wb_names_numbers_theory.specs.Numbering.{Numbering, numbering_of, IsNumber}
use Rattle.wb_names_numbers_theory.specs.Resolves.{move_of, IsTerminal, IsProduction}
use Rattle.wb_names_numbers_theory.specs.Resolves.{IsScanned}
use Rattle.wb_names_numbers_theory.specs.Rows.{terminal_kind}
use Rattle.wb_names_numbers_theory.specs.Sources.{sources}
use Rattle.wb_names_numbers_theory.specs.Written.{IsWrittenChild, IsWrittenChildKind}
use Rattle.wb_names_numbers_theory.proofs.Carrying.{name_at, terminal_there}
use Rattle.wb_names_numbers_theory.proofs.Ground.{Ground}
use Rattle.wb_names_numbers_theory.proofs.LabelsFound.{IsScannedName}
use Rattle.wb_names_numbers_theory.proofs.NumberLemmas.{one_number}
use Rattle.wb_names_numbers_theory.proofs.OwnNamed.{Known}
use Rattle.wb_names_numbers_theory.proofs.RowLemmas.{all_zipped, row_of, source_before, source_declared, there_before}
use Rattle.wb_names_numbers_theory.proofs.RowLemmas.{there_declared}
use Rattle.wb_names_numbers_theory.proofs.BaseCarried.{base_carried}
use Rattle.wb_names_numbers_theory.proofs.DeclaredBy.{IsDeclaredBy, declared_by}
use Rattle.wb_names_numbers_theory.proofs.DeclaredBy as by
use Rattle.wb_names_numbers_theory.proofs.OneRow.{terminals_differ}
use Rattle.wb_names_numbers_theory.proofs.TerminalsNamed.{sees_terminal}

module _ (file : File) (r : ResolvedParts) (given : IsFile file) (k : Known file r) where
  abbrev n : Numbering
  n = numbering_of r

  abbrev a : AttributionParts
  a = r.attributes

  abbrev b : AttributionParts
  b = file.base.attributes

  abbrev ground : Ground file r
  ground = k.ground

  -- the terminals among children are ones of the grammar
  scanned_row : (j : ℕ) (row : Terminal) → slice_get r.terminals j ≡ Some row → (name : List ℕ) → IsNumber n.terminals file.owner name j
      → (x : Terminal ⊎ LexicalDeclaration) → Contains (sources file.base.terminals (lexicals file.items)) x → (kind_of : TerminalKind)
      → ((other : Terminal) → IsTerminal file n x other → (other.name ≡ name) × (other.kind ≡ kind_of) × Sees file.owner other.owner)
      → row.kind ≡ kind_of
  scanned_row j row at name is x has kind_of gives =
      let h = row_of IsScanned (IsTerminal file n) (sources file.base.terminals (lexicals file.items)) r.terminals ground.resolves.terminals
      x has in
      let f = gives h.row h.is_row in
      let number : IsNumber n.terminals file.owner name h.place = record {
        other = h.row.owner;
        is = name_at (λ (z : Terminal). (z.owner, z.name)) r.terminals h.place h.row h.at ∙ ap (λ (z : List ℕ). Some (h.row.owner, z)) f.0;
        seen = f.2;
      } in
      let same = one_number n.terminals (terminals_differ n ground.distinct) file.owner name h.place j number is in
      let both = at_once r.terminals j row h.row at (subst (λ z. slice_get r.terminals z ≡ Some h.row) same h.at) in
      ap (λ (z : Terminal). z.kind) both ∙ f.1

  base_scanned : (y : Terminal) → Contains file.base.terminals y → (j : ℕ) (row : Terminal) → slice_get r.terminals j ≡ Some row
      → (name : List ℕ) → IsNumber n.terminals file.owner name j → y.name ≡ name → row.kind ≡ y.kind
  base_scanned y has j row at name is same =
      scanned_row j row at name is (inl y) (there_before file.base.terminals (lexicals file.items) y has) y.kind
      (λ other e. (e.name ∙ same, e.kind, inl (e.owner ∙ ground.host.terminals y has)))

  own_scanned : (y : LexicalDeclaration) → Contains (lexicals file.items) y → (j : ℕ) (row : Terminal) → slice_get r.terminals j ≡ Some row
      → (name : List ℕ) → IsNumber n.terminals file.owner name j → y.name ≡ name → row.kind ≡ terminal_kind y.role
  own_scanned y has j row at name is same =
      scanned_row j row at name is (inr y) (there_declared file.base.terminals (lexicals file.items) y has) (terminal_kind y.role)
      (λ other e. (e.name ∙ same, e.kind, inr e.owner_is))

  abbrev is_scanned_sort : Sort → Bool
  is_scanned_sort sort.Terminal = true
  is_scanned_sort sort.Marker = true
  is_scanned_sort other = false

  terminal_scanned : (of : TerminalKind) → is_scanned_sort (terminal_sort of) ≡ true → of ≢ t.Ignore
  terminal_scanned t.Plain e = λ q. absurd (cc q)
  terminal_scanned t.Marking e = λ q. absurd (cc q)
  terminal_scanned t.Ignore e = absurd (false≢true e)

  role_scanned : (of : Role) → is_scanned_sort (role_sort of) ≡ true → terminal_kind of ≢ t.Ignore
  role_scanned lexical_role.Terminal e = λ q. absurd (cc q)
  role_scanned lexical_role.Marking e = λ q. absurd (cc q)
  role_scanned lexical_role.Ignore e = absurd (false≢true e)

  plain_scanned : (form : PlainForm) (name : List ℕ) (of : Sort) → plain_declaration form ≡ d.Symbol name of → of ≡ sort.Nonterminal
  plain_scanned (i.Nonterminal one) name of e = let same : sort.Nonterminal ≡ of = cc in sym same
  plain_scanned (i.Prefer first second) name of e = absurd (cc e)
  plain_scanned (i.Start one) name of e = absurd (cc e)
  plain_scanned (i.Extensible one) name of e = absurd (cc e)
  plain_scanned (i.Closed one) name of e = absurd (cc e)
  plain_scanned (i.Synthesized one its) name of e = absurd (cc e)
  plain_scanned (i.Inherited one its) name of e = absurd (cc e)
  plain_scanned (i.Occurs c m needs) name of e = absurd (cc e)
  plain_scanned (i.ForwardOn m needs) name of e = absurd (cc e)

  target_no_symbol : (p : List ℕ) (to : is_for.Target) (name : List ℕ) (of : Sort) → target_declaration p to ≡ d.Symbol name of → ⊥
  target_no_symbol p (g.Top c) name of e = absurd (cc e)
  target_no_symbol p (g.Label l c) name of e = absurd (cc e)
  target_no_symbol p (g.Forward c) name of e = absurd (cc e)
  target_no_symbol p (g.Local l c) name of e = absurd (cc e)
  target_no_symbol p g.ForwardsTo name of e = absurd (cc e)

  scanned_by : (name : List ℕ) (of : Sort) → is_scanned_sort of ≡ true → IsDeclaredBy file.base file.items (d.Symbol name of) → (j : ℕ)
      (row : Terminal) → slice_get r.terminals j ≡ Some row → IsNumber n.terminals file.owner name j → row.kind ≢ t.Ignore
  scanned_by name of s (by.base_terminal y has e) j row at is =
      let same : y.name ≡ name = cc in
      let sort_is : terminal_sort y.kind ≡ of = cc in
      λ q. terminal_scanned y.kind (ap is_scanned_sort sort_is ∙ s) (sym (base_scanned y has j row at name is same) ∙ q)
  scanned_by name of s (by.lexical y has e) j row at is =
      let same : y.name ≡ name = cc in
      let sort_is : role_sort y.role ≡ of = cc in
      λ q. role_scanned y.role (ap is_scanned_sort sort_is ∙ s) (sym (own_scanned y has j row at name is same) ∙ q)
  scanned_by name of s (by.plain y has e) j row at is =
      absurd (false≢true (sym (ap is_scanned_sort (plain_scanned y name of e)) ∙ s))
  scanned_by name of s (by.base_nonterminal y has e) j row at is =
      let sort_is : sort.Nonterminal ≡ of = cc in absurd (false≢true (ap is_scanned_sort sort_is ∙ s))
  scanned_by name of s (by.base_symbol p has e) j row at is =
      let sort_is : sort.Production ≡ of = cc in absurd (false≢true (ap is_scanned_sort sort_is ∙ s))
  scanned_by name of s (by.production y has e) j row at is =
      let sort_is : sort.Production ≡ of = cc in absurd (false≢true (ap is_scanned_sort sort_is ∙ s))
  scanned_by name of s (by.base_attribute y has e) j row at is = absurd (cc e)
  scanned_by name of s (by.base_occurrence y has e) j row at is = absurd (cc e)
  scanned_by name of s (by.base_left p has e) j row at is = absurd (cc e)
  scanned_by name of s (by.base_child p has c more e) j row at is = absurd (cc e)
  scanned_by name of s (by.base_local p has l more e) j row at is = absurd (cc e)
  scanned_by name of s (by.base_forward p has x some e) j row at is = absurd (cc e)
  scanned_by name of s (by.base_equation p has q more e) j row at is = absurd (cc e)
  scanned_by name of s (by.left y has e) j row at is = absurd (cc e)
  scanned_by name of s (by.child y has c more e) j row at is = absurd (cc e)
  scanned_by name of s (by.equation y has q more e) j row at is = absurd (target_no_symbol y.name q.target name of e)

  scanned_kind : (name : List ℕ) (j : ℕ) (row : Terminal) → IsScannedName file name → slice_get r.terminals j ≡ Some row
      → IsNumber n.terminals file.owner name j → row.kind ≢ t.Ignore
  scanned_kind name j row (inl has) at is =
      scanned_by name sort.Terminal refl (declared_by file.base file.items (d.Symbol name sort.Terminal) has) j row at is
  scanned_kind name j row (inr has) at is =
      scanned_by name sort.Marker refl (declared_by file.base file.items (d.Symbol name sort.Marker) has) j row at is

  -- a child that is a terminal
  moved_child : (p : Production) → Contains b.productions p → (row : Production) → row.owner ≡ 0 → (from : ChildKind) (c : Child)
      → Contains p.children c → c.kind ≡ from → (to : ChildKind) → IsMovedChildKind (move_of file n) from to → (number : ℕ)
      → to ≡ child.Terminal number → IsTerminalChild r row.owner number
  moved_child p has row zero_is (child.Value is) c listed e to m number q =
      let never : child.Value m.0 ≡ child.Terminal number = sym m.2 ∙ q in absurd (cc never)
  moved_child p has row zero_is (child.Terminal j) c listed e to m number q =
      let same_terminal : child.Terminal m.0 ≡ child.Terminal number = sym m.2 ∙ q in
      let same : m.0 ≡ number = cc in
      let base = all_contained (λ (c : Child). (number : ℕ) → c.kind ≡ child.Terminal number
      → IsTerminalChild file.base p.owner number) p.children c
      (all_contained (HasGrammarTerminals file.base) b.productions p ground.base.children has) listed j e in
      let there = terminal_there (λ (o : ℕ). o) file.base r ground.distinct (base_carried file r ground.resolves) j number
      (subst (IsMovedTerminalNumber (move_of file n) j) same m.1) in
      let one = at_once file.base.terminals j base.terminal there.row base.is there.is in
      record {
        terminal = there.there;
        is = there.is_there;
        seen = inl (there.moved.owner ∙ ground.host.terminals there.row (contains_at file.base.terminals there.row j there.is));
        plain = λ z. base.plain (ap (λ (y : Terminal). y.kind) one ∙ (sym there.moved.kind ∙ z));
      }

  written_child : (x : ProductionDeclaration) → Contains (productions file.items) x → (row : Production) → row.owner ≡ file.owner
      → (c : named.Child) → Contains x.production.children c → (from : NamedKind) → c.kind ≡ from → (number : ℕ)
      → IsWrittenChildKind n file.owner from (child.Terminal number) → IsTerminalChild r row.owner number
  written_child x has row owner_is c listed kinds.Int e number w = absurd w
  written_child x has row owner_is c listed kinds.Bool e number w = absurd w
  written_child x has row owner_is c listed kinds.Text e number w = absurd w
  written_child x has row owner_is c listed (kinds.Name name) e number w =
      let s = (sees_terminal file r given k) file.owner name number w in
      record {
        terminal = s.terminal;
        is = s.is;
        seen = subst (λ o. Sees o s.terminal.owner) (sym owner_is) s.seen;
        plain = scanned_kind name number s.terminal (k.scanned x c name number has listed e r ground w) s.is w;
      }

  pub children_of : (x : Production ⊎ ProductionDeclaration) (row : Production) → Contains (sources b.productions (productions file.items)) x
      → Contains a.productions row → IsProduction file n x row → HasGrammarTerminals r row
  children_of (inl p) row has listed e =
      let inside = source_before b.productions (productions file.items) p has in
      all_zipped (IsMovedChild (move_of file n)) (λ (c : Child). (number : ℕ) → c.kind ≡ child.Terminal number
      → IsTerminalChild r row.owner number)
      p.children row.children e.children
      (λ c to c_in there m number q. moved_child p inside row (e.owner_is ∙ ground.host.productions p inside) c.kind c c_in refl to.kind
      m.is_kind number q)
  children_of (inr x) row has listed e =
      let inside = source_declared b.productions (productions file.items) x has in
      all_zipped (IsWrittenChild n file.owner) (λ (c : Child). (number : ℕ) → c.kind ≡ child.Terminal number
      → IsTerminalChild r row.owner number)
      x.production.children row.children e.children
      (λ c to c_in there m number q. written_child x inside row e.owner_is c c_in c.kind refl number
      (subst (IsWrittenChildKind n file.owner c.kind) q m.is_kind))
