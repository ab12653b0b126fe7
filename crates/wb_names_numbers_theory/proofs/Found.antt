-- What is declared by name is in the value, under its number.
use Rattle.std.proofs.Common.{◌≡◌, ◌⊎◌, inl, inr, ℕ, Bool, true, false, List, Some, Contains, slice_get, ap}
use Rattle.std.proofs.Common.{sym, refl, subst, ◌∙◌}
use Rattle.std.proofs.lemmas.Bool.{false≢true}
use Rattle.wb_lemmas.proofs.Members.{contains_at}
use Rattle.wb_syntax_resolved.specs.declared.attributes.Attribute.{Attribute}
use Rattle.wb_syntax_resolved.specs.declared.attributes.Direction.{Direction}
use Rattle.wb_syntax_resolved.specs.declared.attributes.Direction.TheVariants.{Synthesized, Inherited}
use Rattle.wb_syntax_resolved.specs.declared.attributes.Nonterminal.{Nonterminal}
use Rattle.wb_syntax_resolved.specs.declared.attributes.Occurrence.{Occurrence}
use Rattle.wb_syntax_resolved.specs.declared.attribution.AttributionParts.{AttributionParts}
use Rattle.wb_syntax_resolved.specs.declared.resolved.ResolvedParts.{ResolvedParts}
use Rattle.wb_syntax_resolved.specs.declared.terminal.Terminal.{Terminal}
use Rattle.wb_syntax_resolved.specs.Once.{Entry}
use Rattle.wb_syntax_resolved.specs.Owners.{Sees}
use Rattle.wb_syntax_resolved.specs.Visible.{SeesNonterminal, SeesProduction, SeesAttribute, SeesOccurrence}
use Rattle.wb_syntax_resolved.specs.declared.production.Production.{Production}
use Rattle.wb_syntax_resolved.specs.declared.terminal.TerminalKind.{TerminalKind}
use Rattle.wb_syntax_resolved.specs.declared.terminal.TerminalKind.TheVariants as t
use Rattle.wb_syntax.specs.declared.expression.Target.{Target}
use Rattle.wb_syntax.specs.declared.expression.Target.TheVariants as g
use Rattle.wb_syntax.specs.declared.pattern.Role.{Role}
use Rattle.wb_syntax.specs.declared.pattern.Role.TheVariants as role
use Rattle.wb_syntax.specs.declared.item.PlainForm.{PlainForm}
use Rattle.wb_syntax.specs.declared.item.PlainForm.TheVariants as i
use Rattle.wb_names_theory.specs.declared.declaration.Declaration.{Declaration}
use Rattle.wb_names_theory.specs.declared.declaration.Declaration.TheVariants as d
use Rattle.wb_names_theory.specs.declared.declaration.Sort.{Sort}
use Rattle.wb_names_theory.specs.declared.declaration.Sort.TheVariants as sort
use Rattle.wb_names_theory.specs.Declarations.{AttributeDeclaration, OccurrenceDeclaration, LexicalDeclaration, plain_items, attributes}
use Rattle.wb_names_theory.specs.Declarations.{occurrences, nonterminals, lexicals, attribute_of, occurrence_of, nonterminal_of}
use Rattle.wb_names_theory.specs.Declares.{declarations, plain_declaration, attribute_name, nonterminal_name, terminal_name}
use Rattle.wb_names_theory.specs.Declares.{role_sort, terminal_sort, target_declaration}
use Rattle.wb_names_numbers_theory.specs.Files.{File}
use Rattle.wb_names_numbers_theory.specs.Moved.{IsMovedNonterminalNumber, IsMovedAttributeNumber, IsMovedTerminalNumber}
use Rattle.wb_names_numbers_theory.specs.Numbering.{Numbering, numbering_of, IsNumber}
use Rattle.wb_names_numbers_theory.specs.Resolves.{move_of, IsTerminal, IsNonterminal, IsAttribute, IsOccurrence, IsScanned, IsInGrammarOf}
use Rattle.wb_names_numbers_theory.specs.Sources.{sources}
use Rattle.wb_names_numbers_theory.proofs.Carrying.{row_at, name_at}
use Rattle.wb_names_numbers_theory.proofs.DeclaredBy.{IsDeclaredBy, declared_by}
use Rattle.wb_names_numbers_theory.proofs.OwnDeclared.{kept}
use Rattle.wb_names_numbers_theory.proofs.DeclaredBy as by
use Rattle.wb_names_numbers_theory.proofs.Ground.{Ground, moved_number}
use Rattle.wb_names_numbers_theory.proofs.NumberLemmas.{one_number}
use Rattle.wb_names_numbers_theory.proofs.OneRow.{nonterminals_differ}
use Rattle.wb_names_numbers_theory.proofs.RowLemmas.{row_of, row_of_zip, RowOf, there_before, there_declared}

-- a declaration isn't of two forms
abbrev is_attribute : Declaration → Bool
is_attribute (d.Attribute name direction) = true
is_attribute other = false

abbrev is_occurrence : Declaration → Bool
is_occurrence (d.Occurrence attribute nonterminal) = true
is_occurrence other = false

abbrev is_nonterminal_sort : Sort → Bool
is_nonterminal_sort sort.Nonterminal = true
is_nonterminal_sort other = false

abbrev is_nonterminal : Declaration → Bool
is_nonterminal (d.Symbol name is) = is_nonterminal_sort is
is_nonterminal other = false

abbrev is_lexical_sort : Sort → Bool
is_lexical_sort sort.Nonterminal = false
is_lexical_sort sort.Production = false
is_lexical_sort other = true

abbrev is_lexical : Declaration → Bool
is_lexical (d.Symbol name is) = is_lexical_sort is
is_lexical other = false

target_no_attribute : (p : List ℕ) (t : Target) → is_attribute (target_declaration p t) ≡ false
target_no_attribute p (g.Top a) = refl
target_no_attribute p (g.Label l a) = refl
target_no_attribute p (g.Forward a) = refl
target_no_attribute p (g.Local l m) = refl
target_no_attribute p g.ForwardsTo = refl

target_no_occurrence : (p : List ℕ) (t : Target) → is_occurrence (target_declaration p t) ≡ false
target_no_occurrence p (g.Top a) = refl
target_no_occurrence p (g.Label l a) = refl
target_no_occurrence p (g.Forward a) = refl
target_no_occurrence p (g.Local l m) = refl
target_no_occurrence p g.ForwardsTo = refl

target_no_nonterminal : (p : List ℕ) (t : Target) → is_nonterminal (target_declaration p t) ≡ false
target_no_nonterminal p (g.Top a) = refl
target_no_nonterminal p (g.Label l a) = refl
target_no_nonterminal p (g.Forward a) = refl
target_no_nonterminal p (g.Local l m) = refl
target_no_nonterminal p g.ForwardsTo = refl

target_no_lexical : (p : List ℕ) (t : Target) → is_lexical (target_declaration p t) ≡ false
target_no_lexical p (g.Top a) = refl
target_no_lexical p (g.Label l a) = refl
target_no_lexical p (g.Forward a) = refl
target_no_lexical p (g.Local l m) = refl
target_no_lexical p g.ForwardsTo = refl

role_no_nonterminal : (k : Role) → is_nonterminal_sort (role_sort k) ≡ false
role_no_nonterminal role.Terminal = refl
role_no_nonterminal role.Ignore = refl
role_no_nonterminal role.Marking = refl

terminal_no_nonterminal : (k : TerminalKind) → is_nonterminal_sort (terminal_sort k) ≡ false
terminal_no_nonterminal t.Plain = refl
terminal_no_nonterminal t.Ignore = refl
terminal_no_nonterminal t.Marking = refl

-- a name that is declared, with its row
pub record AttributeFound (file : File) (r : ResolvedParts) (name : List ℕ) (direction : Direction) : Type 0 where
  pub number : ℕ
  pub row : Attribute
  pub at : slice_get r.attributes.attributes number ≡ Some row
  pub named : row.name ≡ name
  pub goes : row.direction ≡ direction
  pub seen : Sees file.owner row.owner

pub record OccurrenceFound (file : File) (r : ResolvedParts) (attribute nonterminal : List ℕ) : Type 0 where
  pub row : Occurrence
  pub listed : Contains r.attributes.occurrences row
  pub of_attribute : IsNumber (numbering_of r).attributes file.owner attribute row.attribute
  pub on_nonterminal : IsNumber (numbering_of r).nonterminals file.owner nonterminal row.nonterminal
  pub seen : Sees file.owner row.owner

pub record NameFound (names : List Entry) (owner : ℕ) (name : List ℕ) : Type 0 where
  pub number : ℕ
  pub is : IsNumber names owner name number

module _ (file : File) (r : ResolvedParts) (ground : Ground file r) where
  abbrev n : Numbering
  n = numbering_of r

  abbrev b : AttributionParts
  b = file.base.attributes

  -- the host's numbers, moved
  pub moved_nonterminal : (k j : ℕ) → IsMovedNonterminalNumber (move_of file n) k j
      → IsNumber n.nonterminals file.owner (nonterminal_name file.base k) j
  moved_nonterminal = moved_number (λ (x : Nonterminal). (x.owner, x.name)) b.nonterminals n.nonterminals ground.host.nonterminals
      file.owner

  pub moved_attribute : (k j : ℕ) → IsMovedAttributeNumber (move_of file n) k j
      → IsNumber n.attributes file.owner (attribute_name file.base k) j
  moved_attribute = moved_number (λ (x : Attribute). (x.owner, x.name)) b.attributes n.attributes ground.host.attributes file.owner

  pub moved_terminal : (k j : ℕ) → IsMovedTerminalNumber (move_of file n) k j
      → IsNumber n.terminals file.owner (terminal_name file.base k) j
  moved_terminal = moved_number (λ (x : Terminal). (x.owner, x.name)) file.base.terminals n.terminals ground.host.terminals file.owner

  -- attributes
  attribute_row : (x : Attribute ⊎ AttributeDeclaration) (name : List ℕ) (direction : Direction)
      → RowOf (IsAttribute file n) r.attributes.attributes x → ((row : Attribute) → IsAttribute file n x row
      → (row.name ≡ name) × (row.direction ≡ direction) × Sees file.owner row.owner) → AttributeFound file r name direction
  attribute_row x name direction f gives =
      let h = gives f.row f.is_row in
      record { number = f.place; row = f.row; at = f.at; named = h.0; goes = h.1; seen = h.2 }

  own_attribute : (x : AttributeDeclaration) → Contains (attributes file.items) x → AttributeFound file r x.name x.direction
  own_attribute x has = attribute_row (inr x) x.name x.direction
      (row_of_zip (IsAttribute file n) (sources b.attributes (attributes file.items)) r.attributes.attributes ground.resolves.attributes
      (inr x) (there_declared b.attributes (attributes file.items) x has)) (λ row e. (e.name, e.direction, inr e.owner_is))

  plain_attribute : (name : List ℕ) (direction : Direction) (x : PlainForm) → Contains (plain_items file.items) x
      → plain_declaration x ≡ d.Attribute name direction → AttributeFound file r name direction
  plain_attribute name direction (i.Synthesized one its) has e =
      let same : one ≡ name = cc in
      let goes : Synthesized ≡ direction = cc in
      subst (λ k. AttributeFound file r k direction) same (subst (λ k. AttributeFound file r one k) goes
      (own_attribute (record { name = one; direction = Synthesized; kind = its }) (kept attribute_of (plain_items file.items) _ _ has
      refl)))
  plain_attribute name direction (i.Inherited one its) has e =
      let same : one ≡ name = cc in
      let goes : Inherited ≡ direction = cc in
      subst (λ k. AttributeFound file r k direction) same (subst (λ k. AttributeFound file r one k) goes
      (own_attribute (record { name = one; direction = Inherited; kind = its }) (kept attribute_of (plain_items file.items) _ _ has refl)))
  plain_attribute name direction (i.Prefer first second) has e = absurd (false≢true (ap is_attribute e))
  plain_attribute name direction (i.Nonterminal one) has e = absurd (false≢true (ap is_attribute e))
  plain_attribute name direction (i.Start one) has e = absurd (false≢true (ap is_attribute e))
  plain_attribute name direction (i.Extensible one) has e = absurd (false≢true (ap is_attribute e))
  plain_attribute name direction (i.Closed one) has e = absurd (false≢true (ap is_attribute e))
  plain_attribute name direction (i.Occurs a m needs) has e = absurd (false≢true (ap is_attribute e))
  plain_attribute name direction (i.ForwardOn m needs) has e = absurd (false≢true (ap is_attribute e))

  attribute_by : (name : List ℕ) (direction : Direction) → IsDeclaredBy file.base file.items (d.Attribute name direction)
      → AttributeFound file r name direction
  attribute_by name direction (by.base_attribute x has e) =
      let same : x.name ≡ name = cc in
      let goes : x.direction ≡ direction = cc in
      attribute_row (inl x) name direction
      (row_of_zip (IsAttribute file n) (sources b.attributes (attributes file.items)) r.attributes.attributes ground.resolves.attributes
      (inl x) (there_before b.attributes (attributes file.items) x has))
      (λ row f. (f.name ∙ same, f.direction ∙ goes, inl (f.owner ∙ ground.host.attributes x has)))
  attribute_by name direction (by.plain x has e) = plain_attribute name direction x has e
  attribute_by name direction (by.base_terminal x has e) = absurd (false≢true (ap is_attribute e))
  attribute_by name direction (by.base_nonterminal x has e) = absurd (false≢true (ap is_attribute e))
  attribute_by name direction (by.base_occurrence x has e) = absurd (false≢true (ap is_attribute e))
  attribute_by name direction (by.base_symbol p has e) = absurd (false≢true (ap is_attribute e))
  attribute_by name direction (by.base_left p has e) = absurd (false≢true (ap is_attribute e))
  attribute_by name direction (by.base_child p has c more e) = absurd (false≢true (ap is_attribute e))
  attribute_by name direction (by.base_local p has l more e) = absurd (false≢true (ap is_attribute e))
  attribute_by name direction (by.base_forward p has f is e) = absurd (false≢true (ap is_attribute e))
  attribute_by name direction (by.base_equation p has q more e) = absurd (false≢true (ap is_attribute e))
  attribute_by name direction (by.lexical x has e) = absurd (false≢true (ap is_attribute e))
  attribute_by name direction (by.production x has e) = absurd (false≢true (ap is_attribute e))
  attribute_by name direction (by.left x has e) = absurd (false≢true (ap is_attribute e))
  attribute_by name direction (by.child x has c more e) = absurd (false≢true (ap is_attribute e))
  attribute_by name direction (by.equation b has q more e) = absurd (false≢true (sym (target_no_attribute b.name q.target) ∙ ap is_attribute
      e))

  pub attribute_found : (name : List ℕ) (direction : Direction) → Contains (declarations file.base file.items) (d.Attribute name direction)
      → AttributeFound file r name direction
  attribute_found name direction has = attribute_by name direction (declared_by file.base file.items (d.Attribute name direction) has)

  -- nonterminals
  own_nonterminal : (name : List ℕ) → Contains (nonterminals file.items) name → NameFound n.nonterminals file.owner name
  own_nonterminal name has =
      let f = row_of (IsInGrammarOf file) (IsNonterminal file n) (sources b.nonterminals (nonterminals file.items))
      r.attributes.nonterminals
      ground.resolves.nonterminals (inr name) (there_declared b.nonterminals (nonterminals file.items) name has) in
      record {
        number = f.place;
        is = record {
          other = f.row.owner;
          is = name_at (λ (x : Nonterminal). (x.owner, x.name)) r.attributes.nonterminals f.place f.row f.at
              ∙ ap (λ (z : List ℕ). Some (f.row.owner, z)) f.is_row.name_is;
          seen = inr f.is_row.owner_is;
        };
      }

  base_nonterminal : (x : Nonterminal) → Contains b.nonterminals x → NameFound n.nonterminals file.owner x.name
  base_nonterminal x has =
      let f = row_of (IsInGrammarOf file) (IsNonterminal file n) (sources b.nonterminals (nonterminals file.items))
      r.attributes.nonterminals
      ground.resolves.nonterminals (inl x) (there_before b.nonterminals (nonterminals file.items) x has) in
      record {
        number = f.place;
        is = record {
          other = f.row.owner;
          is = name_at (λ (x : Nonterminal). (x.owner, x.name)) r.attributes.nonterminals f.place f.row f.at
              ∙ ap (λ (z : List ℕ). Some (f.row.owner, z)) f.is_row.name;
          seen = inl (f.is_row.owner ∙ ground.host.nonterminals x has);
        };
      }

  plain_nonterminal : (name : List ℕ) (x : PlainForm) → Contains (plain_items file.items) x
      → plain_declaration x ≡ d.Symbol name sort.Nonterminal → NameFound n.nonterminals file.owner name
  plain_nonterminal name (i.Nonterminal one) has e =
      let same : one ≡ name = cc in
      subst (NameFound n.nonterminals file.owner) same (own_nonterminal one (kept nonterminal_of (plain_items file.items) _ _ has refl))
  plain_nonterminal name (i.Synthesized one its) has e = absurd (false≢true (ap is_nonterminal e))
  plain_nonterminal name (i.Inherited one its) has e = absurd (false≢true (ap is_nonterminal e))
  plain_nonterminal name (i.Prefer first second) has e = absurd (false≢true (ap is_nonterminal e))
  plain_nonterminal name (i.Start one) has e = absurd (false≢true (ap is_nonterminal e))
  plain_nonterminal name (i.Extensible one) has e = absurd (false≢true (ap is_nonterminal e))
  plain_nonterminal name (i.Closed one) has e = absurd (false≢true (ap is_nonterminal e))
  plain_nonterminal name (i.Occurs a m needs) has e = absurd (false≢true (ap is_nonterminal e))
  plain_nonterminal name (i.ForwardOn m needs) has e = absurd (false≢true (ap is_nonterminal e))

  nonterminal_by : (name : List ℕ) → IsDeclaredBy file.base file.items (d.Symbol name sort.Nonterminal)
      → NameFound n.nonterminals file.owner name
  nonterminal_by name (by.base_nonterminal x has e) =
      let same : x.name ≡ name = cc in subst (NameFound n.nonterminals file.owner) same (base_nonterminal x has)
  nonterminal_by name (by.plain x has e) = plain_nonterminal name x has e
  nonterminal_by name (by.base_terminal x has e) = absurd (false≢true (sym (terminal_no_nonterminal x.kind) ∙ ap is_nonterminal e))
  nonterminal_by name (by.base_attribute x has e) = absurd (false≢true (ap is_nonterminal e))
  nonterminal_by name (by.base_occurrence x has e) = absurd (false≢true (ap is_nonterminal e))
  nonterminal_by name (by.base_symbol p has e) = absurd (false≢true (ap is_nonterminal e))
  nonterminal_by name (by.base_left p has e) = absurd (false≢true (ap is_nonterminal e))
  nonterminal_by name (by.base_child p has c more e) = absurd (false≢true (ap is_nonterminal e))
  nonterminal_by name (by.base_local p has l more e) = absurd (false≢true (ap is_nonterminal e))
  nonterminal_by name (by.base_forward p has f is e) = absurd (false≢true (ap is_nonterminal e))
  nonterminal_by name (by.base_equation p has q more e) = absurd (false≢true (ap is_nonterminal e))
  nonterminal_by name (by.lexical x has e) = absurd (false≢true (sym (role_no_nonterminal x.role) ∙ ap is_nonterminal e))
  nonterminal_by name (by.production x has e) = absurd (false≢true (ap is_nonterminal e))
  nonterminal_by name (by.left x has e) = absurd (false≢true (ap is_nonterminal e))
  nonterminal_by name (by.child x has c more e) = absurd (false≢true (ap is_nonterminal e))
  nonterminal_by name (by.equation b has q more e) = absurd (false≢true (sym (target_no_nonterminal b.name q.target) ∙ ap is_nonterminal e))

  pub nonterminal_found : (name : List ℕ) → Contains (declarations file.base file.items) (d.Symbol name sort.Nonterminal)
      → NameFound n.nonterminals file.owner name
  nonterminal_found name has = nonterminal_by name (declared_by file.base file.items (d.Symbol name sort.Nonterminal) has)

  -- terminals, layout and markers
  pub own_terminal : (x : LexicalDeclaration) → Contains (lexicals file.items) x → NameFound n.terminals file.owner x.name
  own_terminal x has =
      let f = row_of IsScanned (IsTerminal file n) (sources file.base.terminals (lexicals file.items)) r.terminals
      ground.resolves.terminals (inr x) (there_declared file.base.terminals (lexicals file.items) x has) in
      record {
        number = f.place;
        is = record {
          other = f.row.owner;
          is = name_at (λ (x : Terminal). (x.owner, x.name)) r.terminals f.place f.row f.at
              ∙ ap (λ (z : List ℕ). Some (f.row.owner, z)) f.is_row.name;
          seen = inr f.is_row.owner_is;
        };
      }

  base_terminal : (x : Terminal) → Contains file.base.terminals x → NameFound n.terminals file.owner x.name
  base_terminal x has =
      let f = row_of IsScanned (IsTerminal file n) (sources file.base.terminals (lexicals file.items)) r.terminals
      ground.resolves.terminals (inl x) (there_before file.base.terminals (lexicals file.items) x has) in
      record {
        number = f.place;
        is = record {
          other = f.row.owner;
          is = name_at (λ (x : Terminal). (x.owner, x.name)) r.terminals f.place f.row f.at
              ∙ ap (λ (z : List ℕ). Some (f.row.owner, z)) f.is_row.name;
          seen = inl (f.is_row.owner ∙ ground.host.terminals x has);
        };
      }

  plain_terminal : (name : List ℕ) (is : Sort) → is_lexical_sort is ≡ true → (x : PlainForm) → plain_declaration x ≡ d.Symbol name is
      → NameFound n.terminals file.owner name
  plain_terminal name is l (i.Nonterminal one) e = absurd (false≢true (ap is_lexical e ∙ l))
  plain_terminal name is l (i.Synthesized one its) e = absurd (false≢true (ap is_lexical e ∙ l))
  plain_terminal name is l (i.Inherited one its) e = absurd (false≢true (ap is_lexical e ∙ l))
  plain_terminal name is l (i.Prefer first second) e = absurd (false≢true (ap is_lexical e ∙ l))
  plain_terminal name is l (i.Start one) e = absurd (false≢true (ap is_lexical e ∙ l))
  plain_terminal name is l (i.Extensible one) e = absurd (false≢true (ap is_lexical e ∙ l))
  plain_terminal name is l (i.Closed one) e = absurd (false≢true (ap is_lexical e ∙ l))
  plain_terminal name is l (i.Occurs a m needs) e = absurd (false≢true (ap is_lexical e ∙ l))
  plain_terminal name is l (i.ForwardOn m needs) e = absurd (false≢true (ap is_lexical e ∙ l))

  terminal_by : (name : List ℕ) (is : Sort) → is_lexical_sort is ≡ true → IsDeclaredBy file.base file.items (d.Symbol name is)
      → NameFound n.terminals file.owner name
  terminal_by name is l (by.base_terminal x has e) =
      let same : x.name ≡ name = cc in subst (NameFound n.terminals file.owner) same (base_terminal x has)
  terminal_by name is l (by.lexical x has e) =
      let same : x.name ≡ name = cc in subst (NameFound n.terminals file.owner) same (own_terminal x has)
  terminal_by name is l (by.plain x has e) = plain_terminal name is l x e
  terminal_by name is l (by.base_nonterminal x has e) = absurd (false≢true (ap is_lexical e ∙ l))
  terminal_by name is l (by.base_attribute x has e) = absurd (false≢true (ap is_lexical e ∙ l))
  terminal_by name is l (by.base_occurrence x has e) = absurd (false≢true (ap is_lexical e ∙ l))
  terminal_by name is l (by.base_symbol p has e) = absurd (false≢true (ap is_lexical e ∙ l))
  terminal_by name is l (by.base_left p has e) = absurd (false≢true (ap is_lexical e ∙ l))
  terminal_by name is l (by.base_child p has c more e) = absurd (false≢true (ap is_lexical e ∙ l))
  terminal_by name is l (by.base_local p has x more e) = absurd (false≢true (ap is_lexical e ∙ l))
  terminal_by name is l (by.base_forward p has f some e) = absurd (false≢true (ap is_lexical e ∙ l))
  terminal_by name is l (by.base_equation p has q more e) = absurd (false≢true (ap is_lexical e ∙ l))
  terminal_by name is l (by.production x has e) = absurd (false≢true (ap is_lexical e ∙ l))
  terminal_by name is l (by.left x has e) = absurd (false≢true (ap is_lexical e ∙ l))
  terminal_by name is l (by.child x has c more e) = absurd (false≢true (ap is_lexical e ∙ l))
  terminal_by name is l (by.equation b has q more e) = absurd (false≢true (sym (target_no_lexical b.name q.target) ∙ ap is_lexical e ∙ l))

  pub terminal_found : (name : List ℕ) (is : Sort) → is_lexical_sort is ≡ true
      → Contains (declarations file.base file.items) (d.Symbol name is) → NameFound n.terminals file.owner name
  terminal_found name is l has = terminal_by name is l (declared_by file.base file.items (d.Symbol name is) has)

  -- occurrences
  own_occurrence : (x : OccurrenceDeclaration) → Contains (occurrences file.items) x → OccurrenceFound file r x.attribute x.nonterminal
  own_occurrence x has =
      let f = row_of_zip (IsOccurrence file n) (sources b.occurrences (occurrences file.items)) r.attributes.occurrences
      ground.resolves.occurrences (inr x) (there_declared b.occurrences (occurrences file.items) x has) in
      record {
        row = f.row;
        listed = contains_at r.attributes.occurrences f.row f.place f.at;
        of_attribute = f.is_row.attribute;
        on_nonterminal = f.is_row.nonterminal;
        seen = inr f.is_row.owner_is;
      }

  base_occurrence : (x : Occurrence) → Contains b.occurrences x
      → OccurrenceFound file r (attribute_name file.base x.attribute) (nonterminal_name file.base x.nonterminal)
  base_occurrence x has =
      let f = row_of_zip (IsOccurrence file n) (sources b.occurrences (occurrences file.items)) r.attributes.occurrences
      ground.resolves.occurrences (inl x) (there_before b.occurrences (occurrences file.items) x has) in
      record {
        row = f.row;
        listed = contains_at r.attributes.occurrences f.row f.place f.at;
        of_attribute = moved_attribute x.attribute f.row.attribute f.is_row.attribute;
        on_nonterminal = moved_nonterminal x.nonterminal f.row.nonterminal f.is_row.nonterminal;
        seen = inl (f.is_row.owner ∙ ground.host.occurrences x has);
      }

  plain_occurrence : (a m : List ℕ) (x : PlainForm) → Contains (plain_items file.items) x → plain_declaration x ≡ d.Occurrence a m
      → OccurrenceFound file r a m
  plain_occurrence a m (i.Occurs one other needs) has e =
      let same : one ≡ a = cc in
      let on : other ≡ m = cc in
      subst (λ k. OccurrenceFound file r k m) same (subst (λ k. OccurrenceFound file r one k) on
      (own_occurrence (record { attribute = one; nonterminal = other; needs = needs })
      (kept occurrence_of (plain_items file.items) _ _ has refl)))
  plain_occurrence a m (i.Nonterminal one) has e = absurd (false≢true (ap is_occurrence e))
  plain_occurrence a m (i.Synthesized one its) has e = absurd (false≢true (ap is_occurrence e))
  plain_occurrence a m (i.Inherited one its) has e = absurd (false≢true (ap is_occurrence e))
  plain_occurrence a m (i.Prefer first second) has e = absurd (false≢true (ap is_occurrence e))
  plain_occurrence a m (i.Start one) has e = absurd (false≢true (ap is_occurrence e))
  plain_occurrence a m (i.Extensible one) has e = absurd (false≢true (ap is_occurrence e))
  plain_occurrence a m (i.Closed one) has e = absurd (false≢true (ap is_occurrence e))
  plain_occurrence a m (i.ForwardOn one needs) has e = absurd (false≢true (ap is_occurrence e))

  occurrence_by : (a m : List ℕ) → IsDeclaredBy file.base file.items (d.Occurrence a m) → OccurrenceFound file r a m
  occurrence_by a m (by.base_occurrence x has e) =
      let same : attribute_name file.base x.attribute ≡ a = cc in
      let on : nonterminal_name file.base x.nonterminal ≡ m = cc in
      subst (λ k. OccurrenceFound file r k m) same
      (subst (λ k. OccurrenceFound file r (attribute_name file.base x.attribute) k) on (base_occurrence x has))
  occurrence_by a m (by.plain x has e) = plain_occurrence a m x has e
  occurrence_by a m (by.base_terminal x has e) = absurd (false≢true (ap is_occurrence e))
  occurrence_by a m (by.base_nonterminal x has e) = absurd (false≢true (ap is_occurrence e))
  occurrence_by a m (by.base_attribute x has e) = absurd (false≢true (ap is_occurrence e))
  occurrence_by a m (by.base_symbol p has e) = absurd (false≢true (ap is_occurrence e))
  occurrence_by a m (by.base_left p has e) = absurd (false≢true (ap is_occurrence e))
  occurrence_by a m (by.base_child p has c more e) = absurd (false≢true (ap is_occurrence e))
  occurrence_by a m (by.base_local p has l more e) = absurd (false≢true (ap is_occurrence e))
  occurrence_by a m (by.base_forward p has f is e) = absurd (false≢true (ap is_occurrence e))
  occurrence_by a m (by.base_equation p has q more e) = absurd (false≢true (ap is_occurrence e))
  occurrence_by a m (by.lexical x has e) = absurd (false≢true (ap is_occurrence e))
  occurrence_by a m (by.production x has e) = absurd (false≢true (ap is_occurrence e))
  occurrence_by a m (by.left x has e) = absurd (false≢true (ap is_occurrence e))
  occurrence_by a m (by.child x has c more e) = absurd (false≢true (ap is_occurrence e))
  occurrence_by a m (by.equation b has q more e) = absurd (false≢true (sym (target_no_occurrence b.name q.target) ∙ ap is_occurrence e))

  pub occurrence_found : (a m : List ℕ) → Contains (declarations file.base file.items) (d.Occurrence a m) → OccurrenceFound file r a m
  occurrence_found a m has = occurrence_by a m (declared_by file.base file.items (d.Occurrence a m) has)

  -- a number of a name is seen
  pub sees_nonterminal : (name : List ℕ) (k : ℕ) → IsNumber n.nonterminals file.owner name k → SeesNonterminal r.attributes file.owner k
  sees_nonterminal name k is =
      let row = row_at (λ (x : Nonterminal). (x.owner, x.name)) r.attributes.nonterminals k is.other name is.is in
      record { nonterminal = row.row; is = row.is; seen = subst (Sees file.owner) (sym row.owner_is) is.seen }

  pub sees_production : (name : List ℕ) (k : ℕ) → IsNumber n.productions file.owner name k → SeesProduction r.attributes file.owner k
  sees_production name k is =
      let row = row_at (λ (x : Production). (x.owner, x.name)) r.attributes.productions k is.other name is.is in
      record { production = row.row; is = row.is; seen = subst (Sees file.owner) (sym row.owner_is) is.seen }

  -- so is an attribute that is declared with this direction
  pub sees_attribute : (name : List ℕ) (direction : Direction) (k : ℕ) → IsNumber n.attributes file.owner name k
      → Contains (declarations file.base file.items) (d.Attribute name direction) → SeesAttribute r.attributes file.owner direction k
  sees_attribute name direction k is has =
      let f = attribute_found name direction has in
      let number : IsNumber n.attributes file.owner name f.number = record {
        other = f.row.owner;
        is = name_at (λ (x : Attribute). (x.owner, x.name)) r.attributes.attributes f.number f.row f.at
            ∙ ap (λ (z : List ℕ). Some (f.row.owner, z)) f.named;
        seen = f.seen;
      } in
      let same = one_number n.attributes ground.distinct.attributes file.owner name f.number k number is in
      record {
        attribute = f.row;
        is = subst (λ z. slice_get r.attributes.attributes z ≡ Some f.row) same f.at;
        goes = f.goes;
        seen = f.seen;
      }

  -- and an occurrence of it
  pub sees_occurrence : (a m : List ℕ) (direction : Direction) (k j : ℕ) → IsNumber n.attributes file.owner a k
      → IsNumber n.nonterminals file.owner m j → Contains (declarations file.base file.items) (d.Attribute a direction)
      → Contains (declarations file.base file.items) (d.Occurrence a m) → SeesOccurrence r.attributes file.owner direction k j
  sees_occurrence a m direction k j is on goes has =
      let f = occurrence_found a m has in
      record {
        attribute = sees_attribute a direction k is goes;
        occurrence = f.row;
        listed = f.listed;
        of_attribute = one_number n.attributes ground.distinct.attributes file.owner a f.row.attribute k f.of_attribute is;
        on_nonterminal = one_number n.nonterminals (nonterminals_differ n ground.distinct) file.owner m f.row.nonterminal j
            f.on_nonterminal on;
        seen = f.seen;
      }
