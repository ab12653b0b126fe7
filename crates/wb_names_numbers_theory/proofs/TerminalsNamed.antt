-- Terminals, preferences, the start and extensible nonterminals of a file whose names are right.
use Rattle.std.proofs.Common.{◌≡◌, ◌⊎◌, inl, inr, [], ℕ, zero, suc, List, Option, Some}
use Rattle.std.proofs.Common.{None}
use Rattle.std.proofs.Common.{Contains, All, ap, sym, refl, subst, ◌∙◌, arith}
use Rattle.std.specs.Prelude.{IfSome, option_map, option_to_list}
use Rattle.std.specs.List.{AllZip}
use Rattle.std.proofs.lemmas.List.Elements.{All-head}
use Rattle.wb_lemmas.proofs.Elements.{all_contained}
use Rattle.wb_lemmas.proofs.Members.{contains_at, contains_first, nothing_in}
use Rattle.wb_base.specs.Grammar.{GrammarView}
use Rattle.wb_base.specs.Identifiers.{IsName}
use Rattle.wb_syntax_resolved.specs.declared.attributes.Nonterminal.{Nonterminal}
use Rattle.wb_syntax_resolved.specs.declared.attribution.AttributionParts.{AttributionParts}
use Rattle.wb_syntax_resolved.specs.declared.resolved.ResolvedParts.{ResolvedParts}
use Rattle.wb_syntax_resolved.specs.declared.terminal.Preference.{Preference}
use Rattle.wb_syntax_resolved.specs.declared.terminal.Terminal.{Terminal}
use Rattle.wb_syntax_resolved.specs.declared.terminal.TerminalKind.TheVariants as t
use Rattle.wb_syntax_resolved.specs.Owners.{Sees}
use Rattle.wb_syntax_resolved.specs.Resolved.{IsNamedTerminal, SeesTerminal, IsNamedPreference}
use Rattle.wb_syntax_resolved.specs.Visible.{SeesNonterminal}
use Rattle.wb_syntax.specs.declared.item.Item.{Item}
use Rattle.wb_syntax.specs.declared.item.ItemForm.{ItemForm}
use Rattle.wb_syntax.specs.declared.item.ItemForm.TheVariants as f
use Rattle.wb_syntax.specs.declared.item.PlainForm.{PlainForm}
use Rattle.wb_syntax.specs.declared.item.PlainForm.TheVariants as i
use Rattle.wb_syntax.specs.declared.pattern.Pattern.{Pattern}
use Rattle.wb_syntax.specs.declared.pattern.Role.{Role}
use Rattle.wb_syntax.specs.declared.pattern.Role.TheVariants as lexical_role
use Rattle.wb_names_theory.specs.declared.declaration.Declaration.{Declaration}
use Rattle.wb_names_theory.specs.declared.declaration.Declaration.TheVariants as d
use Rattle.wb_names_theory.specs.Declarations.{LexicalDeclaration, PreferenceDeclaration, lexicals}
use Rattle.wb_names_theory.specs.Declarations.{preferences, extensibles, starts, plain_items}
use Rattle.wb_names_theory.specs.Declarations.{lexical_of}
use Rattle.wb_names_theory.specs.Declarations.{start_of, extensible_of}
use Rattle.wb_names_theory.specs.Declares.{item_declarations, plain_declaration}
use Rattle.wb_names_theory.specs.WrongKind.{form_misplaced, misplaced_marker}
use Rattle.wb_names_numbers_theory.specs.Files.{File}
use Rattle.wb_names_numbers_theory.specs.Given.{IsFile}
use Rattle.wb_names_numbers_theory.specs.Moved.{IsMovedTerminalNumber, IsMovedNonterminalNumber}
use Rattle.wb_names_numbers_theory.specs.Numbering.{Numbering, numbering_of, IsNumber}
use Rattle.wb_names_numbers_theory.specs.Resolves.{move_of, IsTerminal}
use Rattle.wb_names_numbers_theory.specs.Resolves.{IsPreference}
use Rattle.wb_names_numbers_theory.specs.Resolves.{IsNonterminalNumber}
use Rattle.wb_names_numbers_theory.specs.Rows.{terminal_kind}
use Rattle.wb_names_numbers_theory.specs.Sources.{sources}
use Rattle.wb_names_numbers_theory.proofs.Carrying.{row_at}
use Rattle.wb_names_numbers_theory.proofs.Ground.{Ground}
use Rattle.wb_names_numbers_theory.proofs.OwnNamed.{Known}
use Rattle.wb_names_numbers_theory.proofs.RowLemmas.{all_zipped, source_before, source_declared}
use Rattle.wb_names_numbers_theory.proofs.RowsNamed.{is_owner, is_host}
use Rattle.wb_names_numbers_theory.proofs.OwnDeclared.{flat_map_contains}
use Rattle.wb_names_numbers_theory.proofs.Selected.{kept_from}
use Rattle.wb_names_numbers_theory.proofs.Used.{lexical_name}
use Rattle.wb_names_numbers_theory.proofs.RowsOwned.{plain_declares}
use Rattle.wb_names_numbers_theory.proofs.Attributed.{owners}

module _ (file : File) (r : ResolvedParts) (given : IsFile file) (k : Known file r) where
  abbrev n : Numbering
  n = numbering_of r

  abbrev a : AttributionParts
  a = r.attributes

  abbrev b : AttributionParts
  b = file.base.attributes

  abbrev ground : Ground file r
  ground = k.ground

  -- terminals
  marker_of_host : (x : LexicalDeclaration) → Contains (lexicals file.items) x → x.role ≡ lexical_role.Marking → (o : ℕ)
      → file.owner ≡ o → o ≡ 0 → ⊥
  marker_of_host x has marking (suc o) is zero_is = absurd (omega (arith, zero_is))
  marker_of_host x has marking zero is zero_is =
      let m = kept_from (λ (y : Item Pattern). lexical_of y.form) file.items x has in
      let inside = flat_map_contains (λ (y : Item Pattern). form_misplaced file.owner y.form) file.items m.0 x.name m.1 (from m.0.form m.2)
      in
      nothing_in x.name (subst (λ z. Contains z x.name) k.hold.placed inside) where
        from : (form : ItemForm Pattern) → lexical_of form ≡ Some x → Contains (form_misplaced file.owner form) x.name
        from (f.Plain y) e = absurd (cc e)
        from (f.Production role p) e = absurd (cc e)
        from (f.Aspect name es) e = absurd (cc e)
        from (f.Lexical role name pattern) e =
            let same : record { role = role; name = name; pattern = pattern } ≡ x = cc in
            let named_is : name ≡ x.name = ap (λ (z : LexicalDeclaration). z.name) same in
            let role_is : role ≡ lexical_role.Marking = ap (λ (z : LexicalDeclaration). z.role) same ∙ marking in
            subst (λ z. Contains (misplaced_marker file.owner role name) z) named_is
            (subst (λ z. Contains (misplaced_marker file.owner z name) name) (sym role_is)
            (subst (λ z. Contains (misplaced_marker z lexical_role.Marking name) name) (sym is) (contains_first name [])))

  marking_role : (role : Role) → terminal_kind role ≡ t.Marking → role ≡ lexical_role.Marking
  marking_role lexical_role.Terminal e = absurd (cc e)
  marking_role lexical_role.Ignore e = absurd (cc e)
  marking_role lexical_role.Marking e = refl

  pub named_terminal : (x : Terminal ⊎ LexicalDeclaration) (row : Terminal) → Contains (sources file.base.terminals (lexicals file.items)) x
      → Contains r.terminals row → IsTerminal file n x row → IsNamedTerminal r row
  named_terminal (inl x) row has listed e =
      let inside = source_before file.base.terminals (lexicals file.items) x has in
      let before = all_contained (IsNamedTerminal file.base) file.base.terminals x ground.base.terminals inside in
      record {
        owner = is_host file r k (owners file r given k) row.owner (e.owner ∙ ground.host.terminals x inside);
        name = subst IsName (sym e.name) before.name;
        marking = λ q z. before.marking (sym e.kind ∙ q) (sym e.owner ∙ z);
      }
  named_terminal (inr x) row has listed e =
      let inside = source_declared file.base.terminals (lexicals file.items) x has in
      record {
        owner = is_owner file r k (owners file r given k) row.owner e.owner_is;
        name = subst IsName (sym e.name) (lexical_name file.items k.names x inside);
        marking = λ q z. marker_of_host x inside (marking_role x.role (sym e.kind ∙ q)) file.owner refl (sym e.owner_is ∙ z);
      }

  -- a number of a terminal is seen
  pub sees_terminal : (owner : ℕ) (name : List ℕ) (j : ℕ) → IsNumber n.terminals owner name j → SeesTerminal r owner j
  sees_terminal owner name j is =
      let row = row_at (λ (x : Terminal). (x.owner, x.name)) r.terminals j is.other name is.is in
      record { terminal = row.row; is = row.is; seen = subst (Sees owner) (sym row.owner_is) is.seen }

  moved_terminal_number : (j i : ℕ) → IsMovedTerminalNumber (move_of file n) j i → (owner : ℕ) → SeesTerminal r owner i
  moved_terminal_number j i m owner =
      let before = row_at (λ (x : Terminal). (x.owner, x.name)) file.base.terminals j m.owner m.name m.before in
      let zero_is : m.owner ≡ 0 =
      sym before.owner_is ∙ ground.host.terminals before.row (contains_at file.base.terminals before.row j before.is) in
      sees_terminal owner m.name i (record { other = m.owner; is = m.after; seen = inl zero_is })

  pub named_preference : (x : Preference ⊎ PreferenceDeclaration) (row : Preference) → Contains (sources file.base.preferences (preferences
      file.items)) x
      → Contains r.preferences row → IsPreference file n x row → IsNamedPreference r row
  named_preference (inl x) row has listed e = record {
    owner = 0;
    is_owner = is_host file r k (owners file r given k) 0 refl;
    first = moved_terminal_number x.first row.first e.first 0;
    second = moved_terminal_number x.second row.second e.second 0;
  }
  named_preference (inr x) row has listed e = record {
    owner = file.owner;
    is_owner = is_owner file r k (owners file r given k) file.owner refl;
    first = sees_terminal file.owner x.first row.first e.first;
    second = sees_terminal file.owner x.second row.second e.second;
  }

  -- start and extensible nonterminals are the host's
  plain_own : (name : List ℕ) (it : Declaration) (form : PlainForm) → Contains (plain_items file.items) form → plain_declaration form ≡ it
      → Contains (item_declarations file.items) it
  plain_own name it form has e = subst (Contains (item_declarations file.items)) e (plain_declares file.items form has)

  start_own : (name : List ℕ) → Contains (starts file.items) name → Contains (item_declarations file.items) (d.Start name)
  start_own name has = let z = kept_from start_of (plain_items file.items) name has in from z.0 z.1 z.2 where
    from : (form : PlainForm) → Contains (plain_items file.items) form → start_of form ≡ Some name
        → Contains (item_declarations file.items) (d.Start name)
    from (i.Start m) there e = let same : m ≡ name = cc in plain_own name (d.Start name) (i.Start m) there (ap d.Start same)
    from (i.Prefer first second) there e = absurd (cc e)
    from (i.Nonterminal m) there e = absurd (cc e)
    from (i.Extensible m) there e = absurd (cc e)
    from (i.Closed m) there e = absurd (cc e)
    from (i.Synthesized m its) there e = absurd (cc e)
    from (i.Inherited m its) there e = absurd (cc e)
    from (i.Occurs m l needs) there e = absurd (cc e)
    from (i.ForwardOn m needs) there e = absurd (cc e)

  extensible_own : (name : List ℕ) → Contains (extensibles file.items) name → Contains (item_declarations file.items) (d.Extensible name)
  extensible_own name has = let z = kept_from extensible_of (plain_items file.items) name has in from z.0 z.1 z.2 where
    from : (form : PlainForm) → Contains (plain_items file.items) form → extensible_of form ≡ Some name
        → Contains (item_declarations file.items) (d.Extensible name)
    from (i.Extensible m) there e = let same : m ≡ name = cc in plain_own name (d.Extensible name) (i.Extensible m) there (ap d.Extensible
        same)
    from (i.Prefer first second) there e = absurd (cc e)
    from (i.Nonterminal m) there e = absurd (cc e)
    from (i.Start m) there e = absurd (cc e)
    from (i.Closed m) there e = absurd (cc e)
    from (i.Synthesized m its) there e = absurd (cc e)
    from (i.Inherited m its) there e = absurd (cc e)
    from (i.Occurs m l needs) there e = absurd (cc e)
    from (i.ForwardOn m needs) there e = absurd (cc e)

  -- an owner that isn't the host says neither
  not_host : (o : ℕ) → file.owner ≡ suc o → file.owner ≡ 0 → ⊥
  not_host o is zero_is = let both : suc o ≡ 0 = sym is ∙ zero_is in absurd (omega (arith, both))

  pub no_start : (o : ℕ) → file.owner ≡ suc o → (name : List ℕ) → Contains (starts file.items) name → ⊥
  no_start o is name has = (k.hold.owned (not_host o is)).start name (start_own name has)

  pub no_extensible : (o : ℕ) → file.owner ≡ suc o → (name : List ℕ) → Contains (extensibles file.items) name → ⊥
  no_extensible o is name has = (k.hold.owned (not_host o is)).extensible name (extensible_own name has)

  host_number : (j i : ℕ) → IsMovedNonterminalNumber (move_of file n) j i → SeesNonterminal a 0 i
  host_number j i m =
      let before = row_at (λ (x : Nonterminal). (x.owner, x.name)) b.nonterminals j m.owner m.name m.before in
      let after = row_at (λ (x : Nonterminal). (x.owner, x.name)) a.nonterminals i m.owner m.name m.after in
      let zero_is : m.owner ≡ 0 =
      sym before.owner_is ∙ ground.host.nonterminals before.row (contains_at b.nonterminals before.row j before.is) in
      record { nonterminal = after.row; is = after.is; seen = inl (after.owner_is ∙ zero_is) }

  own_number : (o : ℕ) → file.owner ≡ o → (name : List ℕ) (i : ℕ) → IsNumber n.nonterminals file.owner name i
      → ((q : ℕ) → file.owner ≡ suc q → ⊥) → SeesNonterminal a 0 i
  own_number zero is name i number never =
      let row = row_at (λ (x : Nonterminal). (x.owner, x.name)) a.nonterminals i number.other name number.is in
      record { nonterminal = row.row; is = row.is; seen = inl (row.owner_is ∙ seen_zero number.seen) } where
        seen_zero : Sees file.owner number.other → number.other ≡ 0
        seen_zero (inl z) = z
        seen_zero (inr same) = same ∙ is
  own_number (suc o) is name i number never = absurd (never o is)

  pub host_numbers : (before : List ℕ) (declared : List (List ℕ)) (numbers : List ℕ)
      → AllZip (IsNonterminalNumber file n) (sources before declared) numbers
      → ((o : ℕ) → file.owner ≡ suc o → (name : List ℕ) → Contains declared name → ⊥) → All (SeesNonterminal a 0) numbers
  host_numbers before declared numbers all never =
      all_zipped (IsNonterminalNumber file n) (SeesNonterminal a 0) (sources before declared) numbers all (λ x i has listed e. from x i has
      e) where
        from : (x : ℕ ⊎ List ℕ) (i : ℕ) → Contains (sources before declared) x → IsNonterminalNumber file n x i → SeesNonterminal a 0 i
        from (inl j) i has e = host_number j i e
        from (inr name) i has e = own_number file.owner refl name i e (λ o is. never o is name (source_declared before declared name has))

  pub start_seen : (o : Option GrammarView) → All (SeesNonterminal a 0) (option_to_list (option_map (λ (g : GrammarView). g.start) o))
      → IfSome o (λ (g : GrammarView). SeesNonterminal a 0 g.start)
  start_seen None all = tt
  start_seen (Some g) all = All-head (SeesNonterminal a 0) g.start [] all
