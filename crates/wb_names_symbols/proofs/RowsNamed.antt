-- Rows of terminals and of nonterminals, each sort from nothing, are the grouped rows of a base and of a file.
use Rattle.std.proofs.Common.{◌≡◌, ◌≢◌, ◌++◌, ◌⊎◌, inl, inr, [], ℕ, Bool, true, false, not, List, Some, Contains, length, ap, sym, refl}
use Rattle.std.proofs.Common.{subst, ◌∙◌}
use Rattle.std.specs.Prelude.{filter}
use Rattle.std.specs.List.{AllZip}
use Rattle.wb_syntax_resolved.specs.declared.attributes.Nonterminal.{Nonterminal}
use Rattle.wb_syntax_resolved.specs.declared.terminal.Terminal.{Terminal}
use Rattle.wb_syntax_resolved.specs.declared.terminal.TerminalKind.{TerminalKind}
use Rattle.wb_syntax_resolved.specs.declared.terminal.TerminalKind.TheVariants as t
use Rattle.wb_syntax.specs.declared.item.PlainForm.{PlainForm}
use Rattle.wb_syntax.specs.declared.item.PlainForm.TheVariants as i
use Rattle.wb_names_theory.specs.declared.declaration.Declaration.TheVariants as d
use Rattle.wb_names_theory.specs.declared.declaration.Sort.TheVariants as sort
use Rattle.wb_names_theory.specs.Declarations.{LexicalDeclaration, lexicals, nonterminals, nonterminal_of, plain_items}
use Rattle.wb_names_theory.specs.Declares.{declarations, item_declarations}
use Rattle.wb_names_theory.specs.Hold.{AreOnce}
use Rattle.wb_names_numbers_theory.specs.Files.{File, IsInGrammar, forward_needs_of, grammar_names}
use Rattle.wb_names_numbers_theory.specs.Resolves.{IsScanned, IsInGrammarOf}
use Rattle.wb_names_numbers_theory.specs.Rows.{terminal_kind}
use Rattle.wb_names_numbers_theory.specs.Sources.{sources}
use Rattle.wb_names_numbers_theory.proofs.RowsOwned.{plain_declares}
use Rattle.wb_names_numbers_theory.proofs.Selected.{kept_from}
use Rattle.wb_names_rows.specs.declared.scope.Scope.{Scope}
use Rattle.wb_names_rows.specs.declared.terminals.Terminals.{Terminals}
use Rattle.wb_names_rows.specs.Nodes.{IsAt}
use Rattle.wb_names_rows.specs.Terminals.{AddsTerminals, IsCopy, IsFoundTerminal, is_scanned, has_scanned, declares_scanned}
use Rattle.wb_names_rows.proofs.GroupLemmas.{splits_filter, zip_filtered}
use Rattle.wb_names_symbols.specs.declared.nonterminals.Nonterminals.{Nonterminals}
use Rattle.wb_names_symbols.specs.Inner.Nonterminals.{AddsJoined, AddsNonterminals, IsDeclaredRow, IsSame}
use Rattle.wb_names_symbols.specs.Rows.{AreGroupedBy, IsTerminalNow, IsNonterminalNow, IsFoundNonterminal}
use Rattle.wb_names_symbols.specs.Inner.Tables.{AreNonterminals}
use Rattle.wb_names_symbols.proofs.ApartLemmas.{grouped_parts, apart_grouped, apart_change, apart_rows}
use Rattle.wb_names_symbols.proofs.InGrammar.{not_base}
use Rattle.wb_names_symbols.proofs.JoinedLemmas.{joined}

-- layout is what isn't scanned
scanned : (kind : TerminalKind) → is_scanned kind ≡ true → kind ≢ t.Ignore
scanned t.Ignore is = absurd (cc is)
scanned t.Plain is = λ e. cc e
scanned t.Marking is = λ e. cc e

skipped : (kind : TerminalKind) → is_scanned kind ≡ false → ¬ (kind ≢ t.Ignore)
skipped t.Ignore is = λ other. other refl
skipped t.Plain is = absurd (cc is)
skipped t.Marking is = absurd (cc is)

abbrev test : Terminal ⊎ LexicalDeclaration → Bool
test (inl x) = has_scanned x
test (inr d) = declares_scanned d

lead : (x : Terminal ⊎ LexicalDeclaration) → test x ≡ true → IsScanned x
lead (inl x) is = scanned x.kind is
lead (inr d) is = scanned (terminal_kind d.role) is

others : (x : Terminal ⊎ LexicalDeclaration) → test x ≡ false → ¬ IsScanned x
others (inl x) is = skipped x.kind is
others (inr d) is = skipped (terminal_kind d.role) is

module _ (file : File) where
  abbrev words : List (Terminal ⊎ LexicalDeclaration)
  words = sources file.base.terminals (lexicals file.items)

  pub terminals_now : (start mid new : Terminals) → start.scanned.items ≡ [] → start.layout.items ≡ []
      → AddsTerminals has_scanned IsCopy file.base.terminals start mid
      → AddsTerminals declares_scanned (IsFoundTerminal file.owner) (lexicals file.items) mid new
      → AreGroupedBy (length new.scanned.items) IsScanned (IsTerminalNow file) words (new.scanned.items ++ new.layout.items)
  terminals_now start mid new none empty a b =
      let W = IsFoundTerminal file.owner in
      let unscanned = λ (x : Terminal ⊎ LexicalDeclaration). not (test x) in
      let first : a.scanned.0 ++ b.scanned.0 ≡ new.scanned.items =
      sym (b.scanned.1 ∙ ap (λ z. z ++ b.scanned.0) (a.scanned.1 ∙ ap (λ z. z ++ a.scanned.0) none)) in
      let second : a.layout.0 ++ b.layout.0 ≡ new.layout.items =
      sym (b.layout.1 ∙ ap (λ z. z ++ b.layout.0) (a.layout.1 ∙ ap (λ z. z ++ a.layout.0) empty)) in
      grouped_parts IsScanned (IsTerminalNow file) words (filter test words) (filter unscanned words) new.scanned.items new.layout.items
      (splits_filter IsScanned test lead others words)
      (subst (AllZip (IsTerminalNow file) (filter test words)) first
      (zip_filtered IsCopy W test file.base.terminals (lexicals file.items) a.scanned.0 b.scanned.0 a.scanned.2 b.scanned.2))
      (subst (AllZip (IsTerminalNow file) (filter unscanned words)) second
      (zip_filtered IsCopy W unscanned file.base.terminals (lexicals file.items) a.layout.0 b.layout.0 a.layout.2 b.layout.2))

  -- a nonterminal that items declare is declared
  is_nonterminal : (plain : PlainForm) (name : List ℕ) → nonterminal_of plain ≡ Some name → plain ≡ i.Nonterminal name
  is_nonterminal (i.Nonterminal z) name e = let same : z ≡ name = cc in ap i.Nonterminal same
  is_nonterminal (i.Prefer first second) name e = absurd (cc e)
  is_nonterminal (i.Start z) name e = absurd (cc e)
  is_nonterminal (i.Extensible z) name e = absurd (cc e)
  is_nonterminal (i.Closed z) name e = absurd (cc e)
  is_nonterminal (i.Synthesized z kind) name e = absurd (cc e)
  is_nonterminal (i.Inherited z kind) name e = absurd (cc e)
  is_nonterminal (i.Occurs a n needs) name e = absurd (cc e)
  is_nonterminal (i.ForwardOn n needs) name e = absurd (cc e)

  declares : (name : List ℕ) → Contains (nonterminals file.items) name
      → Contains (item_declarations file.items) (d.Symbol name sort.Nonterminal)
  declares name has =
      let k = kept_from nonterminal_of (plain_items file.items) name has in
      plain_declares file.items (i.Nonterminal name) (subst (Contains (plain_items file.items)) (is_nonterminal k.0 name k.2) k.1)

  module _ (once : AreOnce (declarations file.base file.items)) where
    only_own : (name : List ℕ) → Contains (nonterminals file.items) name → IsInGrammar file name → Contains (grammar_names file.items) name
    only_own name has (inl g) = absurd (not_base file.base file.items once name (declares name has) g)
    only_own name has (inr own) = own

    pub nonterminals_now : (s : Scope) (names : List (List ℕ)) → s.attributes ≡ names → (old new : Nonterminals) → old.of_grammar.items ≡ []
        → old.others.items ≡ [] → AddsNonterminals file names old new
        → AreGroupedBy (length new.of_grammar.items) (IsInGrammarOf file) (IsNonterminalNow file s)
        (sources file.base.attributes.nonterminals (nonterminals file.items)) (new.of_grammar.items ++ new.others.items)
    nonterminals_now s names are old new no_first no_others adds =
        let P : List ℕ → Type 0 = Contains (grammar_names file.items) in
        let Q : List ℕ → Type 0 = IsInGrammar file in
        let R = IsDeclaredRow file.owner file.items names in
        apart_grouped (IsInGrammarOf file) IsSame (IsFoundNonterminal file s) file.base.attributes.nonterminals
        (nonterminals file.items) old
        adds.mid new no_first no_others adds.base
        (apart_rows Q R (IsFoundNonterminal file s) found (nonterminals file.items) adds.mid new
        (apart_change P R Q (nonterminals file.items) adds.mid new (λ x has p. inr p) only_own adds.own)) where
          found : (name : List ℕ) (row : Nonterminal) → IsDeclaredRow file.owner file.items names name row
              → IsFoundNonterminal file s name row
          found name row is = record {
            name_is = is.name_is;
            owner_is = is.owner_is;
            closed = is.closed;
            needs = subst (λ z. AllZip (IsAt z) (forward_needs_of name file.items) row.forward_needs) (sym are) is.needs;
          }

    -- and in one list
    pub nonterminals_joined : (s : Scope) (names : List (List ℕ)) (count : ℕ) (old new : Nonterminals) → old.of_grammar.items ≡ []
        → old.others.items ≡ [] → AddsJoined file names count old new → s.attributes ≡ names → AreNonterminals file count new s
    nonterminals_joined s names count old new no_first no_others is are =
        joined (IsInGrammarOf file) (IsNonterminalNow file s) (sources file.base.attributes.nonterminals (nonterminals file.items)) count
        (length is.both.of_grammar.items) new.of_grammar.items (is.both.of_grammar.items ++ is.both.others.items) is.count_is is.joined
        (nonterminals_now s names are old is.both no_first no_others is.adds)
