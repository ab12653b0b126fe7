-- A file stands for one value at most.
use Rattle.std.proofs.Common.{◌≡◌, ◌∷◌, [], ◌⊎◌, inl, inr, ℕ, List, Option, Some, None, All, map, take, length, get_or, ap, sym, refl}
use Rattle.std.proofs.Common.{subst, ◌∙◌}
use Rattle.std.specs.Prelude.{IfSome, option_map, option_to_list}
use Rattle.wb_lemmas.proofs.Zips.{one_zip, zip_map}
use Rattle.wb_base.specs.declared.symbol.Symbol.{Symbol}
use Rattle.wb_base.specs.Grammar.{GrammarView}
use Rattle.wb_syntax_resolved.specs.declared.attributes.Attribute.{Attribute}
use Rattle.wb_syntax_resolved.specs.declared.attributes.Nonterminal.{Nonterminal}
use Rattle.wb_syntax_resolved.specs.declared.attributes.Occurrence.{Occurrence}
use Rattle.wb_syntax_resolved.specs.declared.production.Production.{Production}
use Rattle.wb_syntax_resolved.specs.declared.resolved.ResolvedParts.{ResolvedParts}
use Rattle.wb_syntax_resolved.specs.declared.terminal.Preference.{Preference}
use Rattle.wb_syntax_resolved.specs.declared.terminal.Terminal.{Terminal}
use Rattle.wb_syntax_resolved.specs.Grammar.{IsGrammarProduction}
use Rattle.wb_syntax_resolved.specs.Numbered.{signature_of}
use Rattle.wb_syntax_resolved.specs.Once.{Entry}
use Rattle.wb_syntax_resolved.specs.Resolved.{IsResolved}
use Rattle.wb_names_theory.specs.Declarations.{LexicalDeclaration, AttributeDeclaration, OccurrenceDeclaration, PreferenceDeclaration}
use Rattle.wb_names_theory.specs.Declarations.{ProductionDeclaration, lexicals, nonterminals, attributes, productions}
use Rattle.wb_names_numbers_theory.specs.Files.{File}
use Rattle.wb_names_numbers_theory.specs.Moved.{IsMovedNonterminal, IsMovedAttribute, IsMovedOccurrence, IsMovedTerminal, IsMovedPreference}
use Rattle.wb_names_numbers_theory.specs.Moved.{IsMovedNonterminalNumber}
use Rattle.wb_names_numbers_theory.specs.Numbering.{Numbering, numbering_of, IsNumber, labels_in}
use Rattle.wb_names_numbers_theory.specs.Resolves.{ResolvesIn, Resolves, move_of, starts_of, IsTerminal, IsNonterminal, IsAttribute}
use Rattle.wb_names_numbers_theory.specs.Resolves.{IsOccurrence}
use Rattle.wb_names_numbers_theory.specs.Resolves.{IsProduction, IsPreference, IsNonterminalNumber, IsScanned, IsInGrammarOf, IsConcrete}
use Rattle.wb_names_numbers_theory.specs.Resolves.{IsGrammarRow}
use Rattle.wb_names_numbers_theory.specs.Rows.{IsTerminalRow, IsNonterminalRow, IsAttributeRow, IsOccurrenceRow, IsPreferenceRow}
use Rattle.wb_names_numbers_theory.specs.Sources.{sources}
use Rattle.wb_names_numbers_theory.specs.OneValue.{IsOnlyValue}
use Rattle.wb_names_numbers_theory.proofs.OneRow.{AreDistinct, LabelsDiffer, one_terminal_row, one_nonterminal_row, one_attribute_row}
use Rattle.wb_names_numbers_theory.proofs.OneRow.{one_occurrence_row, one_preference_row, one_nonterminal_number}
use Rattle.wb_names_numbers_theory.proofs.OneMoved.{one_moved_nonterminal, one_moved_terminal_row, one_moved_nonterminal_row}
use Rattle.wb_names_numbers_theory.proofs.OneMoved.{one_moved_attribute_row}
use Rattle.wb_names_numbers_theory.proofs.OneMoved.{one_moved_occurrence_row, one_moved_preference_row}
use Rattle.wb_names_numbers_theory.proofs.OneProduction.{one_from, labels_differ, one_production_row, one_extended_production}
use Rattle.wb_names_numbers_theory.proofs.SourceLemmas.{grouped_map, one_grouped, one_split}

-- the owner and the name of what a row comes from
module _ (file : File) where
  pub terminal_entry : Terminal ⊎ LexicalDeclaration → Entry
  terminal_entry (inl t) = (t.owner, t.name)
  terminal_entry (inr d) = (file.owner, d.name)

  pub nonterminal_entry : Nonterminal ⊎ List ℕ → Entry
  nonterminal_entry (inl x) = (x.owner, x.name)
  nonterminal_entry (inr name) = (file.owner, name)

  pub attribute_entry : Attribute ⊎ AttributeDeclaration → Entry
  attribute_entry (inl x) = (x.owner, x.name)
  attribute_entry (inr d) = (file.owner, d.name)

  pub production_entry : Production ⊎ ProductionDeclaration → Entry
  production_entry (inl x) = (x.owner, x.name)
  production_entry (inr d) = (file.owner, d.production.name)

  module _ (n : Numbering) where
    pub terminal_names : (x : Terminal ⊎ LexicalDeclaration) (row : Terminal) → IsTerminal file n x row
        → (row.owner, row.name) ≡ terminal_entry x
    unfolding terminal_entry
    terminal_names (inl t) row e = λ j. (e.owner j, e.name j)
    terminal_names (inr d) row e = λ j. (e.owner_is j, e.name j)

    pub nonterminal_names : (x : Nonterminal ⊎ List ℕ) (row : Nonterminal) → IsNonterminal file n x row
        → (row.owner, row.name) ≡ nonterminal_entry x
    unfolding nonterminal_entry
    nonterminal_names (inl t) row e = λ j. (e.owner j, e.name j)
    nonterminal_names (inr d) row e = λ j. (e.owner_is j, e.name_is j)

    pub attribute_names : (x : Attribute ⊎ AttributeDeclaration) (row : Attribute) → IsAttribute file n x row
        → (row.owner, row.name) ≡ attribute_entry x
    unfolding attribute_entry
    attribute_names (inl t) row e = λ j. (e.owner j, e.name j)
    attribute_names (inr d) row e = λ j. (e.owner_is j, e.name j)

    pub production_names : (x : Production ⊎ ProductionDeclaration) (row : Production) → IsProduction file n x row
        → (row.owner, row.name) ≡ production_entry x
    unfolding production_entry
    production_names (inl t) row e = λ j. (e.owner_is j, e.name j)
    production_names (inr d) row e = λ j. (e.owner_is j, e.name j)

-- two values of a file number the same names
same_numbering : (file : File) (r s : ResolvedParts) → Resolves file r → Resolves file s → numbering_of r ≡ numbering_of s
same_numbering file r s a b =
    let n = numbering_of r in
    let o = numbering_of s in
    let terminals : n.terminals ≡ o.terminals = grouped_map IsScanned (IsTerminal file n) (IsTerminal file o) (terminal_entry file)
    (λ (t : Terminal). (t.owner, t.name)) (terminal_names file n) (terminal_names file o)
    (sources file.base.terminals (lexicals file.items)) r.terminals s.terminals a.terminals b.terminals in
    let symbols : n.nonterminals ≡ o.nonterminals = grouped_map (IsInGrammarOf file) (IsNonterminal file n) (IsNonterminal file o)
    (nonterminal_entry file) (λ (t : Nonterminal). (t.owner, t.name)) (nonterminal_names file n) (nonterminal_names file o)
    (sources file.base.attributes.nonterminals (nonterminals file.items)) r.attributes.nonterminals s.attributes.nonterminals
    a.nonterminals b.nonterminals in
    let rules : n.productions ≡ o.productions = grouped_map IsConcrete (IsProduction file n) (IsProduction file o)
    (production_entry file) (λ (t : Production). (t.owner, t.name)) (production_names file n) (production_names file o)
    (sources file.base.attributes.productions (productions file.items)) r.attributes.productions s.attributes.productions
    a.productions b.productions in
    let entry : Attribute → Entry = λ t. (t.owner, t.name) in
    let given : n.attributes ≡ o.attributes =
    zip_map (IsAttribute file n) (attribute_entry file) entry (attribute_names file n)
    (sources file.base.attributes.attributes (attributes file.items)) r.attributes.attributes a.attributes
    ∙ sym (zip_map (IsAttribute file o) (attribute_entry file) entry (attribute_names file o)
    (sources file.base.attributes.attributes (attributes file.items)) s.attributes.attributes b.attributes) in
    λ j. record { terminals = terminals j; nonterminals = symbols j; attributes = given j; productions = rules j }

-- the names of a resolved specification are distinct
distinct_names : (r : ResolvedParts) → IsResolved r → AreDistinct (numbering_of r)
distinct_names r is = record { symbols = is.once.symbols; attributes = is.attributes.once.attributes }

-- a production has one plain production
same_symbols : (xs ys : List Symbol) → map (λ (s : Symbol). Some s) xs ≡ map (λ (s : Symbol). Some s) ys → xs ≡ ys
same_symbols [] [] e = refl
same_symbols [] (y ∷ ys) e = absurd (cc e)
same_symbols (x ∷ xs) [] e = absurd (cc e)
same_symbols (x ∷ xs) (y ∷ ys) e =
    let heads : Some x ≡ Some y = cc in
    let head : x ≡ y = cc in
    let tails : map (λ (s : Symbol). Some s) xs ≡ map (λ (s : Symbol). Some s) ys = cc in
    ap (λ k. k ∷ xs) head ∙ ap (λ k. y ∷ k) (same_symbols xs ys tails)

one_plain : (p : Production) (x y : ℕ × List Symbol) → IsGrammarProduction p x → IsGrammarProduction p y → x ≡ y
one_plain p x y e f = λ j. ((e.left ∙ sym f.left) j, same_symbols x.1 y.1 (e.right ∙ sym f.right) j)

-- the start of a grammar, where there is one
one_start : (g h : Option GrammarView) → option_to_list (option_map (λ (x : GrammarView). x.start) g)
    ≡ option_to_list (option_map (λ (x : GrammarView). x.start) h)
    → (t u p : ℕ) (rows : List Production) → IfSome g (IsGrammarRow t u p rows) → IfSome h (IsGrammarRow t u p rows) → g ≡ h
one_start None None e t u p rows a b = refl
one_start None (Some h) e t u p rows a b = absurd (cc e)
one_start (Some g) None e t u p rows a b = absurd (cc e)
one_start (Some g) (Some h) e t u p rows a b =
    let start : g.start ≡ h.start = cc in
    ap Some (λ j. record {
      terminals = (a.terminals_are ∙ sym b.terminals_are) j;
      nonterminals = (a.nonterminals_are ∙ sym b.nonterminals_are) j;
      start = start j;
      productions = one_zip IsGrammarProduction one_plain (take p rows) g.productions h.productions a.productions_are b.productions_are j;
    })

-- the grammar of the same counts, productions and start is one
same_grammar : (g h : Option GrammarView) → option_to_list (option_map (λ (x : GrammarView). x.start) g)
    ≡ option_to_list (option_map (λ (x : GrammarView). x.start) h)
    → (t u p v w q : ℕ) (rows others : List Production) → t ≡ v → u ≡ w → p ≡ q → rows ≡ others
    → IfSome g (IsGrammarRow t u p rows) → IfSome h (IsGrammarRow v w q others) → g ≡ h
same_grammar g h e t u p v w q rows others i j k l a b =
    one_start g h e t u p rows a
    (subst (λ x. IfSome h (IsGrammarRow x u p rows)) (sym i) (subst (λ x. IfSome h (IsGrammarRow v x p rows)) (sym j)
    (subst (λ x. IfSome h (IsGrammarRow v w x rows)) (sym k) (subst (λ x. IfSome h (IsGrammarRow v w q x)) (sym l) b))))

module _ (file : File) (n : Numbering) (distinct : AreDistinct n) where
  one_terminal : (x : Terminal ⊎ LexicalDeclaration) (y z : Terminal) → Unit {0} → IsTerminal file n x y → IsTerminal file n x z → y ≡ z
  one_terminal x y z u = one_from (IsMovedTerminal (move_of file n)) (IsTerminalRow n file.owner file.items)
      (one_moved_terminal_row (move_of file n) distinct) (one_terminal_row n distinct file.owner file.items) x y z

  one_nonterminal : (x : Nonterminal ⊎ List ℕ) (y z : Nonterminal) → Unit {0} → IsNonterminal file n x y → IsNonterminal file n x z → y ≡ z
  one_nonterminal x y z u = one_from (IsMovedNonterminal (move_of file n)) (IsNonterminalRow n file.owner file.items)
      (one_moved_nonterminal_row (move_of file n) distinct) (one_nonterminal_row n distinct file.owner file.items) x y z

  one_attribute : (x : Attribute ⊎ AttributeDeclaration) (y z : Attribute) → IsAttribute file n x y → IsAttribute file n x z → y ≡ z
  one_attribute = one_from (IsMovedAttribute (move_of file n)) (IsAttributeRow n file.owner file.items)
      (one_moved_attribute_row (move_of file n) distinct) (one_attribute_row n distinct file.owner file.items)

  one_occurrence : (x : Occurrence ⊎ OccurrenceDeclaration) (y z : Occurrence) → IsOccurrence file n x y → IsOccurrence file n x z → y ≡ z
  one_occurrence = one_from (IsMovedOccurrence (move_of file n)) (IsOccurrenceRow n file.owner file.items)
      (one_moved_occurrence_row (move_of file n) distinct) (one_occurrence_row n distinct file.owner file.items)

  one_preference : (x : Preference ⊎ PreferenceDeclaration) (y z : Preference) → IsPreference file n x y → IsPreference file n x z → y ≡ z
  one_preference = one_from (IsMovedPreference (move_of file n)) (IsPreferenceRow n file.owner file.items)
      (one_moved_preference_row (move_of file n) distinct) (one_preference_row n distinct file.owner file.items)

  one_number_of : (x : ℕ ⊎ List ℕ) (y z : ℕ) → IsNonterminalNumber file n x y → IsNonterminalNumber file n x z → y ≡ z
  one_number_of = one_from (IsMovedNonterminalNumber (move_of file n)) (IsNumber n.nonterminals file.owner)
      (one_moved_nonterminal (move_of file n) distinct) (one_nonterminal_number n distinct file.owner)

  -- a production whose labels differ, and which the file's owner sees
  abbrev IsFit : Production → Type 0
  IsFit p = LabelsDiffer (labels_in p) p.owner file.owner

  one_production : (x : Production ⊎ ProductionDeclaration) (y z : Production) → IsFit y → IsProduction file n x y
      → IsProduction file n x z → y ≡ z
  one_production (inl p) y z fit = one_extended_production n file.owner distinct file.items (move_of file n) distinct p y z fit
  one_production (inr d) y z fit = one_production_row n file.owner distinct file.items d y z fit

-- each element has its trivial fact
trivial : {X : Type 0} (xs : List X) → All (λ (x : X). Unit {0}) xs
trivial xs i d within = tt

-- a resolved value that the file stands for is the only one
pub only_value : (file : File) (r : ResolvedParts) → IsOnlyValue file r
only_value file r is sees a s b =
    let n = numbering_of r in
    let distinct = distinct_names r is in
    let c : ResolvesIn n file s = subst (λ o. ResolvesIn o file s) (sym (same_numbering file r s a b)) b in
    let fit : All (IsFit file n distinct) r.attributes.productions = λ i d within.
    labels_differ (get_or r.attributes.productions i d) file.owner (is.attributes.once.productions i d within).labels (sees i d within) in
    let rules = one_grouped IsConcrete (IsProduction file n) (IsFit file n distinct) (one_production file n distinct) _
    r.attributes.productions
    s.attributes.productions fit a.productions c.productions in
    let terminals = one_grouped IsScanned (IsTerminal file n) (λ (x : Terminal). Unit {0}) (one_terminal file n distinct) _ r.terminals
    s.terminals (trivial r.terminals) a.terminals c.terminals in
    let symbols = one_grouped (IsInGrammarOf file) (IsNonterminal file n) (λ (x : Nonterminal). Unit {0}) (one_nonterminal file n distinct)
    _
    r.attributes.nonterminals s.attributes.nonterminals (trivial r.attributes.nonterminals) a.nonterminals c.nonterminals in
    let scanned = one_split IsScanned (sources file.base.terminals (lexicals file.items)) a.terminals.leading a.terminals.following
    c.terminals.leading c.terminals.following a.terminals.splits c.terminals.splits in
    let of_grammar = one_split (IsInGrammarOf file) (sources file.base.attributes.nonterminals (nonterminals file.items))
    a.nonterminals.leading a.nonterminals.following c.nonterminals.leading c.nonterminals.following a.nonterminals.splits
    c.nonterminals.splits in
    let concrete = one_split IsConcrete (sources file.base.attributes.productions (productions file.items)) a.productions.leading
    a.productions.following c.productions.leading c.productions.following a.productions.splits c.productions.splits in
    let grammar : r.grammar ≡ s.grammar =
    same_grammar r.grammar s.grammar (one_zip (IsNonterminalNumber file n) (one_number_of file n distinct) _ (starts_of r) (starts_of s)
    a.start c.start)
    _ _ _ _ _ _ r.attributes.productions s.attributes.productions
    (ap length scanned.0) (ap length of_grammar.0) (ap length concrete.0) rules a.grammar c.grammar in
    let attributes : r.attributes ≡ s.attributes = λ j. record {
      extensions = (a.extensions ∙ sym c.extensions) j;
      nonterminals = symbols j;
      attributes = one_zip (IsAttribute file n) (one_attribute file n distinct) _ r.attributes.attributes s.attributes.attributes
          a.attributes
          c.attributes j;
      occurrences = one_zip (IsOccurrence file n) (one_occurrence file n distinct) _ r.attributes.occurrences s.attributes.occurrences
          a.occurrences c.occurrences j;
      productions = rules j;
      signatures = (a.signatures ∙ (ap (map (signature_of file.extensions)) rules ∙ sym c.signatures)) j;
    } in
    λ j. record {
      host = (a.host ∙ sym c.host) j;
      grammar = grammar j;
      terminals = terminals j;
      preferences = one_zip (IsPreference file n) (one_preference file n distinct) _ r.preferences s.preferences a.preferences c.preferences
          j;
      extensible = one_zip (IsNonterminalNumber file n) (one_number_of file n distinct) _ r.extensible s.extensible a.extensible
          c.extensible j;
      attributes = attributes j;
    }
