-- A file stands for the value of its rows, with the grammar of the first of them.
use Rattle.std.proofs.Common.{◌≡◌, ◌⊎◌, ℕ, List, Option, Contains, length, sym, refl, subst}
use Rattle.std.specs.Prelude.{IfSome, option_to_list}
use Rattle.std.specs.List.{AllZip}
use Rattle.wb_lemmas.proofs.Zips.{zip_weaker}
use Rattle.wb_base.specs.Grammar.{GrammarView}
use Rattle.wb_syntax_resolved.specs.declared.production.Production.{Production}
use Rattle.wb_names_theory.specs.Declarations.{ProductionDeclaration, attributes, extensibles, lexicals, nonterminals, occurrences}
use Rattle.wb_names_theory.specs.Declarations.{preferences}
use Rattle.wb_names_theory.specs.Declarations.{productions, starts}
use Rattle.wb_names_theory.specs.Hold.{NamesHold}
use Rattle.wb_names_numbers_theory.specs.Files.{File}
use Rattle.wb_names_numbers_theory.specs.Given.{IsFile}
use Rattle.wb_names_numbers_theory.specs.Numbering.{Numbering}
use Rattle.wb_names_numbers_theory.specs.Resolves.{Resolves, IsGrammarRow, IsScanned, IsInGrammarOf, IsConcrete}
use Rattle.wb_names_numbers_theory.specs.Resolves.{IsTerminal, IsNonterminal, IsAttribute}
use Rattle.wb_names_numbers_theory.specs.Resolves.{IsOccurrence, IsProduction, IsPreference, IsNonterminalNumber, move_of, starts_of}
use Rattle.wb_names_numbers_theory.specs.Sources.{sources, IsFrom}
use Rattle.wb_names_rows.specs.declared.moves.Moves.{Moves}
use Rattle.wb_names_rows.specs.declared.scope.Scope.{Scope}
use Rattle.wb_names_rows.specs.Base.{IsAttributeNow, IsOccurrenceNow, IsPreferenceNow}
use Rattle.wb_names_rows.specs.Plains.{IsFoundAttribute, IsFoundOccurrence, IsFoundPreference}
use Rattle.wb_names_rows.specs.Scope.{IsScope}
use Rattle.wb_names_rows.proofs.BaseMoved.{Stays}
use Rattle.wb_names_rows.proofs.MovedLemmas.{AreMoves}
use Rattle.wb_names_symbols.specs.Rows.{IsTerminalNow, IsNonterminalNow}
use Rattle.wb_names.specs.Resolving.{file_scope}
use Rattle.wb_names.specs.Inner.Joined.{Rows}
use Rattle.wb_names.specs.Inner.Now.{IsProductionNow}
use Rattle.wb_names.specs.Inner.Rest.{IsNumberNow}
use Rattle.wb_names.specs.Inner.Value.{AreRows, IsGrammarFor, value_of}
use Rattle.wb_names.proofs.Bridges.{is_terminal, is_nonterminal, is_attribute, is_occurrence, is_preference, is_nonterminal_number}
use Rattle.wb_names.proofs.ListLemmas.{grouped_listed, zip_listed}
use Rattle.wb_names.proofs.MovesRows.{are_moves, attributes_stay}
use Rattle.wb_names.proofs.ProductionsBridge.{is_production}
use Rattle.wb_names.proofs.ScopeRows.{is_scope, rows_numbering}

module _ (file : File) (given : IsFile file) {format : ℕ} (hold : NamesHold (file_scope format file)) (rows : Rows)
    (are : AreRows file rows) where
  abbrev n : Numbering
  n = rows_numbering rows

  abbrev s : Scope
  s = are.scope

  abbrev m : Moves
  m = are.moves

  scope : IsScope s n
  scope = is_scope file given rows are

  moves : AreMoves m (move_of file n)
  moves = are_moves file given hold rows are

  stays : Stays (move_of file n)
  stays = attributes_stay file given hold rows are

  number_is : (x : ℕ ⊎ List ℕ) (k : ℕ) → IsNumberNow s m x k → IsNonterminalNumber file n x k
  number_is = is_nonterminal_number file given.base s m n are.numbers.owner scope moves stays

  production_is : (x : Production ⊎ ProductionDeclaration) (row : Production)
      → Contains (sources file.base.attributes.productions (productions file.items)) x → IsProductionNow file s m x row
      → IsProduction file n x row
  production_is x row has e = is_production file s m n given are.numbers scope moves stays x row e has

  -- the grammar of so many terminals, nonterminals and productions
  grammar_row : (g : Option GrammarView) (t u p v w q : ℕ) → t ≡ v → u ≡ w → p ≡ q
      → IfSome g (IsGrammarRow v w q rows.productions) → IfSome g (IsGrammarRow t u p rows.productions)
  grammar_row g t u p v w q a b c is =
      subst (λ z. IfSome g (IsGrammarRow z u p rows.productions)) (sym a)
      (subst (λ z. IfSome g (IsGrammarRow v z p rows.productions)) (sym b)
      (subst (λ z. IfSome g (IsGrammarRow v w z rows.productions)) (sym c) is))

  pub rows_resolve : (g : Option GrammarView) → IsGrammarFor rows.scanned rows.of_grammar rows.concrete rows.productions rows.rest.start g
      → Resolves file (value_of file rows g)
  rows_resolve g is = record {
    host = refl;
    extensions = refl;
    terminals = grouped_listed IsScanned (IsTerminalNow file) (IsTerminal file n) (sources file.base.terminals (lexicals file.items))
        rows.terminals (λ x row has e. is_terminal file n x row e) are.terminals.0;
    nonterminals = grouped_listed (IsInGrammarOf file) (IsNonterminalNow file s) (IsNonterminal file n)
        (sources file.base.attributes.nonterminals (nonterminals file.items)) rows.nonterminals
        (is_nonterminal file given.base s m n are.numbers.owner scope moves stays) are.nonterminals.0;
    productions = grouped_listed IsConcrete (IsProductionNow file s m) (IsProduction file n)
        (sources file.base.attributes.productions (productions file.items)) rows.productions production_is
        are.written.productions.0;
    attributes = zip_weaker (IsFrom (IsAttributeNow m) (IsFoundAttribute s)) (IsAttribute file n)
        (is_attribute file given.base s m n are.numbers.owner scope moves stays)
        (sources file.base.attributes.attributes (attributes file.items)) rows.rest.plains.attributes.items
        are.written.rest.plains.attributes;
    occurrences = zip_listed (IsFrom (IsOccurrenceNow m) (IsFoundOccurrence s)) (IsOccurrence file n)
        (sources file.base.attributes.occurrences (occurrences file.items)) rows.rest.plains.occurrences.items
        (is_occurrence file given.base s m n are.numbers.owner scope moves stays) are.written.rest.plains.occurrences;
    preferences = zip_weaker (IsFrom (IsPreferenceNow m) (IsFoundPreference s)) (IsPreference file n)
        (is_preference file given.base s m n are.numbers.owner scope moves stays)
        (sources file.base.preferences (preferences file.items)) rows.rest.plains.preferences.items
        are.written.rest.plains.preferences;
    extensible = zip_weaker (IsNumberNow s m) (IsNonterminalNumber file n) number_is (sources file.base.extensible (extensibles file.items))
        rows.rest.extensible.items are.written.rest.extensible;
    start = subst (AllZip (IsNonterminalNumber file n) (sources (starts_of file.base) (starts file.items))) (sym is.start)
        (zip_weaker (IsNumberNow s m) (IsNonterminalNumber file n) number_is (sources (starts_of file.base) (starts file.items))
        (option_to_list rows.rest.start) are.written.rest.start);
    grammar = grammar_row g (length are.terminals.0.leading) (length are.nonterminals.0.leading)
        (length are.written.productions.0.leading) rows.scanned rows.of_grammar rows.concrete are.terminals.1 are.nonterminals.1
        are.written.productions.1 is.made;
    signatures = refl;
  }
