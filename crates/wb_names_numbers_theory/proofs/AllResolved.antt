-- The value that a file whose names are right stands for is resolved.
use Rattle.std.proofs.Common.{◌≢◌}
use Rattle.std.proofs.Common.{sym, refl, subst}
use Rattle.wb_base.specs.Identifiers.{IsName}
use Rattle.wb_syntax_resolved.specs.declared.attributes.Nonterminal.{Nonterminal}
use Rattle.wb_syntax_resolved.specs.declared.attribution.AttributionParts.{AttributionParts}
use Rattle.wb_syntax_resolved.specs.declared.resolved.ResolvedParts.{ResolvedParts}
use Rattle.wb_syntax_resolved.specs.declared.terminal.Terminal.{Terminal}
use Rattle.wb_syntax_resolved.specs.declared.terminal.TerminalKind.TheVariants as t
use Rattle.wb_syntax_resolved.specs.Grammar.{IsOfGrammar}
use Rattle.wb_syntax_resolved.specs.Resolved.{IsResolved, IsNamedTerminal, IsNamedPreference, HasGrammarTerminals}
use Rattle.wb_names_theory.specs.Declarations.{lexicals}
use Rattle.wb_names_theory.specs.Declarations.{nonterminals, productions, preferences, extensibles, starts}
use Rattle.wb_names_numbers_theory.specs.Files.{File}
use Rattle.wb_names_numbers_theory.specs.Given.{IsFile, GivesResolved}
use Rattle.wb_names_numbers_theory.specs.Numbering.{Numbering, numbering_of}
use Rattle.wb_names_numbers_theory.specs.Resolves.{starts_of, IsTerminal, IsNonterminal, IsProduction}
use Rattle.wb_names_numbers_theory.specs.Resolves.{IsPreference}
use Rattle.wb_names_numbers_theory.specs.Resolves.{IsScanned, IsInGrammarOf, IsConcrete}
use Rattle.wb_names_numbers_theory.specs.Sources.{sources}
use Rattle.wb_names_numbers_theory.proofs.Ground.{Ground}
use Rattle.wb_names_numbers_theory.proofs.Grouped.{rising_sources, is_grouped}
use Rattle.wb_names_numbers_theory.proofs.OwnNamed.{Known}
use Rattle.wb_names_numbers_theory.proofs.RowLemmas.{all_rows, all_zipped}
use Rattle.wb_names_numbers_theory.proofs.PreferencesOnce.{preferences_differ, extensible_differ}
use Rattle.wb_names_numbers_theory.proofs.Attributed.{attribution}
use Rattle.wb_names_numbers_theory.proofs.ChildrenScanned.{children_of}
use Rattle.wb_names_numbers_theory.proofs.GrammarNumbered.{grammar_if, nonterminal_leads, owner_of_nonterminal, owner_of_terminal}
use Rattle.wb_names_numbers_theory.proofs.GrammarNumbered.{terminal_leads}
use Rattle.wb_names_numbers_theory.proofs.TerminalsNamed.{host_numbers, named_preference, named_terminal, no_extensible, no_start}
use Rattle.wb_names_numbers_theory.proofs.TerminalsNamed.{start_seen}
use Rattle.wb_names_numbers_theory.proofs.Attributed.{known, nonterminal_owner, terminal_owner}

module _ (file : File) (r : ResolvedParts) (given : IsFile file) (k : Known file r) where
  abbrev n : Numbering
  n = numbering_of r

  abbrev a : AttributionParts
  a = r.attributes

  abbrev b : AttributionParts
  b = file.base.attributes

  abbrev ground : Ground file r
  ground = k.ground

  pub resolved : IsResolved r
  resolved = record {
    attributes = (attribution file r given k);
    host = subst IsName (sym ground.resolves.host) given.base.host;
    terminals = all_rows IsScanned (IsTerminal file n) (IsNamedTerminal r) (sources file.base.terminals (lexicals file.items)) r.terminals
        ground.resolves.terminals (named_terminal file r given k);
    preferences = all_zipped (IsPreference file n) (IsNamedPreference r) (sources file.base.preferences (preferences file.items))
        r.preferences
        ground.resolves.preferences (named_preference file r given k);
    start = (start_seen file r given k) r.grammar ((host_numbers file r given k) (starts_of file.base) (starts file.items) (starts_of r) ground.resolves.start (no_start file r given k));
    extensible = (host_numbers file r given k) file.base.extensible (extensibles file.items) r.extensible ground.resolves.extensible (no_extensible file r given k);
    children = all_rows IsConcrete (IsProduction file n) (HasGrammarTerminals r) (sources b.productions (productions file.items))
        a.productions
        ground.resolves.productions (children_of file r given k);
    once = record {
      symbols = ground.distinct.symbols;
      preferences = preferences_differ file r given k;
      extensible = extensible_differ file r given k;
    };
    numbered = record {
      terminals = is_grouped IsScanned (IsTerminal file n) (sources file.base.terminals (lexicals file.items)) r.terminals
          ground.resolves.terminals (terminal_owner file.owner) (λ (y : Terminal). y.owner) (λ j y. y.kind ≢ t.Ignore)
          (rising_sources (terminal_owner file.owner) file.owner file.base.terminals (lexicals file.items) ground.host.terminals (λ y.
          refl))
          (owner_of_terminal file r given k) (terminal_leads file r given k);
      nonterminals = is_grouped (IsInGrammarOf file) (IsNonterminal file n) (sources b.nonterminals (nonterminals file.items))
          a.nonterminals
          ground.resolves.nonterminals (nonterminal_owner file.owner) (λ (y : Nonterminal). y.owner) (λ j y. IsOfGrammar r j)
          (rising_sources (nonterminal_owner file.owner) file.owner b.nonterminals (nonterminals file.items) ground.host.nonterminals (λ y.
          refl))
          (owner_of_nonterminal file r given k) (nonterminal_leads file r given k);
      grammar = (grammar_if file r given k) r.grammar ground.resolves.grammar;
    };
  }

-- each value of a file whose names are right is resolved
pub gives_resolved : (file : File) (r : ResolvedParts) → GivesResolved file r
gives_resolved file r given format hold resolves = resolved file r given (known file r given format hold resolves)
