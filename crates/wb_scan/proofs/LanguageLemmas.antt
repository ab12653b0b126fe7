-- What a grammar's facts and tables, and its expressions, say of its language.
use Rattle.std.proofs.Common.{◌≡◌, ◌+◌, ◌<◌, ◌∙◌, ℕ, List, [], ◌++◌, length, sym, ap, subst}
use Rattle.wb_automata.specs.Automata.{AutomatonView, IsMatch}
use Rattle.wb_base.specs.declared.symbol.Symbol.{Symbol}
use Rattle.wb_base.specs.Grammar.{GrammarView, IsGrammar}
use Rattle.wb_determinism_contexts.specs.Parts.{ArePartsOf}
use Rattle.wb_determinism_contexts.specs.declared.parts.Parts.{Parts}
use Rattle.wb_determinism_contexts.proofs.OrderLemmas.{ordered_stable}
use Rattle.wb_grammar.specs.Facts.{FactsView, AreFacts}
use Rattle.wb_scan_theory.specs.declared.form.Form.{Form}
use Rattle.wb_scan_theory.specs.Facts.{IsWritten, AreOrderedForms}
use Rattle.wb_scan_theory.specs.Parts.{AreTablesOf, AreLanguageParts}
use Rattle.wb_scan_theory.proofs.BareLemmas.{bare_decided}
use Rattle.wb_scan_theory.proofs.HasOneLemmas.{has_one}
use Rattle.wb_lexical.specs.Clash.{AreOrdered}
use Rattle.wb_regex.specs.Tree.{Tree}
use Rattle.wb_scan.specs.Bare.{language_with, AreWrittenFor}
use Rattle.wb_scan.specs.Inner.Lexicons.{AreStateSets}
use Rattle.wb_scan.specs.Refusals.{AreAcyclic, IsFormClash, IsFree}
use Rattle.wb_scan.proofs.FormLemmas.{bare_below, bare_is, bare_len, form_is}

-- the tables are the grammar's
pub tables_of_parts : (g : GrammarView) (parts : Parts) → ArePartsOf g parts → AreTablesOf g parts.tables
tables_of_parts g parts are =
    record { kernels = parts.kernels; are_kernels = are.kernels; same = are.grammar; are_tables = are.tables }

-- expressions that match something are those of the language
pub written_with : (g : GrammarView) (expressions : List Tree) (layout : List ℕ) (preferences : List (ℕ × ℕ))
    → AreWrittenFor g.terminals expressions layout preferences → ((t : ℕ) → ¬ IsMatch expressions t [])
    → IsWritten (language_with g expressions layout preferences)
written_with g expressions layout preferences written never = record {
  forms_below = λ place form at. subst (λ (f : Form). f.terminal < g.terminals) (bare_is g.terminals place form at)
      (bare_below g.terminals place form at);
  layout_numbers = written.numbers;
  expressions_len = written.count ∙ ap (λ (n : ℕ). n + length layout) (sym (bare_len g.terminals));
  prefixes = λ place form text at is. (
    text,
    ap (λ (p : List ℕ). p ++ text)
        (ap (λ (f : Form). f.prefix) (bare_is g.terminals place form at)),
  );
  no_empty = never;
}

-- a language without clashes has ordered forms
pub ordered_forms : (g : GrammarView) (expressions : List Tree) (layout : List ℕ) (preferences : List (ℕ × ℕ))
    → AreWrittenFor g.terminals expressions layout preferences → AreAcyclic (language_with g expressions layout preferences)
    → ((prefix : List Symbol) (left right : ℕ) (text : List ℕ)
    → ¬ IsFormClash (language_with g expressions layout preferences) prefix left right text)
    → AreOrderedForms (language_with g expressions layout preferences)
ordered_forms g expressions layout preferences written acyclic clear = record {
  bare = λ place form at. sym (ap (λ (f : Form). f.prefix) (bare_is g.terminals place form at));
  acyclic = acyclic;
  ordered = λ prefix viable place other f h text differ at_f at_h in_f in_h match_f match_h.
      subst (λ (t : ℕ). AreOrdered preferences t h.terminal) (sym (form_is g expressions layout preferences place f written at_f))
      (subst (λ (u : ℕ). AreOrdered preferences place u) (sym (form_is g expressions layout preferences other h written at_h))
      (ordered_stable preferences place other (λ unordered. clear prefix place other text (record {
        viable = viable;
        different = differ;
        left_considered = in_f;
        right_considered = in_h;
        left_matches = match_f;
        right_matches = match_h;
        unordered = unordered;
      }))));
}

-- all parts of a language
pub language_parts : (g : GrammarView) (facts : FactsView) (parts : Parts) (expressions : List Tree) (layout : List ℕ)
    (preferences : List (ℕ × ℕ)) (automaton : AutomatonView) → IsGrammar g → AreFacts g facts → ArePartsOf g parts
    → AreWrittenFor g.terminals expressions layout preferences → IsWritten (language_with g expressions layout preferences)
    → IsFree (language_with g expressions layout preferences) → automaton.terminals ≡ expressions
    → AreStateSets (language_with g expressions layout preferences) parts.tables automaton.sets
    → AreLanguageParts (language_with g expressions layout preferences) parts.tables automaton
language_parts g facts parts expressions layout preferences automaton in_range are parts_of given written free same sets = record {
  language = record {
    deterministic = record {
      in_range = in_range;
      reduced = are.reduced;
      no_unit_cycle = are.no_unit_cycle;
      no_hidden_left_recursion = are.no_hidden_left_recursion;
      no_conflict = free.no_conflict;
    };
    written = written;
    winners = has_one (language_with g expressions layout preferences) parts.tables written (tables_of_parts g parts parts_of)
        (bare_decided (ordered_forms g expressions layout preferences given free.acyclic free.no_clash) written);
  };
  tables_of = tables_of_parts g parts parts_of;
  expressions = same;
  count = sets.count;
  sets = sets.each;
}
