-- A language with tables and an automaton: what these say of it, and the prefixes that a state stands for.
use Rattle.std.specs.Prelude.{◌≡◌, ◌<◌, ◌↔◌, ℕ, List, length}
use Rattle.wb_base.specs.declared.symbol.Symbol.{Symbol}
use Rattle.wb_base.specs.Grammar.{GrammarView}
use Rattle.wb_grammar_theory.specs.Items.{IsViablePrefix, SameKernel}
use Rattle.wb_items.specs.Kernels.{KernelsView, AreKernels, count_of, prefix_of}
use Rattle.wb_lookahead.specs.Contents.{TablesView, size_of}
use Rattle.wb_lookahead.specs.Tables.{AreTables}
use Rattle.wb_automata.specs.Automata.{AutomatonView, IsConsidered}
use Rattle.wb_scan_theory.specs.Languages.{LanguageView}
use Rattle.wb_scan_theory.specs.Winners.{IsConsideredForm}
use Rattle.wb_scan_theory.specs.Facts.{IsLanguage}

-- the tables are those of the grammar, by some numbering of its kernels
pub record AreTablesOf (g : GrammarView) (tables : TablesView) : Type 0 where
  pub kernels : KernelsView
  pub are_kernels : AreKernels kernels
  pub same : kernels.grammar ≡ g
  pub are_tables : AreTables kernels tables

-- the prefix is one of those that the state stands for: it has the kernel of this number
pub record IsPrefixOf (g : GrammarView) (tables : TablesView) (state : ℕ) (prefix : List Symbol) : Type 0 where
  pub numbered : AreTablesOf g tables
  pub within : state < count_of numbered.kernels
  pub viable : IsViablePrefix g prefix
  pub kernel : SameKernel g (prefix_of numbered.kernels state) prefix

-- the tables are the language's, and the automaton is that of its expressions, with what is considered at the prefixes of each state as the
-- set of the state's number
pub record AreLanguageParts (l : LanguageView) (tables : TablesView) (automaton : AutomatonView) : Type 0 where
  pub language : IsLanguage l
  pub tables_of : AreTablesOf l.grammar tables
  pub expressions : automaton.terminals ≡ l.expressions
  pub count : length automaton.sets ≡ size_of tables
  pub sets : (state place : ℕ) (prefix : List Symbol) → IsPrefixOf l.grammar tables state prefix →
      IsConsidered automaton.sets state place ↔ IsConsideredForm l prefix place
