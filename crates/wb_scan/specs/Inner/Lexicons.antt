-- A lexicon of a language with bare forms, and what is made by it.
use Rattle.std.specs.Prelude.{◌≡◌, ◌↔◌, ◌<◌, ◌≤◌, ℕ, Bool, List, length}
use Rattle.wb_base.specs.declared.symbol.Symbol.{Symbol}
use Rattle.wb_determinism_contexts.specs.Considered.{LexiconView}
use Rattle.wb_scan_theory.specs.Languages.{LanguageView}
use Rattle.wb_automata.specs.Automata.{IsConsidered}
use Rattle.wb_scan_theory.specs.Parts.{IsPrefixOf}
use Rattle.wb_scan_theory.specs.Winners.{IsConsideredForm}
use Rattle.wb_lookahead.specs.Contents.{TablesView, size_of}
use Rattle.wb_termset.specs.Sets.{IsMember}

-- the lexicon has the language's expressions and preferences, all its grammar's terminals are scanned, its layout is what comes after, and
-- none is an extension's
pub record IsLexiconOf (l : LanguageView) (lexicon : LexiconView) : Type 0 where
  pub expressions : lexicon.expressions ≡ l.expressions
  pub scanned : lexicon.scanned ≡ l.grammar.terminals
  pub layout_len : length lexicon.layout ≡ length l.expressions
  pub layout : (t : ℕ) → IsMember lexicon.layout t ↔ ((l.grammar.terminals ≤ t) × (t < length l.expressions))
  pub own_layout : (t : ℕ) → ¬ IsMember lexicon.own_layout t
  pub preferences : lexicon.preferences ≡ l.preferences

-- there is a set for each state, and it has what is considered at the prefixes of the state
pub record AreStateSets (l : LanguageView) (tables : TablesView) (sets : List (List Bool)) : Type 0 where
  pub count : length sets ≡ size_of tables
  pub each : (state place : ℕ) (prefix : List Symbol) → IsPrefixOf l.grammar tables state prefix →
      IsConsidered sets state place ↔ IsConsideredForm l prefix place
