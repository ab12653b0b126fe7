-- Grammars on which the machine runs, what it can do, and scanners that go on.
use Rattle.std.specs.Prelude.{◌≡◌, ◌<◌, ◌≤◌, ℕ, List}
use Rattle.wb_base.specs.declared.symbol.Symbol.{Symbol}
use Rattle.wb_base.specs.Grammar.{GrammarView}
use Rattle.wb_grammar_theory.specs.declared.item.Item.{Item}
use Rattle.wb_grammar_theory.specs.Productions.{end_of}
use Rattle.wb_grammar_theory.specs.Trees.{Forest, symbols, IsDerived}
use Rattle.wb_grammar_theory.specs.Items.{after_dot}
use Rattle.wb_grammar_theory.specs.Lookaheads.{CanShift, CanReduce, HasNoConflict}
use Rattle.wb_grammar_theory.specs.Shape.{IsLive}
use Rattle.wb_scan_theory.specs.Tokens.{Next, token}
use Rattle.wb_scan_theory.specs.Readings.{Scanner}
use Rattle.wb_scan_theory.specs.Bounds.{HasNoCycle, IsSized}

-- what is after any dot has trees
abbrev pub HasTrees : GrammarView → Type 0
HasTrees g = (item : Item) → (f : Forest) × IsDerived g f × (symbols f ≡ after_dot g item)

-- a grammar on which the machine runs
pub record IsParsable (g : GrammarView) (many wide : ℕ) : Type 0 where
  pub free : HasNoConflict g
  pub acyclic : HasNoCycle g
  pub live : IsLive g
  pub productive : HasTrees g
  pub sized : IsSized g many wide
  pub no_end : (prefix : List Symbol) → CanShift g prefix (end_of g) → ⊥

-- what the machine can do at a prefix before a terminal
pub data Decision (g : GrammarView) (prefix : List Symbol) (t : ℕ) : Type 0 where
  shifts : CanShift g prefix t → Decision g prefix t
  reduces : (p : ℕ) → CanReduce g prefix p t → Decision g prefix t
  stuck : (CanShift g prefix t → ⊥) → ((p : ℕ) → CanReduce g prefix p t → ⊥) → Decision g prefix t

-- at most one thing is next
abbrev pub IsOne : Scanner → Type 0
IsOne next = (prefix : List Symbol) (at : ℕ) (s s' : Next) → next prefix at s → next prefix at s' → s ≡ s'

-- each token is of a terminal of the grammar, and takes some of the text
pub record Advances (g : GrammarView) (next : Scanner) (size : ℕ) : Type 0 where
  pub below : (prefix : List Symbol) (at begin t : ℕ) (lexeme : List ℕ) (after : ℕ) → next prefix at (token begin t lexeme after) →
      t < end_of g
  pub on : (prefix : List Symbol) (at begin t : ℕ) (lexeme : List ℕ) (after : ℕ) → next prefix at (token begin t lexeme after) →
      at < after
  pub within : (prefix : List Symbol) (at begin t : ℕ) (lexeme : List ℕ) (after : ℕ) → next prefix at (token begin t lexeme after) →
      after ≤ size
