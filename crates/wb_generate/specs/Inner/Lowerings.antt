-- Counts of leaves that are lowered, and nonterminals whose productions on the right have still to be looked at.
use Rattle.std.specs.Prelude.{◌≡◌, ◌<◌, ◌≤◌, ◌⊎◌, ◌+◌, ◌-◌, ℕ, List, All, Contains, length, slice_index}
use Rattle.std.specs.List.{sum}
use Rattle.std.specs.BinaryHeap.{heap_items}
use Rattle.wb_base.specs.declared.symbol.Symbol.{Symbol}
use Rattle.wb_base.specs.declared.symbol.Symbol.TheVariants.{Nonterminal}
use Rattle.wb_base.specs.Grammar.{GrammarView}
use Rattle.wb_grammar_theory.specs.Productions.{IsProduction}
use Rattle.wb_generate.specs.Counts.{HasTree, total}
use Rattle.wb_generate.specs.declared.counts.Lowering.{Lowering}

-- each count is at most the limit, and some tree has so many leaves if it is less
pub record AreReached (g : GrammarView) (limit : ℕ) (counts : List ℕ) : Type 0 where
  pub len : length counts ≡ g.nonterminals
  pub most : (a : ℕ) → slice_index counts a ≤ limit
  pub each : (a : ℕ) → a < g.nonterminals → (slice_index counts a ≡ limit) ⊎ HasTree g a (slice_index counts a)

-- the counts, and entries that wait, each a nonterminal and how far its count was below the limit
pub record State : Type 0 where
  pub counts : List ℕ
  pub waiting : List (ℕ × ℕ)

-- what a worklist has
abbrev pub state_of : Lowering → State
state_of s = record { counts = s.counts.items; waiting = heap_items s.waiting }

-- the nonterminal waits with its count
abbrev pub Waits : ℕ → State → ℕ → Type 0
Waits limit s a = Contains s.waiting (limit - slice_index s.counts a, a)

-- some nonterminal of the right side waits
pub record IsPending (limit : ℕ) (s : State) (right : List Symbol) : Type 0 where
  pub nonterminal : ℕ
  pub within : Contains right (Nonterminal nonterminal)
  pub waits : Waits limit s nonterminal

-- the left side's count isn't above the sum of the right side, or a nonterminal of the right side waits
abbrev pub IsSettled : GrammarView → ℕ → State → ℕ → Type 0
IsSettled g limit s p = (a : ℕ) (right : List Symbol) → IsProduction g p a right →
    IsPending limit s right ⊎ (slice_index s.counts a ≤ total s.counts right)

-- what is kept
pub record IsLowering (g : GrammarView) (limit : ℕ) (s : State) : Type 0 where
  pub reached : AreReached g limit s.counts
  pub known : All (λ (e : ℕ × ℕ). e.1 < g.nonterminals) s.waiting

-- how much is left to do at the most: each count falls, and what waits is taken
abbrev pub left_of : State → ℕ
left_of s = sum s.counts + length s.waiting

-- one state goes on to another, in which what was settled is, and these productions are too
pub record Settles (g : GrammarView) (limit : ℕ) (productions : List ℕ) (old new : State) : Type 0 where
  pub lowering : IsLowering g limit new
  pub fewer : left_of new ≤ left_of old
  pub keeps : (q : ℕ) → IsSettled g limit old q → IsSettled g limit new q
  pub here : (q : ℕ) → Contains productions q → IsSettled g limit new q

-- an entry is taken, and all stay settled
pub record Advances (g : GrammarView) (limit : ℕ) (old new : State) : Type 0 where
  pub lowering : IsLowering g limit new
  pub fewer : left_of new < left_of old
  pub settled : (q : ℕ) → IsSettled g limit new q
