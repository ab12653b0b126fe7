-- What states stand for on a text, and what can be done on the terminal that is next.
use Rattle.std.specs.Prelude.{◌≡◌, ◌<◌, ◌≤◌, ◌++◌, ◌∷◌, ℕ, List, [], All, length, take}
use Rattle.wb_base.specs.declared.symbol.Symbol.{Symbol}
use Rattle.wb_base.specs.declared.symbol.Symbol.TheVariants.{Terminal, Nonterminal}
use Rattle.wb_grammar_theory.specs.Productions.{end_of}
use Rattle.wb_grammar_theory.specs.Trees.{Forest, Leaf, leaves, symbols}
use Rattle.wb_grammar_theory.specs.Lookaheads.{CanShift, CanReduce}
use Rattle.wb_lookahead.specs.Contents.{size_of}
use Rattle.wb_scan_theory.specs.Tokens.{Next, NextToken}
use Rattle.wb_scan_theory.specs.Readings.{Gives}
use Rattle.wb_scan_theory.specs.Parts.{IsPrefixOf}
use Rattle.wb_scan_theory.specs.Machine.{Keeps}
use Rattle.wb_scan.specs.Views.{LanguageParts}
use Rattle.wb_parser_states.specs.declared.outcome.Outcome.{Outcome}
use Rattle.wb_parser_states.specs.declared.outcome.Outcome.TheVariants.{Shifts, Accepts, Stops}
use Rattle.wb_parser_states.specs.declared.within.Reached.{Reached}
use Rattle.wb_parser_states.specs.declared.within.Reached.TheVariants as reached
use Rattle.wb_parser_states.specs.Stacks.{AreStates}

-- the states are those of a stack of trees over these leaves, which the machine keeps up to a prefix and a place of the text
pub record AreAt (parts : LanguageParts) (text states : List ℕ) (read : List Leaf) (prefix : List Symbol) (at : ℕ) : Type 0 where
  pub stack : Forest
  pub states_are : AreStates parts.language.grammar parts.tables [] states stack
  pub leaves_are : leaves [] stack ≡ read
  pub keeps : Keeps parts.language.grammar (NextToken parts.language text) stack prefix at

-- the same right after a shift, or at the beginning
abbrev pub AreReady : LanguageParts → List ℕ → List ℕ → List Leaf → ℕ → Type 0
AreReady parts text states read at =
    (prefix : List Symbol) × (are : AreAt parts text states read prefix at) × (prefix ≡ symbols are.stack)

-- the terminal can be shifted, and leads to the state
pub record LeadTo (parts : LanguageParts) (text states : List ℕ) (read : List Leaf) (prefix : List Symbol) (at t target : ℕ) : Type 0 where
  pub are : AreAt parts text states read prefix at
  pub can : CanShift parts.language.grammar (symbols are.stack) t
  pub goes : IsPrefixOf parts.language.grammar parts.tables target (symbols are.stack ++ Terminal t ∷ [])

-- the stack is the start, and the terminal is the end of the text
pub record AreWhole (parts : LanguageParts) (text states : List ℕ) (read : List Leaf) (prefix : List Symbol) (at t : ℕ) : Type 0 where
  pub are : AreAt parts text states read prefix at
  pub is_end : t ≡ end_of parts.language.grammar
  pub root : symbols are.stack ≡ Nonterminal parts.language.grammar.start ∷ []

-- on the terminal there is nothing to shift and nothing to reduce
pub record AreStuck (parts : LanguageParts) (text states : List ℕ) (read : List Leaf) (prefix : List Symbol) (at t : ℕ) : Type 0 where
  pub are : AreAt parts text states read prefix at
  pub no_shift : ¬ CanShift parts.language.grammar (symbols are.stack) t
  pub no_reduction : (p : ℕ) → ¬ CanReduce parts.language.grammar (symbols are.stack) p t

-- what an outcome says of the states
abbrev pub IsOutcome : LanguageParts → List ℕ → ℕ → List ℕ → List Leaf → List Symbol → ℕ → Outcome → Type 0
IsOutcome parts text t states read prefix at (Shifts target) = LeadTo parts text states read prefix at t target
IsOutcome parts text t states read prefix at Accepts = AreWhole parts text states read prefix at t
IsOutcome parts text t states read prefix at Stops = AreStuck parts text states read prefix at t

-- the same of each text on which the states were at a place, with the terminal next there: their leaves are the same
abbrev pub HasOutcome : LanguageParts → ℕ → List ℕ → List ℕ → Outcome → Type 0
HasOutcome parts t states states' outcome =
    (text : List ℕ) (read : List Leaf) (prefix : List Symbol) (at place : ℕ) (next : Next) → NextToken parts.language text prefix at next →
    Gives parts.language.grammar next t place → AreAt parts text states read prefix at →
    IsOutcome parts text t states' read prefix at outcome

-- where the terminal can be shifted, the state is one of so many
abbrev pub ShiftsBelow : ℕ → Outcome → Type 0
ShiftsBelow count (Shifts target) = target < count
ShiftsBelow count Accepts = Unit {0}
ShiftsBelow count Stops = Unit {0}

-- on each text on which the one states were at a place, with the terminal next there, the others are at it too, over the same leaves
abbrev pub CarryOver : LanguageParts → ℕ → List ℕ → List ℕ → Type 0
CarryOver parts t states states' =
    (text : List ℕ) (read : List Leaf) (prefix : List Symbol) (at place : ℕ) (next : Next) → NextToken parts.language text prefix at next →
    Gives parts.language.grammar next t place → AreAt parts text states read prefix at → AreAt parts text states' read prefix at

-- so many of the others are there, which are states of the tables, and they carry over what the one states stood for
pub record AreReached (parts : LanguageParts) (t : ℕ) (states states' : List ℕ) (kept : ℕ) : Type 0 where
  pub within : kept ≤ length states'
  pub below : All (λ s. s < size_of parts.tables) (take kept states')
  pub carries : CarryOver parts t states (take kept states')

-- what is reached says of the first of the others: the terminal can be shifted, to a state of the tables; or nothing more
abbrev pub IsReached : LanguageParts → ℕ → List ℕ → List ℕ → Reached → Type 0
IsReached parts t states states' (reached.Shifts kept target) =
    AreReached parts t states states' kept × (target < size_of parts.tables) × HasOutcome parts t states (take kept states') (Shifts target)
IsReached parts t states states' (reached.Asks kept) = AreReached parts t states states' kept
