-- The longest match of the terminals of a set, from a place of a text on, and how far was looked for it.
use Rattle.std.specs.Prelude.{◌≡◌, ◌<◌, ◌≤◌, ◌+◌, ◌⊎◌, ℕ, List, Some, length, slice_get, slice_range}
use Rattle.wb_automata.specs.Automata.{AutomatonView, GoesOn, LeadsTo, MatchesIn}
use Rattle.wb_scan.specs.declared.landing.Landing.{Landing}
use Rattle.wb_scan.specs.declared.longest.Reach.{Reach}
use Rattle.wb_scan.specs.declared.won.Won.TheVariants.{Nothing}
use Rattle.wb_scan.specs.Words.{won_in}

-- no terminal of the set matches a text that ends after the one place and not after the other
abbrev pub HasNoneAfter : AutomatonView → ℕ → List ℕ → ℕ → ℕ → ℕ → Type 0
HasNoneAfter automaton set text at end to =
    (other terminal : ℕ) → end < other → other ≤ to → ¬ MatchesIn automaton set terminal (slice_range text at other)

-- the text up to the end leads to the state, and a terminal of the set matches it; or the end is the beginning
abbrev pub IsMatchedTo : AutomatonView → ℕ → List ℕ → ℕ → ℕ → ℕ → Type 0
IsMatchedTo automaton set text at state end =
    (end ≡ at) ⊎ ((at < end) × LeadsTo automaton set (slice_range text at end) state ×
    ((terminal : ℕ) × MatchesIn automaton set terminal (slice_range text at end)))

-- the longest match up to a place
pub record IsLongest (automaton : AutomatonView) (set : ℕ) (text : List ℕ) (at to state end : ℕ) : Type 0 where
  pub from : at ≤ end
  pub within : end ≤ to
  pub matched : IsMatchedTo automaton set text at state end
  pub none_after : HasNoneAfter automaton set text at end to

-- the landing is that of the state in the list; or it says that nothing wins, where the match has no bytes
abbrev pub IsKeptTo : List Landing → ℕ → ℕ → ℕ → Landing → Type 0
IsKeptTo landings at state end landing =
    ((end ≡ at) × (won_in landing.word ≡ Some Nothing)) ⊎ ((at < end) × (slice_get landings state ≡ Some landing))

-- no match goes on from the text up to the place e; or e is one more than the length, where the text was seen to its end
abbrev pub IsSeenTo : AutomatonView → ℕ → List ℕ → ℕ → ℕ → Type 0
IsSeenTo automaton set text at e =
    (at < e) × (((e ≤ length text) × (¬ GoesOn automaton set (slice_range text at e))) ⊎ (e ≡ length text + 1))

-- the longest match leads to a state with this landing, and so far was looked for it
pub record IsReached (automaton : AutomatonView) (landings : List Landing) (set : ℕ) (text : List ℕ) (at : ℕ) (reach : Reach) :
    Type 0 where
  pub state : ℕ
  pub below : state < length automaton.paths
  pub longest : IsLongest automaton set text at (length text) state reach.end
  pub kept : IsKeptTo landings at state reach.end reach.landing
  pub seen : IsSeenTo automaton set text at reach.examined
