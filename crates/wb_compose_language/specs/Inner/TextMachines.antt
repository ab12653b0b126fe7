-- An automaton by which expressions are asked for texts, each by itself.
use Rattle.std.specs.Prelude.{◌≡◌, ◌<◌, ◌≤◌, ℕ, Bool, Option, Some, None, List, length, slice_get, take}
use Rattle.wb_automata.specs.Automata.{AutomatonView, IsConsidered, LeadsTo}
use Rattle.wb_regex.specs.Tree.{Tree}
use Rattle.wb_termset.specs.Sets.{IsMember}

-- where there is no text, the number is in the set
abbrev pub IsSetOf : Option (List ℕ) → ℕ → List Bool → Type 0
IsSetOf text number set = text ≡ None → IsMember set number

-- so for each of the first expressions
pub record AreSetsUpTo (texts : List (Option (List ℕ))) (n : ℕ) (sets : List (List Bool)) : Type 0 where
  pub len : length sets ≡ n
  pub each : (k : ℕ) (text : Option (List ℕ)) (set : List Bool) → slice_get texts k ≡ Some text → slice_get sets k ≡ Some set
      → IsSetOf text k set

-- the automaton is that of the expressions, and each that isn't a text alone is in the set of its number
pub record IsTextMachine (patterns : List Tree) (texts : List (Option (List ℕ))) (machine : AutomatonView) : Type 0 where
  pub terminals : machine.terminals ≡ patterns
  pub considered : (k : ℕ) → slice_get texts k ≡ Some None → IsConsidered machine.sets k k

-- the first bytes of the text lead to the state from the start of the set
pub record IsFollowed (machine : AutomatonView) (set : ℕ) (text : List ℕ) (place state : ℕ) : Type 0 where
  pub within : place ≤ length text
  pub below : state < length machine.paths
  pub leads : LeadsTo machine set (take place text) state
