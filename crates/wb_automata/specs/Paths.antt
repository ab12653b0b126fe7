-- The paths of states, by where each state was found from.
use Rattle.std.specs.Prelude.{ℕ, Option, Some, None, List, [], ◌∷◌, ◌++◌, slice_get}
use Rattle.wb_automata.specs.declared.predecessor.Predecessor.{Predecessor}
use Rattle.wb_automata.specs.Automata.{Path}

-- the path from a set's start that goes on from another, and the empty one where there is no other
abbrev pub path_on : Option Path → ℕ → ℕ → Path
path_on None set b = record { set = set; text = [] }
path_on (Some path) set b = record { set = set; text = path.text ++ b ∷ [] }

-- the path of a state that was found from another by a byte, or at the start of a set
abbrev pub path_by : List Path → Predecessor → Path
path_by paths o = path_on (slice_get paths o.from) o.set o.byte

-- the paths with those of further states after them
abbrev pub grown : List Path → List Predecessor → List Path
grown paths [] = paths
grown paths (o ∷ os) = grown (paths ++ path_by paths o ∷ []) os

-- the paths of states, by where each was found from
unfoldable pub paths_of : List Predecessor → List Path
paths_of predecessors = grown [] predecessors
