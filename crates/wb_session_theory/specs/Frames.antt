-- Trees with holes for the roots of a stack.
use Rattle.std.specs.Prelude.{◌≡◌, ◌<◌, ◌+◌, ℕ, zero, suc, List, max}
use Rattle.wb_grammar_theory.specs.Trees.{Forest, nothing, leaf, node}
use Rattle.wb_scan_theory.specs.declared.stop_kind.StopKind.{StopKind}
use Rattle.wb_scan_theory.specs.Machine.{joined}
use Rattle.wb_session_theory.specs.Runs.{Answer, a_tree, a_stop}

-- trees one after another, as a forest, in which the holes with numbers are for roots of a stack
pub data Frame : Type 0 where
  bare : Frame
  hole : ℕ → Frame → Frame
  twig : ℕ → List ℕ → Frame → Frame
  branch : ℕ → ℕ → Frame → Frame → Frame

-- how many roots there are
abbrev pub roots : Forest → ℕ
roots nothing = 0
roots (leaf t text rest) = suc (roots rest)
roots (node p a children rest) = suc (roots rest)

-- the root of this number, counted from 0 on, as a forest of its own
abbrev pub root_at : ℕ → Forest → Forest
root_at i nothing = nothing
root_at zero (leaf t text rest) = leaf t text nothing
root_at (suc i) (leaf t text rest) = root_at i rest
root_at zero (node p a children rest) = node p a children nothing
root_at (suc i) (node p a children rest) = root_at i rest

-- the forest with the roots of the stack in the holes
abbrev pub filled : Frame → Forest → Forest
filled bare stack = nothing
filled (hole i rest) stack = joined (root_at i stack) (filled rest stack)
filled (twig t text rest) stack = leaf t text (filled rest stack)
filled (branch p a children rest) stack = node p a (filled children stack) (filled rest stack)

-- how many holes there are
abbrev pub holes : Frame → ℕ
holes bare = 0
holes (hole i rest) = 1 + holes rest
holes (twig t text rest) = holes rest
holes (branch p a children rest) = holes children + holes rest

-- 1 for a number above 0
abbrev pub one_if : ℕ → ℕ
one_if zero = 0
one_if (suc n) = 1

-- how many nodes have a hole below them: those that have to be built anew when other roots come into the holes
abbrev pub rebuilt : Frame → ℕ
rebuilt bare = 0
rebuilt (hole i rest) = rebuilt rest
rebuilt (twig t text rest) = rebuilt rest
rebuilt (branch p a children rest) = one_if (holes children) + rebuilt children + rebuilt rest

-- 1 for 0, and else 0
abbrev pub none_if : ℕ → ℕ
none_if zero = 1
none_if (suc n) = 0

-- how many nodes have no hole below them: those that stay when other roots come into the holes
abbrev pub shared : Frame → ℕ
shared bare = 0
shared (hole i rest) = shared rest
shared (twig t text rest) = shared rest
shared (branch p a children rest) = none_if (holes children) + shared children + shared rest

-- the holes are for the roots from a number on up to a count, one after another and before all else, and the nodes with holes below them
-- stand one below the other: each is the parent of the last root that the next one holds or of that next one
pub data IsSpine (n : ℕ) : ℕ → Frame → Type 0 where
  at_end : {i : ℕ} {rest : Frame} → i ≡ n → holes rest ≡ 0 → IsSpine n i rest
  past_hole : {i j : ℕ} {rest : Frame} → j ≡ i → IsSpine n (suc i) rest → IsSpine n i (hole j rest)
  in_node : {i p a : ℕ} {children rest : Frame} → i < n → IsSpine n i children → holes rest ≡ 0 → IsSpine n i (branch p a children rest)

-- how many nodes are on the longest path down
abbrev pub depth : Forest → ℕ
depth nothing = 0
depth (leaf t text rest) = depth rest
depth (node p a children rest) = max (suc (depth children)) (depth rest)

-- an answer whose tree has holes for roots of a stack, and whose stop is so far behind a place
pub data Outcome : Type 0 where
  whole : Frame → Outcome
  halts : ℕ → StopKind → Outcome

-- the answer for this stack and this place
abbrev pub shown : ℕ → Forest → Outcome → Answer
shown a stack (whole frame) = a_tree (filled frame stack)
shown a stack (halts i kind) = a_stop (a + i) kind

-- the holes of an answer's tree are such
abbrev pub HasSpine : ℕ → Outcome → Type 0
HasSpine n (whole frame) = IsSpine n 0 frame
HasSpine n (halts i kind) = Unit {0}
