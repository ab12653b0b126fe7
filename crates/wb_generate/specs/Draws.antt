-- The numbers that are drawn one after another, and the production that a number chooses.
use Rattle.std.specs.Prelude.{◌≡◌, ◌+◌, ◌*◌, ◌/◌, ◌%◌, ◌^◌, ℕ, Bool, true, not, ◌&&◌, ◌||◌, ◌==◌, nat_lt, nat_le, List, Option, length}
use Rattle.std.specs.Prelude.{slice_get, slice_index, Some}
use Rattle.std.specs.List.{filter}
use Rattle.wb_base.specs.declared.symbol.Symbol.{Symbol}
use Rattle.wb_base.specs.Grammar.{GrammarView, Production}
use Rattle.wb_generate.specs.Counts.{total}

-- the state after one more draw
abbrev pub draw : ℕ → ℕ
draw x = (x * 6364136223846793005 + 1442695040888963407) % 2 ^ 64

-- the number that a state gives: its upper half
abbrev pub upper : ℕ → ℕ
upper x = x / 2 ^ 32

-- the production may be chosen: it is one of the nonterminal, and its right side has at most so many leaves more, and at least one more
-- where
-- it has to grow
abbrev pub admits : List ℕ → ℕ → ℕ → Bool → Production → Bool
admits counts a spare grow rule =
    (rule.0 == a) && (nat_le (total counts rule.1) (spare + slice_index counts a) && (not grow || nat_lt (slice_index counts a) (total
    counts rule.1)))

-- the productions that may be chosen, in order
abbrev pub candidates : GrammarView → List ℕ → ℕ → ℕ → Bool → List Production
candidates g counts a spare grow = filter (admits counts a spare grow) g.productions

-- a number chooses among those that grow, if there are any, unless it is divisible by 4
abbrev pub wants : GrammarView → List ℕ → ℕ → ℕ → ℕ → Bool
wants g counts a spare r = not (length (candidates g counts a spare true) == 0) && not (r % 4 == 0)

-- the element that a number chooses by its quarter
abbrev pub chosen_of : List Production → ℕ → Option Production
chosen_of list r = slice_get list (r / 4 % length list)

-- the number chooses the production of the nonterminal with this right side
abbrev pub IsChosen : GrammarView → List ℕ → ℕ → ℕ → ℕ → List Symbol → Type 0
IsChosen g counts a spare r right = chosen_of (candidates g counts a spare (wants g counts a spare r)) r ≡ Some (a, right)
