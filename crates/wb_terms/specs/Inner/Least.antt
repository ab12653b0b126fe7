-- How the least place of some is found.
use Rattle.std.specs.Prelude.{ℕ, Option, MatchOption}
use Rattle.wb_terms.specs.Nodes.{IsLeast}

-- the least place of which it holds, or there is none, and the fact holds
abbrev pub FindsLeast : (ℕ → Type 0) → Type 0 → Option ℕ → Type 0
FindsLeast Holds Fact found = MatchOption found (Fact × ((at : ℕ) → ¬ Holds at)) (IsLeast Holds)
