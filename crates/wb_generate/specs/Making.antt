-- The leaves that a form becomes, where its leftmost nonterminal is replaced again and again.
use Rattle.std.specs.Prelude.{◌≡◌, ◌<◌, ◌≤◌, ◌+◌, ◌-◌, ℕ, List, [], ◌∷◌, ◌++◌, slice_index}
use Rattle.wb_base.specs.declared.symbol.Symbol.{Symbol}
use Rattle.wb_base.specs.declared.symbol.Symbol.TheVariants.{Terminal, Nonterminal}
use Rattle.wb_base.specs.Grammar.{GrammarView}
use Rattle.wb_generate.specs.Counts.{AreLeast, total}
use Rattle.wb_generate.specs.Draws.{draw, upper, IsChosen}

-- the form becomes leaves of these terminals, where so many leaves are to spare and the draws go on from a state: a terminal is a leaf; a
-- nonterminal is removed where no leaf is to spare and none is needed, and is else replaced by the right side that the next draw chooses,
-- which takes its further leaves from the spare ones
pub data Makes (g : GrammarView) (counts : List ℕ) : List Symbol → ℕ → ℕ → List ℕ → Type 0 where
  over : (spare x : ℕ) → Makes g counts [] spare x []
  shown : (t : ℕ) {form : List Symbol} {spare x : ℕ} {made : List ℕ} → Makes g counts form spare x made →
      Makes g counts (Terminal t ∷ form) spare x (t ∷ made)
  removed : (a : ℕ) {form : List Symbol} {spare x : ℕ} {made : List ℕ} → spare + slice_index counts a ≡ 0 →
      Makes g counts form spare x made →
      Makes g counts (Nonterminal a ∷ form) spare x made
  replaced : (a : ℕ) (right : List Symbol) {form : List Symbol} {spare x : ℕ} {made : List ℕ} → 0 < spare + slice_index counts a →
      IsChosen g counts a spare (upper (draw x)) right →
      Makes g counts (right ++ form) (spare - (total counts right - slice_index counts a)) (draw x) made →
      Makes g counts (Nonterminal a ∷ form) spare x made

-- the start becomes leaves of these terminals, where there may be so many and the draws begin with a number
pub record IsMade (g : GrammarView) (limit size number : ℕ) (made : List ℕ) : Type 0 where
  pub counts : List ℕ
  pub least : AreLeast g limit counts
  pub enough : slice_index counts g.start ≤ size
  pub makes : Makes g counts (Nonterminal g.start ∷ []) (size - slice_index counts g.start) number made
