-- What is known of the productions of each nonterminal, and the one that a number chooses of them.
use Rattle.std.specs.Prelude.{◌≡◌, ◌+◌, ◌/◌, ◌%◌, ℕ, Bool, not, ◌&&◌, ◌==◌, cond, nat_le, List, Option, length, map, min}
use Rattle.std.specs.Prelude.{slice_get, slice_index}
use Rattle.std.specs.List.{filter}
use Rattle.wb_base.specs.Grammar.{GrammarView, IsGrammar, Production}
use Rattle.wb_generate.specs.Counts.{AreLeast, total}
use Rattle.wb_generate.specs.Inner.Groups.{AreByLeft}
use Rattle.wb_generate.specs.declared.choices.Choices.{Choices}

-- the sums of right sides, up to the limit
abbrev pub totals_of : ℕ → List ℕ → List Production → List ℕ
totals_of limit counts rules = map (λ (rule : Production). min (total counts rule.1) limit) rules

-- the grammar is in range, and these are its least counts, its productions by their left sides, and the sum of each right side
pub record AreChoices (g : GrammarView) (limit : ℕ) (choices : Choices) : Type 0 where
  pub grammar : IsGrammar g
  pub least : AreLeast g limit choices.counts.items
  pub rules : AreByLeft g choices.rules.items
  pub totals : choices.totals.items ≡ totals_of limit choices.counts.items g.productions

-- the sum of the right side of this production is in the range
abbrev pub is_between : List ℕ → ℕ → ℕ → ℕ → Bool
is_between totals low high p = nat_le low (slice_index totals p) && nat_le (slice_index totals p) high

-- the productions with such sums, of these
abbrev pub between : List ℕ → ℕ → ℕ → List ℕ → List ℕ
between totals low high numbers = filter (is_between totals low high) numbers

module _ (totals : List ℕ) (least spare : ℕ) (numbers : List ℕ) (r : ℕ) where
  -- the least sum that a number chooses, where a nonterminal has at least so many leaves and so many are to spare: one more, unless none of
  -- these productions has so many, or the number is divisible by 4
  abbrev pub low_of : ℕ
  low_of = cond (not (length (between totals (least + 1) (spare + least) numbers) == 0) && not (r % 4 == 0)) (least + 1) 0

  -- the production that it chooses of these
  abbrev pub number_of : Option ℕ
  number_of =
      slice_get (between totals low_of (spare + least) numbers) (r / 4 % length (between totals low_of (spare + least) numbers))
