-- Sets that are made for the items of one kernel after another.
use Rattle.std.specs.Prelude.{◌≡◌, ◌↔◌, ◌≤◌, ◌<◌, ◌+◌, ℕ, Bool, false, List, [], ◌∷◌, ◌++◌, All, length, replicate, slice_index_or}
use Rattle.std.specs.Prelude.{take, Some, slice_get, slice_set}
use Rattle.wb_base.specs.Grammar.{GrammarView}
use Rattle.wb_grammar_theory.specs.declared.item.Item.{Item}
use Rattle.wb_items.specs.declared.numbering.Made.{Made}
use Rattle.wb_items.specs.Apart.{AreApart, BelongTogether, Opens}
use Rattle.wb_items.specs.Kernels.{KernelsView}
use Rattle.wb_items.specs.Lookaheads.{AreNumbered, LookaheadsView}
use Rattle.wb_base.specs.declared.symbol.Symbol.{Symbol}

-- the empty set of terminals and the end
abbrev pub empty_set : GrammarView → List Bool
empty_set g = replicate (g.terminals + 1) false

-- the sets are empty, and for each nonterminal there were at most so many as there are
pub record AreMade (g : GrammarView) (made : Made) : Type 0 where
  pub empty : All (λ set. set ≡ empty_set g) made.sets.items
  pub len : length made.opened.items ≡ g.nonterminals
  pub below : (b count : ℕ) → slice_get made.opened.items b ≡ Some count → count ≤ length made.sets.items

-- an empty set was made
abbrev pub AddsSet : GrammarView → List (List Bool) → ℕ → List (List Bool) → Type 0
AddsSet g old n new = (n ≡ length old) × (new ≡ old ++ empty_set g ∷ [])

-- the set for the item has this number: the one that its nonterminal has from the first number on, or else a new one
pub data GivesNumber (g : GrammarView) (first : ℕ) (item : Item) (old : Made) (n : ℕ) (new : Made) : Type 0 where
  again : (b : ℕ) → Opens g b item → slice_get old.opened.items b ≡ Some (n + 1) → first ≤ n → new.sets.items ≡ old.sets.items →
      new.opened.items ≡ old.opened.items → GivesNumber g first item old n new
  opened : (b count : ℕ) → Opens g b item → slice_get old.opened.items b ≡ Some count → count ≤ first →
      AddsSet g old.sets.items n new.sets.items → new.opened.items ≡ slice_set old.opened.items b (n + 1) →
      GivesNumber g first item old n new
  alone : ((b : ℕ) → ¬ Opens g b item) → AddsSet g old.sets.items n new.sets.items → new.opened.items ≡ old.opened.items →
      GivesNumber g first item old n new

-- items of one kernel have numbers from the first to below the last, and one number where they belong together
pub record IsRowApart (g : GrammarView) (items : List Item) (numbers : List ℕ) (first last : ℕ) : Type 0 where
  pub fit : length numbers ≡ length items
  pub within : (i n : ℕ) → slice_get numbers i ≡ Some n → (first ≤ n) × (n < last)
  pub apart : (i j : ℕ) (one other : Item) (m n : ℕ) → slice_get items i ≡ Some one → slice_get numbers i ≡ Some m →
      slice_get items j ≡ Some other → slice_get numbers j ≡ Some n → (m ≡ n) ↔ BelongTogether g one other

-- these items of a kernel have numbers, and the table has those of the nonterminals that open them
pub record AreGiven (g : GrammarView) (items : List Item) (numbers : List ℕ) (first : ℕ) (made : Made) : Type 0 where
  pub are_made : AreMade g made
  pub since : first ≤ length made.sets.items
  pub row : IsRowApart g items numbers first (length made.sets.items)
  pub known : (i b n : ℕ) (item : Item) → slice_get items i ≡ Some item → slice_get numbers i ≡ Some n → Opens g b item →
      slice_get made.opened.items b ≡ Some (n + 1)
  pub sound : (b n : ℕ) → slice_get made.opened.items b ≡ Some (n + 1) → first ≤ n →
      (i : ℕ) × (item : Item) × (slice_get items i ≡ Some item) × (slice_get numbers i ≡ Some n) × Opens g b item

-- the first kernels with these numbers and sets
abbrev pub first_kernels : KernelsView → ℕ → List (List ℕ) → List (List Bool) → LookaheadsView
first_kernels kernels n numbers sets = record { items = take n kernels.closures; numbers = numbers; sets = sets }

-- the items of the first kernels have numbers, and are apart
pub record NumberedUpTo (kernels : KernelsView) (n : ℕ) (numbers : List (List ℕ)) (made : Made) : Type 0 where
  pub are_made : AreMade kernels.grammar made
  pub numbered : AreNumbered (first_kernels kernels n numbers made.sets.items)
  pub apart : AreApart kernels.grammar (first_kernels kernels n numbers made.sets.items)

-- the prefix of this number goes on from that of a lower one by a symbol
pub record GoesOn (prefixes : List (List Symbol)) (n : ℕ) : Type 0 where
  pub from : ℕ
  pub symbol : Symbol
  pub before : from < n
  pub is : slice_index_or prefixes n [] ≡ slice_index_or prefixes from [] ++ symbol ∷ []
