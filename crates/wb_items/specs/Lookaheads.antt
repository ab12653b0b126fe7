-- Sets of terminals for the items of numbered kernels. Sets have numbers, and each item has the number of its set.
use Rattle.std.specs.Prelude.{◌≡◌, ◌↔◌, ◌<◌, ℕ, ◌+◌, Bool, true, false, IsTrue, List, [], ◌∷◌, length, map, Some, All, Contains, slice_get}
use Rattle.std.specs.Prelude.{slice_index_or, slice_set}
use Rattle.wb_grammar_theory.specs.declared.item.Item.{Item}
use Rattle.wb_termset.specs.Sets.{IsMember, IsEmpty, IsUnion, Grew}
use Rattle.wb_items.specs.declared.item_lookahead.ItemLookahead.{ItemLookahead}
use Rattle.wb_items.specs.Kernels.{AreInOrder, KernelsView}

-- the items of each kernel, for each of them the number of its set, and the sets by their numbers
pub record LookaheadsView : Type 0 where
  pub items : List (List Item)
  pub numbers : List (List ℕ)
  pub sets : List (List Bool)

-- the items of a kernel
abbrev pub items_of : LookaheadsView → ℕ → List Item
items_of lookaheads s = slice_index_or lookaheads.items s []

-- the numbers of the sets of a kernel's items
abbrev pub numbers_of : LookaheadsView → ℕ → List ℕ
numbers_of lookaheads s = slice_index_or lookaheads.numbers s []

-- the set of this number
abbrev pub set_of : LookaheadsView → ℕ → List Bool
set_of lookaheads n = slice_index_or lookaheads.sets n []

-- each item with the set that has the number at its place
abbrev pub with_sets : List (List Bool) → List Item → List ℕ → List ItemLookahead
with_sets sets [] numbers = []
with_sets sets (item ∷ items) [] = []
with_sets sets (item ∷ items) (n ∷ numbers) = record { item = item; set = slice_index_or sets n [] } ∷ with_sets sets items numbers

-- the items of a kernel with their sets
abbrev pub row_of : LookaheadsView → ℕ → List ItemLookahead
row_of lookaheads s = with_sets lookaheads.sets (items_of lookaheads s) (numbers_of lookaheads s)

-- the items of a row
abbrev pub items_in : List ItemLookahead → List Item
items_in row = map (λ looks. looks.item) row

-- the set of the item of the kernel has this number
abbrev pub HasNumber : LookaheadsView → ℕ → Item → ℕ → Type 0
HasNumber lookaheads s item n =
    (place : ℕ) × (slice_get (items_of lookaheads s) place ≡ Some item) × (slice_get (numbers_of lookaheads s) place ≡ Some n)

-- the set at the item of the kernel
abbrev pub IsSetOf : LookaheadsView → ℕ → Item → List Bool → Type 0
IsSetOf lookaheads s item set = Contains (row_of lookaheads s) (record { item = item; set = set })

-- the terminal is in the set at the item of the kernel
abbrev pub Lists : LookaheadsView → ℕ → Item → ℕ → Type 0
Lists lookaheads s item t = (set : List Bool) × IsSetOf lookaheads s item set × IsMember set t

-- the items of each kernel are in order, and each has the number of a set
pub record AreNumbered (lookaheads : LookaheadsView) : Type 0 where
  pub rows : length lookaheads.numbers ≡ length lookaheads.items
  pub fit : (s : ℕ) → length (numbers_of lookaheads s) ≡ length (items_of lookaheads s)
  pub below : (s place n : ℕ) → slice_get (numbers_of lookaheads s) place ≡ Some n → n < length lookaheads.sets
  pub in_order : (s : ℕ) → AreInOrder (items_of lookaheads s)

-- the set of the item at a place of the kernel was changed by the function, and nothing else
abbrev pub ChangesAt : LookaheadsView → ℕ → ℕ → (List Bool → List Bool) → LookaheadsView → Type 0
ChangesAt old s place change new =
    (n : ℕ) × (slice_get (numbers_of old s) place ≡ Some n) × (new ≡ record old { sets = slice_set old.sets n (change (set_of old n)) })

-- the terminal goes into the set of the item and nothing else changes, and the answer says whether it was new there
pub record Inserts (old : LookaheadsView) (s : ℕ) (item : Item) (terminal : ℕ) (new : LookaheadsView) (answer : Bool) : Type 0 where
  pub number : ℕ
  pub has : HasNumber old s item number
  pub after : new ≡ record old { sets = slice_set old.sets number (slice_set (set_of old number) terminal true) }
  pub was_new : IsTrue answer ↔ (¬ IsMember (set_of old number) terminal)

-- the members were added to the set of the item of the kernel, and nothing else changed
pub record Unites (old : LookaheadsView) (s : ℕ) (item : Item) (added : List Bool) (new : LookaheadsView) : Type 0 where
  pub number : ℕ
  pub union : List Bool
  pub has : HasNumber old s item number
  pub below : number < length old.sets
  pub joined : IsUnion (set_of old number) added union
  pub is : new ≡ record old { sets = slice_set old.sets number union }

-- the members were added so, and the answer says whether one was new
pub record AnswersUnion (old : LookaheadsView) (s : ℕ) (item : Item) (added : List Bool) (new : LookaheadsView) (answer : Bool) : Type 0
  where
    pub united : Unites old s item added new
    pub grew : IsTrue answer → Grew (set_of old united.number) united.union
    pub stayed : answer ≡ false → new ≡ old

-- the items are those of the kernels' closures, place by place, and each set has room for the terminals and the end of a text
pub record AreLookaheadsOf (kernels : KernelsView) (lookaheads : LookaheadsView) : Type 0 where
  pub items : lookaheads.items ≡ kernels.closures
  pub numbered : AreNumbered lookaheads
  pub widths : All (λ set. length set ≡ kernels.grammar.terminals + 1) lookaheads.sets

-- no set has a member
abbrev pub AreEmpty : LookaheadsView → Type 0
AreEmpty lookaheads = All IsEmpty lookaheads.sets
