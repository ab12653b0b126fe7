-- Items with sets by numbers: what is at a place, and which places a terminal is listed at.
use Rattle.std.proofs.Common.{◌≡◌, ℕ, ◌<◌, zero, suc, Bool, List, [], ◌∷◌, length, Some, refl, sym, ◌∙◌, ap, subst, arith}
use Rattle.std.specs.Prelude.{Contains, option_map, slice_get, slice_index_or}
use Rattle.std.proofs.lemmas.List.{length-map}
use Rattle.std.proofs.lemmas.Option.{slice_get-get_or, slice_get-map, slice_get_within, same_Some}
use Rattle.wb_lemmas.proofs.Places.{at_once, at_within, default_at}
use Rattle.wb_lemmas.proofs.Members.{contains_at, place_of}
use Rattle.wb_grammar_theory.specs.declared.item.Item.{Item}
use Rattle.wb_termset.specs.Sets.{IsMember}
use Rattle.wb_items.specs.declared.item_lookahead.ItemLookahead.{ItemLookahead}
use Rattle.wb_items.specs.Lookaheads.{AreNumbered, HasNumber, IsSetOf, Lists, LookaheadsView, items_in, items_of, numbers_of, row_of}
use Rattle.wb_items.specs.Lookaheads.{set_of, with_sets}

abbrev pub looks_of : Item → List Bool → ItemLookahead
looks_of item s = record { item = item; set = s }

-- the items are those that were put there
items_with : (sets : List (List Bool)) (items : List Item) (numbers : List ℕ) → length numbers ≡ length items →
    items_in (with_sets sets items numbers) ≡ items
items_with sets [] numbers len = refl
items_with sets (item ∷ items) [] len = absurd (omega (arith, len))
items_with sets (item ∷ items) (n ∷ numbers) len = ap (λ l. item ∷ l) (items_with sets items numbers (omega (arith, len)))

-- an item and a number at one place
pub with_at : (sets : List (List Bool)) (items : List Item) (numbers : List ℕ) (i : ℕ) (item : Item) (n : ℕ) →
    slice_get items i ≡ Some item → slice_get numbers i ≡ Some n →
    slice_get (with_sets sets items numbers) i ≡ Some (looks_of item (slice_index_or sets n []))
with_at sets [] numbers i item n at has = cc
with_at sets (first ∷ items) [] i item n at has = cc
with_at sets (first ∷ items) (m ∷ numbers) zero item n at has =
    let item_is : first ≡ item = same_Some first item at in
    let number_is : m ≡ n = same_Some m n has in
    ap (λ i. Some (looks_of i (slice_index_or sets m []))) item_is ∙ ap (λ k. Some (looks_of item (slice_index_or sets k []))) number_is
with_at sets (first ∷ items) (m ∷ numbers) (suc i) item n at has = with_at sets items numbers i item n at has

-- what is at a place is an item with the set of a number there
pub with_back : (sets : List (List Bool)) (items : List Item) (numbers : List ℕ) (i : ℕ) (looks : ItemLookahead) →
    slice_get (with_sets sets items numbers) i ≡ Some looks →
    (n : ℕ) × (slice_get items i ≡ Some looks.item) × (slice_get numbers i ≡ Some n) × (slice_index_or sets n [] ≡ looks.set)
with_back sets [] numbers i looks at = cc
with_back sets (first ∷ items) [] i looks at = cc
with_back sets (first ∷ items) (m ∷ numbers) zero looks at =
    let is : looks_of first (slice_index_or sets m []) ≡ looks = same_Some (looks_of first (slice_index_or sets m [])) looks at in
    (m, ap (λ (l : ItemLookahead). Some l.item) is, refl, ap (λ (l : ItemLookahead). l.set) is)
with_back sets (first ∷ items) (m ∷ numbers) (suc i) looks at = with_back sets items numbers i looks at

-- what is listed is in the set of a number
pub listed_by : (l : LookaheadsView) (s : ℕ) (item : Item) (t : ℕ) → Lists l s item t →
    (n : ℕ) × HasNumber l s item n × IsMember (set_of l n) t
listed_by l s item t (a, there, has) =
    let (i, at) = place_of (row_of l s) (looks_of item a) there in
    let (n, item_at, number_at, is) = with_back l.sets (items_of l s) (numbers_of l s) i (looks_of item a) at in
    (n, (i, item_at, number_at), subst (λ z. IsMember z t) (sym is) has)

-- the set of an item's number is its set
pub number_set : (l : LookaheadsView) (s : ℕ) (item : Item) (n : ℕ) → HasNumber l s item n → IsSetOf l s item (set_of l n)
number_set l s item n (i, item_at, number_at) =
    contains_at (row_of l s) (looks_of item (set_of l n)) i (with_at l.sets (items_of l s) (numbers_of l s) i item n item_at number_at)

pub lists_by : (l : LookaheadsView) (s : ℕ) (item : Item) (n : ℕ) (t : ℕ) → HasNumber l s item n → IsMember (set_of l n) t →
    Lists l s item t
lists_by l s item n t here has = (set_of l n, number_set l s item n here, has)

-- an item's set is that of a number of its
pub set_number : (l : LookaheadsView) (s : ℕ) (item : Item) (a : List Bool) → IsSetOf l s item a →
    (n : ℕ) × HasNumber l s item n × (set_of l n ≡ a)
set_number l s item a there =
    let (i, at) = place_of (row_of l s) (looks_of item a) there in
    let (n, item_at, number_at, is) = with_back l.sets (items_of l s) (numbers_of l s) i (looks_of item a) at in
    (n, (i, item_at, number_at), is)

module _ {l : LookaheadsView} (h : AreNumbered l) where
  pub row_items_are : (s : ℕ) → items_in (row_of l s) ≡ items_of l s
  row_items_are s = items_with l.sets (items_of l s) (numbers_of l s) (h.fit s)

  pub row_len : (s : ℕ) → length (row_of l s) ≡ length (items_of l s)
  row_len s = sym (length-map (row_of l s) (λ (z : ItemLookahead). z.item)) ∙ ap length (row_items_are s)

  pub row_numbers_len : (s : ℕ) → length (row_of l s) ≡ length (numbers_of l s)
  row_numbers_len s = row_len s ∙ sym (h.fit s)

  -- an item of the row has a number at its place
  pub number_there : (s i : ℕ) (item : Item) → slice_get (items_of l s) i ≡ Some item →
      (n : ℕ) × (slice_get (numbers_of l s) i ≡ Some n)
  number_there s i item at =
      at_within (numbers_of l s) i (let w = slice_get_within (items_of l s) i item at in let e = h.fit s in omega (arith, w, e))

  -- an item that is there has a number
  pub numbered : (s : ℕ) (item : Item) → Contains (items_of l s) item → (n : ℕ) × HasNumber l s item n
  numbered s item has =
      let (i, at) = place_of (items_of l s) item has in
      let (n, there) = number_there s i item at in
      (n, (i, at, there))

  -- the entry at a place
  pub entry_at : (s i n : ℕ) → slice_get (numbers_of l s) i ≡ Some n →
      (item : Item) × (slice_get (items_of l s) i ≡ Some item) × (slice_get (row_of l s) i ≡ Some (looks_of item (set_of l n)))
  entry_at s i n there =
      let w = slice_get_within (numbers_of l s) i n there in
      let (item, at) = at_within (items_of l s) i (let e = h.fit s in omega (arith, w, e)) in
      (item, at, with_at l.sets (items_of l s) (numbers_of l s) i item n at there)

-- the item at a place has the number there
pub place_number : (l : LookaheadsView) (s i n : ℕ) (item : Item) → slice_get (items_in (row_of l s)) i ≡ Some item →
    slice_get (numbers_of l s) i ≡ Some n → HasNumber l s item n
place_number l s i n item at there =
    let mapped = slice_get-map (λ (z : ItemLookahead). z.item) (row_of l s) i in
    let w = slice_get_within (items_in (row_of l s)) i item at in
    let len = length-map (row_of l s) (λ (z : ItemLookahead). z.item) in
    let (looks, here) = at_within (row_of l s) i (omega (arith, w, len)) in
    let (m, item_at, number_at, is) = with_back l.sets (items_of l s) (numbers_of l s) i looks here in
    let same : looks.item ≡ item = same_Some looks.item item (sym (mapped ∙ ap (option_map (λ (z : ItemLookahead). z.item)) here) ∙ at) in
    (i, subst (λ z. slice_get (items_of l s) i ≡ Some z) same item_at, there)

-- what was read at a place within doesn't depend on the default
any_default : {X : Type 0} (xs : List X) (i : ℕ) (d x : X) → i < length xs → x ≡ slice_index_or xs i x → x ≡ slice_index_or xs i d
any_default xs i d x lt is = is ∙ sym (default_at xs i d (slice_index_or xs i x) (slice_get-get_or xs i x lt))

pub items_read : {l v : LookaheadsView} → l ≡ v → (s : ℕ) → s < length v.items → (r : List Item) → r ≡ slice_index_or l.items s r →
    r ≡ items_of v s
items_read {v = v} same s lt r is =
    any_default v.items s [] r lt (is ∙ ap (λ (z : LookaheadsView). slice_index_or z.items s r) same)

pub numbers_read : {l v : LookaheadsView} → l ≡ v → AreNumbered v → (s : ℕ) → s < length v.items → (r : List ℕ) →
    r ≡ slice_index_or l.numbers s r → r ≡ numbers_of v s
numbers_read {v = v} same h s lt r is = any_default v.numbers s [] r (let e = h.rows in omega (arith, e, lt))
    (is ∙ ap (λ (z : LookaheadsView). slice_index_or z.numbers s r) same)

pub set_read : {l v : LookaheadsView} → l ≡ v → (n : ℕ) → n < length v.sets → (r : List Bool) → r ≡ slice_index_or l.sets n r →
    r ≡ set_of v n
set_read {v = v} same n lt r is = any_default v.sets n [] r lt (is ∙ ap (λ (z : LookaheadsView). slice_index_or z.sets n r) same)

-- the set of the number at a place is that of the entry there
pub entry_set : (v : LookaheadsView) (s place n : ℕ) → place < length (row_of v s) → slice_get (numbers_of v s) place ≡ Some n →
    (looks : ItemLookahead) × (slice_get (row_of v s) place ≡ Some looks) × (set_of v n ≡ looks.set)
entry_set v s place n lt at =
    let (looks, there) = at_within (row_of v s) place lt in
    let (m, item_at, number_at, is) = with_back v.sets (items_of v s) (numbers_of v s) place looks there in
    (looks, there, ap (set_of v) (at_once (numbers_of v s) place n m at number_at) ∙ is)

pub set_there : (v : LookaheadsView) (s place n : ℕ) (a : List Bool) → place < length (row_of v s) →
    slice_get (numbers_of v s) place ≡ Some n → slice_get v.sets n ≡ Some a →
    (looks : ItemLookahead) × (slice_get (row_of v s) place ≡ Some looks) × (a ≡ looks.set)
set_there v s place n a lt at set_at =
    let (looks, there, is) = entry_set v s place n lt at in (looks, there, sym (default_at v.sets n [] a set_at) ∙ is)
