-- What a union leaves in the sets at items, and how rows belong to kernels.
use Rattle.std.proofs.Common.{◌≡◌, ℕ, ◌+◌, ◌<◌, ◌⊎◌, Bool, List, [], length, get_or, set, Some, refl, sym, ◌∙◌, ap, subst, inl, inr}
use Rattle.std.proofs.Common.{arith}
use Rattle.std.proofs.Common.{length-set, get_or-set_same, get_or-set_other}
use Rattle.std.specs.Prelude.{All, Contains, IsTrue, false, slice_get, slice_set, option_map}
use Rattle.std.proofs.lemmas.Bool.{cases_eq, cases_lt}
use Rattle.std.proofs.lemmas.List.{get_or_past}
use Rattle.std.proofs.lemmas.List.Elements.{All-set, All-get_or}
use Rattle.std.proofs.lemmas.Option.{slice_get-map}
use Rattle.wb_lemmas.proofs.Places.{at_once}
use Rattle.wb_lemmas.proofs.Members.{contains_at}
use Rattle.wb_grammar_theory.specs.declared.item.Item.{Item}
use Rattle.wb_grammar_theory.specs.Items.{HasItem}
use Rattle.wb_base.specs.Grammar.{GrammarView}
use Rattle.wb_termset.specs.Sets.{Grew, IsEmpty, IsMember, IsUnion}
use Rattle.wb_items.specs.declared.item_lookahead.ItemLookahead.{ItemLookahead}
use Rattle.wb_items.specs.Apart.{AreApart, BelongTogether}
use Rattle.wb_items.specs.Kernels.{KernelsView, AreKernels, Precedes, closure_of, count_of, prefix_of}
use Rattle.wb_items.specs.Lookaheads.{AnswersUnion, AreEmpty, AreLookaheadsOf, AreNumbered, HasNumber, IsSetOf, Lists, LookaheadsView}
use Rattle.wb_items.specs.Lookaheads.{Unites, items_in, items_of, numbers_of, row_of, set_of}
use Rattle.wb_items.proofs.RowLemmas.{listed_by, lists_by, numbered, place_number, row_items_are, set_number}

-- two items have one set
abbrev pub ShareSet : LookaheadsView → ℕ → Item → ℕ → Item → Type 0
ShareSet l s one k other = (n : ℕ) × HasNumber l s one n × HasNumber l k other n

-- the place of an item is one alone
not_before : (item : Item) → Precedes item item → ⊥
not_before item (inl less) = omega arith
not_before item (inr less) = (let f = less.1 in omega (arith, f))

module _ {l : LookaheadsView} (h : AreNumbered l) where
  pub place_once : (s : ℕ) (item : Item) (i j : ℕ) → slice_get (items_of l s) i ≡ Some item → slice_get (items_of l s) j ≡ Some item → i ≡ j
  place_once s item i j at at' = elim (cases_eq i j) [
    | inl same ↦ same
    | inr other ↦ absurd (elim (cases_lt i j) [
      | inl less ↦ not_before item (h.in_order s i j item item less at at')
      | inr more ↦ not_before item (h.in_order s j i item item (omega (arith, more, other)) at' at)
    ])
  ]

  -- and so is its number
  pub number_once : (s : ℕ) (item : Item) (m n : ℕ) → HasNumber l s item m → HasNumber l s item n → m ≡ n
  number_once s item m n (i, at, has) (j, at', has') =
      at_once (numbers_of l s) j m n (subst (λ z. slice_get (numbers_of l s) z ≡ Some m) (place_once s item i j at at') has) has'

module _ {old new : LookaheadsView} {s : ℕ} {item : Item} {added : List Bool} (u : Unites old s item added new) where
  new_sets : (n : ℕ) → set_of new n ≡ get_or (set old.sets u.number u.union) n []
  new_sets n = ap (λ (z : LookaheadsView). set_of z n) u.is

  changed : set_of new u.number ≡ u.union
  changed = new_sets u.number ∙ get_or-set_same old.sets u.number u.union [] u.below

  pub stayed : (n : ℕ) → (n ≡ u.number → ⊥) → set_of new n ≡ set_of old n
  stayed n other = new_sets n ∙ get_or-set_other old.sets u.number n u.union [] other

  -- items keep their numbers
  pub number_kept : (k : ℕ) (i : Item) (n : ℕ) → HasNumber old k i n → HasNumber new k i n
  number_kept k i n = subst (λ (z : LookaheadsView). HasNumber old k i n → HasNumber z k i n) (sym u.is) (λ x. x)

  pub number_back : (k : ℕ) (i : Item) (n : ℕ) → HasNumber new k i n → HasNumber old k i n
  number_back k i n = subst (λ (z : LookaheadsView). HasNumber z k i n → HasNumber old k i n) (sym u.is) (λ x. x)

  -- what was listed stays
  pub lists_kept : (k : ℕ) (i : Item) (t : ℕ) → Lists old k i t → Lists new k i t
  lists_kept k i t lists =
      let (n, here, has) = listed_by old k i t lists in
      lists_by new k i n t (number_kept k i n here) (elim (cases_eq n u.number) [
        | inl same ↦ subst (λ z. IsMember (set_of new z) t) (sym same)
            (subst (λ z. IsMember z t) (sym changed) ((u.joined.each t).1 (inl (subst (λ z. IsMember (set_of old z) t) same has))))
        | inr other ↦ subst (λ z. IsMember z t) (sym (stayed n other)) has
      ])

  -- what is listed was listed, or was added and the item shares the set
  pub lists_new : (k : ℕ) (i : Item) (t : ℕ) → Lists new k i t → Lists old k i t ⊎ (ShareSet old s item k i × IsMember added t)
  lists_new k i t lists =
      let (n, there, has) = listed_by new k i t lists in
      let here : HasNumber old k i n = number_back k i n there in
      elim (cases_eq n u.number) [
        | inl same ↦
            let member : IsMember u.union t = subst (λ z. IsMember z t) (ap (set_of new) same ∙ changed) has in
            elim ((u.joined.each t).0 member) [
              | inl before ↦ inl (lists_by old k i n t here (subst (λ z. IsMember (set_of old z) t) (sym same) before))
              | inr fresh ↦ inr ((u.number, u.has, subst (HasNumber old k i) same here), fresh)
            ]
        | inr other ↦ inl (lists_by old k i n t here (subst (λ z. IsMember z t) (stayed n other) has))
      ]

  -- what was added is listed
  pub lists_added : (t : ℕ) → IsMember added t → Lists new s item t
  lists_added t has = lists_by new s item u.number t (number_kept s item u.number u.has)
      (subst (λ z. IsMember z t) (sym changed) ((u.joined.each t).1 (inr has)))

  -- a set for each item stays a set for each item
  pub numbered_kept : AreNumbered old → AreNumbered new
  numbered_kept h = subst AreNumbered (sym u.is) (record {
    rows = h.rows;
    fit = h.fit;
    below = λ k place n at. (let lt = h.below k place n at in let e = length-set old.sets u.number u.union in omega (arith, lt, e));
    in_order = h.in_order;
  })

  pub shape_kept : {kernels : KernelsView} → AreLookaheadsOf kernels old → AreLookaheadsOf kernels new
  shape_kept {kernels} h =
      let wide = λ (z : List Bool). length z ≡ kernels.grammar.terminals + 1 in
      record {
        items = ap (λ (z : LookaheadsView). z.items) u.is ∙ h.items;
        numbered = numbered_kept h.numbered;
        widths = subst (λ (z : LookaheadsView). All wide z.sets) (sym u.is) (All-set wide old.sets u.number u.union
            (u.joined.len ∙ All-get_or wide old.sets u.number [] u.below h.widths) h.widths);
      }

  -- items that are apart stay so
  pub apart_kept : (g : GrammarView) → AreApart g old → AreApart g new
  apart_kept g h k j one other m n p q = h k j one other m n (number_back k one m p) (number_back j other n q)

module _ {kernels : KernelsView} (h : AreKernels kernels) (lookaheads : LookaheadsView) (shape : AreLookaheadsOf kernels lookaheads) where
  pub rows_within : length lookaheads.items ≡ count_of kernels
  rows_within = ap length shape.items ∙ h.closures_len

  pub items_are : (s : ℕ) → items_of lookaheads s ≡ closure_of kernels s
  items_are s = ap (λ z. get_or z s []) shape.items

  pub row_items : (s : ℕ) → items_in (row_of lookaheads s) ≡ closure_of kernels s
  row_items s = row_items_are shape.numbered s ∙ items_are s

  -- the row of a kernel has its items
  pub row_has : (s : ℕ) (item : Item) → s < count_of kernels → HasItem kernels.grammar (prefix_of kernels s) item →
      Contains (items_in (row_of lookaheads s)) item
  row_has s item lt has = subst (λ z. Contains z item) (sym (row_items s)) ((h.closures s lt item).1 has)

  -- each has a number
  pub number_of : (s : ℕ) (item : Item) → s < count_of kernels → HasItem kernels.grammar (prefix_of kernels s) item →
      (n : ℕ) × HasNumber lookaheads s item n
  number_of s item lt has = numbered shape.numbered s item (subst (λ z. Contains z item) (sym (items_are s)) ((h.closures s lt item).1 has))

  -- and an item with a number is one of the kernel
  pub has_number : (s : ℕ) (item : Item) (n : ℕ) → s < count_of kernels → HasNumber lookaheads s item n →
      HasItem kernels.grammar (prefix_of kernels s) item
  has_number s item n lt (i, at, _) =
      (h.closures s lt item).0 (subst (λ z. Contains z item) (items_are s) (contains_at (items_of lookaheads s) item i at))

  -- the set at a number has room for every terminal and the end
  pub set_wide : (s : ℕ) (item : Item) (a : List Bool) → IsSetOf lookaheads s item a → length a ≡ kernels.grammar.terminals + 1
  set_wide s item a there =
      let wide = λ (z : List Bool). length z ≡ kernels.grammar.terminals + 1 in
      let (n, (place, at, has), is) = set_number lookaheads s item a there in
      subst wide is (All-get_or wide lookaheads.sets n [] (shape.numbered.below s place n has) shape.widths)

  -- and so has each set of a row
  pub row_wide : (s i : ℕ) (looks : ItemLookahead) → slice_get (row_of lookaheads s) i ≡ Some looks →
      length looks.set ≡ kernels.grammar.terminals + 1
  row_wide s i looks at = set_wide s looks.item looks.set (contains_at (row_of lookaheads s) looks i at)

  -- the set at an item is one alone
  pub set_once : (s : ℕ) (item : Item) (a b : List Bool) → IsSetOf lookaheads s item a → IsSetOf lookaheads s item b → a ≡ b
  set_once s item a b there other =
      let (m, one, is) = set_number lookaheads s item a there in
      let (n, two, is') = set_number lookaheads s item b other in
      sym is ∙ ap (set_of lookaheads) (number_once shape.numbered s item m n one two) ∙ is'

-- what is listed at an item is listed at those that belong with it
pub lists_together : (g : GrammarView) (l : LookaheadsView) (one other : Item) → AreApart g l → BelongTogether g one other → (s n : ℕ) →
    HasNumber l s other n → (t : ℕ) → Lists l s one t → Lists l s other t
lists_together g l one other apart belong s n there t lists =
    let (m, here, has) = listed_by l s one t lists in
    let same : m ≡ n = (apart s s one other m n here there).1 (refl, belong) in
    lists_by l s other n t there (subst (λ z. IsMember (set_of l z) t) same has)

-- empty sets have nothing
pub empty_sets : (lookaheads : LookaheadsView) → AreEmpty lookaheads → (n t : ℕ) → IsMember (set_of lookaheads n) t → ⊥
empty_sets lookaheads empty n t has = elim (cases_lt n (length lookaheads.sets)) [
  | inl lt ↦ All-get_or IsEmpty lookaheads.sets n [] lt empty t has
  | inr past ↦ nothing (subst (λ z. IsMember z t) (get_or_past lookaheads.sets n [] past) has)
]
  where
    nothing : IsMember [] t → ⊥
    nothing e = cc

-- and list nothing
pub empty_lists : (lookaheads : LookaheadsView) → AreEmpty lookaheads → (s : ℕ) (item : Item) (t : ℕ) → Lists lookaheads s item t → ⊥
empty_lists lookaheads empty s item t lists =
    let (n, _, has) = listed_by lookaheads s item t lists in empty_sets lookaheads empty n t has

-- the item at a place is that of the entry there
pub item_there : (row : List ItemLookahead) (n : ℕ) (looks : ItemLookahead) (item : Item) → slice_get row n ≡ Some looks →
    slice_get (items_in row) n ≡ Some item → looks.item ≡ item
item_there row n looks item at there =
    at_once (items_in row) n looks.item item (slice_get-map (λ (l : ItemLookahead). l.item) row n ∙
    ap (option_map (λ (l : ItemLookahead). l.item)) at) there

-- a union at a place is one at the item there
pub union_answer : {old new : LookaheadsView} {added : List Bool} {answer : Bool} (s place : ℕ) (item : Item) →
    slice_get (items_in (row_of old s)) place ≡ Some item →
    (n : ℕ) × (union : List Bool) × (slice_get (numbers_of old s) place ≡ Some n) × (n < length old.sets) ×
    IsUnion (set_of old n) added union × (IsTrue answer → Grew (set_of old n) union) ×
    (new ≡ record old { sets = slice_set old.sets n union }) →
    (answer ≡ false → new ≡ old) → AnswersUnion old s item added new answer
union_answer {old} s place item here (n, union, there, below, joined, grew, is) stays = record {
  united = record { number = n; union = union; has = place_number old s place n item here there; below = below; joined = joined; is = is };
  grew = grew;
  stayed = stays;
}
