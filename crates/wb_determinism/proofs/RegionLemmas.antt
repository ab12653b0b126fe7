-- Kernels of an extended host that are looked up among the host's.
use Rattle.std.proofs.Common.{◌≡◌, ◌<◌, ◌+◌, ◌∙◌, ℕ, List, [], ◌∷◌, ◌++◌, Some, length, map, refl, sym, ap, subst, inl, inr, arith}
use Rattle.std.proofs.Common.{length-append}
use Rattle.std.specs.Prelude.{◌⊎◌, ◌↔◌, Contains, slice_get}
use Rattle.wb_lemmas.proofs.Members.{contains_cases, contains_first, contains_later, nothing_in}
use Rattle.wb_lemmas.proofs.Places.{at_push}
use Rattle.wb_base.specs.declared.symbol.Symbol.{Symbol}
use Rattle.wb_base.specs.Grammar.{GrammarView}
use Rattle.wb_grammar_theory.specs.declared.item.Item.{Item}
use Rattle.wb_grammar_theory.specs.Productions.{end_of}
use Rattle.wb_grammar_theory.specs.Items.{IsValidItem, start, close, move, IsKernelItem, IsViablePrefix, start_item}
use Rattle.wb_items.specs.Kernels.{KernelsView, AreKernels, ListsKernel, count_of, prefix_of}
use Rattle.wb_determinism.specs.declared.numbers.Numbers.{Numbers}
use Rattle.wb_determinism.specs.declared.regions.Region.{Region}
use Rattle.wb_compose_theory.specs.Numbered.{IsHostKernel, IsNewHostKernel}
use Rattle.wb_determinism.specs.Numbers.{item_up, up_by}
use Rattle.wb_determinism.specs.Regions.{IsExtensionKernel, IsRegion, AreRegions}
use Rattle.wb_determinism.specs.Inner.Moved.{HasForeign, AreMoved}
use Rattle.wb_determinism.proofs.NumberLemmas.{item_up_once}

-- what a function makes of a member is a member of what it makes of the list
pub map_contains : {A B : Type 0} (f : A → B) (xs : List A) (x : A) → Contains xs x → Contains (map f xs) (f x)
map_contains f [] x has = absurd (nothing_in x has)
map_contains f (y ∷ xs) x has = elim (contains_cases y x xs has) [
  | inl same ↦ subst (λ z. Contains (map f (y ∷ xs)) (f z)) same (contains_first (f y) (map f xs))
  | inr later ↦ contains_later (f y) (f x) (map f xs) (map_contains f xs x later)
]

-- a member of what a function makes of a list is made of a member
pub contains_map : {A B : Type 0} (f : A → B) (xs : List A) (y : B) → Contains (map f xs) y → (x : A) × (y ≡ f x) × Contains xs x
contains_map f [] y has = absurd (nothing_in y has)
contains_map f (z ∷ xs) y has = elim (contains_cases (f z) y (map f xs) has) [
  | inl same ↦ (z, sym same, contains_first z xs)
  | inr later ↦ (let (x, is, there) = contains_map f xs y later in (x, is, contains_later z x xs there))
]

-- a prefix with an item has a kernel item
pub kernel_item : {g : GrammarView} {prefix : List Symbol} {item : Item} {t : ℕ} → IsValidItem g prefix item t
    → (one : Item) × IsKernelItem g prefix one
kernel_item {g} start = (start_item g, ((end_of g, start), inr (refl, refl)))
kernel_item (close item t b rest q u right v is rule first) = kernel_item v
kernel_item (move item x rest prefix {t} {longer} {moved} v is longer_is moved_is) = (
  moved,
  (
    (t, move item x rest prefix v is longer_is moved_is),
    inl (λ none. let dot : moved.dot ≡ item.dot + 1 = ap (λ (i : Item). i.dot) moved_is in omega (arith, dot, none)),
  ),
)

module _ (g k : GrammarView) (m : Numbers) (host both : List Symbol) (items own : List Item) where
  -- a kernel with these items has a host's item where the host's list has it
  pub listed_up : AreMoved m items own → ListsKernel k both items → (one : Item) → Contains own one → IsKernelItem k both (item_up m one)
  listed_up are here one has =
      (here (item_up m one)).0 (subst (λ (z : List Item). Contains z (item_up m one)) are (map_contains (item_up m) own one has))

  -- and only there
  pub listed_down : AreMoved m items own → ListsKernel k both items → (one : Item) → IsKernelItem k both (item_up m one) → Contains own one
  listed_down are here one has =
      let (other, same, found) = contains_map (item_up m) own (item_up m one)
      (subst (λ (z : List Item). Contains z (item_up m one)) (sym are) ((here (item_up m one)).1 has)) in
      subst (Contains own) (sym (item_up_once m one other same)) found

  -- all its items are the host's
  pub moved_within : AreMoved m items own → ListsKernel k both items → (item : Item) → IsKernelItem k both item
      → (one : Item) × (item ≡ item_up m one)
  moved_within are here item has =
      let (one, is, listed) = contains_map (item_up m) own item
      (subst (λ (z : List Item). Contains z item) (sym are) ((here item).1 has)) in
      (one, is)

  -- a kernel whose items are those of a host's kernel is the host's
  pub moved_kernel : AreMoved m items own → ListsKernel k both items → ListsKernel g host own → IsHostKernel g k (up_by m) both host
  moved_kernel are here there = record {
    within = moved_within are here;
    same = λ one. (λ has. listed_up are here one ((there one).1 has), λ has. (there one).0 (listed_down are here one has));
  }

  -- and the other way round
  pub moved_lists : AreMoved m items own → ListsKernel k both items
      → ((one : Item) → IsKernelItem g host one ↔ IsKernelItem k both (item_up m one)) → ListsKernel g host own
  moved_lists are here same one =
      (λ has. (same one).1 (listed_up are here one has), λ has. listed_down are here one ((same one).0 has))

-- the host's prefix of a kernel that is the host's is viable
pub host_viable : (g k : GrammarView) (m : Numbers) (host both : List Symbol) → IsViablePrefix k both
    → ((item : Item) → IsKernelItem k both item → (one : Item) × (item ≡ item_up m one))
    → ((one : Item) → IsKernelItem g host one ↔ IsKernelItem k both (item_up m one)) → IsViablePrefix g host
host_viable g k m host both (item, t, valid) within same =
    let (one, has) = kernel_item valid in
    let (own, is) = within one has in
    let there = (same own).1 (subst (IsKernelItem k both) is has) in
    (own, there.0.0, there.0.1)

module _ (host both : KernelsView) (m : Numbers) (s : ℕ) (items : List Item) where
  -- a kernel with an item that isn't the host's
  pub foreign_region : ListsKernel both.grammar (prefix_of both s) items → HasForeign m items
      → IsExtensionKernel host.grammar both.grammar m (prefix_of both s)
  foreign_region lists found = record { item = found.item; has = (lists found.item).0 found.has; foreign = found.foreign }

  -- a kernel of the host's items that none of the host has
  pub new_region : AreKernels both → s < count_of both → ListsKernel both.grammar (prefix_of both s) items → (own : List Item)
      → AreMoved m items own → ((prefix : List Symbol) → IsViablePrefix host.grammar prefix → ¬ ListsKernel host.grammar prefix own)
      → IsNewHostKernel host.grammar both.grammar (up_by m) (prefix_of both s)
  new_region exact below lists own are none = record {
    within = within;
    is_new = λ other same.
        none other (host_viable host.grammar both.grammar m other (prefix_of both s) (exact.states.prefixes s below) within same)
        (moved_lists host.grammar both.grammar m other (prefix_of both s) items own are lists same);
  }
    where
      within : (item : Item) → IsKernelItem both.grammar (prefix_of both s) item → (one : Item) × (item ≡ item_up m one)
      within = moved_within host.grammar both.grammar m [] (prefix_of both s) items own are lists

-- one region more
pub regions_more : (host both : KernelsView) (m : Numbers) (s : ℕ) (regions : List Region) (region : Region)
    → AreRegions host both m s regions → IsRegion host both m s region → AreRegions host both m (s + 1) (regions ++ region ∷ [])
regions_more host both m s regions region are is = record {
  len = omega (arith, length-append regions (region ∷ []), are.len);
  each = λ n other at. pick n other (at_push regions region other n at);
}
  where
    pick : (n : ℕ) (other : Region) → (slice_get regions n ≡ Some other) ⊎ ((n ≡ length regions) × (region ≡ other))
        → IsRegion host both m n other
    pick n other (inl at) = are.each n other at
    pick n other (inr (here, same)) =
        subst (IsRegion host both m n) same (subst (λ (j : ℕ). IsRegion host both m j region) (sym (here ∙ are.len)) is)
