-- Kernels that code keeps as lists of items, one more for each line.
use Rattle.std.proofs.Common.{◌≡◌, ℕ, ◌<◌, ◌⊎◌, suc, List, [], ◌∷◌, ◌++◌, length, length-append, Some, Contains, refl, sym, subst}
use Rattle.std.proofs.Common.{inl, inr, arith}
use Rattle.std.specs.Prelude.{◌↔◌, slice_get}
use Rattle.std.proofs.lemmas.Option.{slice_get_within}
use Rattle.wb_lemmas.proofs.Places.{at_one, at_push, push_last}
use Rattle.wb_lemmas.proofs.Members.{contains_one}
use Rattle.wb_base.specs.declared.symbol.Symbol.{Symbol}
use Rattle.wb_base.specs.Grammar.{GrammarView}
use Rattle.wb_grammar_theory.specs.declared.item.Item.{Item}
use Rattle.wb_grammar_theory.specs.Items.{start_item}
use Rattle.wb_grammar_theory.specs.Closure.{InClosure, kernel, opened, MovesTo}
use Rattle.wb_recheck_theory.specs.declared.line.Line.{Line}
use Rattle.wb_recheck_theory.specs.Lines.{kernel_count, IsItemAt, IsKernelItemAt, IsMoveOf}
use Rattle.wb_recheck_theory.specs.KernelLists.{AreKernelsOfLines}
use Rattle.wb_recheck_theory.proofs.ClosureLemmas.{closure_there, closure_back, kernel_first, kernel_moved}
use Rattle.wb_recheck_theory.proofs.GrowLemmas.{item_grown, item_shrunk}

-- the closure of a larger set is larger
pub closure_weaker : {g : GrammarView} {Set Other : Item → Type 0} → ((item : Item) → Set item → Other item) → {item : Item} →
    InClosure g Set item → InClosure g Other item
closure_weaker weaker (kernel i) = kernel (weaker _ i)
closure_weaker weaker (opened item b rest q right i is rule) = opened item b rest q right (closure_weaker weaker i) is rule

-- and so is what moves from it
pub moves_weaker : {g : GrammarView} {Set Other : Item → Type 0} → ((item : Item) → Set item → Other item) → (x : Symbol) (item : Item) →
    MovesTo g Set x item → MovesTo g Other x item
moves_weaker weaker x item m =
    record { item = m.item; rest = m.rest; within = closure_weaker weaker m.within; before_dot = m.before_dot; is = m.is }

module _ {g : GrammarView} {lines : List Line} {kernels : List (List Item)} (lists : AreKernelsOfLines g lines kernels)
    (k : ℕ) (list : List Item) (at : slice_get kernels k ≡ Some list) where
  -- the items at a kernel are the closure of its list
  pub closure_exact : (item : Item) → IsItemAt g lines k item ↔ InClosure g (Contains list) item
  closure_exact item = (
    λ i. closure_weaker (λ j. (lists.exact k list at j).1) (closure_there i),
    λ i. closure_back (closure_weaker (λ j. (lists.exact k list at j).0) i),
  )

  -- what moves from a kernel is what moves from its list
  pub moves_exact : (x : Symbol) (item : Item) → MovesTo g (IsKernelItemAt g lines k) x item ↔ MovesTo g (Contains list) x item
  moves_exact x item = (
    λ m. moves_weaker (λ j. (lists.exact k list at j).1) x item m,
    λ m. moves_weaker (λ j. (lists.exact k list at j).0) x item m,
  )

  -- a kernel is the move of another where its list has what moves from the other's
  pub move_exact : (x : Symbol) (m : ℕ) (other : List Item) → slice_get kernels m ≡ Some other →
      IsMoveOf g lines k x m ↔ ((item : Item) → Contains other item ↔ MovesTo g (Contains list) x item)
  move_exact x m other at' = (
    λ h item. (
      λ i. (moves_exact x item).0 ((h item).0 ((lists.exact m other at' item).0 i)),
      λ i. (lists.exact m other at' item).1 ((h item).1 ((moves_exact x item).1 i)),
    ),
    λ h item. (
      λ i. (moves_exact x item).1 ((h item).0 ((lists.exact m other at' item).1 i)),
      λ i. (lists.exact m other at' item).0 ((h item).1 ((moves_exact x item).0 i)),
    ),
  )

-- without lines there is the start item alone
pub kernels_start : (g : GrammarView) → AreKernelsOfLines g [] ((start_item g ∷ []) ∷ [])
kernels_start g = record { len = refl; exact = λ k list at. exact k list (at_one (start_item g ∷ []) list k at) }
  where
    exact : (k : ℕ) (list : List Item) → (k ≡ 0) × ((start_item g ∷ []) ≡ list) → (item : Item) →
        Contains list item ↔ IsKernelItemAt g [] k item
    exact k list (zero, same) item =
        let one = contains_one (start_item g) item in
        let first = kernel_first g [] item in (
          λ i. subst (λ n. IsKernelItemAt g [] n item) (sym zero) (first.1 (one.0 (subst (λ l. Contains l item) (sym same) i))),
          λ i. subst (λ l. Contains l item) same (one.1 (first.0 (subst (λ n. IsKernelItemAt g [] n item) zero i))),
        )

-- one more line, and the list of what moves from the kernel that it names
pub kernels_pushed : (g : GrammarView) (lines : List Line) (kernels : List (List Item)) (line : Line) (from new : List Item) →
    ((n : ℕ) (l : Line) → slice_get lines n ≡ Some l → l.from < suc n) → AreKernelsOfLines g lines kernels →
    slice_get kernels line.from ≡ Some from → ((item : Item) → Contains new item ↔ MovesTo g (Contains from) line.symbol item) →
    AreKernelsOfLines g (lines ++ line ∷ []) (kernels ++ new ∷ [])
kernels_pushed g lines kernels line from new froms lists from_at moved = record {
  len = (
      let long = lists.len in
      let more = length-append lines (line ∷ []) in
      let more' = length-append kernels (new ∷ []) in
      omega (arith, long, more, more')
      );
  exact = λ k list at. exact k list (at_push kernels new list k at);
}
  where
    within : (k : ℕ) (list : List Item) → slice_get kernels k ≡ Some list → k < kernel_count lines
    within k list at = let long = lists.len in let lt = slice_get_within kernels k list at in omega (arith, long, lt)

    grown : (item : Item) → IsKernelItemAt g lines line.from item → IsKernelItemAt g (lines ++ line ∷ []) line.from item
    grown item i = (item_grown (line ∷ []) i.0, i.1)

    shrunk : (k : ℕ) → k < kernel_count lines → (item : Item) → IsKernelItemAt g (lines ++ line ∷ []) k item → IsKernelItemAt g lines k item
    shrunk k lt item i = (item_shrunk lines (line ∷ []) froms i.0 lt, i.1)

    last : (item : Item) → Contains new item ↔ IsKernelItemAt g (lines ++ line ∷ []) (suc (length lines)) item
    last item =
        let step = kernel_moved g (lines ++ line ∷ []) (length lines) line (push_last lines line) item in
        let old = moves_exact lists line.from from from_at line.symbol item in (
          λ i. step.1 (moves_weaker grown line.symbol item (old.1 ((moved item).0 i))),
          λ i. (moved item).1 (old.0 (moves_weaker (shrunk line.from (within line.from from from_at)) line.symbol item (step.0 i))),
        )

    exact : (k : ℕ) (list : List Item) → (slice_get kernels k ≡ Some list) ⊎ ((k ≡ length kernels) × (new ≡ list)) → (item : Item) →
        Contains list item ↔ IsKernelItemAt g (lines ++ line ∷ []) k item
    exact k list (inl old) item = (
      λ i. (let j = (lists.exact k list old item).0 i in (item_grown (line ∷ []) j.0, j.1)),
      λ i. (lists.exact k list old item).1 (shrunk k (within k list old) item i),
    )
    exact k list (inr (is, same)) item =
        let place : k ≡ suc (length lines) = (let long = lists.len in omega (arith, long, is)) in
        subst (λ n. Contains list item ↔ IsKernelItemAt g (lines ++ line ∷ []) n item) (sym place)
        (subst (λ l. Contains l item ↔ IsKernelItemAt g (lines ++ line ∷ []) (suc (length lines)) item) same (last item))
