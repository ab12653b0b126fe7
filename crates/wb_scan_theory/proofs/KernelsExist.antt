-- A live grammar has kernels.
use Rattle.std.proofs.Common.{◌≡◌, ◌<◌, ◌⊎◌, ◌++◌, inl, inr, ℕ, zero, suc, List, [], ◌∷◌, length, refl, sym, ◌∙◌, subst, ap, arith}
use Rattle.std.proofs.Common.{Contains, slice_get, Some}
use Rattle.std.specs.Prelude.{slice_index_or}
use Rattle.std.proofs.lemmas.Option.{slice_get_within}
use Rattle.std.proofs.lemmas.Bool.{cases_lt}
use Rattle.std.proofs.lemmas.List.{get_or_past}
use Rattle.wb_lemmas.proofs.Places.{at_default, default_at, nothing_at}
use Rattle.wb_base.specs.declared.symbol.Symbol.{Symbol}
use Rattle.wb_base.specs.Grammar.{GrammarView}
use Rattle.wb_grammar_theory.specs.declared.item.Item.{Item}
use Rattle.wb_grammar_theory.specs.Productions.{end_of}
use Rattle.wb_grammar_theory.specs.Items.{after_dot, IsValidItem, start, close, move, HasItem, IsKernelItem, IsViablePrefix, SameKernel}
use Rattle.wb_grammar_theory.specs.Items.{start_item}
use Rattle.wb_grammar_theory.specs.Shape.{IsLive}
use Rattle.wb_grammar_theory.specs.States.{AreStates, IsNext}
use Rattle.wb_grammar_theory.proofs.KernelLemmas.{kernel_decides, same_move}
use Rattle.wb_grammar_theory.proofs.FlowLemmas.{same_itself, same_back, same_then}
use Rattle.wb_items.specs.Kernels.{KernelsView, AreKernels, AreInOrder, ListsItems, Precedes}
use Rattle.wb_lemmas.proofs.NotNot.{decide, certain, follows, bind, each_below, each_in, Chosen, choose}
use Rattle.wb_lemmas.proofs.Classes.{Same, AreClasses, classes}
use Rattle.wb_lemmas.proofs.Sublists.{IsPart, part, rising_places}
use Rattle.wb_scan_theory.proofs.ItemLists.{all_items, all_rise, item_listed}

module _ (g : GrammarView) (live : IsLive g) where
  -- prefixes with the same listed items of their kernels have the same kernel
  same_kernel : (p q : List Symbol) → Same (IsKernelItem g) (all_items g) p q → SameKernel g p q
  same_kernel p q same item = (
    λ h. (same item (item_listed g p item h.0)).0 h,
    λ h. (same item (item_listed g q item h.0)).1 h,
  )

  -- a viable prefix whose kernel isn't that of the empty one
  abbrev IsLater : List Symbol → Type 0
  IsLater p = IsViablePrefix g p × ¬ SameKernel g [] p

  empty_viable : IsViablePrefix g []
  empty_viable = (start_item g, end_of g, start)

  -- prefixes, the empty one first, of different kernels, and no kernel is missed
  record AreFound (prefixes : List (List Symbol)) : Type 0 where
    first : slice_index_or prefixes 0 [] ≡ []
    viable : (s : ℕ) → s < length prefixes → IsViablePrefix g (slice_index_or prefixes s [])
    once : (s t : ℕ) → s < length prefixes → t < length prefixes → SameKernel g (slice_index_or prefixes s []) (slice_index_or prefixes t []) → s ≡ t
    all : (p : List Symbol) → IsViablePrefix g p → ¬ ¬ ((s : ℕ) × (s < length prefixes) × SameKernel g (slice_index_or prefixes s []) p)

  module _ (later : List (List Symbol)) (h : AreClasses (IsKernelItem g) (all_items g) IsLater later) where
    abbrev prefix_at : ℕ → List Symbol
    prefix_at s = slice_index_or ([] ∷ later) s []

    later_at : (s : ℕ) → suc s < length ([] ∷ later) → slice_get later s ≡ Some (prefix_at (suc s))
    later_at s lt = at_default later s [] (omega (arith, lt))

    found_viable : (s : ℕ) → s < length ([] ∷ later) → IsViablePrefix g (prefix_at s)
    found_viable zero lt = empty_viable
    found_viable (suc s) lt = (h.inside s (prefix_at (suc s)) (later_at s lt)).0

    found_once : (s t : ℕ) → s < length ([] ∷ later) → t < length ([] ∷ later) → SameKernel g (prefix_at s) (prefix_at t) → s ≡ t
    found_once zero zero lt lu same = refl
    found_once zero (suc t) lt lu same = absurd ((h.inside t (prefix_at (suc t)) (later_at t lu)).1 same)
    found_once (suc s) zero lt lu same = absurd ((h.inside s (prefix_at (suc s)) (later_at s lt)).1 (same_back same))
    found_once (suc s) (suc t) lt lu same =
        ap suc (h.once s t (prefix_at (suc s)) (prefix_at (suc t)) (later_at s lt) (later_at t lu) (λ item has. same item))

    found_all : (p : List Symbol) → IsViablePrefix g p → (SameKernel g [] p ⊎ ¬ SameKernel g [] p)
        → ¬ ¬ ((s : ℕ) × (s < length ([] ∷ later)) × SameKernel g (prefix_at s) p)
    found_all p v (inl same) = certain (0, omega arith, same)
    found_all p v (inr other) = follows (h.all p (v, other)) (λ (i, q, at, same). (
      suc i,
      (let lt = slice_get_within later i q at in omega (arith, lt)),
      subst (λ z. SameKernel g z p) (sym (default_at later i [] q at)) (same_back (same_kernel p q same)),
    ))

    found : AreFound ([] ∷ later)
    found = record {
      first = refl;
      viable = found_viable;
      once = found_once;
      all = λ p v. bind (decide (SameKernel g [] p)) (found_all p v);
    }

  module _ (prefixes : List (List Symbol)) (h : AreFound prefixes) where
    abbrev at : ℕ → List Symbol
    at s = slice_index_or prefixes s []

    -- the kernel to which the symbol after the item's dot leads is there
    abbrev Moves : ℕ → Item → Type 0
    Moves s item = (x : Symbol) (rest : List Symbol) → after_dot g item ≡ x ∷ rest → IsViablePrefix g (at s ++ x ∷ [])
        → (s' : ℕ) × (s' < length prefixes) × SameKernel g (at s') (at s ++ x ∷ [])

    moves_by : (s : ℕ) (item : Item) (w : List Symbol) → after_dot g item ≡ w → ¬ ¬ Moves s item
    moves_by s item [] is = certain (λ x rest e v. absurd (no_symbol x rest (sym is ∙ e))) where
      no_symbol : (x : Symbol) (rest : List Symbol) → [] ≡ x ∷ rest → ⊥
      no_symbol x rest e = cc
    moves_by s item (y ∷ more) is = bind (decide (IsViablePrefix g (at s ++ y ∷ []))) (λ d. elim d [
      | inl v ↦ follows (h.all (at s ++ y ∷ []) v) (λ found x rest e w.
          let same : y ≡ x = let f : y ∷ more ≡ x ∷ rest = sym is ∙ e in cc in
          (found.0, found.1, subst (λ z. SameKernel g (at found.0) (at s ++ z ∷ [])) same found.2))
      | inr out ↦ certain (λ x rest e w.
          let same : x ≡ y = let f : x ∷ rest ≡ y ∷ more = sym e ∙ is in cc in
          absurd (out (subst (λ z. IsViablePrefix g (at s ++ z ∷ [])) same w)))
    ])

    moves_exist : ¬ ¬ ((s : ℕ) → s < length prefixes → (item : Item) → Contains (all_items g) item → Moves s item)
    moves_exist = each_below (length prefixes) (λ s. (item : Item) → Contains (all_items g) item → Moves s item)
        (λ s lt. each_in (all_items g) (Moves s) (λ item has. moves_by s item (after_dot g item) refl))

    module _ (moves : (s : ℕ) → s < length prefixes → (item : Item) → Contains (all_items g) item → Moves s item) where
      -- a prefix with an item has its number
      all_there : {prefix : List Symbol} {item : Item} {t : ℕ} → IsValidItem g prefix item t
          → (s : ℕ) × (s < length prefixes) × SameKernel g (at s) prefix
      all_there start = (0, some, subst (λ z. SameKernel g z []) (sym h.first) (same_itself g [])) where
        some : 0 < length prefixes
        some = elim (cases_lt 0 (length prefixes)) [
          | inl lt ↦ lt
          | inr none ↦ absurd (h.all [] empty_viable (λ (s, lt, same). omega (arith, lt, none)))
        ]
      all_there (close item t b rest q u right v is rule first) = all_there v
      all_there (move item x rest shorter {t} {longer} {moved} v is longer_is moved_is) =
          let (s, lt, same) = all_there v in
          let (u, w) = kernel_decides live v (at s) (same_back same) in
          let (s', lt', same') = moves s lt item (item_listed g shorter item (t, v)) x rest is (moved, u, move item x rest (at s) w is refl moved_is) in
          (s', lt', subst (SameKernel g (at s')) (sym longer_is) (same_then same' (same_move live (at s) shorter x same)))

      states : AreStates g (length prefixes) at (λ s x s'. IsNext g (length prefixes) at s x s')
      states = record {
        first = h.first;
        prefixes = h.viable;
        each_once = h.once;
        all = λ prefix v. all_there v.2;
        next = λ s x s'. (λ n. n, λ n. n);
      }

      module _ (c : Chosen (length prefixes) [] (λ s items. IsPart Precedes (HasItem g (at s)) (all_items g) items)) where
        ordered : (s : ℕ) → AreInOrder (slice_index_or c.list s [])
        ordered s = elim (cases_lt s (length prefixes)) [
          | inl lt ↦ rising_places Precedes (slice_index_or c.list s []) (c.each s lt).rising
          | inr past ↦ subst AreInOrder (sym (get_or_past c.list s [] (let l = c.len in omega (arith, l, past))))
              (λ i j a b lt p q. absurd (nothing_at a i p))
        ]

        lists : (s : ℕ) → s < length prefixes → ListsItems g (at s) (slice_index_or c.list s [])
        lists s lt item = (
          λ has. (((c.each s lt).exact item).0 has).1,
          λ has. ((c.each s lt).exact item).1 (item_listed g (at s) item has, has),
        )

        abbrev view : KernelsView
        view = record { grammar = g; prefixes = prefixes; closures = c.list }

        kernels : AreKernels view
        kernels = record { live = live; states = states; closures_len = c.len; closures = lists; in_order = ordered }

    closures_exist : ¬ ¬ Chosen (length prefixes) [] (λ s items. IsPart Precedes (HasItem g (at s)) (all_items g) items)
    closures_exist = choose (length prefixes) [] (λ s items. IsPart Precedes (HasItem g (at s)) (all_items g) items)
        (λ s lt. part Precedes (HasItem g (at s)) (all_items g) (all_rise g))

    kernels_of : ¬ ¬ ((kernels : KernelsView) × AreKernels kernels × (kernels.grammar ≡ g))
    kernels_of = bind moves_exist (λ m. follows closures_exist (λ c. (view m c, kernels m c, refl)))

  pub kernels_exist : ¬ ¬ ((kernels : KernelsView) × AreKernels kernels × (kernels.grammar ≡ g))
  kernels_exist = bind (classes (IsKernelItem g) (all_items g) IsLater) (λ (later, h). kernels_of ([] ∷ later) (found later h))
