-- The next kernel that is listed, by what was found of it.
use Rattle.std.proofs.Common.{◌<◌, ◌∙◌, ◌∷◌, ◌++◌, ◌≡◌, ◌⊎◌, List, [], ap, inl, inr, length, map, subst, sym, ℕ, Some}
use Rattle.std.specs.Prelude.{slice_get}
use Rattle.wb_base.specs.Grammar.{GrammarView}
use Rattle.wb_grammar_theory.specs.declared.item.Item.{Item}
use Rattle.wb_items.specs.Kernels.{AreInOrder, ListsKernel, count_of, prefix_of}
use Rattle.wb_compose_theory.specs.Homes.{of, of_host}
use Rattle.wb_compose_theory.specs.Renamings.{renamed_item}
use Rattle.wb_compose_kernels.proofs.ListLemmas.{host_listed, host_passed, new_found, new_listed}
use Rattle.wb_lemmas.proofs.Places.{at_once}
use Rattle.wb_compose_kernels.proofs.PartLemmas.{HasPart, has_part}
use Rattle.wb_compose_kernels.specs.declared.splice.Part.{Part}
use Rattle.wb_compose_kernels.specs.declared.blocks.Blocks.{Blocks}
use Rattle.wb_compose_kernels.specs.declared.splice.Splice.{Splice}
use Rattle.wb_compose_kernels.specs.Lent.{AreSpliceable}
use Rattle.wb_compose_kernels.specs.Inner.Counts.{new_count_at}
use Rattle.wb_compose_kernels.specs.Inner.Blocks.{HasHoleItem, HasOwnBy, IsHoleBy, blocks_at, names_by}
use Rattle.wb_compose_kernels.specs.Inner.Given.{IsGiven}
use Rattle.wb_compose_kernels.specs.Inner.Lists.{AreSoFar, HasNoHoleAt, HasNoneLike, HostNext, IsDone}
use Rattle.wb_compose_kernels.specs.Inner.Lists.{IsHostDone, IsPut, NewNext, added, there}

module _ (s : Splice) (ok : AreSpliceable s) (given : IsGiven s) where
  -- the kernel of the host has an item of a hole's production
  pub next_passed : (old : List (List Item)) (n u : ℕ) (b : Blocks) (kernel : List Item) → b ≡ blocks_at s ok of_host →
      ListsKernel s.kernels.now.grammar (prefix_of s.kernels.now n) kernel → HasHoleItem b.productions kernel →
      AreSoFar s ok (IsHostDone s ok n) old → HostNext s ok old old n u
  next_passed old n u b kernel b_is lists hole h =
      let (item, has, is) = subst (λ (z : Blocks). HasHoleItem z.productions kernel) b_is hole in
      host_passed s ok given old n u h (λ free. free item
      ((subst (λ (g : GrammarView). ListsKernel g (prefix_of s.kernels.now n) kernel) ok.of_host lists item).0 has) is)

  -- it has none
  pub next_host : (old new : List (List Item)) (n u : ℕ) (b : Blocks) (kernel list : List Item) → b ≡ blocks_at s ok of_host →
      n < count_of s.kernels.now → u ≡ length old → ListsKernel s.kernels.now.grammar (prefix_of s.kernels.now n) kernel →
      AreInOrder kernel → ¬ HasHoleItem b.productions kernel → list ≡ map (renamed_item (names_by b)) kernel → new ≡ old ++ list ∷ [] →
      AreSoFar s ok (IsHostDone s ok n) old → HostNext s ok old new n u
  next_host old new n u b kernel list b_is below u_is lists order none list_is new_is h =
      let free : HasNoHoleAt s ok of_host n = (λ item has is. none (
        item,
        (subst (λ (g : GrammarView). ListsKernel g (prefix_of s.kernels.now n) kernel) ok.of_host lists item).1 has,
        subst (λ (z : Blocks). IsHoleBy z.productions item.production) (sym b_is) is,
      )) in
      let made = host_listed s ok given old n kernel below lists order h free in
      let list_is' = list_is ∙ ap (λ (z : Blocks). map (renamed_item (names_by z)) kernel) b_is in
      subst (λ v. HostNext s ok old new n v) (sym u_is)
      (subst (λ z. HostNext s ok old z n (length old)) (sym (new_is ∙ ap (λ z. old ++ z ∷ []) list_is')) made)

  -- a new kernel of an extension
  module _ (old : List (List Item)) (e n : ℕ) (b : Blocks) (kernel list : List Item) (less : e < length ok.pieces)
      (below : n < new_count_at s e) (p : Part) (p_at : slice_get s.parts.now e ≡ Some p)
      (found : slice_get p.new.now.index.kernels n ≡ Some kernel)
      (b_is : b ≡ blocks_at s ok (of e)) (list_is : list ≡ map (renamed_item (names_by b)) kernel)
      (h : AreSoFar s ok (IsDone s ok e n) old) where
    part : HasPart s ok e
    part = has_part s ok e less

    at : slice_get part.part.new.now.index.kernels n ≡ Some kernel
    at = subst (λ (q : Part). slice_get q.new.now.index.kernels n ≡ Some kernel)
        (at_once s.parts.now e p part.part p_at part.part_at) found

    made_is : list ≡ map (renamed_item (names_by (blocks_at s ok (of e)))) kernel
    made_is = list_is ∙ ap (λ (z : Blocks). map (renamed_item (names_by z)) kernel) b_is

    pub next_found : (u : ℕ) → slice_get old u ≡ Some list → NewNext s ok old old e n u
    next_found u was = new_found s ok given old e n kernel less below part at h u (was ∙ ap Some made_is)

    pub next_new : (new : List (List Item)) (u : ℕ) → u ≡ length old → new ≡ old ++ list ∷ [] →
        HasNoneLike old list ⊎ HasOwnBy b.productions kernel → NewNext s ok old new e n u
    next_new new u u_is new_is fresh =
        let fresh' : HasNoneLike old (map (renamed_item (names_by (blocks_at s ok (of e)))) kernel) ⊎
        HasOwnBy (blocks_at s ok (of e)).productions kernel = elim fresh [
          | inl none ↦ inl (subst (HasNoneLike old) made_is none)
          | inr own ↦ inr (subst (λ (z : Blocks). HasOwnBy z.productions kernel) b_is own)
        ] in
        subst (NewNext s ok old new e n) (sym u_is)
        (subst (λ z. NewNext s ok old z e n (length old)) (sym (new_is ∙ ap (λ z. old ++ z ∷ []) made_is))
        (new_listed s ok given old e n kernel less below part at h fresh'))

    -- it is put
    pub next_put : (new : List (List Item)) (u : ℕ) → IsPut old list new u → NewNext s ok old new e n u
    next_put new u (there at' new_is) = subst (λ z. NewNext s ok old z e n u) (sym new_is) (next_found u at')
    next_put new u (added none u_is new_is) = next_new new u u_is new_is (inl none)
