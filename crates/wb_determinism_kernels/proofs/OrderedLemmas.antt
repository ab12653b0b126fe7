-- An index of kernels in order, and one kernel more.
use Rattle.std.proofs.Common.{◌≡◌, ◌++◌, ◌∷◌, ◌∙◌, [], List, ℕ, length, sym, ap, subst, arith, length-append}
use Rattle.std.specs.List.{insert}
use Rattle.wb_grammar_theory.specs.declared.item.Item.{Item}
use Rattle.wb_items.specs.KernelOrder.{IsIndex, LiesWithin}
use Rattle.wb_items.specs.Kernels.{AreInOrder}
use Rattle.wb_items.proofs.IndexLemmas.{index_more}
use Rattle.wb_determinism_kernels.specs.declared.index.Step.{Step}
use Rattle.wb_determinism_kernels.specs.NewKernels.{IndexView}
use Rattle.wb_determinism_kernels.specs.Inner.Growing.{IsOrdered}

pub ordered_more : (steps steps' : List Step) (kernels kernels' : List (List Item)) (order order' : List ℕ) (step : Step)
    (kernel : List Item) (place n : ℕ) → IsOrdered steps kernels order → LiesWithin kernels order kernel place place → AreInOrder kernel →
    steps' ≡ steps ++ step ∷ [] → kernels' ≡ kernels ++ kernel ∷ [] → order' ≡ insert order place n → n ≡ length kernels →
    IsOrdered steps' kernels' order'
ordered_more steps steps' kernels kernels' order order' step kernel place n h lies sorted e f k last = record {
  len = (let one = ap (λ (z : List Step). length z) e in let two = ap (λ (z : List (List Item)). length z) f in let three = h.len in omega
      (arith, one, two, three, length-append {A = List Item} kernels (kernel ∷ []), length-append {A = Step} steps (step ∷ [])));
  index = subst (λ o. IsIndex o kernels') (sym (k ∙ ap (insert order place) last))
      (subst (IsIndex (insert order place (length kernels))) (sym f) (index_more kernels order kernel place h.index lies sorted));
}

-- what is shown then
pub shown_more : (steps steps' : List Step) (kernels kernels' : List (List Item)) (step : Step) (kernel : List Item) →
    steps' ≡ steps ++ step ∷ [] → kernels' ≡ kernels ++ kernel ∷ [] →
    ◌≡◌ {A = IndexView} (record { steps = steps'; kernels = kernels' })
    (record { steps = steps ++ step ∷ []; kernels = kernels ++ kernel ∷ [] })
shown_more steps steps' kernels kernels' step kernel e f = λ i. record { steps = e i; kernels = f i }
