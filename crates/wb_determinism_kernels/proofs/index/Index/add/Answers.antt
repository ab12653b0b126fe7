use Rattle.std.proofs.Common.{◌≡◌, ◌++◌, ◌∷◌, [], List, Some, length, ◌∙◌, ap, subst, arith}
use Rattle.std.specs.Prelude.{slice_get}
use Rattle.wb_grammar_theory.specs.declared.item.Item.{Item}
use Rattle.wb_items.specs.KernelOrder.{LiesWithin}
use Rattle.wb_items.specs.Table.{SameItems}
use Rattle.wb_determinism_kernels.specs.declared.index.Step.{Step}
use Rattle.wb_determinism_kernels.specs.NewKernels.{IndexView}
use Rattle.wb_determinism_kernels.proofs.OrderedLemmas.{ordered_more, shown_more}
use Rattle.wb_determinism_kernels.proofs.index.Index.add.Goals as goal

pub returns : goal.returns
returns c =
    rw (← c.self.view_is)
    (shown_more c.self.inside.steps.items c.push_reserved.new.self.items c.self.inside.kernels.items c.push_reserved-2.new.self.items
    c.args.step c.args.kernel
    (c.push_reserved.ensures.items ∙ ap (λ (s : List Step). s ++ c.args.step ∷ []) (c.in_ok-reserve.ensures.items))
    (c.push_reserved-2.ensures.items ∙ ap (λ (k : List (List Item)). k ++ c.args.kernel ∷ []) (c.in_ok-reserve-2.ensures.items)))

pub unreachable-requires : goal.unreachable-requires
unreachable-requires c =
    let number = c.in_default.field-0 in
    let (other, at, same) = c.in_default.ensures.ok in
    c.requires.new number other (subst (λ (f : IndexView). slice_get f.kernels number ≡ Some other) c.self.view_is
    (subst (λ kernels. slice_get kernels number ≡ Some other) c.deref.ensures.value at))
    (subst (SameItems other) c.as_slice.ensures same)

pub invariant_of-self-2 : goal.invariant_of-self-2
invariant_of-self-2 c =
    let place = c.in-Err.place in
    let kernels = c.self.inside.kernels.items in
    let order = c.self.inside.order.items in
    ordered_more c.self.inside.steps.items c.push_reserved.new.self.items kernels c.push_reserved-2.new.self.items order
    c.insert.new.list.items c.args.step c.args.kernel place c.len.result
    c.self.invariant
    (subst (λ k. LiesWithin k order c.args.kernel place place) c.deref.ensures.value
    (subst (λ o. LiesWithin c.deref.result.now o c.args.kernel place place) c.deref-2.ensures.value
    (subst (λ i. LiesWithin c.deref.result.now c.deref-2.result.now i place place) c.as_slice.ensures c.in-Err.ensures.err)))
    c.requires.in_order
    (c.push_reserved.ensures.items ∙ ap (λ (s : List Step). s ++ c.args.step ∷ []) (c.in_ok-reserve.ensures.items))
    (c.push_reserved-2.ensures.items ∙ ap (λ (k : List (List Item)). k ++ c.args.kernel ∷ []) (c.in_ok-reserve-2.ensures.items))
    c.in_ok-insert.ensures.ok
    (let same = ap (λ (k : List (List Item)). length k) c.in_ok-reserve-2.ensures.items in omega
    (arith, c.len.ensures, c.reserve-2.new.self.ok.0, same))
