use Rattle.std.proofs.Common.{◌≡◌, ◌<◌, ◌++◌, ◌∷◌, [], ℕ, length, inr, subst}
use Rattle.std.proofs.lemmas.Result.{IfOk-weaker}
use Rattle.wb_compose_kernels.specs.Inner.Counts.{new_count_in}
use Rattle.wb_compose_kernels.specs.Inner.Lists.{IsNewNext, IsPut}
use Rattle.wb_compose_kernels.proofs.NextLemmas.{next_new, next_put}
use Rattle.wb_compose_kernels.proofs.PartLemmas.{part_less}
use Rattle.wb_compose_kernels.proofs.lists.list_new.Goals as goal

pub kernel-kernel-requires : goal.kernel-kernel-requires
kernel-kernel-requires c = subst (λ o. c.args.place < new_count_in o) c.part_at-found.ensures c.requires.place

pub returns-then-has_own : goal.returns-then-has_own
returns-then-has_own c =
    let old = c.args.kernels.now.items in
    let new = c.add_list.new.kernels.items in
    let f : (number : ℕ) → (number ≡ length old) × (new ≡ old ++ c.in_ok-list.list ∷ []) →
    IsNewNext c.args.splice.now old new c.args.part c.args.place number =
    λ number is ok. next_new c.args.splice.now ok c.requires.given old c.args.part c.args.place c.args.blocks c.kernel-kernel.result.now
    c.in_ok-list.list (part_less c.args.splice.now ok c.args.part c.requires.part) c.requires.place c.part_at-found.result
    c.part_at-found.ensures c.kernel-kernel.ensures (c.requires.blocks ok) c.in_ok-list.ensures (c.requires.before ok) new number is.0 is.1
    (inr (c.has_own.ensures.0 c.if-has_own.true)) in
    IfOk-weaker c.add_list.result _ _ f c.add_list.ensures

pub returns : goal.returns
returns c =
    let old = c.args.kernels.now.items in
    let new = c.put_list.new.kernels.items in
    let f : (number : ℕ) → IsPut old c.in_ok-list.list new number →
    IsNewNext c.args.splice.now old new c.args.part c.args.place number =
    λ number is ok. next_put c.args.splice.now ok c.requires.given old c.args.part c.args.place c.args.blocks c.kernel-kernel.result.now
    c.in_ok-list.list (part_less c.args.splice.now ok c.args.part c.requires.part) c.requires.place c.part_at-found.result
    c.part_at-found.ensures c.kernel-kernel.ensures (c.requires.blocks ok) c.in_ok-list.ensures (c.requires.before ok) new number is in
    IfOk-weaker c.put_list.result _ _ f c.put_list.ensures
