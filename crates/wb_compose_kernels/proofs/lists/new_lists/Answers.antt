use Rattle.std.proofs.Common.{◌≡◌, arith, subst, sym}
use Rattle.wb_compose_kernels.specs.Inner.Counts.{new_count_at}
use Rattle.wb_compose_kernels.specs.Inner.Lists.{NewUpTo}
use Rattle.wb_compose_kernels.proofs.LoopLemmas.{new_more, new_start}
use Rattle.wb_compose_kernels.proofs.lists.new_lists.Goals as goal

pub list_new-requires-clause-before : goal.list_new-requires-clause-before
list_new-requires-clause-before c ok = (c.places.invariant ok).so_far

pub places-preserved : goal.places-preserved
places-preserved c ok =
    new_more c.args.splice.now ok c.args.kernels.now.items c.places.kernels.items c.list_new.new.kernels.items c.args.part c.places.place
    c.in_ok-number.number c.places.numbers.items c.push.new.list.items c.in_ok-push.ensures.ok (c.places.invariant ok)
    (c.in_ok-number.ensures ok)

pub places-init : goal.places-init
places-init c ok =
    let kernels = c.args.kernels.now.items in
    subst (NewUpTo c.args.splice.now ok kernels kernels c.args.part 0) (sym c.in_ok-numbers.ensures.items)
    (new_start c.args.splice.now ok kernels c.args.part (c.requires.before ok))

pub returns : goal.returns
returns c ok =
    let s = c.args.splice.now in
    let end = c.new_count-place-end.ensures in
    let done : c.places.place ≡ new_count_at s c.args.part = omega (arith, end) in
    subst (NewUpTo s ok c.args.kernels.now.items c.places.kernels.items c.args.part (new_count_at s c.args.part)) (sym c.from_vec.ensures)
    (subst (λ n. NewUpTo s ok c.args.kernels.now.items c.places.kernels.items c.args.part n c.places.numbers.items) done
    (c.places.invariant ok))
