use Rattle.std.proofs.Common.{◌≡◌, [], arith, subst, sym}
use Rattle.wb_items.specs.Kernels.{count_of}
use Rattle.wb_compose_kernels.specs.Inner.Lists.{HostUpTo}
use Rattle.wb_compose_kernels.proofs.LoopLemmas.{host_more, host_start}
use Rattle.wb_compose_kernels.proofs.lists.host_lists.Goals as goal

pub states-init : goal.states-init
states-init c ok =
    subst (λ z. HostUpTo c.args.splice.now ok z c.in_ok-numbers.numbers.items 0) (sym c.requires.empty)
    (subst (λ z. HostUpTo c.args.splice.now ok [] z 0) (sym c.in_ok-numbers.ensures.items) (host_start c.args.splice.now ok))

pub list_host-requires-clause-before : goal.list_host-requires-clause-before
list_host-requires-clause-before c ok = (c.states.invariant ok).so_far

pub states-preserved : goal.states-preserved
states-preserved c ok =
    host_more c.args.splice.now ok c.states.kernels.items c.list_host.new.kernels.items c.states.numbers.items c.push.new.list.items
    c.states.state c.in_ok-number.number c.in_ok-push.ensures.ok (c.states.invariant ok) (c.in_ok-number.ensures ok)

pub returns : goal.returns
returns c ok =
    let s = c.args.splice.now in
    let end = c.count-state-end.ensures.count in
    let done : c.states.state ≡ count_of s.kernels.now = omega (arith, end) in
    subst (HostUpTo s ok c.states.kernels.items c.states.numbers.items) done (c.states.invariant ok)
