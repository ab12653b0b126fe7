use Rattle.std.proofs.Common.{◌≡◌, ◌+◌, ℕ, get_or, subst, sym, arith}
use Rattle.std.proofs.lemmas.Option.{slice_get-get_or}
use Rattle.wb_items.specs.Kernels.{count_of}
use Rattle.wb_determinism.specs.declared.regions.Region.TheVariants.{Host}
use Rattle.wb_determinism.specs.Inner.Considered.{AreConsidered}
use Rattle.wb_determinism.proofs.ConsideredLemmas.{considered_more, considered_none}
use Rattle.wb_determinism.proofs.envelope_test.envelope_sets.Goals as goal

pub kernels-init : goal.kernels-init
kernels-init c =
    subst (AreConsidered c.args.context.now c.args.layout.now c.args.regions.now 0) (sym c.new-sets.ensures.items)
    (considered_none c.args.context.now c.args.layout.now c.args.regions.now)

pub set_for-requires-clause-region : goal.set_for-requires-clause-region
set_for-requires-clause-region c =
    let regions = c.args.regions.now in
    let s = c.kernels.state in
    c.requires.regions.each s (get_or regions s (Host 0)) (slice_get-get_or regions s (Host 0) c.kernels-test.true)

pub kernels-preserved : goal.kernels-preserved
kernels-preserved c =
    let x = c.args.context.now in
    let regions = c.args.regions.now in
    let s = c.kernels.state in
    subst (AreConsidered x c.args.layout.now regions (s + 1)) (sym c.in_ok-push.ensures.ok)
    (considered_more x c.args.layout.now regions s c.kernels.sets.items (get_or regions s (Host 0)) c.in_ok-set.set
    (slice_get-get_or regions s (Host 0) c.kernels-test.true) c.kernels.invariant c.in_ok-set.ensures.ok)

pub returns-clause-ok : goal.returns-clause-ok
returns-clause-ok c =
    let all : c.kernels.state ≡ count_of c.args.context.now.both.now =
    omega (arith, c.kernels-test.false, c.kernels.auto.state-end, c.requires.regions.len) in
    subst (λ (n : ℕ). AreConsidered c.args.context.now c.args.layout.now c.args.regions.now n c.kernels.sets.items) all c.kernels.invariant
