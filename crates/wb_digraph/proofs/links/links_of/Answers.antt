use Rattle.std.proofs.Common.{◌+◌, ◌<◌, [], arith}
use Rattle.wb_digraph.specs.Inner.Links.{HandsOnAt}
use Rattle.wb_digraph.specs.Inner.Numbers.{HasNumber}
use Rattle.wb_digraph.proofs.LinkLemmas.{adds_fewer, adds_none, adds_then, below_cases, links_exact}
use Rattle.wb_digraph.proofs.links.links_of.Goals as goal

pub states-init : goal.states-init
states-init c =
    rw c.new-edges.ensures.items (adds_none c.args.context.now.kernels.now (HasNumber c.args.context.now.kernels.now c.args.context.now.productions.now c.args.context.now.bases.now) _ [] (λ v u (s, lt, at). absurd (omega (arith, lt))))

pub states-preserved : goal.states-preserved
states-preserved c =
    adds_then c.args.context.now.kernels.now (HasNumber c.args.context.now.kernels.now c.args.context.now.productions.now c.args.context.now.bases.now) c.states.invariant c.in_ok-add_links.ensures
    (λ v u (s, lt, at). below_cases (λ k. HandsOnAt c.args.context.now.kernels.now (HasNumber c.args.context.now.kernels.now c.args.context.now.productions.now c.args.context.now.bases.now) k v u) c.states.state s lt at)

pub returns : goal.returns
returns c =
    links_exact c.args.context.now.kernels.now (HasNumber c.args.context.now.kernels.now c.args.context.now.productions.now c.args.context.now.bases.now) c.states.edges.items
    (adds_fewer c.args.context.now.kernels.now (HasNumber c.args.context.now.kernels.now c.args.context.now.productions.now c.args.context.now.bases.now) c.states.invariant
    (λ v u (s, lt, at). (s, (let e = c.count-state-end.ensures.count in let past = c.states-test.false in omega (arith, e, past, lt)), at)))
