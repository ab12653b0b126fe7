use Rattle.std.proofs.Common.{◌≤◌, length, get_or, refl, arith}
use Rattle.std.proofs.lemmas.Option.{slice_get-get_or}
use Rattle.wb_flow.proofs.EachLemmas.{each_more, each_all}
use Rattle.wb_lemmas.proofs.Members.{place_of}
use Rattle.wb_explain_flows.specs.Chains.{IsNeeded}
use Rattle.wb_explain_flows.proofs.ChainLemmas.{no_chain, more_read, all_chain}
use Rattle.wb_explain_flows.proofs.chain.is_chain.Goals as goal

pub steps-init : goal.steps-init
steps-init c = (no_chain c.args.steps.now c.args.from, (λ a p is k s lt at. absurd (omega (arith, lt))))

pub steps-preserved : goal.steps-preserved
steps-preserved c =
    let steps = c.args.steps.now in
    let i = c.steps.step-index in (
      more_read steps c.args.from c.steps.at i _ c.steps.invariant.0 c.steps-test.true (c.if-not-same.ensures refl),
      (λ a p is. each_more steps (IsNeeded a p) i (get_or steps i _) (slice_get-get_or steps i _ c.steps-test.true)
          (c.steps.invariant.1 a p is) (c.if-not-is_edge.ensures refl a p is)),
    )

pub returns-clause-chain : goal.returns-clause-chain
returns-clause-chain c =
    let ended : length c.args.steps.now ≤ c.steps.step-index = omega arith in
    λ yes. all_chain c.args.steps.now c.args.from c.steps.at c.args.to c.steps.step-index c.steps.invariant.0 ended (c.same-2.ensures yes)

pub returns-clause-needed : goal.returns-clause-needed
returns-clause-needed c =
    let ended : length c.args.steps.now ≤ c.steps.step-index = omega arith in
    λ yes a p is s listed.
    let (k, at) = place_of c.args.steps.now s listed in
    each_all c.args.steps.now (IsNeeded a p) c.steps.step-index ended (c.steps.invariant.1 a p is) k s at
