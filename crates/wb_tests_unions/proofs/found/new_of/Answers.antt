-- New kernels are looked for beside the kernels of the host.
use Rattle.std.proofs.Common.{◌≡◌, ◌∙◌, ap, sym, subst}
use Rattle.std.proofs.lemmas.Result.{IfOk-weaker}
use Rattle.wb_determinism_host.specs.declared.parts.HostParts.{HostParts}
use Rattle.wb_determinism_kernels.specs.Given.{IsGiven}
use Rattle.wb_determinism_kernels.specs.NewKernels.{AreNewKernels, NewKernelsView}
use Rattle.wb_tests_unions.specs.Inner.Found.{kernels_in}
use Rattle.wb_tests_unions.proofs.FitLemmas.{given_is, host_own}
use Rattle.wb_tests_unions.proofs.found.new_of.Goals as goal

pub find-made-requires-clause-given : goal.find-made-requires-clause-given
find-made-requires-clause-given c =
    let k = c.args.holes.now in
    let m = c.args.numbers.now in
    let images = c.args.images.now in
    subst (λ (p : HostParts). IsGiven p.kernels k m images) (sym c.parts-parts.ensures.parts)
    (given_is c.args.both.now c.requires.both k m images c.requires.are c.productions.ensures.in_range)

pub find-made-requires-clause-own : goal.find-made-requires-clause-own
find-made-requires-clause-own c =
    subst (λ (p : HostParts). p.kernels.grammar ≡ p.grammar) (sym c.parts-parts.ensures.parts) (host_own c.args.both.now c.requires.both)

pub returns : goal.returns
returns c =
    let k = c.args.holes.now in
    let m = c.args.numbers.now in
    let images = c.args.images.now in
    IfOk-weaker c.find-made.result (AreNewKernels c.parts-parts.result.now.kernels k m images)
    (AreNewKernels (kernels_in c.args.both.now.own.now) k m images)
    (λ (new : NewKernelsView) is. subst (λ (p : HostParts). AreNewKernels p.kernels k m images new) c.parts-parts.ensures.parts is)
    c.find-made.ensures
