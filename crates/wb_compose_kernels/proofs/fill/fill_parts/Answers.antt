use Rattle.std.proofs.Common.{◌≡◌, arith, length, subst}
use Rattle.wb_compose_kernels.specs.Inner.Filling.{Gains, IsPartGain}
use Rattle.wb_compose_kernels.proofs.GainLemmas.{IsGainBelow, gains_next, gains_start}
use Rattle.wb_compose_kernels.proofs.fill.fill_parts.Goals as goal

pub parts-init : goal.parts-init
parts-init c h =
    gains_start c.args.filling.now.kernels.now (λ e. IsPartGain c.args.filling.now h e) c.args.made.now c.requires.making

pub fill_part-requires-clause-making : goal.fill_part-requires-clause-making
fill_part-requires-clause-making c = (c.parts.invariant c.requires.filling).making

pub parts-preserved : goal.parts-preserved
parts-preserved c h =
    gains_next c.args.filling.now.kernels.now (λ e. IsPartGain c.args.filling.now h e) c.parts.part c.args.made.now c.parts.made
    c.fill_part.new.made (c.parts.invariant h) (c.in_ok-fill_part.ensures h)

pub returns : goal.returns
returns c h =
    let done : c.parts.part ≡ length c.args.filling.now.splice.now.parts.now = omega arith in
    subst (λ n. Gains c.args.filling.now.kernels.now (IsGainBelow c.args.filling.now.kernels.now (λ e. IsPartGain c.args.filling.now h e) n)
    c.args.made.now c.parts.made) done (c.parts.invariant h)
