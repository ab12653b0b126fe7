use Rattle.std.proofs.Common.{◌≡◌, arith, length, subst}
use Rattle.wb_items.proofs.CallerLemmas.{rows_within}
use Rattle.wb_items.specs.Lookaheads.{row_of}
use Rattle.wb_compose_kernels.specs.Inner.Filling.{Gains, IsHostItemGain}
use Rattle.wb_compose_kernels.proofs.GainLemmas.{IsGainBelow, gains_next, gains_start}
use Rattle.wb_compose_kernels.proofs.fill.fill_host_row.Goals as goal

pub len-place-end-requires : goal.len-place-end-requires
len-place-end-requires c =
    let e = rows_within c.requires.filling.given.kernels c.args.filling.now.sets.now.host.now c.requires.filling.sets.of_host.shape in
    let lt = c.requires.state in
    omega (arith, e, lt)

pub places-init : goal.places-init
places-init c =
    gains_start c.args.filling.now.kernels.now (IsHostItemGain c.args.filling.now c.args.state c.args.number) c.args.made.now
    c.requires.making

pub fill_host_item-requires-clause-making : goal.fill_host_item-requires-clause-making
fill_host_item-requires-clause-making c = c.places.invariant.making

pub places-preserved : goal.places-preserved
places-preserved c =
    gains_next c.args.filling.now.kernels.now (IsHostItemGain c.args.filling.now c.args.state c.args.number) c.places.place c.args.made.now
    c.places.made c.fill_host_item.new.made c.places.invariant c.in_ok-fill_host_item.ensures

pub returns : goal.returns
returns c =
    let end = c.len-place-end.ensures in
    let done : c.places.place ≡ length (row_of c.args.filling.now.sets.now.host.now c.args.state) = omega (arith, end) in
    subst (λ n. Gains c.args.filling.now.kernels.now (IsGainBelow c.args.filling.now.kernels.now (IsHostItemGain c.args.filling.now
    c.args.state c.args.number) n) c.args.made.now c.places.made) done c.places.invariant
