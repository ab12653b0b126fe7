use Rattle.std.proofs.Common.{◌∙◌, ap, Some, arith}
use Rattle.std.proofs.lemmas.Option.{slice_get-get_or}
use Rattle.wb_items.specs.Kernels.{prefix_of}
use Rattle.wb_determinism.specs.Inner.Contexts.{both_of, host_of}
use Rattle.wb_determinism.specs.declared.regions.Region.TheVariants.{Host, Extension, NewHost}
use Rattle.wb_determinism.proofs.KeepLemmas.{keeps_none, not_of_extension, not_new}
use Rattle.wb_determinism.proofs.lookahead_rule.kernel_fault.Goals as goal

pub items_fault-requires-clause-other : goal.items_fault-requires-clause-other
items_fault-requires-clause-other c =
    (c.requires.regions.each c.args.state (Host c.in-Host.other)
    (slice_get-get_or c.args.regions.now c.args.state _ (omega (arith, c.requires.regions.len, c.requires.state)) ∙ ap Some c.in-Host.is)).0

pub items_fault-requires-clause-region : goal.items_fault-requires-clause-region
items_fault-requires-clause-region c =
    (c.requires.regions.each c.args.state (Host c.in-Host.other)
    (slice_get-get_or c.args.regions.now c.args.state _ (omega (arith, c.requires.regions.len, c.requires.state)) ∙ ap Some c.in-Host.is)).1

pub returns-in-Extension : goal.returns-in-Extension
returns-in-Extension c =
    let x = c.args.context.now in
    keeps_none x c.requires.context c.args.state
    (λ host. not_of_extension (host_of x) (both_of x) x.numbers.now host (prefix_of x.both.now c.args.state)
    (c.requires.regions.each c.args.state Extension
    (slice_get-get_or c.args.regions.now c.args.state _ (omega (arith, c.requires.regions.len, c.requires.state))
    ∙ ap Some c.in-Extension.is)))

pub returns-in-NewHost : goal.returns-in-NewHost
returns-in-NewHost c =
    let x = c.args.context.now in
    keeps_none x c.requires.context c.args.state
    (λ host. not_new (host_of x) (both_of x) x.numbers.now host (prefix_of x.both.now c.args.state)
    (c.requires.regions.each c.args.state NewHost
    (slice_get-get_or c.args.regions.now c.args.state _ (omega (arith, c.requires.regions.len, c.requires.state))
    ∙ ap Some c.in-NewHost.is)))
