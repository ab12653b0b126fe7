use Rattle.std.proofs.Common.{◌≡◌, Some, length, subst}
use Rattle.std.specs.Prelude.{slice_get}
use Rattle.std.proofs.lemmas.Option.{slice_get_within}
use Rattle.wb_items.proofs.PartsLemmas.{led_by, next_found, next_new}
use Rattle.wb_items.proofs.parts.add_listed.Goals as goal

pub move_at-led-requires : goal.move_at-led-requires
move_at-led-requires c =
    let r = c.requires.reaches in
    slice_get_within c.args.moves.now c.args.place (r.from, r.symbol, length c.args.found.now.kernels) r.at

pub add-requires-clause-from : goal.add-requires-clause-from
add-requires-clause-from c =
    (led_by c.args.moves.now (length c.args.found.now.kernels) c.args.place c.move_at-led.result c.move_at-led.ensures c.requires.reaches).0

pub add-requires-clause-in_order : goal.add-requires-clause-in_order
add-requires-clause-in_order c = c.requires.parts.in_order c.len.result c.in_ok-kernel.kernel c.in_ok-kernel.ensures

pub add-requires-clause-new : goal.add-requires-clause-new
add-requires-clause-new c =
    next_new c.requires.parts c.requires.before c.in_ok-kernel.kernel
    (subst (λ n. slice_get c.args.kernels.now n ≡ Some c.in_ok-kernel.kernel) c.len.ensures.kernels c.in_ok-kernel.ensures)

pub returns : goal.returns
returns c =
    let (from, has) = led_by c.args.moves.now (length c.args.found.now.kernels) c.args.place c.move_at-led.result c.move_at-led.ensures
    c.requires.reaches in
    next_found c.requires.parts c.requires.before c.move_at-led.result.0 c.move_at-led.result.1 c.in_ok-kernel.kernel c.add.new.self
    from has (subst (λ n. slice_get c.args.kernels.now n ≡ Some c.in_ok-kernel.kernel) c.len.ensures.kernels c.in_ok-kernel.ensures)
    c.in_ok-add.ensures
