use Rattle.std.proofs.Common.{◌-◌, sym, ◌∙◌, arith}
use Rattle.std.proofs.lemmas.Bool.{true≢false}
use Rattle.wb_lemmas.proofs.Places.{at_once}
use Rattle.wb_determinism_kernels.specs.Inner.Advances.{items_of}
use Rattle.wb_items.proofs.OrderLemmas.{strict_pass_at, strict_take_at}
use Rattle.wb_determinism_kernels.proofs.kernel_of_symbol.add_to_kernel.Goals as goal
use Rattle.wb_determinism_kernels.proofs.kernel_of_symbol.add_to_kernel.Goals.{then-place-gt0+else-is_item, else-place-gt0}

pub returns-then-is_item : goal.returns-then-is_item
returns-then-is_item c =
    strict_pass_at (items_of c.args.run.now) c.args.kernel.now.items c.args.place c.advanced_at-before.result c.advanced_at-item.result
    c.if-place-gt0.true c.advanced_at-before.ensures c.advanced_at-item.ensures
    (c.is_item.ensures.0 c.if-is_item.true) c.requires.before

pub returns : goal.returns
returns c =
    strict_take_at (items_of c.args.run.now) c.args.kernel.now.items c.push.new.list.items c.args.place c.advanced_at-item.result
    c.requires.rising c.advanced_at-item.ensures c.in_ok-push.ensures.ok
    (λ pos a at same. elim c.if-place-gt0.branch [
      | then-place-gt0+else-is_item w ↦ true≢false
          (sym (w.is_item.ensures.1
          (at_once (items_of c.args.run.now) (c.args.place - 1) w.advanced_at-before.result a w.advanced_at-before.ensures at ∙ same)) ∙
          w.if-is_item.false)
      | else-place-gt0 w ↦ absurd (omega (arith, pos, w.if-place-gt0.false))
    ]) c.requires.before
