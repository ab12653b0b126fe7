use Rattle.std.proofs.Common.{◌-◌, length, get_or, take, drop, refl, arith}
use Rattle.wb_reader_printer.specs.declared.expressions.Waiting.TheVariants.{Arguments}
use Rattle.wb_reader_printer.proofs.WalkLemmas.{argument_put, split_first}
use Rattle.wb_reader_printer.proofs.expressions.next_argument.Goals as goal

pub returns : goal.returns
returns c =
    λ nodes. argument_put nodes (Arguments c.args.first c.args.places) _ c.args.first c.args.places.now (get_or c.args.places.now 0 0)
    (take (length c.args.places.now - 1)
    (drop 1 c.args.places.now)) c.args.stack.now c.push.new.self c.args.line.now c.write_separator.new.line (λ a k h. h)
    (split_first c.args.places.now (omega arith)) c.in_ok-push.ensures.ok (λ es all. (es, all, refl, refl)) c.in_ok-write_separator.ensures
