use Rattle.std.specs.Prelude.{Option}
use Rattle.std.proofs.lemmas.Result.{IfOk-weaker}
use Rattle.wb_eval.specs.Inner.Works.{IsReading, IsReadBelow}
use Rattle.wb_eval.specs.declared.machine.Key.{Key}
use Rattle.wb_eval.specs.declared.machine.Key.TheVariants as key
use Rattle.wb_eval.proofs.expression.read_below.Goals as goal

pub read-requires-clause-whole : goal.read-requires-clause-whole
read-requires-clause-whole c = c.in_ok-below.ensures.whole

pub read-requires-clause-key : goal.read-requires-clause-key
read-requires-clause-key c = c.in_ok-below.ensures.site.2.there

pub returns : goal.returns
returns c =
    let e = c.in_ok-below.ensures in
    let made : (r : Option Key)
    → IsReading c.below.new.self c.args.evaluation.now.values.items c.read.new.values.items
    (key.Synthesized c.in_ok-below.below c.args.attribute) r
    → IsReadBelow c.args.store.now c.args.evaluation.now.machine c.below.new.self c.args.site c.args.step
    (λ below. key.Synthesized below c.args.attribute) c.args.evaluation.now.values.items c.read.new.values.items r =
    λ r reading. record {
      below = c.in_ok-below.below;
      machine = e.same;
      whole = e.whole;
      grown = e.grown;
      reached = e.site;
      reading = reading;
    } in
    IfOk-weaker c.read.result _ _ made c.read.ensures
