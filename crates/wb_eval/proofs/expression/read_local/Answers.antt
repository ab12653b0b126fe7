use Rattle.std.specs.Prelude.{Option}
use Rattle.std.proofs.lemmas.Result.{IfOk-weaker}
use Rattle.wb_flow_theory.specs.Vertices.{local}
use Rattle.wb_eval_memo.specs.Memos.{path_in}
use Rattle.wb_eval.specs.Inner.Works.{IsReading, IsReadBelow}
use Rattle.wb_eval.specs.declared.machine.Key.{Key}
use Rattle.wb_eval.specs.declared.machine.Key.TheVariants as key
use Rattle.wb_eval_memo.specs.declared.sites.Step.TheVariants as step
use Rattle.wb_eval.proofs.expression.read_local.Goals as goal

pub read-requires-clause-whole : goal.read-requires-clause-whole
read-requires-clause-whole c = c.in_ok-below.ensures.whole

pub read-requires-clause-key : goal.read-requires-clause-key
read-requires-clause-key c =
    let site = c.in_ok-below.ensures.site in
    (site.2.there, (path_in c.args.evaluation.now.machine.memo c.args.site, local c.args.local, site.2.path))

pub returns : goal.returns
returns c =
    let e = c.in_ok-below.ensures in
    let made : (r : Option Key)
    → IsReading c.below.new.self c.args.evaluation.now.values.items c.read.new.values.items (key.Tree c.in_ok-below.below) r
    → IsReadBelow c.args.store.now c.args.evaluation.now.machine c.below.new.self c.args.site (step.Local c.args.local)
    (λ below. key.Tree below) c.args.evaluation.now.values.items c.read.new.values.items r =
    λ r reading. record {
      below = c.in_ok-below.below;
      machine = e.same;
      whole = e.whole;
      grown = e.grown;
      reached = e.site;
      reading = reading;
    } in
    IfOk-weaker c.read.result _ _ made c.read.ensures
