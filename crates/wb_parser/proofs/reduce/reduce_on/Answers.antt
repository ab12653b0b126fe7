use Rattle.std.proofs.lemmas.Result.{on_ok_weaker}
use Rattle.wb_parser.specs.Inner.Steps.{AreReduced}
use Rattle.wb_parser.proofs.BuiltLemmas.{reduced_more}
use Rattle.wb_parser.proofs.reduce.reduce_on.Goals as goal

pub returns-clause-reduced : goal.returns-clause-reduced
returns-clause-reduced c =
    let l = c.args.language.now in
    let t = c.args.terminal in
    let s0 = c.args.stack.now.states.items in
    let v0 = c.args.stack.now.values in
    let t0 = c.args.store.now in
    let s1 = c.reduce_once.new.stack.states.items in
    let v1 = c.reduce_once.new.stack.values in
    let t1 = c.reduce_once.new.store in
    let s2 = c.follow_chain.new.stack.states.items in
    let v2 = c.follow_chain.new.stack.values in
    let t2 = c.follow_chain.new.store in
    let more : AreReduced l t s1 v1 t1 s2 v2 t2 → AreReduced l t s0 v0 t0 s2 v2 t2 =
    reduced_more l t s0 s1 s2 v0 v1 v2 t0 t1 t2 c.in_ok-action.ensures.reduced in
    on_ok_weaker c.follow_chain.result more c.follow_chain.ensures.reduced
