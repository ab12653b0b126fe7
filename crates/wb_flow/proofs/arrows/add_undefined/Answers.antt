use Rattle.std.proofs.Common.{refl}
use Rattle.std.proofs.lemmas.Result.{on_ok_weaker}
use Rattle.wb_flow.proofs.KindLemmas.{undefined_one, defined_none}
use Rattle.wb_flow.proofs.arrows.add_undefined.Goals as goal

pub returns-then-contains : goal.returns-then-contains
returns-then-contains c = defined_none c.args.production.now c.args.arrows.now.items c.args.arrow ((c.requires c.args.arrow.from).0 (c.if-contains.ensures.0 refl))

pub returns : goal.returns
returns c = on_ok_weaker c.push.result
    (undefined_one c.args.production.now c.args.arrows.now.items c.push.new.list.items c.args.arrow
    (λ defined. let bad = c.if-contains.ensures.1 ((c.requires c.args.arrow.from).1 defined) in cc)) c.push.ensures.ok
