use Rattle.std.proofs.Common.{refl}
use Rattle.std.proofs.lemmas.Result.{on_ok_weaker}
use Rattle.wb_flow.proofs.AddingLemmas.{adds_none, adds_one}
use Rattle.wb_explain_flows_lists.specs.Inner.Found.{IsMissingFor}
use Rattle.wb_explain_flows_lists.proofs.MissingLemmas.{adds_missing}
use Rattle.wb_explain_flows_lists.proofs.missing.add_one.Goals as goal

pub returns-then-not-is_synthesized : goal.returns-then-not-is_synthesized
returns-then-not-is_synthesized c =
    adds_none c.args.found.now.items (IsMissingFor c.args.scope.now.attributes.now c.args.defined.now c.args.one)
    (λ m is. let bad = c.if-not-is_synthesized.ensures.1 is.1 in cc)

pub returns-then-contains : goal.returns-then-contains
returns-then-contains c =
    adds_none c.args.found.now.items (IsMissingFor c.args.scope.now.attributes.now c.args.defined.now c.args.one)
    (λ m is. is.2 (c.if-contains.ensures.0 refl))

pub returns : goal.returns
returns c = on_ok_weaker c.push.result (λ is.
    adds_missing c.args.scope.now.attributes.now c.args.defined.now c.args.found.now.items c.push.new.list.items c.args.one
    (c.if-not-is_synthesized.ensures.0 refl) (λ has. let bad = c.if-contains.ensures.1 has in cc)
    (adds_one c.args.found.now.items c.push.new.list.items c.args.one is)) c.push.ensures.ok
