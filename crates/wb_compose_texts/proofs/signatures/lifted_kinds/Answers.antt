use Rattle.std.proofs.Common.{◌∙◌, ap, map}
use Rattle.std.proofs.lemmas.List.{take_all}
use Rattle.wb_base.specs.declared.symbol.Kind.TheVariants as kind
use Rattle.wb_compose_theory.specs.Blocks.{lift}
use Rattle.wb_compose_texts.specs.Signatures.{kind_by}
use Rattle.wb_compose_texts.proofs.TableLemmas.{mapped_next}
use Rattle.wb_compose_texts.proofs.signatures.lifted_kinds.Goals as goal

pub kinds-preserved : goal.kinds-preserved
kinds-preserved c =
    mapped_next (kind_by (lift c.args.own c.args.before)) c.args.kinds.now c.kinds.kind-index kind.Int c.in_ok-kind.kind c.kinds.made.items
    c.push.new.list.items c.kinds-test.true c.kinds.invariant c.in_ok-kind.ensures c.in_ok-push.ensures.ok

pub returns : goal.returns
returns c =
    c.kinds.invariant ∙ ap (map (kind_by (lift c.args.own c.args.before)))
    (take_all c.kinds.kind-index c.args.kinds.now c.kinds-test.false)
