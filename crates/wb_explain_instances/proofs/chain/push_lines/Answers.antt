use Rattle.std.proofs.Common.{rules, get_or}
use Rattle.wb_eval.specs.declared.machine.Key.TheVariants as key
use Rattle.wb_explain_instances.proofs.LineLemmas.{all_lines, no_lines, one_line}
use Rattle.wb_explain_instances.proofs.chain.push_lines.Goals as goal

pub keys-init : goal.keys-init
keys-init c = no_lines c.args.shown.now.attributes.now c.args.keys.now c.args.out.now.items

pub keys-preserved : goal.keys-preserved
keys-preserved c =
    one_line c.args.shown.now.attributes.now c.args.keys.now c.args.out.now.items c.keys.out.items c.push_line.new.out.items
    c.keys.key-index (get_or c.args.keys.now c.keys.key-index (key.Synthesized 0 0)) c.keys.invariant c.keys-test.true
    (search rules) c.in_ok-push_line.ensures

pub returns : goal.returns
returns c =
    all_lines c.args.shown.now.attributes.now c.args.keys.now c.args.out.now.items c.keys.out.items c.keys.key-index
    c.keys.invariant c.keys-test.false
