use Rattle.std.proofs.Common.{◌≡◌, ◌∙◌, None, ap, sym}
use Rattle.wb_syntax_resolved.specs.declared.terminal.Terminal.{Terminal}
use Rattle.wb_compose_texts.proofs.AddedLemmas.{begun, read_all, read_next}
use Rattle.wb_compose_texts.proofs.expression_rows.add_own.Goals as goal

pub rows-init : goal.rows-init
rows-init c = begun None c.args.from c.args.to c.args.rows.now c.args.expressions.now.items

pub rows-preserved : goal.rows-preserved
rows-preserved c =
    let own : c.in_ok-made.made ≡ c.index-rows-number.result.pattern =
    c.in_ok-made.ensures.same ∙ sym (ap (λ (row : Terminal). row.pattern) c.index-rows-number.is) in
    read_next None c.args.from c.args.to c.args.rows.now c.requires c.rows.number c.index-rows-number.result c.args.expressions.now.items
    c.rows.expressions.items c.push.new.list.items c.in_ok-made.made c.rows.auto.number c.rows-test.true c.index-rows-number.is
    c.rows.invariant own c.in_ok-push.ensures.ok

pub returns : goal.returns
returns c =
    read_all None c.args.from c.args.to c.args.rows.now c.requires c.rows.number c.args.expressions.now.items
    c.rows.expressions.items c.rows-test.false c.rows.invariant
