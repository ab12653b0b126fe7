use Rattle.wb_syntax_resolved.specs.declared.production.Local.{Local}
use Rattle.wb_names_rows.proofs.ListLemmas.{map_next, map_all}
use Rattle.wb_names_rows.proofs.labels.add_locals.Goals as goal

pub loop-local-preserved : goal.loop-local-preserved
loop-local-preserved c =
    map_next (λ (x : Local). x.label) c.args.locals.now c.loop-local.local-index c.local-item.result c.in_ok-copy.field-0 c.args.labels.now
    c.loop-local.labels c.add.new.self c.loop-local.invariant c.loop-local-test.true c.local-item.is c.in_ok-copy.ensures.ok
    c.in_ok-add.ensures

pub returns : goal.returns
returns c =
    map_all (λ (x : Local). x.label) c.args.locals.now c.loop-local.local-index c.args.labels.now c.loop-local.labels c.loop-local.invariant
    c.loop-local-test.false
