use Rattle.std.proofs.Common.{◌++◌, Bool, ap, ◌∙◌}
use Rattle.wb_syntax_resolved.specs.declared.production.Production.{Production}
use Rattle.wb_names_symbols.specs.Inner.Names.{row_names, wanted_name}
use Rattle.wb_names_symbols.proofs.Gathered.{names_added}
use Rattle.wb_names_symbols.proofs.names.add_productions.Goals as goal

pub rows-preserved : goal.rows-preserved
rows-preserved c =
    names_added (λ (p : Production). row_names c.args.concrete p) c.args.rows.now c.rows.row-index c.row-item.result c.args.names.now
    c.rows.names c.add_wanted.new.names c.rows.invariant c.rows-test.true c.row-item.is
    (c.in_ok-add_wanted.ensures ∙ ap (λ (z : Bool). c.rows.names ++ wanted_name z c.row-item.result.name) c.has_role.ensures)
