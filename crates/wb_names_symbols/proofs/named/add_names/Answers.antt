use Rattle.std.proofs.Common.{◌++◌, ◌∙◌, ap, map, sym}
use Rattle.std.proofs.lemmas.List.{append-nil, take_all}
use Rattle.wb_names_symbols.proofs.Gathered.{name_added}
use Rattle.wb_names_symbols.proofs.named.add_names.Goals as goal

pub rows-init : goal.rows-init
rows-init g c = sym (append-nil c.args.names.now)

pub rows-preserved : goal.rows-preserved
rows-preserved g c =
    name_added g.T.Named.called c.args.rows.now c.rows.row-index c.row-item.result c.name.result.now c.args.names.now c.rows.names
    c.add_name.new.names c.rows.invariant c.rows-test.true c.row-item.is c.name.ensures c.in_ok-add_name.ensures

pub returns : goal.returns
returns g c =
    c.rows.invariant
    ∙ ap (λ z. c.args.names.now ++ map g.T.Named.called z) (take_all c.rows.row-index c.args.rows.now c.rows-test.false)
