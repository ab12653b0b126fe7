use Rattle.std.proofs.Common.{◌≡◌, ◌+◌, ◌∙◌, ℕ, List, Some, Contains, ap, slice_get, subst, sym, take}
use Rattle.wb_names_rows.specs.Nodes.{IsAt}
use Rattle.wb_names_rows.proofs.PlainLemmas.{each_more, each_nothing}
use Rattle.wb_names_symbols.specs.Inner.Tables.{AddsNumbers}
use Rattle.wb_names_symbols.proofs.Gathered.{each_all}
use Rattle.wb_names_symbols.proofs.named.add_numbers.Goals as goal

pub number_of-requires : goal.number_of-requires
number_of-requires g c =
    subst (λ (z : List ℕ). Contains c.args.names.now z)
    (sym (c.as_slice.ensures ∙ (c.name.ensures ∙ ap g.T.Named.called c.row-item.is)))
    (c.requires c.rows.row-index c.row-item.result c.rows-test.true)

pub rows-preserved : goal.rows-preserved
rows-preserved g c =
    let names = c.args.names.now in
    let rows = c.args.rows.now in
    let i = c.rows.row-index in
    let row = c.row-item.result in
    let found : slice_get names c.number_of.result ≡ Some (g.T.Named.called row) =
    c.number_of.ensures ∙ ap Some (c.as_slice.ensures ∙ c.name.ensures) in
    subst (AddsNumbers g.T.Named.called names (take (i + 1) rows) c.args.table.now.items) (sym c.in_ok-push.ensures.ok)
    (each_more (λ x. IsAt names (g.T.Named.called x)) rows i row c.number_of.result c.args.table.now.items c.rows.table.items
    c.rows.invariant c.rows-test.true c.row-item.is found)

pub rows-init : goal.rows-init
rows-init g c = each_nothing (λ x. IsAt c.args.names.now (g.T.Named.called x)) c.args.table.now.items

pub returns : goal.returns
returns g c =
    each_all (λ x. IsAt c.args.names.now (g.T.Named.called x)) c.args.rows.now c.rows.row-index c.args.table.now.items
    c.rows.table.items c.rows.invariant c.rows-test.false
