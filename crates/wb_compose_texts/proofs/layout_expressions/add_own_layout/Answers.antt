use Rattle.std.proofs.Common.{rules, ◌≡◌, length, refl, subst}
use Rattle.std.specs.Prelude.{OnOk}
use Rattle.wb_certify_shown.specs.Names.{terminals_in}
use Rattle.wb_compose_texts.specs.Inner.Added.{AreAdded}
use Rattle.wb_compose_texts.proofs.AddedLemmas.{layouts_are}
use Rattle.wb_compose_texts.proofs.layout_expressions.add_own_layout.Goals as goal

pub returns : goal.returns
returns c =
    let terminals : c.terminals_in-terminals.result ≡ terminals_in c.args.extension.now.resolved.grammar = search rules in
    let rows : c.as_slice.result.now ≡ c.args.extension.now.resolved.terminals = search rules in
    subst (λ z. OnOk c.add_named.result (AreAdded z c.args.expressions.now.items c.add_named.new.expressions.items))
    (layouts_are c.args.extension.now.resolved c.name-name.result.now c.terminals_in-terminals.result c.args.count
    (length c.behind-rows.result.now) c.as_slice.result.now c.behind-past.result.now c.behind-rows.result.now c.name-name.ensures
    terminals rows c.behind-past.ensures c.behind-rows.ensures refl) c.add_named.ensures
