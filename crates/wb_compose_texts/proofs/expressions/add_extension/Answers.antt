use Rattle.std.proofs.Common.{rules, ◌≡◌, subst}
use Rattle.std.specs.Prelude.{OnOk}
use Rattle.wb_certify_shown.specs.Names.{terminals_in}
use Rattle.wb_compose_texts.specs.Inner.Added.{AreAdded}
use Rattle.wb_compose_texts.proofs.AddedLemmas.{added_is}
use Rattle.wb_compose_texts.proofs.expressions.add_extension.Goals as goal

pub returns : goal.returns
returns c =
    let own : c.terminals_in-own.result ≡ terminals_in c.args.host.now.grammar = search rules in
    let count : c.terminals_in-count.result ≡ terminals_in c.args.extension.now.resolved.grammar = search rules in
    let rows : c.as_slice.result.now ≡ c.args.extension.now.resolved.terminals = search rules in
    subst (λ z. OnOk c.add_named.result (AreAdded z c.args.expressions.now.items c.add_named.new.expressions.items))
    (added_is c.args.host.now c.args.extension.now.resolved c.name-name.result.now c.terminals_in-own.result c.terminals_in-count.result
    c.as_slice.result.now c.name-name.ensures own count rows) c.add_named.ensures
