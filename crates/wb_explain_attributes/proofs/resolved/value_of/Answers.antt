use Rattle.std.proofs.Common.{sym, subst}
use Rattle.std.specs.Option.{option_copied}
use Rattle.wb_explain_attributes.specs.Values.{IsHostValue, IsValueBeside, IsValueOf, IsValueWith}
use Rattle.wb_explain_attributes.proofs.ValueLemmas.{if_some}
use Rattle.wb_explain_attributes.proofs.resolved.value_of.Goals as goal

pub returns-in-Some : goal.returns-in-Some
returns-in-Some c =
    if_some (IsValueBeside c.in-Some.host.now c.args.source.now.contents.now) (IsValueOf c.args.source.now) c.beside.result
    (λ r is. subst (λ z. IsValueWith (option_copied z) c.args.source.now.contents.now r) (sym c.in-Some.is) is) c.beside.ensures

pub returns-in-None : goal.returns-in-None
returns-in-None c =
    if_some (IsHostValue c.args.source.now.contents.now) (IsValueOf c.args.source.now) c.host_value.result
    (λ r is. subst (λ z. IsValueWith (option_copied z) c.args.source.now.contents.now r) (sym c.in-None.is) is) c.host_value.ensures
