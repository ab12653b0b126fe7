use Rattle.std.proofs.Common.{sym, subst}
use Rattle.std.specs.Prelude.{OnOk, IfErr}
use Rattle.wb_names_theory.specs.declared.usage.Usage.{Usage}
use Rattle.wb_names_rules.specs.Inner.Tests.{IsOfKind, ShowsKind}
use Rattle.wb_names_rules.proofs.kinds.check_usage.Goals as goal

pub returns-in-Name-clause-ok : goal.returns-in-Name-clause-ok
returns-in-Name-clause-ok c =
    subst (λ (z : Usage). OnOk c.check_name.result (IsOfKind c.args.index.now z)) (sym c.in-Name.is) c.check_name.ensures.ok

pub returns-in-Name-clause-refused : goal.returns-in-Name-clause-refused
returns-in-Name-clause-refused c =
    subst (λ (z : Usage). IfErr c.check_name.result (ShowsKind c.args.index.now z)) (sym c.in-Name.is) c.check_name.ensures.refused

pub returns-in-Label-clause-ok : goal.returns-in-Label-clause-ok
returns-in-Label-clause-ok c =
    subst (λ (z : Usage). OnOk c.check_label.result (IsOfKind c.args.index.now z)) (sym c.in-Label.is) c.check_label.ensures.ok

pub returns-in-Label-clause-refused : goal.returns-in-Label-clause-refused
returns-in-Label-clause-refused c =
    subst (λ (z : Usage). IfErr c.check_label.result (ShowsKind c.args.index.now z)) (sym c.in-Label.is) c.check_label.ensures.refused
