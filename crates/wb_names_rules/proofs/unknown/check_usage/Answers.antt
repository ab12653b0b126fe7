use Rattle.std.proofs.Common.{sym, subst}
use Rattle.std.specs.Prelude.{OnOk, IfErr}
use Rattle.wb_names_theory.specs.declared.usage.Usage.{Usage}
use Rattle.wb_names_rules.specs.Inner.Tests.{IsKnown, ShowsUnknown}
use Rattle.wb_names_rules.proofs.unknown.check_usage.Goals as goal

pub returns-in-Name-clause-ok : goal.returns-in-Name-clause-ok
returns-in-Name-clause-ok c =
    subst (λ (z : Usage). OnOk c.check_name.result (IsKnown c.args.index.now z)) (sym c.in-Name.is) c.check_name.ensures.ok

pub returns-in-Name-clause-refused : goal.returns-in-Name-clause-refused
returns-in-Name-clause-refused c =
    subst (λ (z : Usage). IfErr c.check_name.result (ShowsUnknown c.args.index.now z)) (sym c.in-Name.is) c.check_name.ensures.refused

pub returns-in-Label-clause-ok : goal.returns-in-Label-clause-ok
returns-in-Label-clause-ok c =
    subst (λ (z : Usage). OnOk c.check_label.result (IsKnown c.args.index.now z)) (sym c.in-Label.is) c.check_label.ensures.ok

pub returns-in-Label-clause-refused : goal.returns-in-Label-clause-refused
returns-in-Label-clause-refused c =
    subst (λ (z : Usage). IfErr c.check_label.result (ShowsUnknown c.args.index.now z)) (sym c.in-Label.is) c.check_label.ensures.refused

pub returns-in-Attribute-clause-ok : goal.returns-in-Attribute-clause-ok
returns-in-Attribute-clause-ok c =
    subst (λ (z : Usage). OnOk c.check_attribute.result (IsKnown c.args.index.now z)) (sym c.in-Attribute.is) c.check_attribute.ensures.ok

pub returns-in-Attribute-clause-refused : goal.returns-in-Attribute-clause-refused
returns-in-Attribute-clause-refused c =
    subst (λ (z : Usage). IfErr c.check_attribute.result (ShowsUnknown c.args.index.now z)) (sym c.in-Attribute.is)
    c.check_attribute.ensures.refused

pub returns-in-Needs-clause-ok : goal.returns-in-Needs-clause-ok
returns-in-Needs-clause-ok c =
    subst (λ (z : Usage). OnOk c.check_needs.result (IsKnown c.args.index.now z)) (sym c.in-Needs.is) c.check_needs.ensures.ok

pub returns-in-Needs-clause-refused : goal.returns-in-Needs-clause-refused
returns-in-Needs-clause-refused c =
    subst (λ (z : Usage). IfErr c.check_needs.result (ShowsUnknown c.args.index.now z)) (sym c.in-Needs.is) c.check_needs.ensures.refused
