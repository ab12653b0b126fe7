use Rattle.std.proofs.Common.{Contains, drop, sym, subst}
use Rattle.wb_lemmas.proofs.Refusals.{handed_on}
use Rattle.wb_names_theory.specs.declared.declaration.Declaration.{Declaration}
use Rattle.wb_names_theory.specs.NamesOk.{bounds_of}
use Rattle.wb_names_rules.specs.Inner.Owners.{IsOrphanIf, ShowsOrphan}
use Rattle.wb_names_rules.proofs.OwnerLemmas.{shows_start, shows_extensible, shows_closed, shows_symbol, shows_forward_needs}
use Rattle.wb_names_rules.proofs.OwnerLemmas.{shows_occurrence, shows_on_closed, shows_preference, shows_equation}
use Rattle.wb_names_rules.proofs.OwnerLemmas.{may_occur, refused_as, passed_as}
use Rattle.wb_names_rules.proofs.orphans.check_declaration.Goals as goal

pub returns-in-Start-clause-refused : goal.returns-in-Start-clause-refused
returns-in-Start-clause-refused c =
    let bounds = bounds_of c.args.base.now c.args.format in
    subst (λ (z : Declaration). ShowsOrphan c.args.index.now c.args.from bounds z c.orphan.result) (sym c.in-Start.is)
    (shows_start c.args.index.now c.args.from bounds c.in-Start.name c.orphan.result c.orphan.ensures)

pub returns-in-Extensible-clause-refused : goal.returns-in-Extensible-clause-refused
returns-in-Extensible-clause-refused c =
    let bounds = bounds_of c.args.base.now c.args.format in
    subst (λ (z : Declaration). ShowsOrphan c.args.index.now c.args.from bounds z c.orphan-in-Extensible.result) (sym c.in-Extensible.is)
    (shows_extensible c.args.index.now c.args.from bounds c.in-Extensible.name c.orphan-in-Extensible.result c.orphan-in-Extensible.ensures)

pub returns-in-Closed-clause-refused : goal.returns-in-Closed-clause-refused
returns-in-Closed-clause-refused c =
    let bounds = bounds_of c.args.base.now c.args.format in
    subst (λ (z : Declaration). ShowsOrphan c.args.index.now c.args.from bounds z c.orphan-in-Closed.result) (sym c.in-Closed.is)
    (shows_closed c.args.index.now c.args.from bounds c.in-Closed.name c.orphan-in-Closed.result c.orphan-in-Closed.ensures)

pub returns-in-Symbol-clause-refused : goal.returns-in-Symbol-clause-refused
returns-in-Symbol-clause-refused c =
    let bounds = bounds_of c.args.base.now c.args.format in
    refused_as c.args.index.now c.args.from bounds _ c.check_symbol.result c.args.declaration.now _ c.in-Symbol.is
    (shows_symbol c.args.index.now c.args.from bounds c.in-Symbol.name c.in-Symbol.sort)
    c.check_symbol.ensures.refused

pub returns-in-Symbol-clause-ok : goal.returns-in-Symbol-clause-ok
returns-in-Symbol-clause-ok c =
    passed_as c.args.index.now c.args.from (bounds_of c.args.base.now c.args.format) c.check_symbol.result c.args.declaration.now _ c.in-Symbol.is c.check_symbol.ensures.ok

pub returns-in-ForwardNeeds-clause-refused : goal.returns-in-ForwardNeeds-clause-refused
returns-in-ForwardNeeds-clause-refused c =
    let bounds = bounds_of c.args.base.now c.args.format in
    refused_as c.args.index.now c.args.from bounds _ c.check_forward_needs.result c.args.declaration.now _ c.in-ForwardNeeds.is
    (shows_forward_needs c.args.index.now c.args.from bounds c.in-ForwardNeeds.name)
    c.check_forward_needs.ensures.refused

pub returns-in-ForwardNeeds-clause-ok : goal.returns-in-ForwardNeeds-clause-ok
returns-in-ForwardNeeds-clause-ok c =
    passed_as c.args.index.now c.args.from (bounds_of c.args.base.now c.args.format) c.check_forward_needs.result c.args.declaration.now _ c.in-ForwardNeeds.is c.check_forward_needs.ensures.ok

pub returns-in-Preference-clause-refused : goal.returns-in-Preference-clause-refused
returns-in-Preference-clause-refused c =
    let bounds = bounds_of c.args.base.now c.args.format in
    refused_as c.args.index.now c.args.from bounds _ c.check_preference.result c.args.declaration.now _ c.in-Preference.is
    (shows_preference c.args.index.now c.args.from bounds c.in-Preference.first c.in-Preference.second)
    c.check_preference.ensures.refused

pub returns-in-Preference-clause-ok : goal.returns-in-Preference-clause-ok
returns-in-Preference-clause-ok c =
    passed_as c.args.index.now c.args.from (bounds_of c.args.base.now c.args.format) c.check_preference.result c.args.declaration.now _ c.in-Preference.is c.check_preference.ensures.ok

pub returns-in-Equation-clause-refused : goal.returns-in-Equation-clause-refused
returns-in-Equation-clause-refused c =
    let bounds = bounds_of c.args.base.now c.args.format in
    refused_as c.args.index.now c.args.from bounds _ c.check_equation.result c.args.declaration.now _ c.in-Equation.is
    (shows_equation c.args.index.now c.args.from bounds c.in-Equation.production c.in-Equation.attribute c.in-Equation.site)
    c.check_equation.ensures.refused

pub returns-in-Equation-clause-ok : goal.returns-in-Equation-clause-ok
returns-in-Equation-clause-ok c =
    passed_as c.args.index.now c.args.from (bounds_of c.args.base.now c.args.format) c.check_equation.result c.args.declaration.now _ c.in-Equation.is c.check_equation.ensures.ok

pub returns-in_err-check_open-in-Occurrence-clause-refused : goal.returns-in_err-check_open-in-Occurrence-clause-refused
returns-in_err-check_open-in-Occurrence-clause-refused c =
    let bounds = bounds_of c.args.base.now c.args.format in
    handed_on (IsOrphanIf (Contains bounds.hosts_closed c.in-Occurrence.nonterminal) c.in-Occurrence.attribute)
    (ShowsOrphan c.args.index.now c.args.from bounds c.args.declaration.now) c.from_residual.result
    c.in_err-check_open-in-Occurrence.field-0.0 c.from_residual.ensures.1
    (λ refusal shows. subst (λ (z : Declaration). ShowsOrphan c.args.index.now c.args.from bounds z refusal) (sym c.in-Occurrence.is)
    (shows_on_closed c.args.index.now c.args.from bounds c.in-Occurrence.attribute c.in-Occurrence.nonterminal refusal shows))
    c.in_err-check_open-in-Occurrence.ensures.refused

pub returns-in_ok-check_open-in-Occurrence-clause-refused : goal.returns-in_ok-check_open-in-Occurrence-clause-refused
returns-in_ok-check_open-in-Occurrence-clause-refused c =
    let bounds = bounds_of c.args.base.now c.args.format in
    refused_as c.args.index.now c.args.from bounds _ c.check_occurrence.result c.args.declaration.now _ c.in-Occurrence.is
    (shows_occurrence c.args.index.now c.args.from bounds c.in-Occurrence.attribute c.in-Occurrence.nonterminal)
    c.check_occurrence.ensures.refused

pub returns-in_ok-check_open-in-Occurrence-clause-ok : goal.returns-in_ok-check_open-in-Occurrence-clause-ok
returns-in_ok-check_open-in-Occurrence-clause-ok c =
    let bounds = bounds_of c.args.base.now c.args.format in
    passed_as c.args.index.now c.args.from bounds c.check_occurrence.result c.args.declaration.now _ c.in-Occurrence.is
    (may_occur (drop c.args.from c.args.index.now) bounds c.in-Occurrence.attribute c.in-Occurrence.nonterminal c.check_occurrence.result
    c.in_ok-check_open-in-Occurrence.ensures.ok c.check_occurrence.ensures.ok)
