use Rattle.std.proofs.Common.{sym, subst}
use Rattle.wb_names_theory.specs.Meaning.{IsDeclared}
use Rattle.wb_names_theory.specs.Unknown.{undeclared}
use Rattle.wb_names_theory.specs.declared.usage.Usage.TheVariants as u
use Rattle.wb_names_rules.proofs.ReadLemmas.{fails_when}
use Rattle.wb_names_rules.proofs.UnknownLemmas.{shows_name}
use Rattle.wb_names_rules.proofs.unknown.check_name.Goals as goal

pub returns-clause-refused : goal.returns-clause-refused
returns-clause-refused c =
    let not = fails_when _ c.if-branch.false c.in_ok-is_declared.ensures in
    shows_name c.args.index.now (u.Name c.args.name.now c.args.wanted) c.args.name.now c.unknown.result
    (λ used has. undeclared has (λ is. not (subst (IsDeclared c.args.index.now c.args.wanted) (sym c.as_slice.ensures) is)))
    c.unknown.ensures
