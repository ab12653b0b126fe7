use Rattle.std.proofs.Common.{List, ℕ, subst}
use Rattle.wb_lemmas.proofs.Members.{contains_at}
use Rattle.wb_names_theory.specs.declared.declaration.Declaration.TheVariants as d
use Rattle.wb_names_theory.specs.Meaning.{HasLabel}
use Rattle.wb_names_theory.specs.declared.usage.Usage.TheVariants as u
use Rattle.wb_names_theory.specs.Unknown.{label}
use Rattle.wb_names_rules.proofs.UnknownLemmas.{shows_name}
use Rattle.wb_names_rules.proofs.unknown.check_label.Goals as goal

pub returns-in-None-clause-refused : goal.returns-in-None-clause-refused
returns-in-None-clause-refused c =
    let none = rw c.in-None.is at c.in_ok-label.ensures.none in
    let there = c.in_ok-is_production.ensures.0 c.if-not-branch.false in
    shows_name c.args.index.now (u.Label c.args.production.now c.args.label.now c.args.wanted) c.args.label.now c.unknown.result
    (λ used has. label (record { written = has; there = rw c.as_slice.ensures at there })
    (λ is. rw (c.as_slice-2.ensures, c.as_slice-3.ensures) at (none is)))
    c.unknown.ensures

pub returns-in-Some-clause-ok : goal.returns-in-Some-clause-ok
returns-in-Some-clause-ok c = λ there.
    let (is, at) = rw c.in-Some.is at c.in_ok-label.ensures.found in
    let has : HasLabel c.args.index.now c.as_slice-2.result.now c.as_slice-3.result.now is =
    contains_at c.args.index.now (d.Label c.as_slice-2.result.now c.as_slice-3.result.now is) c.in-Some.field-0 at in (
      is,
      subst (λ (p : List ℕ). HasLabel c.args.index.now p c.args.label.now is) c.as_slice-2.ensures
          (subst (λ (l : List ℕ). HasLabel c.args.index.now c.as_slice-2.result.now l is) c.as_slice-3.ensures has),
    )
