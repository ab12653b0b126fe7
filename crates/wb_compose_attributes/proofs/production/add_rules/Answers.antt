use Rattle.std.proofs.Common.{◌∙◌, ◌++◌, refl, ap, subst}
use Rattle.std.proofs.lemmas.List.{take_all}
use Rattle.wb_lemmas.proofs.Places.{read_at}
use Rattle.wb_compose_theory_lists.specs.Joined.{numbered}
use Rattle.wb_compose_attributes.specs.Inner.Filled.{AreRules}
use Rattle.wb_compose_attributes.specs.Inner.Written.{each_written, equations_by, locals_by, size_on, written_after, written_equations}
use Rattle.wb_compose_attributes.specs.Inner.Written.{written_locals}
use Rattle.wb_compose_attributes.proofs.NumberedLemmas.{flat_numbered_next, total_next}
use Rattle.wb_compose_attributes.proofs.production.add_rules.Goals as goal

pub placed-preserved : goal.placed-preserved
placed-preserved c =
    let n = c.args.numbers.now in
    let w = c.args.writers.now in
    let xs = w.placed.now in
    let i = c.placed.extension-index in
    let x = c.extension-item.result in
    let at = read_at xs xs i x refl c.placed-test.true c.extension-item.is in
    let was = c.placed.invariant.1 in
    let more = c.in_ok-before.ensures.rules in (
      total_next (size_on w) xs i x c.placed.before c.in_ok-before.before c.placed-test.true c.extension-item.is
          c.placed.invariant.0 c.in_ok-before.ensures.next,
      record {
        locals = flat_numbered_next written_locals (each_written w) xs i x (locals_by n w.on.row.now.locals) c.placed.rules.locals.items
            c.add_written.new.rules.locals.items at was.locals
            (more.locals ∙ ap (λ b. c.placed.rules.locals.items ++ written_locals (written_after w b x)) c.placed.invariant.0);
        forward = more.forward ∙ was.forward;
        equations = flat_numbered_next written_equations (each_written w) xs i x (equations_by n w.on.row.now.equations)
            c.placed.rules.equations.items c.add_written.new.rules.equations.items at was.equations
            (more.equations ∙ ap (λ b. c.placed.rules.equations.items ++ written_equations (written_after w b x)) c.placed.invariant.0);
      },
    )

pub returns : goal.returns
returns c =
    let w = c.args.writers.now in
    subst (λ xs. AreRules c.args.numbers.now w.on.row.now (numbered (each_written w) 0 xs) c.placed.rules)
    (take_all c.placed.extension-index w.placed.now c.placed-test.false) c.placed.invariant.1
