use Rattle.std.proofs.Common.{◌≡◌, ◌∙◌, ◌+◌, ◌++◌, length, ap}
use Rattle.wb_compose_attributes.specs.Inner.Written.{equations_by, locals_by, with_locals, written_after}
use Rattle.wb_compose_attributes.proofs.production.add_written.Goals as goal

pub returns-clause-rules : goal.returns-clause-rules
returns-clause-rules c =
    let w = c.args.writers.now in
    let y = c.args.extension.now in
    let numbers : c.with_locals-numbers.result ≡ (written_after w c.args.before y).numbers = c.with_locals-numbers.ensures
    ∙ (λ j. with_locals ((c.block_on-local.ensures ∙ ap (λ size. record {
      own = length w.on.row.now.locals;
      before = c.args.before;
      size = length size;
      total = w.total;
    }) c.writing_on-writing.ensures.locals) j) y.numbers) in
    let added = c.in_ok-add_parts.ensures in
    record {
      locals = added.locals ∙ (λ j. c.args.rules.now.locals.items ++ locals_by (numbers j) (c.writing_on-writing.ensures.locals j));
      forward = added.forward;
      equations = added.equations
          ∙ (λ j. c.args.rules.now.equations.items ++ equations_by (numbers j) (c.writing_on-writing.ensures.equations j));
    }

pub returns-clause-next : goal.returns-clause-next
returns-clause-next c = c.in_ok-next.ensures ∙ ap (λ z. c.args.before + length z) c.writing_on-writing.ensures.locals
