use Rattle.wb_syntax_resolved.specs.declared.production.Production.{Production}
use Rattle.wb_names_rows.specs.Inner.Marks.{role_numbers}
use Rattle.wb_names_rows.proofs.MarkLemmas.{marks_flat_more, marks_flat_all}
use Rattle.wb_names_rows.proofs.in_grammar.mark_productions.Goals as goal

pub productions-preserved : goal.productions-preserved
productions-preserved c =
    marks_flat_more (λ (p : Production). role_numbers p.role p) c.args.productions.now c.productions.production-index
    c.production-item.result c.args.flags.now.items c.productions.flags.items c.mark_production.new.flags.items c.productions-test.true
    c.production-item.is c.productions.invariant c.mark_production.ensures

pub returns : goal.returns
returns c =
    marks_flat_all (λ (p : Production). role_numbers p.role p) c.args.productions.now c.productions.production-index
    c.args.flags.now.items c.productions.flags.items c.productions-test.false c.productions.invariant
