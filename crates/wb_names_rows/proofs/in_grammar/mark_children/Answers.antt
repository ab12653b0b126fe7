use Rattle.wb_syntax_resolved.specs.declared.production.Child.{Child}
use Rattle.wb_names_rows.specs.Inner.Marks.{child_numbers}
use Rattle.wb_names_rows.proofs.MarkLemmas.{marks_flat_more, marks_flat_all}
use Rattle.wb_names_rows.proofs.in_grammar.mark_children.Goals as goal

pub children-preserved : goal.children-preserved
children-preserved c =
    marks_flat_more (λ (x : Child). child_numbers x.kind) c.args.children.now c.children.child-index c.child-item.result c.args.flags.now.items
    c.children.flags.items c.mark_child.new.flags.items c.children-test.true c.child-item.is c.children.invariant c.mark_child.ensures

pub returns : goal.returns
returns c =
    marks_flat_all (λ (x : Child). child_numbers x.kind) c.args.children.now c.children.child-index c.args.flags.now.items
    c.children.flags.items c.children-test.false c.children.invariant
