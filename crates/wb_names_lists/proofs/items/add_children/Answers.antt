use Rattle.std.proofs.Common.{◌++◌, ◌∷◌, [], ap, ◌∙◌}
use Rattle.wb_names_theory.specs.declared.declaration.Declaration.TheVariants as d
use Rattle.wb_names_theory.specs.Declares.{child_declaration}
use Rattle.wb_names_lists.proofs.ListLemmas.{map_next, map_all}
use Rattle.wb_names_lists.proofs.items.add_children.Goals as goal

pub children-preserved : goal.children-preserved
children-preserved c =
    map_next (child_declaration c.args.production.now)
    c.args.children.now c.children.child-index c.child-item.result c.args.out.now.items c.children.out.items c.add_label.new.out.items
    c.children.invariant c.children-test.true c.child-item.is
    (c.in_ok-add_label.ensures
    ∙ ap (λ z. c.children.out.items ++ d.Label c.args.production.now c.child-item.result.label z ∷ []) c.in_ok-is.ensures)

pub returns : goal.returns
returns c =
    map_all (child_declaration c.args.production.now)
    c.args.children.now c.children.child-index c.args.out.now.items c.children.out.items c.children.invariant c.children-test.false
