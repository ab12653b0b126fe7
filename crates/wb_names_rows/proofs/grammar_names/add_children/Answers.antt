use Rattle.wb_syntax.specs.declared.production.Child.{Child}
use Rattle.wb_syntax.specs.Names.{kind_names}
use Rattle.wb_names_rows.proofs.ListLemmas.{flat_map_next, flat_map_all}
use Rattle.wb_names_rows.proofs.grammar_names.add_children.Goals as goal

pub children-preserved : goal.children-preserved
children-preserved c =
    flat_map_next (λ (x : Child). kind_names x.kind) c.args.children.now c.children.child-index
    c.child-item.result c.args.names.now c.children.names c.add_kind.new.names c.children.invariant c.children-test.true
    c.child-item.is c.in_ok-add_kind.ensures

pub returns : goal.returns
returns c =
    flat_map_all (λ (x : Child). kind_names x.kind) c.args.children.now c.children.child-index
    c.args.names.now c.children.names c.children.invariant c.children-test.false
