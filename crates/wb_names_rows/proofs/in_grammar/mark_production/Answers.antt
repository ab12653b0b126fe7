use Rattle.std.proofs.Common.{subst, sym, ◌∷◌, []}
use Rattle.std.specs.List.{flat_map}
use Rattle.wb_syntax_resolved.specs.declared.production.Child.{Child}
use Rattle.wb_names_rows.specs.Inner.Marks.{Marks, child_numbers, role_numbers}
use Rattle.wb_names_rows.proofs.MarkLemmas.{marks_both}
use Rattle.wb_names_rows.proofs.in_grammar.mark_production.Goals as goal

pub returns-in-Concrete : goal.returns-in-Concrete
returns-in-Concrete c =
    subst (λ z. Marks (role_numbers z c.args.production.now) c.args.flags.now.items c.mark_children.new.flags.items) (sym c.in-Concrete.is)
    (marks_both (c.args.production.now.left ∷ []) (flat_map (λ (x : Child). child_numbers x.kind) c.args.production.now.children)
    c.args.flags.now.items c.mark.new.flags.items c.mark_children.new.flags.items c.mark.ensures
    (subst (λ z. Marks (flat_map (λ (x : Child). child_numbers x.kind) z) c.mark.new.flags.items c.mark_children.new.flags.items)
    c.as_slice.ensures c.mark_children.ensures))
