use Rattle.std.proofs.Common.{◌∷◌, [], ap, map, refl}
use Rattle.std.proofs.lemmas.Result.{on_ok_weaker}
use Rattle.wb_syntax_resolved.specs.declared.equation.Equation.{Equation}
use Rattle.wb_syntax_resolved.specs.declared.production.Child.{Child}
use Rattle.wb_syntax_resolved.specs.declared.production.Local.{Local}
use Rattle.wb_names_theory.specs.declared.declaration.Declaration.TheVariants as d
use Rattle.wb_names_theory.specs.declared.declaration.Labelled.TheVariants as label
use Rattle.wb_names_theory.specs.declared.declaration.Sort.TheVariants as sort
use Rattle.wb_names_theory.specs.Declares.{base_labelled, nonterminal_name, target_attribute, target_site, forward_declarations}
use Rattle.wb_names_lists.proofs.ListLemmas.{both_added}
use Rattle.wb_names_lists.proofs.base.add_production.Goals as goal

pub returns : goal.returns
returns c =
    let p = c.args.production.now in
    let b = c.args.base.now in
    let old = c.args.out.now.items in
    let of_child = (λ (x : Child). d.Label p.name x.label (base_labelled b x.kind)) in
    let of_local = (λ (x : Local). d.Label p.name x.label (label.Local (nonterminal_name b x.nonterminal))) in
    let of_equation = (λ (x : Equation). d.Equation p.name (target_attribute b x.target) (target_site p x.target)) in
    let left = both_added (d.Symbol p.name sort.Production ∷ []) _ (d.Left p.name (nonterminal_name b p.left) ∷ []) old
    c.add_symbol.new.out.items c.add_left.new.out.items c.in_ok-add_symbol.ensures c.in_ok-add_left.ensures
    (ap (λ z. d.Left p.name z ∷ []) c.nonterminal_name.ensures) in
    let children = both_added _ _ (map of_child p.children) old c.add_left.new.out.items c.add_children.new.out.items
    left c.in_ok-add_children.ensures (ap (map of_child) c.as_slice.ensures) in
    let locals = both_added _ _ (map of_local p.locals) old c.add_children.new.out.items c.add_locals.new.out.items
    children c.in_ok-add_locals.ensures (ap (map of_local) c.as_slice-2.ensures) in
    let forward = both_added _ _ (forward_declarations p.name p.forward) old c.add_locals.new.out.items c.add_forward.new.out.items
    locals c.in_ok-add_forward.ensures refl in
    on_ok_weaker c.add_equations.result (λ added. both_added _ _ (map of_equation p.equations) old c.add_forward.new.out.items
    c.add_equations.new.out.items forward added (ap (map of_equation) c.as_slice-3.ensures)) c.add_equations.ensures
