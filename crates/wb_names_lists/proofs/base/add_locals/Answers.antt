use Rattle.std.proofs.Common.{◌++◌, ◌∷◌, [], ap, ◌∙◌}
use Rattle.wb_syntax_resolved.specs.declared.production.Local.{Local}
use Rattle.wb_names_theory.specs.declared.declaration.Declaration.TheVariants as d
use Rattle.wb_names_theory.specs.declared.declaration.Labelled.TheVariants as label
use Rattle.wb_names_theory.specs.Declares.{nonterminal_name}
use Rattle.wb_names_lists.proofs.ListLemmas.{map_next, map_all}
use Rattle.wb_names_lists.proofs.base.add_locals.Goals as goal

pub locals-preserved : goal.locals-preserved
locals-preserved c =
    map_next (λ (x : Local). d.Label c.args.production.now x.label (label.Local (nonterminal_name c.args.base.now x.nonterminal)))
    c.args.locals.now c.locals.local-index c.local-item.result c.args.out.now.items c.locals.out.items c.add_label.new.out.items
    c.locals.invariant c.locals-test.true c.local-item.is
    (c.in_ok-add_label.ensures
    ∙ ap (λ z. c.locals.out.items ++ d.Label c.args.production.now c.local-item.result.label (label.Local z) ∷ [])
    (c.in_ok-nonterminal.ensures.ok ∙ c.nonterminal_name.ensures))

pub returns : goal.returns
returns c =
    map_all (λ (x : Local). d.Label c.args.production.now x.label (label.Local (nonterminal_name c.args.base.now x.nonterminal)))
    c.args.locals.now c.locals.local-index c.args.out.now.items c.locals.out.items c.locals.invariant c.locals-test.false
