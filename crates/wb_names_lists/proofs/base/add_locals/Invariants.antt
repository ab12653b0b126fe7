use Rattle.std.proofs.Common.{◌≡◌, ◌++◌, take, map}
use Rattle.wb_syntax_resolved.specs.declared.production.Local.{Local}
use Rattle.wb_names_theory.specs.declared.declaration.Declaration.TheVariants as d
use Rattle.wb_names_theory.specs.declared.declaration.Labelled.TheVariants as label
use Rattle.wb_names_theory.specs.Declares.{nonterminal_name}
use Rattle.wb_names_lists.proofs.base.add_locals.Given as goal

abbrev pub invariant-locals : goal.invariant-locals
invariant-locals l = l.out.items ≡ l.fn.out.items ++ map (λ (x : Local). d.Label l.production x.label (label.Local (nonterminal_name l.base x.nonterminal))) (take l.local-index l.locals)
