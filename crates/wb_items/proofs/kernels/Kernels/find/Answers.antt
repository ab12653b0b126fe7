use Rattle.std.proofs.Common.{◌<◌, subst, List}
use Rattle.std.specs.Prelude.{IfSome, IsNone, ◌↔◌}
use Rattle.wb_items.specs.Kernels.{KernelsView, ListsKernel, count_of, prefix_of}
use Rattle.wb_grammar_theory.specs.Items.{IsViablePrefix}
use Rattle.wb_base.specs.declared.symbol.Symbol.{Symbol}
use Rattle.wb_items.proofs.KernelsLemmas.{find_some, find_none}
use Rattle.wb_items.proofs.kernels.Kernels.find.Goals as goal

pub returns-clause-some : goal.returns-clause-some
returns-clause-some c =
    subst (λ (k : KernelsView). IfSome c.find.result (λ state. (state < count_of k) ×
    ListsKernel k.grammar (prefix_of k state) c.args.items.now)) c.self.view_is
    (find_some c.self.inside.grammar c.self.inside.found c.self.inside.closures.items c.self.inside.rows.items c.self.invariant
    c.args.items.now c.find.result c.find.ensures.found)

pub returns-clause-none : goal.returns-clause-none
returns-clause-none c =
    subst (λ (k : KernelsView). IsNone c.find.result ↔ ((prefix : List Symbol) → IsViablePrefix k.grammar prefix →
    ¬ ListsKernel k.grammar prefix c.args.items.now)) c.self.view_is
    (find_none c.self.inside.grammar c.self.inside.found c.self.inside.closures.items c.self.inside.rows.items c.self.invariant
    c.args.items.now c.find.result c.find.ensures.found c.find.ensures.none)
