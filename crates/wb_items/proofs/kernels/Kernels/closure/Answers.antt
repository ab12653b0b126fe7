use Rattle.std.proofs.Common.{◌≡◌, ◌<◌, sym, ◌∙◌, subst, arith, []}
use Rattle.std.specs.Prelude.{slice_index_or}
use Rattle.wb_lemmas.proofs.Places.{at_default, default_at}
use Rattle.wb_items.specs.Kernels.{KernelsView, AreInOrder, ListsItems, count_of, prefix_of}
use Rattle.wb_items.proofs.KernelsLemmas.{closure_is, closure_sorted}
use Rattle.wb_items.proofs.kernels.Kernels.closure.Goals as goal

listed : (c : goal.After-as_slice) → c.as_slice.result.now ≡ slice_index_or c.self.inside.closures.items c.args.state []
listed c =
    let within = subst (λ (k : KernelsView). c.args.state < count_of k) (sym c.self.view_is) c.requires in
    let there = at_default c.self.inside.closures.items c.args.state c.index.result.now
    (omega (arith, within, c.self.invariant.closures_len, c.self.invariant.kernels.len)) in
    c.as_slice.ensures ∙ c.index.ensures ∙
    sym (default_at c.self.inside.closures.items c.args.state []
    (slice_index_or c.self.inside.closures.items c.args.state c.index.result.now) there)

pub returns-clause-exact : goal.returns-clause-exact
returns-clause-exact c =
    let within = subst (λ (k : KernelsView). c.args.state < count_of k) (sym c.self.view_is) c.requires in
    subst (λ (k : KernelsView). ListsItems k.grammar (prefix_of k c.args.state) c.as_slice.result.now) c.self.view_is
    (subst (ListsItems c.self.inside.grammar (slice_index_or c.self.inside.found.prefixes c.args.state [])) (sym (listed c))
    (closure_is c.self.invariant c.args.state within))

pub returns-clause-in_order : goal.returns-clause-in_order
returns-clause-in_order c = subst AreInOrder (sym (listed c)) (closure_sorted c.self.invariant c.args.state)
