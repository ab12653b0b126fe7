use Rattle.std.proofs.Common.{◌≡◌, ◌∙◌, subst, sym}
use Rattle.wb_items.specs.Kernels.{AreInOrder, ListsKernel, prefix_of}
use Rattle.wb_tests_grammars.proofs.ListedLemmas.{one_more}
use Rattle.wb_tests_grammars.proofs.parts.lists_of.Goals as goal

pub states-preserved : goal.states-preserved
states-preserved c =
    let kernels = c.args.kernels.now in
    let is : c.from_vec.result ≡ c.kernel.result.now = c.from_vec.ensures ∙ c.in_ok-list.ensures.items in
    one_more kernels c.states.lists.items c.push.new.list.items c.states.state c.from_vec.result c.in_ok-push.ensures.ok
    (subst (ListsKernel kernels.grammar (prefix_of kernels c.states.state)) (sym is) c.kernel.ensures.exact)
    (subst AreInOrder (sym is) c.kernel.ensures.in_order) c.states.invariant
