use Rattle.std.proofs.Common.{◌≡◌, ◌<◌, ◌++◌, [], length, reverse, sym, ◌∙◌, subst, arith}
use Rattle.std.specs.Prelude.{slice_index_or}
use Rattle.wb_items.specs.Index.{IndexView}
use Rattle.wb_items.proofs.IndexedLemmas.{walked, arrived}
use Rattle.wb_items.proofs.kernel_index.KernelIndex.prefix.Goals as goal

pub steps-preserved : goal.steps-preserved
steps-preserved c =
    rw (← c.self.view_is)
    (walked c.self.inside.steps.items c.self.inside.kernels.items c.self.invariant.back c.args.number c.steps.at c.index-step.result.now
    c.steps.symbols.items c.push.new.list.items
    c.in_ok-push.ensures.ok c.index-step.ensures c.steps-test.true
    (subst (λ (f : IndexView). (c.steps.at < length f.kernels) ×
    (slice_index_or f.prefixes c.args.number [] ≡ slice_index_or f.prefixes c.steps.at [] ++ reverse c.steps.symbols.items))
    (sym c.self.view_is) c.steps.invariant))

pub returns : goal.returns
returns c =
    let zero : c.steps.at ≡ 0 = omega (arith, c.steps-test.false) in
    rw (← c.self.view_is) (c.reverse.ensures.items ∙ arrived c.self.inside.steps.items c.args.number c.steps.at c.steps.symbols.items zero
    (subst (λ (f : IndexView). slice_index_or f.prefixes c.args.number [] ≡ slice_index_or f.prefixes c.steps.at [] ++ reverse
    c.steps.symbols.items) (sym c.self.view_is) c.steps.invariant.1))
