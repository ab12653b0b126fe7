use Rattle.std.proofs.Common.{◌≡◌, refl, subst, sym, ◌∙◌, arith}
use Rattle.wb_flow.proofs.IndexLemmas.{AreEmpty, lists_of, empty_more, nothing_yet}
use Rattle.wb_flow.proofs.occurrences.empty_index.Goals as goal

pub rows-init : goal.rows-init
rows-init c = subst (λ z. AreEmpty (lists_of z) 0) (sym c.new-rows.ensures.items) (refl, (λ m. refl))

pub rows-preserved : goal.rows-preserved
rows-preserved c =
    empty_more c.rows.rows.items c.push.new.list.items c.new.result c.rows.counter c.rows.invariant c.in_ok-push.ensures.ok c.new.ensures.items

pub returns : goal.returns
returns c =
    let ended : c.rows.counter ≡ c.args.count = omega arith in
    (c.rows.invariant.0 ∙ ended, (λ m k. nothing_yet (lists_of c.rows.rows.items) c.rows.counter m k c.rows.invariant))
