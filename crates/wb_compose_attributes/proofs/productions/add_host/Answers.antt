use Rattle.std.proofs.Common.{◌∙◌, ◌++◌, ◌∷◌, [], length, refl, ap}
use Rattle.std.proofs.lemmas.List.{take_all}
use Rattle.wb_lemmas.proofs.Places.{read_at}
use Rattle.wb_syntax_resolved.specs.declared.production.Production.{Production}
use Rattle.wb_compose_attributes.specs.Inner.Gathered.{host_productions}
use Rattle.wb_compose_attributes.specs.Inner.Written.{host_production_by}
use Rattle.wb_compose_attributes.proofs.NumberedLemmas.{numbered_after}
use Rattle.wb_compose_attributes.proofs.productions.add_host.Goals as goal

pub rows-preserved : goal.rows-preserved
rows-preserved c =
    let host = c.args.host.now in
    let xs = c.args.rows.now in
    let i = c.rows.place in
    let x = c.index-rows-place.result in
    let at = read_at xs xs i x refl c.rows-test.true c.index-rows-place.is in
    let next = c.in_ok-next.ensures
    ∙ ap (λ p. host_production_by (length host.rows.now.productions.now) p x host.numbers.now host.placed.now) c.in_ok-number.ensures in
    numbered_after (λ p row. host_production_by (length host.rows.now.productions.now) p row host.numbers.now host.placed.now) c.args.first xs i
    x c.args.made.now.items c.rows.made.items c.push.new.list.items at c.rows.invariant
    (c.in_ok-push.ensures.ok ∙ ap (λ (z : Production). c.rows.made.items ++ z ∷ []) next)

pub returns : goal.returns
returns c =
    let h = c.args.host.now in
    c.rows.invariant ∙ ap (λ xs. c.args.made.now.items ++ host_productions h.numbers.now (length h.rows.now.productions.now) h.placed.now
    c.args.first xs) (take_all c.rows.place c.args.rows.now c.rows-test.false)
