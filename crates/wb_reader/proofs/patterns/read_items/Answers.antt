use Rattle.std.proofs.Common.{◌≡◌, ◌++◌, ◌∷◌, [], sym, ap, ◌∙◌, subst}
use Rattle.std.proofs.lemmas.List.{append_assoc}
use Rattle.std.specs.List.{AllZip}
use Rattle.std.specs.Vec.Iter.{into_iter_items}
use Rattle.wb_syntax.specs.SpecText.{IsReadAs}
use Rattle.wb_reader.proofs.PatternLemmas.{item_handed_on, one_more}
use Rattle.wb_reader.proofs.patterns.read_items.Goals as goal

pub returns-in_err-read-clause-refused : goal.returns-in_err-read-clause-refused
returns-in_err-read-clause-refused c =
    let step = c.in-Some.ensures.steps in
    let split : c.args.items.items ≡ c.loop-item.yielded ++ c.in-Some.item ∷ into_iter_items c.next.new.self =
    c.loop-item.invariant.0 ∙ ap (λ rest. c.loop-item.yielded ++ rest) step.0 in
    item_handed_on c.args.items.items c.loop-item.yielded c.in-Some.item
    (into_iter_items c.next.new.self) c.loop-item.made.items c.from_residual.result c.in_err-read.field-0.0 c.from_residual.ensures.1 split
    c.loop-item.invariant.1 c.in_err-read.ensures.refused

pub loop-item-preserved : goal.loop-item-preserved
loop-item-preserved c =
    let step = c.in-Some.ensures.steps in
    let split : c.args.items.items ≡ c.loop-item.yielded ++ c.in-Some.item ∷ into_iter_items c.next.new.self =
    c.loop-item.invariant.0 ∙ ap (λ rest. c.loop-item.yielded ++ rest) step.0 in
    let more =
    one_more c.loop-item.yielded c.in-Some.item c.loop-item.made.items c.in_ok-read.read c.loop-item.invariant.1 c.in_ok-read.ensures.ok in (
      split ∙ sym (append_assoc c.loop-item.yielded (c.in-Some.item ∷ []) (into_iter_items c.next.new.self)),
      subst (λ made. AllZip IsReadAs (c.loop-item.yielded ++ c.in-Some.item ∷ []) made) (sym c.in_ok-push.ensures.ok) more,
    )
