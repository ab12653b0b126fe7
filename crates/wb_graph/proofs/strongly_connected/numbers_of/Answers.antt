use Rattle.std.proofs.Common.{◌≡◌, ◌∙◌, ◌+◌, Some, slice_get, ap, sym, subst, refl, arith}
use Rattle.std.proofs.lemmas.Option.{slice_get-get_or}
use Rattle.wb_graph.specs.declared.groups.Mark.TheVariants.{New, Closed}
use Rattle.wb_graph.proofs.MarkLemmas.{AreFirstNumbers, number_more}
use Rattle.wb_graph.proofs.strongly_connected.numbers_of.Goals as goal

pub marks-init : goal.marks-init
marks-init c = record { first = rw c.new-numbers.ensures.items (record { len = refl; each = λ v n at. cc }) }

pub marks-preserved : goal.marks-preserved
marks-preserved c =
    let at : slice_get c.args.marks.now c.marks.mark-index ≡ Some (Closed c.in-Closed.number) =
    slice_get-get_or c.args.marks.now c.marks.mark-index New c.marks-test.true ∙ ap Some c.in-Closed.is in
    record {
      first = subst (λ xs. AreFirstNumbers xs c.args.marks.now (c.marks.mark-index + 1)) (sym c.in_ok-push-in-Closed.ensures.items)
          (number_more c.marks.numbers.items c.args.marks.now c.marks.mark-index c.in-Closed.number at c.marks.invariant.first);
    }

pub returns : goal.returns
returns c =
    let first = c.marks.invariant.first in
    record { len = omega (arith, first.len, c.marks.auto.mark-index-end); each = first.each }
