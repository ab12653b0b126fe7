use Rattle.std.proofs.Common.{◌≡◌, ap, refl, ◌∙◌, Some}
use Rattle.std.specs.Prelude.{slice_get}
use Rattle.wb_lemmas.proofs.Places.{at_once}
use Rattle.wb_base.specs.declared.symbol.Symbol.TheVariants.{Terminal}
use Rattle.wb_compose_kernels.specs.declared.marks.Mark.{Mark}
use Rattle.wb_compose_kernels.proofs.AddLemmas.{adds_nothing, adds_push}
use Rattle.wb_compose_kernels.proofs.moves.add_mark_at.Goals as goal

pub returns-then-mark-hole : goal.returns-then-mark-hole
returns-then-mark-hole c =
    adds_nothing (λ m. (mark : Mark) × (slice_get c.args.marks.now c.args.place ≡ Some mark) × (mark.hole ≡ c.args.hole) ×
    (m ≡ (c.args.from, Terminal mark.terminal, mark.number))) c.args.moves.now.items
    (λ m (mark, at, is, m_is). c.if-mark-hole.true
    (ap (λ (z : Mark). z.hole) (at_once c.args.marks.now c.args.place c.mark_in-mark.result mark c.mark_in-mark.ensures at) ∙ is))

pub returns : goal.returns
returns c =
    let mark = c.mark_in-mark.result in
    adds_push (λ m. (mark : Mark) × (slice_get c.args.marks.now c.args.place ≡ Some mark) × (mark.hole ≡ c.args.hole) ×
    (m ≡ (c.args.from, Terminal mark.terminal, mark.number))) c.args.moves.now.items c.push.new.list.items
    (c.args.from, Terminal mark.terminal, mark.number) c.in_ok-push.ensures.ok (mark, c.mark_in-mark.ensures, c.if-mark-hole.false, refl)
    (λ m (other, at, is, m_is). m_is ∙ ap (λ (z : Mark). (c.args.from, Terminal z.terminal, z.number))
    (at_once c.args.marks.now c.args.place other mark at c.mark_in-mark.ensures))
