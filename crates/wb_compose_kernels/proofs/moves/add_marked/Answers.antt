use Rattle.std.proofs.Common.{◌≡◌, length, subst, ℕ, ◌<◌, Some, arith}
use Rattle.std.specs.Prelude.{slice_get}
use Rattle.wb_base.specs.declared.symbol.Symbol.TheVariants.{Terminal}
use Rattle.wb_compose_kernels.specs.declared.marks.Mark.{Mark}
use Rattle.wb_compose_kernels.specs.Inner.Moves.{Adds}
use Rattle.wb_compose_kernels.proofs.AddLemmas.{adds_next, adds_start}
use Rattle.wb_compose_kernels.proofs.RowLemmas.{marked_places}
use Rattle.wb_compose_kernels.proofs.moves.add_marked.Goals as goal

pub marks-init : goal.marks-init
marks-init c = adds_start (λ j m. (mark : Mark) × (slice_get c.args.marks.now j ≡ Some mark) × (mark.hole ≡ c.args.hole) ×
    (m ≡ (c.args.from, Terminal mark.terminal, mark.number))) c.args.moves.now.items

pub marks-preserved : goal.marks-preserved
marks-preserved c =
    adds_next (λ j m. (mark : Mark) × (slice_get c.args.marks.now j ≡ Some mark) × (mark.hole ≡ c.args.hole) ×
    (m ≡ (c.args.from, Terminal mark.terminal, mark.number))) c.marks.place c.args.moves.now.items c.marks.moves.items
    c.add_mark_at.new.moves.items c.marks.invariant c.in_ok-add_mark_at.ensures

pub returns : goal.returns
returns c =
    let done : c.marks.place ≡ length c.args.marks.now = omega arith in
    marked_places c.args.marks.now c.args.hole c.args.from c.args.moves.now.items c.marks.moves.items
    (subst (λ n. Adds (λ m. (j : ℕ) × (j < n) × ((mark : Mark) × (slice_get c.args.marks.now j ≡ Some mark) ×
    (mark.hole ≡ c.args.hole) × (m ≡ (c.args.from, Terminal mark.terminal, mark.number)))) c.args.moves.now.items c.marks.moves.items)
    done c.marks.invariant)
