use Rattle.std.proofs.Common.{◌≡◌, ◌<◌, [], arith, length, subst, sym, ℕ}
use Rattle.wb_compose_kernels.specs.Inner.Moves.{Adds, AreMarksUpTo, IsMarkAt}
use Rattle.wb_compose_kernels.proofs.AddLemmas.{adds_start}
use Rattle.wb_compose_kernels.proofs.RowLemmas.{marks_more, starts_within}
use Rattle.wb_compose_kernels.proofs.marks.marks_of.Goals as goal

pub parts-init : goal.parts-init
parts-init c =
    subst (Adds (λ mark. (e : ℕ) × (e < 0) × IsMarkAt c.args.splice.now c.args.blocks.now c.args.numbers.now c.args.new.now e mark) [])
    (sym c.no_marks-marks.ensures)
    (adds_start (IsMarkAt c.args.splice.now c.args.blocks.now c.args.numbers.now c.args.new.now) [])

pub add_marks-requires : goal.add_marks-requires
add_marks-requires c =
    starts_within c.args.splice.now c.requires.given c.args.numbers.now c.args.new.now c.requires.lists c.parts.part
    c.part_at.result c.starts.result.now c.numbers_at.result.now c.part_at.ensures c.starts.ensures c.numbers_at.ensures

pub parts-preserved : goal.parts-preserved
parts-preserved c =
    marks_more c.args.splice.now c.args.blocks.now c.args.numbers.now c.args.new.now c.parts.part
    c.parts.marks.items c.add_marks.new.marks.items c.part_at.result c.blocks_at.result c.numbers_at.result.now c.starts.result.now
    c.part_at.ensures c.starts.ensures c.blocks_at.ensures c.numbers_at.ensures c.in_ok-add_marks.ensures c.parts.invariant

pub returns : goal.returns
returns c =
    let done : c.parts.part ≡ length c.args.splice.now.parts.now = omega arith in
    subst (λ n. AreMarksUpTo c.args.splice.now c.args.blocks.now c.args.numbers.now c.args.new.now n c.parts.marks.items) done
    c.parts.invariant
