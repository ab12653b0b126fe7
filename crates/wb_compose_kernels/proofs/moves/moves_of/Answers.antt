use Rattle.std.proofs.Common.{length, subst, sym}
use Rattle.std.proofs.lemmas.Result.{IfOk-weaker}
use Rattle.wb_compose_kernels.specs.Inner.Moves.{AreMarksUpTo}
use Rattle.wb_compose_kernels.proofs.moves.moves_of.Goals as goal

pub returns : goal.returns
returns c =
    let s = c.args.splice.now in
    IfOk-weaker c.moves_by-moves.result _ _
    (λ moves h. record {
      marks = c.deref.result.now;
      are_marks = subst (AreMarksUpTo s c.args.blocks.now c.args.numbers.now c.args.new.now (length s.parts.now)) (sym
          c.deref.ensures.value)
          c.in_ok-marks.ensures;
      added = h;
    }) c.moves_by-moves.ensures
