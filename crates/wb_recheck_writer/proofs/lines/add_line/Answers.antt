use Rattle.std.proofs.Common.{◌≡◌, ◌++◌, ◌∷◌, [], sym, subst, rules}
use Rattle.std.specs.Prelude.{Contains, Some, slice_get}
use Rattle.wb_lemmas.proofs.Members.{push_contains_last}
use Rattle.wb_lemmas.proofs.Places.{push_keeps}
use Rattle.wb_recheck_lines.specs.States.{StatesView}
use Rattle.wb_recheck_writer.specs.Inner.Lines.{AreLinesUpTo}
use Rattle.wb_recheck_writer.proofs.LineLemmas.{line_added}
use Rattle.wb_recheck_writer.proofs.lines.add_line.Goals as goal

pub returns : goal.returns
returns c =
    let kernels = c.args.kernels.now in
    let old = c.args.numbered.now in
    let new : ¬ Contains old.states.states c.args.next.state = search rules in
    let pushed : c.push_reserved.new.self.items ≡ old.lines.items ++ record { from = c.args.from; symbol = c.args.next.symbol } ∷ [] =
    search rules in
    let added = c.in_ok-add.ensures in
    let up = line_added kernels old.lines.items old.states c.args.from c.args.next c.requires.kernels c.requires.before c.requires.next
    new in
    record {
      up = subst (λ z. AreLinesUpTo kernels c.push_reserved.new.self.items z c.args.from) (sym added)
          (subst (λ z. AreLinesUpTo kernels z (record
          { states = old.states.states ++ c.args.next.state ∷ []; count = old.states.count }) c.args.from)
          (sym pushed) up);
      here = subst (λ (z : StatesView). Contains z.states c.args.next.state) (sym added)
          (push_contains_last old.states.states c.args.next.state);
      keeps = λ k s at. subst (λ (z : StatesView). slice_get z.states k ≡ Some s) (sym added)
          (push_keeps old.states.states c.args.next.state k s at);
    }
