use Rattle.std.proofs.Common.{◌<◌, length, sym, subst, arith}
use Rattle.wb_base.specs.Grammar.{GrammarView}
use Rattle.wb_items.specs.Inner.Numbering.{AreMade, IsRowApart}
use Rattle.wb_items.proofs.KernelNumbers.{numbered_next}
use Rattle.wb_items.proofs.numbering.numbers_apart.Goals as goal

pub states-preserved : goal.states-preserved
states-preserved c =
    let K = c.args.kernels.now in
    let old = c.states.made in
    let new = c.row_numbers.new.made in
    let row = c.closure.result.now in
    let given = c.in_ok-row_numbers.field-0 in
    let within : c.states.state < length K.closures = omega (arith, c.count-state-end.ensures.exact.closures_len) in
    numbered_next K c.states.state c.states.numbers.items c.push.new.list.items old new row given c.states.invariant within
    c.closure.ensures.is c.closure.ensures.in_order
    (subst (λ (g : GrammarView). IsRowApart g row given (length old.sets.items) (length new.sets.items)) (sym c.requires.grammar)
    c.in_ok-row_numbers.ensures.row)
    c.in_ok-row_numbers.ensures.more (subst (λ (g : GrammarView). AreMade g new) (sym c.requires.grammar) c.in_ok-row_numbers.ensures.made)
    c.in_ok-push.ensures.ok
