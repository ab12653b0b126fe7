use Rattle.std.proofs.Common.{length, sym, subst}
use Rattle.std.proofs.lemmas.Result.{IfOk-weaker}
use Rattle.wb_determinism_kernels.specs.Numbers.{up_by}
use Rattle.wb_determinism_kernels.specs.Inner.Following.{AreKernelsAfter, IsRowAdded, RowUpTo}
use Rattle.wb_determinism_kernels.specs.Inner.MovedKernels.{AreMovedKernels}
use Rattle.wb_determinism_kernels.proofs.FollowLemmas.{after_kernels, row_done}
use Rattle.wb_determinism_kernels.proofs.follow.moves.Goals as goal

pub row_of-row-requires-clause-kernels : goal.row_of-row-requires-clause-kernels
row_of-row-requires-clause-kernels c =
    let b = c.args.beside.now in
    subst (λ z. AreKernelsAfter b.host.now b.grammar.now (up_by b.numbers.now) c.args.found.now z c.args.place) (sym c.deref.ensures.value)
    (after_kernels b.host.now b.grammar.now (up_by b.numbers.now) c.args.found.now c.args.place c.args.closure.now c.in_ok-moved.moved.items
    c.requires.given.live c.requires.exact c.in_ok-moved.ensures)

pub returns : goal.returns
returns c =
    let b = c.args.beside.now in
    let moved = c.deref.result.now in
    IfOk-weaker c.row_of-row.result
    (λ row. RowUpTo b.host.now b.grammar.now (up_by b.numbers.now) c.args.found.now c.row_of-row.new.found moved c.args.place row (length
    moved))
    (IsRowAdded b.host.now b.grammar.now (up_by b.numbers.now) c.args.found.now c.row_of-row.new.found c.args.closure.now c.args.place)
    (λ row up_to. row_done c.args.found.now c.row_of-row.new.found c.args.closure.now moved c.args.place row
    (subst (AreMovedKernels b.grammar.now c.args.closure.now) (sym c.deref.ensures.value) c.in_ok-moved.ensures) up_to)
    c.row_of-row.ensures
