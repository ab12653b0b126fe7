use Rattle.wb_determinism_kernels.specs.Numbers.{up_by}
use Rattle.wb_determinism_kernels.specs.Inner.Following.{RowUpTo}
use Rattle.wb_determinism_kernels.proofs.follow.row_of.Given as goal

abbrev pub invariant-moves : goal.invariant-moves
invariant-moves l = RowUpTo l.beside.host.now l.beside.grammar.now (up_by l.beside.numbers.now) l.fn.found l.found l.moved l.place
    l.row.items l.at
