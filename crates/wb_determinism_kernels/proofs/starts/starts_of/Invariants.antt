use Rattle.wb_determinism_kernels.specs.Inner.Starting.{AreStarted}
use Rattle.wb_determinism_kernels.proofs.starts.starts_of.Given as goal

abbrev pub invariant-markers : goal.invariant-markers
invariant-markers l = AreStarted l.beside.host.now l.beside.grammar.now l.beside.numbers.now l.beside.images.now l.found l.starts.items
    l.marker
