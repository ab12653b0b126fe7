use Rattle.std.proofs.lemmas.Option.{MatchOption-at_some}
use Rattle.wb_determinism_kernels.specs.Numbers.{up_by}
use Rattle.wb_determinism_kernels.specs.Inner.Growing.{IsHostNumber, IsNoHostKernel}
use Rattle.wb_determinism_kernels.proofs.GrowLemmas.{leads_host}
use Rattle.wb_determinism_kernels.proofs.numbering.number_of.Goals as goal

pub returns-in-Some : goal.returns-in-Some
returns-in-Some c =
    let b = c.args.beside.now in
    leads_host c.requires.given c.args.found.now c.requires.so_far c.args.step.from c.args.step.symbol c.args.kernel.now c.requires.from
    c.requires.kernel c.in-Some.number
    (MatchOption-at_some (IsNoHostKernel b.host.now (up_by b.numbers.now) c.args.kernel.now)
    (IsHostNumber b.host.now (up_by b.numbers.now) c.args.kernel.now) c.in-Some.number c.in-Some.is c.in_ok-number.ensures)
