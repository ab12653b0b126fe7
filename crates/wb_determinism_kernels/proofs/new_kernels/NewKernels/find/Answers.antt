use Rattle.std.proofs.Common.{length, sym, subst, arith}
use Rattle.wb_determinism_kernels.specs.Numbers.{up_by}
use Rattle.wb_determinism_kernels.specs.Inner.Growing.{AreFoundSoFar}
use Rattle.wb_determinism_kernels.proofs.GrowLemmas.{none_found}
use Rattle.wb_determinism_kernels.proofs.WholeLemmas.{started_grows, whole}
use Rattle.wb_determinism_kernels.proofs.new_kernels.NewKernels.find.Goals as goal

pub starts_of-requires-clause-so_far : goal.starts_of-requires-clause-so_far
starts_of-requires-clause-so_far c =
    let b = c.args.beside.now in
    subst (AreFoundSoFar b.host.now b.grammar.now (up_by b.numbers.now)) (sym c.new-found.ensures) (none_found c.requires.given)

pub kernels-preserved : goal.kernels-preserved
kernels-preserved c =
    let b = c.args.beside.now in
    let f = c.in_ok-follow.ensures in
    record {
      started = started_grows b.host.now b.grammar.now b.numbers.now b.images.now c.kernels.table.found c.follow.new.table.found _
          (length b.images.now) f.grows f.so_far c.kernels.invariant.started;
      followed = f.followed;
      within = f.within;
    }

pub returns : goal.returns
returns c =
    whole c.requires.given (record {
      starts = c.in_ok-starts.starts.items;
      index = c.kernels.table.found;
      closures = c.kernels.table.closures.items;
      moves = c.kernels.table.rows.items;
    }) c.kernels.invariant.started c.kernels.invariant.followed
    (omega (arith, c.kernels.invariant.within, c.kernels-test.false, c.len.ensures, c.len-in-kernels.ensures.kernels))
