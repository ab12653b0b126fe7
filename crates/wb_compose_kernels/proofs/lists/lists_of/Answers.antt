use Rattle.wb_compose_kernels.proofs.LoopLemmas.{all_listed, host_all}
use Rattle.wb_compose_kernels.proofs.lists.lists_of.Goals as goal

pub part_lists-requires-clause-before : goal.part_lists-requires-clause-before
part_lists-requires-clause-before c ok =
    host_all c.args.splice.now ok c.host_lists.new.kernels.items c.in_ok-host.host.items (c.in_ok-host.ensures ok)

pub returns : goal.returns
returns c ok =
    all_listed c.args.splice.now ok c.host_lists.new.kernels.items c.part_lists.new.kernels.items c.in_ok-host.host.items
    c.in_ok-new.new.items (c.in_ok-host.ensures ok) (c.in_ok-new.ensures ok)
