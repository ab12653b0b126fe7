use Rattle.std.proofs.Common.{◌-◌, arith}
use Rattle.wb_terms.proofs.PendingLemmas.{few_closes}
use Rattle.wb_terms.proofs.print.print_few.Goals as goal

pub returns : goal.returns
returns c =
    few_closes c.args.out.now.items c.extend_from_slice.new.self.items c.truncate.new.self.items (c.len.result - (16 - c.args.closes))
    c.args.closes c.requires c.in_ok-extend_from_slice.ensures.items (omega (arith, c.len.ensures, c.extend_from_slice.new.self.ok.0))
    c.truncate.ensures.items
