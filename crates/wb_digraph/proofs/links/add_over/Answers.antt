use Rattle.std.proofs.Common.{◌≡◌}
use Rattle.wb_digraph.proofs.StepLemmas.{adds_over, moved_has}
use Rattle.wb_digraph.proofs.links.add_over.Goals as goal

pub next_of-next-requires-clause-has : goal.next_of-next-requires-clause-has
next_of-next-requires-clause-has c = (let (rest, is) = c.requires.symbol in (c.args.item, rest, c.requires.has, is))

pub number_of-to-requires-clause-state : goal.number_of-to-requires-clause-state
number_of-to-requires-clause-state c = c.next_of-next.ensures.1

pub number_of-to-requires-clause-has : goal.number_of-to-requires-clause-has
number_of-to-requires-clause-has c =
    let (rest, is) = c.requires.symbol in
    moved_has c.requires.context.are_kernels c.args.state c.next_of-next.result c.args.item c.args.symbol rest c.requires.state c.requires.has is
    c.next_of-next.ensures

pub returns : goal.returns
returns c =
    let (rest, is) = c.requires.symbol in
    adds_over c.requires.context.are_kernels c.args.context.now.productions.now c.args.context.now.bases.now c.requires.context.in_range
    c.requires.context.are_productions c.requires.context.are_bases c.args.state c.next_of-next.result c.number_of-to.result c.args.from
    c.args.item c.args.symbol rest c.args.edges.now.items c.push.new.list.items c.requires.state c.requires.has is c.next_of-next.ensures
    c.requires.from c.number_of-to.ensures c.in_ok-push.ensures.ok
