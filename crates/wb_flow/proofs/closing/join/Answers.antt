use Rattle.wb_flow.proofs.StartLemmas.{joined_parts}
use Rattle.wb_flow.proofs.closing.join.Goals as goal

pub returns : goal.returns
returns c =
    joined_parts c.args.to c.args.from c.args.sets.now.len c.args.sets.now.items c.deref_mut.result.now c.split_at_mut-front.result.0.now
    c.split_at_mut-front.result.1.now c.index-back-0.result c.index-front-from.result c.union_with.new.self c.deref_mut.ensures.value
    c.split_at_mut-front.ensures.value c.split_at_mut-front.ensures.front_len c.requires.from c.requires.to c.args.sets.now.ok.0
    c.union_with.ensures.after
