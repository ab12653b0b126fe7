use Rattle.wb_parser_states.proofs.StateLemmas.{top_below, top_pushed, pushed_below}
use Rattle.wb_parser_states.proofs.TableLemmas.{zero_below}
use Rattle.wb_lookahead.specs.Contents.{size_of}
use Rattle.wb_parser_states.proofs.moves.move_states.Goals as goal

pub target_of-target-requires-clause-state : goal.target_of-target-requires-clause-state
target_of-target-requires-clause-state c =
    let (g, of) = c.requires.tables in
    top_below (size_of c.args.tables.now) c.args.states.now.items c.truncate.new.self.items c.deref.result.now c.saturating_sub-kept.result
    c.top-below.result (zero_below of) c.requires.states c.truncate.ensures.items c.deref.ensures.value c.top-below.ensures

pub returns-clause-below : goal.returns-clause-below
returns-clause-below c =
    let (g, of) = c.requires.tables in
    pushed_below (size_of c.args.tables.now) c.args.states.now.items c.truncate.new.self.items c.push.new.self.items
    c.saturating_sub-kept.result c.target_of-target.result c.requires.states c.truncate.ensures.items c.in_ok-push.ensures.items
    (c.target_of-target.ensures.below g of)

pub returns-clause-top : goal.returns-clause-top
returns-clause-top c = top_pushed c.truncate.new.self.items c.push.new.self.items c.target_of-target.result c.in_ok-push.ensures.items
