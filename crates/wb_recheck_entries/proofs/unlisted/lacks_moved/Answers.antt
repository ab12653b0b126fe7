use Rattle.std.proofs.Common.{refl}
use Rattle.wb_recheck_entries.proofs.MoveLemmas.{moved_answer, moved_nowhere, moved_unknown}
use Rattle.wb_recheck_entries.proofs.unlisted.lacks_moved.Goals as goal

pub returns-in-None : goal.returns-in-None
returns-in-None c =
    let r = c.args.listing.now.reference.now in
    let is = c.requires.listing.reference in
    moved_nowhere r.grammar.now r.kernels.now is.of_grammar is.kernels r.lines.now r.found.now.states is.good is.states c.args.entry.kernel
    c.state.result c.state.ensures c.args.symbol c.args.listing.now.keys.now c.args.entry.item c.args.entry.terminal
    (c.in-None.ensures.none.0 refl)

pub returns-in-None-place : goal.returns-in-None-place
returns-in-None-place c =
    let r = c.args.listing.now.reference.now in
    let is = c.requires.listing.reference in
    moved_unknown r.grammar.now r.kernels.now is.of_grammar is.kernels r.lines.now r.found.now.states is.good is.states c.args.entry.kernel
    c.state.result c.state.ensures c.args.symbol c.in-Some.next c.in-Some.ensures.some c.args.listing.now.keys.now c.args.entry.item
    c.args.entry.terminal c.in-None-place.ensures

pub returns-in-Some-place : goal.returns-in-Some-place
returns-in-Some-place c =
    let r = c.args.listing.now.reference.now in
    let is = c.requires.listing.reference in
    moved_answer r.grammar.now r.kernels.now is.of_grammar is.kernels r.lines.now r.found.now.states is.good is.states c.args.entry.kernel
    c.state.result c.state.ensures c.args.symbol c.in-Some.next c.in-Some.ensures.some c.args.listing.now.keys.now c.args.entry.item
    c.args.entry.terminal c.in-Some-place.place c.in-Some-place.ensures c.lacks.result c.lacks.ensures
