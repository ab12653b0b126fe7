use Rattle.std.proofs.Common.{rules, ◌≡◌, ◌∙◌, ◌-◌, length, take, ap, refl}
use Rattle.wb_lookahead.specs.Contents.{size_of}
use Rattle.wb_parser_states.specs.Stacks.{last_or}
use Rattle.wb_parser_states.proofs.StateLemmas.{top_below, top_moved, top_pushed, top_set, pushed_below}
use Rattle.wb_parser_states.proofs.TableLemmas.{zero_below}
use Rattle.wb_parser_states.proofs.moves.replace_top.Goals as goal

pub target_of-target-requires-clause-state : goal.target_of-target-requires-clause-state
target_of-target-requires-clause-state c =
    let (g, of) = c.requires.tables in
    top_below (size_of c.args.tables.now) c.args.states.now.items (take (c.len-place.result - 1) c.args.states.now.items) _
    (c.len-place.result - 1) c.top-below.result (zero_below of) c.requires.states refl
    (ap (take (c.len-place.result - 1)) c.deref.ensures.value) c.top-below.ensures

pub returns-clause-moved : goal.returns-clause-moved
returns-clause-moved c =
    let len_is : c.len-place.result ≡ length c.args.states.now.items = search rules in
    top_moved c.args.tables.now c.args.states.now.items c.args.left c.len-place.result c.top-below.result c.target_of-target.result
    c.requires.some len_is (c.top-below.ensures ∙ ap (λ z. last_or 0 (take (c.len-place.result - 1) z)) c.deref.ensures.value)
    c.target_of-target.ensures.next

pub returns-clause-top : goal.returns-clause-top
returns-clause-top c =
    let len_is : c.len-place.result ≡ length c.args.states.now.items = search rules in
    top_pushed (take (length c.args.states.now.items - 1) c.args.states.now.items) _ c.target_of-target.result
    (top_set c.args.states.now.items c.len-place.result c.target_of-target.result c.requires.some len_is)

pub returns-clause-below : goal.returns-clause-below
returns-clause-below c =
    let (g, of) = c.requires.tables in
    let len_is : c.len-place.result ≡ length c.args.states.now.items = search rules in
    pushed_below (size_of c.args.tables.now) c.args.states.now.items
    (take (length c.args.states.now.items - 1) c.args.states.now.items) _ (length c.args.states.now.items - 1) c.target_of-target.result
    c.requires.states refl (top_set c.args.states.now.items c.len-place.result c.target_of-target.result c.requires.some len_is)
    (c.target_of-target.ensures.below g of)
