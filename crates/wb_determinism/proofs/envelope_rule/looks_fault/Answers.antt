use Rattle.std.proofs.Common.{◌∙◌, refl, sym, arith}
use Rattle.std.proofs.lemmas.List.{length-map}
use Rattle.std.proofs.lemmas.Option.{slice_get_within}
use Rattle.wb_items.specs.declared.item_lookahead.ItemLookahead.{ItemLookahead}
use Rattle.wb_items.specs.Lookaheads.{items_in, row_of}
use Rattle.wb_lookahead.proofs.PlaceLemmas.{held_len}
use Rattle.wb_determinism.proofs.BoundLemmas.{own_bound}
use Rattle.wb_determinism.proofs.RowLemmas.{keeps_absent, keeps_set, fault_set, place_set}
use Rattle.wb_determinism.proofs.envelope_rule.looks_fault.Goals as goal

pub item_after-item-requires-clause-within : goal.item_after-item-requires-clause-within
item_after-item-requires-clause-within c =
    own_bound c.args.context.now c.requires.context c.args.state c.args.own.now c.requires.own c.requires.within

pub returns-in_default : goal.returns-in_default
returns-in_default c =
    keeps_absent c.args.context.now c.requires.context c.args.state c.requires.state c.args.own.now c.args.looks.now
    c.item_after-item.result
    c.item_after-item.ensures
    c.in_default.ensures

pub at-set-requires-clause-place : goal.at-set-requires-clause-place
at-set-requires-clause-place c =
    let row = row_of c.args.context.now.both_lookaheads.now c.args.state in
    let within = slice_get_within (items_in row) c.in-Some.place c.item_after-item.result c.in-Some.ensures in
    let len = length-map row (λ (l : ItemLookahead). l.item) in
    omega (arith, within, len)

pub foreign_member-requires : goal.foreign_member-requires
foreign_member-requires c =
    let x = c.args.context.now in
    let h = c.requires.context in
    held_len h.both x.both_lookaheads.now h.both_lookaheads.shape c.args.state c.requires.state c.item_after-item.result c.at-set.result.now
    (place_set x.both.now h.both x.both_lookaheads.now h.both_lookaheads c.args.state c.requires.state (row_of x.both_lookaheads.now c.args.state) refl
    c.item_after-item.result c.in-Some.place c.in-Some.ensures c.at-set.result.now c.at-set.ensures) ∙ sym h.images

pub returns-in-Some-foreign_member : goal.returns-in-Some-foreign_member
returns-in-Some-foreign_member c =
    let x = c.args.context.now in
    let h = c.requires.context in
    fault_set c.args.context.now c.requires.context c.args.state c.requires.state c.args.own.now c.args.looks.now c.item_after-item.result
    c.at-set.result.now c.in-Some-foreign_member.terminal c.item_after-item.ensures
    (place_set x.both.now h.both x.both_lookaheads.now h.both_lookaheads c.args.state c.requires.state (row_of x.both_lookaheads.now c.args.state) refl
    c.item_after-item.result c.in-Some.place c.in-Some.ensures c.at-set.result.now c.at-set.ensures) c.requires.set c.requires.within
    c.in-Some-foreign_member.ensures

pub returns-in-None : goal.returns-in-None
returns-in-None c =
    let x = c.args.context.now in
    let h = c.requires.context in
    keeps_set c.args.context.now c.requires.context c.args.state c.requires.state c.args.own.now c.args.looks.now c.item_after-item.result
    c.at-set.result.now c.item_after-item.ensures
    (place_set x.both.now h.both x.both_lookaheads.now h.both_lookaheads c.args.state c.requires.state (row_of x.both_lookaheads.now c.args.state) refl
    c.item_after-item.result c.in-Some.place c.in-Some.ensures c.at-set.result.now c.at-set.ensures) c.requires.set c.in-None.ensures
