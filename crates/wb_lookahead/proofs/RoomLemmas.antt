-- A set that grows leaves less room.
use Rattle.std.proofs.Common.{◌≡◌, ℕ, ◌-◌, ◌<◌, Bool, true, List, [], length, get_or, set, sym, ap, arith}
use Rattle.std.proofs.lemmas.List.Sums.{sum_by-set}
use Rattle.wb_grammar_theory.specs.declared.item.Item.{Item}
use Rattle.wb_termset.specs.Sets.{members}
use Rattle.wb_termset.proofs.CallerLemmas.{IsUnion-left, members_le, members_grow}
use Rattle.wb_items.specs.Lookaheads.{AnswersUnion, LookaheadsView, set_of}
use Rattle.wb_lookahead.specs.Inner.Spreading.{room}

-- a set that grew leaves less room
pub room_less : {old new : LookaheadsView} {s : ℕ} {item : Item} {added : List Bool} {b : Bool} →
    AnswersUnion old s item added new b → b ≡ true → room new < room old
unfolding room
room_less {old} {new} {s} {item} {added} u grew =
    let f = λ (z : List Bool). length z - members z in
    let n = u.united.number in
    let sums = sum_by-set f old.sets n u.united.union [] u.united.below in
    let more : members (set_of old n) < members u.united.union = members_grow (set_of old n) u.united.union (sym u.united.joined.len)
    (IsUnion-left (set_of old n) added u.united.union u.united.joined) (u.grew grew) in
    let new_is : room new ≡ room (record old { sets = set old.sets n u.united.union }) = ap room u.united.is in
    omega (arith, members_le u.united.union, u.united.joined.len)
