use Rattle.std.proofs.Common.{arith, refl, ◌+◌, ◌≡◌}
use Rattle.wb_termset.specs.Sets.{IsMember}
use Rattle.wb_termset.proofs.CallerLemmas.{has_below}
use Rattle.wb_lexical.proofs.RowLemmas.{MembersBelow, member_all, member_more, take_none, take_same, take_then, taken_square}
use Rattle.wb_lexical.proofs.rows.add_set.Goals as goal

pub members-init : goal.members-init
members-init c = take_none (MembersBelow c.args.set.now 0) c.args.rows.now.items (λ t u lt lu (below, has, other). omega (arith, below))

pub unite-requires : goal.unite-requires
unite-requires c =
    taken_square (MembersBelow c.args.set.now c.members.from) c.args.rows.now.items c.members.rows.items c.requires c.members.invariant

pub members-preserved : goal.members-preserved
members-preserved c =
    let set = c.args.set.now in
    let q = c.in-Some.member in
    take_then (MembersBelow set c.members.from) (λ t u. (t ≡ q) × IsMember set u) (MembersBelow set (q + 1)) c.args.rows.now.items
    c.members.rows.items c.unite.new.rows.items c.members.invariant c.unite.ensures
    (λ t u. member_more set c.members.from q t u c.in-Some.ensures.some)

pub members-smaller : goal.members-smaller
members-smaller c =
    (let next = c.in-Some.ensures.some in
    let le = next.from_on in
    let lt = has_below c.args.set.now c.in-Some.member next.member in omega (arith, le, lt))

pub returns : goal.returns
returns c =
    let set = c.args.set.now in
    take_same (MembersBelow set c.members.from) (λ t u. IsMember set t × IsMember set u) c.args.rows.now.items c.members.rows.items
    c.members.invariant (λ t u. member_all set c.members.from t u (c.in_default.ensures.none.0 refl))
