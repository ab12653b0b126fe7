use Rattle.std.proofs.Common.{◌≡◌, arith, map, refl}
use Rattle.std.proofs.lemmas.List.{length-map}
use Rattle.wb_lookahead.specs.Codes.{action_at}
use Rattle.wb_termset.proofs.CallerLemmas.{has_below}
use Rattle.wb_lemmas.proofs.Refusals.{handed_on}
use Rattle.wb_termset.specs.Sets.{IsMember}
use Rattle.wb_lookahead.specs.Inner.Rows.{IsClash}
use Rattle.wb_lookahead.proofs.MemberLemmas.{clash_member, puts_all, puts_none, puts_next}
use Rattle.wb_lookahead.proofs.action_row.put_all.Goals as goal

pub members-init : goal.members-init
members-init c = puts_none c.args.set.now (action_at c.args.code) (map action_at c.args.row.now.items)

pub put-requires : goal.put-requires
put-requires c =
    let lt = has_below c.args.set.now c.in-Some.terminal c.in-Some.ensures.some.member in
    omega (
      arith,
      lt,
      c.requires,
      c.members.invariant.len,
      length-map c.members.row.items action_at,
      length-map c.args.row.now.items action_at,
    )

pub returns-in_err-put-clause-refused : goal.returns-in_err-put-clause-refused
returns-in_err-put-clause-refused c =
    handed_on (IsClash c.args.state (map action_at c.members.row.items) (λ t. t ≡ c.in-Some.terminal) (action_at c.args.code))
    (IsClash c.args.state (map action_at c.args.row.now.items) (IsMember c.args.set.now) (action_at c.args.code))
    c.from_residual.result c.in_err-put.field-0.0
    c.from_residual.ensures.1
    (λ refusal clash. clash_member c.args.state (map action_at c.args.row.now.items) (map action_at c.members.row.items) c.args.set.now
    (action_at c.args.code) c.in-Some.terminal refusal
    c.in-Some.ensures.some c.members.invariant clash) c.in_err-put.ensures.refused

pub members-preserved : goal.members-preserved
members-preserved c =
    puts_next (map action_at c.args.row.now.items) (map action_at c.members.row.items) (map action_at c.put.new.row.items) c.args.set.now
    (action_at c.args.code) c.members.from c.in-Some.terminal
    c.in-Some.ensures.some c.members.invariant c.in_ok-put.ensures.ok

pub members-smaller : goal.members-smaller
members-smaller c =
    let next = c.in-Some.ensures.some in
    let le = next.from_on in
    let lt = has_below c.args.set.now c.in-Some.terminal next.member in
    omega arith

pub returns-clause-ok : goal.returns-clause-ok
returns-clause-ok c =
    puts_all (map action_at c.args.row.now.items) (map action_at c.members.row.items) c.args.set.now
    (action_at c.args.code) c.members.from (c.in_default.ensures.none.0 refl) c.members.invariant
