use Rattle.std.proofs.Common.{arith, refl}
use Rattle.wb_lexical.proofs.CandidateLemmas.{member_is, member_within, pairs_all, pairs_first, pairs_more, row_of}
use Rattle.wb_termset.proofs.CallerLemmas.{has_below}
use Rattle.wb_lexical.proofs.candidates.add_pairs.Goals as goal

pub members-init : goal.members-init
members-init c = record { above = omega arith; lists = pairs_first c.args.compared.now c.args.left c.args.pairs.now.items }

pub add_pair-requires-clause-less : goal.add_pair-requires-clause-less
add_pair-requires-clause-less c =
    let le = c.in-Some.ensures.some.from_on in let lt = c.members.invariant.above in omega (arith, le, lt)

pub add_pair-requires-clause-right : goal.add_pair-requires-clause-right
add_pair-requires-clause-right c =
    member_within c.args.compared.now c.args.left c.members.from c.in-Some.right c.index-compared-left.result c.requires.square
    c.requires.left c.in-Some.ensures.some

pub add_pair-requires-clause-together : goal.add_pair-requires-clause-together
add_pair-requires-clause-together c =
    (member_is c.args.compared.now c.args.left c.in-Some.right c.index-compared-left.result c.requires.left).0
    c.in-Some.ensures.some.member

pub members-preserved : goal.members-preserved
members-preserved c =
    let le = c.in-Some.ensures.some.from_on in
    let lt = c.members.invariant.above in
    record {
      above = omega (arith, le, lt);
      lists = pairs_more c.args.compared.now c.args.left c.members.from c.in-Some.right c.index-compared-left.result
          c.args.pairs.now.items c.members.pairs.items c.add_pair.new.pairs.items c.requires.left c.in-Some.ensures.some
          c.members.invariant.lists c.in_ok-add_pair.ensures;
    }

pub members-smaller : goal.members-smaller
members-smaller c =
    (let next = c.in-Some.ensures.some in
    let le = next.from_on in
    let lt = has_below (row_of c.args.compared.now c.args.left c.index-compared-left.result) c.in-Some.right next.member in
    omega (arith, le, lt))

pub returns : goal.returns
returns c =
    pairs_all c.args.compared.now c.args.left c.members.from c.index-compared-left.result c.args.pairs.now.items c.members.pairs.items
    c.requires.left (c.in_default.ensures.none.0 refl) c.members.invariant.lists
