use Rattle.std.proofs.Common.{◌≡◌, ◌<◌, length, Some, sym, ◌∙◌, ap, arith}
use Rattle.std.specs.Prelude.{slice_get}
use Rattle.std.proofs.lemmas.Option.{slice_get-get_or}
use Rattle.wb_recheck_entries.proofs.UnlistedLemmas.{known_opened, numbers_all, numbers_out}
use Rattle.wb_recheck_entries.proofs.opened.lacks_productions.Goals as goal

pub returns-then-has-clause-lacks : goal.returns-then-has-clause-lacks
returns-then-has-clause-lacks c =
    c.requires.known.opened c.args.kernel c.args.nonterminal c.args.terminal 0 (c.has.ensures.0 c.if-has.true)

pub returns-then-lacks_one-clause-lacks : goal.returns-then-lacks_one-clause-lacks
returns-then-lacks_one-clause-lacks c =
    let b = c.args.nonterminal in
    let rows = c.args.listing.now.productions.now in
    let lt : b < length rows = (let e = c.requires.listing.productions.len in let f = c.requires.below in omega (arith, e, f)) in
    let at : slice_get rows b ≡ Some c.as_slice-numbers.result.now =
    slice_get-get_or rows b c.index-listing-nonterminal.result lt ∙ ap Some (sym c.as_slice-numbers.ensures) in
    numbers_out c.args.listing.now.keys.now c.args.kernel b c.as_slice-numbers.result.now c.args.terminal
    (c.requires.listing.productions.each b c.as_slice-numbers.result.now at) c.if-lacks_one.ensures

pub returns-clause-known : goal.returns-clause-known
returns-clause-known c =
    let b = c.args.nonterminal in
    let g = c.args.listing.now.reference.now.grammar.now in
    let rows = c.args.listing.now.productions.now in
    let lt : b < length rows = (let e = c.requires.listing.productions.len in let f = c.requires.below in omega (arith, e, f)) in
    let at : slice_get rows b ≡ Some c.as_slice-numbers.result.now =
    slice_get-get_or rows b c.index-listing-nonterminal.result lt ∙ ap Some (sym c.as_slice-numbers.ensures) in
    let all = numbers_all {g = g} c.args.listing.now.keys.now c.args.kernel b c.as_slice-numbers.result.now c.args.terminal
    (c.requires.listing.productions.each b c.as_slice-numbers.result.now at) c.if-lacks_one.ensures in
    record {
      opened = known_opened g c.args.listing.now.keys.now c.args.known.now c.requires.known c.args.kernel b c.args.terminal
          c.insert.new.self
          c.in_ok-insert.field-0 all c.in_ok-insert.ensures;
      rests = c.requires.known.rests;
    }

pub returns-clause-lacks : goal.returns-clause-lacks
returns-clause-lacks c =
    let b = c.args.nonterminal in
    let rows = c.args.listing.now.productions.now in
    let lt : b < length rows = (let e = c.requires.listing.productions.len in let f = c.requires.below in omega (arith, e, f)) in
    let at : slice_get rows b ≡ Some c.as_slice-numbers.result.now =
    slice_get-get_or rows b c.index-listing-nonterminal.result lt ∙ ap Some (sym c.as_slice-numbers.ensures) in
    numbers_all c.args.listing.now.keys.now c.args.kernel b c.as_slice-numbers.result.now c.args.terminal
    (c.requires.listing.productions.each b c.as_slice-numbers.result.now at) c.if-lacks_one.ensures
