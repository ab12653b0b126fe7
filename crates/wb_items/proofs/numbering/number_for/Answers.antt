use Rattle.std.proofs.Common.{◌≡◌, ◌+◌, ◌-◌, ◌∷◌, [], length, Some, refl, sym, ◌∙◌, ap, arith, length-append}
use Rattle.std.specs.Prelude.{slice_get, slice_set}
use Rattle.std.proofs.lemmas.Option.{slice_get-get_or}
use Rattle.wb_items.specs.Inner.Numbering.{again, empty_set, opened}
use Rattle.wb_items.proofs.numbering.number_for.Goals as goal

pub returns-then-count-first : goal.returns-then-count-first
returns-then-count-first c =
    let b = c.in-Some.nonterminal in
    let table = c.args.made.now.opened.items in
    let count = c.index-count.result.now in
    let more = c.if-count-first.true in
    let at : slice_get table b ≡ Some count = slice_get-get_or table b count
    (let e = c.requires.len in let f = c.in-Some.ensures.0 in omega (arith, e, f)) ∙ ap Some (sym c.index-count.ensures) in
    let is : count ≡ (count - 1) + 1 = omega (arith, more) in
    again b c.in-Some.ensures.1 (at ∙ ap Some is) (omega (arith, more)) refl refl

pub returns : goal.returns
returns c =
    let b = c.in-Some.nonterminal in
    let table = c.args.made.now.opened.items in
    let count = c.index-count.result.now in
    let at : slice_get table b ≡ Some count = slice_get-get_or table b count
    (let e = c.requires.len in let f = c.in-Some.ensures.0 in omega (arith, e, f)) ∙ ap Some (sym c.index-count.ensures) in
    let adds = c.in_ok-number.ensures in
    let len = length-append c.args.made.now.sets.items (empty_set c.args.grammar.now ∷ []) in
    let is : c.len.result ≡ c.in_ok-number.number + 1 =
    (let e = c.len.ensures in let f = c.add_set-2.new.sets.ok.0 in omega (arith, e, f, ap length adds.1, len, adds.0)) in
    opened b count c.in-Some.ensures.1 at (let le = c.if-count-first.false in omega (arith, le)) adds (ap (slice_set table b) is)
