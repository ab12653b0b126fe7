use Rattle.std.proofs.Common.{◌≡◌, ◌<◌, ◌+◌, ◌-◌, ◌^◌, ◌∙◌, Some, arith, length, refl, rules, subst, sym}
use Rattle.std.specs.Prelude.{slice_get}
use Rattle.std.proofs.lemmas.Bool.{true≢false}
use Rattle.std.proofs.lemmas.Option.{slice_get_within}
use Rattle.wb_lemmas.proofs.Places.{at_within}
use Rattle.wb_compose_language.proofs.KnownLemmas.{place_at}
use Rattle.wb_compose_language.proofs.SharingLemmas.{none_before}
use Rattle.wb_compose_language.proofs.withdrawn.shares_with_rows.Goals as goal

pub overflow_add-rows : goal.overflow_add-rows
overflow_add-rows c =
    let t = c.rows.row in
    let rows = c.args.rows in
    let patterns = c.args.asked.now.known.now.owns.now.patterns in
    let (row, at) = at_within c.args.extension.now.terminals.now t (omega (arith, c.requires.rows, c.rows-test.true)) in
    let there = place_at rows.first rows.end t rows.base c.args.extension.now patterns.items row c.requires.places
    (omega (arith, c.rows.auto.row)) (omega (arith, c.rows-test.true)) at in
    let small = patterns.small in
    let long = patterns.ok.0 in
    let fits : rows.base + (t - rows.first) < 2 ^ 64 = omega
    (arith, slice_get_within patterns.items (rows.base + (t - rows.first)) row.pattern there) in
    search rules

pub shares-requires-clause-one : goal.shares-requires-clause-one
shares-requires-clause-one c = slice_get_within c.args.asked.now.known.now.owns.now.patterns.items c.args.asked.now.place
    c.args.asked.now.pattern.now c.requires.asked.at

pub shares-requires-clause-other : goal.shares-requires-clause-other
shares-requires-clause-other c =
    let t = c.rows.row in
    let rows = c.args.rows in
    let patterns = c.args.asked.now.known.now.owns.now.patterns in
    let (row, at) = at_within c.args.extension.now.terminals.now t (omega (arith, c.requires.rows, c.rows-test.true)) in
    let there = place_at rows.first rows.end t rows.base c.args.extension.now patterns.items row c.requires.places
    (omega (arith, c.rows.auto.row)) (omega (arith, c.rows-test.true)) at in
    slice_get_within patterns.items (rows.base + (t - rows.first)) row.pattern there

pub returns-then-branch : goal.returns-then-branch
returns-then-branch c =
    let t = c.rows.row in
    let rows = c.args.rows in
    let patterns = c.args.asked.now.known.now.owns.now.patterns in
    let (row, at) = at_within c.args.extension.now.terminals.now t (omega (arith, c.requires.rows, c.rows-test.true)) in
    let there = place_at rows.first rows.end t rows.base c.args.extension.now patterns.items row c.requires.places
    (omega (arith, c.rows.auto.row)) (omega (arith, c.rows-test.true)) at in (
      λ e. record {
        terminal = t;
        far = omega (arith, c.rows.auto.row);
        less = omega (arith, c.rows-test.true);
        row = row;
        at = at;
        share = (c.in_ok-shares.ensures c.args.asked.now.pattern.now row.pattern c.requires.asked.at there).0 c.if-branch.true;
      },
      λ s. refl,
    )

pub rows-preserved : goal.rows-preserved
rows-preserved c =
    let t = c.rows.row in
    let rows = c.args.rows in
    let patterns = c.args.asked.now.known.now.owns.now.patterns in
    let (row, at) = at_within c.args.extension.now.terminals.now t (omega (arith, c.requires.rows, c.rows-test.true)) in
    let there = place_at rows.first rows.end t rows.base c.args.extension.now patterns.items row c.requires.places
    (omega (arith, c.rows.auto.row)) (omega (arith, c.rows-test.true)) at in
    none_before rows.first t c.args.extension.now c.args.asked.now.pattern.now row at
    (λ share. true≢false (sym ((c.in_ok-shares.ensures c.args.asked.now.pattern.now row.pattern c.requires.asked.at there).1 share)
    ∙ c.if-branch.false)) c.rows.invariant
