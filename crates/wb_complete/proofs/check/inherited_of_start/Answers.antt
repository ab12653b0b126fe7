use Rattle.std.proofs.Common.{◌≡◌, ◌≤◌, Some, length, get_or, slice_get, refl, arith}
use Rattle.std.proofs.lemmas.Option.{slice_get-get_or}
use Rattle.wb_lemmas.proofs.Members.{contains_at}
use Rattle.wb_flow_theory.specs.Modular.{InheritsNothing}
use Rattle.wb_flow_theory.specs.Occurrences.{Goes}
use Rattle.wb_flow.proofs.EachLemmas.{each_more, each_all}
use Rattle.wb_flow.proofs.IndexLemmas.{row_number, on_of_number}
use Rattle.wb_flow.proofs.RowLemmas.{row_within}
use Rattle.wb_syntax_resolved.specs.declared.attributes.Direction.TheVariants.{Inherited}
use Rattle.wb_syntax_resolved.specs.declared.attributes.Occurrence.{Occurrence}
use Rattle.wb_complete.proofs.AnswerLemmas.{if_none, if_some}
use Rattle.wb_complete.proofs.TestLemmas.{inherits_nothing, of_number, start_has}
use Rattle.wb_complete.proofs.check.inherited_of_start.Goals as goal

pub occurrence-requires : goal.occurrence-requires
occurrence-requires c =
    row_within c.args.scope.now.attributes.now.occurrences c.args.scope.now.index.now c.requires.index c.in-Some.nonterminal
    c.on-number-items.result.now c.on-number-items.ensures c.occurrences.number-index 0 c.occurrences-test.true

pub returns-then-is_inherited-clause-some : goal.returns-then-is_inherited-clause-some
returns-then-is_inherited-clause-some c =
    let a = c.args.scope.now.attributes.now in
    let row = c.on-number-items.result.now in
    let m = c.in-Some.nonterminal in
    let n = get_or row c.occurrences.number-index 0 in
    let o = c.occurrence.result.now in
    let there = slice_get-get_or row c.occurrences.number-index 0 c.occurrences-test.true in
    let on = row_number a.occurrences c.args.scope.now.index.now c.requires.index m row c.on-number-items.ensures
    c.occurrences.number-index n there in
    start_has a c.args.start m c.in-Some.is o (contains_at a.occurrences o n c.occurrence.ensures)
    (on_of_number a.occurrences m n o on c.occurrence.ensures) (c.if-is_inherited.ensures.0 refl)

pub occurrences-preserved : goal.occurrences-preserved
occurrences-preserved c =
    let a = c.args.scope.now.attributes.now in
    let row = c.on-number-items.result.now in
    each_more row (λ n. (o : Occurrence) → slice_get a.occurrences n ≡ Some o → ¬ Goes a Inherited o.attribute) c.occurrences.number-index
    (get_or row c.occurrences.number-index 0) (slice_get-get_or row c.occurrences.number-index 0 c.occurrences-test.true)
    c.occurrences.invariant
    (of_number a.occurrences (λ (o : Occurrence). ¬ Goes a Inherited o.attribute) (get_or row c.occurrences.number-index 0)
    c.occurrence.result.now c.occurrence.ensures (λ down. let bad = c.if-is_inherited.ensures.1 down in cc))

pub returns-in_default-clause-none : goal.returns-in_default-clause-none
returns-in_default-clause-none c = if_none (InheritsNothing c.args.scope.now.attributes.now) c.args.start c.in_default.is

pub returns-clause-none : goal.returns-clause-none
returns-clause-none c =
    let a = c.args.scope.now.attributes.now in
    let row = c.on-number-items.result.now in
    let m = c.in-Some.nonterminal in
    let ended : length row ≤ c.occurrences.number-index = omega arith in
    if_some (InheritsNothing a) c.args.start m c.in-Some.is
    (inherits_nothing a c.args.scope.now.index.now c.requires.index m row c.on-number-items.ensures
    (each_all row (λ n. (o : Occurrence) → slice_get a.occurrences n ≡ Some o → ¬ Goes a Inherited o.attribute) c.occurrences.number-index
    ended c.occurrences.invariant))
