use Rattle.std.proofs.Common.{◌≡◌, ◌<◌, ◌≤◌, ◌∙◌, List, Some, get_or, slice_get, length, sym, subst, arith}
use Rattle.std.proofs.lemmas.Option.{slice_get-get_or}
use Rattle.wb_flow.proofs.IndexLemmas.{index_start, index_more, index_all, nonterminal_within}
use Rattle.wb_syntax_resolved.specs.declared.attributes.Occurrence.{Occurrence}
use Rattle.wb_flow.proofs.occurrences.rows_of.Goals as goal

pub occurrences-init : goal.occurrences-init
occurrences-init c = (
  c.in_ok-index.ensures.0 ∙ c.len.ensures,
  index_start c.args.attributes.now.occurrences c.in_ok-index.index c.in_ok-index.ensures.1,
)

pub add-requires : goal.add-requires
add-requires c =
    let items = c.as_slice-occurrences.result.now in
    let at = slice_get-get_or items c.occurrences.number c.index-occurrences-number.result c.occurrences-test.true in
    let o = get_or items c.occurrences.number c.index-occurrences-number.result in
    subst (λ n. o.nonterminal < n) (sym c.occurrences.invariant.0)
    (nonterminal_within c.args.attributes.now c.requires c.occurrences.number o
    (subst (λ z. slice_get z c.occurrences.number ≡ Some o) c.as_slice-occurrences.ensures at))

pub occurrences-preserved : goal.occurrences-preserved
occurrences-preserved c =
    let items = c.as_slice-occurrences.result.now in
    let at = slice_get-get_or items c.occurrences.number c.index-occurrences-number.result c.occurrences-test.true in
    let o = get_or items c.occurrences.number c.index-occurrences-number.result in (
      c.in_ok-add.ensures.len ∙ c.occurrences.invariant.0,
      index_more c.args.attributes.now.occurrences c.occurrences.index c.add.new.self c.occurrences.number o
          (subst (λ z. slice_get z c.occurrences.number ≡ Some o) c.as_slice-occurrences.ensures at) c.occurrences.invariant.1 c.in_ok-add.ensures.ok,
    )

pub returns : goal.returns
returns c =
    let items = c.as_slice-occurrences.result.now in
    let ended : length items ≤ c.occurrences.number = omega arith in
    index_all c.args.attributes.now.occurrences c.occurrences.index c.occurrences.number
    (subst (λ (z : List Occurrence). length z ≤ c.occurrences.number) c.as_slice-occurrences.ensures ended) c.occurrences.invariant.1
