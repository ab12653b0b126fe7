use Rattle.std.proofs.Common.{◌≡◌, ◌≤◌, length, get_or, subst, arith}
use Rattle.std.proofs.lemmas.Option.{slice_get-get_or}
use Rattle.wb_flow.specs.declared.vertex.Vertex.{Vertex}
use Rattle.wb_flow.specs.Adding.{Adds}
use Rattle.wb_flow.specs.Inner.Positions.{vertex_at, IsAttributeOf}
use Rattle.wb_flow.proofs.AddingLemmas.{adds_start, adds_as}
use Rattle.wb_flow.proofs.RowLemmas.{OfNumber, OnNonterminal, row_within, row_more, row_all, on_attribute}
use Rattle.wb_syntax_resolved.specs.declared.attributes.Occurrence.{Occurrence}
use Rattle.wb_flow.proofs.vertices.add_attributes.Goals as goal

pub occurrences-init : goal.occurrences-init
occurrences-init c =
    adds_start c.args.vertices.now c.on-number-items.result.now
    (OfNumber c.args.scope.now.attributes.now.occurrences (λ o v. v ≡ vertex_at c.args.tree.position o.attribute))

pub occurrence-requires : goal.occurrence-requires
occurrence-requires c =
    row_within c.args.scope.now.attributes.now.occurrences c.args.scope.now.index.now c.requires c.args.tree.nonterminal
    c.on-number-items.result.now c.on-number-items.ensures c.occurrences.number-index 0 c.occurrences-test.true

pub occurrences-preserved : goal.occurrences-preserved
occurrences-preserved c =
    let row = c.on-number-items.result.now in
    row_more c.args.scope.now.attributes.now.occurrences c.args.scope.now.index.now c.requires c.args.tree.nonterminal
    (λ (o : Occurrence) (v : Vertex). v ≡ vertex_at c.args.tree.position o.attribute) c.args.vertices.now c.occurrences.vertices c.add.new.self
    row c.occurrences.number-index (get_or row c.occurrences.number-index 0) c.occurrence.result.now
    (slice_get-get_or row c.occurrences.number-index 0 c.occurrences-test.true) c.occurrence.ensures c.occurrences.invariant
    (subst (λ (z : Vertex). Adds c.occurrences.vertices c.add.new.self (λ v. v ≡ z)) c.vertex.ensures c.in_ok-add.ensures)

pub returns : goal.returns
returns c =
    let row = c.on-number-items.result.now in
    let ended : length row ≤ c.occurrences.number-index = omega arith in
    adds_as c.args.vertices.now c.occurrences.vertices
    (OnNonterminal c.args.scope.now.attributes.now.occurrences c.args.tree.nonterminal (λ o v. v ≡ vertex_at c.args.tree.position o.attribute))
    (IsAttributeOf c.args.scope.now.attributes.now c.args.tree)
    (on_attribute c.args.scope.now.attributes.now c.args.tree.nonterminal (λ x v. v ≡ vertex_at c.args.tree.position x))
    (row_all c.args.scope.now.attributes.now.occurrences c.args.scope.now.index.now c.requires c.args.tree.nonterminal
    (λ (o : Occurrence) (v : Vertex). v ≡ vertex_at c.args.tree.position o.attribute) c.args.vertices.now c.occurrences.vertices row
    c.on-number-items.ensures c.occurrences.number-index ended c.occurrences.invariant)
