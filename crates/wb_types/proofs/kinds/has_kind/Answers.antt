use Rattle.std.proofs.Common.{◌≡◌, ◌≤◌, ◌↔◌, ◌+◌, ◌∷◌, [], List, Option, Some, length, subst, sym, ◌∙◌, arith, length-append}
use Rattle.std.proofs.lemmas.List.{get_or_default}
use Rattle.wb_base.specs.declared.symbol.Kind.{Kind}
use Rattle.wb_syntax_expressions.specs.Places.{HasNode}
use Rattle.wb_types.specs.Inner.Nodes.{NodeHasKind, AreKept}
use Rattle.wb_types.proofs.NodeLemmas.{kept_more}
use Rattle.wb_syntax_expressions.proofs.PartLemmas.{whole_some, whole_has_parts_before}
use Rattle.wb_types.proofs.PassLemmas.{last_whole, whole_last}
use Rattle.wb_types.proofs.kinds.has_kind.Goals as goal

pub nodes-preserved : goal.nodes-preserved
nodes-preserved c =
    let a = c.args.context.now.attributes.now in
    let operations = c.args.context.now.operations.now in
    let production = c.args.context.now.production.now in
    let nodes = c.args.nodes.now in
    let kinds = c.nodes.kinds.items in
    let place = c.nodes.place in
    let (len, kept) = c.nodes.invariant in
    let node = c.index-nodes-place.result in
    let has : HasNode nodes place node = record {
      within = c.nodes-test.true;
      is = λ default. get_or_default nodes place default node c.nodes-test.true ∙ sym c.index-nodes-place.is;
    } in
    let exact = λ (is : Kind). subst (λ (ks : List (Option Kind)).
    (c.kind_of-found.result ≡ Some is) ↔ NodeHasKind a operations production ks node is)
    c.deref.ensures.value (c.kind_of-found.ensures is) in
    let more = kept_more a operations production nodes kinds place node c.kind_of-found.result
    (whole_has_parts_before nodes c.requires) len kept has exact in
    subst (λ (ks : List (Option Kind)). (length ks ≡ place + 1) × AreKept a operations production nodes ks (place + 1))
    (sym c.in_ok-push.ensures.ok)
    (omega (arith, length-append kinds (c.kind_of-found.result ∷ []), len), more)

pub overflow_sub-nodes : goal.overflow_sub-nodes
overflow_sub-nodes c = whole_some c.args.nodes.now c.requires

pub returns : goal.returns
returns c =
    let a = c.args.context.now.attributes.now in
    let operations = c.args.context.now.operations.now in
    let production = c.args.context.now.production.now in
    let nodes = c.args.nodes.now in
    let kinds = c.deref-2.result.now in
    let ended : length nodes ≤ c.nodes.place = c.nodes-test.false in
    let kept : AreKept a operations production nodes kinds (length nodes) =
    subst (λ (ks : List (Option Kind)). AreKept a operations production nodes ks (length nodes)) (sym c.deref-2.ensures.value)
    (λ at e is within stands. c.nodes.invariant.1 at e is (omega (arith, within, ended)) stands) in (
      λ yes. last_whole a operations production nodes kinds kept c.args.kind c.requires (c.is_at.ensures.0 yes),
      λ whole. c.is_at.ensures.1 (whole_last a operations production nodes kinds kept c.args.kind whole),
    )
