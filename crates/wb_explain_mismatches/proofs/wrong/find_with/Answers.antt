use Rattle.std.proofs.Common.{◌≡◌, ◌+◌, ◌∷◌, [], List, ℕ, length, subst, sym, ◌∙◌, ap, arith, length-append}
use Rattle.std.proofs.lemmas.List.{get_or_default}
use Rattle.wb_base.specs.declared.symbol.Kind.{Kind}
use Rattle.wb_syntax_expressions.specs.Places.{HasNode}
use Rattle.wb_explain_mismatches.specs.Inner.Known.{AreKnown, IsFinding, IsLastFound, NodeKind}
use Rattle.wb_explain_mismatches.proofs.KnownLemmas.{known_more, some_map, wrong_whole}
use Rattle.wb_explain_mismatches.proofs.wrong.find_with.Goals as goal

pub returns-in-None : goal.returns-in-None
returns-in-None c =
    c.part_at.ensures c.args.wanted
    (subst (λ (ks : List Kind). AreKnown c.args.context.now.attributes.now c.args.context.now.operations.now
    c.args.context.now.production.now c.args.nodes.now ks) (sym c.deref-in-None.ensures.value) c.nodes.invariant.1)

pub nodes-preserved : goal.nodes-preserved
nodes-preserved c =
    let a = c.args.context.now.attributes.now in
    let operations = c.args.context.now.operations.now in
    let production = c.args.context.now.production.now in
    let nodes = c.args.nodes.now in
    let kinds = c.nodes.kinds.items in
    let (len, known) = c.nodes.invariant in
    let node = c.index-nodes-at.result in
    let is = c.in-Some.kind in
    let has : HasNode nodes c.nodes.at node = record {
      within = c.nodes-test.true;
      is = λ default. get_or_default nodes c.nodes.at default node c.nodes-test.true ∙ sym c.index-nodes-at.is;
    } in
    let have : NodeKind a operations production kinds node is =
    subst (λ (ks : List Kind). NodeKind a operations production ks node is) c.deref.ensures.value c.in-Some.ensures in
    let more = known_more a operations production nodes kinds known node is
    (subst (λ (z : ℕ). HasNode nodes z node) (sym len) has) have in
    subst (λ (ks : List Kind). (length ks ≡ c.nodes.at + 1) × AreKnown a operations production nodes ks)
    (sym c.in_ok-push-in-Some.ensures.ok) (omega (arith, length-append kinds (is ∷ []), len), more)

pub returns : goal.returns
returns c =
    let a = c.args.context.now.attributes.now in
    let operations = c.args.context.now.operations.now in
    let production = c.args.context.now.production.now in
    let nodes = c.args.nodes.now in
    let kinds = c.deref-2.result.now in
    let known : AreKnown a operations production nodes kinds =
    subst (λ (ks : List Kind). AreKnown a operations production nodes ks) (sym c.deref-2.ensures.value) c.nodes.invariant.1 in
    let at_end : c.nodes.at ≡ length nodes = omega (arith, c.nodes.auto.at-end, c.nodes-test.false) in
    let count : length kinds ≡ length nodes = ap length c.deref-2.ensures.value ∙ c.nodes.invariant.0 ∙ at_end in
    some_map c.whole_of.result (IsLastFound kinds c.args.wanted) (IsFinding a operations production nodes c.args.wanted)
    (λ found last. wrong_whole a operations production nodes kinds known c.args.wanted found count last) c.whole_of.ensures
