use Rattle.std.proofs.Common.{◌≡◌, [], length, get_or, subst, sym, arith}
use Rattle.std.proofs.lemmas.Option.{slice_get-get_or}
use Rattle.wb_regex.specs.declared.node.RegexNode.TheVariants as n
use Rattle.wb_automata.specs.Inner.PlainTexts.{IsTextOf}
use Rattle.wb_regex.specs.Matches.{Matches}
use Rattle.wb_automata.proofs.LeastLemmas.{filled_match}
use Rattle.wb_automata.proofs.PlainTextLemmas as p
use Rattle.wb_automata.proofs.plain_text.only_text.Goals as goal

pub nodes-init : goal.nodes-init
nodes-init c =
    let nodes = c.nodes-node-items.result.now in
    subst (IsTextOf nodes 0) (sym c.new-text.ensures.items) (p.no_text nodes)

pub nodes-preserved : goal.nodes-preserved
nodes-preserved c =
    let nodes = c.nodes-node-items.result.now in
    let i = c.nodes.node-index in
    p.text_more nodes i c.nodes.text.items c.put_node.new.text.items (get_or nodes i (n.Set []))
    (slice_get-get_or nodes i (n.Set []) c.nodes-test.true) c.nodes.invariant (c.in_ok-put_node.ensures c.if-not-branch.false)

pub returns : goal.returns
returns c =
    let nodes = c.nodes-node-items.result.now in
    let tree = c.args.regex.now in
    let all : c.nodes.node-index ≡ length nodes = omega arith in
    let is = subst (λ k. IsTextOf nodes k c.nodes.text.items) all c.nodes.invariant in
    let only = p.only nodes tree c.nodes.text.items c.nodes-node-items.ensures.covers is in
    let (x, m) = filled_match tree c.nodes-node-items.ensures.filled in
    rw (c.from_vec.ensures) (record { matches = subst (Matches tree) (only x m) m; only = only })
