use Rattle.std.proofs.Common.{rules, ◌≡◌, ◌∙◌, ◌++◌, ap, sym, arith}
use Rattle.std.proofs.lemmas.List.{append-nil, take_all}
use Rattle.wb_certify_shown.specs.Names.{productions_in}
use Rattle.wb_compose_texts.specs.Signatures.{grammar_signatures}
use Rattle.wb_compose_texts.proofs.TableLemmas.{host_next, signatures_len}
use Rattle.wb_compose_texts.proofs.signatures.add_host.Goals as goal

pub productions-init : goal.productions-init
productions-init c = sym (append-nil c.args.made.now)

pub productions-preserved : goal.productions-preserved
productions-preserved c =
    let count : c.productions_in-count.result ≡ productions_in c.args.host.now.grammar = search rules in
    host_next c.args.host.now c.parts.ensures.whole c.signatures_in-signatures.result.now c.args.made.now c.productions.made c.add.new.self
    c.productions.production (record { name = c.name.result.now; left = c.left.result; children = c.children.result.now })
    c.signatures_in-signatures.ensures.signatures (omega (arith, c.productions-test.true, count))
    c.productions.invariant c.name.ensures c.left.ensures
    c.children.ensures c.in_ok-add.ensures.ok

pub returns : goal.returns
returns c =
    let r = c.args.host.now in
    let count : c.productions_in-count.result ≡ productions_in r.grammar = search rules in
    let len = signatures_len r c.parts.ensures.whole in
    c.productions.invariant ∙ ap (λ z. c.args.made.now ++ z) (take_all c.productions.production (grammar_signatures r)
    (omega (arith, c.productions-test.false, count, len)))
