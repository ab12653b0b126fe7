use Rattle.std.proofs.Common.{rules, ◌≡◌, map, refl, arith}
use Rattle.wb_certify_shown.specs.Names.{productions_in}
use Rattle.wb_compose_theory.specs.Blocks.{lift}
use Rattle.wb_compose_texts.specs.Inner.Tables.{signatures_from}
use Rattle.wb_compose_texts.specs.Signatures.{grammar_signatures, signature_by}
use Rattle.wb_compose_texts.proofs.TableLemmas.{all_read, none_read, own_next, signatures_len}
use Rattle.wb_compose_texts.proofs.signatures.add_own.Goals as goal

pub productions-init : goal.productions-init
productions-init c =
    none_read (map (signature_by (lift c.args.own.nonterminals c.args.before)))
    (signatures_from c.args.own.productions c.args.extension.now) c.args.own.productions c.args.made.now refl

pub productions-preserved : goal.productions-preserved
productions-preserved c =
    let count : c.productions_in-count.result ≡ productions_in c.args.extension.now.grammar = search rules in
    own_next c.args.extension.now c.parts.ensures.whole (lift c.args.own.nonterminals c.args.before) c.signatures_in-signatures.result.now
    c.args.made.now c.productions.made c.add_lifted.new.made c.args.own.productions c.productions.production
    c.signatures_in-signatures.ensures.signatures c.productions.auto.production (omega (arith, c.productions-test.true, count))
    c.productions.invariant c.in_ok-add_lifted.ensures

pub returns : goal.returns
returns c =
    let r = c.args.extension.now in
    let count : c.productions_in-count.result ≡ productions_in r.grammar = search rules in
    all_read (map (signature_by (lift c.args.own.nonterminals c.args.before))) (grammar_signatures r) c.args.own.productions
    c.productions.production (productions_in r.grammar) c.args.made.now c.productions.made (signatures_len r c.parts.ensures.whole)
    (omega (arith, c.productions-test.false, count)) c.productions.invariant
