use Rattle.std.proofs.Common.{rules, ◌≡◌, refl, arith}
use Rattle.wb_certify_shown.specs.Names.{grammar_terminals, terminals_in}
use Rattle.wb_compose_texts.specs.Inner.Tables.{names_from}
use Rattle.wb_compose_texts.proofs.TableLemmas.{all_read, name_next, names_len, none_read}
use Rattle.wb_compose_texts.proofs.names.add_names.Goals as goal

pub terminals-init : goal.terminals-init
terminals-init c = none_read (λ z. z) (names_from c.args.from c.args.resolved.now) c.args.from c.args.names.now.items refl

pub terminals-preserved : goal.terminals-preserved
terminals-preserved c =
    let count : c.terminals_in-count.result ≡ terminals_in c.args.resolved.now.grammar = search rules in
    name_next c.args.resolved.now c.parts.ensures.whole c.args.names.now.items c.terminals.names.items c.push.new.list.items c.args.from
    c.terminals.terminal c.in_ok-name.name c.terminals.auto.terminal (omega (arith, c.terminals-test.true, count)) c.terminals.invariant
    c.in_ok-name.ensures c.in_ok-push.ensures.ok

pub returns : goal.returns
returns c =
    let r = c.args.resolved.now in
    let count : c.terminals_in-count.result ≡ terminals_in r.grammar = search rules in
    all_read (λ z. z) (grammar_terminals r) c.args.from c.terminals.terminal (terminals_in r.grammar) c.args.names.now.items
    c.terminals.names.items (names_len r c.parts.ensures.whole) (omega (arith, c.terminals-test.false, count)) c.terminals.invariant
