-- The flags of a grammar's terminals from a number on.
use Rattle.std.proofs.Common.{rules, ◌≡◌, refl, drop, slice_get, arith}
use Rattle.wb_certify_shown.specs.Names.{terminals_in}
use Rattle.wb_compose_texts.proofs.TableLemmas.{all_read, none_read}
use Rattle.wb_compose.specs.DeterminismImages.{is_marker_row}
use Rattle.wb_compose_texts.specs.UnionMarkers.{grammar_markers}
use Rattle.wb_compose_texts.proofs.FlagLemmas.{flag_next, flags_len}
use Rattle.wb_compose_texts.proofs.markers.add_flags.Goals as goal

pub terminals-init : goal.terminals-init
terminals-init c = none_read (λ z. z) (drop c.args.from (grammar_markers c.args.resolved.now)) c.args.from c.args.flags.now.items refl

pub terminals-preserved : goal.terminals-preserved
terminals-preserved c =
    let r = c.args.resolved.now in
    let count : c.terminals_in-count.result ≡ terminals_in r.grammar = search rules in
    let flag : c.is_marker-flag.result ≡ is_marker_row (slice_get r.terminals c.terminals.terminal) = search rules in
    flag_next r c.parts-parts.ensures.whole c.args.flags.now.items c.terminals.flags.items c.push.new.list.items c.args.from
    c.terminals.terminal c.is_marker-flag.result c.terminals.auto.terminal (omega (arith, c.terminals-test.true, count))
    c.terminals.invariant flag c.in_ok-push.ensures.ok

pub returns : goal.returns
returns c =
    let r = c.args.resolved.now in
    let count : c.terminals_in-count.result ≡ terminals_in r.grammar = search rules in
    all_read (λ z. z) (grammar_markers r) c.args.from c.terminals.terminal (terminals_in r.grammar) c.args.flags.now.items
    c.terminals.flags.items (flags_len r c.parts-parts.ensures.whole) (omega (arith, c.terminals-test.false, count)) c.terminals.invariant
