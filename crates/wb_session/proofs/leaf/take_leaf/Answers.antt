use Rattle.std.proofs.Common.{◌<◌, ◌≤◌, ◌+◌, ◌∙◌, ℕ, [], ap, arith, refl, slice_range, subst, sym}
use Rattle.wb_grammar_theory.specs.Trees.{leaves, symbols}
use Rattle.wb_lookahead.specs.Contents.{size_of}
use Rattle.wb_scan_theory.specs.declared.stop_kind.StopKind.TheVariants.{NoToken}
use Rattle.wb_scan_theory.specs.Tokens.{token, over, missing}
use Rattle.wb_scan_theory.specs.Examined.{Scans}
use Rattle.wb_scan.specs.Scans.{next_in}
use Rattle.wb_parser_states.proofs.TableLemmas.{zero_below}
use Rattle.wb_session_theory.proofs.ReadLemmas.{reads_more}
use Rattle.wb_session_theory.proofs.ScanLemmas.{scan_more}
use Rattle.wb_session.specs.Inner.Entries.{state_in}
use Rattle.wb_session.specs.Stacks.{roots_of}
use Rattle.wb_session.proofs.LeafLemmas.{nothing_leaf, scanned_at}
use Rattle.wb_session.proofs.PlaceLemmas.{places_stop, scanned_more}
use Rattle.wb_session.proofs.StackLemmas.{state_below}
use Rattle.wb_session.proofs.leaf.take_leaf.Goals as goal

pub scan_examined-ahead-requires-clause-state : goal.scan_examined-ahead-requires-clause-state
scan_examined-ahead-requires-clause-state c =
    let top = c.state_at.ensures ∙ ap (λ z. state_in z c.args.from.link) c.deref.ensures.value in
    subst (λ s. s < size_of c.args.language.now.tables) (sym top)
    (state_below c.args.language.now (roots_of c.args.stacks.now) c.args.from.link c.requires.sound
    (zero_below c.tables-tables.ensures.of_grammar) c.requires.link)

pub returns-in-NoToken-clause-round : goal.returns-in-NoToken-clause-round
returns-in-NoToken-clause-round c places k =
    let parts = c.args.language.now in
    let source = c.args.text.now in
    let e = c.scan_examined-ahead.result.examined in
    let top = c.state_at.ensures ∙ ap (λ z. state_in z c.args.from.link) c.deref.ensures.value in
    let scan = scanned_at parts source (roots_of c.args.stacks.now) c.args.from.link c.args.from.at e c.state_at.result
    (missing c.in-NoToken.at) c.tables-tables.ensures.of_grammar top
    (λ prefix is. subst (λ s. Scans parts.language source prefix e c.args.from.at (next_in source s)) c.in-NoToken.is
    (c.scan_examined-ahead.ensures.next prefix is)) k.stack k.is in
    let stop = nothing_leaf parts c.tables-tables.ensures.language source (roots_of c.args.stacks.now) places e c.in-NoToken.at
    c.args.from k scan in (
      stop,
      places_stop parts.language c.tables-tables.ensures.language source c.args.from.reach e c.args.from.at k.stack places k.laid
          c.in-NoToken.at NoToken (missing c.in-NoToken.at) scan stop refl,
    )

pub returns-in_ok-parsed-in-End-clause-round : goal.returns-in_ok-parsed-in-End-clause-round
returns-in_ok-parsed-in-End-clause-round c places k =
    let parts = c.args.language.now in
    let source = c.args.text.now in
    let e = c.scan_examined-ahead.result.examined in
    let top = c.state_at.ensures ∙ ap (λ z. state_in z c.args.from.link) c.deref.ensures.value in
    let d : ℕ = c.args.from.reach + e in
    let one : c.args.from.reach ≤ d = omega arith in
    let other : e ≤ d = omega arith in
    let scan = scan_more other
    (scanned_at parts source (roots_of c.args.stacks.now) c.args.from.link c.args.from.at e c.state_at.result (over c.in-End.at)
    c.tables-tables.ensures.of_grammar top
    (λ prefix is. subst (λ s. Scans parts.language source prefix e c.args.from.at (next_in source s)) c.in-End.is
    (c.scan_examined-ahead.ensures.next prefix is)) k.stack k.is) in
    let reads = reads_more one k.reads in (
      c.in_ok-parsed-in-End.ensures.parsed source d c.args.from.at k.stack k.is reads scan,
      c.in_ok-parsed-in-End.ensures.placed source d c.args.from.at k.stack places k.is reads
          (scanned_more parts.language source c.args.from.reach d (leaves [] k.stack) places [] (symbols k.stack) 0
          c.args.from.at one k.laid) scan,
    )

pub returns-in_ok-round-in-Token-clause-round : goal.returns-in_ok-round-in-Token-clause-round
returns-in_ok-round-in-Token-clause-round c places k =
    let parts = c.args.language.now in
    let source = c.args.text.now in
    let e = c.scan_examined-ahead.result.examined in
    let lexeme = slice_range source c.in-Token.lexeme c.in-Token.end in
    let top = c.state_at.ensures ∙ ap (λ z. state_in z c.args.from.link) c.deref.ensures.value in
    c.in_ok-round-in-Token.ensures.round places k
    (scanned_at parts source (roots_of c.args.stacks.now) c.args.from.link c.args.from.at e c.state_at.result
    (token c.in-Token.at c.in-Token.terminal lexeme c.in-Token.end) c.tables-tables.ensures.of_grammar top
    (λ prefix is. subst (λ s. Scans parts.language source prefix e c.args.from.at (next_in source s)) c.in-Token.is
    (c.scan_examined-ahead.ensures.next prefix is)) k.stack k.is)
