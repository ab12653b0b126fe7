use Rattle.std.proofs.Common.{◌≡◌, ◌+◌, ◌∙◌, ap, arith, length, refl, slice_range, subst, take}
use Rattle.std.proofs.lemmas.List.{take_all}
use Rattle.wb_lookahead.specs.Contents.{size_of}
use Rattle.wb_values.specs.declared.value.Value.TheVariants.{Text}
use Rattle.wb_scan_theory.specs.declared.stop_kind.StopKind.TheVariants.{Unexpected}
use Rattle.wb_scan_theory.specs.Tokens.{token}
use Rattle.wb_scan_theory.proofs.SeenLemmas.{range_size}
use Rattle.wb_parser_states.specs.Steps.{ShiftsBelow}
use Rattle.wb_session.specs.Stacks.{roots_of}
use Rattle.wb_session.specs.Inner.Steps.{IsSettled}
use Rattle.wb_session.proofs.LeafLemmas.{token_shift, token_stops}
use Rattle.wb_session.proofs.PlaceLemmas.{places_stop}
use Rattle.wb_session.proofs.StackLemmas.{grows_push, grows_then}
use Rattle.wb_session.proofs.leaf.take_token.Goals as goal

pub returns-in_ok-link-in-Shifts-clause-round : goal.returns-in_ok-link-in-Shifts-clause-round
returns-in_ok-link-in-Shifts-clause-round c places k scan =
    let parts = c.args.language.now in
    let source = c.args.text.now in
    let place = c.args.token.place in
    let lexeme = slice_range source place.lexeme place.end in
    let size : place.lexeme + length lexeme ≡ place.end =
    omega (arith, range_size source place.lexeme place.end c.requires.fits.within, c.requires.fits.order) in
    token_shift parts c.tables-tables.ensures.language source (roots_of c.args.stacks.now) (roots_of c.reduce_all.new.stacks)
    (roots_of c.push_lexeme.new.stacks) places c.args.from
    (record { at = place.end; reach = c.later-further.result; link = c.in_ok-link-in-Shifts.link }) c.args.token.reach place.begin
    place.lexeme place.terminal lexeme c.in_ok-settled.settled.link c.in-Shifts.state size k scan
    (subst (IsSettled parts place.terminal (roots_of c.args.stacks.now) c.args.from.link (roots_of c.reduce_all.new.stacks)
    c.in_ok-settled.settled.link) c.in-Shifts.is c.in_ok-settled.ensures.settled)
    c.in_ok-settled.ensures.grows.sound.same c.in_ok-link-in-Shifts.ensures.entries c.in_ok-link-in-Shifts.ensures.values
    c.in_ok-link-in-Shifts.ensures.store c.in_ok-link-in-Shifts.ensures.link
    (omega (arith, c.later-reach.ensures.one, c.later-further.ensures.one))
    (omega (arith, c.later-reach.ensures.other, c.later-further.ensures.one)) c.later-further.ensures.other c.requires.fits.within

pub returns-in_ok-link-in-Shifts-clause-grows : goal.returns-in_ok-link-in-Shifts-clause-grows
returns-in_ok-link-in-Shifts-clause-grows c =
    let trees = c.reduce_all.new.stacks.store in
    let place = c.args.token.place in
    grows_then c.args.language.now c.in_ok-settled.ensures.grows
    (grows_push c.args.language.now (record { state = c.in-Shifts.state; below = c.in_ok-settled.settled.link; tree = 0 })
    (Text (slice_range c.args.text.now place.lexeme place.end)) c.in_ok-settled.ensures.grows.sound
    c.in_ok-link-in-Shifts.ensures.entries c.in_ok-link-in-Shifts.ensures.values
    (ap (take (length trees)) c.in_ok-link-in-Shifts.ensures.store ∙ take_all (length trees) trees (omega arith))
    c.in_ok-settled.ensures.link
    (subst (ShiftsBelow (size_of c.args.language.now.tables)) c.in-Shifts.is c.in_ok-settled.ensures.below) tt)

pub returns-in_default : goal.returns-in_default
returns-in_default c = record {
  round = λ places k scan.
      (let parts = c.args.language.now in
      let source = c.args.text.now in
      let place = c.args.token.place in
      let e = c.args.token.reach in
      let lexeme = slice_range source place.lexeme place.end in
      let stop = token_stops parts c.tables-tables.ensures.language source (roots_of c.args.stacks.now) (roots_of c.reduce_all.new.stacks)
      places c.args.from e place.begin place.terminal lexeme place.end c.in_ok-settled.settled.link c.in_ok-settled.settled.outcome k scan
      c.in_ok-settled.ensures.settled c.in_default.not-Shifts in (
        stop,
        places_stop parts.language c.tables-tables.ensures.language source c.args.from.reach e c.args.from.at k.stack places k.laid
            place.begin (Unexpected place.terminal) (token place.begin place.terminal lexeme place.end) scan stop (refl, refl),
      ));
  grows = c.in_ok-settled.ensures.grows;
  further = tt;
}
