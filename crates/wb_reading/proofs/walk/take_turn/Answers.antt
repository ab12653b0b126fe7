use Rattle.std.proofs.Common.{rules, ◌≡◌, ◌<◌, ◌≤◌, ◌∙◌, length, subst, sym}
use Rattle.std.specs.Prelude.{All}
use Rattle.wb_lookahead.specs.Contents.{size_of}
use Rattle.wb_parser_states.specs.Steps.{HasOutcome, ShiftsBelow}
use Rattle.wb_reading.specs.Inner.Walks.{HasRead, IsAsked, IsStop, StopsSound}
use Rattle.wb_reading.proofs.LeafLemmas.{asked_next, begins_so, first_of, read_more, sound_pushed, stopped}
use Rattle.wb_reading.proofs.walk.take_turn.Goals as goal

pub read_on-requires-clause-read : goal.read_on-requires-clause-read
read_on-requires-clause-read c =
    let old = c.args.states.now.items in
    let count_is : c.len-count.result ≡ length old = search rules in
    let le : c.len-count.result ≤ c.saturating_add.result = search rules in
    subst (λ z. HasRead c.args.language.now c.args.markers.now c.args.text.now z c.args.at)
    (sym (begins_so old c.resize.new.self.items c.deref_mut.result.now _ c.len-count.result c.saturating_add.result count_is le
    c.in_ok-resize.ensures.items c.deref_mut.ensures.value)) c.requires.read

pub reduce_states-requires-clause-states : goal.reduce_states-requires-clause-states
reduce_states-requires-clause-states c =
    let parts = c.args.language.now in
    let new = c.read_on.new.states in
    let size_is : length new ≡ c.resize.new.self.len = c.read_on.ensures.length ∙ c.deref_mut.ensures.len in
    let sound = subst (StopsSound parts (length c.args.text.now) c.args.at new) c.in-Asks.is c.read_on.ensures.sound in
    subst (All (λ s. s < size_of parts.tables)) (sym (first_of new _ c.truncate.new.self.items c.resize.new.self.len c.in-Asks.kept size_is
    c.truncate.ensures.items)) sound.0.states_below

pub returns-in_ok-push-in-Shifts-clause-turn : goal.returns-in_ok-push-in-Shifts-clause-turn
returns-in_ok-push-in-Shifts-clause-turn c =
    let parts = c.args.language.now in
    let markers = c.args.markers.now in
    let text = c.args.text.now in
    let t = c.in-Asks.terminal in
    let new = c.read_on.new.states in
    let states = c.truncate.new.self.items in
    let size_is : length new ≡ c.resize.new.self.len = c.read_on.ensures.length ∙ c.deref_mut.ensures.len in
    let shorter = first_of new _ states c.resize.new.self.len c.in-Asks.kept size_is c.truncate.ensures.items in
    let asked = subst (λ z. IsAsked parts markers text z t c.in-Asks.end) (sym shorter)
    (subst (IsStop parts markers text new) c.in-Asks.is c.read_on.ensures.stop) in
    read_more parts markers text c.requires.sound.language states c.reduce_states.new.states.items c.push.new.self.items asked.at asked.begin t
    asked.lexeme c.in-Asks.end c.in-Shifts.target (asked_next parts markers text states t c.in-Asks.end asked)
    (subst (HasOutcome parts t states c.reduce_states.new.states.items) c.in-Shifts.is c.in_ok-target-in-Asks.ensures.outcome)
    c.in_ok-push-in-Shifts.ensures.items asked.unmarked

pub returns-in_ok-push-in-Shifts-clause-sound : goal.returns-in_ok-push-in-Shifts-clause-sound
returns-in_ok-push-in-Shifts-clause-sound c =
    let parts = c.args.language.now in
    let sound = subst (StopsSound parts (length c.args.text.now) c.args.at c.read_on.new.states) c.in-Asks.is c.read_on.ensures.sound in (
      sound_pushed parts c.args.markers.now c.args.text.now _ c.reduce_states.new.states.items c.push.new.self.items c.in-Shifts.target sound.0
          c.in_ok-target-in-Asks.ensures.states c.in_ok-push-in-Shifts.ensures.items
          (subst (ShiftsBelow (size_of parts.tables)) c.in-Shifts.is c.in_ok-target-in-Asks.ensures.target),
      sound.1,
      sound.2,
    )

pub returns-in_default-clause-turn : goal.returns-in_default-clause-turn
returns-in_default-clause-turn c =
    let parts = c.args.language.now in
    let markers = c.args.markers.now in
    let text = c.args.text.now in
    let t = c.in-Asks.terminal in
    let new = c.read_on.new.states in
    let states = c.truncate.new.self.items in
    let size_is : length new ≡ c.resize.new.self.len = c.read_on.ensures.length ∙ c.deref_mut.ensures.len in
    let shorter = first_of new _ states c.resize.new.self.len c.in-Asks.kept size_is c.truncate.ensures.items in
    let asked = subst (λ z. IsAsked parts markers text z t c.in-Asks.end) (sym shorter)
    (subst (IsStop parts markers text new) c.in-Asks.is c.read_on.ensures.stop) in
    stopped parts markers text c.requires.sound.language states c.reduce_states.new.states.items asked.at asked.begin t asked.lexeme
    c.in-Asks.end c.in_ok-target-in-Asks.field-0 c.in_default.not-Shifts (asked_next parts markers text states t c.in-Asks.end asked)
    c.in_ok-target-in-Asks.ensures.outcome asked.unmarked
