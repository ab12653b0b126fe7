use Rattle.std.proofs.Common.{◌∙◌, ◌+◌, ℕ, arith, subst, sym}
use Rattle.std.specs.Prelude.{Contains, ◌↔◌}
use Rattle.std.proofs.lemmas.Option.{same_Some}
use Rattle.wb_automata_positions.specs.Transitions.{Ahead}
use Rattle.wb_automata.specs.Inner.Accepted.{AreAccepted}
use Rattle.wb_automata.proofs.AcceptedLemmas.{accepted_extends, accepted_step}
use Rattle.wb_automata.proofs.StateLemmas.{row_begin}
use Rattle.wb_automata.proofs.explore.row_of.Goals as goal

pub follow-requires-clause-set : goal.follow-requires-clause-set
follow-requires-clause-set c = c.requires.before.found_ok.places c.args.i c.at.result.now c.at.ensures

pub move_on-requires-clause-before : goal.move_on-requires-clause-before
move_on-requires-clause-before c =
    let r = c.in_ok-follow.ensures.ready in
    record {
      ahead = r.ahead;
      row = row_begin c.args.tables.now c.args.bytes.now c.args.states.now c.args.rows.now.moves c.args.i r.ahead c.requires.before
          c.requires.within
          (λ set at. subst (λ z. (q : ℕ) → Contains r.ahead q ↔ Ahead c.args.tables.now z q)
          (same_Some c.at.result.now set (sym c.at.ensures ∙ at)) r.is) r.places;
      ways = r.ways;
    }

pub returns-clause-rows : goal.returns-clause-rows
returns-clause-rows c = c.in_ok-move_on.ensures

pub returns-clause-accepted : goal.returns-clause-accepted
returns-clause-accepted c =
    let t = c.args.tables.now in
    let old = c.args.states.now in
    let a = c.in_ok-follow.ensures.accepted in
    let within = c.requires.within in
    accepted_extends t old c.move_on.new.states c.follow.new.accepted (c.args.i + 1) (omega arith) c.in_ok-move_on.ensures.extends
    (subst (λ z. AreAccepted t old.sets z (c.args.i + 1)) (sym a.last)
    (accepted_step t old.sets c.args.rows.now.accepted c.at.result.now a.all c.args.i c.at.ensures a.exact a.rising c.requires.accepted))
