use Rattle.std.proofs.Common.{◌≡◌, ◌+◌, ◌*◌, ◌<◌, ◌∙◌, sym, subst, ap, length, arith, get_or, map, ℕ}
use Rattle.std.specs.Prelude.{slice_get, Some, option_map}
use Rattle.std.proofs.lemmas.Option.{slice_get-map, slice_get-get_or}
use Rattle.std.proofs.lemmas.List.{get_or_default, length-map}
use Rattle.wb_automata.specs.Moves.{move_at}
use Rattle.wb_automata.specs.Automata.{AutomatonView}
use Rattle.wb_automata.proofs.WalkLemmas.{StepMeans, step_read, step_within}
use Rattle.wb_automata.proofs.automaton.Automaton.step.Goals as goal

-- the class that is read, and that the place is in the table
class_is : (c : goal.After-state_from) → c.from-class.result ≡ get_or c.self.inside.classes.items c.args.byte 0
class_is c = c.from-class.ensures ∙ c.index.ensures ∙ ap (λ z. get_or c.self.inside.classes.items z c.index.result.now) c.from.ensures
    ∙ get_or_default c.self.inside.classes.items c.args.byte c.index.result.now 0
    (let f = c.ranges.byte.fits in omega (arith, c.self.invariant.classes_len))

within : (c : goal.After-state_from) → c.args.state * c.self.inside.width + c.from-class.result < length c.self.inside.moves.items
within c =
    let paths = ap (λ (v : AutomatonView). length v.paths) c.self.view_is in
    let lt = step_within _ _ _ _ _ _ c.self.invariant c.args.state c.args.byte (omega (arith, c.requires, paths))
    (let f = c.ranges.byte.fits in omega arith) in
    omega (arith, lt, class_is c, c.self.invariant.moves_len, length-map c.self.inside.moves.items move_at)

means : (c : goal.After-state_from) → StepMeans c.args.self.now c.args.state c.args.byte c.state_from.result
means c =
    let paths = ap (λ (v : AutomatonView). length v.paths) c.self.view_is in
    let codes = c.self.inside.moves.items in
    let place : ℕ = c.args.state * c.self.inside.width + get_or c.self.inside.classes.items c.args.byte 0 in
    let lt : place < length codes = (let w = within c in omega (arith, class_is c)) in
    let read : get_or codes place 0 ≡ c.index-2.result.now = sym
    (c.index-2.ensures ∙ get_or_default codes (c.args.state * c.self.inside.width + c.from-class.result) c.index-2.result.now 0
    (within c) ∙ ap (λ z. get_or codes (c.args.state * c.self.inside.width + z) 0) (class_is c)) in
    let at : slice_get (map move_at codes) place ≡ Some c.state_from.result = slice_get-map move_at codes place ∙ ap (option_map move_at)
    (slice_get-get_or codes place 0 lt ∙ ap Some read) ∙ ap Some (sym c.state_from.ensures) in
    subst (λ (v : AutomatonView). StepMeans v c.args.state c.args.byte c.state_from.result) c.self.view_is
    (step_read _ _ _ _ _ _ c.self.invariant c.args.state c.args.byte (omega (arith, c.requires, paths))
    (let f = c.ranges.byte.fits in omega arith) c.state_from.result at)

pub returns-clause-state : goal.returns-clause-state
returns-clause-state c = (means c).state_ok

pub returns-clause-leads : goal.returns-clause-leads
returns-clause-leads c = (means c).leads

pub returns-clause-none : goal.returns-clause-none
returns-clause-none c = (means c).nowhere
