use Rattle.std.proofs.Common.{ℕ, length, sym, subst}
use Rattle.std.specs.Prelude.{◌↔◌, ◌⊎◌, ◌<◌}
use Rattle.wb_base.specs.Grammar.{GrammarView}
use Rattle.wb_termset.specs.Sets.{IsMember}
use Rattle.wb_determinism.specs.Inner.Conflicts.{IsFound}
use Rattle.wb_determinism.specs.Conflicts.{HasNoConflictIn}
use Rattle.wb_determinism.specs.Valid.{IsReduced, IsShifted}
use Rattle.wb_determinism.proofs.ConsideredLemmas.{pair_out, clear_out}
use Rattle.wb_determinism.proofs.envelope_test.set_by_shifts.Goals as goal

pub conflict_refusal-requires-clause-pair : goal.conflict_refusal-requires-clause-pair
conflict_refusal-requires-clause-pair c =
    let x = c.args.context.now in
    let row = c.args.row.now in
    let same = sym c.requires.context.grammar in
    pair_out x c.requires.context c.args.state c.args.own.now c.requires.own row c.requires.row c.in_ok-shifts.shifts
    (subst (λ (g : GrammarView). (t : ℕ)
    → IsMember c.in_ok-shifts.shifts t ↔ IsShifted g row (length row) t) same c.in_ok-shifts.ensures.each)
    c.in-Some.pair (subst (λ (g : GrammarView). IsFound g c.in_ok-shifts.shifts row c.in-Some.pair) same c.in-Some.ensures)

pub returns-clause-ok : goal.returns-clause-ok
returns-clause-ok c =
    let x = c.args.context.now in
    let row = c.args.row.now in
    let shifts = c.in_ok-shifts.shifts in
    let same = sym c.requires.context.grammar in
    clear_out x c.requires.context c.args.state c.args.own.now c.requires.own row c.requires.row c.args.layout.now
    c.in_ok-considered_set-in-None.field-0 shifts c.requires.keeps
    (subst (λ (g : GrammarView). (t : ℕ) → IsMember shifts t ↔ IsShifted g row (length row) t) same c.in_ok-shifts.ensures.each)
    (subst (λ (g : GrammarView). HasNoConflictIn g shifts row) same c.in-None.ensures)
    (subst (λ (g : GrammarView). (t : ℕ) → IsMember c.in_ok-considered_set-in-None.field-0 t
    ↔ (((t < x.numbers.now.own_terminals) × (IsMember shifts t ⊎ IsReduced g row (length row) t)) ⊎ IsMember c.args.layout.now t)) same
    c.in_ok-considered_set-in-None.ensures.each)
