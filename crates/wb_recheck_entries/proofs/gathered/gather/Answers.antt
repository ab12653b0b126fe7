use Rattle.std.proofs.Common.{sym, subst, arith}
use Rattle.wb_recheck_theory.specs.Certificates.{IsCertificate}
use Rattle.wb_recheck_entries.proofs.GatherLemmas.{entry_within, gathered_all, gathered_more, gathered_start, item_within, state_within}
use Rattle.wb_recheck_entries.proofs.GatherLemmas.{terminal_within}
use Rattle.wb_recheck_entries.proofs.gathered.gather.Goals as goal

pub entries-init : goal.entries-init
entries-init c =
    let r = c.args.reference.now in
    let is = c.requires.reference in
    gathered_start r.kernels.now is.kernels r.lines.now r.found.now.states is.states c.args.entries.now
    (subst (λ z. IsCertificate z r.lines.now c.args.entries.now) (sym is.of_grammar) c.requires.certificate) c.args.lookaheads.now
    c.requires.shape c.requires.empty c.requires.apart

pub state-state-requires : goal.state-state-requires
state-state-requires c =
    let r = c.args.reference.now in
    let is = c.requires.reference in
    entry_within r.kernels.now is.kernels r.lines.now r.found.now.states is.states c.args.entries.now
    (subst (λ z. IsCertificate z r.lines.now c.args.entries.now) (sym is.of_grammar) c.requires.certificate) c.entries.place
    c.entry_at-entry.result c.entry_at-entry.ensures

pub insert-requires-clause-state : goal.insert-requires-clause-state
insert-requires-clause-state c =
    let r = c.args.reference.now in
    let is = c.requires.reference in
    state_within r.kernels.now is.kernels r.lines.now r.found.now.states is.states c.args.entries.now
    (subst (λ z. IsCertificate z r.lines.now c.args.entries.now) (sym is.of_grammar) c.requires.certificate) c.entries.lookaheads
    c.entries.place c.state-state.result c.entry_at-entry.result c.entries.invariant c.entry_at-entry.ensures c.state-state.ensures

pub insert-requires-clause-item : goal.insert-requires-clause-item
insert-requires-clause-item c =
    let r = c.args.reference.now in
    let is = c.requires.reference in
    item_within r.kernels.now is.kernels r.lines.now r.found.now.states is.states c.args.entries.now
    (subst (λ z. IsCertificate z r.lines.now c.args.entries.now) (sym is.of_grammar) c.requires.certificate) c.entries.lookaheads
    c.entries.place c.state-state.result c.entry_at-entry.result c.entries.invariant c.entry_at-entry.ensures c.state-state.ensures

pub insert-requires-clause-terminal : goal.insert-requires-clause-terminal
insert-requires-clause-terminal c =
    let r = c.args.reference.now in
    let is = c.requires.reference in
    terminal_within r.kernels.now is.kernels r.lines.now r.found.now.states is.states c.args.entries.now
    (subst (λ z. IsCertificate z r.lines.now c.args.entries.now) (sym is.of_grammar) c.requires.certificate) c.entries.lookaheads
    c.entries.place c.state-state.result c.entry_at-entry.result c.entries.invariant c.entry_at-entry.ensures c.state-state.ensures

pub entries-preserved : goal.entries-preserved
entries-preserved c =
    let r = c.args.reference.now in
    let is = c.requires.reference in
    gathered_more r.kernels.now is.kernels r.lines.now r.found.now.states is.states c.args.entries.now
    (subst (λ z. IsCertificate z r.lines.now c.args.entries.now) (sym is.of_grammar) c.requires.certificate) c.entries.lookaheads
    c.entries.place c.state-state.result c.entry_at-entry.result c.entries.invariant c.entry_at-entry.ensures c.state-state.ensures
    c.insert.new.self c.insert.result c.insert.ensures

pub returns : goal.returns
returns c =
    let r = c.args.reference.now in
    let is = c.requires.reference in
    gathered_all r.kernels.now is.kernels r.lines.now r.found.now.states is.states c.args.entries.now
    (subst (λ z. IsCertificate z r.lines.now c.args.entries.now) (sym is.of_grammar) c.requires.certificate) c.entries.lookaheads
    c.entries.place c.entries.invariant (let past = c.entries-test.false in omega (arith, past))
