use Rattle.wb_compose_theory.specs.Homes.{of_host}
use Rattle.wb_compose_kernels.specs.Inner.Filling.{HasNoNumber, IsHostGain, IsHostRowGain, IsNumberBy}
use Rattle.wb_compose_kernels.proofs.FillingLemmas.{row_gains}
use Rattle.wb_compose_kernels.proofs.GainLemmas.{gains_nothing}
use Rattle.wb_compose_kernels.proofs.SlotLemmas.{match_none, match_some}
use Rattle.wb_compose_kernels.proofs.fill.fill_host_state.Goals as goal

pub returns-in-None : goal.returns-in-None
returns-in-None c h =
    let f = c.args.filling.now in
    let none = match_none c.in_ok-found.found (IsNumberBy f of_host c.args.state) (HasNoNumber f of_host c.args.state) c.in-None.is
    c.in_ok-found.ensures in
    gains_nothing f.kernels.now (IsHostGain f h c.args.state) c.args.made.now c.requires.making (λ s one t (u, is, row) has. none h u is)

pub fill_host_row-requires-clause-number : goal.fill_host_row-requires-clause-number
fill_host_row-requires-clause-number c =
    let f = c.args.filling.now in
    (match_some c.in_ok-found.found (IsNumberBy f of_host c.args.state) (HasNoNumber f of_host c.args.state) c.in-Some.number c.in-Some.is
    c.in_ok-found.ensures c.requires.filling).0

pub returns-in_ok-fill_host_row-in-Some : goal.returns-in_ok-fill_host_row-in-Some
returns-in_ok-fill_host_row-in-Some c h =
    let f = c.args.filling.now in
    row_gains f h of_host c.args.state c.in-Some.number (λ u. IsHostRowGain f c.args.state u) c.args.made.now c.fill_host_row.new.made
    (match_some c.in_ok-found.found (IsNumberBy f of_host c.args.state) (HasNoNumber f of_host c.args.state) c.in-Some.number c.in-Some.is
    c.in_ok-found.ensures) c.in_ok-fill_host_row-in-Some.ensures
