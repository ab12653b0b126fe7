use Rattle.std.proofs.Common.{◌+◌}
use Rattle.wb_items.specs.Kernels.{count_of}
use Rattle.wb_compose_theory.specs.Homes.{of}
use Rattle.wb_compose_kernels.specs.Inner.Filling.{HasNoNumber, IsNewGain, IsNumberBy, IsSlotsGain}
use Rattle.wb_compose_kernels.proofs.FillingLemmas.{row_gains}
use Rattle.wb_compose_kernels.proofs.GainLemmas.{gains_nothing}
use Rattle.wb_compose_kernels.proofs.SlotLemmas.{match_none, match_some}
use Rattle.wb_compose_kernels.proofs.fill.fill_new.Goals as goal

pub returns-in-None : goal.returns-in-None
returns-in-None c h =
    let f = c.args.filling.now in
    let k = count_of f.splice.now.kernels.now + c.args.place in
    let none = match_none c.in_ok-found.found (IsNumberBy f (of c.args.part) k) (HasNoNumber f (of c.args.part) k) c.in-None.is
    c.in_ok-found.ensures in
    gains_nothing f.kernels.now (IsNewGain f h c.args.part c.args.place) c.args.made.now c.requires.making
    (λ s one t (u, is, row) has. none h u is)

pub fill_slots-requires-clause-number : goal.fill_slots-requires-clause-number
fill_slots-requires-clause-number c =
    let f = c.args.filling.now in
    let k = count_of f.splice.now.kernels.now + c.args.place in
    (match_some c.in_ok-found.found (IsNumberBy f (of c.args.part) k) (HasNoNumber f (of c.args.part) k) c.in-Some.number c.in-Some.is
    c.in_ok-found.ensures c.requires.filling).0

pub returns-in_ok-fill_slots-in-Some : goal.returns-in_ok-fill_slots-in-Some
returns-in_ok-fill_slots-in-Some c h =
    let f = c.args.filling.now in
    let k = count_of f.splice.now.kernels.now + c.args.place in
    row_gains f h (of c.args.part) k c.in-Some.number (λ u. IsSlotsGain f c.args.part c.args.place u) c.args.made.now
    c.fill_slots.new.made (match_some c.in_ok-found.found (IsNumberBy f (of c.args.part) k) (HasNoNumber f (of c.args.part) k)
    c.in-Some.number c.in-Some.is c.in_ok-found.ensures) c.in_ok-fill_slots-in-Some.ensures
