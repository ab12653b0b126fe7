use Rattle.std.proofs.Common.{◌≡◌, ◌++◌, length, subst, ℕ, ◌<◌, Some, arith}
use Rattle.std.specs.Prelude.{slice_get}
use Rattle.wb_lemmas.proofs.Members.{contains_at}
use Rattle.wb_determinism_kernels.specs.declared.starts.Start.{Start}
use Rattle.wb_compose_kernels.specs.Inner.Moves.{Adds, IsMarkOf}
use Rattle.wb_compose_kernels.proofs.AddLemmas.{adds_next, adds_push, adds_start}
use Rattle.wb_compose_kernels.proofs.RowLemmas.{at_place, by_places, mark_once}
use Rattle.wb_compose_kernels.proofs.marks.add_marks.Goals as goal

pub starts-init : goal.starts-init
starts-init c = adds_start (λ j mark. (start : Start) × (slice_get c.args.starts.now j ≡ Some start) ×
    IsMarkOf c.args.blocks (c.args.host.now ++ c.args.new.now) start mark) c.args.marks.now.items

pub mark_of-requires : goal.mark_of-requires
mark_of-requires c =
    c.requires c.start_at-start.result (contains_at c.args.starts.now c.start_at-start.result c.starts.place c.start_at-start.ensures)

pub starts-preserved : goal.starts-preserved
starts-preserved c =
    let start = c.start_at-start.result in
    let numbers = c.args.host.now ++ c.args.new.now in
    adds_next (λ j mark. (start : Start) × (slice_get c.args.starts.now j ≡ Some start) × IsMarkOf c.args.blocks numbers start mark)
    c.starts.place c.args.marks.now.items c.starts.marks.items c.push.new.list.items c.starts.invariant
    (at_place c.args.starts.now (IsMarkOf c.args.blocks numbers) c.starts.place start c.starts.marks.items c.push.new.list.items
    c.start_at-start.ensures
    (adds_push (IsMarkOf c.args.blocks numbers start) c.starts.marks.items c.push.new.list.items c.in_ok-mark.mark c.in_ok-push.ensures.ok
    c.in_ok-mark.ensures (λ other is. mark_once c.args.blocks numbers start c.in_ok-mark.mark other c.in_ok-mark.ensures is)))

pub returns : goal.returns
returns c =
    let numbers = c.args.host.now ++ c.args.new.now in
    let done : c.starts.place ≡ length c.args.starts.now = omega arith in
    by_places c.args.starts.now (IsMarkOf c.args.blocks numbers) c.args.marks.now.items c.starts.marks.items
    (subst (λ n. Adds (λ mark. (j : ℕ) × (j < n) × ((start : Start) × (slice_get c.args.starts.now j ≡ Some start) ×
    IsMarkOf c.args.blocks numbers start mark)) c.args.marks.now.items c.starts.marks.items) done c.starts.invariant)
