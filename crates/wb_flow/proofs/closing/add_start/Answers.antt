use Rattle.std.proofs.Common.{◌≡◌, ◌∙◌, Bool, List, [], true, sym, ap, subst}
use Rattle.std.specs.Prelude.{slice_set}
use Rattle.wb_lemmas.proofs.Places.{default_at}
use Rattle.wb_flow.specs.Inner.Closing.{AddsStart}
use Rattle.wb_flow.specs.ReachSets.{set_at}
use Rattle.wb_flow.proofs.AddingLemmas.{read_item}
use Rattle.wb_flow.proofs.StartLemmas.{adds_no_start, adds_start_at}
use Rattle.wb_flow.proofs.closing.add_start.Goals as goal

pub returns-in_default : goal.returns-in_default
returns-in_default c =
    adds_no_start c.args.tops.now c.args.vertex c.args.component c.args.sets.now.items c.in_default.ensures.none

pub returns : goal.returns
returns c =
    let old = c.args.sets.now.items in
    let now = c.index_mut.result.now in
    let is : set_at old c.args.component ≡ now = default_at old c.args.component [] now
    (read_item old c.args.component now c.requires.component c.index_mut.ensures.value) in
    subst (λ (z : List Bool). AddsStart c.args.tops.now c.args.vertex c.args.component old (slice_set old c.args.component z))
    (sym (c.insert.ensures.after ∙ ap (λ (s : List Bool). slice_set s c.in-Some.number true) (sym is)))
    (adds_start_at c.args.tops.now c.args.vertex c.args.component c.in-Some.number old c.find.ensures.different
    c.in-Some.ensures.some c.requires.component c.requires.len)
