use Rattle.std.proofs.Common.{◌≡◌, ◌+◌, ◌-◌, ◌∙◌, arith, subst, sym}
use Rattle.wb_automata_positions.specs.Inner.Shortcuts.{AreMerged}
use Rattle.wb_automata_positions.proofs.MergeLemmas.{merged_begin, merged_more}
use Rattle.wb_automata_positions.proofs.shortcuts.merge_all.Goals as goal

pub places-init : goal.places-init
places-init c = subst (AreMerged c.args.places.now.items c.args.places.now.items c.args.entry.now.items)
    (sym (c.len-i.ensures ∙ c.args.places.now.ok.0))
    (merged_begin c.args.places.now.items c.args.entry.now.items c.requires.below c.requires.identity)

pub places-preserved : goal.places-preserved
places-preserved c =
    let next : c.places.i ≡ c.places.i - 1 + 1 = omega (arith, c.places-test.true) in
    merged_more c.args.places.now.items c.places.places.items c.merge_at.new.places.items c.places.entry.items c.merge_at.new.entry.items
    (c.places.i - 1) (subst (AreMerged c.args.places.now.items c.places.places.items c.places.entry.items) next c.places.invariant)
    c.merge_at.ensures
