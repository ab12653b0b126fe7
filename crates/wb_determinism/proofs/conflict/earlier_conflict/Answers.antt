use Rattle.std.proofs.Common.{◌<◌, ℕ, length, subst, arith}
use Rattle.wb_items.specs.declared.item_lookahead.ItemLookahead.{ItemLookahead}
use Rattle.wb_determinism.specs.Conflicts.{IsPairConflict}
use Rattle.wb_determinism.proofs.ListLemmas.{before_more}
use Rattle.wb_determinism.proofs.conflict.earlier_conflict.Goals as goal

pub places-preserved : goal.places-preserved
places-preserved c =
    let looks = c.args.looks.now in
    let P : ItemLookahead → Type 0 = λ one. (t : ℕ) → ¬ IsPairConflict c.args.grammar.now one looks t in
    let within : c.places.other < length c.args.row.now = omega (arith, c.places-test.true, c.requires.place) in
    before_more P c.args.row.now c.places.other c.index-row-other.result within c.places.invariant
    (subst P c.index-row-other.is c.in_default.ensures)
