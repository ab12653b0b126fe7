use Rattle.std.proofs.Common.{◌∙◌, ap, sym, Some}
use Rattle.std.proofs.lemmas.Option.{slice_get-get_or}
use Rattle.wb_items.specs.declared.item_lookahead.ItemLookahead.{ItemLookahead}
use Rattle.wb_termset.specs.Sets.{IsMember}
use Rattle.wb_determinism_beside.proofs.ValidLemmas.{reduced_more}
use Rattle.wb_determinism_beside.proofs.valid.add_reduced.Goals as goal

pub items-preserved : goal.items-preserved
items-preserved c = record {
  len = c.add_reductions.ensures.len ∙ c.items.invariant.len;
  each = reduced_more c.args.grammar.now c.args.row.now c.items.place c.index-row-place.result
      (slice_get-get_or c.args.row.now c.items.place c.index-row-place.result c.items-test.true
      ∙ ap (λ (looks : ItemLookahead). Some looks) (sym c.index-row-place.is)) (IsMember c.args.set.now) c.args.below c.items.set
      c.add_reductions.new.set c.items.invariant.each c.add_reductions.ensures.each;
}
