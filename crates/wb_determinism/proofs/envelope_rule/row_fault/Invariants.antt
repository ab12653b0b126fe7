use Rattle.wb_items.specs.declared.item_lookahead.ItemLookahead.{ItemLookahead}
use Rattle.wb_determinism.specs.Inner.Envelopes.{KeepsLooks}
use Rattle.wb_determinism.proofs.ListLemmas.{EachBefore}
use Rattle.wb_determinism.proofs.envelope_rule.row_fault.Given as goal

abbrev pub invariant-items : goal.invariant-items
invariant-items l = EachBefore (λ (looks : ItemLookahead). KeepsLooks l.context l.own l.state looks.item) l.row l.looks-index
