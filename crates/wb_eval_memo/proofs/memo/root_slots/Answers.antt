use Rattle.wb_eval_memo.proofs.memo.root_slots.Goals as goal

pub returns-clause-slots : goal.returns-clause-slots
returns-clause-slots c = c.in_ok-add_site.ensures.slots 0 c.new-slots.ensures.slots
