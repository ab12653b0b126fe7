use Rattle.std.proofs.Common.{◌≡◌, ◌∙◌, IfOk, ℕ, length, subst}
use Rattle.wb_compose_theory_lists.specs.Joined.{numbered}
use Rattle.wb_compose_attributes.specs.declared.numbers.Block.{Block}
use Rattle.wb_compose_attributes.specs.Inner.Written.{production_by, with_locals, written_at}
use Rattle.wb_compose_attributes.proofs.productions.host_production.Goals as goal

-- of the host's own locals
abbrev own_block : (own total : ℕ) → Block
own_block own total = record { own = own; before = 0; size = 0; total = total }

pub returns : goal.returns
returns c =
    let h = c.args.host.now in
    let row = c.args.row.now in
    let placed = h.placed.now in
    let numbers = c.with_locals-numbers.ensures
    ∙ (λ j. with_locals (own_block (c.len.ensures j) (c.in_ok-total.ensures j)) h.numbers.now) in
    subst (λ z. IfOk c.new_production.result (λ made. made ≡ z)) (λ j. production_by (numbers j) row
    (numbered (written_at (length h.rows.now.productions.now) c.args.number row (c.in_ok-total.ensures j) placed) 0 placed))
    c.new_production.ensures
