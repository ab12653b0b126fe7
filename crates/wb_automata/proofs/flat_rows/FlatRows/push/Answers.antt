use Rattle.std.proofs.Common.{◌≡◌, ◌+◌, ◌++◌, ◌∷◌, ◌∙◌, [], length, ap, length-append}
use Rattle.wb_automata.proofs.FlatLemmas.{ends_push, rows_push}
use Rattle.wb_automata.proofs.flat_rows.FlatRows.push.Goals as goal

-- how many numbers there are now
long : (c : goal.After-push_reserved)
    → length c.extend_from_slice.new.self.items ≡ length c.self.inside.numbers.items + length c.args.numbers.now
long c = ap length c.in_ok-extend_from_slice.ensures.items ∙ length-append c.self.inside.numbers.items c.args.numbers.now

-- and the ends of the rows
ends : (c : goal.After-push_reserved) → c.push_reserved.new.self.items ≡ c.self.inside.ends.items ++
    (length c.self.inside.numbers.items + length c.args.numbers.now) ∷ []
ends c = c.push_reserved.ensures.items ∙ ap (λ z. z ++ c.len.result ∷ []) c.reserve.ensures.items ∙ ap
    (λ z. c.self.inside.ends.items ++ z ∷ []) (c.len.ensures ∙ c.extend_from_slice.new.self.ok.0 ∙ long c)

pub invariant_of-self-2 : goal.invariant_of-self-2
invariant_of-self-2 c = rw (long c, ends c) (ends_push (length c.self.inside.numbers.items)
    (length c.args.numbers.now) 0 c.self.inside.ends.items c.self.invariant)

pub returns : goal.returns
returns c = rw (c.in_ok-extend_from_slice.ensures.items, ends c)
    (rows_push c.self.inside.numbers.items c.args.numbers.now 0 c.self.inside.ends.items c.self.invariant ∙ ap
    (λ z. z ++ c.args.numbers.now ∷ []) c.self.view_is)
