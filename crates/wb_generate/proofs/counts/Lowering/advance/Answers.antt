use Rattle.std.proofs.Common.{◌≡◌, ◌+◌, ap, arith, rules, sym, subst, ◌∙◌}
use Rattle.std.specs.Prelude.{slice_index}
use Rattle.std.specs.BinaryHeap.{heap_items}
use Rattle.std.proofs.lemmas.Bool.{true≢false}
use Rattle.wb_generate.specs.Inner.Lowerings.{Settles, State, state_of}
use Rattle.wb_generate.proofs.CountLemmas.{index_read}
use Rattle.wb_generate.proofs.LoweringLemmas.{advances_by, advances_past, lowering_without, productions_known, taken_known}
use Rattle.wb_generate.proofs.counts.Lowering.advance.Goals as goal

pub productions_of-requires : goal.productions_of-requires
productions_of-requires c =
    let known = taken_known c.args.grammar.now 100001 (state_of c.args.self.now) c.in-Some.entry (heap_items c.pop.new.self)
    c.requires.lowering c.requires.settled c.in-Some.ensures.permutation in
    omega (arith, known, c.requires.uses.len)

pub lower_all-requires-clause-productions : goal.lower_all-requires-clause-productions
lower_all-requires-clause-productions c =
    productions_known c.args.grammar.now 100001 (state_of c.args.self.now) c.in-Some.entry (heap_items c.pop.new.self)
    c.requires.lowering c.requires.settled c.in-Some.ensures.permutation c.args.uses.now c.requires.uses c.productions_of.result.now
    c.productions_of.ensures

pub lower_all-requires-clause-lowering : goal.lower_all-requires-clause-lowering
lower_all-requires-clause-lowering c =
    lowering_without c.args.grammar.now 100001 (state_of c.args.self.now) c.in-Some.entry (heap_items c.pop.new.self)
    c.requires.lowering c.requires.settled c.in-Some.ensures.permutation

pub returns-in_ok-lower_all : goal.returns-in_ok-lower_all
returns-in_ok-lower_all c =
    let mid : State = record { counts = c.args.self.now.counts.items; waiting = heap_items c.pop.new.self } in
    advances_by c.args.grammar.now 100001 (state_of c.args.self.now) c.in-Some.entry (heap_items c.pop.new.self)
    c.requires.lowering c.requires.settled c.in-Some.ensures.permutation c.args.uses.now c.requires.uses (state_of c.lower_all.new.self)
    (subst (λ list. Settles c.args.grammar.now 100001 list mid (state_of c.lower_all.new.self)) c.productions_of.ensures
    c.in_ok-lower_all.ensures)

pub returns-else-is_latest : goal.returns-else-is_latest
returns-else-is_latest c =
    let counts = c.args.self.now.counts.items in
    let known = taken_known c.args.grammar.now 100001 (state_of c.args.self.now) c.in-Some.entry (heap_items c.pop.new.self)
    c.requires.lowering c.requires.settled c.in-Some.ensures.permutation in
    let here : slice_index counts c.in-Some.entry.1 ≡ c.index-count.result.now =
    index_read counts c.in-Some.entry.1 c.index-count.result.now (omega (arith, known, c.requires.lowering.reached.len)) (search rules) in
    advances_past c.args.grammar.now 100001 (state_of c.args.self.now) c.in-Some.entry (heap_items c.pop.new.self)
    c.requires.lowering c.requires.settled c.in-Some.ensures.permutation
    (λ exact. true≢false (sym (c.is_latest.ensures.1 (ap (λ z. z + c.in-Some.entry.0) (sym here) ∙ exact)) ∙ c.if-is_latest.false))
