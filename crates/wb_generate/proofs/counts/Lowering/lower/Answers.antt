use Rattle.std.proofs.Common.{◌≡◌, ◌≤◌, ◌<◌, min, arith, rules}
use Rattle.std.specs.Prelude.{slice_index}
use Rattle.std.specs.BinaryHeap.{heap_items}
use Rattle.wb_grammar_theory.proofs.ProductionLemmas.{production_read}
use Rattle.wb_generate.specs.Counts.{total}
use Rattle.wb_generate.specs.Inner.Lowerings.{state_of}
use Rattle.wb_generate.proofs.CountLemmas.{above_of, index_read}
use Rattle.wb_generate.proofs.LoweringLemmas.{settles_lower, settles_same}
use Rattle.wb_generate.proofs.counts.Lowering.lower.Goals as goal

pub returns-then-is_low : goal.returns-then-is_low
returns-then-is_low c =
    let g = c.args.grammar.now in
    let counts = c.args.self.now.counts.items in
    let rule = production_read g c.args.production c.left-left.result c.right.result.now c.requires.production c.left-left.ensures.left
    c.right.ensures.right in
    let least : c.least_total-least.result ≡ min (total counts c.right.result.now) 100001 = search rules in
    let here : slice_index counts c.left-left.result ≡ c.index-count.result.now =
    index_read counts c.left-left.result c.index-count.result.now (omega (
      arith,
      c.left-left.ensures.in_range,
      c.requires.lowering.reached.len,
    )) (search rules) in
    let low : c.index-count.result.now ≤ c.least_total-least.result = c.is_low.ensures.0 c.if-is_low.true in
    settles_same g 100001 (state_of c.args.self.now) c.args.production c.left-left.result c.least_total-least.result c.right.result.now
    c.requires.lowering rule least (omega (arith, here, low))

pub returns : goal.returns
returns c =
    let g = c.args.grammar.now in
    let counts = c.args.self.now.counts.items in
    let rule = production_read g c.args.production c.left-left.result c.right.result.now c.requires.production c.left-left.ensures.left
    c.right.ensures.right in
    let least : c.least_total-least.result ≡ min (total counts c.right.result.now) 100001 = search rules in
    let here : slice_index counts c.left-left.result ≡ c.index-count.result.now =
    index_read counts c.left-left.result c.index-count.result.now (omega (
      arith,
      c.left-left.ensures.in_range,
      c.requires.lowering.reached.len,
    )) (search rules) in
    let above : c.least_total-least.result < c.index-count.result.now = above_of c.is_low.result c.index-count.result.now
    c.least_total-least.result c.is_low.ensures c.if-is_low.false in
    settles_lower g 100001 (state_of c.args.self.now) c.args.production c.left-left.result c.least_total-least.result c.right.result.now
    (heap_items c.push.new.self) c.requires.lowering rule c.left-left.ensures.in_range c.right.ensures.in_range least
    (omega (arith, here, above)) c.in_ok-push.ensures.permutation
