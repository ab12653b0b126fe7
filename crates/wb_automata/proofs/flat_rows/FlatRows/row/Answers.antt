use Rattle.std.proofs.Common.{◌≤◌, ◌∙◌, ◌-◌, take, drop, length, ap, arith, rules}
use Rattle.wb_automata.specs.Inner.FlatRows.{start_at}
use Rattle.wb_automata.proofs.FlatLemmas.{is_row, place_within}
use Rattle.wb_automata.proofs.flat_rows.FlatRows.row.Goals as goal

pub start_at-requires : goal.start_at-requires
start_at-requires c = omega (
  arith,
  place_within c.args.self.now c.self.inside.numbers.items c.self.inside.ends.items c.args.a c.self.view_is c.requires,
  ap length
      c.deref-2.ensures.value,
)

pub index-requires : goal.index-requires
index-requires c = omega
    (arith, place_within c.args.self.now c.self.inside.numbers.items c.self.inside.ends.items c.args.a c.self.view_is c.requires)

pub offset_bounds-deref-start_at : goal.offset_bounds-deref-start_at
offset_bounds-deref-start_at c =
    let r = is_row c.args.self.now c.self.inside.numbers.items c.self.inside.ends.items c.args.a c.start_at.result c.index.result.now
    c.self.view_is c.self.invariant c.requires (c.start_at.ensures ∙ ap
    (λ z. start_at 0 z c.args.a) c.deref-2.ensures.value) c.index.ensures in
    let within : c.start_at.result ≤ length c.deref.result.now = omega (arith, r.order, r.within, ap length c.deref.ensures.value) in
    search rules

pub slice_bounds-result-count : goal.slice_bounds-result-count
slice_bounds-result-count c = (let r = is_row c.args.self.now c.self.inside.numbers.items c.self.inside.ends.items c.args.a
    c.start_at.result c.index.result.now c.self.view_is c.self.invariant c.requires (c.start_at.ensures ∙ ap (λ z. start_at 0 z c.args.a) c.deref-2.ensures.value) c.index.ensures in let order = r.order in omega arith)

pub slice_bounds-result-start : goal.slice_bounds-result-start
slice_bounds-result-start c = (let r = is_row c.args.self.now c.self.inside.numbers.items c.self.inside.ends.items c.args.a
    c.start_at.result c.index.result.now c.self.view_is c.self.invariant c.requires (c.start_at.ensures ∙ ap (λ z. start_at 0 z c.args.a) c.deref-2.ensures.value) c.index.ensures in let order = r.order in omega arith)

pub slice_bounds-result-end : goal.slice_bounds-result-end
slice_bounds-result-end c = (let r = is_row c.args.self.now c.self.inside.numbers.items c.self.inside.ends.items c.args.a c.start_at.result
    c.index.result.now c.self.view_is c.self.invariant c.requires
    (c.start_at.ensures ∙ ap (λ z. start_at 0 z c.args.a) c.deref-2.ensures.value) c.index.ensures in omega
    (arith, r.within, ap length c.deref.ensures.value))

pub returns : goal.returns
returns c =
    let r = is_row c.args.self.now c.self.inside.numbers.items c.self.inside.ends.items c.args.a c.start_at.result c.index.result.now
    c.self.view_is c.self.invariant c.requires (c.start_at.ensures ∙ ap
    (λ z. start_at 0 z c.args.a) c.deref-2.ensures.value) c.index.ensures in
    ap (λ z. take (c.index.result.now - c.start_at.result) (drop c.start_at.result z)) c.deref.ensures.value ∙ r.is
