use Rattle.std.proofs.Common.{◌≡◌, ◌<◌, Some, length, sym, ◌∙◌, ap, subst, arith}
use Rattle.std.specs.Prelude.{slice_get}
use Rattle.std.specs.Prelude.{IfSome, IsNone, ◌↔◌}
use Rattle.std.proofs.lemmas.Option.{slice_get-get_or}
use Rattle.wb_items.specs.Kernels.{KernelsView, LeadsTo, HasNoneBefore, count_of, prefix_of}
use Rattle.wb_items.proofs.KernelsLemmas.{moves_ordered, next_some, next_none}
use Rattle.wb_items.proofs.kernels.Kernels.next.Goals as goal

within : (c : goal.After-find_move) → c.args.state < length c.self.inside.found.prefixes
within c = subst (λ (k : KernelsView). c.args.state < count_of k) (sym c.self.view_is) c.requires

there : (c : goal.After-find_move) → slice_get c.self.inside.rows.items c.args.state ≡ Some c.as_slice.result.now
there c =
    let lt = within c in
    slice_get-get_or c.self.inside.rows.items c.args.state c.index.result.now
    (omega (arith, lt, c.self.invariant.followed.len, c.self.invariant.closures_len, c.self.invariant.kernels.len)) ∙
    ap Some (sym (c.as_slice.ensures ∙ c.index.ensures))

pub returns-clause-some : goal.returns-clause-some
returns-clause-some c =
    subst (λ (k : KernelsView). IfSome c.find_move.result (LeadsTo k c.args.state c.args.symbol)) c.self.view_is
    (next_some c.self.inside.grammar c.self.inside.found c.self.inside.closures.items c.self.inside.rows.items c.self.invariant c.args.state
    c.args.symbol c.as_slice.result.now (within c) (there c) c.find_move.result c.find_move.ensures.found)

pub returns-clause-none : goal.returns-clause-none
returns-clause-none c =
    subst (λ (k : KernelsView). IsNone c.find_move.result ↔ HasNoneBefore k.grammar (prefix_of k c.args.state) c.args.symbol) c.self.view_is
    (next_none c.self.inside.grammar c.self.inside.found c.self.inside.closures.items c.self.inside.rows.items c.self.invariant c.args.state
    c.args.symbol c.as_slice.result.now (within c) (there c) c.find_move.result c.find_move.ensures.found c.find_move.ensures.none)

pub find_move-requires : goal.find_move-requires
find_move-requires c =
    let lt : c.args.state < length c.self.inside.found.prefixes = subst (λ (k : KernelsView). c.args.state < count_of k)
    (sym c.self.view_is) c.requires in
    moves_ordered c.self.inside.grammar c.self.inside.found c.self.inside.closures.items c.self.inside.rows.items c.self.invariant
    c.args.state c.as_slice.result.now lt
    (slice_get-get_or c.self.inside.rows.items c.args.state c.index.result.now
    (omega (arith, lt, c.self.invariant.followed.len, c.self.invariant.closures_len, c.self.invariant.kernels.len)) ∙
    ap Some (sym (c.as_slice.ensures ∙ c.index.ensures)))
