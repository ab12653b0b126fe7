use Rattle.std.proofs.Common.{◌≡◌, ◌<◌, ℕ, Some, length, sym, ◌∙◌, ap, subst, arith}
use Rattle.std.specs.Prelude.{slice_get, Contains, ◌↔◌}
use Rattle.std.proofs.lemmas.Option.{slice_get-get_or}
use Rattle.wb_base.specs.declared.symbol.Symbol.{Symbol}
use Rattle.wb_items.specs.Kernels.{KernelsView, LeadsTo, count_of}
use Rattle.wb_items.proofs.KernelsLemmas.{moves_lead, moves_ordered}
use Rattle.wb_items.proofs.kernels.Kernels.moves.Goals as goal

within : (c : goal.After-as_slice) → c.args.state < length c.self.inside.found.prefixes
within c = subst (λ (k : KernelsView). c.args.state < count_of k) (sym c.self.view_is) c.requires

there : (c : goal.After-as_slice) → slice_get c.self.inside.rows.items c.args.state ≡ Some c.as_slice.result.now
there c =
    let lt = within c in
    slice_get-get_or c.self.inside.rows.items c.args.state c.index.result.now
    (omega (arith, lt, c.self.invariant.followed.len, c.self.invariant.closures_len, c.self.invariant.kernels.len))
    ∙ ap Some (sym (c.as_slice.ensures ∙ c.index.ensures))

pub returns-clause-exact : goal.returns-clause-exact
returns-clause-exact c =
    subst (λ (k : KernelsView). (symbol : Symbol) (next : ℕ) →
    Contains c.as_slice.result.now (record { symbol = symbol; state = next }) ↔ LeadsTo k c.args.state symbol next) c.self.view_is
    (moves_lead c.self.inside.grammar c.self.inside.found c.self.inside.closures.items c.self.inside.rows.items c.self.invariant
    c.args.state c.as_slice.result.now (within c) (there c))

pub returns-clause-in_order : goal.returns-clause-in_order
returns-clause-in_order c =
    moves_ordered c.self.inside.grammar c.self.inside.found c.self.inside.closures.items c.self.inside.rows.items c.self.invariant
    c.args.state c.as_slice.result.now (within c) (there c)
