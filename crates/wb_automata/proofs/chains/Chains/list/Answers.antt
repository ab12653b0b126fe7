use Rattle.std.proofs.Common.{List, ℕ, length, subst, sym, Some, ◌≡◌, ◌<◌}
use Rattle.std.specs.Prelude.{IfOk, slice_get}
use Rattle.wb_automata.proofs.chains.Chains.list.Goals as goal

pub read_back-requires-clause-links : goal.read_back-requires-clause-links
read_back-requires-clause-links c = rw (c.deref.ensures.value) c.self.invariant

pub read_back-requires-clause-number : goal.read_back-requires-clause-number
read_back-requires-clause-number c = rw (c.deref.ensures.value)
    (subst (λ (v : List (List ℕ)). c.args.number < length v) (sym c.self.view_is) c.requires)

pub returns : goal.returns
returns c = subst (λ (v : List (List ℕ)). IfOk c.read_back.result (λ _. slice_get v c.args.number ≡ Some c.read_back.new.all.items))
    c.self.view_is (rw c.deref.ensures.value at c.read_back.ensures)
