use Rattle.std.proofs.Common.{List, ℕ, length, subst, sym, Some, ◌≡◌, ◌<◌, ◌+◌, ◌++◌, ◌∷◌, []}
use Rattle.std.specs.Prelude.{slice_get}
use Rattle.wb_automata_positions.specs.Rows.{row}
use Rattle.wb_automata.proofs.ChainLemmas.{found_at}
use Rattle.wb_automata.proofs.chains.Chains.find.Goals as goal

pub returns-then-is_link : goal.returns-then-is_link
returns-then-is_link c =
    let links = c.self.inside.links.items in
    let j = c.hint_at-hint.result in
    subst (λ (v : List (List ℕ)). slice_get v (j + 1) ≡ Some (row v c.args.before ++ c.args.leaf ∷ [])) c.self.view_is
    (found_at links j c.args.before c.args.leaf c.self.invariant
    (rw c.deref-2.ensures.value at (c.is_link.ensures.within c.if-is_link.true))
    (rw c.deref-2.ensures.value at (c.is_link.ensures.is c.if-is_link.true)))
