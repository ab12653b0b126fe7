use Rattle.std.proofs.Common.{ℕ, List, Contains, refl, sym, subst}
use Rattle.std.specs.Prelude.{◌↔◌}
use Rattle.wb_flow_theory.specs.Occurrences.{Needs}
use Rattle.wb_flow.proofs.IndexLemmas.{needs_found}
use Rattle.wb_flow.proofs.occurrences.Scope.needs.Goals as goal

pub returns : goal.returns
returns c i =
    let a = c.args.self.now.attributes.now in
    let of = c.if-not-is_of.ensures.0 refl in
    subst (λ (z : List ℕ). Contains z i ↔ Needs a c.args.attribute c.args.nonterminal i) (sym c.as_slice.ensures)
    (needs_found a c.requires.attribution c.args.self.now.index.now c.requires.index c.args.nonterminal c.args.attribute c.in-Some.number
    c.occurrence-occurrence.result.now c.occurrence-occurrence.ensures of.1 of.0 i)
