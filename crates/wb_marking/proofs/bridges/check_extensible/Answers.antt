use Rattle.std.proofs.Common.{◌<◌, ℕ, All, subst, sym}
use Rattle.wb_lemmas.proofs.Elements.{all_from_contained}
use Rattle.wb_marking.specs.Inner.Begun.{AreIn}
use Rattle.wb_marking.proofs.MarkedLemmas.{extensible_below}
use Rattle.wb_marking.proofs.bridges.check_extensible.Goals as goal

pub set_of-requires : goal.set_of-requires
set_of-requires c =
    let r = c.args.scope.now.parts.now in
    let g = c.args.scope.now.grammar.now in
    subst (λ (z : ℕ). All (λ n. n < z) c.as_slice.result.now) (sym c.nonterminals-count.ensures)
    (subst (All (λ n. n < g.nonterminals)) (sym c.as_slice.ensures)
    (all_from_contained (λ n. n < g.nonterminals) r.extensible (extensible_below r g c.requires.has)))

pub check_left_sides-requires-clause-extensible : goal.check_left_sides-requires-clause-extensible
check_left_sides-requires-clause-extensible c =
    let set = c.in_ok-extensible.extensible in
    subst (λ (z : ℕ). AreIn z c.args.scope.now.parts.now.extensible set) c.nonterminals-count.ensures
    (subst (λ z. AreIn c.nonterminals-count.result z set) c.as_slice.ensures c.in_ok-extensible.ensures)

pub returns-clause-ok : goal.returns-clause-ok
returns-clause-ok c = c.check_left_sides.ensures.ok

pub returns-clause-refused : goal.returns-clause-refused
returns-clause-refused c = c.check_left_sides.ensures.refused
