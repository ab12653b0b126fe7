use Rattle.std.proofs.Common.{arith, inl, inr, subst, ◌≡◌}
use Rattle.std.proofs.lemmas.Bool.{cases_lt}
use Rattle.std.proofs.lemmas.Option.{slice_get_within}
use Rattle.wb_marking.specs.Inner.Compared.{Lists}
use Rattle.wb_marking.proofs.ClashLemmas.{gathers_more, gathers_none, lists_keeps}
use Rattle.wb_marking.proofs.clashes.add_marker.Goals as goal

pub terminals-init : goal.terminals-init
terminals-init c = record {
  gathers = gathers_none c.args.compared.now.scanned.now.parts.now c.args.pairs.now.items;
  lists = λ o lt. absurd (omega (arith, lt));
}

pub terminals-preserved : goal.terminals-preserved
terminals-preserved c =
    let r = c.args.compared.now.scanned.now.parts.now in
    let m = c.args.compared.now.marker in
    let old = c.terminals.pairs.items in
    let new = c.add_pair.new.pairs.items in
    record {
      gathers = gathers_more r c.args.pairs.now.items old new c.terminals.invariant.gathers c.in_ok-add_pair.ensures.gathers;
      lists = λ o lt. elim (cases_lt o c.terminals.other) [
        | inl early ↦ lists_keeps r old new m o c.in_ok-add_pair.ensures.gathers (c.terminals.invariant.lists o early)
        | inr late ↦ (let e : c.terminals.other ≡ o = omega (arith, lt, late) in subst (λ z. Lists r new m z) e c.in_ok-add_pair.ensures.lists)
      ];
    }

pub returns-clause-gathers : goal.returns-clause-gathers
returns-clause-gathers c = c.terminals.invariant.gathers

pub returns-clause-lists : goal.returns-clause-lists
returns-clause-lists c other text shown =
    let r = c.args.compared.now.scanned.now.parts.now in
    let within = slice_get_within r.terminals other shown.clash.rivals.rival shown.clash.rivals.rival_is in
    c.terminals.invariant.lists other (omega (arith, within)) text shown
