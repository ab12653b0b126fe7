use Rattle.std.proofs.Common.{◌≡◌, ◌∷◌, [], Some, ap, length, length-append, subst, sym, arith}
use Rattle.std.specs.Prelude.{slice_get}
use Rattle.wb_scan.specs.Landings.{AreLandings, IsLanding}
use Rattle.wb_scan.specs.Inner.Rankings.{ranked_by}
use Rattle.wb_scan.proofs.LandingLemmas.{landings_more}
use Rattle.wb_scan.proofs.landing.landings_of.Goals as goal

pub states-preserved : goal.states-preserved
states-preserved c =
    let l = ranked_by c.args.ranking.now in
    record {
      count = omega (arith, ap length c.in-Ok.ensures.ok, length-append c.states.landings.items (c.landing_of.result ∷ []), c.states.invariant.count);
      are = subst (AreLandings l c.args.automaton.now) (sym c.in-Ok.ensures.ok)
          (landings_more l c.args.automaton.now c.states.landings.items c.landing_of.result
          (subst (λ z. IsLanding l c.args.automaton.now z c.landing_of.result) (sym c.states.invariant.count) c.landing_of.ensures)
          c.states.invariant.are);
    }

pub returns-in-Err : goal.returns-in-Err
returns-in-Err c state landing at =
    c.states.invariant.are state landing (subst (λ z. slice_get z state ≡ Some landing) c.in-Err.ensures.err at)
