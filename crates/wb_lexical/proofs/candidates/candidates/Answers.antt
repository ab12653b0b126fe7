use Rattle.std.proofs.Common.{sym, subst, length, List, refl}
use Rattle.std.specs.Prelude.{Bool}
use Rattle.std.proofs.lemmas.Result.{IfOk-weaker}
use Rattle.wb_lexical.specs.Clash.{AreOrdered}
use Rattle.wb_lexical.specs.Inner.Candidates.{AreCandidates}
use Rattle.wb_lexical.specs.Inner.Rows.{AreTogether, HoldPairs, IsInRow}
use Rattle.wb_lexical.proofs.CandidateLemmas.{candidates_together}
use Rattle.wb_lexical.proofs.candidates.candidates.Goals as goal

pub returns : goal.returns
returns c =
    let terminals = c.args.terminals.now in
    let rows = c.deref.result.now in
    let held = subst (λ (z : List (List Bool)). HoldPairs (length terminals) (AreTogether c.args.sets.now) z)
    (sym c.deref.ensures.value) c.in_ok-rows.ensures in
    IfOk-weaker c.candidates_in-pairs.result
    (λ pairs. AreCandidates terminals (IsInRow rows) (AreOrdered c.args.preferences.now) pairs.items)
    (λ pairs. AreCandidates terminals (AreTogether c.args.sets.now) (AreOrdered c.args.preferences.now) pairs.items)
    (λ pairs are. candidates_together terminals (AreTogether c.args.sets.now) (AreOrdered c.args.preferences.now) (length terminals) rows
    pairs.items refl held are) c.candidates_in-pairs.ensures
