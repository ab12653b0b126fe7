use Rattle.std.proofs.Common.{sym, subst, length, List, refl}
use Rattle.std.specs.Prelude.{Bool}
use Rattle.std.proofs.lemmas.Result.{IfOk-weaker}
use Rattle.wb_lexical.specs.Clash.{AreOrdered}
use Rattle.wb_lexical.specs.Inner.Candidates.{AreCandidates}
use Rattle.wb_lexical.specs.Inner.Rows.{HoldPairs, IsInRow}
use Rattle.wb_lexical.proofs.CandidateLemmas.{candidates_ordered}
use Rattle.wb_lexical.proofs.candidates.candidates_in.Goals as goal

pub returns : goal.returns
returns c =
    let terminals = c.args.terminals.now in
    let ordered = c.deref.result.now in
    let held = subst (λ (z : List (List Bool)). HoldPairs (length terminals) (AreOrdered c.args.preferences.now) z)
    (sym c.deref.ensures.value) c.in_ok-ordered.ensures in
    IfOk-weaker c.unordered_pairs-pairs.result (λ pairs. AreCandidates terminals (IsInRow c.args.rows.now) (IsInRow ordered) pairs.items)
    (λ pairs. AreCandidates terminals (IsInRow c.args.rows.now) (AreOrdered c.args.preferences.now) pairs.items)
    (λ pairs are. candidates_ordered terminals (IsInRow c.args.rows.now) (AreOrdered c.args.preferences.now) (length terminals) ordered
    pairs.items refl held are) c.unordered_pairs-pairs.ensures
