use Rattle.std.proofs.Common.{[], sym, subst, List, Option, ℕ}
use Rattle.std.proofs.lemmas.Result.{IfOk-weaker}
use Rattle.wb_lexical.specs.Inner.Candidates.{AreCandidates, AreTextNumbers, IsCandidate, Lists}
use Rattle.wb_lexical.specs.Inner.Rows.{IsInRow}
use Rattle.wb_lexical.specs.declared.candidates.Compared.{Compared}
use Rattle.wb_lexical.proofs.CandidateLemmas.{candidates_are}
use Rattle.wb_lexical.proofs.candidates.unordered_pairs.Goals as goal

pub returns : goal.returns
returns c =
    let terminals = c.args.terminals.now in
    let x : Compared = record { rows = c.args.rows; ordered = c.args.ordered; texts = c.deref.result } in
    IfOk-weaker c.listed_pairs-pairs.result (λ pairs. Lists (IsCandidate x) [] pairs.items)
    (λ pairs. AreCandidates terminals (IsInRow c.args.rows.now) (IsInRow c.args.ordered.now) pairs.items)
    (λ pairs lists. candidates_are terminals x pairs.items c.requires.len
    (subst (λ (z : List (Option ℕ)). AreTextNumbers terminals z) (sym c.deref.ensures.value) c.in_ok-texts.ensures) lists)
    c.listed_pairs-pairs.ensures
