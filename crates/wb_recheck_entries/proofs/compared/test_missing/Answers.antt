use Rattle.std.proofs.Common.{sym, subst, inl}
use Rattle.wb_recheck_lines.specs.Faults.{LacksMove}
use Rattle.wb_recheck_theory.specs.Lines.{AreGoodLines, AreMovesListed}
use Rattle.wb_recheck_entries.proofs.FaultLemmas.{match_none, match_some}
use Rattle.wb_recheck_entries.proofs.compared.test_missing.Goals as goal

pub returns-in-Some-clause-refused : goal.returns-in-Some-clause-refused
returns-in-Some-clause-refused c =
    let r = c.args.reference.now in
    let is = c.requires.reference in
    record {
      lines_good = is.good;
      entries_right = c.requires.right;
      lacks = inl (subst (λ z. LacksMove z r.lines.now c.in-Some.kernel) is.of_grammar (match_some (AreMovesListed r.kernels.now.grammar
          r.lines.now)
          (LacksMove r.kernels.now.grammar r.lines.now) c.missing_move.result c.in-Some.kernel
          c.in-Some.is
          (c.missing_move.ensures r.lines.now (subst (λ z. AreGoodLines z r.lines.now) (sym is.of_grammar) is.good) is.states)));
    }

pub test_entries-requires-clause-moves : goal.test_entries-requires-clause-moves
test_entries-requires-clause-moves c =
    let r = c.args.reference.now in
    let is = c.requires.reference in
    subst (λ z. AreMovesListed z r.lines.now) is.of_grammar (match_none (AreMovesListed r.kernels.now.grammar r.lines.now)
    (LacksMove r.kernels.now.grammar r.lines.now) c.missing_move.result c.in-None.is
    (c.missing_move.ensures r.lines.now (subst (λ z. AreGoodLines z r.lines.now) (sym is.of_grammar) is.good) is.states))
