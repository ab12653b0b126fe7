use Rattle.std.proofs.Common.{suc, inr}
use Rattle.wb_recheck_entries.specs.Faults.{AreWholeEntries, LacksEntry}
use Rattle.wb_recheck_entries.proofs.FaultLemmas.{match_none, match_some}
use Rattle.wb_recheck_entries.proofs.compared.test_entries.Goals as goal

pub returns-in-Some-clause-refused : goal.returns-in-Some-clause-refused
returns-in-Some-clause-refused c =
    let r = c.args.reference.now in
    record {
      lines_good = c.requires.reference.good;
      entries_right = c.requires.right;
      lacks = inr (match_some (AreWholeEntries r.grammar.now r.lines.now c.args.entries.now)
          (LacksEntry r.grammar.now r.lines.now c.args.entries.now) c.in_ok-found.found c.in-Some.kernel c.in-Some.is
          c.in_ok-found.ensures);
    }

pub returns-in-None-clause-ok : goal.returns-in-None-clause-ok
returns-in-None-clause-ok c =
    let r = c.args.reference.now in
    let whole = match_none (AreWholeEntries r.grammar.now r.lines.now c.args.entries.now)
    (LacksEntry r.grammar.now r.lines.now c.args.entries.now) c.in_ok-found.found c.in-None.is c.in_ok-found.ensures in
    record {
      lines_good = c.requires.reference.good;
      entry_first = whole.first;
      entries_good = λ n e at. c.requires.right (suc n) e at;
      moves_listed = c.requires.moves;
      entries_listed = whole.listed;
    }
