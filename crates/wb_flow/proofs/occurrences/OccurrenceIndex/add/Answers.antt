use Rattle.std.proofs.Common.{List, ℕ, ◌<◌, length, slice_set, subst, sym}
use Rattle.std.proofs.lemmas.Result.{on_ok_weaker}
use Rattle.wb_flow.proofs.IndexLemmas.{IsLonger, lists_of, longer_rows}
use Rattle.wb_flow.proofs.occurrences.OccurrenceIndex.add.Goals as goal

pub returns-clause-ok : goal.returns-clause-ok
returns-clause-ok c = on_ok_weaker c.push.result (λ pushed.
    subst (λ (old : List (List ℕ)). IsLonger old
    (lists_of (slice_set c.self.inside.rows.items c.args.nonterminal c.push.new.list)) c.args.nonterminal c.args.number) c.self.view_is
    (longer_rows c.self.inside.rows.items c.args.nonterminal c.args.number c.index_mut.result.now c.push.new.list
    (subst (λ (old : List (List ℕ)). c.args.nonterminal < length old) (sym c.self.view_is) c.requires) c.index_mut.ensures.value pushed))
    c.push.ensures.ok
