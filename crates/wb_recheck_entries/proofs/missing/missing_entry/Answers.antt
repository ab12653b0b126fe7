use Rattle.std.proofs.Common.{List, length, refl, ap}
use Rattle.std.proofs.lemmas.Result.{IfOk-weaker}
use Rattle.std.specs.Prelude.{MatchOption, Option, ℕ}
use Rattle.wb_recheck_theory.specs.declared.entry.Entry.{Entry}
use Rattle.wb_recheck_theory.specs.Entries.{AreEntriesListed}
use Rattle.wb_recheck_entries.specs.Faults.{AreWholeEntries, LacksEntry, nothing_listed}
use Rattle.wb_recheck_entries.proofs.MissingLemmas.{empty_list, whole}
use Rattle.wb_recheck_entries.proofs.missing.missing_entry.Goals as goal

pub returns-then-entries-eq0 : goal.returns-then-entries-eq0
returns-then-entries-eq0 c = nothing_listed (empty_list c.args.entries.now c.if-entries-eq0.true) refl

pub returns : goal.returns
returns c =
    let g = c.args.reference.now.grammar.now in
    let lines = c.args.reference.now.lines.now in
    let entries = c.args.entries.now in
    let f : (found : Option ℕ) → MatchOption found (AreEntriesListed g lines entries) (LacksEntry g lines entries) →
    MatchOption found (AreWholeEntries g lines entries) (LacksEntry g lines entries) =
    whole g lines entries c.requires.right (λ none. c.if-entries-eq0.false (ap (λ (z : List Entry). length z) none)) in
    IfOk-weaker c.lacking-answer.result _ _ f c.lacking-answer.ensures
