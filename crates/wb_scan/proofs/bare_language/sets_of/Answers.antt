use Rattle.std.proofs.Common.{refl, subst, sym}
use Rattle.std.proofs.lemmas.Result.{IfOk-weaker}
use Rattle.wb_determinism_contexts.specs.Considered.{LexiconView}
use Rattle.wb_determinism_contexts.specs.Sets.{AreConsideredSets}
use Rattle.wb_items.specs.Kernels.{count_of}
use Rattle.wb_termset.proofs.CallerLemmas.{IsEmpty-replicate}
use Rattle.wb_termset.specs.Sets.{IsEmpty}
use Rattle.wb_lookahead.specs.Tables.{AreValidSets}
use Rattle.wb_lookahead.proofs.TableLaws.{valid_of_tables}
use Rattle.wb_scan.specs.Inner.Lexicons.{AreStateSets}
use Rattle.wb_scan.specs.Inner.Written.{language_of_written}
use Rattle.wb_scan.proofs.SetLemmas.{sets_on}
use Rattle.wb_scan.proofs.bare_language.sets_of.Goals as goal

pub considered_sets-requires-clause-valid : goal.considered_sets-requires-clause-valid
considered_sets-requires-clause-valid c =
    subst (AreValidSets c.args.parts.now.kernels) (sym c.valid_sets.ensures) (valid_of_tables c.requires.parts.tables)

pub returns : goal.returns
returns c =
    let g = c.args.grammar.now in
    let written = c.args.written.now in
    let parts = c.args.parts.now in
    let lexicon : LexiconView = record {
      expressions = written.regexes.now;
      scanned = c.terminals-2.result;
      layout = c.in_ok-layout.layout;
      own_layout = c.in_ok-own_layout.own_layout;
      own_productions = (0, 0);
      preferences = written.preferences.now;
    } in
    IfOk-weaker c.considered_sets.result (λ sets. AreConsideredSets parts.kernels lexicon (count_of parts.kernels) sets.items)
    (λ sets. AreStateSets (language_of_written g written) parts.tables sets.items)
    (λ sets. sets_on g parts lexicon written.regexes.now written.layout.now written.preferences.now c.requires.parts c.requires.written
    (record {
      expressions = refl;
      scanned = c.terminals-2.ensures;
      layout_len = c.in_ok-layout.ensures.len;
      layout = rw c.terminals.ensures at c.in_ok-layout.ensures.each;
      own_layout = subst IsEmpty (sym c.in_ok-own_layout.ensures) (IsEmpty-replicate _);
      preferences = refl;
    }) sets.items) c.considered_sets.ensures
