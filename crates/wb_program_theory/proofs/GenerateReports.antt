-- Words that ask for `generate` have a report, where files are certified and what they write matches something.
use Rattle.std.proofs.Common.{◌≡◌, ◌<◌, ◌≤◌, ◌⊎◌, ℕ, List, [], inl, inr, length, refl, subst}
use Rattle.std.specs.Prelude.{All}
use Rattle.std.proofs.lemmas.Bool.{cases_lt}
use Rattle.wb_base.specs.Different.{Differ}
use Rattle.wb_base.specs.Grammar.{GrammarView, IsGrammar}
use Rattle.wb_compose_texts.proofs.SpelledLemmas.{all_spelled}
use Rattle.wb_compose_texts.specs.Expressions.{name_of}
use Rattle.wb_compose_texts.specs.Generated.{IsGeneratedText, first_layout, place_behind}
use Rattle.wb_compose_texts.specs.Roots.{IsAskedIn}
use Rattle.wb_compose_texts.specs.Unions.{united_of}
use Rattle.wb_compose_texts.proofs.ExistLemmas.{some_outcome}
use Rattle.wb_compose_texts.specs.generated_text.Generated.{Generated}
use Rattle.wb_compose_texts.specs.generated_text.Generated.TheVariants as g
use Rattle.wb_eval_theory.specs.Evaluable.{AreOperations}
use Rattle.wb_lemmas.proofs.NotNot.{bind, certain, decide, follows}
use Rattle.wb_operations.specs.Operations.{Operations}
use Rattle.wb_report.specs.Lines.{report_of}
use Rattle.wb_report.specs.declared.done.Done.TheVariants as done
use Rattle.wb_report.specs.declared.outcome.Outcome.TheVariants as o
use Rattle.wb_scan_theory.proofs.AnswersExist.{answer_exists}
use Rattle.wb_scan_theory.specs.Bounds.{HasNoCycle}
use Rattle.wb_syntax_resolved.specs.declared.resolved.ResolvedParts.{ResolvedParts}
use Rattle.wb_program.specs.Excludes.{ExcludesExtensions, ExcludesHeaders}
use Rattle.wb_program.specs.SeveralChecks.{names_of}
use Rattle.wb_program.specs.status.Status.TheVariants as s
use Rattle.wb_program.specs.Commands.Generate.{GenerateChecks}
use Rattle.wb_program_words.specs.Asked as a
use Rattle.wb_program_words.proofs.FewLeaves.{few_leaves}
use Rattle.wb_program_theory.specs.Existence.{ComesToAnswer}
use Rattle.wb_program_theory.specs.Matching.{AllMatch}
use Rattle.wb_program_theory.specs.Reported.{HaveGenerateReport, IsAny, IsReported}
use Rattle.wb_program_theory.proofs.CertifiedLemmas.{reports}
use Rattle.wb_program_theory.proofs.ExistenceLemmas.{comes_to_answer}
use Rattle.wb_program_theory.proofs.ExpressionsExist.{names_below, some_expressions}
use Rattle.wb_program_theory.proofs.FileLemmas.{all_differ}
use Rattle.wb_program_theory.proofs.RunReports.{text_reported}

module _ (operations : Operations) (r : ResolvedParts) (values : List ResolvedParts) (differ : Differ (names_of values))
    (are : AreOperations operations) (match : AllMatch r values) (name : List ℕ) (number size : ℕ) (small : size ≤ 100000)
    (x : ComesToAnswer operations.signatures r values []) where
  abbrev its : GrammarView
  its = united_of r operations.signatures values x.whole

  abbrev Makes : Type 0
  Makes = (made : Generated) × IsGeneratedText r operations.signatures values number size made

  -- the number makes something
  some_made : ¬ ¬ Makes
  some_made =
      let names : All (λ (v : ResolvedParts). All (λ b. b < 256) (name_of v)) values =
      subst (All (λ (v : ResolvedParts). All (λ b. b < 256) (name_of v))) x.whole.extensions_are
      (names_below x.whole.grammar x.whole.extended
      (all_spelled r x.whole.grammar operations.signatures x.whole.extended x.whole.certified).names) in
      let (expressions, written, some) = some_expressions r values names match in
      let grammar : x.language.grammar ≡ its = x.is_language.of_union.grammar in
      let in_range : IsGrammar its = subst IsGrammar grammar x.is_language.language.deterministic.in_range in
      let acyclic : HasNoCycle its = subst HasNoCycle grammar (record {
        unit = x.is_language.language.deterministic.no_unit_cycle;
        hidden = x.is_language.language.deterministic.no_hidden_left_recursion;
      }) in
      follows (some_outcome its expressions (place_behind its.terminals (first_layout r)) number size in_range acyclic some small)
      (λ (made, is). (made, record { whole = x.whole; expressions = expressions; written = written; is = is }))

  abbrev Checked : Type 0
  Checked = IsReported (GenerateChecks operations number size name r values) IsAny

  module _ (attribute : ℕ) (asked : IsAskedIn r operations.signatures values x.whole name attribute) where
    -- what was made is reported, by the length of its text
    text_made : (text : List ℕ) (leaves : ℕ) → IsGeneratedText r operations.signatures values number size (g.Text text leaves)
        → (1048576 < length text) ⊎ (length text ≤ 1048576) → ¬ ¬ Checked
    text_made text leaves is (inl long) = certain (record {
      status = s.TextTooLong;
      bytes = report_of o.TextTooLong;
      such = tt;
      is = inr (
        attribute,
        record { whole = x.whole; asked = asked },
        record { made = g.Text text leaves; is = is; shown = inl (refl, record { long = long; line = refl }) },
      );
    })
    text_made text leaves is (inr short) =
        bind (answer_exists x.language x.is_language.language text) (λ answer.
        follows (text_reported operations r values differ are text name 1000000
        (λ printed. done.Generated leaves (length text) name printed)
        (record { whole = x.whole; language = x.language; is_language = x.is_language; answer = answer }) attribute asked answer) (λ rest.
        record {
          status = rest.status;
          bytes = rest.bytes;
          such = tt;
          is = inr (
            attribute,
            record { whole = x.whole; asked = asked },
            record { made = g.Text text leaves; is = is; shown = inr (short, rest.is) },
          );
        }))

    made_reported : (made : Generated) → IsGeneratedText r operations.signatures values number size made → ¬ ¬ Checked
    made_reported (g.Text text leaves) is = text_made text leaves is (cases_lt 1048576 (length text))
    made_reported (g.NoSentence least) is = certain (record {
      status = s.NoSentence;
      bytes = report_of (o.NoSentence size least);
      such = tt;
      is = inr (
        attribute,
        record { whole = x.whole; asked = asked },
        record { made = g.NoSentence least; is = is; shown = (refl, refl) },
      );
    })

  -- where the attribute may be asked, and where none of the name may
  checked : ((attribute : ℕ) × IsAskedIn r operations.signatures values x.whole name attribute)
      ⊎ ¬ ((attribute : ℕ) × IsAskedIn r operations.signatures values x.whole name attribute) → ¬ ¬ Checked
  checked (inl (attribute, asked)) = bind some_made (λ (made, is). made_reported attribute asked made is)
  checked (inr none_asked) = certain (record {
    status = s.UnknownAttribute;
    bytes = report_of (o.UnknownAttribute name);
    such = tt;
    is = inl (
      refl,
      record { none = record { whole = x.whole; none = λ attribute asked. none_asked (attribute, asked) }; line = refl },
    );
  })

-- so words that ask for it have a report
pub have_generate_report : ExcludesExtensions → ExcludesHeaders → HaveGenerateReport
have_generate_report excludes headers operations words files number size name host all r values ops match asks are =
    bind (comes_to_answer operations.signatures files host all r values are []) (λ x.
    bind (decide ((attribute : ℕ) × IsAskedIn r operations.signatures values x.whole name attribute)) (λ one.
    follows (checked operations r values (all_differ operations.signatures files r all values are.each) ops match name number size
    (few_leaves words (a.generate number size name host all) asks number size name host all refl) x one) (λ rest. record {
      status = rest.status;
      bytes = rest.bytes;
      such = tt;
      is = inr (record {
        asked = a.generate number size name host all;
        asks = asks;
        report = reports excludes headers operations.signatures files host all r values are
            (GenerateChecks operations number size name) rest.status rest.bytes rest.is;
      });
    })))
