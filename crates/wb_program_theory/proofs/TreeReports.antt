-- Words that ask for the tree of a text have a report, where files are certified.
use Rattle.std.proofs.Common.{◌≡◌, ◌<◌, ◌≤◌, ◌⊎◌, [], ◌∷◌, ℕ, List, Some, inl, inr, length, refl}
use Rattle.std.proofs.lemmas.Bool.{cases_lt}
use Rattle.wb_base.specs.declared.symbol.Symbol.TheVariants.{Nonterminal}
use Rattle.wb_compose_texts.specs.Answers.{HasPrintedTree}
use Rattle.wb_compose_texts.specs.Names.{stop_shown, terminals_of}
use Rattle.wb_compose_texts.specs.Signatures.{signatures_of}
use Rattle.wb_compose_texts.specs.declared.text_answer.TextAnswer.TheVariants as t
use Rattle.wb_grammar_theory.specs.Trees.{Forest, leaf, node, nothing, symbols}
use Rattle.wb_lemmas.proofs.NotNot.{follows}
use Rattle.wb_operations.specs.Operations.{OperationSignature}
use Rattle.wb_report.specs.Lines.{report_of}
use Rattle.wb_report.specs.declared.done.Done.TheVariants as done
use Rattle.wb_report.specs.declared.outcome.Outcome.TheVariants as o
use Rattle.wb_scan_theory.specs.Readings.{a_stop, a_tree}
use Rattle.wb_scan_theory.specs.Shown.{Shows, values_of}
use Rattle.wb_scan_theory.specs.Texts.{HasAnswer}
use Rattle.wb_syntax_resolved.specs.declared.resolved.ResolvedParts.{ResolvedParts}
use Rattle.wb_terms.specs.Printed.{printed_tree}
use Rattle.wb_values.specs.Tree.{Tree}
use Rattle.wb_values.specs.Tree as v
use Rattle.wb_program.specs.Excludes.{ExcludesExtensions, ExcludesHeaders}
use Rattle.wb_program.specs.status.Status.TheVariants.{Done, TextStopped, TooLongToPrint}
use Rattle.wb_program_words.specs.Asked as a
use Rattle.wb_program.specs.Commands.Tree.{TextReport}
use Rattle.wb_program_theory.specs.Certified.{TreeChecks}
use Rattle.wb_program_theory.specs.Existence.{ComesToAnswer}
use Rattle.wb_program_theory.specs.Laws.{IsAnswerStatus}
use Rattle.wb_program_theory.specs.Reported.{HaveTreeReport, IsReported}
use Rattle.wb_program_theory.proofs.CertifiedLemmas.{reports}
use Rattle.wb_program_theory.proofs.ExistenceLemmas.{comes_to_answer}

-- one root is one value
pub one_shown : (f : Forest) (n : ℕ) → symbols f ≡ Nonterminal n ∷ [] → (value : Tree) × Shows value f
one_shown nothing n e = absurd (cc)
one_shown (leaf k lexeme rest) n e = absurd (cc)
one_shown (node p b children nothing) n e = (v.node p (values_of children), refl)
one_shown (node p b children (leaf k lexeme rest)) n e = absurd (cc)
one_shown (node p b children (node q c below rest)) n e = absurd (cc)

module _ (operations : List OperationSignature) (r : ResolvedParts) (values : List ResolvedParts) (text : List ℕ)
    (x : ComesToAnswer operations r values text) where
  -- a printed tree, by its length
  tree_reported : (printed : List ℕ) → HasPrintedTree (terminals_of r values) (signatures_of r values) x.language text printed
      → (16777216 < length printed) ⊎ (length printed ≤ 16777216) → IsReported (TextReport operations r values text) IsAnswerStatus
  tree_reported printed has (inl long) = record {
    status = TooLongToPrint;
    bytes = report_of o.TooLongToPrint;
    such = tt;
    is = record {
      answer = t.TooLong;
      is = record {
        whole = x.whole;
        language = x.language;
        is_language = x.is_language;
        is = record { printed = printed; has = has; long = long };
      };
      shown = (refl, refl);
    };
  }
  tree_reported printed has (inr short) = record {
    status = Done;
    bytes = report_of (o.Done (done.Tree printed));
    such = tt;
    is = record {
      answer = t.Tree printed;
      is = record { whole = x.whole; language = x.language; is_language = x.is_language; is = (has, short) };
      shown = (refl, refl);
    };
  }

  -- the answer of the text
  answer_reported : HasAnswer x.language text → IsReported (TextReport operations r values text) IsAnswerStatus
  answer_reported (a_tree forest parses) =
      let (value, shows) = one_shown forest x.language.grammar.start parses.is_tree.root in
      let printed = printed_tree (signatures_of r values) value in
      tree_reported printed (record { root = forest; parses = parses; value = value; shows = shows; is = refl })
      (cases_lt 16777216 (length printed))
  answer_reported (a_stop place kind stops) = record {
    status = TextStopped;
    bytes = report_of (o.Stopped place (stop_shown (terminals_of r values) kind));
    such = tt;
    is = record {
      answer = t.Stopped place (stop_shown (terminals_of r values) kind);
      is = record {
        whole = x.whole;
        language = x.language;
        is_language = x.is_language;
        is = record { kind = kind; stops = stops; is = refl };
      };
      shown = (refl, refl);
    };
  }

-- so words that ask for it have a report
pub have_tree_report : ExcludesExtensions → ExcludesHeaders → HaveTreeReport
have_tree_report excludes headers operations words files text host all r values contents asks are is_text =
    follows (comes_to_answer operations.signatures files host all r values are contents) (λ x.
    let answered = answer_reported operations.signatures r values contents x x.answer in record {
      status = answered.status;
      bytes = answered.bytes;
      such = answered.such;
      is = inr (record {
        asked = a.tree text host all;
        asks = asks;
        report = reports excludes headers operations.signatures files host all r values are
            (TreeChecks operations.signatures (Some files) text) answered.status answered.bytes (inr (contents, is_text, answered.is));
      });
    })
