-- Words that ask for `run` have a report, where files are certified and the text's file is there.
use Rattle.std.proofs.Common.{◌≡◌, ◌<◌, ◌≤◌, ◌⊎◌, ◌∙◌, ℕ, List, Some, inl, inr, length, map, slice_get, refl, sym, ap, subst}
use Rattle.std.proofs.lemmas.Bool.{cases_lt}
use Rattle.std.proofs.lemmas.Simd.{map-map}
use Rattle.wb_base.specs.Different.{Differ}
use Rattle.wb_base.specs.Grammar.{GrammarView}
use Rattle.wb_compose_texts.proofs.AgreementLemmas.{agrees}
use Rattle.wb_compose_texts.proofs.ComposeLaws.{are_united}
use Rattle.wb_compose_texts.specs.Joined.{Extended}
use Rattle.wb_compose_texts.specs.Written.{name_in}
use Rattle.wb_compose_texts.specs.Names.{stop_shown, terminals_of}
use Rattle.wb_compose_texts.specs.Roots.{IsAskedIn, attributes_in}
use Rattle.wb_compose_texts.specs.Unions.{united_of}
use Rattle.wb_compose_texts.specs.declared.value.TextValue.TheVariants as v
use Rattle.wb_compose_texts.specs.TreeValues.{ComesTo, HasPrintedValue, operation_shown, IsTreeValue}
use Rattle.wb_compose_texts.specs.tree_value.TreeValue.TheVariants as t
use Rattle.wb_compose_texts.specs.tree_value.TreeValue.{TreeValue}
use Rattle.wb_eval_theory.proofs.EnoughLemmas.{either}
use Rattle.wb_eval_theory.specs.Evaluable.{AreOperations, IsAsked, IsEvaluable}
use Rattle.wb_eval_theory.specs.Instances.{root, synthesized_at}
use Rattle.wb_eval_theory.specs.Laws.{HasSomeAnswer}
use Rattle.wb_eval_theory.specs.Needed.{NeedsMoreThan}
use Rattle.wb_eval_theory.specs.Walks as walk
use Rattle.wb_grammar_theory.specs.Trees.{Forest}
use Rattle.wb_lemmas.proofs.NotNot.{bind, certain, decide, follows}
use Rattle.wb_operations.specs.Operations.{Operations}
use Rattle.wb_report.specs.Lines.{report_of}
use Rattle.wb_report.specs.declared.done.Done.{Done}
use Rattle.wb_report.specs.declared.done.Done.TheVariants as done
use Rattle.wb_report.specs.declared.outcome.Outcome.TheVariants as o
use Rattle.wb_scan_theory.proofs.ShownLemmas.{tree_fits}
use Rattle.wb_scan_theory.specs.Readings.{a_stop, a_tree}
use Rattle.wb_scan_theory.specs.Shown.{AgreesWith, Shows}
use Rattle.wb_scan_theory.specs.Texts.{HasAnswer, ParsesTo}
use Rattle.wb_syntax_resolved.specs.declared.attribution.AttributionParts.{AttributionParts}
use Rattle.wb_syntax_resolved.specs.declared.resolved.ResolvedParts.{ResolvedParts}
use Rattle.wb_terms.specs.Printed.{printed_value}
use Rattle.wb_values.specs.Fits.{FitsTree}
use Rattle.wb_values.specs.Tree.{Tree}
use Rattle.wb_world.specs.Shelf.{Files}
use Rattle.wb_program.specs.Excludes.{ExcludesExtensions, ExcludesHeaders}
use Rattle.wb_program.specs.Files.{FileIs}
use Rattle.wb_program.specs.SeveralChecks.{names_of}
use Rattle.wb_program.specs.status.Status.TheVariants as s
use Rattle.wb_program.specs.Commands.Run.{RunChecks}
use Rattle.wb_program.specs.Values.{TextValueReport}
use Rattle.wb_program_words.specs.Asked as a
use Rattle.wb_program_theory.specs.Existence.{ComesToAnswer}
use Rattle.wb_program_theory.specs.Reported.{HaveRunReport, IsReported}
use Rattle.wb_program_theory.specs.RunLaws.{IsRunStatus}
use Rattle.wb_program_theory.proofs.CertifiedLemmas.{reports}
use Rattle.wb_program_theory.proofs.ExistenceLemmas.{comes_to_answer}
use Rattle.wb_program_theory.proofs.FileLemmas.{all_differ}
use Rattle.wb_program_theory.proofs.TreeReports.{one_shown}

-- something comes of the attribute within so many steps, by what is needed and by its answer
module _ (b : AttributionParts) (operations : Operations) (top : Tree) (attribute steps : ℕ) where
  abbrev Comes : Type 0
  Comes = (value : TreeValue) × IsTreeValue b operations top attribute steps value

  printed_comes : (printed : List ℕ) → HasPrintedValue b operations top attribute steps printed
      → (16777216 < length printed) ⊎ (length printed ≤ 16777216) → Comes
  printed_comes printed has (inl long) = (t.TooLong, record { printed = printed; has = has; long = long })
  printed_comes printed has (inr short) = (t.Value printed, (has, short))

  outcome_comes : (outcome : walk.Outcome) → ComesTo b operations top attribute steps outcome → Comes
  outcome_comes (walk.value given) comes =
      let printed = printed_value b.signatures given in
      printed_comes printed (record { given = given; comes = comes; is = refl }) (cases_lt 16777216 (length printed))
  outcome_comes (walk.fault number code) comes =
      (t.Fault (operation_shown (slice_get operations.signatures number)) code, record { number = number; comes = comes; is = refl })

  abbrev More : Type 0
  More = NeedsMoreThan b operations top (synthesized_at root attribute) steps

  by_steps : (More ⊎ ¬ More) → (More ⊎ HasSomeAnswer b operations top (synthesized_at root attribute)) → Comes
  by_steps (inl more) either_way = (t.MoreSteps, more)
  by_steps (inr within) (inl more) = (t.MoreSteps, more)
  by_steps (inr within) (inr (outcome, has)) = outcome_comes outcome (record { has = has; within = within })

  value_comes : IsEvaluable b operations → IsAsked b top attribute → ¬ ¬ Comes
  value_comes evaluable asked =
      bind (decide More) (λ steps_left. follows (either b operations top attribute steps evaluable asked) (λ one. by_steps steps_left one))

module _ (operations : Operations) (r : ResolvedParts) (values : List ResolvedParts) (differ : Differ (names_of values))
    (are : AreOperations operations) (text name : List ℕ) (steps : ℕ) (line : List ℕ → Done)
    (x : ComesToAnswer operations.signatures r values text) where
  abbrev its : AttributionParts
  its = attributes_in r operations.signatures values x.whole

  -- the attributes of the union can be evaluated
  evaluable : IsEvaluable its operations
  evaluable =
      let united = are_united r x.whole.grammar operations.signatures x.whole.extended (record {
        certified = x.whole.certified;
        names = subst Differ
            (ap (map name_in) (sym x.whole.extensions_are) ∙ map-map name_in (λ (e : Extended). e.resolved) x.whole.extended)
            differ;
        plain = are.plain;
      }) in
      record {
        attribution = united.attribution;
        productions = united.well_defined.productions;
        kinds = united.kinds;
        with_operations = are;
      }

  -- and what is asked at their start may be asked of a text's tree
  is_asked : (attribute : ℕ) → IsAskedIn r operations.signatures values x.whole name attribute → (forest : Forest)
      → ParsesTo x.language text forest → (top : Tree) → Shows top forest → IsAsked its top attribute
  is_asked attribute asked forest parses top shows =
      let grammar : x.language.grammar ≡ united_of r operations.signatures values x.whole = x.is_language.of_union.grammar in
      let agree : AgreesWith its.signatures (united_of r operations.signatures values x.whole) =
      agrees r x.whole.grammar operations.signatures x.whole.extended x.whole.certified in
      let fits : FitsTree its.signatures top x.language.grammar.start =
      tree_fits its.signatures x.language.grammar (subst (AgreesWith its.signatures) (sym grammar) agree) forest parses.is_tree top shows in
      let start : x.language.grammar.start ≡ x.whole.grammar.start = ap (λ (g : GrammarView). g.start) grammar in
      record {
        nonterminal = x.whole.grammar.start;
        fits = subst (FitsTree its.signatures top) start fits;
        occurs = asked.occurs;
        needs_nothing = asked.needs_nothing;
      }

  abbrev Rest : Type 0
  Rest = IsReported (TextValueReport operations r values name steps line text) IsRunStatus

  -- what comes of the tree is reported
  value_reported : (attribute : ℕ) → IsAskedIn r operations.signatures values x.whole name attribute → (forest : Forest)
      → ParsesTo x.language text forest → (top : Tree) → Shows top forest → (value : TreeValue)
      → IsTreeValue its operations top attribute steps value → Rest
  value_reported attribute asked forest parses top shows (t.Value printed) is = record {
    status = s.Done;
    bytes = report_of (o.Done (line printed));
    such = tt;
    is = record {
      value = v.Tree (t.Value printed);
      is = record {
        whole = x.whole;
        language = x.language;
        is_language = x.is_language;
        is = record { root = forest; parses = parses; top = top; shows = shows; attribute = attribute; asked = asked; is = is };
      };
      shown = (refl, refl);
    };
  }
  value_reported attribute asked forest parses top shows t.TooLong is = record {
    status = s.TooLongToPrint;
    bytes = report_of o.TooLongToPrint;
    such = tt;
    is = record {
      value = v.Tree t.TooLong;
      is = record {
        whole = x.whole;
        language = x.language;
        is_language = x.is_language;
        is = record { root = forest; parses = parses; top = top; shows = shows; attribute = attribute; asked = asked; is = is };
      };
      shown = (refl, refl);
    };
  }
  value_reported attribute asked forest parses top shows (t.Fault operation code) is = record {
    status = s.OperationFault;
    bytes = report_of (o.Fault operation code);
    such = tt;
    is = record {
      value = v.Tree (t.Fault operation code);
      is = record {
        whole = x.whole;
        language = x.language;
        is_language = x.is_language;
        is = record { root = forest; parses = parses; top = top; shows = shows; attribute = attribute; asked = asked; is = is };
      };
      shown = (refl, refl);
    };
  }
  value_reported attribute asked forest parses top shows t.MoreSteps is = record {
    status = s.MoreSteps;
    bytes = report_of (o.MoreSteps steps);
    such = tt;
    is = record {
      value = v.Tree t.MoreSteps;
      is = record {
        whole = x.whole;
        language = x.language;
        is_language = x.is_language;
        is = record { root = forest; parses = parses; top = top; shows = shows; attribute = attribute; asked = asked; is = is };
      };
      shown = (refl, refl);
    };
  }

  -- and so is what comes of the text
  pub text_reported : (attribute : ℕ) → IsAskedIn r operations.signatures values x.whole name attribute → HasAnswer x.language text → ¬ ¬ Rest
  text_reported attribute asked (a_tree forest parses) =
      let (top, shows) = one_shown forest x.language.grammar.start parses.is_tree.root in
      follows (value_comes its operations top attribute steps evaluable (is_asked attribute asked forest parses top shows))
      (λ (value, comes). value_reported attribute asked forest parses top shows value comes)
  text_reported attribute asked (a_stop place kind stops) = certain (record {
    status = s.TextStopped;
    bytes = report_of (o.Stopped place (stop_shown (terminals_of r values) kind));
    such = tt;
    is = record {
      value = v.Stopped place (stop_shown (terminals_of r values) kind);
      is = record {
        whole = x.whole;
        language = x.language;
        is_language = x.is_language;
        is = record { kind = kind; stops = stops; is = refl };
      };
      shown = (refl, refl);
    };
  })

module _ (operations : Operations) (files : Files) (file name : List ℕ) (steps : ℕ) (r : ResolvedParts) (values : List ResolvedParts)
    (differ : Differ (names_of values)) (are : AreOperations operations) (text : List ℕ) (there : files file ≡ Some text)
    (x : ComesToAnswer operations.signatures r values text) where
  abbrev Checked : Type 0
  Checked = IsReported (RunChecks operations (Some files) file name steps r values) IsRunStatus

  -- where the attribute may be asked: by the length of the text
  asked_reported : (attribute : ℕ) → IsAskedIn r operations.signatures values x.whole name attribute
      → (1048576 < length text) ⊎ (length text ≤ 1048576) → ¬ ¬ Checked
  asked_reported attribute asked (inl long) = certain (record {
    status = s.TextTooLong;
    bytes = report_of o.TextTooLong;
    such = tt;
    is = inr (
      attribute,
      record { whole = x.whole; asked = asked },
      inl (
        refl,
        record { long = subst (λ z. FileIs z (λ contents. 1048576 < length contents)) (sym there) long; line = refl },
      ),
    );
  })
  asked_reported attribute asked (inr short) =
      follows (text_reported operations r values differ are text name steps (λ printed. done.Value name printed) x attribute asked x.answer) (λ rest. record {
        status = rest.status;
        bytes = rest.bytes;
        such = rest.such;
        is = inr (
          attribute,
          record { whole = x.whole; asked = asked },
          inr (text, (subst (λ z. FileIs z (λ contents. contents ≡ text)) (sym there) refl, short), rest.is),
        );
      })

  -- where it may, and where none of the name may
  checked : ((attribute : ℕ) × IsAskedIn r operations.signatures values x.whole name attribute)
      ⊎ ¬ ((attribute : ℕ) × IsAskedIn r operations.signatures values x.whole name attribute) → ¬ ¬ Checked
  checked (inl (attribute, asked)) = asked_reported attribute asked (cases_lt 1048576 (length text))
  checked (inr none_asked) = certain (record {
    status = s.UnknownAttribute;
    bytes = report_of (o.UnknownAttribute name);
    such = tt;
    is = inl (
      refl,
      record { none = record { whole = x.whole; none = λ attribute asked. none_asked (attribute, asked) }; line = refl },
    );
  })

-- so words that ask for it have a report
pub have_run_report : ExcludesExtensions → ExcludesHeaders → HaveRunReport
have_run_report excludes headers operations words files file name steps host all r values ops asks are (text, there) =
    bind (comes_to_answer operations.signatures files host all r values are text) (λ x.
    bind (decide ((attribute : ℕ) × IsAskedIn r operations.signatures values x.whole name attribute)) (λ one.
    follows (checked operations files file name steps r values (all_differ operations.signatures files r all values are.each) ops text
    there x one) (λ rest. record {
      status = rest.status;
      bytes = rest.bytes;
      such = rest.such;
      is = inr (record {
        asked = a.run file name steps host all;
        asks = asks;
        report = reports excludes headers operations.signatures files host all r values are
            (RunChecks operations (Some files) file name steps) rest.status rest.bytes rest.is;
      });
    })))
