-- A run writes the report that its words and files have, and `run` comes to the value of a text's attribute.
use Rattle.std.proofs.Common.{◌≡◌, ◌≢◌, ℕ, List, Option, Some, inl, inr, refl, subst, sym}
use Rattle.std.specs.Io.KnownBytes.{append_known}
use Rattle.wb_compose_texts.specs.Roots.{attributes_in}
use Rattle.wb_compose_texts.specs.declared.value.TextValue.TheVariants as v
use Rattle.wb_compose_texts.specs.tree_value.TreeValue.TheVariants as t
use Rattle.wb_eval_theory.proofs.EnoughLemmas.{more_enough, some_enough}
use Rattle.wb_eval_theory.specs.Instances.{root, synthesized_at}
use Rattle.wb_eval_theory.specs.Walks as walk
use Rattle.wb_operations.specs.Operations.{Operations}
use Rattle.wb_program.specs.Excludes.{ExcludesExtensions, ExcludesHeaders}
use Rattle.wb_program.specs.status.Status.{Status}
use Rattle.wb_program.specs.status.Status.TheVariants.{CertificateRefused, Done, NotCertified, SpecRefused}
use Rattle.wb_program.specs.Commands.Run.{RunChecks}
use Rattle.wb_program.specs.Laws.{HaveOneStatus, HaveOneText, ShowsKernel}
use Rattle.wb_program.specs.Report.{IsReport}
use Rattle.wb_program.specs.Written.{Wrote, WrotePrefix}
use Rattle.wb_program_words.specs.Asked as a
use Rattle.wb_report.specs.Lines.{report_of}
use Rattle.wb_report.specs.declared.done.Done.TheVariants as done
use Rattle.wb_report.specs.declared.outcome.Outcome.TheVariants as o
use Rattle.wb_world.specs.Shelf.{Files}
use Rattle.wb_program_theory.specs.Completeness.{HaveEnoughSteps, RunComesToValue, WriteAsReported, WroteReport}
use Rattle.wb_program_theory.proofs.CertifiedLemmas.{reports}

-- what is done is no refusal
no_refusal : Done ≡ CertificateRefused → ⊥
no_refusal same = cc

module _ (one_status : HaveOneStatus) (one_text : HaveOneText) where
  module _ (operations : Operations) (words : List (List ℕ)) (files : Files) (status : Status) (bytes : List ℕ)
      (before now : Option (List ℕ)) (written : status ≢ SpecRefused) (certified : status ≢ NotCertified)
      (kernel : ¬ ShowsKernel status bytes) (report : IsReport operations words (Some files) status bytes) where
    -- another report is the same
    same_bytes : (other : Status) (others : List ℕ) → IsReport operations words (Some files) other others → others ≡ bytes
    same_bytes other others is =
        let same : other ≡ status = one_status operations words files other status others bytes is report in
        sym (one_text operations words files status bytes others (inl (written, certified, kernel)) report
        (subst (λ (z : Status). IsReport operations words (Some files) z others) same is))

    as_reported : (end : Status) → Wrote (IsReport operations words (Some files)) before now end
        → WroteReport status bytes before now end
    as_reported end (inl nothing) = inr (inr nothing)
    as_reported end (inr (inl (fault, some))) =
        inr (inl (fault, subst (λ (z : List ℕ). WrotePrefix before now z) (same_bytes some.status some.bytes some.report) some.part))
    as_reported end (inr (inr whole)) =
        let same : whole.bytes ≡ bytes = same_bytes end whole.bytes whole.report in
        inl (
          one_status operations words files end status whole.bytes bytes whole.report report,
          subst (λ (z : List ℕ). now ≡ append_known before z) same whole.written,
        )

  -- a run writes the report that there is
  pub write_as_reported : WriteAsReported
  write_as_reported operations words files status end bytes before now written certified kernel report =
      as_reported operations words files status bytes before now written certified kernel report end

  -- `run` comes to the value
  pub run_comes : ExcludesExtensions → ExcludesHeaders → RunComesToValue
  run_comes extensions headers operations words files text name host steps all r values contents printed before now end asks are is_text
      comes =
      as_reported operations words files Done (report_of (o.Done (done.Value name printed))) before now (λ same. absurd (cc))
      (λ same. absurd (cc)) (λ shows. no_refusal shows.refused)
      (inr (record {
        asked = a.run text name steps host all;
        asks = asks;
        report = (reports extensions headers operations.signatures files host all r values are
            (RunChecks operations (Some files) text name steps) Done (report_of (o.Done (done.Value name printed)))
            (inr (
              comes.is.attribute,
              record { whole = comes.whole; asked = comes.is.asked },
              inr (contents, is_text, record { value = v.Tree (t.Value printed); is = comes; shown = (refl, refl) }),
            )));
      })) end

-- some number of steps is enough
pub enough_steps : HaveEnoughSteps
enough_steps host operations extensions text name printed x =
    let attributes = attributes_in host operations.signatures extensions x.whole in
    let i = synthesized_at root x.attribute in
    let (n, enough) = some_enough attributes operations x.top i (walk.value x.given, x.has) in (
      n,
      λ steps least. record {
        whole = x.whole;
        language = x.language;
        is_language = x.is_language;
        is = record {
          root = x.parsed;
          parses = x.parses;
          top = x.top;
          shows = x.shows;
          attribute = x.attribute;
          asked = x.asked;
          is = (
            record {
              given = x.given;
              comes = record { has = x.has; within = more_enough attributes operations x.top i n steps least enough };
              is = x.is;
            },
            x.short,
          );
        };
      },
    )
