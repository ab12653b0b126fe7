-- Words that ask for a command of certified files have a report.
use Rattle.std.proofs.Common.{◌≡◌, ◌<◌, ◌≤◌, ◌⊎◌, ℕ, List, Some, inl, inr, length, refl, sym, subst}
use Rattle.std.proofs.lemmas.Bool.{cases_lt}
use Rattle.wb_lemmas.proofs.NotNot.{certain, follows}
use Rattle.wb_operations.specs.Operations.{Operations}
use Rattle.wb_report.specs.Lines.{report_of}
use Rattle.wb_report.specs.declared.outcome.Outcome.TheVariants as o
use Rattle.wb_syntax_resolved.specs.declared.resolved.ResolvedParts.{ResolvedParts}
use Rattle.wb_world.specs.Shelf.{Files}
use Rattle.wb_program.specs.Excludes.{ExcludesExtensions, ExcludesHeaders}
use Rattle.wb_program.specs.Files.{FileIs}
use Rattle.wb_program.specs.status.Status.TheVariants.{TextTooLong}
use Rattle.wb_program_words.specs.Asked as a
use Rattle.wb_program_words.specs.Words.{Asks}
use Rattle.wb_program_theory.specs.Certified.{AreCertified, TreeChecks}
use Rattle.wb_program_theory.specs.Reported.{HaveReport, HaveReports, IsAny, of_certificate, of_certify, of_check, of_compose}
use Rattle.wb_program_theory.specs.Reported.{of_edit, of_generate, of_reading, of_run, of_tree}
use Rattle.wb_program_theory.proofs.CertifiedLemmas.{reports}
use Rattle.wb_program_theory.proofs.EditReports.{edit_reported}
use Rattle.wb_program_theory.proofs.GenerateReports.{have_generate_report}
use Rattle.wb_program_theory.proofs.LineReports.{have_certificate_report, have_certify_report, have_check_report, have_compose_report}
use Rattle.wb_program_theory.proofs.ReadingReports.{reading_reported}
use Rattle.wb_program_theory.proofs.RunReports.{have_run_report}
use Rattle.wb_program_theory.proofs.TreeReports.{have_tree_report}

module _ (excludes : ExcludesExtensions) (headers : ExcludesHeaders) where
  -- the tree of a text, by the text's length
  tree_reported : (operations : Operations) (words : List (List ℕ)) (files : Files) (text host : List ℕ) (all : List (List ℕ))
      (r : ResolvedParts) (values : List ResolvedParts) → AreCertified operations.signatures files host all r values
      → Asks words (a.tree text host all) → (contents : List ℕ) → files text ≡ Some contents
      → (1048576 < length contents) ⊎ (length contents ≤ 1048576) → ¬ ¬ HaveReport operations words files IsAny
  tree_reported operations words files text host all r values are asks contents there (inl long) = certain (record {
    status = TextTooLong;
    bytes = report_of o.TextTooLong;
    such = tt;
    is = inr (record {
      asked = a.tree text host all;
      asks = asks;
      report = (reports excludes headers operations.signatures files host all r values are
          (TreeChecks operations.signatures (Some files) text) TextTooLong (report_of o.TextTooLong)
          (inl (
            refl,
            record { long = subst (λ z. FileIs z (λ bytes. 1048576 < length bytes)) (sym there) long; line = refl },
          )));
    });
  })
  tree_reported operations words files text host all r values are asks contents there (inr short) =
      follows (have_tree_report excludes headers operations words files text host all r values contents asks are
      (subst (λ z. FileIs z (λ bytes. bytes ≡ contents)) (sym there) refl, short)) (λ x.
      record { status = x.status; bytes = x.bytes; such = tt; is = x.is })

  pub have_reports : HaveReports
  have_reports operations words files host all r values asked ops are of_check asks =
      let x = have_check_report operations words files host r asks are.is_host in
      certain (record { status = x.status; bytes = x.bytes; such = tt; is = x.is })
  have_reports operations words files host all r values asked ops are of_certify asks =
      let x = have_certify_report operations words files host all r values asks are in
      certain (record { status = x.status; bytes = x.bytes; such = tt; is = x.is })
  have_reports operations words files host all r values asked ops are of_compose asks =
      follows (have_compose_report excludes headers operations words files host all r values asks are)
      (λ x. record { status = x.status; bytes = x.bytes; such = tt; is = x.is })
  have_reports operations words files host all r values asked ops are of_certificate asks =
      follows (have_certificate_report excludes headers operations words files host all r values asks are)
      (λ x. record { status = x.status; bytes = x.bytes; such = tt; is = x.is })
  have_reports operations words files host all r values asked ops are (of_tree {text = text} (contents, there)) asks =
      tree_reported operations words files text host all r values are asks contents there (cases_lt 1048576 (length contents))
  have_reports operations words files host all r values asked ops are (of_run {text = text} {name = name} {steps = steps} there) asks =
      follows (have_run_report excludes headers operations words files text name steps host all r values ops asks are there)
      (λ x. record { status = x.status; bytes = x.bytes; such = tt; is = x.is })
  have_reports operations words files host all r values asked ops are (of_generate {number = number} {size = size} {name = name} match) asks =
      have_generate_report excludes headers operations words files number size name host all r values ops match asks are
  have_reports operations words files host all r values asked ops are
      (of_edit {text = text} {edits = edits} (contents, there) edits_there) asks =
      edit_reported excludes headers operations words files text edits host all r values are asks contents there edits_there
      (cases_lt 1048576 (length contents))
  have_reports operations words files host all r values asked ops are (of_reading {text = text} (contents, there)) asks =
      reading_reported excludes headers operations words files text host all r values are asks contents there
      (cases_lt 1048576 (length contents))
