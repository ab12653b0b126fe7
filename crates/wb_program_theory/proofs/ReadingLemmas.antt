-- What is reported of a text without markers is what is reported of it without the extensions.
use Rattle.std.proofs.Common.{◌≡◌, ◌∙◌, ◌∷◌, [], ℕ, List, Some, ap, inl, inr, refl, sym, subst, arith}
use Rattle.wb_base.specs.Different.{Differ}
use Rattle.wb_operations.specs.Operations.{OperationSignature, Operations}
use Rattle.wb_compose_texts.specs.Readings.{IsUnionReading}
use Rattle.wb_compose_texts.specs.declared.text_reading.TextReading.{TextReading}
use Rattle.wb_compose_texts.specs.declared.text_reading.TextReading.TheVariants as reading
use Rattle.wb_compose_texts.specs.HostReadings.{HasHostReading}
use Rattle.wb_compose_texts.specs.SameRoots.{HasSameRoots, IsHostAttribute}
use Rattle.wb_compose_texts.proofs.PlainLemmas.{answer_there}
use Rattle.wb_compose_texts.proofs.AskedLemmas.{same_roots}
use Rattle.wb_compose_texts.proofs.ValueLemmas.{text_value_there}
use Rattle.wb_report.specs.Lines.{report_of}
use Rattle.wb_report.specs.declared.done.Done.TheVariants as done
use Rattle.wb_report.specs.declared.outcome.Outcome.TheVariants as o
use Rattle.wb_syntax_resolved.specs.declared.resolved.ResolvedParts.{ResolvedParts}
use Rattle.wb_world.specs.Shelf.{Files}
use Rattle.wb_program.specs.Excludes.{ExcludesExtensions, ExcludesHeaders}
use Rattle.wb_program.proofs.OneCheck.{on_file}
use Rattle.wb_program.specs.SeveralChecks.{names_of}
use Rattle.wb_program.specs.Texts.{IsText}
use Rattle.wb_program.specs.status.Status.{Status}
use Rattle.wb_program.specs.status.Status.TheVariants.{Done}
use Rattle.wb_program.specs.Commands.Run.{RunChecks}
use Rattle.wb_program.specs.Commands.Reading.{ShownReading}
use Rattle.wb_program_theory.specs.Certified.{AreCertified, ReadingChecks, TreeChecks}
use Rattle.wb_program_theory.specs.ReadingLaws.{HaveHostRun, HaveHostTree, ReportsHostReading}
use Rattle.wb_program_theory.proofs.CertifiedLemmas.{one_host_value, passes, reports}
use Rattle.wb_program_theory.proofs.FileLemmas.{all_differ}
use Rattle.wb_program_theory.proofs.SeveralLemmas.{RefusesNone, several_certified}

-- the first byte of a line
first_byte : List ℕ → ℕ
first_byte [] = 0
first_byte (byte ∷ bytes) = byte

-- the line of a marker is another than that of a host reading
not_marker : (place : ℕ) (marker : List ℕ) → report_of (o.Done done.HostReading) ≡ report_of (o.Done (done.MarkerAt marker place)) → ⊥
unfolding first_byte
not_marker place marker line = let differ : 104 ≡ 109 = ap first_byte line in absurd (omega (arith, differ))

-- a reading with the line of a host reading is one
is_plain : (operations : List OperationSignature) (r : ResolvedParts) (values : List ResolvedParts) (text : List ℕ) (read : TextReading)
    → IsUnionReading r operations values text read → ShownReading read Done (report_of (o.Done done.HostReading))
    → HasHostReading r operations values text
is_plain operations r values text reading.Host is shown =
    record { whole = is.whole; language = is.language; is_language = is.is_language; plain = is.is }
is_plain operations r values text (reading.MarkerAt place marker) is (ends, line) = absurd (not_marker place marker line)

-- done is no refusal
abbrev IsDone : Status → Type 0
IsDone status = status ≡ Done

refuses_none : RefusesNone IsDone
refuses_none = record {
  specification = λ same. absurd (cc same);
  certification = λ same. absurd (cc same);
  other_host = λ same. absurd (cc same);
  duplicate = λ same. absurd (cc same);
  many = λ same. absurd (cc same);
}

-- a file is one text
one_contents : (files : Files) (file text other : List ℕ) → IsText (Some files) file text → IsText (Some files) file other → text ≡ other
one_contents files file text other is also =
    on_file (files file) (λ contents. contents ≡ text) (λ contents. contents ≡ other) (text ≡ other) (λ contents x y. sym x ∙ y) is.0 also.0

-- the files hold a certified host and certified extensions, with which the text has no marker
pub record HoldsPlain (operations : List OperationSignature) (files : Files) (text host : List ℕ) (all : List (List ℕ)) : Type 0 where
  pub r : ResolvedParts
  pub values : List ResolvedParts
  pub are : AreCertified operations files host all r values
  pub contents : List ℕ
  pub is_text : IsText (Some files) text contents
  pub plain : HasHostReading r operations values contents

-- where that is reported
pub holds_plain : (operations : List OperationSignature) (files : Files) (text host : List ℕ) (all : List (List ℕ))
    → ReportsHostReading operations files text host all → HoldsPlain operations files text host all
holds_plain operations files text host all report = of_checks
    (several_certified IsDone refuses_none operations files Done (report_of (o.Done done.HostReading)) refl
    (ReadingChecks operations (Some files) text) host all report)
  where
    of_rest : (r : ResolvedParts) (values : List ResolvedParts) → AreCertified operations files host all r values
        → ReadingChecks operations (Some files) text r values Done (report_of (o.Done done.HostReading))
        → HoldsPlain operations files text host all
    of_rest r values are (inl (ends, long)) = absurd (cc ends)
    of_rest r values are (inr (contents, is, read)) = record {
      r = r;
      values = values;
      are = are;
      contents = contents;
      is_text = is;
      plain = is_plain operations r values contents read.reading read.is read.shown;
    }

    of_checks : (r : ResolvedParts) × (values : List ResolvedParts) × AreCertified operations files host all r values
        × ReadingChecks operations (Some files) text r values Done (report_of (o.Done done.HostReading))
        → HoldsPlain operations files text host all
    of_checks (r, values, are, rest) = of_rest r values are rest

module _ (excludes : ExcludesExtensions) (headers : ExcludesHeaders) where
  module _ (operations : List OperationSignature) (files : Files) (text host : List ℕ) (all : List (List ℕ))
      (x : HoldsPlain operations files text host all) where
    -- the host alone is certified too
    pub alone : AreCertified operations files host [] x.r []
    alone = record { is_host = x.are.is_host; few = omega arith; each = refl }

    names : Differ (names_of x.values)
    names = all_differ operations files x.r all x.values x.are.each

    -- the text's answer is that with the extensions
    tree_there : (status : Status) (bytes : List ℕ) → TreeChecks operations (Some files) text x.r [] status bytes
        → TreeChecks operations (Some files) text x.r x.values status bytes
    tree_there status bytes (inl long) = inl long
    tree_there status bytes (inr (contents, is, report)) =
        let same : x.contents ≡ contents = one_contents files text x.contents contents x.is_text is in
        let plain = subst (HasHostReading x.r operations x.values) same x.plain in
        inr (
          contents,
          is,
          record {
            answer = report.answer;
            is = answer_there x.r operations x.values names contents plain report.answer report.is;
            shown = report.shown;
          },
        )

  pub host_tree : HaveHostTree
  host_tree operations files text host all status bytes reading report =
      let x = holds_plain operations files text host all reading in
      reports excludes headers operations files host all x.r x.values x.are (TreeChecks operations (Some files) text) status bytes
      (tree_there operations files text host all x status bytes
      (passes excludes headers operations files host [] x.r [] (alone operations files text host all x)
      (TreeChecks operations (Some files) text) status bytes report))

  module _ (operations : Operations) (files : Files) (text name : List ℕ) (steps : ℕ) (host : List ℕ) (all : List (List ℕ))
      (x : HoldsPlain operations.signatures files text host all) (of_host : IsHostAttribute x.r name) where
    roots : HasSameRoots x.r operations.signatures x.values name
    roots = same_roots x.r operations.signatures x.values (names operations.signatures files text host all x) x.plain.whole name of_host

    -- what comes of the text and the attribute is that with the extensions
    run_there : (status : Status) (bytes : List ℕ) → RunChecks operations (Some files) text name steps x.r [] status bytes
        → RunChecks operations (Some files) text name steps x.r x.values status bytes
    run_there status bytes (inl (ends, none)) = inl (ends, record { none = roots.none none.none; line = none.line })
    run_there status bytes (inr (attribute, asked, inl long)) =
        let (other, asked_there) = roots.some attribute asked in inr (other, asked_there, inl long)
    run_there status bytes (inr (attribute, asked, inr (contents, is, report))) =
        let (other, asked_there) = roots.some attribute asked in
        let same : x.contents ≡ contents = one_contents files text x.contents contents x.is_text is in
        let plain = subst (HasHostReading x.r operations.signatures x.values) same x.plain in
        inr (
          other,
          asked_there,
          inr (
            contents,
            is,
            record {
              value = report.value;
              is = text_value_there x.r operations x.values (names operations.signatures files text host all x) contents plain name steps
                  report.value report.is;
              shown = report.shown;
            },
          ),
        )

  pub host_run : HaveHostRun
  host_run operations files text name steps host all status bytes reading of_file report =
      let x = holds_plain operations.signatures files text host all reading in
      let host_is : of_file.value ≡ x.r =
      one_host_value excludes headers operations.signatures files host all x.r x.values x.are of_file.value of_file.is_host in
      let of_host = subst (λ (r : ResolvedParts). IsHostAttribute r name) host_is of_file.attribute in
      reports excludes headers operations.signatures files host all x.r x.values x.are (RunChecks operations (Some files) text name steps)
      status bytes
      (run_there operations files text name steps host all x of_host status bytes
      (passes excludes headers operations.signatures files host [] x.r [] (alone operations.signatures files text host all x)
      (RunChecks operations (Some files) text name steps) status bytes report))
