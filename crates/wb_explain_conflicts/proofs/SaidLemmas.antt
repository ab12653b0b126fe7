-- What is said of one value is said of a specification that stands for it.
use Rattle.std.proofs.Common.{◌≡◌, inl, inr, ℕ, List, Some, Result, Ok, Err, OnOk, subst}
use Rattle.wb_base.specs.Grammar.{GrammarView}
use Rattle.wb_certify_files.specs.HostContents.{StandsFor}
use Rattle.wb_certify_files.specs.Numbered.{IsNumbered}
use Rattle.wb_certify_files.specs.Specifications.{IsSpecFor}
use Rattle.wb_explain_readings.specs.declared.found.Found.{Found}
use Rattle.wb_explain_readings.specs.Readings.{AreReadings}
use Rattle.wb_marking_holes.specs.Holes.{with_holes_of}
use Rattle.wb_syntax.specs.SpecText.{SpecView}
use Rattle.wb_syntax_resolved.specs.declared.resolved.ResolvedParts.{ResolvedParts}
use Rattle.wb_explain_conflicts.specs.Inner.Parts.{SaysFound, SaysIn, SaysOf}
use Rattle.wb_explain_conflicts.specs.Said.{IsBeside, Says, StandsBeside}

-- of a value that is meant
pub says_of : {X E : Type 0} (result : Result X E) (Is : ResolvedParts → Type 0) (r : ResolvedParts) (old new : List ℕ) → Is r →
    OnOk result (SaysOf r old new) → OnOk result (Says Is old new)
says_of (Ok x) Is r old new is (inl same) = inl same
says_of (Ok x) Is r old new is (inr shows) = inr (r, is, shows)
says_of (Err e) Is r old new is said = tt

-- of a specification that is that of the contents
pub says_beside : {X E : Type 0} (result : Result X E) (host : ResolvedParts) (contents : List ℕ) (spec : SpecView) (old new : List ℕ) →
    IsSpecFor host contents spec → OnOk result (Says (IsNumbered host spec) old new) → OnOk result (Says (IsBeside host contents) old new)
says_beside (Ok x) host contents spec old new is (inl same) = inl same
says_beside (Ok x) host contents spec old new is (inr (r, numbered, shows)) = inr (r, (spec, is, numbered), shows)
says_beside (Err e) host contents spec old new is said = tt

-- of a host for which contents stand
pub says_both : {X E : Type 0} (result : Result X E) (h : ResolvedParts) (host contents old new : List ℕ) → StandsFor host h →
    OnOk result (Says (IsBeside h contents) old new) → OnOk result (Says (StandsBeside host contents) old new)
says_both (Ok x) h host contents old new stands (inl same) = inl same
says_both (Ok x) h host contents old new stands (inr (r, beside, shows)) = inr (r, (h, stands, beside), shows)
says_both (Err e) h host contents old new stands said = tt

-- of a grammar with holes
pub says_holes : {X E : Type 0} (result : Result X E) (r : ResolvedParts) (g holes : GrammarView) (old new : List ℕ) → r.grammar ≡ Some g →
    holes ≡ with_holes_of g r.extensible → OnOk result (SaysIn r holes old new) → OnOk result (SaysOf r old new)
says_holes (Ok x) r g holes old new has is (inl same) = inl same
says_holes (Ok x) r g holes old new has is (inr (found, are, lines)) = inr (record {
  grammar = g;
  has_grammar = has;
  found = found;
  are = subst (λ h. AreReadings h found) is are;
  lines = lines;
})
says_holes (Err e) r g holes old new has is said = tt

-- of trees that are found
pub says_found : {X E : Type 0} (result : Result X E) (r : ResolvedParts) (g : GrammarView) (found : Found) (old new : List ℕ) →
    AreReadings g found → OnOk result (SaysFound r found old new) → OnOk result (SaysIn r g old new)
says_found (Ok x) r g found old new are (inl same) = inl same
says_found (Ok x) r g found old new are (inr lines) = inr (found, are, lines)
says_found (Err e) r g found old new are said = tt
