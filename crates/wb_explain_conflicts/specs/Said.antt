-- What is said of a conflict.
use Rattle.std.specs.Prelude.{◌≡◌, ◌⊎◌, ◌++◌, ℕ, Bool, List, Some, if◌then◌else◌}
use lib.Chars.{codes}
use Rattle.wb_base.specs.Grammar.{GrammarView}
use Rattle.wb_certify_files.specs.HostContents.{StandsFor}
use Rattle.wb_certify_files.specs.Numbered.{IsNumbered}
use Rattle.wb_certify_files.specs.Specifications.{IsSpecFor}
use Rattle.wb_explain_readings.specs.declared.found.Found.{Found}
use Rattle.wb_explain_readings.specs.Readings.{AreReadings}
use Rattle.wb_marking_holes.specs.Holes.{with_holes_of}
use Rattle.wb_syntax.specs.SpecText.{SpecView}
use Rattle.wb_syntax_resolved.specs.declared.resolved.ResolvedParts.{ResolvedParts}
use Rattle.wb_explain_conflicts.specs.Words.{HasTree, HasWords, text_shown}

-- what is said before the text
abbrev pub heading : Bool → List ℕ
heading whole =
    if whole then codes "\nThis text, by its terminals, has two trees:\n\n   "
    else codes "\nNo text with two trees was found. Both trees below begin with these terminals, and\nthen differ:\n\n   "

-- what is said before the trees
abbrev pub before_first : List ℕ
before_first = codes "\n\nBy the first of the two things, each production with its parts:\n\n   "

abbrev pub before_second : List ℕ
before_second = codes "\n\nBy the second:\n\n   "

-- after what was there come the names of the text's terminals, and both trees with the names of productions and terminals, some
-- brackets left out
pub record Lines (r : ResolvedParts) (found : Found) (old new : List ℕ) : Type 0 where
  pub text : List ℕ
  pub has_text : HasWords (text_shown r found.text) (old ++ heading found.is_whole) text
  pub first : List ℕ
  pub has_first : HasTree r found.first (text ++ before_first) first
  pub second : List ℕ
  pub has_second : HasTree r found.second (first ++ before_second) second
  pub lines : new ≡ second ++ codes "\n"

-- the trees that are shown are derivation trees of the value's grammar with holes, and differ: of this one text, where it is said to have
-- two trees, and else of texts that begin with it
pub record ShowsConflict (r : ResolvedParts) (old new : List ℕ) : Type 0 where
  pub grammar : GrammarView
  pub has_grammar : r.grammar ≡ Some grammar
  pub found : Found
  pub are : AreReadings (with_holes_of grammar r.extensible) found
  pub lines : Lines r found old new

-- the specification is one of an extension of this host, and stands with it for the value
abbrev pub IsBeside : ResolvedParts → List ℕ → ResolvedParts → Type 0
IsBeside host contents r = (spec : SpecView) × IsSpecFor host contents spec × IsNumbered host spec r

-- so it is with the host for which these contents stand
abbrev pub StandsBeside : List ℕ → List ℕ → ResolvedParts → Type 0
StandsBeside host contents r = (h : ResolvedParts) × StandsFor host h × IsBeside h contents r

-- nothing is said, or a conflict is shown of a value that is meant
abbrev pub Says : (ResolvedParts → Type 0) → List ℕ → List ℕ → Type 0
Says Is old new = (new ≡ old) ⊎ ((r : ResolvedParts) × Is r × ShowsConflict r old new)
