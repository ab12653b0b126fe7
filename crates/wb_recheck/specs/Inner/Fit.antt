-- Grammars that pass their analysis, and texts of certificates within a limit.
use Rattle.std.specs.Prelude.{◌≡◌, ◌<◌, ◌≤◌, ℕ, List, Option, Some, None, length}
use Rattle.wb_base.specs.Grammar.{GrammarView}
use Rattle.wb_grammar_theory.specs.Cycles.{HasNoHiddenLeftRecursion, HasNoUnitCycle}
use Rattle.wb_grammar_theory.specs.Shape.{IsReduced}
use Rattle.wb_recheck_text.specs.declared.certificate.Head.{Head}
use Rattle.wb_recheck_text.specs.declared.certificate.Head.TheVariants.{Extension}
use Rattle.wb_recheck_text.specs.Faults.{AreNames}
use Rattle.wb_certify.specs.Extensions.{IsOneExtension}
use Rattle.wb_certify.specs.DeterministicHosts.{IsFitForParsing}
use Rattle.wb_marking_holes.specs.Holes.{with_holes_of}
use Rattle.wb_syntax_resolved.specs.declared.resolved.ResolvedParts.{ResolvedParts}
use Rattle.wb_recheck.specs.CertificateTexts.{IsCertificateText}

-- the grammar is reduced and has neither unit cycles nor hidden left recursion
pub record IsFit (g : GrammarView) : Type 0 where
  pub reduced : IsReduced g
  pub no_unit_cycle : HasNoUnitCycle g
  pub no_hidden_left_recursion : HasNoHiddenLeftRecursion g

-- the text of the certificate with this head, which has no more bytes than the limit, or none where each such text has more
abbrev pub IsTextWithin : GrammarView → Head → ℕ → Option (List ℕ) → Type 0
IsTextWithin g head limit None = (text : List ℕ) → IsCertificateText g head text → limit < length text
IsTextWithin g head limit (Some text) = IsCertificateText g head text × (length text ≤ limit)

-- the specification has a grammar that with holes is fit for parsing
pub record IsFitWithHoles (r : ResolvedParts) : Type 0 where
  pub grammar : GrammarView
  pub start : r.grammar ≡ Some grammar
  pub fit : IsFitForParsing r grammar

-- the same of its grammar with holes
abbrev pub IsTextOfHoles : ResolvedParts → Head → ℕ → Option (List ℕ) → Type 0
IsTextOfHoles r head limit made =
    (g : GrammarView) → r.grammar ≡ Some g → IsTextWithin (with_holes_of g r.extensible) head limit made

-- the head has the names of the one extension and of the host, which are names
pub record IsHeadOf (r : ResolvedParts) (head : Head) : Type 0 where
  pub name : List ℕ
  pub one : IsOneExtension r name
  pub is : head ≡ Extension name r.host
  pub names : AreNames head
