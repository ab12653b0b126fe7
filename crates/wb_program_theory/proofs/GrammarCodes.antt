-- Refusals of a host by rules of grammars and scanners have one code.
use Rattle.std.proofs.Common.{◌≡◌, ◌∙◌, ℕ, List, Option, Some, inl, inr, refl, subst, sym}
use Rattle.std.proofs.lemmas.Option.{same_Some}
use lib.Chars.{codes}
use Rattle.wb_base.specs.Grammar.{GrammarView}
use Rattle.wb_certify_files.specs.Shows.{grammar_reason, of_grammar}
use Rattle.wb_determinism_contexts.proofs.ConflictLemmas.{shown_conflict}
use Rattle.wb_determinism_contexts.specs.Considered.{HasNoClashAt, LexiconView}
use Rattle.wb_determinism_host.proofs.RefusalLemmas.{not_reduced}
use Rattle.wb_determinism_host.specs.declared.refusal.DeterminismRefusal.{DeterminismRefusal}
use Rattle.wb_determinism_host.specs.declared.refusal.DeterminismRefusal.TheVariants as d
use Rattle.wb_determinism_host.specs.Hosts.{AreAcyclic, IsDeterministicBy, IsFitForParsing}
use Rattle.wb_determinism_host.specs.Refusals.{IsNoMemory, IsRefusalBy}
use Rattle.wb_grammar.specs.declared.refusal.Reason.{Reason}
use Rattle.wb_grammar.specs.declared.refusal.Reason.TheVariants.{Unreachable, Unproductive}
use Rattle.wb_grammar_theory.proofs.CycleLemmas.{first_element, hidden_cycle_above, unit_cycle_member}
use Rattle.wb_grammar_theory.specs.Cycles.{HasNoHiddenLeftRecursion, HasNoUnitCycle, IsHiddenCycle, IsUnitCycle}
use Rattle.wb_grammar_theory.specs.Lookaheads.{HasNoConflict}
use Rattle.wb_grammar_theory.specs.Shape.{IsReduced}
use Rattle.wb_marking_holes.specs.Holes.{with_holes_of}
use Rattle.wb_report.specs.declared.refusal.Refusal.{Refusal}
use Rattle.wb_syntax_resolved.specs.declared.resolved.ResolvedParts.{ResolvedParts}
use Rattle.wb_program_theory.proofs.AttributeCodes.{Coded, coded}
use Rattle.wb_program_theory.proofs.ChainLemmas.{First, HasOne, first_one}

-- what holds of the grammar that there is
abbrev pub OfGrammar : Option GrammarView → (GrammarView → Type 0) → Type 0
OfGrammar there P = (g : GrammarView) → there ≡ Some g → P g

-- it holds where it holds of one
pub of_one : (there : Option GrammarView) (P : GrammarView → Type 0) (g : GrammarView) → there ≡ Some g → P g → OfGrammar there P
of_one there P g start holds k other = subst P (same_Some g k (sym start ∙ other)) holds

-- a unit cycle is one, and hidden left recursion is some
pub has_unit_cycle : (g : GrammarView) (list : List ℕ) → IsUnitCycle g list → ¬ HasNoUnitCycle g
has_unit_cycle g list cycle none =
    let (a, at) = first_element list cycle.nonempty in none a (unit_cycle_member g list cycle 0 a at)

pub has_hidden : (g : GrammarView) (list : List ℕ) → (cycle : IsHiddenCycle g list) → ¬ HasNoHiddenLeftRecursion g
has_hidden g list cycle none = none cycle.above (hidden_cycle_above g list cycle)

module _ (r : ResolvedParts) (there : Option GrammarView) (lexicon : GrammarView → LexiconView) (Later : List ℕ → Type 0) where
  -- the grammar with holes meets this
  abbrev WithHoles : (GrammarView → Type 0) → Type 0
  WithHoles P = OfGrammar there (λ g. P (with_holes_of g r.extensible))

  abbrev Clear : Type 0
  Clear = OfGrammar there (λ g. HasNoClashAt (with_holes_of g r.extensible) (lexicon g))

  -- the rules of a reduced grammar, and then the later ones
  abbrev pub ReducedRules : List ℕ → Type 0
  ReducedRules =
      First (WithHoles HasNoUnitCycle) (codes "G2")
      (First (WithHoles HasNoHiddenLeftRecursion) (codes "G3")
      (First (WithHoles HasNoConflict) (codes "G4") (First Clear (codes "G5") Later)))

  reduced_one : HasOne Later → HasOne ReducedRules
  reduced_one one =
      first_one (WithHoles HasNoUnitCycle) (codes "G2")
      (First (WithHoles HasNoHiddenLeftRecursion) (codes "G3")
      (First (WithHoles HasNoConflict) (codes "G4") (First Clear (codes "G5") Later)))
      (first_one (WithHoles HasNoHiddenLeftRecursion) (codes "G3")
      (First (WithHoles HasNoConflict) (codes "G4") (First Clear (codes "G5") Later))
      (first_one (WithHoles HasNoConflict) (codes "G4") (First Clear (codes "G5") Later) (first_one Clear (codes "G5") Later one)))

  -- the rules of a grammar, and then the later ones
  abbrev pub GrammarRules : List ℕ → Type 0
  GrammarRules = First (OfGrammar there IsReduced) (codes "G1") ReducedRules

  pub grammar_one : HasOne Later → HasOne GrammarRules
  grammar_one one = first_one (OfGrammar there IsReduced) (codes "G1") ReducedRules (reduced_one one)

  module _ (g : GrammarView) (start : there ≡ Some g) where
    -- a grammar fit for parsing passes the first of them
    after_fit : IsFitForParsing r g → (x : List ℕ)
        → First (WithHoles HasNoConflict) (codes "G4") (First Clear (codes "G5") Later) x → GrammarRules x
    after_fit fit x later =
        inr (
          of_one there IsReduced g start fit.sound.reduced,
          inr (
            of_one there (λ k. HasNoUnitCycle (with_holes_of k r.extensible)) g start fit.no_unit_cycle,
            inr (of_one there (λ k. HasNoHiddenLeftRecursion (with_holes_of k r.extensible)) g start fit.no_hidden_left_recursion, later),
          ),
        )

    -- a deterministic one passes all
    pub after_grammar : IsDeterministicBy r g (lexicon g) → (x : List ℕ) → Later x → GrammarRules x
    after_grammar is x later =
        after_fit is.fit x (inr (
          of_one there (λ k. HasNoConflict (with_holes_of k r.extensible)) g start is.no_conflict,
          inr (of_one there (λ k. HasNoClashAt (with_holes_of k r.extensible) (lexicon k)) g start is.no_clash, later),
        ))

    -- a grammar that isn't reduced is shown by either reason
    reason_shown : (R : List ℕ → Type 0) (reason : Reason) (shown : Refusal)
        → of_grammar (grammar_reason r (d.NotReduced reason)) ≡ Some shown → R (codes "G1") → Coded R shown
    reason_shown R (Unreachable k) shown is holds = coded R _ shown is (holds, (λ no. no))
    reason_shown R (Unproductive k) shown is holds = coded R _ shown is (holds, (λ no. no))

    -- a refusal for the grammar is of the first rule that fails; that of preferences comes before
    pub grammar_coded : (R : List ℕ → Type 0) → (AreAcyclic r → (x : List ℕ) → GrammarRules x → R x)
        → ((cycle : List ℕ) → IsRefusalBy r g (lexicon g) (d.PreferenceCycle cycle) → R (codes "G6")) → (refusal : DeterminismRefusal)
        → IsRefusalBy r g (lexicon g) refusal → ¬ IsNoMemory refusal → (shown : Refusal) → of_grammar (grammar_reason r refusal) ≡ Some shown
        → Coded R shown
    grammar_coded R goes cycles (d.Markers m) fails other shown is = absurd fails
    grammar_coded R goes cycles (d.PreferenceCycle cycle) fails other shown is =
        coded R _ shown is (cycles cycle fails, (λ no. no))
    grammar_coded R goes cycles (d.NotReduced reason) fails other shown is =
        reason_shown R reason shown is
        (goes fails.0 (codes "G1") (inl ((λ reduced. not_reduced g reason fails.1 (reduced g start)), refl)))
    grammar_coded R goes cycles (d.UnitCycle list) fails other shown is =
        coded R _ shown is (
          goes fails.0.acyclic (codes "G2") (inr (
            of_one there IsReduced g start fails.0.reduced,
            inl ((λ none. has_unit_cycle (with_holes_of g r.extensible) list fails.1 (none g start)), refl),
          )),
          (λ no. no),
        )
    grammar_coded R goes cycles (d.HiddenLeftRecursion list) fails other shown is =
        coded R _ shown is (
          goes fails.0.acyclic (codes "G3") (inr (
            of_one there IsReduced g start fails.0.reduced,
            inr (
              of_one there (λ k. HasNoUnitCycle (with_holes_of k r.extensible)) g start fails.1,
              inl ((λ none. has_hidden (with_holes_of g r.extensible) list fails.2 (none g start)), refl),
            ),
          )),
          (λ no. no),
        )
    grammar_coded R goes cycles (d.Conflict prefix terminal first second) fails other shown is =
        coded R _ shown is (
          goes fails.0.sound.acyclic (codes "G4") (after_fit fails.0 (codes "G4") (inl (
            (λ none. none g start prefix terminal
                (shown_conflict (with_holes_of g r.extensible) prefix terminal first second fails.1)),
            refl,
          ))),
          (λ no. no),
        )
    grammar_coded R goes cycles (d.Clash prefix left right text) fails other shown is =
        coded R _ shown is (
          goes fails.0.sound.acyclic (codes "G5") (after_fit fails.0 (codes "G5") (inr (
            of_one there (λ k. HasNoConflict (with_holes_of k r.extensible)) g start fails.1,
            inl ((λ none. none g start prefix left right text fails.2), refl),
          ))),
          (λ no. no),
        )
    grammar_coded R goes cycles (d.Lookahead p i t) fails other shown is = absurd fails
    grammar_coded R goes cycles (d.Envelope p f) fails other shown is = absurd fails
    grammar_coded R goes cycles (d.NoMemory e) fails other shown is = absurd (other tt)
