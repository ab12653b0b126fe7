-- A report that comes after the checks of extensions comes after them in every other order.
use Rattle.std.proofs.Common.{◌∷◌, ◌++◌, [], ℕ, List, Some, inl, inr, subst, arith}
use Rattle.wb_base.specs.Different.{Differ}
use Rattle.wb_operations.specs.Operations.{OperationSignature}
use Rattle.wb_compose_theory_order.specs.Orders.{IsReordering}
use Rattle.wb_syntax_resolved.specs.declared.resolved.ResolvedParts.{ResolvedParts}
use Rattle.wb_world.specs.Shelf.{Files}
use Rattle.wb_program.specs.Checks.{Report}
use Rattle.wb_program.specs.SeveralChecks.{RefusesEach, RefusesNext, SeveralChecks, names_of}
use Rattle.wb_program.specs.status.Status.{Status}
use Rattle.wb_program.specs.status.Status.TheVariants.{DuplicateExtension, NotCertified, SpecRefused, TooManyExtensions, WrongHost}
use Rattle.wb_program_theory.specs.Certified.{AreCertified}
use Rattle.wb_program_theory.proofs.FileLemmas.{AreReordered, names_differ, no_fewer, reordered_are}

-- no status that meets this refuses the host or an extension
pub record RefusesNone (P : Status → Type 0) : Type 0 where
  pub specification : ¬ P SpecRefused
  pub certification : ¬ P NotCertified
  pub other_host : ¬ P WrongHost
  pub duplicate : ¬ P DuplicateExtension
  pub many : ¬ P TooManyExtensions

module _ (P : Status → Type 0) (none : RefusesNone P) (operations : List OperationSignature) (files : Files) (status : Status)
    (bytes : List ℕ) (meets : P status) where
  module _ (host : ResolvedParts) where
    -- a refusal has another status
    not_next : (before : List ResolvedParts) (file : List ℕ) → RefusesNext operations (Some files) host before file status bytes → ⊥
    not_next before file (inl (ends, x)) = none.specification (subst P ends meets)
    not_next before file (inr (inl (ends, x))) = none.other_host (subst P ends meets)
    not_next before file (inr (inr (inl (ends, x)))) = none.duplicate (subst P ends meets)
    not_next before file (inr (inr (inr (inl (ends, x))))) = none.specification (subst P ends meets)
    not_next before file (inr (inr (inr (inr (ends, x))))) = none.certification (subst P ends meets)

    not_refused : (left : List (List ℕ)) (before : List ResolvedParts) → RefusesEach operations (Some files) host left before status bytes
        → ⊥
    not_refused [] before refuses = refuses
    not_refused (file ∷ left) before (inl refuses) = not_next before file refuses
    not_refused (file ∷ left) before (inr (value, is, later)) = not_refused left (before ++ value ∷ []) later

  module _ (rest : ResolvedParts → List ResolvedParts → Report) (host : List ℕ) (all others : List (List ℕ)) (to from : ℕ → ℕ)
      (re : IsReordering to from all others) where
    -- the report is there in the other order, where the rest of it is
    pub several_there : ((r : ResolvedParts) (values in_order : List ResolvedParts) → IsReordering to from values in_order
        → Differ (names_of values) → rest r values status bytes → rest r in_order status bytes)
        → SeveralChecks operations (Some files) host all rest status bytes
        → SeveralChecks operations (Some files) host others rest status bytes
    several_there goes_on (inl (ends, x)) = absurd (none.many (subst P ends meets))
    several_there goes_on (inr (few, inl (ends, x))) = absurd (none.specification (subst P ends meets))
    several_there goes_on (inr (few, inr (inl (ends, x)))) = absurd (none.certification (subst P ends meets))
    several_there goes_on (inr (few, inr (inr (r, is, inl refused)))) = absurd (not_refused r all [] refused)
    several_there goes_on (inr (few, inr (inr (r, is, inr (values, each, report))))) =
        let as_few = no_fewer operations files r all others to from re values each in
        let x : AreReordered operations files r others to from values =
        reordered_are operations files r all others to from re values each in
        let differ : Differ (names_of values) = names_differ operations files r all others to from re values each in
        inr (
          omega (arith, few, as_few),
          inr (inr (r, is, inr (x.in_order, x.each, goes_on r values x.in_order x.reordering differ report))),
        )

-- a report with such a status is of files that hold a certified host and certified extensions, and is the rest of theirs
pub several_certified : (P : Status → Type 0) → RefusesNone P → (operations : List OperationSignature) (files : Files) (status : Status)
    (bytes : List ℕ) → P status → (rest : ResolvedParts → List ResolvedParts → Report) (host : List ℕ) (all : List (List ℕ))
    → SeveralChecks operations (Some files) host all rest status bytes
    → (r : ResolvedParts) × (values : List ResolvedParts) × AreCertified operations files host all r values × rest r values status bytes
several_certified P none operations files status bytes meets rest host all (inl (ends, x)) = absurd (none.many (subst P ends meets))
several_certified P none operations files status bytes meets rest host all (inr (few, inl (ends, x))) =
    absurd (none.specification (subst P ends meets))
several_certified P none operations files status bytes meets rest host all (inr (few, inr (inl (ends, x)))) =
    absurd (none.certification (subst P ends meets))
several_certified P none operations files status bytes meets rest host all (inr (few, inr (inr (r, is, inl refused)))) =
    absurd (not_refused P none operations files status bytes meets r all [] refused)
several_certified P none operations files status bytes meets rest host all (inr (few, inr (inr (r, is, inr (values, each, report))))) =
    (r, values, record { is_host = is; few = few; each = each }, report)
