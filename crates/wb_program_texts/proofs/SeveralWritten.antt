-- A report that begins with the checks of several extensions has a status with which it is written whole, where the rest has one.
use Rattle.std.proofs.Common.{inl, inr, ℕ, Option, List, [], ◌∷◌, ◌++◌, subst, sym}
use Rattle.wb_operations.specs.Operations.{OperationSignature}
use Rattle.wb_syntax_resolved.specs.declared.resolved.ResolvedParts.{ResolvedParts}
use Rattle.wb_world.specs.Shelf.{Files}
use Rattle.wb_program_files.specs.HostContents.{IsHostText, IsHostRefusal}
use Rattle.wb_program_files.specs.Checks.{Report}
use Rattle.wb_program_files.specs.declared.status.Status.{Status}
use Rattle.wb_program_files.proofs.WrittenWhole.{IsReported, by_host}
use Rattle.wb_program_texts.specs.SeveralChecks.{EachChecks, RefusesEach, SeveralChecks}

module _ (operations : List OperationSignature) (known : Option Files) (all : List (List ℕ)) (s : Status) (bytes : List ℕ) where
  -- one that is refused
  refused_reported : (r : ResolvedParts) (left : List (List ℕ)) (before : List ResolvedParts)
      → RefusesEach operations known r left before s bytes → IsReported s
  refused_reported r [] before none = absurd none
  refused_reported r (file ∷ left) before (inl (inl (same, line))) = subst IsReported (sym same) tt
  refused_reported r (file ∷ left) before (inl (inr (inl (same, line)))) = subst IsReported (sym same) tt
  refused_reported r (file ∷ left) before (inl (inr (inr (inl (same, line))))) = subst IsReported (sym same) tt
  refused_reported r (file ∷ left) before (inl (inr (inr (inr (inl (same, line)))))) = subst IsReported (sym same) tt
  refused_reported r (file ∷ left) before (inl (inr (inr (inr (inr (same, line)))))) = subst IsReported (sym same) tt
  refused_reported r (file ∷ left) before (inr (value, is, later)) = refused_reported r left (before ++ value ∷ []) later

  -- each of them
  each_reported : (rest : ResolvedParts → List ResolvedParts → Report)
      → ((r : ResolvedParts) (values : List ResolvedParts) → rest r values s bytes → IsReported s) → (r : ResolvedParts)
      → EachChecks operations known r all (rest r) s bytes → IsReported s
  each_reported rest more r (inl is) = refused_reported r all [] is
  each_reported rest more r (inr (values, each, report)) = more r values report

  -- all checks
  pub several_reported : (host : List ℕ) (rest : ResolvedParts → List ResolvedParts → Report)
      → ((r : ResolvedParts) (values : List ResolvedParts) → rest r values s bytes → IsReported s)
      → SeveralChecks operations known host all rest s bytes → IsReported s
  several_reported host rest more (inl (same, line)) = subst IsReported (sym same) tt
  several_reported host rest more (inr (few, report)) =
      by_host (IsHostText operations) (IsHostRefusal operations) known host (λ r. EachChecks operations known r all (rest r)) s bytes
      (each_reported rest more) report
