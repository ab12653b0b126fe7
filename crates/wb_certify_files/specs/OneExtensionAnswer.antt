-- That contents have one answer: a certified extension of the host, or a refusal of one sort; and so by their first line.
use Rattle.std.specs.Prelude.{◌≡◌, List, ℕ}
use Rattle.wb_operations.specs.Operations.{OperationSignature}
use Rattle.wb_report.specs.declared.refusal.Refusal.{Refusal}
use Rattle.wb_syntax_resolved.specs.declared.resolved.ResolvedParts.{ResolvedParts}
use Rattle.wb_syntax.specs.SpecText.{SpecView}
use Rattle.wb_certify_files.specs.ExtensionContents.{IsExtensionText, IsExtensionRefusal}
use Rattle.wb_certify_files.specs.Specifications.{IsSpecFor, IsHeaderRefusal}
use Rattle.wb_certify_files.specs.declared.extension_refusal.FileRefusal.{FileRefusal}
use Rattle.wb_certify_files.specs.declared.extension_refusal.FileRefusal.TheVariants as f

-- the refusal is that memory ran out
abbrev pub IsFileMemory : FileRefusal → Type 0
IsFileMemory (f.NoMemory error) = Unit {0}
IsFileMemory other = ⊥

module _ (host : ResolvedParts) (operations : List OperationSignature) (contents : List ℕ) where
  -- refusals of two sorts aren't both true, and another host has one name
  pub record AreOfOneSort : Type 0 where
    pub specification_host : (shown : Refusal) (name : List ℕ) → IsExtensionRefusal host operations contents (f.Specification shown)
        → ¬ IsExtensionRefusal host operations contents (f.WrongHost name)
    pub specification_certification : (shown other : Refusal) → IsExtensionRefusal host operations contents (f.Specification shown)
        → ¬ IsExtensionRefusal host operations contents (f.Certification other)
    pub host_certification : (name : List ℕ) (shown : Refusal) → IsExtensionRefusal host operations contents (f.WrongHost name)
        → ¬ IsExtensionRefusal host operations contents (f.Certification shown)
    pub one_host : (name other : List ℕ) → IsExtensionRefusal host operations contents (f.WrongHost name)
        → IsExtensionRefusal host operations contents (f.WrongHost other) → name ≡ other

  -- contents are a certified extension of one value at most; where they are one they aren't refused, except when memory runs out; and
  -- refusals are of one sort
  pub record HaveOneExtensionAnswer : Type 0 where
    pub one : (r s : ResolvedParts) → IsExtensionText host operations contents r → IsExtensionText host operations contents s → r ≡ s
    pub certified : (r : ResolvedParts) → IsExtensionText host operations contents r → (refusal : FileRefusal)
        → IsExtensionRefusal host operations contents refusal → IsFileMemory refusal
    pub sorts : AreOfOneSort

-- contents are one specification of an extension of the host at most; where they are one they aren't refused for the first line, except
-- when memory runs out; and what is shown for the first line is shown of the contents
pub record HaveOneHeader (host : ResolvedParts) (contents : List ℕ) : Type 0 where
  pub one : (x y : SpecView) → IsSpecFor host contents x → IsSpecFor host contents y → x ≡ y
  pub excluded : (spec : SpecView) → IsSpecFor host contents spec → (refusal : FileRefusal) → IsHeaderRefusal host contents refusal
      → IsFileMemory refusal
  pub refused : (operations : List OperationSignature) (refusal : FileRefusal) → IsHeaderRefusal host contents refusal
      → IsExtensionRefusal host operations contents refusal
