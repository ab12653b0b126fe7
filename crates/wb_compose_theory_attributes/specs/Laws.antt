-- What the laws say.
use Rattle.std.specs.Prelude.{ℕ, List, Some, None, All}
use Rattle.wb_flow_theory.specs.Modular.{AreWellDefinedAttributes, IsHosts}
use Rattle.wb_operations.specs.Operations.{OperationSignature, IsPlainSignature}
use Rattle.wb_syntax_resolved.specs.Attribution.{IsAttribution}
use Rattle.wb_types.specs.Rules.{KindsOk}
use Rattle.wb_compose_theory_worlds.specs.Named.{IsNamed}
use Rattle.wb_compose_theory_worlds.specs.Parts.{IsWellDefinedPart, IsWellDefinedExtension}
use Rattle.wb_compose_theory_worlds.specs.Worlds.{World, Part}
use Rattle.wb_compose_theory_attributes.specs.Images.{IsImage, IsExtensionImage}
use Rattle.wb_compose_theory_attributes.specs.Numbers.{NumberMap}
use Rattle.wb_compose_theory_attributes.specs.Tested.{AreAttributions, AreWellDefinedEach, HaveKindsEach}
use Rattle.wb_compose_theory_attributes.specs.Unions.{Rooted, IsUnionOf}

-- in new numbers a part stays well defined
abbrev pub StaysPart : World → Type 0
StaysPart v = IsNamed v → (part : Part) (w : World) (other : Part) (t : NumberMap) → IsImage v part w other t → IsWellDefinedPart v part
    → IsWellDefinedPart w other

-- and so does an extension with the host alone
abbrev pub StaysExtension : World → Type 0
StaysExtension v = IsNamed v → (w : World) (k : ℕ) (t : NumberMap) → IsExtensionImage v w k t → IsWellDefinedExtension v 0
    → IsWellDefinedExtension w k

-- the union of attributions is an attribution, and its start is the host's
pub record IsUnitedAttribution (a : Rooted) : Type 0 where
  pub attributes : IsAttribution a.attributes
  pub start : IsHosts a.attributes a.start

-- where the host was tested, and each extension with the host alone, the attributes of their union are well defined
abbrev pub IsUnitedWellDefined : Rooted → List Rooted → Rooted → Type 0
IsUnitedWellDefined host extensions a = IsUnionOf host extensions a → AreAttributions host extensions → AreWellDefinedEach host extensions
    → AreWellDefinedAttributes a.attributes (Some a.start) None

-- and each of its expressions is of its kind, where operations take and give no trees
abbrev pub HasUnitedKinds : Rooted → List Rooted → Rooted → Type 0
HasUnitedKinds host extensions a = IsUnionOf host extensions a → AreAttributions host extensions → (operations : List OperationSignature)
    → All IsPlainSignature operations → HaveKindsEach host extensions operations → KindsOk a.attributes operations
