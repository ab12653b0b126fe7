-- What all tests together answer, and what a refusal of one of them says.
use Rattle.std.specs.Prelude.{◌≡◌, ◌≢◌, ℕ, List, [], All, take, drop}
use Rattle.wb_names_theory.specs.declared.declaration.Declaration.{Declaration}
use Rattle.wb_names_theory.specs.declared.refusal.NameRefusal.{NameRefusal}
use Rattle.wb_names_theory.specs.declared.refusal.NameRefusal.TheVariants as r
use Rattle.wb_names_theory.specs.Declarations.{Items}
use Rattle.wb_names_theory.specs.Orphan.{Bounds, FailsOrphan}
use Rattle.wb_names_theory.specs.Unknown.{FailsUnknown}
use Rattle.wb_names_theory.specs.Uses.{uses}
use Rattle.wb_names_theory.specs.WrongKind.{FailsWrongKind, misplaced}
use Rattle.wb_names_rules.specs.Inner.Owners.{MayDeclare}
use Rattle.wb_names_rules.specs.Inner.Tests.{IsKnown, IsOfKind}

module _ (declared : List Declaration) (owner : ℕ) (items : Items) where
  -- what is used is declared and of the right kind, and nothing is where it has no place
  pub record UsesPass : Type 0 where
    pub known : All (IsKnown declared) (uses items)
    pub kinds : All (IsOfKind declared) (uses items)
    pub placed : misplaced owner items ≡ []

  -- all is known, and a name shows that something is of another kind
  pub record KindFails (name : List ℕ) : Type 0 where
    pub known : All (IsKnown declared) (uses items)
    pub fails : FailsWrongKind declared (uses items) (misplaced owner items) name

  -- the refusal tells that a use fails, unless memory ran out
  abbrev pub UsesFail : NameRefusal → Type 0
  UsesFail (r.Unknown name) = FailsUnknown declared (uses items) name
  UsesFail (r.WrongKind name) = KindFails name
  UsesFail (r.NoMemory error) = Unit {0}
  UsesFail other = ⊥

module _ (declared : List Declaration) (from owner : ℕ) (bounds : Bounds) where
  -- an extension, whose own declarations begin at a place, says only what it may
  abbrev pub OwnerPasses : Type 0
  OwnerPasses = owner ≢ 0 → All (MayDeclare declared from bounds) (drop from declared)

  -- the refusal tells that an extension says what it may not, unless memory ran out
  abbrev pub OwnerFails : NameRefusal → Type 0
  OwnerFails (r.Orphan name) = (owner ≢ 0) × FailsOrphan (take from declared) (drop from declared) bounds name
  OwnerFails (r.NoMemory error) = Unit {0}
  OwnerFails other = ⊥
