-- When each refusal is true: its rule fails with its name, and those before it hold. The rules go N2, N1, N4, N3.
use Rattle.std.specs.Prelude.{◌≢◌, ℕ, List, ◌++◌}
use Rattle.wb_names_theory.specs.declared.refusal.NameRefusal.{NameRefusal}
use Rattle.wb_names_theory.specs.declared.refusal.NameRefusal.TheVariants as r
use Rattle.wb_names_theory.specs.Duplicate.{FailsDuplicate}
use Rattle.wb_names_theory.specs.NamesOk.{Scope, NothingTwice, AllDeclared, AllOfKind}
use Rattle.wb_names_theory.specs.Orphan.{FailsOrphan}
use Rattle.wb_names_theory.specs.Unknown.{FailsUnknown}
use Rattle.wb_names_theory.specs.WrongKind.{FailsWrongKind}

-- nothing is declared twice, and this name isn't declared where its place asks for it
pub record IsUnknown (s : Scope) (name : List ℕ) : Type 0 where
  pub once : NothingTwice s
  pub fails : FailsUnknown (s.host ++ s.own) s.used name

-- each name is declared, and once, and this one is of another kind than its place asks for
pub record IsWrongKind (s : Scope) (name : List ℕ) : Type 0 where
  pub once : NothingTwice s
  pub declared : AllDeclared s
  pub fails : FailsWrongKind (s.host ++ s.own) s.used s.unplaced name

-- each name is declared, once and of the right kind, and an extension says of this one what it may not
pub record IsOrphan (s : Scope) (name : List ℕ) : Type 0 where
  pub once : NothingTwice s
  pub declared : AllDeclared s
  pub kinds : AllOfKind s
  pub extension : s.owner ≢ 0
  pub fails : FailsOrphan s.host s.own s.bounds name

-- the refusal tells of the first rule that fails; none here is about the first line of a file
abbrev pub IsTrueRefusal : Scope → NameRefusal → Type 0
IsTrueRefusal s (r.Duplicate name) = FailsDuplicate (s.host ++ s.own) name
IsTrueRefusal s (r.Unknown name) = IsUnknown s name
IsTrueRefusal s (r.WrongKind name) = IsWrongKind s name
IsTrueRefusal s (r.Orphan name) = IsOrphan s name
IsTrueRefusal s (r.WrongHost name) = ⊥
IsTrueRefusal s (r.NoMemory error) = Unit {0}
