-- When no name rule fails.
use Rattle.std.specs.Prelude.{◌≢◌, ℕ, List, ◌++◌}
use Rattle.wb_syntax_resolved.specs.declared.resolved.ResolvedParts.{ResolvedParts}
use Rattle.wb_names_theory.specs.declared.declaration.Declaration.{Declaration}
use Rattle.wb_names_theory.specs.declared.usage.Usage.{Usage}
use Rattle.wb_names_theory.specs.Declarations.{Items}
use Rattle.wb_names_theory.specs.Declares.{base_declarations, closed_names, item_declarations}
use Rattle.wb_names_theory.specs.Duplicate.{FailsDuplicate}
use Rattle.wb_names_theory.specs.Orphan.{Bounds, FailsOrphan}
use Rattle.wb_names_theory.specs.Unknown.{FailsUnknown}
use Rattle.wb_names_theory.specs.Uses.{uses}
use Rattle.wb_names_theory.specs.WrongKind.{FailsWrongKind, misplaced}

-- what the rules read: what is declared before a file, by its items, and what they use; the names of what they have where it has no place;
-- what bounds an extension; and whose the items are: 0 is a host
pub record Scope : Type 0 where
  pub host : List Declaration
  pub own : List Declaration
  pub used : List Usage
  pub unplaced : List (List ℕ)
  pub bounds : Bounds
  pub owner : ℕ

-- what bounds an extension of a base, in a file of this format
abbrev pub bounds_of : ResolvedParts → ℕ → Bounds
bounds_of base format = record { hosts_closed = closed_names base; format = format }

-- the scope of the items of an owner's file of this format on a base
abbrev pub scope_of : ResolvedParts → ℕ → ℕ → Items → Scope
scope_of base owner format items = record {
  host = base_declarations base;
  own = item_declarations items;
  used = uses items;
  unplaced = misplaced owner items;
  bounds = bounds_of base format;
  owner = owner;
}

-- nothing is declared twice
abbrev pub NothingTwice : Scope → Type 0
NothingTwice s = (name : List ℕ) → ¬ FailsDuplicate (s.host ++ s.own) name

-- each name is declared where its place asks for it
abbrev pub AllDeclared : Scope → Type 0
AllDeclared s = (name : List ℕ) → ¬ FailsUnknown (s.host ++ s.own) s.used name

-- each name is of the kind that its place asks for
abbrev pub AllOfKind : Scope → Type 0
AllOfKind s = (name : List ℕ) → ¬ FailsWrongKind (s.host ++ s.own) s.used s.unplaced name

-- an extension says what it may
abbrev pub AllOwned : Scope → Type 0
AllOwned s = s.owner ≢ 0 → (name : List ℕ) → ¬ FailsOrphan s.host s.own s.bounds name

-- the name rules hold
pub record NamesOk (s : Scope) : Type 0 where
  pub once : NothingTwice s
  pub declared : AllDeclared s
  pub kinds : AllOfKind s
  pub owned : AllOwned s
