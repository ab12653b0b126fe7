-- What passes over declarations and look-ups by key say.
use Rattle.std.specs.Prelude.{◌≡◌, ℕ, true, false, List, Option, Some, MatchOption, length, Contains, slice_get}
use Rattle.wb_names_theory.specs.declared.declaration.Declaration.{Declaration}
use Rattle.wb_names_theory.specs.declared.declaration.Declaration.TheVariants as d
use Rattle.wb_names_theory.specs.declared.declaration.Sort.TheVariants as sort
use Rattle.wb_names_theory.specs.declared.refusal.NameRefusal.{NameRefusal}
use Rattle.wb_names_theory.specs.declared.refusal.NameRefusal.TheVariants as r
use Rattle.wb_names_theory.specs.Duplicate.{AreSame, Counts, FailsDuplicate, shown_name}
use Rattle.wb_names_rules.specs.declared.table.Pass.{Pass}
use Rattle.wb_names_rules.specs.declared.table.Pass.TheVariants.{Symbols, Others}
use Rattle.wb_names_rules.specs.Keys.{key_of}
use Rattle.wb_names_rules.specs.Indexed.{is_symbol, IsKept}

-- a pass is over this declaration
abbrev pub IsIn : Pass → Declaration → Type 0
IsIn Symbols declaration = is_symbol declaration ≡ true
IsIn Others declaration = is_symbol declaration ≡ false

-- what a table knows of symbols once all of them were passed over
pub record KnowsSymbols (declared : List Declaration) (keys : List (List ℕ)) (places : List ℕ) : Type 0 where
  pub len : length places ≡ length keys
  pub sound : (key : List ℕ) (place : ℕ) → IsKept keys places key place
      → (one : Declaration) × (slice_get declared place ≡ Some one) × (key ≡ key_of one)
  pub complete : (at : ℕ) (one : Declaration) → slice_get declared at ≡ Some one → is_symbol one ≡ true → Contains keys (key_of one)
  pub once : (i j : ℕ) (one other : Declaration) → slice_get declared i ≡ Some one → slice_get declared j ≡ Some other
      → is_symbol one ≡ true → AreSame one other → i ≡ j

-- the declaration at a place is a production's
abbrev pub IsProductionAt : List Declaration → ℕ → Type 0
IsProductionAt declared place = (name : List ℕ) × (slice_get declared place ≡ Some (d.Symbol name sort.Production))

-- a declaration with the key is at this place
pub record IsAtKey (declared : List Declaration) (key : List ℕ) (place : ℕ) : Type 0 where
  pub declaration : Declaration
  pub at : slice_get declared place ≡ Some declaration
  pub is_key : key ≡ key_of declaration

-- no declaration that counts has the key
abbrev pub HasNoKey : List Declaration → List ℕ → Type 0
HasNoKey declared key = (one : Declaration) → Contains declared one → Counts declared one → key_of one ≡ key → ⊥

-- what is found by a key is the place of a declaration that has it, or nothing where no declaration that counts has it
abbrev pub IsFound : List Declaration → List ℕ → Option ℕ → Type 0
IsFound declared key found = MatchOption found (HasNoKey declared key) (IsAtKey declared key)

-- the refusal shows the declaration as one that is there already, unless memory ran out
abbrev pub IsRefusedAs : Declaration → NameRefusal → Type 0
IsRefusedAs declaration (r.Duplicate name) = name ≡ shown_name declaration
IsRefusedAs declaration (r.NoMemory error) = Unit {0}
IsRefusedAs declaration other = ⊥

-- the refusal tells that something is declared twice, unless memory ran out
abbrev pub IsDuplicate : List Declaration → NameRefusal → Type 0
IsDuplicate declared (r.Duplicate name) = FailsDuplicate declared name
IsDuplicate declared (r.NoMemory error) = Unit {0}
IsDuplicate declared other = ⊥
