-- What is shown of a file whose first line is wrong.
use Rattle.std.specs.Prelude.{◌≡◌, ℕ, List}
use Rattle.wb_names_theory.specs.declared.refusal.NameRefusal.{NameRefusal}
use Rattle.wb_names_theory.specs.declared.refusal.NameRefusal.TheVariants as n

-- the refusal shows this name for a file of the wrong sort, or is that memory ran out
abbrev pub IsWrongSort : List ℕ → NameRefusal → Type 0
IsWrongSort name (n.WrongKind shown) = shown ≡ name
IsWrongSort name (n.NoMemory error) = Unit {0}
IsWrongSort name other = ⊥

-- the refusal shows this other host, or is that memory ran out
abbrev pub IsWrongHost : List ℕ → NameRefusal → Type 0
IsWrongHost name (n.WrongHost shown) = shown ≡ name
IsWrongHost name (n.NoMemory error) = Unit {0}
IsWrongHost name other = ⊥
