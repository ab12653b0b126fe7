-- New numbers for what an attribution has, its extensions included, and new numbers that undo others.
use Rattle.std.specs.Prelude.{◌≡◌, ℕ, zero, suc}
use Rattle.wb_compose_theory_attributes.specs.Numbers.{NumberMap}

-- where the numbers of terminals, nonterminals, attributes, productions and locals go, and the places of extensions
pub record Renumbering : Type 0 where
  pub numbers : NumberMap
  pub extension : ℕ → ℕ

-- whose something is: what is the host's stays so
abbrev pub owner_by : (ℕ → ℕ) → ℕ → ℕ
owner_by extension zero = zero
owner_by extension (suc k) = suc (extension k)

-- the second new numbers undo the first; a local's is undone on the production's new number
pub record AreNumbersUndoneBy (t u : NumberMap) : Type 0 where
  pub terminal : (k : ℕ) → u.terminal (t.terminal k) ≡ k
  pub nonterminal : (m : ℕ) → u.nonterminal (t.nonterminal m) ≡ m
  pub attribute : (y : ℕ) → u.attribute (t.attribute y) ≡ y
  pub production : (p : ℕ) → u.production (t.production p) ≡ p
  pub local_in : (p x : ℕ) → u.local_in (t.production p) (t.local_in p x) ≡ x

-- the second renumbering undoes the first
pub record IsUndoneBy (r s : Renumbering) : Type 0 where
  pub numbers : AreNumbersUndoneBy r.numbers s.numbers
  pub extension : (k : ℕ) → s.extension (r.extension k) ≡ k
