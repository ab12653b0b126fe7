-- Sets by numbers, of which none changes, and unions of them.
use Rattle.std.specs.Prelude.{◌≡◌, ◌↔◌, ◌<◌, ◌+◌, ◌++◌, ℕ, Bool, List, [], All, Contains, length, slice_index_or}
use Rattle.wb_termset.specs.Sets.{IsEmpty, IsMember}
use Rattle.wb_base.specs.Grammar.{GrammarView}
use Rattle.wb_digraph.specs.declared.pool.Union.{Union}

-- the set of this number
abbrev pub set_at : List (List Bool) → ℕ → List Bool
set_at sets n = slice_index_or sets n []

-- there are sets with these numbers
abbrev pub AreNumbers : List (List Bool) → List ℕ → Type 0
AreNumbers sets numbers = All (λ n. n < length sets) numbers

-- there are more sets than before
abbrev pub Extends : List (List Bool) → List (List Bool) → Type 0
Extends old new = (more : List (List Bool)) × (new ≡ old ++ more)

-- each set is one of numbers below the width
abbrev pub HaveWidth : ℕ → List (List Bool) → Type 0
HaveWidth width sets = All (λ set. length set ≡ width) sets

-- the first set is empty, and has room for the terminals and the end
pub record IsStart (g : GrammarView) (sets : List (List Bool)) : Type 0 where
  pub some : 0 < length sets
  pub empty : IsEmpty (set_at sets 0)
  pub width : length (set_at sets 0) ≡ g.terminals + 1

-- the set has exactly the members of the sets with these numbers
abbrev pub HasMembersOf : List (List Bool) → List ℕ → List Bool → Type 0
HasMembersOf sets numbers set = (t : ℕ) → IsMember set t ↔ ((n : ℕ) × Contains numbers n × IsMember (set_at sets n) t)

-- the whole is the number of a set that has exactly the members of the sets with the numbers of the parts
pub record IsUnionOf (sets : List (List Bool)) (parts : List ℕ) (whole : ℕ) : Type 0 where
  pub numbers : AreNumbers sets parts
  pub within : whole < length sets
  pub members : HasMembersOf sets parts (set_at sets whole)

-- the first set is empty, all are of numbers below one count, and the unions are as they are remembered
pub record IsPool (sets : List (List Bool)) (unions : List Union) : Type 0 where
  pub some : 0 < length sets
  pub empty : IsEmpty (set_at sets 0)
  pub widths : All (λ set. length set ≡ length (set_at sets 0)) sets
  pub remembered : All (λ (union : Union). IsUnionOf sets union.parts.items union.whole) unions
