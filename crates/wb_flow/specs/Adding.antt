-- Lists to which values are added, in any order.
use Rattle.std.specs.Prelude.{◌↔◌, ◌⊎◌, List, Contains}

-- the new list has what the old one has, and each value of which it holds, and nothing else
abbrev pub Adds : {X : Type 0} → List X → List X → (X → Type 0) → Type 0
Adds {X} old new P = (x : X) → Contains new x ↔ (Contains old x ⊎ P x)
