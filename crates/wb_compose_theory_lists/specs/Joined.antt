-- Lists put together: those of a host, and those of its extensions one after another.
use Rattle.std.specs.Prelude.{◌+◌, ◌++◌, ℕ, suc, List, [], ◌∷◌}
use Rattle.wb_compose_theory.specs.Blocks.{spread}

-- the lists one after another
abbrev pub joined : {X : Type 0} → List (List X) → List X
joined [] = []
joined (xs ∷ xss) = xs ++ joined xss

-- what a function gives of each element and its number, where the first has this one
abbrev pub numbered : {X Y : Type 0} → (ℕ → X → Y) → ℕ → List X → List Y
numbered f number [] = []
numbered f number (x ∷ xs) = f number x ∷ numbered f (suc number) xs

-- those of a host that lead, then those of its extensions that lead, and so those that follow
abbrev pub grouped : {X : Type 0} → List X → List (List X) → List X → List (List X) → List X
grouped leading leads following follows = leading ++ joined leads ++ following ++ joined follows

-- how many come before those of an extension, how many these are, and how many those of all extensions are
pub record Block : Type 0 where
  pub before : ℕ
  pub size : ℕ
  pub total : ℕ

-- where a number of the host with an extension is, when the host has so many
abbrev pub place_after : ℕ → Block → ℕ → ℕ
place_after own b number = spread own b.before b.size b.total number

-- where a number of the host with an extension is, when so many of the host lead and so many follow
abbrev pub place_grouped : (leading following : ℕ) → (lead follow : Block) → ℕ → ℕ
place_grouped leading following lead follow number =
    place_after (leading + lead.total + following) follow (place_after leading lead number)
