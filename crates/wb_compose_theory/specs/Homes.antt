-- The grammars that are certified apart: the host with holes, and the host with holes and one extension.
use Rattle.std.specs.Prelude.{◌<◌, ℕ}
use Rattle.wb_compose_theory.specs.Worlds.{World, Part, plus, both}
use Rattle.wb_compose_theory.specs.Composable.{IsComposableHostIn, IsComposableExtensionIn}

-- a grammar that is certified: that of the host, or that of the extension of this number
pub data Home : Type 0 where
  of_host : Home
  of : ℕ → Home

-- the part of the world that it is
abbrev pub part_of : Home → Part
part_of of_host = plus
part_of (of e) = both e

-- it is the host's, or that of one of the first n extensions
abbrev pub IsListed : ℕ → Home → Type 0
IsListed n of_host = Unit {0}
IsListed n (of e) = e < n

-- the host is certified, and so is each of the first n extensions against the host alone
pub record AreComposableApart (w : World) (n : ℕ) : Type 0 where
  pub of_host : IsComposableHostIn w
  pub of_extension : (e : ℕ) → e < n → IsComposableExtensionIn w e
