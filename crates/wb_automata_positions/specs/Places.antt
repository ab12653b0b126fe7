-- A machine of places for several expressions: by which texts one comes from the start of an expression to an end.
use Rattle.std.specs.Prelude.{◌≡◌, ◌+◌, ◌<◌, ◌⊎◌, ℕ, List, [], ◌∷◌, Some, length, slice_get, slice_index}
use Rattle.wb_regex.specs.Tree.{Tree}
use Rattle.wb_regex.specs.Matches.{Matches, HoldsByte}
use Rattle.wb_automata_positions.specs.declared.places.Place.{Place}
use Rattle.wb_automata_positions.specs.declared.places.Place.TheVariants as p
use Rattle.wb_automata_positions.specs.declared.places.Places.{Places}

-- what is at a place goes on at another without reading
abbrev pub GoesOn : Place → ℕ → Type 0
GoesOn (p.Read words next) q = ⊥
GoesOn (p.Go next) q = q ≡ next
GoesOn (p.Fork next other) q = (q ≡ next) ⊎ (q ≡ other)
GoesOn (p.End number) q = ⊥

-- what is at a place reads the byte and goes on at another
abbrev pub ReadsTo : Place → ℕ → ℕ → Type 0
ReadsTo (p.Read words next) b q = HoldsByte words b × (q ≡ next)
ReadsTo (p.Go next) b q = ⊥
ReadsTo (p.Fork next other) b q = ⊥
ReadsTo (p.End number) b q = ⊥

-- by the text one comes from the place to the end of the expression with this number
pub data Runs (places : List Place) : ℕ → ℕ → List ℕ → Type 0 where
  ended : {at number : ℕ} {x : List ℕ} → slice_get places at ≡ Some (p.End number) → x ≡ [] → Runs places at number x
  reads : {at number : ℕ} {x rest : List ℕ} (place : Place) (b q : ℕ) → slice_get places at ≡ Some place → ReadsTo place b q
      → Runs places q number rest → x ≡ b ∷ rest → Runs places at number x
  moves : {at number : ℕ} {x : List ℕ} (place : Place) (q : ℕ) → slice_get places at ≡ Some place → GoesOn place q
      → Runs places q number x → Runs places at number x

-- the places at which what is here goes on are below the count
abbrev pub GoesBelow : ℕ → Place → Type 0
GoesBelow m (p.Read words next) = next < m
GoesBelow m (p.Go next) = next < m
GoesBelow m (p.Fork next other) = (next < m) × (other < m)
GoesBelow m (p.End number) = Unit {0}

-- each place goes on at places of the list
abbrev pub ArePlacesBelow : List Place → Type 0
ArePlacesBelow places = (i : ℕ) (place : Place) → slice_get places i ≡ Some place → GoesBelow (length places) place

-- there is a start for each expression, from where one comes to its own end by exactly the texts that match it, and to no other end; and the
-- ends of the expressions lie one after the other
pub record ArePlaces (trees : List Tree) (m : Places) : Type 0 where
  pub below : ArePlacesBelow m.places.items
  pub starts_len : length m.starts.items ≡ length trees
  pub starts_below : (k : ℕ) → k < length trees → slice_index m.starts.items k < length m.places.items
  pub ends_fit : m.first_end + length trees ≡ length m.places.items
  pub ends : (k : ℕ) → k < length trees → slice_get m.places.items (m.first_end + k) ≡ Some (p.End k)
  pub only_ends : (i k : ℕ) → slice_get m.places.items i ≡ Some (p.End k) → i ≡ m.first_end + k
  pub own : (k l : ℕ) (x : List ℕ) → k < length trees → Runs m.places.items (slice_index m.starts.items k) l x → l ≡ k
  pub sound : (k : ℕ) (tree : Tree) (x : List ℕ) → slice_get trees k ≡ Some tree
      → Runs m.places.items (slice_index m.starts.items k) k x → Matches tree x
  pub complete : (k : ℕ) (tree : Tree) (x : List ℕ) → slice_get trees k ≡ Some tree → Matches tree x
      → Runs m.places.items (slice_index m.starts.items k) k x
