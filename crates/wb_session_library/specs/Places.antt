-- Where the leaves of a text lie, where it is kept to be edited.
use Rattle.std.specs.Prelude.{◌≡◌, ◌≤◌, ℕ, List, Option, Some, None, slice_get, length}
use Rattle.wb_scan_theory.specs.Languages.{LanguageView}
use Rattle.wb_session.specs.declared.place.LeafPlace.{LeafPlace}
use Rattle.wb_session.specs.Places.{HasPlaces}
use Rattle.wb_session_library.specs.Views.{TextView}
use Rattle.wb_session_library.specs.declared.refusal.CallRefusal.{CallRefusal}
use Rattle.wb_session_library.specs.declared.refusal.CallRefusal.TheVariants as c

-- how many leaves have a place
abbrev pub counts : Option (List LeafPlace) → ℕ
counts (Some places) = length places
counts None = 0

-- no leaf has a place
abbrev pub HaveNone : Option (List LeafPlace) → Type 0
HaveNone (Some places) = ⊥
HaveNone None = Unit {0}

-- the leaves have places
abbrev pub HaveSome : Option (List LeafPlace) → Type 0
HaveSome (Some places) = Unit {0}
HaveSome None = ⊥

-- the leaf of the number lies there
abbrev pub IsPlace : Option (List LeafPlace) → ℕ → LeafPlace → Type 0
IsPlace (Some places) leaf place = slice_get places leaf ≡ Some place
IsPlace None leaf place = ⊥

-- the places are those of all leaves that are read of the text
abbrev pub ArePlaces : LanguageView → List ℕ → Option (List LeafPlace) → Type 0
ArePlaces language text (Some places) = HasPlaces language text places
ArePlaces language text None = Unit {0}

-- the leaf of the number lies there in the text
pub record IsPlaced (view : TextView) (leaf : ℕ) (place : LeafPlace) : Type 0 where
  pub is : IsPlace view.places leaf place
  pub all : ArePlaces view.language.language.language view.text view.places

-- why no place is answered: the text isn't kept to be edited, or has not so many leaves
abbrev pub HasNoPlace : Option (List LeafPlace) → ℕ → CallRefusal → Type 0
HasNoPlace None leaf c.NotKept = Unit {0}
HasNoPlace (Some places) leaf c.OutOfRange = length places ≤ leaf
HasNoPlace places leaf other = ⊥
