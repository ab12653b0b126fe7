-- What is shown of a node or a leaf of the tree of a text: a name, and the place where it begins.
use Rattle.std.specs.Prelude.{◌≡◌, ◌<◌, ℕ, List, Option, Some, None, IfSome, length, slice_get}
use Rattle.wb_values.specs.Signature.{Signature}
use Rattle.wb_values.specs.Tree.{Tree}
use Rattle.wb_scan_theory.specs.Languages.{LanguageView}
use Rattle.wb_session.specs.Parses.{IsTreeOf}
use Rattle.wb_session.specs.Places.{HasPlaces}
use Rattle.wb_session.specs.declared.place.LeafPlace.{LeafPlace}
use Rattle.wb_explain_drawing.specs.Reached.{IsReached}
use Rattle.wb_explain_drawing.specs.declared.cursor.Cursor.{Cursor}
use Rattle.wb_explain_drawing.specs.declared.items.Item.{Item}
use Rattle.wb_explain_drawing.specs.declared.items.Part.{Part}
use Rattle.wb_explain_drawing.specs.declared.items.Part.TheVariants.{Node, Leaf}

-- a text in a language, the printed names of its productions and of its terminals, and the places of its leaves
pub record View : Type 0 where
  pub text : List ℕ
  pub signatures : List Signature
  pub names : List (List ℕ)
  pub places : List LeafPlace

-- the printed name of the production
abbrev pub IsProductionName : List Signature → ℕ → List ℕ → Type 0
IsProductionName signatures production name =
    (production < length signatures) × IfSome (slice_get signatures production) (λ (s : Signature). name ≡ s.name)

-- the printed name of the terminal of the leaf
abbrev pub IsLeafName : View → ℕ → List ℕ → Type 0
IsLeafName view leaf name =
    (place : LeafPlace) × (slice_get view.places leaf ≡ Some place) × (slice_get view.names place.terminal ≡ Some name)

-- the name of a node is that of its production, and that of a leaf is that of its terminal
abbrev pub IsNameOf : View → Part → ℕ → List ℕ → Type 0
IsNameOf view (Node production) leaf name = IsProductionName view.signatures production name
IsNameOf view Leaf leaf name = IsLeafName view leaf name

-- where a leaf begins, or else the text ends
abbrev pub begin_or : ℕ → Option LeafPlace → ℕ
begin_or end (Some place) = place.begin
begin_or end None = end

-- where the leaf of a number begins, or the end of the text, where there are not so many
abbrev pub begin_at : View → ℕ → ℕ
begin_at view leaf = begin_or (length view.text) (slice_get view.places leaf)

-- the name, and the line and the column at which the leaf begins, or the first leaf at or after the node
pub record IsLabel (view : View) (item : Item) (name : List ℕ) (cursor : Cursor) : Type 0 where
  pub named : IsNameOf view item.part item.leaf name
  pub at : cursor.at ≡ begin_at view item.leaf
  pub reached : IsReached view.text cursor

-- the tree in the store is that of the text, and the places are those of its leaves
pub record IsRead (language : LanguageView) (view : View) (store : List Tree) (root : ℕ) : Type 0 where
  pub tree : IsTreeOf language view.text store root
  pub placed : HasPlaces language view.text view.places
