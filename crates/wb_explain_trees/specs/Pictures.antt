-- The tree of a text as a picture: an SVG file.
use Rattle.std.specs.Prelude.{◌≡◌, ◌⊎◌, ◌++◌, ℕ, List, take}
use lib.Chars.{codes}
use Rattle.wb_values.specs.Signature.{Signature}
use Rattle.wb_values.specs.Tree.{Tree}
use Rattle.wb_values.specs.ValuesIn.{tree_in}
use Rattle.wb_scan_theory.specs.Languages.{LanguageView}
use Rattle.wb_session.specs.declared.place.LeafPlace.{LeafPlace}
use Rattle.wb_explain_drawing.specs.Listings.{IsFirstOf}
use Rattle.wb_explain_drawing.specs.Pictures.{HasPicture}
use Rattle.wb_explain_drawing.specs.Pushed.{Pushes}
use Rattle.wb_explain_drawing.specs.declared.cursor.Cursor.{Cursor}
use Rattle.wb_explain_drawing.specs.declared.items.Item.{Item}
use Rattle.wb_explain_trees.specs.Labels.{IsLabel, IsRead, View}
use Rattle.wb_explain_trees.specs.Lines.{place_text}

-- the element of a node or a leaf, which has as its title the name and the place where it begins
pub record IsElement (view : View) (item : Item) (element : List ℕ) : Type 0 where
  pub name : List ℕ
  pub cursor : Cursor
  pub label : IsLabel view item name cursor
  pub rest : List ℕ
  pub whole : element ≡ codes "<g><title>" ++ name ++ codes " at " ++ place_text cursor ++ codes "</title>" ++ rest

-- after what was there come such elements of the first of these
abbrev pub HasElements : View → List Item → List ℕ → List ℕ → Type 0
HasElements view items old new = (count : ℕ) × Pushes (IsElement view) (take count items) old new

-- after what was there comes a picture with elements of the first of these in it
pub record HasDrawn (view : View) (items : List Item) (old new : List ℕ) : Type 0 where
  pub head : List ℕ
  pub inside : List ℕ
  pub elements : HasElements view items head inside
  pub picture : HasPicture inside old new

-- the elements are those of the first nodes and leaves on the first levels of the tree of the text, each before what is below it
pub record DrawsTree (language : LanguageView) (view : View) (old new : List ℕ) : Type 0 where
  pub store : List Tree
  pub root : ℕ
  pub read : IsRead language view store root
  pub levels : ℕ
  pub items : List Item
  pub are : IsFirstOf levels (tree_in store root) items
  pub drawn : HasDrawn view items old new

-- so it is, with the places of the leaves of the text; or nothing is drawn
abbrev pub SaysPicture : LanguageView → List Signature → List (List ℕ) → List ℕ → List ℕ → List ℕ → Type 0
SaysPicture language signatures names text old new =
    (new ≡ old) ⊎ ((places : List LeafPlace)
    × DrawsTree language (record { text = text; signatures = signatures; names = names; places = places }) old new)
