-- The tree of a text by lines.
use Rattle.std.specs.Prelude.{◌≡◌, ◌⊎◌, ◌++◌, ℕ, List, take}
use Rattle.std.specs.Fmt.{decimal}
use lib.Chars.{codes}
use Rattle.wb_values.specs.Signature.{Signature}
use Rattle.wb_values.specs.Tree.{Tree}
use Rattle.wb_values.specs.ValuesIn.{tree_in}
use Rattle.wb_scan_theory.specs.Languages.{LanguageView}
use Rattle.wb_session.specs.declared.place.LeafPlace.{LeafPlace}
use Rattle.wb_explain_drawing.specs.Listings.{IsFirstOf}
use Rattle.wb_explain_drawing.specs.Pushed.{Pushes}
use Rattle.wb_explain_drawing.specs.declared.cursor.Cursor.{Cursor}
use Rattle.wb_explain_drawing.specs.declared.items.Item.{Item}
use Rattle.wb_explain_trees.specs.Labels.{IsLabel, IsRead, View}

-- the numbers of a line and of a column
abbrev pub place_text : Cursor → List ℕ
place_text cursor = decimal cursor.line ++ codes ":" ++ decimal cursor.column

-- the line of a node or a leaf: the place where it begins, its name further in, and the rest of the line
pub record IsLine (view : View) (item : Item) (line : List ℕ) : Type 0 where
  pub name : List ℕ
  pub cursor : Cursor
  pub label : IsLabel view item name cursor
  pub pad : List ℕ
  pub rest : List ℕ
  pub whole : line ≡ place_text cursor ++ pad ++ name ++ rest

-- after what was there come such lines of the first of these
abbrev pub HasLines : View → List Item → List ℕ → List ℕ → Type 0
HasLines view items old new = (count : ℕ) × Pushes (IsLine view) (take count items) old new

-- after what was there come a heading, such lines, and more
pub record ListsItems (view : View) (items : List Item) (old new : List ℕ) : Type 0 where
  pub headed : List ℕ
  pub heading : headed ≡ old ++ codes "\nThe tree, each node and leaf where it begins:\n\n"
  pub listed : List ℕ
  pub lines : HasLines view items headed listed
  pub more : List ℕ
  pub whole : new ≡ listed ++ more

-- the lines are those of the first nodes and leaves of the tree of the text, each before what is below it
pub record ListsTree (language : LanguageView) (view : View) (old new : List ℕ) : Type 0 where
  pub store : List Tree
  pub root : ℕ
  pub read : IsRead language view store root
  pub items : List Item
  pub are : IsFirstOf 18446744073709551615 (tree_in store root) items
  pub lists : ListsItems view items old new

-- so it is, with the places of the leaves of the text; or nothing is said
abbrev pub SaysTree : LanguageView → List Signature → List (List ℕ) → List ℕ → List ℕ → List ℕ → Type 0
SaysTree language signatures names text old new =
    (new ≡ old) ⊎ ((places : List LeafPlace)
    × ListsTree language (record { text = text; signatures = signatures; names = names; places = places }) old new)
