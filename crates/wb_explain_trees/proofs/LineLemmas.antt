-- The lines of a tree, from their parts.
use Rattle.std.proofs.Common.{◌≡◌, ◌+◌, inr, ◌++◌, ℕ, Bool, List, refl, take}
use lib.Chars.{codes}
use Rattle.wb_values.specs.Signature.{Signature}
use Rattle.wb_session.specs.Sessions.{SessionView}
use Rattle.wb_values.specs.ValuesIn.{tree_in}
use Rattle.wb_scan_theory.specs.Languages.{LanguageView}
use Rattle.wb_explain_drawing.specs.Listings.{IsListing}
use Rattle.wb_explain_drawing.specs.Pushed.{Pushes}
use Rattle.wb_explain_drawing.specs.declared.cursor.Cursor.{Cursor}
use Rattle.wb_explain_drawing.specs.declared.items.Item.{Item}
use Rattle.wb_explain_trees.specs.Inner.Sessions.{HasLine, view_of}
use Rattle.wb_explain_trees.specs.Labels.{IsLabel, IsRead, View}
use Rattle.wb_explain_trees.specs.Lines.{HasLines, IsLine, ListsItems, SaysTree, place_text}

-- a line is appended
pub has_line : (view : View) (item : Item) (old new name pad rest : List ℕ) (cursor : Cursor) → IsLabel view item name cursor
    → new ≡ old ++ (place_text cursor ++ pad ++ name ++ rest) → HasLine view item old new
has_line view item old new name pad rest cursor label is =
    (place_text cursor ++ pad ++ name ++ rest, record { name = name; cursor = cursor; label = label; pad = pad; rest = rest; whole = refl }, is)

-- the lines of the first so many
pub some_lines : (view : View) (items : List Item) (old new : List ℕ) (i : ℕ) → Pushes (IsLine view) (take i items) old new
    → HasLines view items old new
some_lines view items old new i has = (i, has)

-- with a heading and what comes after
pub lists_items : (view : View) (items : List Item) (old headed listed new more : List ℕ)
    → headed ≡ old ++ codes "\nThe tree, each node and leaf where it begins:\n\n" → HasLines view items headed listed → new ≡ listed ++ more
    → ListsItems view items old new
lists_items view items old headed listed new more heading lines is =
    record { headed = headed; heading = heading; listed = listed; lines = lines; more = more; whole = is }

-- they are of the tree of the text
pub says_tree : (language : LanguageView) (session : SessionView) (signatures : List Signature) (names : List (List ℕ)) (root : ℕ)
    (items : List Item) (whole : Bool) (old new : List ℕ)
    → IsRead language (view_of session signatures names) session.store root
    → IsListing 18446744073709551615 (tree_in session.store root) items whole
    → ListsItems (view_of session signatures names) items old new → SaysTree language signatures names session.text old new
says_tree language session signatures names root items whole old new read listing lists = inr (
  session.places,
  record { store = session.store; root = root; read = read; items = items; are = (listing.rest, listing.first); lists = lists },
)
