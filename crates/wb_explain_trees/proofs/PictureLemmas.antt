-- The picture of a tree, from its parts.
use Rattle.std.proofs.Common.{◌≡◌, ◌∙◌, inr, ◌++◌, ℕ, Bool, List, ap, refl, append_assoc, take}
use lib.Chars.{codes}
use Rattle.wb_values.specs.Signature.{Signature}
use Rattle.wb_values.specs.ValuesIn.{tree_in}
use Rattle.wb_scan_theory.specs.Languages.{LanguageView}
use Rattle.wb_session.specs.Sessions.{SessionView}
use Rattle.wb_explain_drawing.specs.Listings.{IsListing}
use Rattle.wb_explain_drawing.specs.Pushed.{Pushes, all_of}
use Rattle.wb_explain_drawing.specs.declared.cursor.Cursor.{Cursor}
use Rattle.wb_explain_drawing.specs.declared.items.Item.{Item}
use Rattle.wb_explain_trees.specs.Inner.Sessions.{HasElement, view_of}
use Rattle.wb_explain_trees.specs.Labels.{IsLabel, IsRead, View}
use Rattle.wb_explain_trees.specs.Lines.{place_text}
use Rattle.wb_explain_trees.specs.Pictures.{HasDrawn, HasElements, IsElement, SaysPicture}

-- an element is appended
pub has_element : (view : View) (item : Item) (old new name rest : List ℕ) (cursor : Cursor) → IsLabel view item name cursor
    → new ≡ old ++ (codes "<g><title>" ++ name ++ codes " at " ++ place_text cursor ++ codes "</title>" ++ rest) → HasElement view item old new
has_element view item old new name rest cursor label is = (
  codes "<g><title>" ++ name ++ codes " at " ++ place_text cursor ++ codes "</title>" ++ rest,
  record { name = name; cursor = cursor; label = label; rest = rest; whole = refl },
  is,
)

-- the elements of the first so many
pub some_elements : (view : View) (items : List Item) (old new : List ℕ) (i : ℕ) → Pushes (IsElement view) (take i items) old new
    → HasElements view items old new
some_elements view items old new i has = (i, has)

-- what comes after a prefix comes after what is before that, with the prefix
pub has_drawn : (view : View) (items : List Item) (old opened headed drawn new head : List ℕ)
    → opened ≡ old ++ codes "<svg xmlns=\"http://www.w3.org/2000/svg\" " → headed ≡ opened ++ head → HasElements view items headed drawn
    → new ≡ drawn ++ codes "</svg>\n" → HasDrawn view items old new
has_drawn view items old opened headed drawn new head begun is (count, (parts, all, added)) last = record {
  head = head;
  inside = head ++ all_of parts;
  elements = (count, (parts, all, refl));
  picture = last ∙ ap (λ z. z ++ codes "</svg>\n") (added
      ∙ (ap (λ z. z ++ all_of parts) (is ∙ ap (λ z. z ++ head) begun)
      ∙ append_assoc (old ++ codes "<svg xmlns=\"http://www.w3.org/2000/svg\" ") head (all_of parts)));
}

-- it is of the tree of the text
pub says_picture : (language : LanguageView) (session : SessionView) (signatures : List Signature) (names : List (List ℕ)) (root levels : ℕ)
    (items : List Item) (whole : Bool) (old new : List ℕ)
    → IsRead language (view_of session signatures names) session.store root → IsListing levels (tree_in session.store root) items whole
    → HasDrawn (view_of session signatures names) items old new → SaysPicture language signatures names session.text old new
says_picture language session signatures names root levels items whole old new read listing drawn = inr (
  session.places,
  record {
    store = session.store;
    root = root;
    read = read;
    levels = levels;
    items = items;
    are = (listing.rest, listing.first);
    drawn = drawn;
  },
)
