-- What is shown of a text that is read, and one line or element more.
use Rattle.std.specs.Prelude.{ℕ, List}
use Rattle.wb_values.specs.Signature.{Signature}
use Rattle.wb_session.specs.Sessions.{SessionView}
use Rattle.wb_explain_drawing.specs.Pushed.{PushesOne}
use Rattle.wb_explain_drawing.specs.declared.items.Item.{Item}
use Rattle.wb_explain_trees.specs.Labels.{View}
use Rattle.wb_explain_trees.specs.Lines.{IsLine}
use Rattle.wb_explain_trees.specs.Pictures.{IsElement}

-- a text that is read, with these names
abbrev pub view_of : SessionView → List Signature → List (List ℕ) → View
view_of session signatures names = record { text = session.text; signatures = signatures; names = names; places = session.places }

-- after what was there comes the line of a node or a leaf
abbrev pub HasLine : View → Item → List ℕ → List ℕ → Type 0
HasLine view item old new = PushesOne (IsLine view) item old new

-- after what was there comes the element of a node or a leaf
abbrev pub HasElement : View → Item → List ℕ → List ℕ → Type 0
HasElement view item old new = PushesOne (IsElement view) item old new
