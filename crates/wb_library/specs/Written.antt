-- What calls write for C.
use Rattle.std.specs.Prelude.{◌≡◌, ◌-◌, ◌++◌, ℕ, List, drop, length, min, take}
use Rattle.wb_session_library.specs.place.LeafPlace.{LeafPlace}
use Rattle.wb_session_library.specs.session.Edited.{Edited}
use Rattle.wb_session_library.specs.declared.node.Child.{Child}
use Rattle.wb_session_library.specs.declared.node.Child.TheVariants as child
use Rattle.wb_library.specs.declared.answers.ChildOut.{ChildOut}
use Rattle.wb_library.specs.declared.answers.EditOut.{EditOut}
use Rattle.wb_library.specs.declared.answers.PlaceOut.{PlaceOut}

-- the child is the node of this number, or a leaf
abbrev pub child_of : Child → ChildOut
child_of (child.Node number) = record { kind = 0; node = number }
child_of child.Leaf = record { kind = 1; node = 0 }

-- the place of a leaf
abbrev pub place_of : LeafPlace → PlaceOut
place_of place = record { terminal = place.terminal; begin = place.begin; lexeme = place.lexeme; end = place.end }

-- what an edit took
abbrev pub edit_of : Edited → EditOut
edit_of done = record { from = done.from; to = done.to; scanned = done.scanned; built = done.built; kept = done.kept; known = done.known }

-- so many bytes of the text from the place on are in the buffer from its beginning, as many as there are and fit; what was after them stays
pub record IsCopied (text : List ℕ) (from : ℕ) (old new : List ℕ) (count : ℕ) : Type 0 where
  pub is : new ≡ take count (drop from text) ++ drop count old
  pub most : count ≡ min (length text - from) (length old)
