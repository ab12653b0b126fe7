-- What becomes of a text by a list of edits, each in turn.
use Rattle.std.specs.Prelude.{◌≡◌, ◌<◌, ℕ, suc, List, [], ◌∷◌, Some, length, slice_get, take}
use Rattle.wb_session.specs.Sessions.{Fits, MakesText}
use Rattle.wb_session_edits.specs.declared.edit.Edit.{Edit}
use Rattle.wb_session.specs.Edits.{edited}

-- the text after the edits: each makes a text of the one before it
abbrev pub after : List ℕ → List Edit → List ℕ
after text [] = text
after text (e ∷ edits) = after (edited text e.from e.to e.bytes) edits

-- the edit at this place is done: it fits the text after those before it, and makes of it the text after itself, which isn't too long
abbrev pub IsDone : List ℕ → List Edit → ℕ → Type 0
IsDone text edits i =
    (e : Edit) → slice_get edits i ≡ Some e → MakesText (after text (take i edits)) e.from e.to e.bytes (after text (take (suc i) edits))

-- each is done
abbrev pub AreDone : List ℕ → List Edit → Type 0
AreDone text edits = (i : ℕ) → IsDone text edits i

-- the edit doesn't fit the text
abbrev pub IsOutOfRange : List ℕ → Edit → Type 0
IsOutOfRange text e = ¬ Fits text e.from e.to

-- the edit fits the text, and makes one that is too long
abbrev pub IsTooLong : List ℕ → Edit → Type 0
IsTooLong text e = Fits text e.from e.to × (1048576 < length (edited text e.from e.to e.bytes))

-- the edit of this number, counted from 1, is the first that isn't done, for this reason
pub record IsFirstRefused (text : List ℕ) (edits : List Edit) (Why : List ℕ → Edit → Type 0) (number : ℕ) : Type 0 where
  pub place : ℕ
  pub counted : number ≡ suc place
  pub edit : Edit
  pub is : slice_get edits place ≡ Some edit
  pub before : (j : ℕ) → j < place → IsDone text edits j
  pub why : Why (after text (take place edits)) edit
