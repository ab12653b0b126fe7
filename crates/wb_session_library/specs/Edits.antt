-- What edits make of texts that are held, and why they are refused.
use Rattle.std.specs.Prelude.{◌≡◌, ◌≤◌, ◌<◌, ◌+◌, ℕ, List, Option, Some, None, length}
use Rattle.wb_session.specs.Parses.{Extends}
use Rattle.wb_session.specs.Places.{KeepsPlaces}
use Rattle.wb_session.specs.Sessions.{Fits, IsSameAnswer, MakesText}
use Rattle.wb_session.specs.declared.place.LeafPlace.{LeafPlace}
use Rattle.wb_session.specs.declared.session.Edited.{Edited}
use Rattle.wb_session.specs.Edits.{edited}
use Rattle.wb_session_library.specs.Places.{counts}
use Rattle.wb_session_library.specs.Views.{TextView}
use Rattle.wb_session_library.specs.declared.refusal.CallRefusal.{CallRefusal}
use Rattle.wb_session_library.specs.declared.refusal.CallRefusal.TheVariants as c

-- so many leaves lie where they lay
abbrev pub KeepSome : ℕ → (old new : Option (List LeafPlace)) → Type 0
KeepSome count (Some old) (Some new) = KeepsPlaces count old new
KeepSome count old new = ⊥

-- the one text is made of the other by the edit, in the same language; so many nodes were built for it, and of its leaves and what is behind
-- them each was scanned, or kept, or known
pub record IsEdited (old : TextView) (from to : ℕ) (bytes : List ℕ) (new : TextView) (done : Edited) : Type 0 where
  pub text : MakesText old.text from to bytes new.text
  pub language : new.language ≡ old.language
  pub store : Extends old.store new.store
  pub built : length new.store ≡ length old.store + done.built
  pub begins : done.from ≤ from
  pub ends : done.to ≤ length new.text
  pub kept : KeepSome done.kept old.places new.places
  pub scanned : done.scanned + done.kept + done.known ≡ counts new.places + 1

-- nothing is another but that the store may have more
pub record StaysText (old new : TextView) : Type 0 where
  pub text : new.text ≡ old.text
  pub answer : new.answer ≡ old.answer
  pub places : new.places ≡ old.places
  pub language : new.language ≡ old.language
  pub store : Extends old.store new.store

-- the text and its language are the same, and the answer is the same tree, each in its store, or the same stop
pub record IsReleased (old new : TextView) : Type 0 where
  pub text : new.text ≡ old.text
  pub language : new.language ≡ old.language
  pub answer : IsSameAnswer old.store old.answer new.store new.answer

-- why the trees of earlier texts aren't dropped
abbrev pub IsReleaseRefusal : TextView → CallRefusal → Type 0
IsReleaseRefusal old c.NotKept = old.places ≡ None
IsReleaseRefusal old c.NoMemory = Unit {0}
IsReleaseRefusal old other = ⊥

-- why an edit isn't done
abbrev pub IsEditRefusal : TextView → ℕ → ℕ → List ℕ → CallRefusal → Type 0
IsEditRefusal old from to bytes c.NotKept = old.places ≡ None
IsEditRefusal old from to bytes c.EditRefused = ¬ Fits old.text from to
IsEditRefusal old from to bytes c.TextTooLong = Fits old.text from to × (1048576 < length (edited old.text from to bytes))
IsEditRefusal old from to bytes c.NoMemory = Unit {0}
IsEditRefusal old from to bytes other = ⊥
