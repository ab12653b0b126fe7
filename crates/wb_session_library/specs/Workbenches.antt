-- What calls by handles make of a workbench's tables.
use Rattle.std.specs.Prelude.{◌≡◌, ℕ, List, [], Option}
use Rattle.wb_operations.specs.Standard.{standard_signatures}
use Rattle.wb_session.specs.declared.place.LeafPlace.{LeafPlace}
use Rattle.wb_session.specs.declared.session.Edited.{Edited}
use Rattle.wb_library_handles.specs.Handles.{AreOthersKept, IsNamed, NamesNone}
use Rattle.wb_library_handles.specs.declared.handle.Handle.{Handle}
use Rattle.wb_library_handles.specs.declared.slot.Slot.{Slot}
use Rattle.wb_compose_files.specs.HostContents.{IsHostText}
use Rattle.wb_compose_files.specs.Certified.{CertifiedParts, Extends}
use Rattle.wb_compose_files.specs.Languages.{IsTextLanguage, TextLanguageParts}
use Rattle.wb_session_library.specs.Views.{TextView}
use Rattle.wb_session_library.specs.Edits.{IsEdited, IsReleased, StaysText as StaysSame}
use Rattle.wb_session_library.specs.Refusals.{Names}

-- the handle, which named none, names this value, and all others are as before
pub record Adds {T : Type 0} (old : List (Slot T)) (value : T) (new : List (Slot T)) (handle : Handle) : Type 0 where
  pub fresh : NamesNone old handle
  pub is : IsNamed new handle value
  pub others : AreOthersKept old new handle

-- the handle is new, and names the certified host that the contents are, without extensions
pub record OpensHost (contents : List ℕ) (old new : List (Slot CertifiedParts)) (handle : Handle) : Type 0 where
  pub made : CertifiedParts
  pub adds : Adds old made new handle
  pub host : IsHostText standard_signatures contents made.host.resolved
  pub none : made.extensions ≡ []

-- the host of the handle has the extension that the contents are after those that it had
pub record ExtendsHost (contents : List ℕ) (old : List (Slot CertifiedParts)) (handle : Handle) (new : List (Slot CertifiedParts))
    : Type 0 where
  pub before : CertifiedParts
  pub after : CertifiedParts
  pub was : IsNamed old handle before
  pub is : IsNamed new handle after
  pub extends : Extends standard_signatures contents before after

-- the other handle is new, and names the language that is composed of the host that the first one named, with its extensions
pub record ComposesHost (hosts : List (Slot CertifiedParts)) (host : Handle) (old new : List (Slot TextLanguageParts)) (language : Handle)
    : Type 0 where
  pub certified : CertifiedParts
  pub named : IsNamed hosts host certified
  pub made : TextLanguageParts
  pub adds : Adds old made new language
  pub of : made.certified ≡ certified
  pub composed : IsTextLanguage made

-- the handle is new, and names a text with these bytes in the language of the other; its leaves have places of this sort
pub record OpensText (Places : Option (List LeafPlace) → Type 0) (languages : List (Slot TextLanguageParts)) (language : Handle)
    (text : List ℕ) (old new : List (Slot TextView)) (handle : Handle) : Type 0 where
  pub parts : TextLanguageParts
  pub named : IsNamed languages language parts
  pub made : TextView
  pub adds : Adds old made new handle
  pub in_it : made.language ≡ parts
  pub text_is : made.text ≡ text
  pub places : Places made.places

-- the text of the handle becomes the one that the edit makes of it
pub record EditsText (old : List (Slot TextView)) (handle : Handle) (from to : ℕ) (bytes : List ℕ) (new : List (Slot TextView))
    (done : Edited) : Type 0 where
  pub before : TextView
  pub after : TextView
  pub was : IsNamed old handle before
  pub is : IsNamed new handle after
  pub edited : IsEdited before from to bytes after done

-- the text of the handle is as before, but that its store has dropped the trees of earlier texts
pub record ReleasesText (old : List (Slot TextView)) (handle : Handle) (new : List (Slot TextView)) : Type 0 where
  pub before : TextView
  pub after : TextView
  pub was : IsNamed old handle before
  pub is : IsNamed new handle after
  pub released : IsReleased before after

-- the text of the handle is as before, but that its store may have more
abbrev pub StaysText : (old : List (Slot TextView)) → Handle → (new : List (Slot TextView)) → Type 0
StaysText old handle new = (view : TextView) → IsNamed old handle view → Names new handle (StaysSame view)
