-- Sessions as callers see them, and why an edit is refused.
use Rattle.std.specs.Prelude.{◌≡◌, ◌<◌, ◌≤◌, ℕ, List, length}
use Rattle.wb_values.specs.Tree.{Tree}
use Rattle.wb_values.specs.ValuesIn.{tree_in}
use Rattle.wb_scan_theory.specs.Languages.{LanguageView}
use Rattle.wb_parser.specs.declared.parsed.Parsed.{Parsed}
use Rattle.wb_parser.specs.declared.parsed.Parsed.TheVariants as parsed
use Rattle.wb_session_theory.specs.Edits.{edited}
use Rattle.wb_session.specs.declared.place.LeafPlace.{LeafPlace}
use Rattle.wb_session.specs.declared.refusal.EditRefusal.{EditRefusal}
use Rattle.wb_session.specs.declared.refusal.EditRefusal.TheVariants.{OutOfRange, TooLong, NoMemory}

-- a language, a text, its answer, the places of its leaves, and the store with its tree and those of earlier texts
pub record SessionView : Type 0 where
  pub language : LanguageView
  pub text : List ℕ
  pub answer : Parsed
  pub places : List LeafPlace
  pub store : List Tree

-- the places are in order, and in the text
pub record Fits (text : List ℕ) (from to : ℕ) : Type 0 where
  pub order : from ≤ to
  pub within : to ≤ length text

-- the text has at most so many bytes
abbrev pub IsShort : List ℕ → Type 0
IsShort text = length text ≤ 1048576

-- why the edit of the text is refused: its places don't fit; or they do, and the text after it would be too long; or that would not
abbrev pub HasCause : List ℕ → ℕ → ℕ → List ℕ → EditRefusal → Type 0
HasCause text from to bytes OutOfRange = ¬ Fits text from to
HasCause text from to bytes TooLong = Fits text from to × (1048576 < length (edited text from to bytes))
HasCause text from to bytes (NoMemory error) = Fits text from to × IsShort (edited text from to bytes)

-- the edit fits the one text, and makes the other of it, which isn't too long
pub record MakesText (text : List ℕ) (from to : ℕ) (bytes text' : List ℕ) : Type 0 where
  pub fits : Fits text from to
  pub short : IsShort text'
  pub is : text' ≡ edited text from to bytes

-- the answers are the same tree, each in its store, or the same stop
abbrev pub IsSameAnswer : List Tree → Parsed → List Tree → Parsed → Type 0
IsSameAnswer store (parsed.Tree id) store' (parsed.Tree id') = tree_in store' id'.0 ≡ tree_in store id.0
IsSameAnswer store (parsed.Tree id) store' (parsed.Stopped at kind) = ⊥
IsSameAnswer store (parsed.Stopped at kind) store' (parsed.Tree id) = ⊥
IsSameAnswer store (parsed.Stopped at kind) store' (parsed.Stopped at' kind') = (at' ≡ at) × (kind' ≡ kind)
