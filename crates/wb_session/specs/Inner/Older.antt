-- The run of an older text, of which the new one has the rest.
use Rattle.std.specs.Prelude.{◌≡◌, ◌≤◌, ℕ, List, Some, length, slice_get, take}
use Rattle.wb_grammar_theory.specs.Trees.{symbols}
use Rattle.wb_scan_theory.specs.Facts.{IsLanguage}
use Rattle.wb_scan.specs.Views.{LanguageParts}
use Rattle.wb_session_theory.specs.Rests.{SameRest}
use Rattle.wb_session.specs.declared.checkpoint.Checkpoint.{Checkpoint}
use Rattle.wb_session.specs.declared.older.Ahead.{Ahead}
use Rattle.wb_session.specs.declared.older.Older.{Older}
use Rattle.wb_session.specs.declared.place.LeafPlace.{LeafPlace}
use Rattle.wb_session.specs.declared.stacks.Entry.{Entry}
use Rattle.wb_session.specs.Stacks.{Roots}
use Rattle.wb_session.specs.Kept.{IsKept}
use Rattle.wb_session.specs.Inner.Standing.{IsAhead, IsAt}

-- its checkpoints are kept of a text, which from a place on is this text from another place on
pub record IsOlder (parts : LanguageParts) (text : List ℕ) (older : Older) : Type 0 where
  pub language : IsLanguage parts.language
  pub old : List ℕ
  pub roots : Roots
  pub entries : roots.entries ≡ older.entries.now
  pub each : (i : ℕ) (point : Checkpoint) → slice_get older.checkpoints.now i ≡ Some point →
      IsKept parts old roots (take i older.places.now) point
  pub rest : SameRest old older.to text older.moved
  pub limit : older.limit ≡ length text
  pub terminals : older.terminals ≡ parts.language.grammar.terminals

-- the entries begin with as many of the older run's as that shares
pub record Shares (entries : List Entry) (older : Older) : Type 0 where
  pub few : older.shared ≤ length entries
  pub same : take older.shared entries ≡ take older.shared older.entries.now

-- the parser stands before a token of it as it stood there: on roots of the same symbols
pub record IsStanding (parts : LanguageParts) (text : List ℕ) (older : Older) (roots : Roots) (places : List LeafPlace)
    (from : Checkpoint) (number : ℕ) (ahead : Ahead) : Type 0 where
  pub is : IsAhead older from number ahead
  pub at : IsAt older number from.at
  pub kept : IsKept parts text roots places from
  pub same : (o : IsOlder parts text older) → symbols (o.each number at.point at.is).stack ≡ symbols kept.stack
