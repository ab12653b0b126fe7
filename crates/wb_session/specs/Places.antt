-- Where the leaves of a text lie in it.
use Rattle.std.specs.Prelude.{◌≡◌, ◌≤◌, ℕ, List, [], ◌∷◌, ◌++◌, Some, length, slice_get, slice_range, take}
use Rattle.wb_base.specs.declared.symbol.Symbol.{Symbol}
use Rattle.wb_base.specs.declared.symbol.Symbol.TheVariants.{Terminal}
use Rattle.wb_base.specs.Grammar.{GrammarView}
use Rattle.wb_grammar_theory.specs.Trees.{Forest, Leaf, leaves}
use Rattle.wb_scan_theory.specs.declared.form.Form.{Form}
use Rattle.wb_scan_theory.specs.declared.stop_kind.StopKind.{StopKind}
use Rattle.wb_scan_theory.specs.declared.stop_kind.StopKind.TheVariants.{NoToken, Unexpected}
use Rattle.wb_scan_theory.specs.Languages.{LanguageView}
use Rattle.wb_scan_theory.specs.Tokens.{Next, NextToken, token, missing}
use Rattle.wb_scan_theory.specs.Readings.{Gives}
use Rattle.wb_scan_theory.specs.Texts.{ParsesTo, StopsAt}
use Rattle.wb_session.specs.declared.place.LeafPlace.{LeafPlace}

-- the place is one of the leaf's terminal; the prefix of a form of that stands before its lexeme, and both are between these places
pub record Stands (l : LanguageView) (text : List ℕ) (x : Leaf) (place : LeafPlace) : Type 0 where
  pub of : place.terminal ≡ x.terminal
  pub form : Form
  pub written : (number : ℕ) × (slice_get l.forms number ≡ Some form)
  pub terminal : form.terminal ≡ x.terminal
  pub before : slice_range text place.begin place.lexeme ≡ form.prefix
  pub lexeme : slice_range text place.lexeme place.end ≡ x.text
  pub begins : place.begin ≤ place.lexeme
  pub ends : place.lexeme ≤ place.end
  pub within : place.end ≤ length text

-- the leaves lie at these places: the first is what is next at the prefix and the place `at`, and each other at the left context of the one
-- before followed by that one, from where its text ended. After the last are the further prefix and place
abbrev pub AreLaid : LanguageView → List ℕ → List Symbol → ℕ → List Leaf → List LeafPlace → List Symbol → ℕ → Type 0
AreLaid l text prefix at [] [] prefix' at' = (prefix ≡ prefix') × (at ≡ at')
AreLaid l text prefix at [] (p ∷ ps) prefix' at' = ⊥
AreLaid l text prefix at (x ∷ xs) [] prefix' at' = ⊥
AreLaid l text prefix at (x ∷ xs) (p ∷ ps) prefix' at' =
    NextToken l text prefix at (token p.begin x.terminal x.text p.end) × Stands l text x p ×
    AreLaid l text (x.context ++ Terminal x.terminal ∷ []) p.end xs ps prefix' at'

-- what is next is that for which a text stops
abbrev pub IsStop : GrammarView → Next → ℕ → StopKind → Type 0
IsStop g next place NoToken = next ≡ missing place
IsStop g next place (Unexpected t) = Gives g next t place

-- the places of all leaves that are read of the text, in order: those of its tree, or those before its stop
pub record HasPlaces (l : LanguageView) (text : List ℕ) (places : List LeafPlace) : Type 0 where
  pub read : List Leaf
  pub prefix : List Symbol
  pub at : ℕ
  pub laid : AreLaid l text [] 0 read places prefix at
  pub found : Next
  pub is_next : NextToken l text prefix at found
  pub whole : (tree : Forest) → ParsesTo l text tree → leaves [] tree ≡ read
  pub stops : (place : ℕ) (kind : StopKind) → StopsAt l text place kind → IsStop l.grammar found place kind

-- so many leaves lie after an edit where they lay before, which had as many
pub record KeepsPlaces (count : ℕ) (places places' : List LeafPlace) : Type 0 where
  pub before : count ≤ length places
  pub after : count ≤ length places'
  pub same : take count places' ≡ take count places
