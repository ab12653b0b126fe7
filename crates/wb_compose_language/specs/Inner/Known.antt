-- What is known of the own terminals and own layout of extensions, listed one after another.
use Rattle.std.specs.Prelude.{◌≡◌, ◌≤◌, ◌<◌, ◌+◌, ◌-◌, ◌↔◌, ◌++◌, ◌∷◌, [], ℕ, Bool, true, Option, Some, List, length, slice_get}
use Rattle.wb_automata.specs.Sharing.{AreSharing, IsOnlyMatch}
use Rattle.wb_regex.specs.Tree.{Tree}
use Rattle.wb_syntax_resolved.specs.declared.terminal.Terminal.{Terminal}
use Rattle.wb_compose_language.specs.declared.addition.Addition.{Addition}
use Rattle.wb_compose_language.specs.declared.known.Known.{Known}
use Rattle.wb_compose_language.specs.declared.known.Told.{Told}
use Rattle.wb_compose_language.specs.Inner.TextMachines.{IsTextMachine}

-- each terminal of the grammar has a row, and so have so many layouts of the host
abbrev pub HasLayoutRows : ℕ → Addition → Type 0
HasLayoutRows hosts x = x.grammar.now.terminals + hosts ≤ length x.terminals.now

-- the extension has no fewer terminals than the host, which has so many, and so many layouts; and each has a row
abbrev pub HasOwnRows : (own hosts : ℕ) → Addition → Type 0
HasOwnRows own hosts x = (own ≤ x.grammar.now.terminals) × HasLayoutRows hosts x

-- the rows of the extension from the first number to before the second have their expressions from a place on
abbrev pub HasPlaces : ℕ → ℕ → Addition → List Tree → ℕ → Type 0
HasPlaces from bound x patterns base = (i : ℕ) (row : Terminal) → from + i < bound → slice_get x.terminals.now (from + i) ≡ Some row
    → slice_get patterns (base + i) ≡ Some row.pattern

-- what is listed stays
abbrev pub Keeps : List Tree → List Tree → Type 0
Keeps old new = (k : ℕ) (p : Tree) → slice_get old k ≡ Some p → slice_get new k ≡ Some p

-- the expressions of the rows from the first number to before the second were put after others
pub record ArePatternsAdded (from bound : ℕ) (x : Addition) (old new : List Tree) : Type 0 where
  pub keeps : Keeps old new
  pub len : from + length new ≡ bound + length old
  pub places : HasPlaces from bound x new (length old)

-- the own terminals of an extension, and then its own layout, were put after others
pub record IsAdded (own hosts : ℕ) (x : Addition) (patterns : List Tree) (bases : List ℕ) (patterns' : List Tree)
    (bases' : List ℕ) : Type 0 where
  pub bases_are : bases' ≡ bases ++ length patterns ∷ []
  pub between : List Tree
  pub terminals_are : ArePatternsAdded own x.grammar.now.terminals x patterns between
  pub layouts_are : ArePatternsAdded (x.grammar.now.terminals + hosts) (length x.terminals.now) x between patterns'

-- the own terminals of the extension have their expressions from a place on, and its own layout after these
pub record HasOwnPlaces (own hosts : ℕ) (x : Addition) (patterns : List Tree) (base : ℕ) : Type 0 where
  pub terminals : HasPlaces own x.grammar.now.terminals x patterns base
  pub layouts : HasPlaces (x.grammar.now.terminals + hosts) (length x.terminals.now) x patterns (base + (x.grammar.now.terminals - own))

-- for each extension there is the place from which on it has these
pub record AreBases (own hosts : ℕ) (extensions : List Addition) (patterns : List Tree) (bases : List ℕ) : Type 0 where
  pub len : length bases ≡ length extensions
  pub each : (k : ℕ) (x : Addition) (base : ℕ) → slice_get extensions k ≡ Some x → slice_get bases k ≡ Some base
      → HasOwnPlaces own hosts x patterns base

-- an expression for which a text is listed matches that text alone
pub record AreTexts (patterns : List Tree) (texts : List (Option (List ℕ))) : Type 0 where
  pub len : length texts ≡ length patterns
  pub each : (k : ℕ) (p : Tree) (text : List ℕ) → slice_get patterns k ≡ Some p → slice_get texts k ≡ Some (Some text) → IsOnlyMatch p text

-- there is a flag for each pair, which is set exactly where its two expressions share a text
abbrev pub AreTold : List Tree → Told → Type 0
AreTold patterns told = AreSharing patterns told.pairs.items told.flags.items

-- the texts, the automaton and what is told are those of the expressions
pub record IsKnown (known : Known) : Type 0 where
  pub texts : AreTexts known.owns.now.patterns.items known.texts.now
  pub machine : IsTextMachine known.owns.now.patterns.items known.texts.now known.machine.now
  pub told : AreTold known.owns.now.patterns.items known.told.now

-- the other is one text alone, and the answer says whether it is this one
pub record IsText (text : List ℕ) (other : Option (List ℕ)) (same : Bool) : Type 0 where
  pub found : List ℕ
  pub is : other ≡ Some found
  pub answer : (same ≡ true) ↔ (text ≡ found)

-- both places have a text alone, and the answer says whether they are the same
pub record IsOneText (texts : List (Option (List ℕ))) (one other : ℕ) (same : Bool) : Type 0 where
  pub text : List ℕ
  pub at : slice_get texts one ≡ Some (Some text)
  pub found : List ℕ
  pub at_other : slice_get texts other ≡ Some (Some found)
  pub answer : (same ≡ true) ↔ (text ≡ found)
