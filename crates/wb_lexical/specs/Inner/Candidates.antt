-- Pairs of terminals that have to be compared: in one set, with no preference between them, and not two different texts.
use Rattle.std.specs.Prelude.{◌≡◌, ◌≢◌, ◌<◌, ◌⊎◌, ◌↔◌, ℕ, List, Option, Some, Contains, length, slice_get}
use Rattle.wb_automata.specs.Automata.{IsMatch}
use Rattle.wb_regex.specs.Matches.{Matches}
use Rattle.wb_regex.specs.Tree.{Tree}
use Rattle.wb_lexical.specs.declared.candidates.Compared.{Compared}
use Rattle.wb_lexical.specs.Inner.Rows.{HaveWidth, IsInRow}

-- both are listed with the number of a text, and these numbers differ
pub record HaveOtherTexts (texts : List (Option ℕ)) (t u : ℕ) : Type 0 where
  pub left : ℕ
  pub right : ℕ
  pub left_at : slice_get texts t ≡ Some (Some left)
  pub right_at : slice_get texts u ≡ Some (Some right)
  pub other : left ≢ right

-- each terminal has a place in the list, and two with different numbers there match no common text
pub record AreTextNumbers (terminals : List Tree) (texts : List (Option ℕ)) : Type 0 where
  pub len : length texts ≡ length terminals
  pub apart : (t u : ℕ) (text : List ℕ) → HaveOtherTexts texts t u → IsMatch terminals t text → ¬ IsMatch terminals u text

-- the text has this number, and the expression matches no other
pub record IsTextOf (names : List (List ℕ)) (tree : Tree) (number : ℕ) : Type 0 where
  pub text : List ℕ
  pub at : slice_get names number ≡ Some text
  pub only : (x : List ℕ) → Matches tree x → x ≡ text

-- each of the first terminals has a place in the list, and one with a number there matches no text but that of the number
pub record AreNumbered (terminals : List Tree) (count : ℕ) (names : List (List ℕ)) (texts : List (Option ℕ)) : Type 0 where
  pub len : length texts ≡ count
  pub each : (t number : ℕ) (tree : Tree) → slice_get texts t ≡ Some (Some number) → slice_get terminals t ≡ Some tree
      → IsTextOf names tree number

-- no name was lost, and each has the number that it had
abbrev pub KeepNames : List (List ℕ) → List (List ℕ) → Type 0
KeepNames old new = (number : ℕ) (text : List ℕ) → slice_get old number ≡ Some text → slice_get new number ≡ Some text

-- there are as many rows of either relation, each with room for all, and as many numbers of texts
pub record IsSquare (x : Compared) : Type 0 where
  pub widths : HaveWidth (length x.rows.now) x.rows.now
  pub ordered_len : length x.ordered.now ≡ length x.rows.now
  pub ordered_widths : HaveWidth (length x.rows.now) x.ordered.now
  pub texts_len : length x.texts.now ≡ length x.rows.now

-- the first terminal is less than the second, they are in one set, no preference orders them, and they aren't two different texts
pub record IsCandidate (x : Compared) (t u : ℕ) : Type 0 where
  pub less : t < u
  pub within : u < length x.rows.now
  pub together : IsInRow x.rows.now t u
  pub unordered : ¬ IsInRow x.ordered.now t u
  pub alike : ¬ HaveOtherTexts x.texts.now t u

-- the new list has besides the pairs that the condition holds of, and no other
abbrev pub Lists : (ℕ → ℕ → Type 0) → List (ℕ × ℕ) → List (ℕ × ℕ) → Type 0
Lists New old new = (t u : ℕ) → Contains new (t, u) ↔ (Contains old (t, u) ⊎ New t u)

-- the pairs are terminals that are together and unordered, the lesser first; and among them are all of these that match a common text
pub record AreCandidates (terminals : List Tree) (Together Ordered : ℕ → ℕ → Type 0) (pairs : List (ℕ × ℕ)) : Type 0 where
  pub less : (t u : ℕ) → Contains pairs (t, u) → t < u
  pub within : (t u : ℕ) → Contains pairs (t, u) → u < length terminals
  pub together : (t u : ℕ) → Contains pairs (t, u) → Together t u
  pub unordered : (t u : ℕ) → Contains pairs (t, u) → ¬ Ordered t u
  pub complete : (t u : ℕ) (text : List ℕ) → t < u → Together t u → ¬ Ordered t u → IsMatch terminals t text → IsMatch terminals u text
      → Contains pairs (t, u)
