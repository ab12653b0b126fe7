-- The least texts that two regular expressions share, and that one matches.
use Rattle.std.specs.Prelude.{List, ℕ}
use Rattle.wb_regex.specs.Tree.{Tree}
use Rattle.wb_regex.specs.Matches.{Matches, ShareText}
use Rattle.wb_automata.specs.Order.{IsAtMost}
use Rattle.wb_automata.specs.declared.shared.Overlap.{Overlap}
use Rattle.wb_automata.specs.declared.shared.Overlap.TheVariants as o

-- the text matches the expression, and no match is before it
pub record IsLeastMatch (tree : Tree) (text : List ℕ) : Type 0 where
  pub matches : Matches tree text
  pub least : (other : List ℕ) → Matches tree other → IsAtMost text other

-- the text matches both, and no text that does is before it
pub record IsLeastShared (left right : Tree) (text : List ℕ) : Type 0 where
  pub one : Matches left text
  pub other : Matches right text
  pub least : (shared : List ℕ) → Matches left shared → Matches right shared → IsAtMost text shared

-- the least text that both match, or that there is none
abbrev pub IsOverlap : Tree → Tree → Overlap → Type 0
IsOverlap left right (o.Both text) = IsLeastShared left right text
IsOverlap left right o.Disjoint = ¬ ShareText left right
