-- One thing comes next, and a token ends after the place from which it was looked for.
use Rattle.std.proofs.Common.{◌≡◌, ◌<◌, ◌≤◌, ℕ, List, length, arith}
use Rattle.wb_text_predictive.specs.declared.table.Placed.{Placed}
use Rattle.wb_text_predictive.specs.declared.table.Next.{Next}
use Rattle.wb_text_predictive.specs.declared.table.Next.TheVariants.{Found}
use Rattle.wb_text_tokens.specs.declared.token.Dialect.{Dialect}
use Rattle.wb_text_tokens.specs.declared.token.Token.{Token}
use Rattle.wb_text_tokens.specs.Skipping.{SkipsLayout, stop, skip, IsLayoutPiece, blank, comment}
use Rattle.wb_text_tokens.proofs.CallerLemmas.{next_only}
use Rattle.wb_text_tokens.specs.NextToken.{IsNextIn}

-- one thing is next
pub one_next : (dialect : Dialect) (text : List ℕ) (from : ℕ) (a b : Next Token) → IsNextIn dialect text from a
    → IsNextIn dialect text from b → a ≡ b
one_next = next_only

-- a piece of layout goes forward
piece_forward : (dialect : Dialect) (text : List ℕ) (from behind : ℕ) → IsLayoutPiece dialect text from behind → from ≤ behind
piece_forward dialect text from behind (blank w b e) = omega (arith, e)
piece_forward dialect text from behind (comment l c) = omega (arith, c.ordered)

-- layout goes forward
pub layout_forward : (dialect : Dialect) (text : List ℕ) (from at : ℕ) → SkipsLayout dialect text from at → from ≤ at
layout_forward dialect text from at (stop none e) = omega (arith, e)
layout_forward dialect text from at (skip {behind = behind} piece rest) =
    let here = piece_forward dialect text from behind piece in
    let there = layout_forward dialect text behind at rest in
    omega (arith, here, there)

-- a token ends after the place and within the text
pub advances : (dialect : Dialect) (text : List ℕ) (from : ℕ) (x : Placed Token) → from ≤ length text
    → IsNextIn dialect text from (Found x) → (from < x.end) × (x.end ≤ length text)
advances dialect text from x h e =
    let forward = layout_forward dialect text from x.at e.skipped in
    let ordered = e.stands.ordered in
    (omega (arith, forward, ordered), e.stands.within)
