-- The laws of the table of nested lists.
use Rattle.std.proofs.Common.{◌≡◌, ◌<◌, ◌≤◌, ◌+◌, ℕ, suc, List, [], ◌∷◌, Bool, true, false, cond, Option, Some, None}
use Rattle.std.proofs.Common.{refl, sym, ap, ◌∙◌, length, drop, arith}
use Rattle.std.specs.Prelude.{◌==◌}
use Rattle.std.proofs.lemmas.List.{length-drop}
use denote.Enum.Bare.{sameb}
use Rattle.wb_text_predictive.specs.contracts.nested.Kind.{the_type}
use Rattle.wb_text_predictive.specs.declared.table.Placed.{Placed}
use Rattle.wb_text_predictive.specs.declared.table.Next.{Next}
use Rattle.wb_text_predictive.specs.declared.table.Next.TheVariants.{Found}
use Rattle.wb_text_predictive.specs.declared.nested.Kind.{Kind}
use Rattle.wb_text_predictive.specs.declared.nested.Kind.TheVariants.{Open, Close, Digit, End}
use Rattle.wb_text_predictive.specs.declared.nested.Part.{Part}
use Rattle.wb_text_predictive.specs.declared.nested.Part.TheVariants.{Nest, Items}
use Rattle.wb_text_predictive.specs.declared.nested.Mark.{Mark}
use Rattle.wb_text_predictive.specs.Entries.{is_decided}
use Rattle.wb_text_predictive.specs.Kinds.{is_member}
use Rattle.wb_text_predictive.specs.Nested.{kind_of, mark_of, token_at, next_after, IsNestedNext, nested_rights, nested_entries}

-- one token of lookahead decides
pub nested_decided : (n : Part) → is_decided (sameb the_type) End nested_entries nested_rights n ≡ true
unfolding nested_rights nested_entries
nested_decided Nest = refl
nested_decided Items = refl

-- each kind but the end has a token
pub nested_sampled : (k : Kind) → sameb the_type k End ≡ false → (x : Mark) × (kind_of x ≡ k)
nested_sampled Open h = (Mark.Open, refl)
nested_sampled Close h = (Mark.Close, refl)
nested_sampled Digit h = (Mark.Digit 0, refl)
nested_sampled End h = absurd (cc)

-- one thing is next
pub nested_one_next : (text : List ℕ) (from : ℕ) (a b : Next Mark) → IsNestedNext text from a → IsNestedNext text from b → a ≡ b
nested_one_next text from a b e f = sym e ∙ f

-- a list may end the text
pub nested_ends : is_member (sameb the_type) End (nested_entries Nest).follow ≡ true
unfolding nested_entries
nested_ends = refl

-- what is read at a byte is after the place and within the bytes
token_within : (from at left : ℕ) (m : Option Mark) (x : Placed Mark) → from ≤ at → token_at at m ≡ Found x
    → (from < x.end) × (x.end ≤ at + suc left)
token_within from at left None x h e = absurd (cc)
token_within from at left (Some mark) x h e =
    let i : record { token = mark; at = at; end = at + 1 } ≡ x = cc in
    let j : at + 1 ≡ x.end = ap (λ y. y.end) i in
    (omega (arith, j), omega (arith, j))

-- so it is after spaces
found_within : (from at : ℕ) (bs : List ℕ) (x : Placed Mark) → from ≤ at → next_after at bs ≡ Found x
    → (from < x.end) × (x.end ≤ at + length bs)
found_within from at [] x h e = absurd (cc)
found_within from at (b ∷ bs) x h e =
    let le : from ≤ at + 1 = omega arith in
    choice (b == 32) (found_within from (at + 1) bs x le) (token_within from at (length bs) (mark_of b) x h) e
  where
    choice : (c : Bool) → (next_after (at + 1) bs ≡ Found x → (from < x.end) × (x.end ≤ (at + 1) + length bs))
        → (token_at at (mark_of b) ≡ Found x → (from < x.end) × (x.end ≤ at + suc (length bs)))
        → cond c (next_after (at + 1) bs) (token_at at (mark_of b)) ≡ Found x → (from < x.end) × (x.end ≤ at + suc (length bs))
    choice true f g e = let i = f e in (i.0, omega (arith, i.1))
    choice false f g e = g e

-- a token ends after the place and within the text
pub nested_advances : (text : List ℕ) (from : ℕ) (x : Placed Mark) → from ≤ length text
    → IsNestedNext text from (Found x) → (from < x.end) × (x.end ≤ length text)
nested_advances text from x h e =
    let i = found_within from from (drop from text) x (omega arith) e in
    let l = length-drop from text in
    (i.0, omega (arith, i.1, l))
