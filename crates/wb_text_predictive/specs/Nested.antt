-- Nested lists of digits: their tokens, their grammar with what it makes, and the entries of its table.
use Rattle.std.specs.Prelude.{◌≡◌, ℕ, ◌+◌, ◌-◌, ◌==◌, ◌&&◌, nat_le, List, [], ◌∷◌, ◌++◌, drop}
use Rattle.std.specs.Prelude.{true, false, Option, Some, None, if◌then◌else◌}
use Rattle.wb_text_predictive.specs.declared.symbol.Symbol.{Symbol}
use Rattle.wb_text_predictive.specs.declared.symbol.Symbol.TheVariants.{Token, Nonterminal, Act}
use Rattle.wb_text_predictive.specs.declared.table.Next.{Next}
use Rattle.wb_text_predictive.specs.declared.nested.Kind.{Kind}
use Rattle.wb_text_predictive.specs.declared.nested.Kind.TheVariants.{Open, Close, Digit, End}
use Rattle.wb_text_predictive.specs.declared.nested.Part.{Part}
use Rattle.wb_text_predictive.specs.declared.nested.Part.TheVariants.{Nest, Items}
use Rattle.wb_text_predictive.specs.declared.nested.Action.{Action}
use Rattle.wb_text_predictive.specs.declared.nested.Action.TheVariants.{Begin, Finish}
use Rattle.wb_text_predictive.specs.declared.nested.Mark.{Mark}
use Rattle.wb_text_predictive.specs.declared.nested.Event.{Event}
use Rattle.wb_text_predictive.specs.declared.nested.Event.TheVariants.{Began, Met, Finished}
use Rattle.wb_text_predictive.specs.Grammar.{Grammar}
use Rattle.wb_text_predictive.specs.Entries.{Entry}

-- the token that a byte is
abbrev pub mark_of : ℕ → Option Mark
mark_of b =
    if b == 40 then Some Mark.Open else if b == 41 then Some Mark.Close
    else if nat_le 48 b && nat_le b 57 then Some (Mark.Digit (b - 48)) else None

-- the token at a place, or none
abbrev pub token_at : ℕ → Option Mark → Next Mark
token_at at None = Next.NoToken at
token_at at (Some mark) = Next.Found (record { token = mark; at = at; end = at + 1 })

-- what is next in these bytes, which begin at this place: spaces are skipped
abbrev pub next_after : ℕ → List ℕ → Next Mark
next_after at [] = Next.End at
next_after at (b ∷ bs) = if b == 32 then next_after (at + 1) bs else token_at at (mark_of b)

-- this is next after a place of the text
abbrev pub IsNestedNext : List ℕ → ℕ → Next Mark → Type 0
IsNestedNext text from next = next_after from (drop from text) ≡ next

-- the kind of a token
abbrev pub kind_of : Mark → Kind
kind_of Mark.Open = Open
kind_of Mark.Close = Close
kind_of (Mark.Digit d) = Digit

-- a digit is met at its place
abbrev pub shift : Mark → ℕ → ℕ → List Event → List Event
shift Mark.Open at end events = events
shift Mark.Close at end events = events
shift (Mark.Digit d) at end events = events ++ Met d at ∷ []

-- a list begins or is finished
abbrev pub act : Action → List Event → List Event
act Begin events = events ++ Began ∷ []
act Finish events = events ++ Finished ∷ []

-- the right sides
unfoldable pub nested_rights : Part → List (List (Symbol Kind Part Action))
nested_rights Nest = (Token Open ∷ Act Begin ∷ Nonterminal Items ∷ Token Close ∷ Act Finish ∷ []) ∷ []
nested_rights Items = [] ∷ (Token Digit ∷ Nonterminal Items ∷ []) ∷ (Nonterminal Nest ∷ Nonterminal Items ∷ []) ∷ []

-- the grammar
abbrev pub nested_grammar : Grammar Kind Part Action Mark (List Event)
nested_grammar = record { start = Nest; rights = nested_rights; kind_of = kind_of; shift = shift; act = act }

-- the entries
unfoldable pub nested_entries : Part → Entry Kind
nested_entries Nest = record {
  kinds = (Open ∷ []) ∷ [];
  nullable = false;
  first = Open ∷ [];
  follow = Open ∷ Close ∷ Digit ∷ End ∷ [];
  rank = 1;
  weight = 1;
}
nested_entries Items = record {
  kinds = (Close ∷ []) ∷ (Digit ∷ []) ∷ (Open ∷ []) ∷ [];
  nullable = true;
  first = Open ∷ Digit ∷ [];
  follow = Close ∷ [];
  rank = 0;
  weight = 2;
}
