-- Where a base's closed nonterminals are declared.
use Rattle.std.specs.Prelude.{◌≡◌, ◌+◌, ℕ, true, List, Some, length, option_map, slice_get, take}
use Rattle.wb_syntax_resolved.specs.declared.attributes.Nonterminal.{Nonterminal}
use Rattle.wb_syntax_resolved.specs.declared.resolved.ResolvedParts.{ResolvedParts}
use Rattle.wb_names_theory.specs.declared.declaration.Declaration.{Declaration}
use Rattle.wb_names_theory.specs.Declares.{base_declarations}

-- the first declarations are those of a base
abbrev pub IsOver : ResolvedParts → List Declaration → Type 0
IsOver base declared = take (length (base_declarations base)) declared ≡ base_declarations base

-- there is a nonterminal of this number, and it is closed
abbrev pub HasClosed : List Nonterminal → ℕ → Type 0
HasClosed nonterminals number = option_map (λ (r : Nonterminal). r.closed) (slice_get nonterminals number) ≡ Some true

-- a closed nonterminal of a base is declared at this place
pub record IsClosedAt (base : ResolvedParts) (place : ℕ) : Type 0 where
  pub number : ℕ
  pub is_place : place ≡ length base.terminals + number
  pub closed : HasClosed base.attributes.nonterminals number
