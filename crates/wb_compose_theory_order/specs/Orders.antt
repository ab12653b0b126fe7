-- Extensions in two orders, and where the numbers of the one union are in the other.
use Rattle.std.specs.Prelude.{◌≡◌, ◌+◌, ℕ, List, Some, length, slice_get}
use Rattle.wb_base.specs.Grammar.{GrammarView}
use Rattle.wb_compose_theory.specs.Renamings.{Renaming}
use Rattle.wb_compose_theory_grammar.specs.Pieces.{Piece}
use Rattle.wb_compose_theory_grammar.specs.Places.{Place, of_host, of_extension, past, place_of, count_before, total_of}
use Rattle.wb_compose_theory_grammar.specs.UnitedWorlds.{nonterminal_sizes, production_sizes, terminal_sizes}

-- the lists are one in two orders: what is at a place of the one is where `to` leads in the other, `from` leads back, and each undoes the
-- other
pub record IsReordering {X : Type 0} (to from : ℕ → ℕ) (xs ys : List X) : Type 0 where
  pub there : (k : ℕ) (x : X) → slice_get xs k ≡ Some x → slice_get ys (to k) ≡ Some x
  pub back : (k : ℕ) (x : X) → slice_get ys k ≡ Some x → slice_get xs (from k) ≡ Some x
  pub undone : (k : ℕ) → from (to k) ≡ k
  pub redone : (k : ℕ) → to (from k) ≡ k

-- the place among extensions in the other order
abbrev pub place_to : (ℕ → ℕ) → Place → Place
place_to to (of_host i) = of_host i
place_to to (of_extension k i) = of_extension (to k) i
place_to to (past j) = past j

-- the number at a place, where the host has `own` numbers and the extensions these sizes
abbrev pub number_at : (own : ℕ) → List ℕ → Place → ℕ
number_at own sizes (of_host i) = i
number_at own sizes (of_extension k i) = own + (count_before sizes k + i)
number_at own sizes (past j) = own + (total_of sizes + j)

-- a number of the one union in the other: of the same extension, or of the host or past all extensions
abbrev pub number_to : (own : ℕ) → (sizes others : List ℕ) → (ℕ → ℕ) → ℕ → ℕ
number_to own sizes others to x = number_at own others (place_to to (place_of own sizes x))

-- terminals, nonterminals and productions of the union of a host with extensions, in the union with these in another order
abbrev pub reordered : GrammarView → List ℕ → (pieces others : List Piece) → (ℕ → ℕ) → Renaming
reordered host extensible pieces others to = record {
  terminal = number_to host.terminals (terminal_sizes host extensible pieces) (terminal_sizes host extensible others) to;
  nonterminal = number_to host.nonterminals (nonterminal_sizes host extensible pieces) (nonterminal_sizes host extensible others) to;
  production = number_to (length host.productions) (production_sizes host extensible pieces) (production_sizes host extensible others) to;
}
