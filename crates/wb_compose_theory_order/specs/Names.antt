-- Names of the numbers of a union: the host's, and then those of each extension in turn.
use Rattle.std.specs.Prelude.{◌≡◌, ℕ, List, [], ◌∷◌, ◌++◌, length, map}
use Rattle.wb_base.specs.Grammar.{GrammarView}
use Rattle.wb_compose_theory_grammar.specs.Pieces.{Piece}
use Rattle.wb_compose_theory_grammar.specs.UnitedWorlds.{production_sizes}
use Rattle.wb_values.specs.Signature.{Signature}

-- what each extension has, one after another
abbrev pub all_of : {X : Type 0} → List (List X) → List X
all_of [] = []
all_of (first ∷ blocks) = first ++ all_of blocks

-- what the host has, and then what each extension has
abbrev pub in_turn : {X : Type 0} → List X → List (List X) → List X
in_turn own blocks = own ++ all_of blocks

-- the signatures have the names of the productions of the host, and then those of each extension
pub record HasNamesInTurn (host : GrammarView) (extensible : List ℕ) (pieces : List Piece) (own : List (List ℕ))
    (blocks : List (List (List ℕ))) (signatures : List Signature) : Type 0 where
  pub own_len : length own ≡ length host.productions
  pub block_lens : map length blocks ≡ production_sizes host extensible pieces
  pub names : map (λ (s : Signature). s.name) signatures ≡ in_turn own blocks
