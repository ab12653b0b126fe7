-- Hosts and extensions in bytes, of which nothing matches the empty text.
use Rattle.std.specs.Prelude.{◌<◌, ℕ, List, [], All}
use Rattle.wb_automata.specs.Automata.{IsMatch}
use Rattle.wb_determinism_contexts.specs.Considered.{LexiconView}
use Rattle.wb_compose_theory_language.specs.Written.{WrittenPiece}

-- no terminal and no layout matches the empty text
abbrev pub HasNoEmpty : LexiconView → Type 0
HasNoEmpty lexicon = (t : ℕ) → ¬ IsMatch lexicon.expressions t []

-- so of the host and of each extension, and names are bytes
pub record AreSpelled (own : LexiconView) (written : List WrittenPiece) : Type 0 where
  pub of_host : HasNoEmpty own
  pub of_extensions : All (λ (x : WrittenPiece). HasNoEmpty x.lexicon) written
  pub names : All (λ (x : WrittenPiece). All (λ b. b < 256) x.name) written
