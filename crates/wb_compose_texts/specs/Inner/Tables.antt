-- What tables of names and of signatures are made of.
use Rattle.std.specs.Prelude.{◌≡◌, ◌++◌, ℕ, List, drop, map}
use Rattle.wb_syntax_resolved.specs.declared.resolved.ResolvedParts.{ResolvedParts}
use Rattle.wb_values.specs.Signature.{Signature}
use Rattle.wb_certify_shown.specs.Names.{grammar_terminals}
use Rattle.wb_compose_theory_grammar.specs.Places.{total_of}
use Rattle.wb_compose_texts.specs.Signatures.{added_count, grammar_signatures, signatures_after}

-- the names of the terminals of the grammar from this number on
abbrev pub names_from : ℕ → ResolvedParts → List (List ℕ)
names_from from r = drop from (grammar_terminals r)

-- the signatures of its productions from this number on
abbrev pub signatures_from : ℕ → ResolvedParts → List Signature
signatures_from from r = drop from (grammar_signatures r)

-- the signatures of these extensions came to what was there, and so many nonterminals of theirs come before the next
pub record AreAdded (host : ResolvedParts) (extensions : List ResolvedParts) (old made : List Signature) (before : ℕ) : Type 0 where
  pub made_is : made ≡ old ++ signatures_after host 0 extensions
  pub before_is : before ≡ total_of (map (added_count host) extensions)
