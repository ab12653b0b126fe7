-- The signatures of a union's productions, by number: the host's, and then those that each extension adds, in turn. An extension is given
-- by the host with it alone; names stay as they are printed, and the extension's own nonterminals get the union's numbers.
use Rattle.std.specs.Prelude.{◌+◌, ◌-◌, ℕ, Option, Some, None, List, [], ◌∷◌, ◌++◌, drop, map, take}
use Rattle.wb_base.specs.declared.symbol.Kind.{Kind}
use Rattle.wb_base.specs.declared.symbol.Kind.TheVariants as kind
use Rattle.wb_base.specs.Grammar.{GrammarView}
use Rattle.wb_syntax_resolved.specs.declared.resolved.ResolvedParts.{ResolvedParts}
use Rattle.wb_certify_shown.specs.Names.{productions_in}
use Rattle.wb_compose_theory.specs.Blocks.{lift}
use Rattle.wb_values.specs.Signature.{Signature}

-- how many nonterminals a grammar has, where there is one
abbrev pub nonterminals_in : Option GrammarView → ℕ
nonterminals_in None = 0
nonterminals_in (Some g) = g.nonterminals

-- the kind with a new number for its nonterminal
abbrev pub kind_by : (ℕ → ℕ) → Kind → Kind
kind_by number kind.Int = kind.Int
kind_by number kind.Bool = kind.Bool
kind_by number kind.Text = kind.Text
kind_by number (kind.Tree a) = kind.Tree (number a)

-- the signature with new numbers for its nonterminals
abbrev pub signature_by : (ℕ → ℕ) → Signature → Signature
signature_by number s = record { name = s.name; left = number s.left; children = map (kind_by number) s.children }

-- the signatures of the grammar's productions
abbrev pub grammar_signatures : ResolvedParts → List Signature
grammar_signatures r = take (productions_in r.grammar) r.attributes.signatures

-- the signatures of the productions that an extension adds
abbrev pub added_signatures : (host r : ResolvedParts) → List Signature
added_signatures host r = drop (productions_in host.grammar) (grammar_signatures r)

-- how many nonterminals of the grammar an extension adds
abbrev pub added_count : (host r : ResolvedParts) → ℕ
added_count host r = nonterminals_in r.grammar - nonterminals_in host.grammar

-- those of extensions, whose own nonterminals move up by so many, and further for each later extension
abbrev pub signatures_after : ResolvedParts → ℕ → List ResolvedParts → List Signature
signatures_after host before [] = []
signatures_after host before (r ∷ rest) =
    map (signature_by (lift (nonterminals_in host.grammar) before)) (added_signatures host r) ++
    signatures_after host (before + added_count host r) rest

-- those of all productions
abbrev pub signatures_of : ResolvedParts → List ResolvedParts → List Signature
signatures_of host extensions = grammar_signatures host ++ signatures_after host 0 extensions
