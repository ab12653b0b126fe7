-- Names of a union come in turn: the host's, and then those of each extension.
use Rattle.std.proofs.Common.{◌≡◌, ◌+◌, ◌-◌, ◌++◌, ◌∷◌, ◌∙◌, [], ℕ, List, Some, All, length, map, ap, refl}
use Rattle.std.proofs.lemmas.List.{length-drop, length-map, map-append}
use Rattle.std.proofs.lemmas.List.Elements.{All-head, All-tail}
use Rattle.wb_base.specs.Grammar.{GrammarView}
use Rattle.wb_compose.specs.Kept.{AreCertifiedBoth}
use Rattle.wb_compose.specs.Joined.{AreCertifiedApart, Extended}
use Rattle.wb_compose.specs.Written.{written_in}
use Rattle.wb_operations.specs.Operations.{OperationSignature}
use Rattle.wb_syntax_resolved.specs.declared.resolved.ResolvedParts.{ResolvedParts}
use Rattle.wb_reading.specs.OrderedNames.{HasNamesInTurn, all_of}
use Rattle.wb_certify_shown.specs.Names.{grammar_terminals, productions_in, terminals_in}
use Rattle.wb_compose_theory.specs.Blocks.{lift}
use Rattle.wb_compose_theory_grammar.specs.UnitedWorlds.{production_sizes, terminal_sizes}
use Rattle.wb_compose.specs.WrittenLanguages.{pieces_of}
use Rattle.wb_values.specs.Signature.{Signature}
use Rattle.wb_compose_texts.specs.Names.{added_names}
use Rattle.wb_compose_texts.specs.Signatures.{added_count, added_signatures, grammar_signatures, nonterminals_in, signature_by}
use Rattle.wb_compose_texts.specs.Signatures.{signatures_after, signatures_of}
use Rattle.wb_compose_texts.proofs.TableLemmas.{names_len, signatures_len}

abbrev name_of : Signature → List ℕ
name_of s = s.name

-- new numbers keep the names
named_by : (number : ℕ → ℕ) (xs : List Signature) → map name_of (map (signature_by number) xs) ≡ map name_of xs
named_by number [] = refl
named_by number (s ∷ xs) = ap (λ z. s.name ∷ z) (named_by number xs)

-- the names of the productions that each extension adds
abbrev pub production_blocks : ResolvedParts → List ResolvedParts → List (List (List ℕ))
production_blocks host rs = map (λ (r : ResolvedParts). map name_of (added_signatures host r)) rs

abbrev pub production_names : ResolvedParts → List (List ℕ)
production_names host = map name_of (grammar_signatures host)

named_after : (host : ResolvedParts) (before : ℕ) (rs : List ResolvedParts) →
    map name_of (signatures_after host before rs) ≡ all_of (production_blocks host rs)
named_after host before [] = refl
named_after host before (r ∷ rs) =
    map-append name_of (map (signature_by (lift (nonterminals_in host.grammar) before)) (added_signatures host r))
    (signatures_after host (before + added_count host r) rs) ∙
    (λ z. named_by (lift (nonterminals_in host.grammar) before) (added_signatures host r) z ++
    named_after host (before + added_count host r) rs z)

abbrev pub resolved_in : List Extended → List ResolvedParts
resolved_in xs = map (λ (e : Extended). e.resolved) xs

module _ (host : ResolvedParts) (h : GrammarView) (operations : List OperationSignature) where
  abbrev Both : Extended → Type 0
  Both e = AreCertifiedBoth host e.resolved h e.grammar operations

  module _ (start : host.grammar ≡ Some h) where
    -- each extension has as many names as it adds terminals
    pub terminal_lens : (xs : List Extended) → All Both xs →
        map length (map (added_names host) (resolved_in xs)) ≡ terminal_sizes h host.extensible (pieces_of (written_in h xs))
    terminal_lens [] each = refl
    terminal_lens (e ∷ xs) each =
        let both = All-head Both e xs each in
        let len : length (added_names host e.resolved) ≡ e.grammar.terminals - h.terminals =
        length-drop (terminals_in host.grammar) (grammar_terminals e.resolved) ∙
        (λ z. (names_len e.resolved both.resolved ∙ ap terminals_in both.start) z - ap terminals_in start z) in
        λ z. len z ∷ terminal_lens xs (All-tail Both e xs each) z

    -- and as many signatures as it adds productions
    pub production_lens : (xs : List Extended) → All Both xs →
        map length (production_blocks host (resolved_in xs)) ≡ production_sizes h host.extensible (pieces_of (written_in h xs))
    production_lens [] each = refl
    production_lens (e ∷ xs) each =
        let both = All-head Both e xs each in
        let len : length (map name_of (added_signatures host e.resolved)) ≡ length e.grammar.productions - length h.productions =
        length-map (added_signatures host e.resolved) name_of ∙
        (length-drop (productions_in host.grammar) (grammar_signatures e.resolved) ∙
        (λ z. (signatures_len e.resolved both.resolved ∙ ap productions_in both.start) z - ap productions_in start z)) in
        λ z. len z ∷ production_lens xs (All-tail Both e xs each) z

  module _ (xs : List Extended) (apart : AreCertifiedApart host h operations xs) where
    -- the host has as many names as terminals
    pub own_terminals : length (grammar_terminals host) ≡ h.terminals
    own_terminals = names_len host apart.host_resolved ∙ ap terminals_in apart.host_start

    pub own_productions : length (production_names host) ≡ length h.productions
    own_productions =
        length-map (grammar_signatures host) name_of ∙ (signatures_len host apart.host_resolved ∙ ap productions_in apart.host_start)

    -- the signatures have the names of the host's productions, and then those of each extension
    pub in_turn_are : HasNamesInTurn h host.extensible (pieces_of (written_in h xs)) (production_names host)
        (production_blocks host (resolved_in xs)) (signatures_of host (resolved_in xs))
    in_turn_are = record {
      own_len = own_productions;
      block_lens = production_lens apart.host_start xs apart.each;
      names = map-append name_of (grammar_signatures host) (signatures_after host 0 (resolved_in xs)) ∙
          ap (λ z. production_names host ++ z) (named_after host 0 (resolved_in xs));
    }
