-- The language and the attributes of a host with extensions extend those of the host alone.
use Rattle.std.proofs.Common.{◌≡◌, ◌<◌, ◌+◌, ◌∙◌, inl, [], ℕ, Bool, List, length, map, sym, ap, subst, arith}
use Rattle.std.specs.Prelude.{IfSome, option_map}
use Rattle.std.proofs.lemmas.List.{length-take-le}
use Rattle.std.proofs.lemmas.List.Elements.{All-map}
use Rattle.std.proofs.lemmas.Simd.{map-map}
use Rattle.wb_base.specs.Different.{Differ}
use Rattle.wb_base.specs.Grammar.{GrammarView}
use Rattle.wb_lemmas.proofs.Elements.{all_weaker}
use Rattle.wb_operations.specs.Operations.{OperationSignature}
use Rattle.wb_scan_theory.specs.Languages.{LanguageView}
use Rattle.wb_syntax_resolved.specs.Attribution.{IsAttribution}
use Rattle.wb_syntax_resolved.specs.declared.resolved.ResolvedParts.{ResolvedParts}
use Rattle.wb_syntax_resolved.specs.Grammar.{IsGrammarOf}
use Rattle.wb_compose.specs.AttributeNumbers.{NumberMap}
use Rattle.wb_compose.specs.Languages.{IsUnitedLanguage}
use Rattle.wb_compose.specs.Additions.{Addition, IsAddition, Rows, nothing}
use Rattle.wb_compose.specs.ListedHosts.{IsOfRows, rows_of}
use Rattle.wb_compose.specs.JoinedLists.{Block, place_after}
use Rattle.wb_compose.specs.ListLaws.{AreAdded}
use Rattle.wb_compose.specs.ListNumbers.{block_of}
use Rattle.wb_compose.specs.UnitedLists.{host_numbers, united_attribution}
use Rattle.wb_compose.proofs.ListLawLemmas.{is_of_rows}
use Rattle.wb_compose.proofs.PlacedLemmas.{after_below}
use Rattle.wb_compose.specs.Lexicons.{lexicon_of}
use Rattle.wb_compose.specs.Kept.{AreCertifiedBoth}
use Rattle.wb_compose.specs.Attributes.{addition_of, additions_of}
use Rattle.wb_compose.specs.Joined.{Extended}
use Rattle.wb_compose.specs.Written.{name_in, written_in}
use Rattle.wb_compose.proofs.AdditionLemmas.{is_addition_of}
use Rattle.wb_compose.proofs.LawLemmas.{is_attribution}
use Rattle.wb_compose.proofs.WrittenApart.{all_apart, all_certified}
use Rattle.wb_compose_texts.specs.Roots.{attributes_in}
use Rattle.wb_compose_texts.specs.Unions.{Union}
use Rattle.wb_reading.specs.Attributions.{ExtendsAttribution}
use Rattle.wb_reading.specs.Extends.{Extends}
use Rattle.wb_reading.specs.Languages.{ExtendsLanguage}
use Rattle.wb_reading.proofs.UnionAttributeLemmas.{concrete, extends}
use Rattle.wb_reading.proofs.UnionLanguageLemmas.{extends_language, host_alone}
use Rattle.wb_compose_texts.specs.UnionMarkers.{AreUnionMarkers}
use Rattle.wb_compose_texts.proofs.MarkingLemmas.{are_marking}

module _ (host : ResolvedParts) (operations : List OperationSignature) (extensions : List ResolvedParts)
    (differ : Differ (map name_in extensions)) (all : Union host operations extensions) where
  abbrev g : GrammarView
  g = all.grammar

  abbrev xs : List Extended
  xs = all.extended

  abbrev rows : Rows
  rows = rows_of host g

  abbrev added : List Addition
  added = additions_of host g xs

  -- the host's numbers in the union
  abbrev pub numbers : NumberMap
  numbers = host_numbers rows added

  -- the extensions' names differ
  names_differ : Differ (map (λ (e : Extended). name_in e.resolved) xs)
  names_differ = subst Differ (ap (map name_in) (sym all.extensions_are) ∙ map-map name_in (λ (e : Extended). e.resolved) xs) differ

  pub are_attribution : IsAttribution (attributes_in host operations extensions all)
  are_attribution = (is_attribution host g operations xs all.certified names_differ).attributes

  of_rows : IsOfRows host g
  of_rows = is_of_rows host g (record {
    resolved = all.certified.host_resolved;
    alone = all.certified.host_certified.alone;
    grammar = all.certified.host_start;
  })

  -- the host's own attributes are those of no extensions
  pub host_is : host.attributes ≡ united_attribution rows []
  host_is = of_rows.are

  pub host_attribution : IsAttribution (united_attribution rows [])
  host_attribution = subst IsAttribution of_rows.are all.certified.host_resolved.attributes

  abbrev Both : Extended → Type 0
  Both e = AreCertifiedBoth host e.resolved g e.grammar operations

  are_added : AreAdded rows added
  are_added = record {
    host_roles = of_rows.roles;
    host_once = of_rows.once;
    each = All-map IsAddition (addition_of host g) xs (all_weaker Both (λ e. IsAddition (addition_of host g e)) xs
        (λ e both. is_addition_of host g operations e both) all.certified.each);
    differ = subst Differ (sym (map-map (λ (x : Addition). x.name) (addition_of host g) xs)) names_differ;
  }

  pub attributes_extend : ExtendsAttribution (united_attribution rows []) (attributes_in host operations extensions all) numbers
  attributes_extend = extends rows added are_added are_attribution

  -- the grammar is that of the host
  of_host : IsGrammarOf host g
  of_host = subst (λ k. IfSome k (IsGrammarOf host)) all.certified.host_start all.certified.host_resolved.numbered.grammar

  -- productions of the grammar keep their numbers
  pub concrete_stay : (p : ℕ) → p < length g.productions → numbers.production p ≡ p
  concrete_stay p less =
      let len = length-take-le (length g.productions) host.attributes.productions of_host.productions_len in
      concrete rows added p (omega (arith, less, len))

  -- and the start keeps its
  pub start_stays : numbers.nonterminal g.start ≡ g.start
  start_stays =
      let lead : Block = block_of rows added (λ (y : Addition). length y.rows.nonterminals) 0 nothing in
      let follow : Block = block_of rows added (λ (y : Addition). length y.rows.abstract_nonterminals) 0 nothing in
      let below : g.start < g.nonterminals =
      (of_host.nonterminals g.start).1 (inl (ap (option_map (λ (k : GrammarView). k.start)) all.certified.host_start)) in
      let count = length-take-le g.nonterminals host.attributes.nonterminals of_host.nonterminals_len in
      let less : g.start < length rows.nonterminals = omega (arith, below, count) in
      ap (place_after (length rows.nonterminals + lead.total + length rows.abstract_nonterminals) follow)
      (after_below (length rows.nonterminals) lead g.start less) ∙
      after_below (length rows.nonterminals + lead.total + length rows.abstract_nonterminals) follow g.start (omega (arith, less))

  module _ (h u : LanguageView) (of_host : IsUnitedLanguage g host.extensible (lexicon_of host g) [] h)
      (of_union : IsUnitedLanguage g host.extensible (lexicon_of host g) (written_in g xs) u) (markers : List Bool)
      (are : AreUnionMarkers host extensions markers) where
    language_extends : ExtendsLanguage h u markers
    language_extends =
        extends_language g host.extensible (lexicon_of host g) (written_in g xs) h u markers
        (all_certified host g operations xs all.certified) (all_apart host g operations xs all.certified names_differ) of_host of_union
        (are_marking host g operations all.certified.host_start xs all.certified.each markers
        (subst (λ z. AreUnionMarkers host z markers) (sym all.extensions_are) are))

    -- the language of no extensions has the host's grammar
    pub grammar_is : h.grammar ≡ g
    grammar_is = of_host.grammar ∙ host_alone g host.extensible

    pub union_extends : Extends h u (united_attribution rows []) (attributes_in host operations extensions all) numbers markers
    union_extends = record {
      language = language_extends;
      attributes = attributes_extend;
      concrete = λ p less. concrete_stay p (subst (λ (k : GrammarView). p < length k.productions) grammar_is less);
    }
