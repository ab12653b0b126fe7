-- The first marker of a text by other sets of the same markers, and in a language in other numbers.
use Rattle.std.proofs.Common.{◌↔◌, ◌∷◌, ◌∙◌, [], ℕ, Bool, List, map, ap}
use Rattle.std.proofs.lemmas.List.{map-append}
use Rattle.wb_compose_theory.specs.Renamings.{renamed}
use Rattle.wb_reading.specs.OrderedAnswers.{renamed_forest}
use Rattle.wb_reading.specs.OrderedLanguages.{IsSameLanguage, Renumbering}
use Rattle.wb_reading.proofs.OrderedTextLemmas.{derivation_there, leaves_there, next_there, on_text_there, renamed_leaf}
use Rattle.wb_grammar_theory.specs.Trees.{Leaf}
use Rattle.wb_reading.specs.Markers.{HasNoMarker, IsMarkerAt, IsPlain}
use Rattle.wb_scan_theory.specs.Languages.{LanguageView}
use Rattle.wb_scan_theory.specs.Tokens.{NextToken}
use Rattle.wb_termset.specs.Sets.{IsMember}

module _ (a b : List Bool) (same : (t : ℕ) → IsMember a t ↔ IsMember b t) where
  -- leaves that are no markers
  none_by : (xs : List Leaf) → HasNoMarker a xs → HasNoMarker b xs
  none_by [] none_in = tt
  none_by (x ∷ xs) (first, rest) = (λ has. first ((same x.terminal).1 has), none_by xs rest)

  -- a first marker of one set is one of the other
  pub marker_by : (l : LanguageView) (text : List ℕ) (place marker : ℕ) → IsMarkerAt l a text place marker →
      IsMarkerAt l b text place marker
  marker_by l text place marker x = record {
    tree = x.tree;
    is_tree = x.is_tree;
    read = x.read;
    rest = x.rest;
    is = x.is;
    before = none_by x.read x.before;
    prefix = x.prefix;
    from = x.from;
    on_text = x.on_text;
    lexeme = x.lexeme;
    after = x.after;
    is_next = x.is_next;
    marks = (same marker).0 x.marks;
  }

-- and a text without markers of one has none of the other
pub plain_by : (a b : List Bool) → ((t : ℕ) → IsMember a t ↔ IsMember b t) → (l : LanguageView) (text : List ℕ) → IsPlain l a text →
    IsPlain l b text
plain_by a b same l text plain place marker x =
    plain place marker (marker_by b a (λ t. ((same t).1, (same t).0)) l text place marker x)

module _ {r s : Renumbering} {l m : LanguageView} (same : IsSameLanguage r s l m) (markers others : List Bool)
    (moved : (t : ℕ) → IsMember markers t ↔ IsMember others (r.names.terminal t)) where
  none_there : (xs : List Leaf) → HasNoMarker markers xs → HasNoMarker others (map (renamed_leaf r.names) xs)
  none_there [] none_in = tt
  none_there (x ∷ xs) (first, rest) = (λ has. first ((moved x.terminal).1 has), none_there xs rest)

  -- where markers move to markers and nothing else does, a first marker in one language is one in the other
  pub marker_there : (text : List ℕ) (place marker : ℕ) → IsMarkerAt l markers text place marker →
      IsMarkerAt m others text place (r.names.terminal marker)
  marker_there text place marker x = record {
    tree = renamed_forest r.names x.tree;
    is_tree = derivation_there same.there.grammar x.tree x.is_tree;
    read = map (renamed_leaf r.names) x.read;
    rest = map (renamed_leaf r.names) x.rest;
    is = leaves_there r.names [] x.tree ∙
        (ap (map (renamed_leaf r.names)) x.is ∙ map-append (renamed_leaf r.names) x.read x.rest);
    before = none_there x.read x.before;
    prefix = map (renamed r.names) x.prefix;
    from = x.from;
    on_text = on_text_there r.names (NextToken l text) (NextToken m text) (λ prefix at next is. next_there same text prefix is) [] 0 x.read
        x.prefix x.from x.on_text;
    lexeme = x.lexeme;
    after = x.after;
    is_next = next_there same text x.prefix x.is_next;
    marks = (moved marker).0 x.marks;
  }
