-- What is scanned of a host, and of a host with an extension: rows, preferences and names.
use Rattle.std.proofs.Common.{◌≡◌, ◌≢◌, ◌≤◌, ◌<◌, ◌+◌, ◌-◌, ◌∷◌, ◌⊎◌, inl, inr, [], ℕ, Bool, true, false, List, Some, length, map}
use Rattle.std.proofs.Common.{ap, refl, sym, subst, ◌∙◌, arith}
use Rattle.std.specs.Prelude.{All, Contains}
use Rattle.std.specs.List.{list_all}
use Rattle.std.proofs.lemmas.List.Elements.{All-cons, All-nil}
use Rattle.std.proofs.lemmas.Bool.{cases_lt}
use Rattle.std.proofs.lemmas.List.{length-map}
use Rattle.std.proofs.lemmas.Option.{slice_get_within}
use Rattle.wb_automata.specs.Automata.{IsMatch}
use Rattle.wb_base.specs.Grammar.{GrammarView}
use Rattle.wb_base.specs.Identifiers.{IsIdentifier, IsName, is_letter, is_name_byte}
use Rattle.wb_certify.specs.Lexicons.{is_host_layout, is_layout, is_own_layout, lexicon_beside, lexicon_of}
use Rattle.wb_graph.specs.Graphs.{IsEdgeBelow}
use Rattle.wb_lemmas.proofs.Elements.{all_at, all_from_contained}
use Rattle.wb_lemmas.proofs.Booleans.{and_parts}
use Rattle.wb_lemmas.proofs.Members.{place_of}
use Rattle.wb_lemmas.proofs.Places.{at_once, at_within}
use Rattle.wb_certify.specs.Resolving.{ResolvesExtension}
use Rattle.wb_names_numbers_theory.proofs.RowLemmas.{contains_map}
use Rattle.wb_regex.specs.Tree.{Tree}
use Rattle.wb_syntax_resolved.specs.declared.resolved.ResolvedParts.{ResolvedParts}
use Rattle.wb_syntax_resolved.specs.declared.terminal.Terminal.{Terminal}
use Rattle.wb_syntax_resolved.specs.declared.terminal.TerminalKind.TheVariants.{Ignore}
use Rattle.wb_syntax_resolved.specs.Grammar.{IsGrammarOf}
use Rattle.wb_syntax_resolved.specs.Resolved.{IsNamedPreference, IsResolved}
use Rattle.wb_syntax.specs.SpecText.{SpecView}
use Rattle.wb_termset.specs.Sets.{IsMember}
use Rattle.wb_compose_theory.specs.Worlds.{Mark}
use Rattle.wb_compose_theory_language.specs.Apart.{colon}
use Rattle.wb_compose_theory_language.specs.Written.{HasRows, IsHostLayoutRow, IsHostPreference, IsLayoutRow, IsOwnRow, IsWrittenBeside}
use Rattle.wb_compose_theory_language.specs.Written.{WrittenPiece, host_layouts, own_layouts}
use Rattle.wb_compose_theory_language.specs.Written.{row_up as row_up_in}
use Rattle.wb_certify.proofs.InRange.{grammar_of}
use Rattle.wb_certify.proofs.RowLemmas.{map_at}
use Rattle.wb_certify.proofs.LayoutRows.{from_map, kind_layout, layout_at, layout_past, past_layout, row_layout}
use Rattle.wb_certify.proofs.WrittenPreferences.{pair_of, preferences_are, preferred}
use Rattle.wb_certify.proofs.WrittenRows.{IsOwnPlace, host_owner, host_place, not_own_place, own_owner, row_up, rows_least, up, up_past}
use Rattle.wb_certify.proofs.KeptLemmas.{more_terminals}
use Rattle.wb_certify.proofs.LayoutLemmas.{host_row, nobody_empty, own_row, row_host, row_own}
use Rattle.wb_compose_theory_grammar.proofs.PlaceLemmas.{lift_below, lift_past}
use Rattle.wb_determinism_contexts.specs.Considered.{LexiconView}

-- the expression of a row
abbrev pub pattern_of : Terminal → Tree
pattern_of t = t.pattern

-- whether a row is layout
abbrev pub layout_of : Terminal → Bool
layout_of t = is_layout t.kind

module _ (r : ResolvedParts) (g : GrammarView) (whole : IsResolved r) (start : r.grammar ≡ Some g) where
  pub of_grammar : IsGrammarOf r g
  of_grammar = grammar_of r g whole start

  -- preferences are between rows
  pub edges : All (IsEdgeBelow (length (map pattern_of r.terminals))) (map pair_of r.preferences)
  edges = all_from_contained (IsEdgeBelow (length (map pattern_of r.terminals))) (map pair_of r.preferences) below
    where
      below : (p : ℕ × ℕ) → Contains (map pair_of r.preferences) p → IsEdgeBelow (length (map pattern_of r.terminals)) p
      below p has =
          let (q, listed, same) = contains_map pair_of r.preferences p has in
          let named = (let (j, at) = place_of r.preferences q listed in
          all_at (IsNamedPreference r) r.preferences j q whole.preferences at) in
          let a = slice_get_within r.terminals q.first named.first.terminal named.first.is in
          let b = slice_get_within r.terminals q.second named.second.terminal named.second.is in
          let long = length-map r.terminals pattern_of in
          subst (IsEdgeBelow (length (map pattern_of r.terminals))) same (omega (arith, a, long), omega (arith, b, long))

  pub edge_within : (t u : ℕ) → Contains (map pair_of r.preferences) (t, u) → (t < length r.terminals) × (u < length r.terminals)
  edge_within t u has =
      let (j, at) = place_of (map pair_of r.preferences) (t, u) has in
      let below = all_at (IsEdgeBelow (length (map pattern_of r.terminals))) (map pair_of r.preferences) j (t, u) edges at in
      let first = below.0 in
      let second = below.1 in
      let long = length-map r.terminals pattern_of in (omega (arith, first, long), omega (arith, second, long))

  -- layout is what comes past the terminals
  layout_row : (t : ℕ) → IsMember (map layout_of r.terminals) t
      → IsHostLayoutRow g.terminals (host_layouts g (lexicon_of r g)) t
  layout_row t is =
      let l = layout_at r g whole start t is in
      let past = l.past in
      let within = slice_get_within r.terminals t l.row l.at in
      let long = length-map r.terminals pattern_of in (past, omega (arith, past, within, long))

  past_row : (t : ℕ) → IsHostLayoutRow g.terminals (host_layouts g (lexicon_of r g)) t → IsMember (map layout_of r.terminals) t
  past_row t (far, under) =
      let long = length-map r.terminals pattern_of in
      let (row, at) = at_within r.terminals t (omega (arith, far, under, long)) in row_layout r g whole start t row at far

  -- a host by itself has no other rows
  no_own_row : (t : ℕ) → ¬ IsLayoutRow (g.terminals + host_layouts g (lexicon_of r g)) (lexicon_of r g) t
  no_own_row t (far, under) =
      let least = of_grammar.terminals_len in
      let long = length-map r.terminals pattern_of in omega (arith, far, under, least, long)

  -- rows of a host by itself
  pub has_rows : HasRows g.terminals (host_layouts g (lexicon_of r g)) (lexicon_of r g)
  has_rows = record {
    scanned = refl;
    no_fewer = (let least = of_grammar.terminals_len in let long = length-map r.terminals pattern_of in omega (arith, least, long));
    layout = λ t. (
      λ (is : IsMember (map layout_of r.terminals) t). layout_row t is,
      λ (is : IsHostLayoutRow g.terminals (host_layouts g (lexicon_of r g)) t). past_row t is,
    );
    own_layout = λ t. (
      λ (is : IsMember (map (λ (row : Terminal). false) r.terminals) t). absurd (nobody_empty r.terminals t is),
      λ (is : IsLayoutRow (g.terminals + host_layouts g (lexicon_of r g)) (lexicon_of r g) t). absurd (no_own_row t is),
    );
    within = edges;
  }

-- a name has no colon
letter_not_colon : is_letter colon ≡ true → ⊥
letter_not_colon e = absurd (cc e)

byte_not_colon : is_name_byte colon ≡ true → ⊥
byte_not_colon e = absurd (cc e)

pub no_colon : (name : List ℕ) → IsName name → All (λ b. b ≢ colon) name
no_colon name is = identifier name is.identifier
  where
    rest : (x : List ℕ) → list_all is_name_byte x ≡ true → All (λ b. b ≢ colon) x
    rest [] e = All-nil (λ b. b ≢ colon)
    rest (b ∷ x) e =
        let (first, later) = and_parts (is_name_byte b) (list_all is_name_byte x) e in
        All-cons (λ b. b ≢ colon) b x (λ f. byte_not_colon (subst (λ c. is_name_byte c ≡ true) f first)) (rest x later)

    identifier : (x : List ℕ) → IsIdentifier x → All (λ b. b ≢ colon) x
    identifier [] i = absurd i
    identifier (b ∷ x) (first, later) =
        All-cons (λ b. b ≢ colon) b x (λ f. letter_not_colon (subst (λ c. is_letter c ≡ true) f first)) (rest x later)

module _ (host r : ResolvedParts) (spec : SpecView) (names : ResolvesExtension host spec r) (host_whole : IsResolved host)
    (whole : IsResolved r) (h g : GrammarView) (host_start : host.grammar ≡ Some h) (start : r.grammar ≡ Some g)
    (alone : host.attributes.extensions ≡ []) where
  -- the number of a host's row, its layouts, and what is scanned with the extension
  abbrev here : ℕ → ℕ
  here t = up host r spec names host_whole whole h g host_start start alone t

  abbrev layouts : ℕ
  layouts = host_layouts h (lexicon_of host h)

  abbrev both : LexiconView
  both = lexicon_beside r g (length h.productions)

  -- how many these are
  own_few : h.terminals ≤ length host.terminals
  own_few = (of_grammar host h host_whole host_start).terminals_len

  more : h.terminals ≤ g.terminals
  more = more_terminals host r spec names host_whole whole h g host_start start

  layouts_are : layouts ≡ length host.terminals - h.terminals
  layouts_are = (let long = length-map host.terminals pattern_of in omega (arith, long))

  least : g.terminals + layouts ≤ length r.terminals
  least =
      let rows = rows_least host r spec names host_whole whole h g host_start start alone in
      let counted = layouts_are in
      let few = own_few in
      let many = more in omega (arith, rows, counted, few, many)

  -- a place past the terminals is the host's exactly if it is one of its layouts
  host_placed : (t : ℕ) → g.terminals ≤ t → t < g.terminals + layouts
      → ¬ IsOwnPlace host r spec names host_whole whole h g host_start start alone t
  host_placed t far under is =
      let counted = layouts_are in
      let few = own_few in
      let many = more in
      elim is [
        | inl between ↦ (let high = between.1 in omega (arith, far, high))
        | inr past ↦ omega (arith, under, past, counted, few, many)
      ]

  own_placed : (t : ℕ) → g.terminals + layouts ≤ t → IsOwnPlace host r spec names host_whole whole h g host_start start alone t
  own_placed t far =
      let counted = layouts_are in
      let few = own_few in
      let many = more in inr (omega (arith, far, counted, few, many))

  -- the host's layout
  host_layout_row : (t : ℕ) → IsMember (map is_host_layout r.terminals) t → IsHostLayoutRow g.terminals layouts t
  host_layout_row t is =
      let (row, at, kind, none) = host_row r.terminals t is in
      let past = past_layout r g whole start t row at Ignore kind refl in
      elim (cases_lt t (g.terminals + layouts)) [
        | inl under ↦ (past, under)
        | inr far ↦
            absurd (host_place host r spec names host_whole whole h g host_start start alone t row at none (own_placed t far))
      ]

  row_host_layout : (t : ℕ) → IsHostLayoutRow g.terminals layouts t → IsMember (map is_host_layout r.terminals) t
  row_host_layout t (far, under) =
      let long = least in
      let (row, at) = at_within r.terminals t (omega (arith, under, long)) in
      row_host r.terminals t row at (kind_layout row.kind (layout_past r g whole start t row at row.kind refl far))
      (host_owner host r spec names host_whole whole h g host_start start alone t row at (host_placed t far under))

  -- the extension's own
  own_layout_row : (t : ℕ) → IsMember (map is_own_layout r.terminals) t → IsLayoutRow (g.terminals + layouts) both t
  own_layout_row t is =
      let (row, at, kind, some) = own_row r.terminals t is in
      let past = past_layout r g whole start t row at Ignore kind refl in
      let within = slice_get_within r.terminals t row at in
      let long = length-map r.terminals pattern_of in
      elim (cases_lt t (g.terminals + layouts)) [
        | inl under ↦
            absurd (some (host_owner host r spec names host_whole whole h g host_start start alone t row at (host_placed t past under)))
        | inr far ↦ (far, omega (arith, within, long))
      ]

  row_own_layout : (t : ℕ) → IsLayoutRow (g.terminals + layouts) both t → IsMember (map is_own_layout r.terminals) t
  row_own_layout t (far, under) =
      let long = length-map r.terminals pattern_of in
      let (row, at) = at_within r.terminals t (omega (arith, under, long)) in
      let past : g.terminals ≤ t = omega (arith, far) in
      let one = own_owner host r spec names host_whole whole h g host_start start alone t row at (own_placed t far) in
      row_own r.terminals t row at (kind_layout row.kind (layout_past r g whole start t row at row.kind refl past))
      (λ none. omega (arith, none, one))

  -- rows of a host with an extension
  pub rows_beside : HasRows g.terminals (host_layouts h (lexicon_of host h)) (lexicon_beside r g (length h.productions))
  rows_beside = record {
    scanned = refl;
    no_fewer = (let all = least in let long = length-map r.terminals pattern_of in omega (arith, all, long));
    layout = λ t. (
      λ (is : IsMember (map is_host_layout r.terminals) t). host_layout_row t is,
      λ (is : IsHostLayoutRow g.terminals layouts t). row_host_layout t is,
    );
    own_layout = λ t. (
      λ (is : IsMember (map is_own_layout r.terminals) t). own_layout_row t is,
      λ (is : IsLayoutRow (g.terminals + layouts) both t). row_own_layout t is,
    );
    within = edges r g whole start;
  }

  -- what the host matches stays
  match_up : (t : ℕ) (text : List ℕ) → IsMatch (map pattern_of host.terminals) t text → IsMatch (map pattern_of r.terminals) (here t) text
  match_up t text m =
      let (was, at, is) = from_map pattern_of host.terminals t m.tree m.at in
      let y = row_up host r spec names host_whole whole h g host_start start alone t was at in
      record {
        tree = m.tree;
        at = map_at pattern_of r.terminals (here t) y.row y.there ∙ ap Some (y.moved.pattern ∙ is);
        matches = m.matches;
      }

  match_down : (t : ℕ) (text : List ℕ) → t < length host.terminals → IsMatch (map pattern_of r.terminals) (here t) text →
      IsMatch (map pattern_of host.terminals) t text
  match_down t text less m =
      let (row, at, is) = from_map pattern_of r.terminals (here t) m.tree m.at in
      let (was, there) = at_within host.terminals t less in
      let y = row_up host r spec names host_whole whole h g host_start start alone t was there in
      let same = at_once r.terminals (here t) y.row row y.there at in
      record {
        tree = m.tree;
        at = map_at pattern_of host.terminals t was there ∙ ap Some (sym y.moved.pattern ∙ (ap pattern_of same ∙ is));
        matches = m.matches;
      }

  module _ (mark : ℕ → Mark) (bridge : ℕ → ℕ) (name : List ℕ) where
    abbrev written : WrittenPiece
    written = record { piece = record { grammar = g; mark = mark; bridge = bridge }; name = name; lexicon = both }

    abbrev place : ℕ → ℕ
    place t = row_up_in h (lexicon_of host h) written t

    -- the host's rows aren't past its layouts, and what is past them is past all
    place_is : (t : ℕ) → t < length host.terminals → place t ≡ here t
    place_is t less = lift_below (g.terminals + layouts) (own_layouts h (lexicon_of host h) written) (here t) below
      where
        below : here t < g.terminals + layouts
        below = elim (cases_lt (here t) (g.terminals + layouts)) [
          | inl under ↦ under
          | inr far ↦
              absurd (not_own_place host r spec names host_whole whole h g host_start start alone t (here t) less refl
              (own_placed (here t) far))
        ]

    place_far : (t : ℕ) → length host.terminals ≤ t → length r.terminals ≤ place t
    place_far t far =
        let counted = layouts_are in
        let few = own_few in
        let many = more in
        let all = least in
        let long = length-map r.terminals pattern_of in
        let moved = up_past host r spec names host_whole whole h g host_start start alone t (omega (arith, few, far)) in
        let past = lift_past (g.terminals + layouts) (own_layouts h (lexicon_of host h) written) (here t)
        (omega (arith, counted, few, many, far, moved)) in
        omega (arith, counted, few, many, all, long, far, moved, past)

    match_there : (t : ℕ) (text : List ℕ) → IsMatch (map pattern_of host.terminals) t text →
        IsMatch (map pattern_of r.terminals) (place t) text
    match_there t text m =
        let (was, at, is) = from_map pattern_of host.terminals t m.tree m.at in
        subst (λ z. IsMatch (map pattern_of r.terminals) z text) (sym (place_is t (slice_get_within host.terminals t was at)))
        (match_up t text m)

    match_back : (t : ℕ) (text : List ℕ) → IsMatch (map pattern_of r.terminals) (place t) text →
        IsMatch (map pattern_of host.terminals) t text
    match_back t text m = elim (cases_lt t (length host.terminals)) [
      | inl less ↦ match_down t text less (subst (λ z. IsMatch (map pattern_of r.terminals) z text) (place_is t less) m)
      | inr far ↦
          let (row, at, is) = from_map pattern_of r.terminals (place t) m.tree m.at in
          let within = slice_get_within r.terminals (place t) row at in
          let past = place_far t far in absurd (omega (arith, within, past))
    ]

    -- a preference of the host, and one that isn't
    preferred_there : (t u : ℕ) → Contains (map pair_of host.preferences) (t, u) →
        Contains (map pair_of r.preferences) (place t, place u)
    preferred_there t u has =
        let (first, second) = edge_within host h host_whole host_start t u has in
        subst (λ z. Contains (map pair_of r.preferences) (z, place u)) (sym (place_is t first))
        (subst (λ z. Contains (map pair_of r.preferences) (here t, z)) (sym (place_is u second))
        (preferred host r spec names host_whole whole h g host_start start alone t u has))

    own_there : (t : ℕ) → t < length r.terminals → IsOwnPlace host r spec names host_whole whole h g host_start start alone t →
        IsOwnRow h (lexicon_of host h) written t
    own_there t within (inl between) = inl between
    own_there t within (inr past) =
        let counted = layouts_are in
        let few = own_few in
        let many = more in
        let long = length-map r.terminals pattern_of in
        inr (omega (arith, past, counted, few, many), omega (arith, within, long))

    preference_there : (t u : ℕ) → Contains (map pair_of r.preferences) (t, u) →
        IsHostPreference h (lexicon_of host h) written t u ⊎ (IsOwnRow h (lexicon_of host h) written t ⊎ IsOwnRow h (lexicon_of host h)
        written u)
    preference_there t u has =
        let (t_within, u_within) = edge_within r g whole start t u has in
        elim (preferences_are host r spec names host_whole whole h g host_start start alone t u has) [
          | inl p ↦
              let (first, second) = edge_within host h host_whole host_start p.first p.second p.listed in
              inl (record {
                first = p.first;
                second = p.second;
                listed = p.listed;
                first_is = p.first_is ∙ sym (place_is p.first first);
                second_is = p.second_is ∙ sym (place_is p.second second);
              })
          | inr (inl mine) ↦ inr (inl (own_there t t_within mine))
          | inr (inr mine) ↦ inr (inr (own_there u u_within mine))
        ]

    -- so with the extension the host is written as it is alone
    pub written_beside : IsWrittenBeside h (lexicon_of host h) written
    written_beside = record {
      productions = refl;
      matches = λ t text. (
        λ (m : IsMatch (map pattern_of host.terminals) t text). match_there t text m,
        λ (m : IsMatch (map pattern_of r.terminals) (place t) text). match_back t text m,
      );
      preferred = preferred_there;
      preferences = preference_there;
    }
