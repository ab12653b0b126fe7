-- Terminals and layout of the union by number: which rows of the host, and of an extension with the host, they are.
use Rattle.std.proofs.Common.{◌≡◌, ◌≢◌, ◌<◌, ◌≤◌, ◌+◌, ◌-◌, ◌∙◌, ◌⊎◌, ℕ, List, Some, length, slice_get, sym, ap, subst, inl, inr}
use Rattle.std.proofs.Common.{arith}
use Rattle.std.proofs.lemmas.Bool.{cases_lt}
use Rattle.wb_base.specs.Grammar.{GrammarView}
use Rattle.wb_determinism_contexts.specs.Considered.{LexiconView}
use Rattle.wb_compose_theory.specs.Blocks.{lift, spread}
use Rattle.wb_compose_theory_grammar.specs.Laws.{in_union}
use Rattle.wb_compose_theory_grammar.specs.Pieces.{ArePieces}
use Rattle.wb_compose_theory_grammar.specs.Places.{count_before, of_extension, place_of, total_of}
use Rattle.wb_compose_theory_grammar.specs.Unions.{added_terminals}
use Rattle.wb_compose_theory_grammar.proofs.FactLemmas.{at_map, size_at}
use Rattle.wb_compose_theory_grammar.proofs.BridgeLemmas.{piece_ok}
use Rattle.wb_compose_theory_grammar.proofs.PlaceLemmas.{lift_below, lift_past, place_extension, spread_below}
use Rattle.wb_compose_theory_grammar.proofs.PlaceLemmas.{spread_middle}
use Rattle.wb_compose_theory_grammar.proofs.PlaceLemmas.{spread_past, within_total}
use Rattle.wb_compose_theory.proofs.BlockLemmas.{spread_once, lift_spread}
use Rattle.wb_compose_theory_language.specs.Written.{IsOwnLayoutRow, IsOwnRow, IsOwnTerminal, WrittenPiece, host_layouts, own_layouts}
use Rattle.wb_compose_theory_language.specs.Written.{pieces_of, row_up}
use Rattle.wb_compose_theory_language.specs.Rows.{host_row, layout_sizes, layouts_from, piece_row, sizes}

module _ (host : GrammarView) (extensible : List ℕ) (own : LexiconView) (written : List WrittenPiece)
    (ok : ArePieces host extensible (pieces_of written)) where
  -- the sizes of all extensions together, and where their own layouts begin
  abbrev total : ℕ
  total = total_of (sizes host extensible own written)

  abbrev layout_total : ℕ
  layout_total = total_of (layout_sizes host extensible own written)

  abbrev from : ℕ
  from = layouts_from host extensible own written

  -- a row of the host has one number
  pub host_once : (t u : ℕ) → host_row host extensible own written t ≡ host_row host extensible own written u → t ≡ u
  host_once t u same = spread_once host.terminals 0 0 total (omega arith) t u
      (spread_once from 0 0 layout_total (omega arith) (spread host.terminals 0 0 total t) (spread host.terminals 0 0 total u) same)

  pub host_below : (t : ℕ) → t < host.terminals → host_row host extensible own written t ≡ t
  host_below t less =
      let here = spread_below host.terminals 0 0 total t less in
      spread_below from 0 0 layout_total (spread host.terminals 0 0 total t) (omega (arith, here, less)) ∙ here

  -- layout, and what comes after
  pub host_past : (j : ℕ) → j < host_layouts host own →
      host_row host extensible own written (host.terminals + j) ≡ host.terminals + (total + j)
  host_past j less =
      let here = spread_past host.terminals 0 0 total (host.terminals + j) (omega arith) in
      let there = spread_below from 0 0 layout_total (spread host.terminals 0 0 total (host.terminals + j)) (omega (arith, here, less)) in
      omega (arith, here, there)

  host_after : (t : ℕ) → host.terminals + host_layouts host own ≤ t → from + layout_total ≤ host_row host extensible own written t
  host_after t far =
      let here = spread_past host.terminals 0 0 total t (omega (arith, far)) in
      let there = spread_past from 0 0 layout_total (spread host.terminals 0 0 total t) (omega (arith, here, far)) in
      omega (arith, here, there, far)

  -- a row of the host comes before the extensions' own terminals, between these and their own layouts, or after all
  data HostRow (number : ℕ) : Type 0 where
    terminal : number < host.terminals → HostRow number
    layout : host.terminals + total ≤ number → number < from → HostRow number
    after : from + layout_total ≤ number → HostRow number

  host_is : (t : ℕ) → HostRow (host_row host extensible own written t)
  host_is t = elim (cases_lt t host.terminals) [
    | inl low ↦ terminal (let here = host_below t low in omega (arith, here, low))
    | inr high ↦ elim (cases_lt t (host.terminals + host_layouts host own)) [
      | inl near ↦ layout_row high near
      | inr far ↦ after (host_after t far)
    ]
  ]
    where
      layout_row : host.terminals ≤ t → t < host.terminals + host_layouts host own → HostRow (host_row host extensible own written t)
      layout_row high near =
          let back : host.terminals + (t - host.terminals) ≡ t = omega (arith, high) in
          let here = host_past (t - host.terminals) (omega (arith, high, near)) in
          let there : host_row host extensible own written t ≡ host.terminals + (total + (t - host.terminals)) =
          ap (host_row host extensible own written) (sym back) ∙ here in
          layout (omega (arith, there)) (omega (arith, there, high, near))

  module _ (k : ℕ) (x : WrittenPiece) (at : slice_get written k ≡ Some x) where
    pub piece_there : slice_get (pieces_of written) k ≡ Some (x.piece)
    piece_there = at_map (λ (y : WrittenPiece). y.piece) written k x at

    pub more : host.terminals ≤ x.piece.grammar.terminals
    more = (piece_ok host extensible (pieces_of written) ok k (x.piece) piece_there).extends.terminals

    -- the extension's sizes, and those of the ones before it
    abbrev added : ℕ
    added = added_terminals host x.piece.grammar

    abbrev before : ℕ
    before = count_before (sizes host extensible own written) k

    abbrev layouts : ℕ
    layouts = own_layouts host own x

    abbrev layouts_before : ℕ
    layouts_before = count_before (layout_sizes host extensible own written) k

    -- where its own layouts begin
    abbrev own_from : ℕ
    own_from = x.piece.grammar.terminals + host_layouts host own

    abbrev among_terminals : ℕ → ℕ
    among_terminals t = spread host.terminals before added total t

    size_there : slice_get (sizes host extensible own written) k ≡ Some added
    size_there = size_at host extensible (pieces_of written) (added_terminals host) k (x.piece) piece_there

    layouts_there : slice_get (layout_sizes host extensible own written) k ≡ Some layouts
    layouts_there = at_map (own_layouts host own) written k x at

    fits : before + added ≤ total
    fits = within_total (sizes host extensible own written) k added size_there

    layouts_fit : layouts_before + layouts ≤ layout_total
    layouts_fit = within_total (layout_sizes host extensible own written) k layouts layouts_there

    -- a row of an extension with the host has one number
    pub row_once : (t u : ℕ) → piece_row host extensible own written k x t ≡ piece_row host extensible own written k x u → t ≡ u
    row_once t u same = spread_once host.terminals before added total fits t u
        (spread_once from layouts_before layouts layout_total layouts_fit (among_terminals t) (among_terminals u) same)

    -- what comes before its own layouts
    early : (t : ℕ) → t < own_from → among_terminals t < from
    early t less =
        let le = more in
        let whole = fits in
        elim (cases_lt t host.terminals) [
          | inl low ↦ (let here = spread_below host.terminals before added total t low in omega (arith, here, low))
          | inr high ↦ elim (cases_lt t (host.terminals + added)) [
            | inl near ↦ (let here = spread_middle host.terminals before added total t high near in omega (arith, here, near, whole))
            | inr far ↦ (let here = spread_past host.terminals before added total t far in omega (arith, here, far, less, le, whole))
          ]
        ]

    late : (t : ℕ) → own_from ≤ t → among_terminals t ≡ from + (t - own_from)
    late t far =
        let le = more in
        let whole = fits in
        let here = spread_past host.terminals before added total t (omega (arith, far, le)) in
        omega (arith, here, far, le, whole)

    -- the host's rows are there too
    lift_among : (t : ℕ) → among_terminals (lift own_from layouts t) ≡ lift from layouts (among_terminals t)
    lift_among t = elim (cases_lt t own_from) [
      | inl near ↦
          ap among_terminals (lift_below own_from layouts t near) ∙ sym (lift_below from layouts (among_terminals t) (early t near))
      | inr far ↦
          let up = lift_past own_from layouts t far in
          let here = late (lift own_from layouts t) (omega (arith, up, far)) in
          let there = late t far in
          let goal = lift_past from layouts (among_terminals t) (omega (arith, there)) in
          omega (arith, up, here, there, goal, far)
    ]

    pub up_row : (t : ℕ) → piece_row host extensible own written k x (row_up host own x t) ≡ host_row host extensible own written t
    up_row t =
        ap (spread from layouts_before layouts layout_total) (lift_among (lift host.terminals added t))
        ∙ (sym (lift_spread from layouts_before layouts layout_total layouts_fit (among_terminals (lift host.terminals added t)))
        ∙ ap (spread from 0 0 layout_total) (sym (lift_spread host.terminals before added total fits t)))

    pub row_below : (t : ℕ) → t < host.terminals → piece_row host extensible own written k x t ≡ t
    row_below t less =
        let here = spread_below host.terminals before added total t less in
        spread_below from layouts_before layouts layout_total (among_terminals t) (omega (arith, here, less)) ∙ here

    -- where an own terminal is
    row_own : (t : ℕ) → IsOwnTerminal host own x t → piece_row host extensible own written k x t ≡ t + before
    row_own t (low, high) =
        let le = more in
        let here = spread_middle host.terminals before added total t low (omega (arith, high, le)) in
        spread_below from layouts_before layouts layout_total (among_terminals t) (early t (omega (arith, high))) ∙ here

    pub own_place : (t : ℕ) → IsOwnTerminal host own x t →
        place_of host.terminals (sizes host extensible own written) (piece_row host extensible own written k x t)
        ≡ of_extension k (t - host.terminals)
    own_place t is =
        let le = more in
        let high = is.1 in
        let low = is.0 in
        let here = row_own t is in
        place_extension host.terminals (sizes host extensible own written) k added
        (t - host.terminals) (piece_row host extensible own written k x t) size_there (omega (arith, high, low, le))
        (omega (arith, here, low))

    own_within : (t : ℕ) → IsOwnTerminal host own x t → (host.terminals ≤ piece_row host extensible own written k x t)
        × (piece_row host extensible own written k x t < host.terminals + total)
    own_within t is =
        let le = more in
        let whole = fits in
        let low = is.0 in
        let high = is.1 in
        let here = row_own t is in
        (omega (arith, here, low), omega (arith, here, low, high, le, whole))

    -- where layout of its own is
    pub row_layout : (t : ℕ) → IsOwnLayoutRow host own x t →
        piece_row host extensible own written k x t ≡ from + (layouts_before + (t - own_from))
    row_layout t (low, high) =
        let here = late t low in
        let there = spread_middle from layouts_before layouts layout_total (among_terminals t) (omega (arith, here))
        (omega (arith, here, low, high)) in
        omega (arith, there, here)

    layout_place : (t : ℕ) → IsOwnLayoutRow host own x t →
        place_of from (layout_sizes host extensible own written) (piece_row host extensible own written k x t)
        ≡ of_extension k (t - own_from)
    layout_place t is =
        let low = is.0 in
        let high = is.1 in
        place_extension from (layout_sizes host extensible own written) k layouts (t - own_from)
        (piece_row host extensible own written k x t) layouts_there (omega (arith, low, high)) (row_layout t is)

    layout_within : (t : ℕ) → IsOwnLayoutRow host own x t → (from ≤ piece_row host extensible own written k x t)
        × (piece_row host extensible own written k x t < from + layout_total)
    layout_within t is =
        let whole = layouts_fit in
        let low = is.0 in
        let high = is.1 in
        let here = row_layout t is in
        (omega (arith, here), omega (arith, here, low, high, whole))

    -- a terminal of the extension's grammar is the row of its number
    pub row_is : (t : ℕ) → t < x.piece.grammar.terminals →
        in_union host extensible (pieces_of written) k t ≡ piece_row host extensible own written k x t
    row_is t less = elim (cases_lt t host.terminals) [
      | inl low ↦ lift_below host.terminals before t low ∙ sym (row_below t low)
      | inr high ↦ lift_past host.terminals before t high ∙ sym (row_own t (high, less))
    ]

    -- what isn't own is the host's
    pub up_of_other : (t : ℕ) → ¬ IsOwnRow host own x t → (u : ℕ) × (t ≡ row_up host own x u)
    up_of_other t other = elim (cases_lt t host.terminals) [
      | inl low ↦ lifted t (let le = more in omega (arith, low, le)) (sym (lift_below host.terminals added t low))
      | inr high ↦ elim (cases_lt t x.piece.grammar.terminals) [
        | inl less ↦ absurd (other (inl (high, less)))
        | inr over ↦ elim (cases_lt t own_from) [ inl near ↦ near_layout over near | inr far ↦ past far ]
      ]
    ]
      where
        lifted : (u : ℕ) → t < own_from → t ≡ lift host.terminals added u → (u : ℕ) × (t ≡ row_up host own x u)
        lifted u less is = (u, is ∙ sym (lift_below own_from layouts (lift host.terminals added u) (subst (λ z. z < own_from) is less)))

        near_layout : x.piece.grammar.terminals ≤ t → t < own_from → (u : ℕ) × (t ≡ row_up host own x u)
        near_layout over near =
            let le = more in
            let here = lift_past host.terminals added (t - added) (omega (arith, over, le)) in
            lifted (t - added) near (omega (arith, here, over, le))

        past : own_from ≤ t → (u : ℕ) × (t ≡ row_up host own x u)
        past far = elim (cases_lt t (length x.lexicon.expressions)) [
          | inl less ↦ absurd (other (inr (far, less)))
          | inr over ↦
              let le = more in
              let u = t - layouts - added in
              let here = lift_past host.terminals added u (omega (arith, far, over, le)) in
              let there = lift_past own_from layouts (lift host.terminals added u) (omega (arith, here, far, over, le)) in
              (u, omega (arith, here, there, far, over, le))
        ]

    -- no row of the host is an extension's own
    pub host_not_own : (t u : ℕ) → IsOwnRow host own x t →
        host_row host extensible own written u ≡ piece_row host extensible own written k x t → ⊥
    host_not_own t u is same = go is (host_is u)
      where
        go : IsOwnRow host own x t → HostRow (host_row host extensible own written u) → ⊥
        go (inl mine) (terminal low) = let a = (own_within t mine).0 in omega (arith, a, low, same)
        go (inl mine) (layout low high) = let a = (own_within t mine).1 in omega (arith, a, low, same)
        go (inl mine) (after low) = let a = (own_within t mine).1 in omega (arith, a, low, same)
        go (inr mine) (terminal low) = let a = (layout_within t mine).0 in omega (arith, a, low, same)
        go (inr mine) (layout low high) = let a = (layout_within t mine).0 in omega (arith, a, high, same)
        go (inr mine) (after low) = let a = (layout_within t mine).1 in omega (arith, a, low, same)

  -- whether a row is an extension's own
  pub own_decided : (y : WrittenPiece) (u : ℕ) → IsOwnRow host own y u ⊎ (¬ IsOwnRow host own y u)
  own_decided y u = elim (both_decided host.terminals y.piece.grammar.terminals u) [
    | inl mine ↦ inl (inl mine)
    | inr other ↦ elim (both_decided (y.piece.grammar.terminals + host_layouts host own) (length y.lexicon.expressions) u) [
      | inl mine ↦ inl (inr mine)
      | inr none_here ↦ inr (λ h. elim h [ inl a ↦ other a | inr b ↦ none_here b ])
    ]
  ]
    where
      both_decided : (low high t : ℕ) → ((low ≤ t) × (t < high)) ⊎ (¬ ((low ≤ t) × (t < high)))
      both_decided low high t = elim (cases_lt t low) [
        | inl near ↦ inr (λ h. let a = h.0 in absurd (omega (arith, near, a)))
        | inr far ↦ elim (cases_lt t high) [
          | inl less ↦ inl (far, less)
          | inr over ↦ inr (λ h. let a = h.1 in absurd (omega (arith, over, a)))
        ]
      ]

  -- nor is one of another extension with the host
  pub other_not_own : (k l : ℕ) (x y : WrittenPiece) → slice_get written k ≡ Some x → slice_get written l ≡ Some y → k ≢ l →
      (t u : ℕ) → IsOwnRow host own x t → piece_row host extensible own written l y u ≡ piece_row host extensible own written k x t → ⊥
  other_not_own k l x y at there differ t u is same = elim (own_decided y u) [ inl mine ↦ owned is mine | inr other ↦ not_owned other ]
    where
      owned : IsOwnRow host own x t → IsOwnRow host own y u → ⊥
      owned (inl one) (inl two) =
          let bad : of_extension l (u - host.terminals) ≡ of_extension k (t - host.terminals) =
          sym (own_place l y there u two) ∙
          (ap (place_of host.terminals (sizes host extensible own written)) same ∙ own_place k x at t one) in
          let worse : l ≡ k = cc in differ (sym worse)
      owned (inl one) (inr two) =
          let high = (own_within k x at t one).1 in let low = (layout_within l y there u two).0 in omega (arith, high, low, same)
      owned (inr one) (inl two) =
          let high = (own_within l y there u two).1 in let low = (layout_within k x at t one).0 in omega (arith, high, low, same)
      owned (inr one) (inr two) =
          let bad : of_extension l (u - (y.piece.grammar.terminals + host_layouts host own))
          ≡ of_extension k (t - (x.piece.grammar.terminals + host_layouts host own)) =
          sym (layout_place l y there u two) ∙
          (ap (place_of from (layout_sizes host extensible own written)) same ∙ layout_place k x at t one) in
          let worse : l ≡ k = cc in differ (sym worse)

      not_owned : (¬ IsOwnRow host own y u) → ⊥
      not_owned other =
          let (v, v_is) = up_of_other l y there u other in
          host_not_own k x at t v is
          (sym (up_row l y there v) ∙ (ap (piece_row host extensible own written l y) (sym v_is) ∙ same))
