-- Preferences of the union, as they are gathered extension by extension.
use Rattle.std.proofs.Common.{◌≡◌, ◌∙◌, ◌≤◌, ◌⊎◌, ◌+◌, ◌++◌, ◌∷◌, [], ℕ, suc, List, Some, Contains, length, map, slice_get}
use Rattle.std.proofs.Common.{refl, sym, ap, subst, inl, inr, arith}
use Rattle.std.proofs.lemmas.Bool.{cases_lt}
use Rattle.std.proofs.lemmas.List.{length-map}
use Rattle.std.proofs.lemmas.Option.{slice_get_within}
use Rattle.wb_lemmas.proofs.Elements.{all_at}
use Rattle.wb_lemmas.proofs.Members.{contains_at, place_of}
use Rattle.wb_lemmas.proofs.Places.{at_once}
use Rattle.wb_syntax_resolved.specs.declared.terminal.Preference.{Preference}
use Rattle.wb_compose_theory_grammar.proofs.FactLemmas.{at_map, map_at, size_at}
use Rattle.wb_compose_theory_grammar.proofs.PlaceLemmas.{within_total}
use Rattle.wb_compose_theory_grammar.specs.Places.{count_before}
use Rattle.wb_compose_theory_grammar.specs.Unions.{added_terminals}
use Rattle.wb_compose_theory_language.specs.Rows.{by_extension, by_host, host_row, piece_row}
use Rattle.wb_compose_theory_language.specs.Apart.{IsPieceApart}
use Rattle.wb_compose_theory_language.specs.Written.{IsHostPreference, IsOwnRow, WrittenPiece, own_layouts, pieces_of, row_up}
use Rattle.wb_compose_theory_language.proofs.RowLemmas.{more, piece_there, up_row}
use Rattle.wb_compose_language.specs.declared.addition.Addition.{Addition}
use Rattle.wb_compose_language.specs.declared.addition.Lent.{Lent}
use Rattle.wb_compose_language.specs.Lents.{IsUnitable, all_in, own_in, written_beside}
use Rattle.wb_compose_language.specs.declared.row.Blocks.{Blocks}
use Rattle.wb_compose_language.specs.Inner.Layouts.{layout_sizes_in, owns_in}
use Rattle.wb_compose_language.specs.Inner.Rows.{AreBlocks, AreBlocksOf, AreEarlier, AreGathered, AreOwnAdded, ArePreferences}
use Rattle.wb_compose_language.specs.Inner.Rows.{IsOwnNumber, IsOwnPair, IsPreferred, IsPreferredBefore, layout_total, pair_in, row_in}
use Rattle.wb_compose_language.specs.Inner.Rows.{sizes_of, total}
use Rattle.wb_compose_language.specs.declared.preferences.Earlier.{Earlier}
use Rattle.wb_compose_language.specs.Inner.Rows as before
use Rattle.wb_compose_language.proofs.RowLemmas.{row_is}
use Rattle.wb_compose_language.proofs.WholeLemmas.{count_more}

-- what a list that was mapped has
mapped : {X Y : Type 0} (f : X → Y) (xs : List X) (y : Y) → Contains (map f xs) y → (x : X) × Contains xs x × (y ≡ f x)
mapped f xs y has =
    let (i, at) = place_of (map f xs) y has in
    let (x, there, is) = map_at f xs i y at in (x, contains_at xs x i there, is)

map_contains : {X Y : Type 0} (f : X → Y) (xs : List X) (x : X) → Contains xs x → Contains (map f xs) (f x)
map_contains f xs x has = let (i, at) = place_of xs x has in contains_at (map f xs) (f x) i (at_map f xs i x at)

-- a preference as a pair
abbrev pair_of : Preference → ℕ × ℕ
pair_of p = (p.first, p.second)

-- a pair of numbers of the union, by the numbers of the blocks
record IsPairOf (blocks : Blocks) (ps : List Preference) (one other : ℕ) : Type 0 where
  t : ℕ
  u : ℕ
  one_is : one ≡ row_in blocks t
  other_is : other ≡ row_in blocks u
  listed : Contains (map pair_of ps) (t, u)

pair_there : (blocks : Blocks) (ps : List Preference) (one other : ℕ) → Contains (map (pair_in blocks) ps) (one, other) →
    IsPairOf blocks ps one other
pair_there blocks ps one other has =
    let (p, listed, is) = mapped (pair_in blocks) ps (one, other) has in record {
      t = p.first;
      u = p.second;
      one_is = ap (λ (z : ℕ × ℕ). z.0) is;
      other_is = ap (λ (z : ℕ × ℕ). z.1) is;
      listed = map_contains pair_of ps p listed;
    }

pair_back : (blocks : Blocks) (ps : List Preference) (one other t u : ℕ) → one ≡ row_in blocks t → other ≡ row_in blocks u →
    Contains (map pair_of ps) (t, u) → Contains (map (pair_in blocks) ps) (one, other)
pair_back blocks ps one other t u one_is other_is has =
    let (p, listed, is) = mapped pair_of ps (t, u) has in
    let first = ap (row_in blocks) (ap (λ (z : ℕ × ℕ). z.0) (sym is)) ∙ sym one_is in
    let second = ap (row_in blocks) (ap (λ (z : ℕ × ℕ). z.1) (sym is)) ∙ sym other_is in
    subst (Contains (map (pair_in blocks) ps)) (λ j. (first j, second j)) (map_contains (pair_in blocks) ps p listed)

module _ (lent : Lent) where
  abbrev host_row_in : ℕ → ℕ
  host_row_in t = host_row lent.grammar.now lent.extensible.now (own_in lent) (all_in lent) t

  abbrev piece_row_in : ℕ → WrittenPiece → ℕ → ℕ
  piece_row_in k x t = piece_row lent.grammar.now lent.extensible.now (own_in lent) (all_in lent) k x t

  -- the host's preferences alone
  pub gathered_first : (blocks : Blocks) (none pairs : List (ℕ × ℕ)) → AreBlocks lent blocks 0 0 0 0 → none ≡ [] →
      pairs ≡ none ++ map (pair_in blocks) lent.preferences.now → AreGathered lent 0 pairs
  gathered_first blocks none pairs are nothing with_host one other = (there one other, back one other)
    where
      same : (t : ℕ) → row_in blocks t ≡ host_row_in t
      same = row_is lent blocks 0 0 0 0 are

      is : pairs ≡ map (pair_in blocks) lent.preferences.now
      is = with_host ∙ ap (λ zs. zs ++ map (pair_in blocks) lent.preferences.now) nothing

      there : (one other : ℕ) → Contains pairs (one, other) → IsPreferredBefore lent 0 one other
      there one other has =
          let p = pair_there blocks lent.preferences.now one other (subst (λ zs. Contains zs (one, other)) is has) in
          before.by_host p.t p.u (p.one_is ∙ same p.t) (p.other_is ∙ same p.u) p.listed

      back : (one other : ℕ) → IsPreferredBefore lent 0 one other → Contains pairs (one, other)
      back one other (before.by_host t u one_is other_is has) = subst (λ zs. Contains zs (one, other)) (sym is)
          (pair_back blocks lent.preferences.now one other t u (one_is ∙ sym (same t)) (other_is ∙ sym (same u)) has)
      back one other (before.by_extension k x t u less at one_is other_is has) = absurd (omega (arith, less))

  -- all of them
  pub gathered_all : (n : ℕ) (pairs : List (ℕ × ℕ)) → AreGathered lent n pairs → length lent.extensions.now ≤ n →
      ArePreferences lent pairs
  gathered_all n pairs are past one other = (there, back)
    where
      up : IsPreferredBefore lent n one other → IsPreferred lent one other
      up (before.by_host t u one_is other_is has) = by_host t u one_is other_is has
      up (before.by_extension k x t u less at one_is other_is has) = by_extension k x t u at one_is other_is has

      down : IsPreferred lent one other → IsPreferredBefore lent n one other
      down (by_host t u one_is other_is has) = before.by_host t u one_is other_is has
      down (by_extension k x t u at one_is other_is has) =
          let within = slice_get_within (all_in lent) k x at in
          let len = length-map lent.extensions.now (written_beside lent) in
          before.by_extension k x t u (omega (arith, within, len, past)) at one_is other_is has

      there : Contains pairs (one, other) → IsPreferred lent one other
      there has = up ((are one other).0 has)

      back : IsPreferred lent one other → Contains pairs (one, other)
      back p = (are one other).1 (down p)

  module _ (ok : IsUnitable lent) (k : ℕ) (x : Addition) (at : slice_get lent.extensions.now k ≡ Some x) where
    listed : slice_get (all_in lent) k ≡ Some (written_beside lent x)
    listed = at_map (written_beside lent) lent.extensions.now k x at

    -- an extension has no fewer terminals than the host
    pub no_fewer : lent.grammar.now.terminals ≤ x.grammar.now.terminals
    no_fewer = more lent.grammar.now lent.extensible.now (own_in lent) (all_in lent) ok.certified.are_pieces k (written_beside lent x) listed

    size_there : slice_get (sizes_of lent) k ≡ Some (added_terminals lent.grammar.now x.grammar.now)
    size_there = size_at lent.grammar.now lent.extensible.now (pieces_of (all_in lent)) (added_terminals lent.grammar.now) k
        ((written_beside lent x).piece) (piece_there lent.grammar.now lent.extensible.now (own_in lent) (all_in lent) ok.certified.are_pieces k
        (written_beside lent x) listed)

    -- and its own terminals are among those of all
    pub block_fits : count_before (sizes_of lent) k + added_terminals lent.grammar.now x.grammar.now ≤ total lent
    block_fits = within_total (sizes_of lent) k (added_terminals lent.grammar.now x.grammar.now) size_there

    -- a preference that names no terminal of the extension is the host's
    of_host : (t u : ℕ) → Contains (map pair_of x.preferences.now) (t, u) →
        IsHostPreference lent.grammar.now (own_in lent) (written_beside lent x) t u
        ⊎ (IsOwnRow lent.grammar.now (own_in lent) (written_beside lent x) t ⊎ IsOwnRow lent.grammar.now (own_in lent) (written_beside lent x) u)
    of_host t u has = (all_at (IsPieceApart lent.grammar.now lent.extensible.now (own_in lent)) (all_in lent) k (written_beside lent x)
        ok.apart.of_extensions listed).beside.preferences t u has

    row_of_host : (t : ℕ) → piece_row_in k (written_beside lent x) (row_up lent.grammar.now (own_in lent) (written_beside lent x) t) ≡ host_row_in t
    row_of_host = up_row lent.grammar.now lent.extensible.now (own_in lent) (all_in lent) ok.certified.are_pieces k (written_beside lent x) listed

    -- so are its own layouts
    layouts_there : slice_get (layout_sizes_in lent) k ≡ Some (owns_in lent x)
    layouts_there = at_map (own_layouts lent.grammar.now (own_in lent)) (all_in lent) k (written_beside lent x) listed

    layouts_fit : count_before (layout_sizes_in lent) k + owns_in lent x ≤ layout_total lent
    layouts_fit = within_total (layout_sizes_in lent) k (owns_in lent x) layouts_there

    -- so many come before the next
    pub earlier_next : (blocks : Blocks) (next : Earlier) → AreBlocksOf lent k x blocks →
        next.terminals ≡ blocks.terminals.before + blocks.terminals.size →
        next.layouts ≡ blocks.layouts.before + blocks.layouts.size → AreEarlier lent (k + 1) next
    earlier_next blocks next are terminals layouts =
        let a = count_more (sizes_of lent) k (added_terminals lent.grammar.now x.grammar.now) size_there in
        let b = count_more (layout_sizes_in lent) k (owns_in lent x) layouts_there in
        let before = are.blocks_are.before_is in
        let size = are.blocks_are.size_is in
        let layouts_before = are.blocks_are.layouts_before_is in
        let own = are.blocks_are.layouts_is in
        record {
          terminals_are = omega (arith, terminals, a, before, size);
          layouts_are = omega (arith, layouts, b, layouts_before, own);
        }

    -- the blocks are within all
    pub blocks_fit : (blocks : Blocks) → AreBlocksOf lent k x blocks →
        (blocks.terminals.before + blocks.terminals.size ≤ blocks.terminals.total)
        × (blocks.layouts.before + blocks.layouts.size ≤ blocks.layouts.total)
    blocks_fit blocks are =
        let fits = block_fits in
        let before = are.blocks_are.before_is in
        let size = are.blocks_are.size_is in
        let total_is = are.blocks_are.total_is in
        let all = layouts_fit in
        let layouts_before = are.blocks_are.layouts_before_is in
        let own = are.blocks_are.layouts_is in
        let layout_total_is = are.blocks_are.layout_total_is in
        (omega (arith, fits, before, size, total_is), omega (arith, all, layouts_before, own, layout_total_is))

    -- one extension more
    pub gathered_more : (blocks : Blocks) (old new : List (ℕ × ℕ)) → AreBlocksOf lent k x blocks → AreGathered lent k old →
        AreOwnAdded blocks x.preferences.now old new → AreGathered lent (k + 1) new
    gathered_more blocks old new blocks_are was are one other = (there one other, back one other)
      where
        same : (t : ℕ) → row_in blocks t ≡ piece_row_in k (written_beside lent x) t
        same = row_is lent blocks (count_before (sizes_of lent) k) (added_terminals lent.grammar.now x.grammar.now)
            (count_before (layout_sizes_in lent) k) (owns_in lent x) blocks_are.blocks_are

        is_own : (t : ℕ) → IsOwnRow lent.grammar.now (own_in lent) (written_beside lent x) t → IsOwnNumber blocks t
        is_own t (inl (low, high)) =
            let le = no_fewer in
            let own = blocks_are.blocks_are.own_is in
            let size = blocks_are.blocks_are.size_is in
            inl (omega (arith, low, own), omega (arith, high, own, size, le))
        is_own t (inr (low, high)) =
            let first = blocks_are.first_is in
            let count = blocks_are.blocks_are.layouts_is in
            inr (omega (arith, low, first), omega (arith, low, high, first, count))

        up : (one other : ℕ) → IsPreferredBefore lent k one other → IsPreferredBefore lent (k + 1) one other
        up one other (before.by_host t u one_is other_is has) = before.by_host t u one_is other_is has
        up one other (before.by_extension l y t u less there one_is other_is has) =
            before.by_extension l y t u (omega (arith, less)) there one_is other_is has

        there : (one other : ℕ) → Contains new (one, other) → IsPreferredBefore lent (k + 1) one other
        there one other has = elim (are.only (one, other) has) [
          | inl early ↦ up one other ((was one other).0 early)
          | inr (p, preferred, is) ↦
              before.by_extension k (written_beside lent x) p.first p.second (omega arith) listed
              (ap (λ (z : ℕ × ℕ). z.0) is ∙ same p.first) (ap (λ (z : ℕ × ℕ). z.1) is ∙ same p.second)
              (map_contains pair_of x.preferences.now p preferred)
        ]

        early : (one other : ℕ) → IsPreferredBefore lent k one other → Contains new (one, other)
        early one other p = are.kept (one, other) ((was one other).1 p)

        own_pair : (p : Preference) → Contains x.preferences.now p → IsOwnPair blocks p → (one other : ℕ) →
            one ≡ piece_row_in k (written_beside lent x) p.first → other ≡ piece_row_in k (written_beside lent x) p.second → Contains new (one, other)
        own_pair p preferred own one other one_is other_is =
            let first : row_in blocks p.first ≡ one = same p.first ∙ sym one_is in
            let second : row_in blocks p.second ≡ other = same p.second ∙ sym other_is in
            subst (Contains new) (λ j. (first j, second j)) (are.added p preferred own)

        -- a preference of the extension: one that the host has is there already
        mine : (one other t u : ℕ) → one ≡ piece_row_in k (written_beside lent x) t → other ≡ piece_row_in k (written_beside lent x) u →
            Contains (map pair_of x.preferences.now) (t, u) → Contains new (one, other)
        mine one other t u one_is other_is has =
            let (p, preferred, is) = mapped pair_of x.preferences.now (t, u) has in
            let first : t ≡ p.first = ap (λ (z : ℕ × ℕ). z.0) is in
            let second : u ≡ p.second = ap (λ (z : ℕ × ℕ). z.1) is in
            let one_there = one_is ∙ ap (piece_row_in k (written_beside lent x)) first in
            let other_there = other_is ∙ ap (piece_row_in k (written_beside lent x)) second in
            elim (of_host t u has) [
              | inl h ↦ early one other (before.by_host h.first h.second
                  (one_is ∙ (ap (piece_row_in k (written_beside lent x)) h.first_is ∙ row_of_host h.first))
                  (other_is ∙ (ap (piece_row_in k (written_beside lent x)) h.second_is ∙ row_of_host h.second)) h.listed)
              | inr (inl o) ↦ own_pair p preferred (inl (subst (IsOwnNumber blocks) first (is_own t o))) one other one_there other_there
              | inr (inr o) ↦ own_pair p preferred (inr (subst (IsOwnNumber blocks) second (is_own u o))) one other one_there other_there
            ]

        back : (one other : ℕ) → IsPreferredBefore lent (k + 1) one other → Contains new (one, other)
        back one other (before.by_host t u one_is other_is has) = early one other (before.by_host t u one_is other_is has)
        back one other (before.by_extension l y t u less there one_is other_is has) = elim (cases_lt l k) [
          | inl low ↦ early one other (before.by_extension l y t u low there one_is other_is has)
          | inr high ↦ last (omega (arith, less, high))
        ]
          where
            last : l ≡ k → Contains new (one, other)
            last e =
                let here = subst (λ z. slice_get (all_in lent) z ≡ Some y) e there in
                let y_is : y ≡ written_beside lent x = at_once (all_in lent) k y (written_beside lent x) here listed in
                mine one other t u (one_is ∙ (ap (λ z. piece_row_in z y t) e ∙ ap (λ z. piece_row_in k z t) y_is))
                (other_is ∙ (ap (λ z. piece_row_in z y u) e ∙ ap (λ z. piece_row_in k z u) y_is))
                (subst (λ (z : WrittenPiece). Contains z.lexicon.preferences (t, u)) y_is has)
