-- With an extension the host's terminals and layout are written as they were, the host's layout after all terminals, and each other row is
-- the extension's own: its terminals before that layout, and its own layout after it.
use Rattle.std.proofs.Common.{◌≡◌, ◌≤◌, ◌<◌, ◌+◌, ◌-◌, ◌++◌, ◌⊎◌, inl, inr, [], ℕ, Some, Contains, map}
use Rattle.std.proofs.Common.{length, slice_get, ap, refl, sym, subst, ◌∙◌, arith}
use Rattle.std.proofs.lemmas.Bool.{cases_lt}
use Rattle.std.proofs.lemmas.List.{length-append, length-map}
use Rattle.std.proofs.lemmas.Option.{slice_get_within}
use Rattle.std.proofs.lemmas.Slice.Zip.{AllZip-long}
use Rattle.wb_lemmas.proofs.Members.{contains_at, place_of}
use Rattle.wb_lemmas.proofs.Places.{append_after, append_keeps, at_once, at_within}
use Rattle.wb_lemmas.proofs.Zips.{zip_at}
use Rattle.wb_base.specs.Grammar.{GrammarView}
use Rattle.wb_names.specs.Resolving.{ResolvesExtension}
use Rattle.wb_names_theory.specs.declared.declaration.Declaration.TheVariants as d
use Rattle.wb_names_theory.specs.declared.declaration.Sort.{Sort}
use Rattle.wb_names_theory.specs.Declarations.{LexicalDeclaration, lexicals}
use Rattle.wb_names_theory.specs.Declares.{base_declarations, item_declarations, terminal_sort}
use Rattle.wb_names_theory.specs.Duplicate as duplicate
use Rattle.wb_names_numbers_theory.specs.Moved.{IsMovedTerminal}
use Rattle.wb_names_numbers_theory.specs.Numbering.{numbering_of}
use Rattle.wb_names_numbers_theory.specs.Resolves.{IsScanned}
use Rattle.wb_names_numbers_theory.specs.Rows.{IsTerminalRow}
use Rattle.wb_names_numbers_theory.specs.Sources.{IsFrom, sources}
use Rattle.wb_names_numbers_theory.proofs.Ground.{hosts}
use Rattle.wb_names_numbers_theory.proofs.Grouped.{both_at}
use Rattle.wb_names_numbers_theory.proofs.NumberLemmas.{differ_left}
use Rattle.wb_names_numbers_theory.proofs.PreferencesOnce.{IsAtSource, at_source, new, old}
use Rattle.wb_names_numbers_theory.proofs.RowLemmas.{contains_split}
use Rattle.wb_syntax_resolved.specs.declared.resolved.ResolvedParts.{ResolvedParts}
use Rattle.wb_syntax_resolved.specs.declared.terminal.Terminal.{Terminal}
use Rattle.wb_syntax_resolved.specs.Once.{Entry, symbol_names}
use Rattle.wb_syntax_resolved.specs.Resolved.{IsResolved}
use Rattle.wb_syntax.specs.SpecText.{SpecView}
use Rattle.wb_compose_theory.specs.Blocks.{lift}
use Rattle.wb_compose_theory_grammar.proofs.PlaceLemmas.{lift_below, lift_past}
use Rattle.wb_determinism_beside.proofs.GroupLemmas.{IsStretch, follow_kept, follow_least}
use Rattle.wb_determinism_beside.proofs.KeptLemmas as k
use Rattle.wb_determinism_beside.proofs.RowLemmas.{map_at}

module _ (host r : ResolvedParts) (spec : SpecView) (names : ResolvesExtension host spec r) (host_whole : IsResolved host)
    (whole : IsResolved r) (h g : GrammarView) (host_start : host.grammar ≡ Some h) (start : r.grammar ≡ Some g)
    (alone : host.attributes.extensions ≡ []) where
  -- the host's terminals lead, and its layout doesn't
  layout_stretch : IsStretch IsScanned h.terminals (length host.terminals - h.terminals) (sources host.terminals (lexicals spec.items))
  layout_stretch = record { before = before; within = within }
    where
      own_len : h.terminals ≤ length host.terminals
      own_len = (k.own host r spec names host_whole whole h g host_start start).terminals_len

      before : (i : ℕ) (x : Terminal ⊎ LexicalDeclaration) → i < h.terminals
          → slice_get (sources host.terminals (lexicals spec.items)) i ≡ Some x → IsScanned x
      before i x less at = by (at_source host.terminals (lexicals spec.items) i x at)
        where
          by : {z : Terminal ⊎ LexicalDeclaration} → IsAtSource host.terminals (lexicals spec.items) i z → IsScanned z
          by (old {x = y} there) = ((k.own host r spec names host_whole whole h g host_start start).terminals i y there).0 less
          by (new {x = y} j e there) = let le = own_len in absurd (omega (arith, e, less, le))

      within : (i : ℕ) (x : Terminal ⊎ LexicalDeclaration) → h.terminals ≤ i → i < h.terminals + (length host.terminals - h.terminals)
          → slice_get (sources host.terminals (lexicals spec.items)) i ≡ Some x → ¬ IsScanned x
      within i x low high at = by (at_source host.terminals (lexicals spec.items) i x at)
        where
          by : {z : Terminal ⊎ LexicalDeclaration} → IsAtSource host.terminals (lexicals spec.items) i z → ¬ IsScanned z
          by (old {x = y} there) scanned =
              let less = ((k.own host r spec names host_whole whole h g host_start start).terminals i y there).1 scanned in
              omega (arith, less, low)
          by (new {x = y} j e there) scanned = let le = own_len in omega (arith, e, high, le)

  -- the host's layouts follow, or more
  following_least : length host.terminals - h.terminals ≤ length names.value.terminals.following
  following_least =
      let le = (k.own host r spec names host_whole whole h g host_start start).terminals_len in
      let all = length-append (map left_of host.terminals) (map right_of (lexicals spec.items)) in
      let counted = length-map host.terminals left_of in
      follow_least IsScanned h.terminals (length host.terminals - h.terminals) (sources host.terminals (lexicals spec.items))
      names.value.terminals.leading names.value.terminals.following names.value.terminals.splits layout_stretch
      (omega (arith, le, all, counted))
    where
      left_of : Terminal → Terminal ⊎ LexicalDeclaration
      left_of x = inl x

      right_of : LexicalDeclaration → Terminal ⊎ LexicalDeclaration
      right_of x = inr x

  -- so there are no fewer rows than the host has, with the terminals that are added
  pub rows_least : length host.terminals + (g.terminals - h.terminals) ≤ length r.terminals
  rows_least =
      let le = (k.own host r spec names host_whole whole h g host_start start).terminals_len in
      let more = k.more_terminals host r spec names host_whole whole h g host_start start in
      let counted = (k.grammar_row host r spec names host_whole whole h g host_start start).terminals_are in
      let rows = AllZip-long (IsFrom (IsMovedTerminal (k.move host r spec names host_whole whole h g host_start start))
      (IsTerminalRow (numbering_of r) 1 spec.items)) (names.value.terminals.leading ++ names.value.terminals.following) r.terminals
      names.value.terminals.are_rows in
      let joined = length-append names.value.terminals.leading names.value.terminals.following in
      let after = following_least in
      omega (arith, le, more, counted, rows, joined, after)

  -- the number of a host's row
  abbrev pub up : ℕ → ℕ
  up t = lift h.terminals (g.terminals - h.terminals) t

  -- a row of the host, and its row there
  pub record RowUp (t : ℕ) (was : Terminal) : Type 0 where
    pub row : Terminal
    pub there : slice_get r.terminals (up t) ≡ Some row
    pub moved : IsMovedTerminal (k.move host r spec names host_whole whole h g host_start start) was row

  pub up_below : (t : ℕ) → t < h.terminals → up t ≡ t
  up_below t less = lift_below h.terminals (g.terminals - h.terminals) t less

  pub up_past : (t : ℕ) → h.terminals ≤ t → up t ≡ t + (g.terminals - h.terminals)
  up_past t far = lift_past h.terminals (g.terminals - h.terminals) t far

  -- each row of the host has one
  pub row_up : (t : ℕ) (was : Terminal) → slice_get host.terminals t ≡ Some was → RowUp t was
  row_up t was at = elim (cases_lt t h.terminals) [ inl low ↦ terminal low | inr high ↦ layout high ]
    where
      terminal : t < h.terminals → RowUp t was
      terminal low =
          let x = k.terminal_kept host r spec names host_whole whole h g host_start start t low in
          record {
            row = x.row;
            there = ap (slice_get r.terminals) (up_below t low) ∙ x.there;
            moved = subst (λ z. IsMovedTerminal (k.move host r spec names host_whole whole h g host_start start) z x.row)
                (at_once host.terminals t x.was was x.at at) x.moved;
          }

      layout : h.terminals ≤ t → RowUp t was
      layout high =
          let within = slice_get_within host.terminals t was at in
          let more = k.more_terminals host r spec names host_whole whole h g host_start start in
          let counted = (k.grammar_row host r spec names host_whole whole h g host_start start).terminals_are in
          let far = up_past t high in
          let source = append_keeps (map inl host.terminals) (map inr (lexicals spec.items)) t (inl was)
          (map_at inl host.terminals t was at) in
          let followed = follow_kept IsScanned h.terminals (length host.terminals - h.terminals)
          (sources host.terminals (lexicals spec.items)) names.value.terminals.leading names.value.terminals.following
          names.value.terminals.splits layout_stretch t (t - h.terminals) (inl was) (omega (arith, high)) (omega (arith, within, high))
          source in
          let place : up t ≡ length names.value.terminals.leading + (t - h.terminals) = omega (arith, far, counted, more, high) in
          let found = zip_at (IsFrom (IsMovedTerminal (k.move host r spec names host_whole whole h g host_start start))
          (IsTerminalRow (numbering_of r) 1 spec.items)) (names.value.terminals.leading ++ names.value.terminals.following) r.terminals
          (length names.value.terminals.leading + (t - h.terminals)) (inl was) names.value.terminals.are_rows
          (append_after names.value.terminals.leading names.value.terminals.following (t - h.terminals) ∙ followed) in
          record { row = found.other; there = ap (slice_get r.terminals) place ∙ found.there; moved = found.related }

  -- a place that isn't the host's: between its terminals and its layout, or past its layout
  abbrev pub IsOwnPlace : ℕ → Type 0
  IsOwnPlace t = ((h.terminals ≤ t) × (t < g.terminals)) ⊎ (length host.terminals + (g.terminals - h.terminals) ≤ t)

  pub own_decided : (t : ℕ) → IsOwnPlace t ⊎ (¬ IsOwnPlace t)
  own_decided t = elim (cases_lt t (length host.terminals + (g.terminals - h.terminals))) [
    | inl within ↦ elim (cases_lt t h.terminals) [
      | inl low ↦ inr (λ is. elim is [
        | inl between ↦ (let a = between.0 in omega (arith, low, a))
        | inr past ↦ omega (arith, within, past)
      ])
      | inr high ↦ elim (cases_lt t g.terminals) [
        | inl less ↦ inl (inl (high, less))
        | inr over ↦ inr (λ is. elim is [
          | inl between ↦ (let a = between.1 in omega (arith, over, a))
          | inr past ↦ omega (arith, within, past)
        ])
      ]
    ]
    | inr past ↦ inl (inr past)
  ]

  -- a row that was the host's, at its place
  pub record HostRow (t : ℕ) (row : Terminal) : Type 0 where
    pub number : ℕ
    pub was : Terminal
    pub there : slice_get host.terminals number ≡ Some was
    pub place : t ≡ up number
    pub moved : IsMovedTerminal (k.move host r spec names host_whole whole h g host_start start) was row

  -- a row at a place of the host is one of the host
  pub row_down : (t : ℕ) (row : Terminal) → slice_get r.terminals t ≡ Some row → ¬ IsOwnPlace t → HostRow t row
  row_down t row at other = elim (cases_lt t h.terminals) [
    | inl low ↦ (let le = (k.own host r spec names host_whole whole h g host_start start).terminals_len in
        by t (omega (arith, low, le)) (sym (up_below t low)))
    | inr high ↦ elim (cases_lt t g.terminals) [
      | inl less ↦ absurd (other (inl (high, less)))
      | inr over ↦ elim (cases_lt t (length host.terminals + (g.terminals - h.terminals))) [
        | inl within ↦
            let more = k.more_terminals host r spec names host_whole whole h g host_start start in
            let far = up_past (t - (g.terminals - h.terminals)) (omega (arith, over, more)) in
            by (t - (g.terminals - h.terminals)) (omega (arith, within, over, more, high)) (omega (arith, far, over, more))
        | inr past ↦ absurd (other (inr past))
      ]
    ]
  ]
    where
      by : (u : ℕ) → u < length host.terminals → t ≡ up u → HostRow t row
      by u less e =
          let (was, there) = at_within host.terminals u less in
          let x = row_up u was there in
          record {
            number = u;
            was = was;
            there = there;
            place = e;
            moved = subst (IsMovedTerminal (k.move host r spec names host_whole whole h g host_start start) was)
                (at_once r.terminals (up u) x.row row x.there (ap (slice_get r.terminals) (sym e) ∙ at)) x.moved;
          }

  -- the rows of the host are the host's
  pub host_owner : (t : ℕ) (row : Terminal) → slice_get r.terminals t ≡ Some row → ¬ IsOwnPlace t → row.owner ≡ 0
  host_owner t row at other =
      let x = row_down t row at other in
      x.moved.owner ∙ (hosts host host_whole alone).terminals x.was (contains_at host.terminals x.was x.number x.there)

  abbrev entry : Terminal → Entry
  entry t = (t.owner, t.name)

  -- a row that comes from one of the host has its place, since names are once
  row_place : (u t : ℕ) (was row : Terminal) → slice_get host.terminals u ≡ Some was → slice_get r.terminals t ≡ Some row →
      IsMovedTerminal (k.move host r spec names host_whole whole h g host_start start) was row → t ≡ up u
  row_place u t was row there at moved =
      let x = row_up u was there in
      let owner_is = x.moved.owner ∙ sym moved.owner in
      let name_is = x.moved.name ∙ sym moved.name in
      let same : entry x.row ≡ entry row = λ z. (owner_is z, name_is z) in
      let here : slice_get (map entry r.terminals) (up u) ≡ Some (row.owner, row.name) =
      map_at entry r.terminals (up u) x.row x.there ∙ ap Some same in
      sym (differ_left (numbering_of r).terminals (symbol_names r.attributes) whole.once.symbols (up u) t row.owner row.owner row.name here
      (map_at entry r.terminals t row at) (inr refl))

  -- each row is one of the host, or the extension's
  pub row_origin : (t : ℕ) (row : Terminal) → slice_get r.terminals t ≡ Some row → HostRow t row ⊎ (row.owner ≡ 1)
  row_origin t row at =
      let x = both_at IsScanned (IsFrom (IsMovedTerminal (k.move host r spec names host_whole whole h g host_start start))
      (IsTerminalRow (numbering_of r) 1 spec.items)) (sources host.terminals (lexicals spec.items)) r.terminals names.value.terminals t row
      at in
      let listed = contains_split IsScanned (sources host.terminals (lexicals spec.items)) names.value.terminals.leading
      names.value.terminals.following names.value.terminals.splits x.source
      (contains_at (names.value.terminals.leading ++ names.value.terminals.following) x.source t x.at) in
      let (j, place) = place_of (sources host.terminals (lexicals spec.items)) x.source listed in
      by j (at_source host.terminals (lexicals spec.items) j x.source place) x.is_row
    where
      by : (j : ℕ) {z : Terminal ⊎ LexicalDeclaration} → IsAtSource host.terminals (lexicals spec.items) j z →
          IsFrom (IsMovedTerminal (k.move host r spec names host_whole whole h g host_start start))
          (IsTerminalRow (numbering_of r) 1 spec.items) z row → HostRow t row ⊎ (row.owner ≡ 1)
      by j (old {x = was} there) moved = inl (record {
        number = j;
        was = was;
        there = there;
        place = row_place j t was row there at moved;
        moved = moved;
      })
      by j (new {x = y} i e there) is_row = inr is_row.owner_is

  -- no place of the host's rows is the extension's own
  pub not_own_place : (u t : ℕ) → u < length host.terminals → t ≡ up u → ¬ IsOwnPlace t
  not_own_place u t less e is = elim (cases_lt u h.terminals) [
    | inl low ↦
        let below = up_below u low in
        let le = (k.own host r spec names host_whole whole h g host_start start).terminals_len in
        elim is [
          | inl between ↦ (let a = between.0 in omega (arith, e, below, low, a))
          | inr past ↦ omega (arith, e, below, low, le, past)
        ]
    | inr high ↦
        let far = up_past u high in
        let more = k.more_terminals host r spec names host_whole whole h g host_start start in
        elim is [
          | inl between ↦ (let a = between.1 in omega (arith, e, far, high, more, a))
          | inr past ↦ omega (arith, e, far, less, past)
        ]
  ]

  -- and the others are the extension's
  pub own_owner : (t : ℕ) (row : Terminal) → slice_get r.terminals t ≡ Some row → IsOwnPlace t → row.owner ≡ 1
  own_owner t row at is = elim (row_origin t row at) [
    | inl x ↦ absurd (not_own_place x.number t (slice_get_within host.terminals x.number x.was x.there) x.place is)
    | inr one ↦ one
  ]

  -- so a row of owner 0 is at a place of the host
  pub host_place : (t : ℕ) (row : Terminal) → slice_get r.terminals t ≡ Some row → row.owner ≡ 0 → ¬ IsOwnPlace t
  host_place t row at zero_is is = let one = own_owner t row at is in omega (arith, zero_is, one)

  -- no symbol that the extension declares has the name of a terminal or layout of the host
  pub names_apart : (u : ℕ) (was : Terminal) → slice_get host.terminals u ≡ Some was → (is : Sort) →
      ¬ Contains (item_declarations spec.items) (d.Symbol was.name is)
  names_apart u was at is has =
      let terminals = map (λ (x : Terminal). d.Symbol x.name (terminal_sort x.kind)) host.terminals in
      let there : slice_get (base_declarations host) u ≡ Some (d.Symbol was.name (terminal_sort was.kind)) =
      append_keeps _ _ u _ (append_keeps _ _ u _ (append_keeps _ _ u _ (append_keeps terminals _ u _
      (map_at (λ (x : Terminal). d.Symbol x.name (terminal_sort x.kind)) host.terminals u was at)))) in
      let (j, own_at) = place_of (item_declarations spec.items) (d.Symbol was.name is) has in
      let less = slice_get_within (base_declarations host) u (d.Symbol was.name (terminal_sort was.kind)) there in
      names.names.once was.name record {
        first = u;
        second = length (base_declarations host) + j;
        order = omega (arith, less);
        one = d.Symbol was.name (terminal_sort was.kind);
        other = d.Symbol was.name is;
        at_first =
            append_keeps (base_declarations host) (item_declarations spec.items) u (d.Symbol was.name (terminal_sort was.kind)) there;
        at_second = append_after (base_declarations host) (item_declarations spec.items) j ∙ own_at;
        same = duplicate.symbol;
        shown = refl;
        counts = tt;
        production = tt;
      }
