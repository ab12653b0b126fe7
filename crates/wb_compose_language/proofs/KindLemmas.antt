-- Which forms a terminal of the union has, and what their expressions match.
use Rattle.std.proofs.Common.{◌≡◌, ◌∙◌, ◌<◌, ◌≤◌, ◌⊎◌, [], ℕ, List, Some, map, slice_get, refl, sym, ap, subst}
use Rattle.std.proofs.Common.{inl, inr, arith}
use Rattle.std.proofs.lemmas.Bool.{cases_eq}
use Rattle.wb_automata.specs.Automata.{IsMatch}
use Rattle.wb_lemmas.proofs.Places.{at_once}
use Rattle.wb_scan_theory.specs.declared.form.Form.{Form}
use Rattle.wb_scan_theory.specs.Languages.{bare}
use Rattle.wb_regex.specs.Matches.{Matches}
use Rattle.wb_regex.specs.Tree.{Tree}
use Rattle.wb_syntax_resolved.specs.declared.terminal.Terminal.{Terminal}
use Rattle.wb_compose_theory.specs.Worlds as world
use Rattle.wb_compose_theory_grammar.specs.Laws.{IsOwn, in_union}
use Rattle.wb_compose_theory_grammar.proofs.FactLemmas.{at_map, map_at}
use Rattle.wb_compose_theory_grammar.proofs.PlaceLemmas.{lift_past}
use Rattle.wb_compose_theory_grammar.specs.Places.{count_before}
use Rattle.wb_compose_theory_grammar.specs.UnitedWorlds.{terminal_sizes}
use Rattle.wb_compose_theory_language.specs.Written.{IsOwnTerminal, WrittenPiece, pieces_of}
use Rattle.wb_compose_theory_language.specs.Apart.{IsMarkerRow}
use Rattle.wb_compose_theory_language.specs.Forms.{IsMarkerOf, IsWithdrawn, kept, of_extension, of_host, prefix_of, prefixed}
use Rattle.wb_compose_theory_language.specs.Languages.{IsTextOf}
use Rattle.wb_compose_theory_language.specs.Rows as reads
use Rattle.wb_compose_theory_language.specs.Rows.{Reads, host_row, piece_row}
use Rattle.wb_compose_theory_language.proofs.BareLemmas.{marker_own, one_piece}
use Rattle.wb_compose_theory_language.proofs.ReadLemmas.{reads_host, reads_piece}
use Rattle.wb_compose_theory_language.proofs.RowLemmas.{host_below, other_not_own, row_is, row_once}
use Rattle.wb_compose_language.specs.declared.addition.Addition.{Addition}
use Rattle.wb_compose_language.specs.declared.addition.Lent.{Lent}
use Rattle.wb_compose_language.specs.Inner.FormsMade.{IsFormIn, Writes}
use Rattle.wb_compose_language.specs.Lents.{IsUnitable, all_in, own_in, written_beside}
use Rattle.wb_regex.specs.Prefixed.{IsPrefixed}

-- the expression of a row
abbrev pub pattern_of : Terminal → Tree
pattern_of t = t.pattern

-- forms are one by their terminal and their prefix
pub same_form : (f g : Form) → f.terminal ≡ g.terminal → f.prefix ≡ g.prefix → f ≡ g
same_form f g t p = λ j. record { terminal = t j; prefix = p j }

-- the expression at a place matches
pub match_at : (rows : List Terminal) (t : ℕ) (row : Terminal) (text : List ℕ) → slice_get rows t ≡ Some row → Matches row.pattern text →
    IsMatch (map pattern_of rows) t text
match_at rows t row text at m = record { tree = row.pattern; at = at_map pattern_of rows t row at; matches = m }

pub at_match : (rows : List Terminal) (t : ℕ) (row : Terminal) (text : List ℕ) → slice_get rows t ≡ Some row →
    IsMatch (map pattern_of rows) t text → Matches row.pattern text
at_match rows t row text at m =
    let (other, there, is) = map_at pattern_of rows t m.tree m.at in
    subst (λ z. Matches z text) (is ∙ ap pattern_of (at_once rows t other row there at)) m.matches

module _ (lent : Lent) (ok : IsUnitable lent) where
  -- the number of a terminal of an extension in the union
  abbrev pub number_in : ℕ → ℕ → ℕ
  number_in k t = in_union lent.grammar.now lent.extensible.now (pieces_of (all_in lent)) k t

  -- an extension at its place
  abbrev pub Listed : ℕ → WrittenPiece → Type 0
  Listed k x = slice_get (all_in lent) k ≡ Some x

  -- it is past the host's
  pub past_host : (k t : ℕ) → lent.grammar.now.terminals ≤ t → lent.grammar.now.terminals ≤ number_in k t
  past_host k t far =
      let e = lift_past lent.grammar.now.terminals
      (count_before (terminal_sizes lent.grammar.now lent.extensible.now (pieces_of (all_in lent))) k) t far in omega (arith, e, far)

  -- one number, one extension and one terminal
  one_extension : (k l : ℕ) (x y : WrittenPiece) → Listed k x → Listed l y → (t u : ℕ) → IsOwnTerminal lent.grammar.now (own_in lent) x t →
      IsOwnTerminal lent.grammar.now (own_in lent) y u → number_in l u ≡ number_in k t → k ≡ l
  one_extension k l x y at there t u mine other same = elim (cases_eq k l) [
    | inl e ↦ e
    | inr differ ↦ absurd (other_not_own lent.grammar.now lent.extensible.now (own_in lent) (all_in lent) ok.certified.are_pieces k l x y at
        there differ t u (inl mine) (sym (row_is lent.grammar.now lent.extensible.now (own_in lent) (all_in lent) ok.certified.are_pieces l y
        there u other.1) ∙ (same ∙ row_is lent.grammar.now lent.extensible.now (own_in lent) (all_in lent) ok.certified.are_pieces k x at t
        mine.1)))
  ]

  one_terminal : (k : ℕ) (x : WrittenPiece) → Listed k x → (t u : ℕ) → t < x.piece.grammar.terminals → u < x.piece.grammar.terminals →
      number_in k u ≡ number_in k t → u ≡ t
  one_terminal k x at t u less other same = row_once lent.grammar.now lent.extensible.now (own_in lent) (all_in lent)
      ok.certified.are_pieces k x at u t
      (sym (row_is lent.grammar.now lent.extensible.now (own_in lent) (all_in lent) ok.certified.are_pieces k x at u other) ∙
      (same ∙ row_is lent.grammar.now lent.extensible.now (own_in lent) (all_in lent) ok.certified.are_pieces k x at t less))

  -- a marker of the extension is its own
  pub own_marker : (k : ℕ) (x : WrittenPiece) → Listed k x → (m : ℕ) →
      IsMarkerRow lent.grammar.now lent.extensible.now (own_in lent) x m → IsOwnTerminal lent.grammar.now (own_in lent) x m
  own_marker k x at m marker = marker_own lent.grammar.now lent.extensible.now (own_in lent) (all_in lent) ok.certified ok.apart [] k x at m
      marker

  abbrev pub IsMarkerAt : ℕ → WrittenPiece → ℕ → Type 0
  IsMarkerAt k x n = IsMarkerOf lent.grammar.now lent.extensible.now (own_in lent) (all_in lent) k x n

  -- the number of a marker of some extension is that of this one
  pub marker_same : (k l : ℕ) (x y : WrittenPiece) → Listed k x → (t n : ℕ) → IsOwnTerminal lent.grammar.now (own_in lent) x t →
      n ≡ number_in k t → (marker : IsMarkerAt l y n) → (k ≡ l) × (y ≡ x) × (marker.terminal ≡ t)
  marker_same k l x y at t n mine n_is marker =
      let other = own_marker l y marker.listed marker.terminal marker.marker in
      let same = sym marker.is ∙ n_is in
      let k_is = one_extension k l x y at marker.listed t marker.terminal mine other same in
      let y_is = one_piece lent.grammar.now lent.extensible.now (own_in lent) (all_in lent) ok.certified ok.apart [] k l x y at
      marker.listed k_is in (
        k_is,
        y_is,
        one_terminal k x at t marker.terminal mine.1
            (subst (λ (z : WrittenPiece). marker.terminal < z.piece.grammar.terminals) y_is other.1)
            (ap (λ z. number_in z marker.terminal) k_is ∙ same),
      )

  -- a terminal of the host has its bare form alone
  pub host_form : (form : Form) (n : ℕ) → IsFormIn lent form → form.terminal ≡ n → n < lent.grammar.now.terminals → form ≡ bare n
  host_form form n (prefixed k x marker e) is less =
      let mine = own_marker k x marker.listed marker.terminal marker.marker in
      let far = past_host k marker.terminal mine.0 in
      let there = marker.is in absurd (omega (arith, far, there, is, less))
  host_form form n (kept k x marker out e) is less =
      let mine = own_marker k x marker.listed marker.terminal marker.marker in
      let far = past_host k marker.terminal mine.0 in
      let there = marker.is in absurd (omega (arith, far, there, is, less))
  host_form form n (of_host low e) is less = same_form form (bare n) is e
  host_form form n (of_extension k x t at mine there e) is less =
      let far = past_host k t mine.own in absurd (omega (arith, far, there, is, less))

  -- so has one of an extension that is no marker
  pub plain_form : (k : ℕ) (x : WrittenPiece) → Listed k x → (t : ℕ) →
      IsOwn lent.grammar.now lent.extensible.now (pieces_of (all_in lent)) x.piece t → (form : Form) → IsFormIn lent form →
      form.terminal ≡ number_in k t → form ≡ bare (number_in k t)
  plain_form k x at t mine form (prefixed l y marker e) is = absurd (unmarked l y marker)
    where
      unmarked : (l : ℕ) (y : WrittenPiece) → IsMarkerAt l y form.terminal → ⊥
      unmarked l y marker =
          let (k_is, y_is, t_is) = marker_same k l x y at t form.terminal (mine.own, mine.within) is marker in
          let (a, mark) = marker.marker in
          let there : x.piece.mark t ≡ world.on a = subst (λ z. x.piece.mark z ≡ world.on a) t_is
          (subst (λ (z : WrittenPiece). z.piece.mark marker.terminal ≡ world.on a) y_is mark) in
          let bad : world.bare ≡ world.on a = sym mine.unmarked ∙ there in cc
  plain_form k x at t mine form (kept l y marker out e) is =
      let (k_is, y_is, t_is) = marker_same k l x y at t form.terminal (mine.own, mine.within) is marker in
      let (a, mark) = marker.marker in
      let there : x.piece.mark t ≡ world.on a = subst (λ z. x.piece.mark z ≡ world.on a) t_is
      (subst (λ (z : WrittenPiece). z.piece.mark marker.terminal ≡ world.on a) y_is mark) in
      let bad : world.bare ≡ world.on a = sym mine.unmarked ∙ there in absurd (cc bad)
  plain_form k x at t mine form (of_host low e) is = let far = past_host k t mine.own in absurd (omega (arith, far, is, low))
  plain_form k x at t mine form (of_extension l y u there other n_is e) is = same_form form (bare (number_in k t)) is e

  -- a marker has its prefixed form, and its bare form where it isn't withdrawn
  pub marker_form : (k : ℕ) (x : WrittenPiece) → (at : Listed k x) → (t : ℕ) →
      IsMarkerRow lent.grammar.now lent.extensible.now (own_in lent) x t → (form : Form) → IsFormIn lent form →
      form.terminal ≡ number_in k t → ((form.prefix ≡ prefix_of x) ⊎ ((form.prefix ≡ []) ×
      (¬ IsWithdrawn lent.grammar.now lent.extensible.now (own_in lent) (all_in lent) (number_in k t))))
  marker_form k x at t mark form (prefixed l y marker e) is =
      let (k_is, y_is, t_is) = marker_same k l x y at t form.terminal (own_marker k x at t mark) is marker in
      inl (e ∙ ap prefix_of y_is)
  marker_form k x at t mark form (kept l y marker out e) is =
      inr (e, subst (λ n. ¬ IsWithdrawn lent.grammar.now lent.extensible.now (own_in lent) (all_in lent) n) is out)
  marker_form k x at t mark form (of_host low e) is =
      let far = past_host k t (own_marker k x at t mark).0 in absurd (omega (arith, far, is, low))
  marker_form k x at t (a, mark) form (of_extension l y u there other n_is e) is =
      let k_is = one_extension k l x y at there t u (own_marker k x at t (a, mark)) (other.own, other.within) (sym n_is ∙ is) in
      let y_is = one_piece lent.grammar.now lent.extensible.now (own_in lent) (all_in lent) ok.certified ok.apart [] k l x y at there
      k_is in
      let t_is = one_terminal k x at t u (own_marker k x at t (a, mark)).1
      (subst (λ (z : WrittenPiece). u < z.piece.grammar.terminals) y_is other.within) (ap (λ z. number_in z u) k_is ∙ (sym n_is ∙ is)) in
      let there' : x.piece.mark t ≡ world.bare = subst (λ z. x.piece.mark z ≡ world.bare) t_is
      (subst (λ (z : WrittenPiece). z.piece.mark u ≡ world.bare) y_is other.unmarked) in
      let bad : world.on a ≡ world.bare = sym mark ∙ there' in absurd (cc bad)

  -- what is read at a number
  abbrev pub ReadsIn : ℕ → List ℕ → Type 0
  ReadsIn n text = Reads lent.grammar.now lent.extensible.now (own_in lent) (all_in lent) n text

  -- the expression of a terminal of the host writes its bare form
  pub host_writes : (t : ℕ) (row : Terminal) → t < lent.grammar.now.terminals → slice_get lent.terminals.now t ≡ Some row →
      Writes lent row.pattern (bare t)
  host_writes t row less at text = (
    λ (m : Matches row.pattern text). record {
      lexeme = text;
      reads = reads.of_host t (sym here) (match_at lent.terminals.now t row text at m);
      is = refl;
    },
    λ (w : IsTextOf lent.grammar.now lent.extensible.now (own_in lent) (all_in lent) (bare t) text).
        at_match lent.terminals.now t row text at (reads_host lent.grammar.now lent.extensible.now (own_in lent) (all_in lent)
        ok.certified.are_pieces ok.apart t text (subst (λ z. ReadsIn z text) (sym here) (subst (ReadsIn t) (sym w.is) w.reads))),
  )
    where
      here : host_row lent.grammar.now lent.extensible.now (own_in lent) (all_in lent) t ≡ t
      here = host_below lent.grammar.now lent.extensible.now (own_in lent) (all_in lent) ok.certified.are_pieces t less

  module _ (k : ℕ) (x : Addition) (at : slice_get lent.extensions.now k ≡ Some x) where
    pub listed : Listed k (written_beside lent x)
    listed = at_map (written_beside lent) lent.extensions.now k x at

    -- what is read at the number of a terminal of an extension is what its row matches
    pub reads_there : (t : ℕ) (row : Terminal) (text : List ℕ) → t < x.grammar.now.terminals → slice_get x.terminals.now t ≡ Some row →
        Matches row.pattern text → ReadsIn (number_in k t) text
    reads_there t row text less row_at m = reads.of_extension k (written_beside lent x) t listed
        (row_is lent.grammar.now lent.extensible.now (own_in lent) (all_in lent) ok.certified.are_pieces k (written_beside lent x) listed t less)
        (match_at x.terminals.now t row text row_at m)

    pub there_reads : (t : ℕ) (row : Terminal) (text : List ℕ) → t < x.grammar.now.terminals → slice_get x.terminals.now t ≡ Some row →
        ReadsIn (number_in k t) text → Matches row.pattern text
    there_reads t row text less row_at r = at_match x.terminals.now t row text row_at
        (reads_piece lent.grammar.now lent.extensible.now (own_in lent) (all_in lent) ok.certified.are_pieces ok.apart k (written_beside lent x)
        listed t text (subst (λ z. ReadsIn z text)
        (row_is lent.grammar.now lent.extensible.now (own_in lent) (all_in lent) ok.certified.are_pieces k (written_beside lent x) listed t less) r))

    -- its expression writes its bare form
    pub bare_writes : (t : ℕ) (row : Terminal) → t < x.grammar.now.terminals → slice_get x.terminals.now t ≡ Some row →
        Writes lent row.pattern (bare (number_in k t))
    bare_writes t row less row_at text = (
      λ (m : Matches row.pattern text). record { lexeme = text; reads = reads_there t row text less row_at m; is = refl },
      λ (w : IsTextOf lent.grammar.now lent.extensible.now (own_in lent) (all_in lent) (bare (number_in k t)) text).
          there_reads t row text less row_at (subst (ReadsIn (number_in k t)) (sym w.is) w.reads),
    )

    -- and with the prefix its prefixed form
    pub prefixed_writes : (t : ℕ) (row : Terminal) (form : Form) (tree : Tree) → t < x.grammar.now.terminals →
        slice_get x.terminals.now t ≡ Some row → form.terminal ≡ number_in k t → IsPrefixed form.prefix row.pattern tree →
        Writes lent tree form
    prefixed_writes t row form tree less row_at n_is is text = (
      λ (m : Matches tree text). (let p = (is text).0 m in record {
        lexeme = p.rest;
        reads = subst (λ z. ReadsIn z p.rest) (sym n_is) (reads_there t row p.rest less row_at p.matches);
        is = p.is;
      }),
      λ (w : IsTextOf lent.grammar.now lent.extensible.now (own_in lent) (all_in lent) form text). (is text).1 (record {
        rest = w.lexeme;
        matches = there_reads t row w.lexeme less row_at (subst (λ z. ReadsIn z w.lexeme) n_is w.reads);
        is = w.is;
      }),
    )
