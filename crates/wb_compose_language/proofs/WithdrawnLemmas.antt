-- Which terminals of the union are withdrawn: markers that share a text with a terminal or layout of another extension.
use Rattle.std.proofs.Common.{◌≡◌, ◌≢◌, ◌∙◌, ◌<◌, ◌≤◌, ◌+◌, ◌++◌, ◌∷◌, [], ℕ, zero, suc, Bool, true, false, cond, List, Some, length}
use Rattle.std.proofs.Common.{slice_get, refl, sym, ap, subst, inl, inr, arith}
use Rattle.std.specs.Prelude.{◌↔◌, Contains}
use Rattle.std.proofs.lemmas.Bool.{cases_lt, eq-eqb}
use Rattle.std.proofs.lemmas.List.{length-map}
use Rattle.std.proofs.lemmas.Option.{same_Some, slice_get_within}
use Rattle.wb_base.specs.declared.symbol.Symbol.{Symbol}
use Rattle.wb_base.specs.declared.symbol.Symbol.TheVariants as symbol
use Rattle.wb_base.specs.Grammar.{Production}
use Rattle.wb_lemmas.proofs.Members.{contains_at, contains_push, push_contains, push_contains_last}
use Rattle.wb_lemmas.proofs.Places.{at_push, at_within, nothing_at}
use Rattle.wb_syntax_resolved.specs.declared.terminal.Terminal.{Terminal}
use Rattle.wb_compose_theory.specs.Worlds as world
use Rattle.wb_compose_theory_grammar.specs.Bridges.{begins, bridge_in_list, mark_by}
use Rattle.wb_compose_theory_grammar.specs.Laws.{IsOwn}
use Rattle.wb_compose_theory_grammar.proofs.FactLemmas.{map_at}
use Rattle.wb_compose_theory_language.specs.Apart.{IsMarkerRow}
use Rattle.wb_compose_theory_language.specs.Rows as reads
use Rattle.wb_compose_theory_language.specs.Rows.{piece_row}
use Rattle.wb_compose_theory_language.proofs.ReadLemmas.{reads_piece}
use Rattle.wb_compose_theory_language.specs.Written.{IsOwnLayoutRow, IsOwnRow, IsOwnTerminal, WrittenPiece, pieces_of}
use Rattle.wb_compose_language.specs.declared.addition.Addition.{Addition}
use Rattle.wb_compose_language.specs.declared.addition.Lent.{Lent}
use Rattle.wb_compose_language.specs.Inner.Known.{HasLayoutRows}
use Rattle.wb_compose_language.specs.Inner.FormsMade.{AreWithdrawnBelow, IsWithdrawnIn}
use Rattle.wb_compose_language.specs.Inner.Layouts.{hosts_in}
use Rattle.wb_compose_language.specs.Inner.Sharing.{SharesBefore, SharesWith, SharesWithOther}
use Rattle.wb_compose_language.specs.Lents.{HasBridges, IsUnitable, all_in, is_marker_in, own_in, written_beside}
use Rattle.wb_compose_language.proofs.KindLemmas.{ReadsIn, at_match, listed, marker_same, match_at, number_in, own_marker, past_host}
use Rattle.wb_compose_language.proofs.KindLemmas.{pattern_of, reads_there, there_reads}

-- a bridge is found
bridge_some : (first t p a : ℕ) (rest : List Symbol) (rules : List Production) → slice_get rules p ≡ Some ((a, symbol.Terminal t ∷ rest)) →
    (q : ℕ × ℕ) × (bridge_in_list first t rules ≡ Some q)
bridge_some first t p a rest [] at = absurd (nothing_at (a, symbol.Terminal t ∷ rest) p at)
bridge_some first t zero a rest (rule ∷ rules) at =
    let same : rule ≡ (a, symbol.Terminal t ∷ rest) = same_Some rule (a, symbol.Terminal t ∷ rest) at in
    let is : begins t rule.1 ≡ true = ap (λ (z : Production). begins t z.1) same ∙ eq-eqb t t refl in
    ((first, rule.0), ap (λ z. cond z (Some (first, rule.0)) (bridge_in_list (suc first) t rules)) is)
bridge_some first t (suc p) a rest (rule ∷ rules) at = choose (begins t rule.1) refl (bridge_some (suc first) t p a rest rules at)
  where
    choose : (b : Bool) → begins t rule.1 ≡ b → (q : ℕ × ℕ) × (bridge_in_list (suc first) t rules ≡ Some q) →
        (q : ℕ × ℕ) × (bridge_in_list first t (rule ∷ rules) ≡ Some q)
    choose true e (q, is) =
        ((first, rule.0), ap (λ z. cond z (Some (first, rule.0)) (bridge_in_list (suc first) t rules)) e)
    choose false e (q, is) =
        (q, ap (λ z. cond z (Some (first, rule.0)) (bridge_in_list (suc first) t rules)) e ∙ is)

module _ (lent : Lent) where
  -- a row that is no marker has no mark, and a marker has one
  pub bare_row : (x : Addition) (t : ℕ) → is_marker_in x t ≡ false → (written_beside lent x).piece.mark t ≡ world.bare
  bare_row x t is = ap (λ z. mark_by z (bridge_in_list 0 t x.grammar.now.productions)) is

  pub marker_row : (x : Addition) (t : ℕ) → HasBridges lent x → is_marker_in x t ≡ true →
      IsMarkerRow lent.grammar.now lent.extensible.now (own_in lent) (written_beside lent x) t
  marker_row x t bridges is =
      let b = bridges t is in
      let (q, found) = bridge_some 0 t b.number b.left b.rest x.grammar.now.productions b.rule in
      (q.1, ap (λ z. mark_by z (bridge_in_list 0 t x.grammar.now.productions)) is ∙ ap (mark_by true) found)

  -- no terminal more is withdrawn, or one
  pub none_more : (n : ℕ) (withdrawn : List ℕ) → ¬ IsWithdrawnIn lent n → AreWithdrawnBelow lent n withdrawn →
      AreWithdrawnBelow lent (n + 1) withdrawn
  none_more n withdrawn out was = record {
    each = λ m. (
      λ has. (let (less, is) = (was.each m).0 has in (omega (arith, less), is)),
      λ (less, is). elim (cases_lt m n) [
        | inl before ↦ (was.each m).1 (before, is)
        | inr far ↦ absurd (out (subst (IsWithdrawnIn lent) (let e : m ≡ n = omega (arith, less, far) in e) is))
      ],
    );
    rising = was.rising;
  }

  pub one_withdrawn : (n : ℕ) (withdrawn : List ℕ) → IsWithdrawnIn lent n → AreWithdrawnBelow lent n withdrawn →
      AreWithdrawnBelow lent (n + 1) (withdrawn ++ n ∷ [])
  one_withdrawn n withdrawn out was = record {
    each = λ m. (
      λ has. elim (contains_push withdrawn n m has) [
        | inl before ↦ (let (less, is) = (was.each m).0 before in (omega (arith, less), is))
        | inr same ↦ (omega (arith, same), subst (IsWithdrawnIn lent) same out)
      ],
      λ (less, is). elim (cases_lt m n) [
        | inl before ↦ push_contains withdrawn n m ((was.each m).1 (before, is))
        | inr far ↦ subst (Contains (withdrawn ++ n ∷ [])) (let e : n ≡ m = omega (arith, less, far) in e)
            (push_contains_last withdrawn n)
      ],
    );
    rising = λ i j m o at to less. elim (at_push withdrawn n o j to) [
      | inl there ↦ elim (at_push withdrawn n m i at) [
        | inl here ↦ was.rising i j m o here there less
        | inr (last, same) ↦ (let w = slice_get_within withdrawn j o there in absurd (omega (arith, w, less, last)))
      ]
      | inr (last, same) ↦ elim (at_push withdrawn n m i at) [
        | inl here ↦ (let low = ((was.each m).0 (contains_at withdrawn m i here)).0 in omega (arith, low, same))
        | inr (first, other) ↦ absurd (omega (arith, first, last, less))
      ]
    ];
  }

  module _ (ok : IsUnitable lent) where
    -- a terminal of the host isn't, nor is one of an extension that is no marker
    pub host_kept : (n : ℕ) → n < lent.grammar.now.terminals → ¬ IsWithdrawnIn lent n
    host_kept n less w =
        let mine = own_marker lent ok w.k w.x w.marker.listed w.marker.terminal w.marker.marker in
        let far = past_host lent ok w.k w.marker.terminal mine.0 in
        let there = w.marker.is in omega (arith, far, there, less)

    pub plain_kept : (k : ℕ) (x : WrittenPiece) → slice_get (all_in lent) k ≡ Some x → (t : ℕ) →
        IsOwn lent.grammar.now lent.extensible.now (pieces_of (all_in lent)) x.piece t → ¬ IsWithdrawnIn lent (number_in lent ok k t)
    plain_kept k x at t mine w =
        let (k_is, y_is, t_is) = marker_same lent ok k w.k x w.x at t (number_in lent ok k t) (mine.own, mine.within) refl w.marker in
        let (a, mark) = w.marker.marker in
        let there : x.piece.mark t ≡ world.on a = subst (λ z. x.piece.mark z ≡ world.on a) t_is
        (subst (λ (z : WrittenPiece). z.piece.mark w.marker.terminal ≡ world.on a) y_is mark) in
        let bad : world.bare ≡ world.on a = sym mine.unmarked ∙ there in cc

    -- a row of an extension's own, as it is read
    own_terminal : (y : Addition) (u : ℕ) → lent.grammar.now.terminals ≤ u → u < y.grammar.now.terminals →
        IsOwnRow lent.grammar.now (own_in lent) (written_beside lent y) u
    own_terminal y u far less = inl (far, less)

    own_layout : (y : Addition) (u : ℕ) → y.grammar.now.terminals + hosts_in lent ≤ u → u < length y.terminals.now →
        IsOwnRow lent.grammar.now (own_in lent) (written_beside lent y) u
    own_layout y u far less = let len = length-map y.terminals.now pattern_of in inr (far, omega (arith, less, len))

    -- a marker is, exactly where it shares a text with an own terminal or layout of another extension
    module _ (k : ℕ) (x : Addition) (at : slice_get lent.extensions.now k ≡ Some x) (t : ℕ) (row : Terminal)
        (marker : IsMarkerRow lent.grammar.now lent.extensible.now (own_in lent) (written_beside lent x) t)
        (row_at : slice_get x.terminals.now t ≡ Some row) where
      mine : IsOwnTerminal lent.grammar.now (own_in lent) (written_beside lent x) t
      mine = own_marker lent ok k (written_beside lent x) (listed lent ok k x at) t marker

      withdrawn_by : (l : ℕ) (y : Addition) → slice_get lent.extensions.now l ≡ Some y → l ≢ k → (from bound : ℕ) →
          (s : SharesBefore from bound y row.pattern) → IsOwnRow lent.grammar.now (own_in lent) (written_beside lent y) s.terminal →
          IsWithdrawnIn lent (number_in lent ok k t)
      withdrawn_by l y there differ from bound s own_row = record {
        k = k;
        x = written_beside lent x;
        marker = record { listed = listed lent ok k x at; terminal = t; marker = marker; is = refl };
        rival = piece_row lent.grammar.now lent.extensible.now (own_in lent) (all_in lent) l (written_beside lent y) s.terminal;
        of_other = record {
          other = l;
          extension = written_beside lent y;
          listed = listed lent ok l y there;
          different = differ;
          terminal = s.terminal;
          own_row = own_row;
          is = refl;
        };
        share = record {
          text = s.share.text;
          one_reads = reads_there lent ok k x at t row s.share.text mine.1 row_at s.share.one;
          other_reads = reads.of_extension l (written_beside lent y) s.terminal (listed lent ok l y there) refl
              (match_at y.terminals.now s.terminal s.row s.share.text s.at s.share.other);
        };
      }

      to : SharesWithOther lent.grammar.now.terminals (hosts_in lent) lent.extensions.now k row.pattern →
          IsWithdrawnIn lent (number_in lent ok k t)
      to s = elim s.shares [
        | inl one ↦ withdrawn_by s.other s.x s.at s.different lent.grammar.now.terminals s.x.grammar.now.terminals one
            (own_terminal s.x one.terminal one.far one.less)
        | inr one ↦ withdrawn_by s.other s.x s.at s.different (s.x.grammar.now.terminals + hosts_in lent) (length s.x.terminals.now) one
            (own_layout s.x one.terminal one.far one.less)
      ]

      -- the row shares the text that is read there
      shared_by : (l : ℕ) (y : Addition) → slice_get lent.extensions.now l ≡ Some y → (from bound u : ℕ) (text : List ℕ) → from ≤ u →
          u < bound → bound ≤ length y.terminals.now → ReadsIn lent ok (number_in lent ok k t) text →
          ReadsIn lent ok (piece_row lent.grammar.now lent.extensible.now (own_in lent) (all_in lent) l (written_beside lent y) u) text →
          SharesBefore from bound y row.pattern
      shared_by l y there from bound u text far less within one other =
          let (other_row, other_at) = at_within y.terminals.now u (omega (arith, less, within)) in
          record {
            terminal = u;
            far = far;
            less = less;
            row = other_row;
            at = other_at;
            share = record {
              text = text;
              one = there_reads lent ok k x at t row text mine.1 row_at one;
              other = at_match y.terminals.now u other_row text other_at
                  (reads_piece lent.grammar.now lent.extensible.now (own_in lent) (all_in lent) ok.certified.are_pieces ok.apart l
                  (written_beside lent y) (listed lent ok l y there) u text other);
            };
          }

      shares : (l : ℕ) (y : Addition) → slice_get lent.extensions.now l ≡ Some y → HasLayoutRows (hosts_in lent) y → (u : ℕ)
          (text : List ℕ) → IsOwnRow lent.grammar.now (own_in lent) (written_beside lent y) u →
          ReadsIn lent ok (number_in lent ok k t) text →
          ReadsIn lent ok (piece_row lent.grammar.now lent.extensible.now (own_in lent) (all_in lent) l (written_beside lent y) u) text →
          SharesWith lent.grammar.now.terminals (hosts_in lent) y row.pattern
      shares l y there has u text (inl (far, less)) one other = inl (shared_by l y there lent.grammar.now.terminals y.grammar.now.terminals
          u text far less (omega (arith, has)) one other)
      shares l y there has u text (inr (far, less)) one other =
          let len = length-map y.terminals.now pattern_of in
          inr (shared_by l y there (y.grammar.now.terminals + hosts_in lent) (length y.terminals.now) u text far
          (omega (arith, less, len)) (omega arith) one other)

      from : ((l : ℕ) (y : Addition) → slice_get lent.extensions.now l ≡ Some y → HasLayoutRows (hosts_in lent) y) →
          IsWithdrawnIn lent (number_in lent ok k t) →
          SharesWithOther lent.grammar.now.terminals (hosts_in lent) lent.extensions.now k row.pattern
      from rows w =
          let (k_is, y_is, t_is) = marker_same lent ok k w.k (written_beside lent x) w.x (listed lent ok k x at) t (number_in lent ok k t)
          mine refl w.marker in
          let (y, y_at, extension_is) = map_at (written_beside lent) lent.extensions.now w.of_other.other w.of_other.extension
          w.of_other.listed in
          let own_row = subst (λ (z : WrittenPiece). IsOwnRow lent.grammar.now (own_in lent) z w.of_other.terminal) extension_is
          w.of_other.own_row in
          let rival_is = w.of_other.is ∙ ap (λ z. piece_row lent.grammar.now lent.extensible.now (own_in lent) (all_in lent)
          w.of_other.other z w.of_other.terminal) extension_is in
          record {
            other = w.of_other.other;
            less = slice_get_within lent.extensions.now w.of_other.other y y_at;
            different = λ e. w.of_other.different (e ∙ k_is);
            x = y;
            at = y_at;
            shares = shares w.of_other.other y y_at (rows w.of_other.other y y_at) w.of_other.terminal w.share.text own_row
                w.share.one_reads (subst (λ z. ReadsIn lent ok z w.share.text) rival_is w.share.other_reads);
          }

      pub shares_is_withdrawn : ((l : ℕ) (y : Addition) → slice_get lent.extensions.now l ≡ Some y → HasLayoutRows (hosts_in lent) y) →
          SharesWithOther lent.grammar.now.terminals (hosts_in lent) lent.extensions.now k row.pattern ↔
          IsWithdrawnIn lent (number_in lent ok k t)
      shares_is_withdrawn rows = (to, from rows)
