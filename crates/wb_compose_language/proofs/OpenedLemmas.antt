-- Own terminals of extensions, one after another.
use Rattle.std.proofs.Common.{◌≡◌, ◌∙◌, ◌<◌, ◌≤◌, ◌+◌, ◌++◌, ◌∷◌, [], ℕ, Bool, true, false, List, Some, length, map, slice_get, sym, ap}
use Rattle.std.proofs.Common.{subst}
use Rattle.std.proofs.Common.{arith}
use Rattle.std.specs.Prelude.{◌↔◌, All, Contains, IsTrue, slice_index_or}
use Rattle.std.proofs.lemmas.List.{length-map}
use Rattle.std.proofs.lemmas.Option.{slice_get_within}
use Rattle.wb_lemmas.proofs.Elements.{all_at, all_from_places}
use Rattle.wb_lemmas.proofs.Members.{nothing_in}
use Rattle.wb_lemmas.proofs.Places.{at_default, at_once, at_within, default_at, nothing_at}
use Rattle.wb_scan_theory.specs.Languages.{bare}
use Rattle.wb_regex.specs.Tree.{Tree}
use Rattle.wb_syntax_resolved.specs.declared.terminal.Terminal.{Terminal}
use Rattle.wb_syntax_resolved.specs.declared.terminal.TerminalKind.TheVariants.{Marking}
use Rattle.wb_compose_theory_grammar.specs.Places.{count_before}
use Rattle.wb_compose_theory_grammar.specs.Unions.{added_terminals}
use Rattle.wb_compose_theory_grammar.proofs.FactLemmas.{size_at}
use Rattle.wb_compose_theory_grammar.proofs.PlaceLemmas.{lift_past}
use Rattle.wb_compose_theory_language.specs.Apart.{IsMarkerRow}
use Rattle.wb_compose_theory_language.specs.Written.{pieces_of}
use Rattle.wb_compose_theory_language.proofs.PreferenceLemmas.{apart_at}
use Rattle.wb_compose_theory_language.proofs.RowLemmas.{more, piece_there}
use Rattle.wb_compose_language.specs.declared.addition.Addition.{Addition}
use Rattle.wb_compose_language.specs.declared.addition.Lent.{Lent}
use Rattle.wb_compose_language.specs.declared.extension_forms.OwnTerminal.{OwnTerminal}
use Rattle.wb_compose_language.specs.declared.union_forms.UnitedForms.{UnitedForms}
use Rattle.wb_compose_language.specs.Inner.Known.{HasOwnRows}
use Rattle.wb_compose_language.specs.Inner.Layouts.{hosts_in}
use Rattle.wb_compose_language.specs.Inner.FormsMade.{AreMadeBelow, IsBareAdded, IsChosen, IsPrefixOf, IsPrefixedAdded, IsWithdrawnIn}
use Rattle.wb_compose_language.specs.Inner.Opened.{IsOwnTerminal, sizes_in, union_terminals}
use Rattle.wb_compose_language.specs.Inner.Sharing.{SharesWithOther}
use Rattle.wb_compose_language.specs.Lents.{HasBridges, IsUnitable, all_in, is_marker_row, is_marking, own_in, written_beside}
use Rattle.wb_compose_language.proofs.KindLemmas.{listed, number_in, pattern_of}
use Rattle.wb_compose_language.proofs.MadeLemmas.{marker_step, plain_step}
use Rattle.wb_compose_language.proofs.WholeLemmas.{count_all, count_more}
use Rattle.wb_compose_language.proofs.WithdrawnLemmas.{bare_row, marker_row, shares_is_withdrawn}

-- a bare form was added
pub bare_added : (old new : UnitedForms) (number : ℕ) (pattern : Tree) → new.forms.items ≡ old.forms.items ++ bare number ∷ [] →
    new.expressions.items ≡ old.expressions.items ++ pattern ∷ [] → new.withdrawn.items ≡ old.withdrawn.items →
    IsBareAdded old new number pattern
bare_added old new number pattern e f g = record { forms_are = e; expressions_are = f; withdrawn_are = g }

module _ (lent : Lent) where
  -- nothing is made
  pub none_made : (made : UnitedForms) → made.forms.items ≡ [] → made.expressions.items ≡ [] → made.withdrawn.items ≡ [] →
      AreMadeBelow lent 0 made
  none_made made e f g = record {
    forms = record {
      sound = record {
        each = λ place form at. absurd (nothing_at form place (subst (λ xs. slice_get xs place ≡ Some form) e at));
        once = λ form i j at to. absurd (nothing_at form i (subst (λ xs. slice_get xs i ≡ Some form) e at));
        len = ap length f ∙ sym (ap length e);
        written = λ place form tree at. absurd (nothing_at form place (subst (λ xs. slice_get xs place ≡ Some form) e at));
      };
      every = λ form is less. absurd (omega (arith, less));
    };
    withdrawn = record {
      each = λ n. (λ has. absurd (nothing_in n (subst (λ xs. Contains xs n) g has)), λ (less, is). absurd (omega (arith, less)));
      rising = λ i j m n at. absurd (nothing_at m i (subst (λ xs. slice_get xs i ≡ Some m) g at));
    };
  }

  module _ (ok : IsUnitable lent) where
    -- rows of the host, and of extensions
    pub host_rows : lent.grammar.now.terminals ≤ length lent.terminals.now
    host_rows =
        let e = length-map lent.terminals.now pattern_of in
        let le = ok.apart.of_host.clear.rows.no_fewer in omega (arith, e, le)

    pub own_rows : All (HasOwnRows lent.grammar.now.terminals (hosts_in lent)) lent.extensions.now
    own_rows = all_from_places (HasOwnRows lent.grammar.now.terminals (hosts_in lent)) lent.extensions.now rows
      where
        rows : (k : ℕ) (x : Addition) → slice_get lent.extensions.now k ≡ Some x → HasOwnRows lent.grammar.now.terminals (hosts_in lent) x
        rows k x at =
            let le = more lent.grammar.now lent.extensible.now (own_in lent) (all_in lent) ok.certified.are_pieces k (written_beside lent x)
            (listed lent ok k x at) in
            let e = length-map x.terminals.now pattern_of in
            let fewer = (apart_at lent.grammar.now lent.extensible.now (own_in lent) (all_in lent) ok.certified.are_pieces ok.apart k
            (written_beside lent x) (listed lent ok k x at)).clear.rows.no_fewer in
            (le, omega (arith, e, fewer))

    pub extension_rows : (k : ℕ) (x : Addition) → slice_get lent.extensions.now k ≡ Some x →
        HasOwnRows lent.grammar.now.terminals (hosts_in lent) x
    extension_rows k x at = all_at (HasOwnRows lent.grammar.now.terminals (hosts_in lent)) lent.extensions.now k x own_rows at

    pub extension_more : (k : ℕ) (x : Addition) → slice_get lent.extensions.now k ≡ Some x →
        lent.grammar.now.terminals ≤ x.grammar.now.terminals
    extension_more k x at = (all_at (HasOwnRows lent.grammar.now.terminals (hosts_in lent)) lent.extensions.now k x own_rows at).0

    -- where the next extension's begin
    pub extension_end : (k : ℕ) (x : Addition) → slice_get lent.extensions.now k ≡ Some x →
        x.grammar.now.terminals + count_before (sizes_in lent) k ≡ lent.grammar.now.terminals + count_before (sizes_in lent) (k + 1)
    extension_end k x at =
        let size = size_at lent.grammar.now lent.extensible.now (pieces_of (all_in lent)) (added_terminals lent.grammar.now) k
        (written_beside lent x).piece (piece_there lent.grammar.now lent.extensible.now (own_in lent) (all_in lent) ok.certified.are_pieces k
        (written_beside lent x) (listed lent ok k x at)) in
        let e = count_more (sizes_in lent) k (added_terminals lent.grammar.now x.grammar.now) size in
        let le = (all_at (HasOwnRows lent.grammar.now.terminals (hosts_in lent)) lent.extensions.now k x own_rows at).0 in omega (arith, e, le)

    -- and where all end
    pub all_end : lent.grammar.now.terminals + count_before (sizes_in lent) (length lent.extensions.now) ≡ union_terminals lent
    all_end =
        let e : length (sizes_in lent) ≡ length lent.extensions.now = sizes_len in
        ap (λ n. lent.grammar.now.terminals + n) (ap (count_before (sizes_in lent)) (sym e) ∙ count_all (sizes_in lent))
      where
        sizes_len : length (sizes_in lent) ≡ length lent.extensions.now
        sizes_len =
            length-map (map (λ (z : _). z.grammar) (pieces_of (all_in lent))) (added_terminals lent.grammar.now) ∙
            (length-map (pieces_of (all_in lent)) (λ z. z.grammar) ∙ (length-map (all_in lent) (λ z. z.piece) ∙
            length-map lent.extensions.now (written_beside lent)))

    -- an own terminal
    pub own_terminal : (k n before : ℕ) (x : Addition) → slice_get lent.extensions.now k ≡ Some x → lent.grammar.now.terminals ≤ n →
        n < x.grammar.now.terminals → before ≡ count_before (sizes_in lent) k →
        IsOwnTerminal lent (record { extension = k; number = n; before = before })
    own_terminal k n before x at own within before_is =
        let le = (all_at (HasOwnRows lent.grammar.now.terminals (hosts_in lent)) lent.extensions.now k x own_rows at).1 in
        let (row, row_at) = at_within x.terminals.now n (omega (arith, within, le)) in
        record { x = x; listed = at; own = own; within = within; before_is = before_is; row = row; at = row_at }

    -- its row, as it is read
    pub own_listed : (terminal : OwnTerminal) → IsOwnTerminal lent terminal → (d : Addition) →
        slice_get lent.extensions.now terminal.extension ≡ Some (slice_index_or lent.extensions.now terminal.extension d)
    own_listed terminal own d = at_default lent.extensions.now terminal.extension d
        (slice_get_within lent.extensions.now terminal.extension own.x own.listed)

    pub row_within : (terminal : OwnTerminal) → IsOwnTerminal lent terminal → (d : Addition) →
        terminal.number < length (slice_index_or lent.extensions.now terminal.extension d).terminals.now
    row_within terminal own d =
        let e = default_at lent.extensions.now terminal.extension d own.x own.listed in
        subst (λ (z : Addition). terminal.number < length z.terminals.now) (sym e)
        (slice_get_within own.x.terminals.now terminal.number own.row own.at)

    module _ (terminal : OwnTerminal) (own : IsOwnTerminal lent terminal) (x : Addition) (row : Terminal)
        (at : slice_get lent.extensions.now terminal.extension ≡ Some x)
        (row_at : slice_get x.terminals.now terminal.number ≡ Some row) where
      -- its number in the union
      number_is : number_in lent ok terminal.extension terminal.number ≡ terminal.number + terminal.before
      number_is =
          let e = lift_past lent.grammar.now.terminals (count_before (sizes_in lent) terminal.extension) terminal.number own.own in
          let b = own.before_is in omega (arith, e, b)

      same_extension : own.x ≡ x
      same_extension = at_once lent.extensions.now terminal.extension own.x x own.listed at

      pub within : terminal.number < x.grammar.now.terminals
      within = subst (λ (z : Addition). terminal.number < z.grammar.now.terminals) same_extension own.within

      pub same_row : own.row ≡ row
      same_row = at_once x.terminals.now terminal.number own.row row
          (subst (λ (z : Addition). slice_get z.terminals.now terminal.number ≡ Some (own.row)) same_extension own.at) row_at

      pub kind_is : own.row.kind ≡ Marking → is_marking row.kind ≡ true
      kind_is marking = ap (λ (z : Terminal). is_marking z.kind) (sym same_row) ∙ ap is_marking marking

      -- one that is no marker
      pub plain_terminal : (made new : UnitedForms) → is_marking row.kind ≡ false →
          IsBareAdded made new (terminal.number + terminal.before) row.pattern →
          AreMadeBelow lent (terminal.number + terminal.before) made → AreMadeBelow lent (terminal.number + terminal.before + 1) new
      plain_terminal made new kind added was =
          subst (λ n. AreMadeBelow lent (n + 1) new) number_is
          (plain_step lent ok terminal.extension x at terminal.number row row_at made new
          (record { own = own.own; within = within; unmarked = bare_row lent x terminal.number (ap is_marker_row row_at ∙ kind) })
          (subst (λ n. IsBareAdded made new n row.pattern) (sym number_is) added)
          (subst (λ n. AreMadeBelow lent n made) (sym number_is) was))

      -- a marker
      module _ (kind : is_marking row.kind ≡ true) where
        marker : IsMarkerRow lent.grammar.now lent.extensible.now (own_in lent) (written_beside lent x) terminal.number
        marker = marker_row lent x terminal.number (all_at (HasBridges lent) lent.extensions.now terminal.extension x ok.bridges at)
            (ap is_marker_row row_at ∙ kind)

        pub marker_terminal : (withdrawn : Bool) (made mid new : UnitedForms) (prefix : List ℕ) → IsPrefixOf x.name.now prefix →
            IsPrefixedAdded made.forms.items mid.forms.items made.expressions.items mid.expressions.items
            (terminal.number + terminal.before) prefix row.pattern → mid.withdrawn.items ≡ made.withdrawn.items →
            IsTrue withdrawn ↔ IsWithdrawnIn lent (terminal.number + terminal.before) →
            IsChosen withdrawn mid new (terminal.number + terminal.before) row.pattern →
            AreMadeBelow lent (terminal.number + terminal.before) made → AreMadeBelow lent (terminal.number + terminal.before + 1) new
        marker_terminal withdrawn made mid new prefix prefix_is added same is chosen was =
            subst (λ n. AreMadeBelow lent (n + 1) new) number_is
            (marker_step lent ok terminal.extension x at terminal.number row row_at marker withdrawn made mid new
            (subst (λ p. IsPrefixedAdded made.forms.items mid.forms.items made.expressions.items mid.expressions.items
            (number_in lent ok terminal.extension terminal.number) p row.pattern) prefix_is
            (subst (λ n. IsPrefixedAdded made.forms.items mid.forms.items made.expressions.items mid.expressions.items n prefix row.pattern)
            (sym number_is) added)) same (subst (λ n. IsTrue withdrawn ↔ IsWithdrawnIn lent n) (sym number_is) is)
            (subst (λ n. IsChosen withdrawn mid new n row.pattern) (sym number_is) chosen)
            (subst (λ n. AreMadeBelow lent n made) (sym number_is) was))

        pub withdrawn_terminal : SharesWithOther lent.grammar.now.terminals (hosts_in lent) lent.extensions.now terminal.extension row.pattern ↔
            IsWithdrawnIn lent (terminal.number + terminal.before)
        withdrawn_terminal =
            subst (λ n. SharesWithOther lent.grammar.now.terminals (hosts_in lent) lent.extensions.now terminal.extension row.pattern ↔
            IsWithdrawnIn lent n) number_is (shares_is_withdrawn lent ok terminal.extension x at terminal.number row marker row_at
            (λ l y there. (all_at (HasOwnRows lent.grammar.now.terminals (hosts_in lent)) lent.extensions.now l y own_rows there).1))
