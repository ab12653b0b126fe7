-- The union of what is lent: its grammar is deterministic, and its forms are of its terminals.
use Rattle.std.proofs.Common.{◌≡◌, ◌∙◌, ◌<◌, ◌≤◌, ◌+◌, ◌-◌, [], ◌∷◌, ℕ, List, Option, Some, All, length, map, slice_get, refl, sym, ap, subst, arith}
use Rattle.std.proofs.lemmas.List.{length-map}
use Rattle.std.proofs.lemmas.List.FromFn.{length-range_with_len}
use Rattle.wb_base.specs.Grammar.{GrammarView}
use Rattle.wb_scan_theory.specs.declared.form.Form.{Form}
use Rattle.wb_scan_theory.specs.Facts.{IsDeterministic}
use Rattle.wb_scan_theory.specs.Parts.{AreTablesOf}
use Rattle.wb_lemmas.proofs.Elements.{all_from_places}
use Rattle.wb_lookahead.specs.Contents.{TablesView, valid_of}
use Rattle.wb_regex.specs.Tree.{Tree}
use Rattle.wb_syntax_resolved.specs.declared.terminal.Terminal.{Terminal}
use Rattle.wb_compose_theory_grammar.proofs.ApartLemmas.{into_is}
use Rattle.wb_compose_theory_grammar.proofs.BridgeLemmas.{piece_ok}
use Rattle.wb_compose_theory_grammar.proofs.FactLemmas.{at_map}
use Rattle.wb_compose_theory_grammar.proofs.UnionGrammarLemmas.{terminal_below}
use Rattle.wb_compose_theory_grammar.proofs.UnitedLemmas.{is_united}
use Rattle.wb_compose_theory_grammar.specs.Laws.{in_union}
use Rattle.wb_compose_theory_grammar.specs.Pieces.{Extends, Piece}
use Rattle.wb_compose_theory_grammar.specs.Unions.{union_of}
use Rattle.wb_compose_theory_language.proofs.BareLemmas.{marker_own}
use Rattle.wb_compose_theory_language.proofs.RowLemmas.{piece_there}
use Rattle.wb_compose_theory_language.specs.Forms.{IsForm, IsMarkerOf, kept, of_extension, of_host, prefixed}
use Rattle.wb_compose_theory_language.specs.Written.{WrittenPiece, pieces_of}
use Rattle.wb_compose_language.specs.Additions.{grammar_in}
use Rattle.wb_compose_language.specs.declared.addition.Addition.{Addition}
use Rattle.wb_compose_language.specs.declared.addition.Lent.{Lent}
use Rattle.wb_compose_language.specs.Lents.{IsUnitable, all_in, own_in, written_beside}
use Rattle.wb_compose_language.specs.Expressions.{AreExpressions}
use Rattle.wb_compose_language.specs.Inner.Layouts.{AreSpansBelow, layouts_in}
use Rattle.wb_compose_language.specs.Inner.Rows.{grammar_of, total}
use Rattle.wb_compose_language.specs.Inner.Sets.{HaveRoom}

module _ (lent : Lent) where
  -- its grammar, by the grammars that are lent
  pub grammar_is : union_of lent.grammar.now (map grammar_in lent.extensions.now) ≡ grammar_of lent
  grammar_is = ap (union_of lent.grammar.now) (grammars lent.extensions.now)
    where
      grammars : (xs : List Addition) →
          map grammar_in xs ≡ map (λ (x : Piece). x.grammar) (map (λ (x : WrittenPiece). x.piece) (map (written_beside lent) xs))
      grammars [] = refl
      grammars (x ∷ xs) = ap (λ z. x.grammar.now ∷ z) (grammars xs)

  -- there is an expression for each form and each layout
  pub forms_count : (forms : List Form) (expressions : List Tree) (spans : List (Option (ℕ × ℕ))) → AreExpressions lent forms expressions →
      AreSpansBelow lent (layouts_in lent) spans → length expressions ≡ length forms + length spans
  forms_count forms expressions spans are spans_are =
      let a = are.len in
      let b = spans_are.len in
      let c = length-range_with_len (grammar_of lent).terminals (layouts_in lent) in omega (arith, a, b, c)

  -- the terminals that it has beyond the host's
  pub total_is : (terminals own : ℕ) → terminals ≡ (grammar_of lent).terminals → own ≡ lent.grammar.now.terminals →
      terminals - own ≡ total lent
  total_is terminals own is own_is = omega (arith, is, own_is)

  module _ (ok : IsUnitable lent) where
    -- each extension has the host's grammar with more
    pub extends_all : All (λ (x : Addition). Extends lent.grammar.now (grammar_in x)) lent.extensions.now
    extends_all = all_from_places (λ (x : Addition). Extends lent.grammar.now (grammar_in x)) lent.extensions.now (λ k x at.
        (piece_ok lent.grammar.now lent.extensible.now (pieces_of (all_in lent)) ok.certified.are_pieces k ((written_beside lent x).piece)
        (piece_there lent.grammar.now lent.extensible.now (own_in lent) (all_in lent) ok.certified.are_pieces k (written_beside lent x)
        (at_map (written_beside lent) lent.extensions.now k x at))).extends)

    -- the union is deterministic
    pub deterministic : IsDeterministic (grammar_of lent)
    deterministic =
        let is = is_united lent.grammar.now lent.extensible.now (pieces_of (all_in lent)) ok.certified in record {
          in_range = is.is_grammar;
          reduced = is.fit.reduced;
          no_unit_cycle = is.fit.no_unit_cycle;
          no_hidden_left_recursion = is.fit.no_hidden_left_recursion;
          no_conflict = is.no_conflict;
        }

    -- the host has no fewer rows than terminals
    pub few_terminals : lent.grammar.now.terminals ≤ length lent.terminals.now
    few_terminals =
        let e = length-map lent.terminals.now (λ (t : Terminal). t.pattern) in
        let f = ok.apart.of_host.clear.rows.no_fewer in omega (arith, e, f)

    -- a number of an extension is one of the union's terminals
    number_below : (k : ℕ) (x : WrittenPiece) (t n : ℕ) → slice_get (all_in lent) k ≡ Some x → t < x.piece.grammar.terminals →
        n ≡ in_union lent.grammar.now lent.extensible.now (pieces_of (all_in lent)) k t → n < (grammar_of lent).terminals
    number_below k x t n at less is =
        let there = piece_there lent.grammar.now lent.extensible.now (own_in lent) (all_in lent) ok.certified.are_pieces k x at in
        let below = terminal_below lent.grammar.now lent.extensible.now (pieces_of (all_in lent)) ok.certified.are_pieces k x.piece t there
        less in
        subst (λ z. z < (grammar_of lent).terminals)
        (sym (is ∙ into_is lent.grammar.now lent.extensible.now (pieces_of (all_in lent)) ok.certified k t)) below

    marker_below : (k : ℕ) (x : WrittenPiece) (n : ℕ) →
        IsMarkerOf lent.grammar.now lent.extensible.now (own_in lent) (all_in lent) k x n → n < (grammar_of lent).terminals
    marker_below k x n marker = number_below k x marker.terminal n marker.listed
        (marker_own lent.grammar.now lent.extensible.now (own_in lent) (all_in lent) ok.certified ok.apart [] k x marker.listed
        marker.terminal marker.marker).1 marker.is

    -- forms are of the union's terminals
    form_below : (form : Form) → IsForm lent.grammar.now lent.extensible.now (own_in lent) (all_in lent) form →
        form.terminal < (grammar_of lent).terminals
    form_below form (of_host less bare_is) = omega (arith, less)
    form_below form (of_extension k x t at mine t_is bare_is) = number_below k x t form.terminal at mine.within t_is
    form_below form (prefixed k x marker e) = marker_below k x form.terminal marker
    form_below form (kept k x marker out e) = marker_below k x form.terminal marker

    -- so there is room for them at each state
    pub room : (tables : TablesView) (forms : List Form) → AreTablesOf (grammar_of lent) tables →
        ((place : ℕ) (form : Form) → slice_get forms place ≡ Some form →
        IsForm lent.grammar.now lent.extensible.now (own_in lent) (all_in lent) form) → HaveRoom forms tables
    room tables forms are each s below = all_from_places (λ (f : Form). f.terminal < length (valid_of tables s)) forms (λ place form at.
        (let less = form_below form (each place form at) in
        let len = (are.are_tables.valid s (let count = are.are_tables.count in omega (arith, below, count))).len in
        let same = ap (λ (g : GrammarView). g.terminals) are.same in omega (arith, less, len, same)))
