-- A union's terminals and layouts have an expression each, so that the host's first layout's is there where there is one.
use Rattle.std.proofs.Common.{◌≡◌, ◌<◌, ◌≤◌, ◌+◌, ◌-◌, ◌++◌, ◌∷◌, ◌∙◌, [], ℕ, suc, List, Some, None, All, length, map, refl, ap, arith}
use Rattle.std.proofs.Common.{drop, subst, take}
use Rattle.std.specs.Prelude.{IfSome, Option}
use Rattle.std.specs.List.{AllZip}
use Rattle.std.proofs.lemmas.List.{length-drop, length-map, length-take-le}
use Rattle.std.proofs.lemmas.List.Elements.{All-head, All-tail}
use Rattle.std.proofs.lemmas.Option.{slice_get_within}
use Rattle.wb_base.specs.Grammar.{GrammarView}
use Rattle.wb_compose.specs.Kept.{AreCertifiedBoth, ExtensionView}
use Rattle.wb_compose.specs.Hosts.{CertifiedView}
use Rattle.wb_compose.specs.Composed.{IsComposed}
use Rattle.wb_compose.specs.Joined.{AreCertifiedApart, Extended}
use Rattle.wb_compose.specs.Written.{written_in}
use Rattle.wb_scan_theory.specs.Languages.{LanguageView}
use Rattle.wb_operations.specs.Operations.{OperationSignature}
use Rattle.wb_regex.specs.Tree.{Tree}
use Rattle.wb_syntax_resolved.specs.declared.resolved.ResolvedParts.{ResolvedParts}
use Rattle.wb_syntax_resolved.specs.declared.terminal.Terminal.{Terminal}
use Rattle.wb_reading.specs.OrderedNames.{all_of}
use Rattle.wb_certify_shown.specs.Names.{terminals_in}
use Rattle.wb_certify_shown.proofs.HoleLemmas.{few_terminals}
use Rattle.wb_compose_theory_grammar.specs.Places.{total_of}
use Rattle.wb_compose_theory_grammar.specs.UnitedWorlds.{terminal_sizes}
use Rattle.wb_compose_texts.specs.Expressions.{AreUnitedExpressions, IsExpressionOf, Row, added_layouts, added_rows, name_of, rows_of}
use Rattle.wb_compose_texts.specs.Expressions.{united_rows}
use Rattle.wb_compose.specs.WrittenLanguages.{pieces_of}
use Rattle.wb_compose_texts.specs.Unions.{Union, all_resolved, united_of}
use Rattle.wb_compose_texts.specs.Generated.{first_layout, place_behind}
use Rattle.wb_compose_texts.proofs.ComposedLemmas.{union_is}
use Rattle.wb_compose_texts.proofs.NameLemmas.{resolved_in}

length_append : {X : Type 0} (xs ys : List X) → length (xs ++ ys) ≡ length xs + length ys
length_append [] ys = omega arith
length_append (x ∷ xs) ys = let e : length (xs ++ ys) ≡ length xs + length ys = length_append xs ys in omega (arith, e)

rows_len : (name : Option (List ℕ)) (from to : ℕ) (rows : List Terminal) → to ≤ length rows → length (rows_of name from to rows) ≡ to - from
rows_len name from to rows within =
    let row_of : Terminal → Row = λ row. (name, row) in
    let e = length-map (drop from (take to rows)) row_of in
    let f = length-drop from (take to rows) in
    let h = length-take-le to rows within in
    omega (arith, e, f, h)

module _ (host : ResolvedParts) (h : GrammarView) (operations : List OperationSignature) where
  abbrev Both : Extended → Type 0
  Both e = AreCertifiedBoth host e.resolved h e.grammar operations

  -- each extension has as many rows as it adds terminals
  added_len : (start : host.grammar ≡ Some h) (xs : List Extended) → All Both xs →
      length (all_of (map (added_rows host) (resolved_in xs))) ≡ total_of (terminal_sizes h host.extensible (pieces_of (written_in h xs)))
  added_len start [] each = refl
  added_len start (e ∷ xs) each =
      let both = All-head Both e xs each in
      let rest : length (all_of (map (added_rows host) (resolved_in xs))) ≡ total_of (terminal_sizes h host.extensible (pieces_of
      (written_in h xs))) = added_len start xs (All-tail Both e xs each) in
      let one : length (added_rows host e.resolved) ≡ terminals_in e.resolved.grammar - terminals_in host.grammar =
      rows_len (Some (name_of e.resolved)) (terminals_in host.grammar) (terminals_in e.resolved.grammar) e.resolved.terminals
      (few_terminals e.resolved both.resolved) in
      let both_len : length (added_rows host e.resolved) ≡ e.grammar.terminals - h.terminals =
      one ∙ (λ j. terminals_in (both.start j) - terminals_in (start j)) in
      length_append (added_rows host e.resolved) (all_of (map (added_rows host) (resolved_in xs))) ∙ (λ j. both_len j + rest j)

  module _ (xs : List Extended) (apart : AreCertifiedApart host h operations xs) where
    rows_in_all : h.terminals + total_of (terminal_sizes h host.extensible (pieces_of (written_in h xs))) + (length host.terminals - h.terminals)
        ≤ length (united_rows host (resolved_in xs))
    rows_in_all =
        let own : List Row = rows_of None 0 (terminals_in host.grammar) host.terminals in
        let added : List Row = all_of (map (added_rows host) (resolved_in xs)) in
        let layouts : List Row = rows_of None (terminals_in host.grammar) (length host.terminals) host.terminals in
        let last : List Row = all_of (map (added_layouts host) (resolved_in xs)) in
        let size : terminals_in host.grammar ≡ h.terminals = ap terminals_in apart.host_start in
        let one : length own ≡ terminals_in host.grammar - 0 =
        rows_len None 0 (terminals_in host.grammar) host.terminals (few_terminals host apart.host_resolved) in
        let two : length added ≡ total_of (terminal_sizes h host.extensible (pieces_of (written_in h xs))) =
        added_len apart.host_start xs apart.each in
        let three : length layouts ≡ length host.terminals - terminals_in host.grammar =
        rows_len None (terminals_in host.grammar) (length host.terminals) host.terminals (omega arith) in
        let d = length_append (own ++ added ++ layouts) last in
        let e = length_append (own ++ added) layouts in
        let f = length_append own added in
        omega (arith, size, one, two, three, d, e, f)

module _ (host : ResolvedParts) (operations : List OperationSignature) (extensions : List ResolvedParts)
    (u : Union host operations extensions) (made : List Tree) (written : AreUnitedExpressions host extensions made) where
  expressions_len : (united_of host operations extensions u).terminals + (length host.terminals - u.grammar.terminals) ≤ length made
  expressions_len =
      subst (λ n. (united_of host operations extensions u).terminals + (length host.terminals - u.grammar.terminals) ≤ n)
      (ap (λ z. length (united_rows host z)) u.extensions_are ∙ length_all_zip_both (united_rows host extensions) made written)
      (rows_in_all host u.grammar operations u.extended u.certified)
    where
      length_all_zip_both : (rows : List Row) (ys : List Tree) → AllZip IsExpressionOf rows ys → length rows ≡ length ys
      length_all_zip_both [] [] all = refl
      length_all_zip_both [] (y ∷ ys) all = absurd all
      length_all_zip_both (x ∷ rows) [] all = absurd all
      length_all_zip_both (x ∷ rows) (y ∷ ys) all = ap suc (length_all_zip_both rows ys all.1)

  -- each terminal has one
  pub enough_expressions : (united_of host operations extensions u).terminals ≤ length made
  enough_expressions = let e = expressions_len in omega (arith, e)

  -- and so has the first layout
  pub layout_there : IfSome (place_behind (united_of host operations extensions u).terminals (first_layout host)) (λ place. place < length made)
  layout_there = by_layout (first_layout host) refl
    where
      by_layout : (o : Option Terminal) → first_layout host ≡ o →
          IfSome (place_behind (united_of host operations extensions u).terminals o) (λ place. place < length made)
      by_layout None is = tt
      by_layout (Some row) is =
          let within = slice_get_within host.terminals (terminals_in host.grammar) row is in
          let size : terminals_in host.grammar ≡ u.grammar.terminals = ap terminals_in u.certified.host_start in
          let e = expressions_len in
          omega (arith, within, size, e)

-- the union of what was composed
module _ (host : CertifiedView) (es : List ExtensionView) (l : LanguageView) (withdrawn : List ℕ)
    (composed : IsComposed host es l withdrawn) where
  -- its grammar is that of the language
  pub union_grammar : l.grammar ≡ united_of host.resolved host.operations (all_resolved es) (union_is host es l withdrawn composed)
  union_grammar = composed.language.grammar
