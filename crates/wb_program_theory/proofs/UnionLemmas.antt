-- A host's union with extensions in another order, and a language of it.
use Rattle.std.proofs.Common.{◌≡◌, ◌∙◌, ◌∷◌, [], ℕ, List, Option, Some, None, All, map, refl, sym, ap, subst}
use Rattle.std.proofs.lemmas.List.Elements.{All-head, All-tail}
use Rattle.wb_base.specs.Grammar.{GrammarView}
use Rattle.wb_determinism_host.specs.Lexicons.{lexicon_of}
use Rattle.wb_certify_files.specs.Kept.{AreCertifiedBoth}
use Rattle.wb_compose_texts.specs.Joined.{Extended}
use Rattle.wb_compose_texts.specs.Written.{written_in, written_with}
use Rattle.wb_compose_texts.proofs.WrittenApart.{all_certified}
use Rattle.wb_scan_theory.specs.Languages.{LanguageView}
use Rattle.wb_lemmas.proofs.Elements.{all_at, all_from_places}
use Rattle.wb_operations.specs.Operations.{OperationSignature}
use Rattle.wb_compose_theory_order.specs.Laws.{HasSameAnswers}
use Rattle.wb_compose_theory_order.specs.Orders.{IsReordering}
use Rattle.wb_compose_theory_order.specs.Unions.{names_to}
use Rattle.wb_compose_theory_order.proofs.LanguageLemmas.{same_language, same_union_answers}
use Rattle.wb_compose_theory_order.proofs.NumberLemmas.{reordering_map}
use Rattle.wb_syntax_resolved.specs.declared.resolved.ResolvedParts.{ResolvedParts}
use Rattle.wb_compose_theory.specs.Renamings.{Renaming}
use Rattle.wb_compose_theory_grammar.specs.Pieces.{ArePieces}
use Rattle.wb_compose_theory_language.specs.Languages.{IsUnitedLanguage}
use Rattle.wb_compose_theory_language.specs.Written.{WrittenPiece, pieces_of}
use Rattle.wb_compose_texts.specs.Unions.{IsLanguageOf, Union}
use Rattle.wb_program_theory.proofs.LanguageLemmas.{in_other_order, is_in_other_order}

abbrev pub resolved_in : List Extended → List ResolvedParts
resolved_in xs = map (λ (e : Extended). e.resolved) xs

module _ (host : ResolvedParts) (operations : List OperationSignature) (extensions others : List ResolvedParts) (to from : ℕ → ℕ)
    (re : IsReordering to from extensions others) (u : Union host operations extensions) where
  abbrev pub Both : Extended → Type 0
  Both e = AreCertifiedBoth host e.resolved u.grammar e.grammar operations

  abbrev grammar_or : Option GrammarView → GrammarView
  grammar_or None = u.grammar
  grammar_or (Some g) = g

  -- an extension with its grammar
  abbrev with_grammar : ResolvedParts → Extended
  with_grammar r = record { resolved = r; grammar = grammar_or r.grammar }

  own_is : (xs : List Extended) → All Both xs → xs ≡ map with_grammar (resolved_in xs)
  own_is [] all = refl
  own_is (x ∷ xs) all =
      let grammar : x.grammar ≡ grammar_or x.resolved.grammar = sym (ap grammar_or (All-head Both x xs all).start) in
      let rest : xs ≡ map with_grammar (resolved_in xs) = own_is xs (All-tail Both x xs all) in
      λ z. record { resolved = x.resolved; grammar = grammar z } ∷ rest z

  pub resolved_back : (rs : List ResolvedParts) → resolved_in (map with_grammar rs) ≡ rs
  resolved_back [] = refl
  resolved_back (r ∷ rs) = ap (λ z. r ∷ z) (resolved_back rs)

  abbrev pub extended_there : List Extended
  extended_there = map with_grammar others

  pub extended_re : IsReordering to from u.extended extended_there
  extended_re = subst (λ z. IsReordering to from z extended_there)
      (sym (own_is u.extended u.certified.each ∙ ap (map with_grammar) u.extensions_are)) (reordering_map with_grammar re)

  -- the union in the other order
  abbrev pub union_there : Union host operations others
  union_there = record {
    grammar = u.grammar;
    extended = extended_there;
    extensions_are = resolved_back others;
    certified = record {
      host_resolved = u.certified.host_resolved;
      host_start = u.certified.host_start;
      host_certified = u.certified.host_certified;
      each = all_from_places Both extended_there
          (λ k e at. all_at Both u.extended (from k) e u.certified.each (extended_re.back k e at));
    };
  }

  abbrev old : List WrittenPiece
  old = written_in u.grammar u.extended

  abbrev new : List WrittenPiece
  new = written_in u.grammar extended_there

  -- where numbers of the grammar go
  abbrev pub names : Renaming
  names = names_to u.grammar host.extensible old new to

  pub written_re : IsReordering to from old new
  written_re = reordering_map (λ (e : Extended). written_with u.grammar e.resolved e.grammar) extended_re

  pub pieces : ArePieces u.grammar host.extensible (pieces_of old)
  pieces = (all_certified host u.grammar operations u.extended u.certified).are_pieces

  module _ (l : LanguageView) (is : IsLanguageOf host operations extensions u l) where
    -- a language of it, in which texts have the same answers
    abbrev pub language_there : LanguageView
    language_there = in_other_order u.grammar host.extensible (lexicon_of host u.grammar) old new to from pieces written_re l is.of_union

    united_there : IsUnitedLanguage u.grammar host.extensible (lexicon_of host u.grammar) new language_there
    united_there = is_in_other_order u.grammar host.extensible (lexicon_of host u.grammar) old new to from pieces written_re l is.of_union

    pub is_language_there : IsLanguageOf host operations others union_there language_there
    is_language_there = record {
      of_union = united_there;
      language = (same_language u.grammar host.extensible (lexicon_of host u.grammar) old new to from pieces written_re l language_there
          is.of_union united_there).0 is.language;
    }

    pub same_texts : HasSameAnswers names l language_there
    same_texts = same_union_answers u.grammar host.extensible (lexicon_of host u.grammar) old new to from pieces written_re l language_there
        is.of_union united_there
