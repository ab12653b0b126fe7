-- Two languages of one union have the same trees and the same stops.
use Rattle.std.proofs.Common.{◌≡◌, ◌∙◌, ℕ, List, refl, sym, ap, subst}
use Rattle.wb_base.specs.Grammar.{GrammarView}
use Rattle.wb_compose.specs.Considered.{LexiconView}
use Rattle.wb_grammar_theory.specs.Trees.{Forest, nothing, leaf, node}
use Rattle.wb_scan_theory.specs.Languages.{LanguageView}
use Rattle.wb_scan_theory.specs.Texts.{ParsesTo, StopsAt}
use Rattle.wb_scan_theory.specs.declared.stop_kind.StopKind.{StopKind}
use Rattle.wb_scan_theory.specs.declared.stop_kind.StopKind.TheVariants as kind
use Rattle.wb_reading.specs.OrderedAnswers.{renamed_forest, renamed_kind}
use Rattle.wb_reading.specs.OrderLaws.{HasSameAnswers}
use Rattle.wb_reading.specs.Orders.{IsReordering, number_to}
use Rattle.wb_reading.specs.OrderedUnions.{names_to}
use Rattle.wb_reading.proofs.OrderedLanguageLemmas.{same_union_answers}
use Rattle.wb_reading.proofs.OrderedNumberLemmas.{to_extension, to_host, to_past}
use Rattle.wb_compose_theory_grammar.specs.Pieces.{ArePieces}
use Rattle.wb_compose_theory_grammar.proofs.PlaceLemmas.{Located, in_host, in_extension, after_all, located}
use Rattle.wb_compose.specs.Languages.{IsUnitedLanguage}
use Rattle.wb_compose.specs.WrittenLanguages.{WrittenPiece, pieces_of}
use Rattle.wb_compose_theory.specs.Renamings.{Renaming}

-- a list in its own order
pub still : {X : Type 0} (xs : List X) → IsReordering (λ k. k) (λ k. k) xs xs
still xs = record { there = λ k x at. at; back = λ k x at. at; undone = λ k. refl; redone = λ k. refl }

-- numbers stay
pub same_number : (own : ℕ) (sizes : List ℕ) (x : ℕ) → number_to own sizes sizes (λ k. k) x ≡ x
same_number own sizes x = go (located own sizes x)
  where
    go : Located own sizes x → number_to own sizes sizes (λ k. k) x ≡ x
    go (in_host below) = to_host own (still sizes) x below
    go (in_extension k size i at within is) = to_extension own (still sizes) k size i x at within is ∙ sym is
    go (after_all j is) = to_past own (still sizes) j x is ∙ sym is

module _ (r : Renaming) (terminal : (t : ℕ) → r.terminal t ≡ t) (nonterminal : (a : ℕ) → r.nonterminal a ≡ a)
    (production : (p : ℕ) → r.production p ≡ p) where
  pub same_forest : (f : Forest) → renamed_forest r f ≡ f
  same_forest nothing = refl
  same_forest (leaf t text rest) = λ j. leaf (terminal t j) text (same_forest rest j)
  same_forest (node p a children rest) = λ j. node (production p j) (nonterminal a j) (same_forest children j) (same_forest rest j)

  same_kind : (k : StopKind) → renamed_kind r k ≡ k
  same_kind kind.NoToken = refl
  same_kind (kind.Unexpected t) = ap kind.Unexpected (terminal t)

module _ (host : GrammarView) (extensible : List ℕ) (own : LexiconView) (written : List WrittenPiece)
    (ok : ArePieces host extensible (pieces_of written)) (l m : LanguageView) (is : IsUnitedLanguage host extensible own written l)
    (also : IsUnitedLanguage host extensible own written m) where
  abbrev names : Renaming
  names = names_to host extensible written written (λ k. k)

  same : HasSameAnswers names l m
  same = same_union_answers host extensible own written written (λ k. k) (λ k. k) ok (still written) l m is also

  pub trees_there : (text : List ℕ) (tree : Forest) → ParsesTo l text tree → ParsesTo m text tree
  trees_there text tree parses =
      subst (ParsesTo m text) (same_forest names (same_number _ _) (same_number _ _) (same_number _ _) tree)
      ((same.trees text tree).0 parses)

  pub stops_there : (text : List ℕ) (place : ℕ) (k : StopKind) → StopsAt l text place k → StopsAt m text place k
  stops_there text place k stops =
      subst (StopsAt m text place) (same_kind names (same_number _ _) (same_number _ _) (same_number _ _) k)
      ((same.stops text place k).0 stops)
