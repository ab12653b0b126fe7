-- The places of the leaves of a stack, and those of all leaves of a text.
use Rattle.std.proofs.Common.{◌≡◌, ◌<◌, ◌≤◌, ◌+◌, ◌-◌, ℕ, List, [], ◌∷◌, ◌++◌, length, take, drop, refl, sym, ◌∙◌, ap, subst, arith}
use Rattle.std.proofs.Common.{append_assoc, length-append}
use Rattle.std.specs.Prelude.{Some, slice_get, slice_range}
use Rattle.std.proofs.lemmas.List.{drop-drop}
use Rattle.wb_lemmas.proofs.Parts.{take_append, drop_append}
use Rattle.wb_base.specs.declared.symbol.Symbol.{Symbol}
use Rattle.wb_base.specs.declared.symbol.Symbol.TheVariants.{Terminal}
use Rattle.wb_base.specs.Grammar.{GrammarView}
use Rattle.wb_grammar_theory.specs.Trees.{Forest, nothing, leaf, node, symbols, Leaf, leaves}
use Rattle.wb_scan_theory.specs.declared.form.Form.{Form}
use Rattle.wb_scan_theory.specs.declared.stop_kind.StopKind.{StopKind}
use Rattle.wb_scan_theory.specs.Languages.{LanguageView}
use Rattle.wb_scan_theory.specs.Facts.{IsLanguage, IsWritten}
use Rattle.wb_scan_theory.specs.Machine.{joined}
use Rattle.wb_scan_theory.specs.Tokens.{Next, NextToken, skipped, wins, ends, fails, token, over, missing}
use Rattle.wb_scan_theory.specs.Examined.{Scans}
use Rattle.wb_scan_theory.specs.Texts.{ParsesTo, StopsAt}
use Rattle.wb_scan_theory.proofs.SeenLemmas.{scan_next}
use Rattle.wb_scan_theory.proofs.StepLemmas.{leaves_reduced}
use Rattle.wb_scan_theory.proofs.TextLemmas.{one_tree, one_stop, not_both}
use Rattle.wb_scan_theory.proofs.TokenLemmas.{piece_some}
use Rattle.wb_scan_theory.proofs.UniqueLemmas.{same_token}
use Rattle.wb_session_theory.specs.Inner.Agreeing.{AgreeUpTo}
use Rattle.wb_session_theory.specs.Runs.{Reduces, rests, reduces}
use Rattle.wb_session_theory.proofs.ScanLemmas.{scan_kept, scan_more}
use Rattle.wb_session.specs.declared.place.LeafPlace.{LeafPlace}
use Rattle.wb_session.specs.Places.{Stands, AreLaid, IsStop, HasPlaces}
use Rattle.wb_session.specs.Kept.{AreScanned}

-- the leaves of a stack stay the same under reductions
pub leaves_after : {g : GrammarView} {t : ℕ} {stack stack' : Forest} → Reduces g [] t stack stack' → leaves [] stack' ≡ leaves [] stack
leaves_after (rests e) = ap (leaves []) (sym e)
leaves_after (reduces p a below children e rule can more) =
    leaves_after more ∙ (leaves_reduced [] below children p a ∙ ap (leaves []) (sym e))

-- looking further does no harm
pub scanned_more : (l : LanguageView) (text : List ℕ) (e d : ℕ) (xs : List Leaf) (ps : List LeafPlace) (h a : List Symbol) (at i : ℕ) →
    e ≤ d → AreScanned l text e h at xs ps a i → AreScanned l text d h at xs ps a i
scanned_more l text e d [] [] h a at i less is = is
scanned_more l text e d [] (p ∷ ps) h a at i less is = absurd is
scanned_more l text e d (x ∷ xs) [] h a at i less is = absurd is
scanned_more l text e d (x ∷ xs) (p ∷ ps) h a at i less (scan, of, size, rest) =
    (scan_more less scan, of, size, scanned_more l text e d xs ps (x.context ++ Terminal x.terminal ∷ []) a p.end i less rest)

-- the places are the same on each text that agrees with what was looked at
pub scanned_kept : (l : LanguageView) (text other : List ℕ) (e : ℕ) (xs : List Leaf) (ps : List LeafPlace) (h a : List Symbol)
    (at i : ℕ) → AgreeUpTo e text other → AreScanned l text e h at xs ps a i → AreScanned l other e h at xs ps a i
scanned_kept l text other e [] [] h a at i agree is = is
scanned_kept l text other e [] (p ∷ ps) h a at i agree is = absurd is
scanned_kept l text other e (x ∷ xs) [] h a at i agree is = absurd is
scanned_kept l text other e (x ∷ xs) (p ∷ ps) h a at i agree (scan, of, size, rest) =
    (scan_kept scan agree, of, size, scanned_kept l text other e xs ps (x.context ++ Terminal x.terminal ∷ []) a p.end i agree rest)

-- one more leaf
pub scanned_push : (l : LanguageView) (text : List ℕ) (e : ℕ) (xs : List Leaf) (ps : List LeafPlace) (x : Leaf) (p : LeafPlace)
    (h a : List Symbol) (at i : ℕ) → AreScanned l text e h at xs ps a i →
    Scans l text a e i (token p.begin x.terminal x.text p.end) → p.terminal ≡ x.terminal → p.lexeme + length x.text ≡ p.end →
    AreScanned l text e h at (xs ++ x ∷ []) (ps ++ p ∷ []) (x.context ++ Terminal x.terminal ∷ []) p.end
scanned_push l text e [] [] x p h a at i (same, same_at) scan of size = (
  subst (λ z. Scans l text z e at (token p.begin x.terminal x.text p.end)) (sym same)
      (subst (λ n. Scans l text a e n (token p.begin x.terminal x.text p.end)) (sym same_at) scan),
  of,
  size,
  (refl, refl),
)
scanned_push l text e [] (q ∷ qs) x p h a at i is scan of size = absurd is
scanned_push l text e (y ∷ ys) [] x p h a at i is scan of size = absurd is
scanned_push l text e (y ∷ ys) (q ∷ qs) x p h a at i (first, named, there, rest) scan of size =
    (first, named, there, scanned_push l text e ys qs x p (y.context ++ Terminal y.terminal ∷ []) a q.end i rest scan of size)

begin_same : (b c t u : ℕ) (v w : List ℕ) (i j : ℕ) → token b t v i ≡ token c u w j → b ≡ c
begin_same b c t u v w i j h = cc

module _ {l : LanguageView} where
  -- the text of a token that is next
  pub stands_of : IsWritten l → {text : List ℕ} {prefix : List Symbol} {at : ℕ} {s : Next} → NextToken l text prefix at s → (x : Leaf)
      (p : LeafPlace) → s ≡ token p.begin x.terminal x.text p.end → p.terminal ≡ x.terminal → p.lexeme + length x.text ≡ p.end →
      Stands l text x p
  stands_of written (skipped number piece layout w more) x p is of size = stands_of written more x p is of size
  stands_of written {text} {at = at} (wins number form piece lexeme at_form w piece_is found) x p is of size =
      let same : token at form.terminal lexeme (at + length piece) ≡ token p.begin x.terminal x.text p.end = sym found ∙ is in
      let k = same_token at p.begin form.terminal x.terminal lexeme x.text (at + length piece) p.end same in
      let first : at ≡ p.begin = begin_same at p.begin form.terminal x.terminal lexeme x.text (at + length piece) p.end same in
      let after : at + length piece ≡ p.end = k.ends in
      let text_size : length lexeme ≡ length x.text = ap length k.lexemes in
      let piece_size : length piece ≡ length form.prefix + length lexeme = ap length piece_is ∙ length-append form.prefix lexeme in
      let from_is : p.lexeme ≡ at + length form.prefix = omega (arith, after, text_size, piece_size, size) in
      let rest = w.matches.rest in
      let here : drop at text ≡ form.prefix ++ (lexeme ++ rest) =
      w.matches.here ∙ ap (λ z. z ++ rest) piece_is ∙ append_assoc form.prefix lexeme rest in
      let tail : drop p.lexeme text ≡ lexeme ++ rest =
      ap (λ n. drop n text) from_is ∙ sym (drop-drop (length form.prefix) at text) ∙ ap (drop (length form.prefix)) here
      ∙ drop_append (length form.prefix) form.prefix (lexeme ++ rest) refl in
      let within : at + length piece ≤ length text = (piece_some written w.matches).1 in
      record {
        of = of;
        form = form;
        written = (number, at_form);
        terminal = k.terminals;
        before = ap (λ n. take (p.lexeme - n) (drop n text)) (sym first) ∙ ap (take (p.lexeme - at)) here
            ∙ take_append (p.lexeme - at) form.prefix (lexeme ++ rest) (omega (arith, from_is));
        lexeme = ap (take (p.end - p.lexeme)) tail ∙ take_append (p.end - p.lexeme) lexeme rest (omega (arith, size, text_size))
            ∙ k.lexemes;
        begins = omega (arith, first, from_is);
        ends = omega (arith, size);
        within = omega (arith, after, within);
      }
  stands_of written {at = at} (ends e found) x p is of size = let h : over at ≡ token p.begin x.terminal x.text p.end = sym found ∙ is in cc
  stands_of written {at = at} (fails lt out found) x p is of size =
      let h : missing at ≡ token p.begin x.terminal x.text p.end = sym found ∙ is in cc

-- places that were scanned are those of the leaves
pub laid_of : (l : LanguageView) → IsWritten l → (text : List ℕ) (e : ℕ) (xs : List Leaf) (ps : List LeafPlace) (h a : List Symbol)
    (at i : ℕ) → AreScanned l text e h at xs ps a i → AreLaid l text h at xs ps a i
laid_of l written text e [] [] h a at i is = is
laid_of l written text e [] (p ∷ ps) h a at i is = absurd is
laid_of l written text e (x ∷ xs) [] h a at i is = absurd is
laid_of l written text e (x ∷ xs) (p ∷ ps) h a at i (scan, of, size, rest) =
    let n = scan_next scan in (
      n,
      stands_of written n x p refl of size,
      laid_of l written text e xs ps (x.context ++ Terminal x.terminal ∷ []) a p.end i rest,
    )

module _ (l : LanguageView) (ok : IsLanguage l) (text : List ℕ) (e d at : ℕ) (stack : Forest) (places : List LeafPlace)
    (laid : AreScanned l text e [] 0 (leaves [] stack) places (symbols stack) at) where
  -- where the text stops after the leaves of the stack, these are all
  pub places_stop : (place : ℕ) (kind : StopKind) (found : Next) → Scans l text (symbols stack) d at found → StopsAt l text place kind →
      IsStop l.grammar found place kind → HasPlaces l text places
  places_stop place kind found scan stop is = record {
    read = leaves [] stack;
    prefix = symbols stack;
    at = at;
    laid = laid_of l ok.written text e (leaves [] stack) places [] (symbols stack) 0 at laid;
    found = found;
    is_next = scan_next scan;
    whole = λ tree parses. absurd (not_both l ok text tree place kind parses stop);
    stops = λ place' kind' other.
        (let same = one_stop l ok text place place' kind kind' stop other in
        subst (λ z. IsStop l.grammar found z kind') same.0 (subst (IsStop l.grammar found place) same.1 is));
  }

  -- and where they are those of the tree of the text
  pub places_whole : (found : Next) (tree : Forest) → Scans l text (symbols stack) d at found → ParsesTo l text tree →
      leaves [] tree ≡ leaves [] stack → HasPlaces l text places
  places_whole found tree scan parses same = record {
    read = leaves [] stack;
    prefix = symbols stack;
    at = at;
    laid = laid_of l ok.written text e (leaves [] stack) places [] (symbols stack) 0 at laid;
    found = found;
    is_next = scan_next scan;
    whole = λ other parsed. ap (leaves []) (one_tree l ok text other tree parsed parses) ∙ same;
    stops = λ place kind stop. absurd (not_both l ok text tree place kind parses stop);
  }
