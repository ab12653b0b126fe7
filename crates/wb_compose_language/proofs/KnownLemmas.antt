-- What is known of own terminals, as it is listed, and what it says of two of them.
use Rattle.std.proofs.Common.{◌≡◌, ◌<◌, ◌≤◌, ◌+◌, ◌-◌, ◌++◌, ◌∷◌, ◌∙◌, [], ℕ, Bool, true, List, Option, None, Some, inl, inr, length, slice_get, take}
use Rattle.std.proofs.Common.{refl, sym, ap, subst, arith, length-append, get_or}
use Rattle.std.specs.Prelude.{◌↔◌, IfSome}
use Rattle.std.proofs.lemmas.Bool.{cases_lt}
use Rattle.std.proofs.lemmas.List.{take_more}
use Rattle.std.proofs.lemmas.Option.{get_or_from_slice_get, same_Some, slice_get_within}
use Rattle.wb_lemmas.proofs.Places.{at_once, at_push, nothing_at, push_keeps, push_last, read_at}
use Rattle.wb_automata.specs.Automata.{IsMatch}
use Rattle.wb_automata.specs.Sharing.{IsOnlyMatch, Share}
use Rattle.wb_regex.specs.Matches.{Matches, ShareText}
use Rattle.wb_regex.specs.Tree.{Tree}
use Rattle.wb_syntax_resolved.specs.declared.terminal.Terminal.{Terminal}
use Rattle.wb_compose_language.specs.declared.addition.Addition.{Addition}
use Rattle.wb_compose_language.specs.Inner.Known.{AreBases, ArePatternsAdded, AreTexts, HasOwnPlaces, HasPlaces, IsAdded, IsOneText}
use Rattle.wb_compose_language.specs.Inner.Known.{IsText, Keeps}

-- one expression more
pub patterns_none : (own : ℕ) (x : Addition) (patterns : List Tree) → ArePatternsAdded own own x patterns patterns
patterns_none own x patterns = record { keeps = λ k p at. at; len = refl; places = λ i row lt. absurd (omega (arith, lt)) }

pub patterns_more : (own n : ℕ) (x : Addition) (old new : List Tree) (row : Terminal) → slice_get x.terminals.now n ≡ Some row
    → ArePatternsAdded own n x old new → ArePatternsAdded own (n + 1) x old (new ++ row.pattern ∷ [])
patterns_more own n x old new row at was = record {
  keeps = λ k p there. push_keeps new row.pattern k p (was.keeps k p there);
  len = (let a = length-append new (row.pattern ∷ []) in let b = was.len in omega (arith, a, b));
  places = λ i other lt there. elim (cases_lt (own + i) n) [
    | inl before ↦ push_keeps new row.pattern (length old + i) other.pattern (was.places i other before there)
    | inr far ↦
        let b = was.len in
        let e : own + i ≡ n = omega (arith, far, lt) in
        let place : length new ≡ length old + i = omega (arith, b, e) in
        let same = at_once x.terminals.now n row other at (subst (λ z. slice_get x.terminals.now z ≡ Some other) e there) in
        subst (λ z. slice_get (new ++ row.pattern ∷ []) z ≡ Some other.pattern) place
        (push_last new row.pattern ∙ ap (λ (z : Terminal). Some z.pattern) same)
  ];
}

-- no extension, and one extension more
pub no_bases : (own hosts : ℕ) (patterns : List Tree) (bases : List ℕ) → bases ≡ [] → AreBases own hosts [] patterns bases
no_bases own hosts patterns bases e = record { len = ap length e; each = λ k x base at. absurd (nothing_at x k at) }

-- places stay where expressions do
places_keep : (from bound base : ℕ) (x : Addition) (p p' : List Tree) → Keeps p p' → HasPlaces from bound x p base
    → HasPlaces from bound x p' base
places_keep from bound base x p p' keeps has i row lt at = keeps (base + i) row.pattern (has i row lt at)

-- the places of an extension that was added
added_places : (own hosts : ℕ) (x : Addition) (p p' : List Tree) (b b' : List ℕ) → own ≤ x.grammar.now.terminals
    → IsAdded own hosts x p b p' b' → HasOwnPlaces own hosts x p' (length p)
added_places own hosts x p p' b b' more added =
    let len = added.terminals_are.len in
    let e : length added.between ≡ length p + (x.grammar.now.terminals - own) = omega (arith, len, more) in record {
      terminals = places_keep own x.grammar.now.terminals (length p) x added.between p' added.layouts_are.keeps added.terminals_are.places;
      layouts = subst (HasPlaces (x.grammar.now.terminals + hosts) (length x.terminals.now) x p') e added.layouts_are.places;
    }

bases_push : (own hosts : ℕ) (xs : List Addition) (x : Addition) (p p' : List Tree) (b b' : List ℕ) → own ≤ x.grammar.now.terminals
    → IsAdded own hosts x p b p' b' → AreBases own hosts xs p b → AreBases own hosts (xs ++ x ∷ []) p' b'
bases_push own hosts xs x p p' b b' more added was = record {
  len = (let a = length-append xs (x ∷ []) in let c = length-append b (length p ∷ []) in let d = was.len in
      let e = ap length added.bases_are in omega (arith, a, c, d, e));
  each = λ k y base at base_at. elim (at_push xs x y k at) [
    | inl here ↦ elim (at_push b (length p) base k (subst (λ z. slice_get z k ≡ Some base) added.bases_are base_at)) [
      | inl there ↦ (let old = was.each k y base here there in record {
        terminals = places_keep own y.grammar.now.terminals base y p p' keeps old.terminals;
        layouts = places_keep (y.grammar.now.terminals + hosts) (length y.terminals.now) (base + (y.grammar.now.terminals - own)) y
            p p' keeps old.layouts;
      })
      | inr (last, same) ↦ (let w = slice_get_within xs k y here in let d = was.len in absurd (omega (arith, w, d, last)))
    ]
    | inr (last, same) ↦ elim (at_push b (length p) base k (subst (λ z. slice_get z k ≡ Some base) added.bases_are base_at)) [
      | inl there ↦ (let w = slice_get_within b k base there in let d = was.len in absurd (omega (arith, w, d, last)))
      | inr (e, alike) ↦ subst (λ (z : Addition). HasOwnPlaces own hosts z p' base) same
          (subst (HasOwnPlaces own hosts x p') alike (added_places own hosts x p p' b b' more added))
    ]
  ];
}
  where
    keeps : Keeps p p'
    keeps k q there = added.layouts_are.keeps k q (added.terminals_are.keeps k q there)

pub bases_more : (own hosts : ℕ) (xs : List Addition) (i : ℕ) (x : Addition) (p p' : List Tree) (b b' : List ℕ)
    → own ≤ x.grammar.now.terminals → slice_get xs i ≡ Some x → IsAdded own hosts x p b p' b' → AreBases own hosts (take i xs) p b
    → AreBases own hosts (take (i + 1) xs) p' b'
bases_more own hosts xs i x p p' b b' more at added was =
    let e : take (i + 1) xs ≡ take i xs ++ x ∷ [] = take_more xs i x (slice_get_within xs i x at) ∙
    ap (λ z. take i xs ++ z ∷ []) (get_or_from_slice_get xs i x x at) in
    subst (λ ys. AreBases own hosts ys p' b') (sym e) (bases_push own hosts (take i xs) x p p' b b' more added was)

-- the text of one expression more, if it is one text alone
pub no_texts : (texts : List (Option (List ℕ))) → texts ≡ [] → AreTexts [] texts
no_texts texts e = record { len = ap length e; each = λ k p text at. absurd (nothing_at p k at) }

texts_push : (patterns : List Tree) (p : Tree) (texts : List (Option (List ℕ))) (found : Option (List ℕ)) → AreTexts patterns texts
    → IfSome found (IsOnlyMatch p) → AreTexts (patterns ++ p ∷ []) (texts ++ found ∷ [])
texts_push patterns p texts found was is = record {
  len = (let a = length-append patterns (p ∷ []) in let c = length-append texts (found ∷ []) in let d = was.len in omega (arith, a, c, d));
  each = λ k q text at text_at. elim (at_push patterns p q k at) [
    | inl here ↦ elim (at_push texts found (Some text) k text_at) [
      | inl there ↦ was.each k q text here there
      | inr (last, same) ↦ (let w = slice_get_within patterns k q here in let d = was.len in absurd (omega (arith, w, d, last)))
    ]
    | inr (last, same) ↦ elim (at_push texts found (Some text) k text_at) [
      | inl there ↦ (let w = slice_get_within texts k (Some text) there in let d = was.len in absurd (omega (arith, w, d, last)))
      | inr (e, alike) ↦ subst (λ z. IsOnlyMatch z text) same (subst (λ o. IfSome o (IsOnlyMatch p)) alike is)
    ]
  ];
}

pub texts_more : (patterns : List Tree) (i : ℕ) (d : Tree) (texts : List (Option (List ℕ))) (found : Option (List ℕ)) → i < length patterns
    → AreTexts (take i patterns) texts → IfSome found (IsOnlyMatch (get_or patterns i d)) → AreTexts (take (i + 1) patterns) (texts ++ found ∷ [])
texts_more patterns i d texts found lt was is =
    subst (λ ys. AreTexts ys (texts ++ found ∷ [])) (sym (take_more patterns i d lt)) (texts_push (take i patterns) (get_or patterns i d) texts found was is)

-- where a row is
pub place_at : (own bound t base : ℕ) (x : Addition) (patterns : List Tree) (row : Terminal) → HasPlaces own bound x patterns base → own ≤ t
    → t < bound → slice_get x.terminals.now t ≡ Some row → slice_get patterns (base + (t - own)) ≡ Some row.pattern
place_at own bound t base x patterns row has far lt at =
    let e : t ≡ own + (t - own) = omega (arith, far) in
    has (t - own) row (omega (arith, far, lt)) (subst (λ z. slice_get x.terminals.now z ≡ Some row) e at)

-- two texts alone share a text where they are the same
pub text_answer : (patterns : List Tree) (texts : List (Option (List ℕ))) (one other : ℕ) (same : Bool) (p q : Tree) → AreTexts patterns texts
    → IsOneText texts one other same → slice_get patterns one ≡ Some p → slice_get patterns other ≡ Some q → (same ≡ true) ↔ ShareText p q
text_answer patterns texts one other same p q are is at at' =
    let a = are.each one p is.text at is.at in
    let b = are.each other q is.found at' is.at_other in (
      λ on. record { text = is.text; one = a.matches; other = subst (Matches q) (sym (is.answer.0 on)) b.matches },
      λ s. is.answer.1 (sym (a.only s.text s.one) ∙ b.only s.text s.other),
    )

pub match_tree : (patterns : List Tree) (k : ℕ) (p : Tree) (text : List ℕ) → slice_get patterns k ≡ Some p → IsMatch patterns k text → Matches p text
match_tree patterns k p text at m = subst (λ z. Matches z text) (same_Some m.tree p (sym m.at ∙ at)) m.matches

-- and what is told of two
pub told_answer : (patterns : List Tree) (one other : ℕ) (flag : Bool) (p q : Tree) → (flag ≡ true) ↔ Share patterns (one, other)
    → slice_get patterns one ≡ Some p → slice_get patterns other ≡ Some q → (flag ≡ true) ↔ ShareText p q
told_answer patterns one other flag p q is at at' = (
  λ on. (let s = is.0 on in record {
    text = s.text;
    one = match_tree patterns one p s.text at s.both.0;
    other = match_tree patterns other q s.text at' s.both.1;
  }),
  λ s. is.1 (record {
    text = s.text;
    both = (record { tree = p; at = at; matches = s.one }, record { tree = q; at = at'; matches = s.other });
  }),
)

-- a place that was read
pub at_base : (bases : List ℕ) (k base : ℕ) → k < length bases → base ≡ get_or bases k base → slice_get bases k ≡ Some base
at_base bases k base lt e = read_at bases bases k base refl lt e
