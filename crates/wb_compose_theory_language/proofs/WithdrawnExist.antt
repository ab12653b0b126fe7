-- The markers of a union without a bare form, by number.
use Rattle.std.proofs.Common.{◌≡◌, ◌<◌, ◌≤◌, ◌+◌, ◌⊎◌, ◌∙◌, inl, inr, ℕ, zero, suc, List, [], ◌∷◌, refl, sym, ap, subst, arith, Contains}
use Rattle.wb_base.specs.Grammar.{GrammarView}
use Rattle.wb_determinism_contexts.specs.Considered.{LexiconView}
use Rattle.wb_lemmas.proofs.Members.{contains_cases, contains_first, contains_later, nothing_in}
use Rattle.wb_compose_theory_grammar.specs.Certificates.{AreCertified}
use Rattle.wb_compose_theory_grammar.specs.UnitedWorlds.{united}
use Rattle.wb_compose_theory_grammar.proofs.ApartLemmas.{into_is}
use Rattle.wb_compose_theory_grammar.proofs.UnionGrammarLemmas.{terminal_below}
use Rattle.wb_compose_theory_language.specs.Written.{WrittenPiece, pieces_of}
use Rattle.wb_compose_theory_language.specs.Apart.{AreWrittenApart}
use Rattle.wb_compose_theory_language.specs.Forms.{IsMarkerOf, IsWithdrawn}
use Rattle.wb_compose_theory_language.specs.Languages.{AreWithdrawn}
use Rattle.wb_compose_theory_language.proofs.BareLemmas.{marker_own}
use Rattle.wb_compose_theory_language.proofs.RowLemmas.{piece_there}
use Rattle.wb_lemmas.proofs.NotNot.{follows}
use Rattle.wb_lemmas.proofs.Sublists.{Rising, nil, cons, rising_places, IsPart, part}

abbrev Less : ℕ → ℕ → Type 0
Less a b = a < b

-- so many numbers, from this one on
numbers : ℕ → ℕ → List ℕ
numbers k zero = []
numbers k (suc n) = k ∷ numbers (suc k) n

numbers_only : (k n t : ℕ) → Contains (numbers k n) t → k ≤ t
unfolding numbers
numbers_only k zero t has = absurd (nothing_in t has)
numbers_only k (suc n) t has = elim (contains_cases k t (numbers (suc k) n) has) [
  | inl e ↦ omega (arith, e)
  | inr later ↦ let h = numbers_only (suc k) n t later in omega (arith, h)
]

numbers_rise : (k n : ℕ) → Rising Less (numbers k n)
unfolding numbers
numbers_rise k zero = nil
numbers_rise k (suc n) =
    cons k (numbers (suc k) n) (λ t has. let h = numbers_only (suc k) n t has in omega (arith, h)) (numbers_rise (suc k) n)

numbers_have : (k n t : ℕ) → k ≤ t → t < k + n → Contains (numbers k n) t
unfolding numbers
numbers_have k zero t le lt = absurd (omega (arith, le, lt))
numbers_have k (suc n) t le lt = by_order (λ more. numbers_have (suc k) n t more (omega (arith, lt))) (order k t le) where
  order : (a b : ℕ) → a ≤ b → (a ≡ b) ⊎ (suc a ≤ b)
  order zero zero h = inl refl
  order zero (suc b) h = inr (omega arith)
  order (suc a) zero h = absurd (omega (arith, h))
  order (suc a) (suc b) h = elim (order a b (omega (arith, h))) [ inl same ↦ inl (ap suc same) | inr more ↦ inr (omega (arith, more)) ]

  by_order : (suc k ≤ t → Contains (numbers (suc k) n) t) → (k ≡ t) ⊎ (suc k ≤ t) → Contains (k ∷ numbers (suc k) n) t
  by_order f (inl same) = subst (Contains (k ∷ numbers (suc k) n)) same (contains_first k (numbers (suc k) n))
  by_order f (inr more) = contains_later k t (numbers (suc k) n) (f more)

module _ (host : GrammarView) (extensible : List ℕ) (own : LexiconView) (written : List WrittenPiece)
    (certified : AreCertified host extensible (pieces_of written)) (apart : AreWrittenApart host extensible own written) where
  abbrev count : ℕ
  count = (united host extensible (pieces_of written)).terminals

  marked : (k : ℕ) (x : WrittenPiece) (number : ℕ) → IsMarkerOf host extensible own written k x number → number < count
  marked k x number marker =
      let there = piece_there host extensible own written certified.are_pieces k x marker.listed in
      let mine = marker_own host extensible own written certified apart [] k x marker.listed marker.terminal marker.marker in
      let less = terminal_below host extensible (pieces_of written) certified.are_pieces k x.piece marker.terminal there mine.1 in
      subst (λ z. z < count) (sym (marker.is ∙ into_is host extensible (pieces_of written) certified k marker.terminal)) less

  abbrev Withdrawn : ℕ → Type 0
  Withdrawn number = IsWithdrawn host extensible own written number

  all_withdrawn : (xs : List ℕ) → IsPart Less Withdrawn (numbers 0 count) xs → AreWithdrawn host extensible own written xs
  all_withdrawn xs h = record {
    each = λ number. (
      λ has. ((h.exact number).0 has).1,
      λ is. (h.exact number).1
          (numbers_have 0 count number (omega arith) (let less = marked is.k is.x number is.marker in omega (arith, less)), is),
    );
    rising = λ i j m n at to less. rising_places Less xs h.rising i j m n less at to;
  }

  withdrawn_exist : ¬ ¬ ((xs : List ℕ) × AreWithdrawn host extensible own written xs)
  withdrawn_exist = follows (part Less Withdrawn (numbers 0 count) (numbers_rise 0 count)) (λ (xs, h). (xs, all_withdrawn xs h))

pub law : (host : GrammarView) (extensible : List ℕ) (own : LexiconView) (written : List WrittenPiece)
    → AreCertified host extensible (pieces_of written) → AreWrittenApart host extensible own written
    → ¬ ¬ ((xs : List ℕ) × AreWithdrawn host extensible own written xs)
law host extensible own written certified apart = withdrawn_exist host extensible own written certified apart
