-- The markers without a bare form are listed in one way.
use Rattle.std.proofs.Common.{◌≡◌, ◌<◌, ◌∙◌, ◌∷◌, [], ℕ, zero, suc, List, Some, All, Contains, map, slice_get, ap, refl, sym, subst, inl}
use Rattle.std.proofs.Common.{inr, arith}
use Rattle.std.proofs.lemmas.List.Elements.{All-head, All-tail}
use Rattle.std.proofs.lemmas.Option.{same_Some}
use Rattle.wb_base.specs.Grammar.{GrammarView}
use Rattle.wb_compose.specs.Lexicons.{lexicon_of}
use Rattle.wb_compose.specs.Joined.{AreCertifiedApart, Extended}
use Rattle.wb_compose.specs.Written.{written_in}
use Rattle.wb_lemmas.proofs.Members.{contains_cases, contains_first, contains_later, nothing_in, place_of}
use Rattle.wb_operations.specs.Operations.{OperationSignature}
use Rattle.wb_syntax_resolved.specs.declared.resolved.ResolvedParts.{ResolvedParts}
use Rattle.wb_compose.specs.Languages.{AreWithdrawn}
use Rattle.wb_compose_texts.specs.Names.{name_at, terminals_of}
use Rattle.wb_compose_texts.specs.Unions.{Union}
use Rattle.wb_compose_texts.specs.Withdrawn.{HasOneWithdrawn}
use Rattle.wb_compose_texts.proofs.AnswerLemmas.{extended_is}
use Rattle.wb_compose_texts.proofs.AnswerLemmas as answer
use Rattle.wb_compose_texts.proofs.NameLemmas.{resolved_in}

-- each number is above all before it
abbrev Rising : List ℕ → Type 0
Rising xs = (i j m n : ℕ) → slice_get xs i ≡ Some m → slice_get xs j ≡ Some n → i < j → m < n

-- the rest of a rising list, whose numbers are above the first
rising_rest : (x : ℕ) (xs : List ℕ) → Rising (x ∷ xs) → Rising xs
rising_rest x xs rising i j m n at there less = rising (suc i) (suc j) m n at there (omega (arith, less))

above_first : (x : ℕ) (xs : List ℕ) → Rising (x ∷ xs) → (n : ℕ) → Contains xs n → x < n
above_first x xs rising n is = let (j, at) = place_of xs n is in rising zero (suc j) x n refl at (omega arith)

-- rising lists of the same numbers are one
one_rising : (xs ys : List ℕ) → Rising xs → Rising ys → ((n : ℕ) → Contains xs n → Contains ys n) →
    ((n : ℕ) → Contains ys n → Contains xs n) → xs ≡ ys
one_rising [] [] first second there back = refl
one_rising [] (y ∷ ys) first second there back = absurd (nothing_in y (back y (contains_first y ys)))
one_rising (x ∷ xs) [] first second there back = absurd (nothing_in x (there x (contains_first x xs)))
one_rising (x ∷ xs) (y ∷ ys) first second there back =
    (λ z. head z ∷ one_rising xs ys (rising_rest x xs first) (rising_rest y ys second) over under z)
  where
    head : x ≡ y
    head = elim (contains_cases y x ys (there x (contains_first x xs))) [
      | inl same ↦ sym same
      | inr later ↦ elim (contains_cases x y xs (back y (contains_first y ys))) [
        | inl same ↦ same
        | inr earlier ↦ let a = above_first y ys second x later in
            let b = above_first x xs first y earlier in absurd (omega (arith, a, b))
      ]
    ]

    over : (n : ℕ) → Contains xs n → Contains ys n
    over n is = elim (contains_cases y n ys (there n (contains_later x n xs is))) [
      | inl same ↦ let a = above_first x xs first n is in absurd (omega (arith, a, same, head))
      | inr later ↦ later
    ]

    under : (n : ℕ) → Contains ys n → Contains xs n
    under n is = elim (contains_cases x n xs (back n (contains_later y n ys is))) [
      | inl same ↦ let a = above_first y ys second n is in absurd (omega (arith, a, same, head))
      | inr later ↦ later
    ]

module _ (host : ResolvedParts) (h : GrammarView) (operations : List OperationSignature) where
  -- what is resolved has one list of grammars
  pub same_extended : (xs ys : List Extended) → All (answer.Both host h operations) xs → All (answer.Both host h operations) ys →
      resolved_in xs ≡ resolved_in ys → xs ≡ ys
  same_extended [] [] one two same = refl
  same_extended [] (y ∷ ys) one two same = absurd (cc same)
  same_extended (x ∷ xs) [] one two same = absurd (cc same)
  same_extended (x ∷ xs) (y ∷ ys) one two same =
      let first : x.resolved ≡ y.resolved = cc in
      let rest : resolved_in xs ≡ resolved_in ys = cc in
      let head = extended_is host h operations x y (All-head (answer.Both host h operations) x xs one)
      (All-head (answer.Both host h operations) y ys two) first in
      let tail = same_extended xs ys (All-tail (answer.Both host h operations) x xs one)
      (All-tail (answer.Both host h operations) y ys two) rest in
      λ z. head z ∷ tail z

pub one_withdrawn : (host : ResolvedParts) (operations : List OperationSignature) (extensions : List ResolvedParts) →
    HasOneWithdrawn host operations extensions
one_withdrawn host operations extensions names others first second =
    first.is ∙ (ap (map (name_at (terminals_of host extensions))) numbers ∙ sym second.is)
  where
    u : Union host operations extensions
    u = first.whole

    v : Union host operations extensions
    v = second.whole

    grammars : v.grammar ≡ u.grammar
    grammars = same_Some v.grammar u.grammar (sym v.certified.host_start ∙ u.certified.host_start)

    apart : AreCertifiedApart host u.grammar operations v.extended
    apart = subst (λ g. AreCertifiedApart host g operations v.extended) grammars v.certified

    extendeds : v.extended ≡ u.extended
    extendeds = same_extended host u.grammar operations v.extended u.extended apart.each u.certified.each
        (v.extensions_are ∙ sym u.extensions_are)

    also : AreWithdrawn u.grammar host.extensible (lexicon_of host u.grammar) (written_in u.grammar u.extended) second.numbers
    also = subst (λ xs. AreWithdrawn u.grammar host.extensible (lexicon_of host u.grammar) (written_in u.grammar xs) second.numbers)
        extendeds (subst (λ g. AreWithdrawn g host.extensible (lexicon_of host g) (written_in g v.extended) second.numbers) grammars second.withdrawn)

    numbers : first.numbers ≡ second.numbers
    numbers = one_rising first.numbers second.numbers first.withdrawn.rising also.rising
        (λ n is. (also.each n).1 ((first.withdrawn.each n).0 is)) (λ n is. (first.withdrawn.each n).1 ((also.each n).0 is))
