-- Expressions of what several match, and of texts behind a prefix.
use Rattle.std.proofs.Common.{◌≡◌, ◌<◌, ◌⊎◌, ◌++◌, inl, inr, ℕ, Bool, true, false, List, [], ◌∷◌, refl, sym, ◌∙◌, subst, ap, eqb, eq-eqb}
use Rattle.std.proofs.Common.{Contains}
use Rattle.std.specs.Prelude.{All}
use Rattle.std.proofs.lemmas.Bool.{eqb-true}
use Rattle.std.proofs.lemmas.List.Elements.{All-head, All-tail}
use Rattle.wb_lemmas.proofs.Members.{contains_cases, contains_first, contains_later, nothing_in}
use Rattle.wb_regex.specs.Tree.{Tree, Set, Sequence, Choice}
use Rattle.wb_regex.specs.Matches.{Matches, byte, both, left, right}
use Rattle.wb_regex.specs.Prefixed.{IsPrefixed, IsPrefixedText}
use Rattle.wb_regex.specs.Inner.ClassSteps.{words_of}
use Rattle.wb_regex.proofs.SetLemmas.{is_set_of}

-- the set of the bytes that pass a test
set_of : (ℕ → Bool) → Tree
set_of test = Set (words_of test)

-- what matches nothing
void : Tree
void = set_of (λ b. false)

set_matches : (test : ℕ → Bool) (x : List ℕ) → Matches (set_of test) x → (b : ℕ) × (test b ≡ true) × (x ≡ b ∷ [])
unfolding set_of
set_matches test x (byte {b = b} holds is) = (b, (((is_set_of test).each b).0 holds).1, is)

set_has : (test : ℕ → Bool) (b : ℕ) → b < 256 → test b ≡ true → Matches (set_of test) (b ∷ [])
unfolding set_of
set_has test b lt is = byte (((is_set_of test).each b).1 (lt, is)) refl

void_none : (x : List ℕ) → ¬ Matches void x
unfolding void
void_none x m = let h = set_matches (λ b. false) x m in absurd (cc h.1)

-- what one of some matches
pub any_of : List Tree → Tree
any_of [] = void
any_of (t ∷ ts) = Choice t (any_of ts)

pub any_has : (ts : List Tree) (t : Tree) (x : List ℕ) → Contains ts t → Matches t x → Matches (any_of ts) x
unfolding any_of
any_has [] t x has m = absurd (nothing_in t has)
any_has (u ∷ ts) t x has m = elim (contains_cases u t ts has) [
  | inl e ↦ left (subst (λ z. Matches z x) (sym e) m)
  | inr later ↦ right (any_has ts t x later m)
]

choice_cases : {r s : Tree} {x : List ℕ} → Matches (Choice r s) x → Matches r x ⊎ Matches s x
choice_cases (left m) = inl m
choice_cases (right m) = inr m

pub any_only : (ts : List Tree) (x : List ℕ) → Matches (any_of ts) x → (t : Tree) × Contains ts t × Matches t x
unfolding any_of
any_only [] x m = absurd (void_none x m)
any_only (u ∷ ts) x m = elim (choice_cases m) [
  | inl h ↦ (u, contains_first u ts, h)
  | inr h ↦ let (t, has, n) = any_only ts x h in (t, contains_later u t ts has, n)
]

-- a text behind a prefix
pub behind : List ℕ → Tree → Tree
behind [] r = r
behind (b ∷ prefix) r = Sequence (set_of (λ c. eqb c b)) (behind prefix r)

record IsSplit (r s : Tree) (x : List ℕ) : Type 0 where
  front : List ℕ
  back : List ℕ
  first : Matches r front
  second : Matches s back
  is : x ≡ front ++ back

sequence_parts : {r s : Tree} {x : List ℕ} → Matches (Sequence r s) x → IsSplit r s x
sequence_parts (both {x = y} {y = z} m n is) = record { front = y; back = z; first = m; second = n; is = is }

same_byte : (b : ℕ) → eqb b b ≡ true
same_byte b = eq-eqb b b refl

pub behind_is : (prefix : List ℕ) (r : Tree) → All (λ b. b < 256) prefix → IsPrefixed prefix r (behind prefix r)
unfolding behind
behind_is [] r bytes x = (λ m. record { rest = x; matches = m; is = refl }, λ p. subst (Matches r) (sym p.is) p.matches)
behind_is (b ∷ prefix) r bytes x =
    let f = behind_is prefix r (All-tail (λ c. c < 256) b prefix bytes) in (there f, back f) where
      there : IsPrefixed prefix r (behind prefix r) → Matches (Sequence (set_of (λ c. eqb c b)) (behind prefix r)) x → IsPrefixedText (b ∷ prefix) r x
      there f m =
          let s = sequence_parts m in
          let (c, passes, is) = set_matches (λ c. eqb c b) s.front s.first in
          let same : c ≡ b = eqb-true c b passes in
          let p = (f s.back).0 s.second in
          record {
            rest = p.rest;
            matches = p.matches;
            is = s.is ∙ (ap (λ z. z ++ s.back) (is ∙ ap (λ z. z ∷ []) same) ∙ ap (λ z. b ∷ z) p.is);
          }

      back : IsPrefixed prefix r (behind prefix r) → IsPrefixedText (b ∷ prefix) r x → Matches (Sequence (set_of (λ c. eqb c b)) (behind prefix r)) x
      back f p = both (set_has (λ c. eqb c b) b (All-head (λ c. c < 256) b prefix bytes) (same_byte b))
          ((f (prefix ++ p.rest)).1 (record { rest = p.rest; matches = p.matches; is = refl })) p.is
