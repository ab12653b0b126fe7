-- What symbols begin with, as it is found from left to right.
use Rattle.std.proofs.Common.{◌≡◌, ℕ, ◌+◌, ◌<◌, ◌⊎◌, Bool, true, false, List, [], ◌∷◌, length, refl, sym, ◌∙◌, ap, subst, inl, inr}
use Rattle.std.proofs.Common.{length-set}
use Rattle.std.specs.Prelude.{◌↔◌, slice_set}
use Rattle.std.proofs.lemmas.Bool.{true≢false}
use Rattle.wb_base.specs.declared.symbol.Symbol.{Symbol}
use Rattle.wb_base.specs.declared.symbol.Symbol.TheVariants.{Terminal, Nonterminal}
use Rattle.wb_base.specs.Grammar.{GrammarView}
use Rattle.wb_termset.specs.Sets.{IsMember, IsUnion, IsEmpty}
use Rattle.wb_termset.proofs.CallerLemmas.{IsMember-insert, IsMember-insert_same, IsSubset-insert}
use Rattle.wb_grammar_theory.specs.Derives.{Derives, done, keep, IsFirst}
use Rattle.wb_grammar_theory.proofs.DerivesLemmas.{Derives-same, Derives-append, Derives-split, First-append, nil_parts}
use Rattle.wb_grammar_theory.proofs.DerivesLemmas.{Terminal-not_nullable}
use Rattle.wb_lookahead.specs.Inner.Rests.{IsRest, BeginsSoFar}

-- a terminal begins what it derives alone
terminal_first : {g : GrammarView} (v : ℕ) (w : List Symbol) (u : ℕ) → IsFirst g (Terminal v ∷ w) u → u ≡ v
terminal_first v w u (z, keep (Terminal x) r) = refl

pub nothing_first : {g : GrammarView} (u : ℕ) → IsFirst g [] u → ⊥
nothing_first u (v, r) = go r refl
  where
    go : {g : GrammarView} {u : ℕ} {v x : List Symbol} → Derives g [] x → x ≡ Terminal u ∷ v → ⊥
    go done e = cc

-- symbols derive the empty text where the first and the rest do
empty_both : {g : GrammarView} (x : Symbol) (w : List Symbol) → Derives g (x ∷ []) [] → Derives g (x ∷ w) [] ↔ Derives g w []
empty_both {g} x w first = (
  λ r. (let s = Derives-split {g = g} (x ∷ []) r in subst (Derives g w) (nil_parts s.left s.right s.is).1 s.of_right),
  λ r. Derives-append first r,
)

empty_first : {g : GrammarView} (x : Symbol) (w : List Symbol) → Derives g (x ∷ w) [] → Derives g (x ∷ []) []
empty_first {g} x w r = (let s = Derives-split {g = g} (x ∷ []) r in subst (Derives g (x ∷ [])) (nil_parts s.left s.right s.is).0 s.of_left)

-- at first nothing is in the set
pub begins_start : (g : GrammarView) (w : List Symbol) (set : List Bool) → length set ≡ g.terminals + 1 → IsEmpty set →
    BeginsSoFar g w set w
begins_start g w set len none = record {
  len = len;
  first = λ u. (λ f. inr f, λ h. elim h [ inl has ↦ absurd (none u has) | inr f ↦ f ]);
  empty = (λ r. r, λ r. r);
}

-- a nonterminal that derives the empty text
pub begins_on : (g : GrammarView) (w left : List Symbol) (set first union : List Bool) (b : ℕ) →
    BeginsSoFar g w set (Nonterminal b ∷ left) → IsUnion set first union →
    ((t : ℕ) → IsMember first t ↔ IsFirst g (Nonterminal b ∷ []) t) → Derives g (Nonterminal b ∷ []) [] → BeginsSoFar g w union left
begins_on g w left set first union b h joined is nullable = record {
  len = joined.len ∙ h.len;
  first = λ u. (
    λ f. elim ((h.first u).0 f) [
      | inl has ↦ inl ((joined.each u).1 (inl has))
      | inr more ↦ elim ((First-append g (Nonterminal b ∷ []) left u).0 more) [
        | inl here ↦ inl ((joined.each u).1 (inr ((is u).1 here)))
        | inr (_, later) ↦ inr later
      ]
    ],
    λ p. elim p [
      | inl has ↦ elim ((joined.each u).0 has) [
        | inl old ↦ (h.first u).1 (inl old)
        | inr new ↦ (h.first u).1 (inr ((First-append g (Nonterminal b ∷ []) left u).1 (inl ((is u).0 new))))
      ]
      | inr later ↦ (h.first u).1 (inr ((First-append g (Nonterminal b ∷ []) left u).1 (inr (nullable, later))))
    ],
  );
  empty = (
    λ r. (empty_both (Nonterminal b) left nullable).0 (h.empty.0 r),
    λ r. h.empty.1 ((empty_both (Nonterminal b) left nullable).1 r),
  );
}

-- one that doesn't: nothing after it counts
pub begins_stop : (g : GrammarView) (w left : List Symbol) (set first union : List Bool) (b : ℕ) →
    BeginsSoFar g w set (Nonterminal b ∷ left) → IsUnion set first union →
    ((t : ℕ) → IsMember first t ↔ IsFirst g (Nonterminal b ∷ []) t) → (Derives g (Nonterminal b ∷ []) [] → ⊥) →
    IsRest g w (record { set = union; empty = false })
begins_stop g w left set first union b h joined is not = record {
  len = joined.len ∙ h.len;
  first = λ u. (
    λ has. elim ((joined.each u).0 has) [
      | inl old ↦ (h.first u).1 (inl old)
      | inr new ↦ (h.first u).1 (inr ((First-append g (Nonterminal b ∷ []) left u).1 (inl ((is u).0 new))))
    ],
    λ f. elim ((h.first u).0 f) [
      | inl has ↦ (joined.each u).1 (inl has)
      | inr more ↦ elim ((First-append g (Nonterminal b ∷ []) left u).0 more) [
        | inl here ↦ (joined.each u).1 (inr ((is u).1 here))
        | inr (r, _) ↦ absurd (not r)
      ]
    ],
  );
  empty = (λ t. absurd (true≢false (sym t)), λ r. absurd (not (empty_first (Nonterminal b) left (h.empty.0 r))));
}

-- a terminal: nothing after it counts
pub begins_terminal : (g : GrammarView) (w left : List Symbol) (set new : List Bool) (v : ℕ) → BeginsSoFar g w set (Terminal v ∷ left) →
    length new ≡ length set →
    ((u : ℕ) → IsMember new u ↔ (IsMember set u ⊎ (u ≡ v))) → IsRest g w (record { set = new; empty = false })
begins_terminal g w left set new v h len is = record {
  len = len ∙ h.len;
  first = λ u. (
    λ has. elim ((is u).0 has) [
      | inl old ↦ (h.first u).1 (inl old)
      | inr same ↦ (h.first u).1 (inr (
        left,
        subst (λ z. Derives g (Terminal v ∷ left) (Terminal z ∷ left)) (sym same)
            (Derives-same g (Terminal v ∷ left)),
      ))
    ],
    λ f. elim ((h.first u).0 f) [
      | inl has ↦ (is u).1 (inl has)
      | inr more ↦ (is u).1 (inr (terminal_first v left u more))
    ],
  );
  empty = (λ t. absurd (true≢false (sym t)), λ r. absurd (Terminal-not_nullable (h.empty.0 r)));
}

-- nothing is left
pub begins_end : (g : GrammarView) (w left : List Symbol) (set : List Bool) → left ≡ [] → BeginsSoFar g w set left →
    IsRest g w (record { set = set; empty = true })
begins_end g w left set none h = record {
  len = h.len;
  first = λ u. (
    λ has. (h.first u).1 (inl has),
    λ f. elim ((h.first u).0 f) [ inl has ↦ has | inr more ↦ absurd (nothing_first u (subst (λ z. IsFirst g z u) none more)) ],
  );
  empty = (λ t. h.empty.1 (subst (λ z. Derives g z []) (sym none) done), λ r. refl);
}

-- the same by what an insertion leaves
pub begins_insert : (g : GrammarView) (w left all : List Symbol) (set new : List Bool) (v : ℕ) → all ≡ Terminal v ∷ left → v < length set →
    BeginsSoFar g w set all →
    new ≡ slice_set set v true → IsRest g w (record { set = new; empty = false })
begins_insert g w left all set new v all_is lt h is =
    begins_terminal g w left set new v (subst (BeginsSoFar g w set) all_is h) (ap (λ (z : List Bool). length z) is ∙ length-set set v true)
    (λ u. (
      λ has. IsMember-insert set v u (subst (λ z. IsMember z u) is has),
      λ p. subst (λ z. IsMember z u) (sym is)
          (elim p [
            | inl old ↦ IsSubset-insert set v u old
            | inr same ↦ subst (IsMember (slice_set set v true)) (sym same)
                (IsMember-insert_same set v lt)
          ]),
    ))
