-- Sets of what is considered at kernels.
use Rattle.std.proofs.Common.{◌≡◌, ◌<◌, ◌≤◌, ◌+◌, ℕ, Bool, true, List, [], ◌∷◌, ◌++◌, length, Some, slice_get, sym, subst, arith, inl}
use Rattle.std.proofs.Common.{inr, ◌∙◌}
use Rattle.std.proofs.Common.{length-append}
use Rattle.std.specs.Prelude.{◌↔◌, ◌⊎◌, slice_set}
use Rattle.std.proofs.lemmas.Bool.{cases_lt}
use Rattle.wb_lemmas.proofs.Places.{at_push}
use Rattle.wb_termset.specs.Sets.{IsEmpty, IsMember, IsNextMember, HasNoneFrom}
use Rattle.wb_termset.proofs.CallerLemmas.{has_below, IsMember-insert, IsMember-insert_same, IsSubset-insert}
use Rattle.wb_grammar_theory.specs.declared.item.Item.{Item}
use Rattle.wb_items.specs.Kernels.{KernelsView, ListsKernel, prefix_of}
use Rattle.wb_lookahead.specs.Tables.{IsValidSet}
use Rattle.wb_determinism_contexts.specs.Considered.{LexiconView, IsConsideredAt}
use Rattle.wb_determinism_contexts.specs.Sets.{IsConsideredSet, AreConsideredSets, FitsGrammar}
use Rattle.wb_determinism_contexts.specs.Inner.Own.{IsConsideredBy, IsOwnBy, ListsFrom}

-- the set has what it had, and the members of the other below a number
abbrev pub HasAdded : List Bool → List Bool → ℕ → List Bool → Type 0
HasAdded old other below new = (t : ℕ) → IsMember new t ↔ (((t < below) × IsMember other t) ⊎ IsMember old t)

-- what is considered by a kernel's valid set and items is what is considered there
pub considered_is : (kernels : KernelsView) (lexicon : LexiconView) (s : ℕ) (valid set : List Bool) (items : List Item)
    → FitsGrammar kernels.grammar.terminals lexicon → IsValidSet kernels s valid → ListsKernel kernels.grammar (prefix_of kernels s) items
    → length set ≡ length lexicon.layout → ((t : ℕ) → IsMember set t ↔ IsConsideredBy lexicon valid items t)
    → IsConsideredSet kernels lexicon s set
considered_is kernels lexicon s valid set items fits is lists len each = record {
  len = omega (arith, len, fits.layout);
  each = λ t. (λ has. there t ((each t).0 has), λ has. (each t).1 (back t has));
}
  where
    there : (t : ℕ) → IsConsideredBy lexicon valid items t → IsConsideredAt kernels.grammar lexicon (prefix_of kernels s) t
    there t (inl (below, has)) = inl (below, (is.each t (omega (arith, below, fits.scanned))).0 has)
    there t (inr (inl has)) = inr (inl has)
    there t (inr (inr (has, (k, i, within, at, both)))) = inr (inr (has, (i, (lists i).0 (k, within, at), both.0, both.1)))

    back : (t : ℕ) → IsConsideredAt kernels.grammar lexicon (prefix_of kernels s) t → IsConsideredBy lexicon valid items t
    back t (inl (below, has)) = inl (below, (is.each t (omega (arith, below, fits.scanned))).1 has)
    back t (inr (inl has)) = inr (inl has)
    back t (inr (inr (has, (i, holds, from, to)))) =
        let (k, within, at) = (lists i).1 holds in inr (inr (has, (k, i, within, at, (from, to))))

-- with the layout and the scanned members of the valid set, where there is no layout of an extension
pub plain_set : (lexicon : LexiconView) (valid set : List Bool) (items : List Item) → IsEmpty lexicon.own_layout
    → HasAdded lexicon.layout valid lexicon.scanned set → (t : ℕ) → IsMember set t ↔ IsConsideredBy lexicon valid items t
plain_set lexicon valid set items empty added t = (λ has. there ((added t).0 has), λ is. (added t).1 (back is))
  where
    there : ((t < lexicon.scanned) × IsMember valid t) ⊎ IsMember lexicon.layout t → IsConsideredBy lexicon valid items t
    there (inl has) = inl has
    there (inr has) = inr (inl has)

    back : IsConsideredBy lexicon valid items t → ((t < lexicon.scanned) × IsMember valid t) ⊎ IsMember lexicon.layout t
    back (inl has) = inl has
    back (inr (inl has)) = inr has
    back (inr (inr (has, _))) = absurd (empty t has)

-- with the layout of an extension besides
pub whole_set : (lexicon : LexiconView) (valid old set : List Bool) (items : List Item) → HasAdded lexicon.layout valid lexicon.scanned old
    → ((t : ℕ) → IsMember set t ↔ (IsOwnBy lexicon items t ⊎ IsMember old t)) → (t : ℕ)
    → IsMember set t ↔ IsConsideredBy lexicon valid items t
whole_set lexicon valid old set items added own t = (λ has. there ((own t).0 has), λ is. (own t).1 (back is))
  where
    there : IsOwnBy lexicon items t ⊎ IsMember old t → IsConsideredBy lexicon valid items t
    there (inl is) = inr (inr is)
    there (inr has) = elim ((added t).0 has) [ inl is ↦ inl is | inr is ↦ inr (inl is) ]

    back : IsConsideredBy lexicon valid items t → IsOwnBy lexicon items t ⊎ IsMember old t
    back (inl is) = inr ((added t).1 (inl is))
    back (inr (inl is)) = inr ((added t).1 (inr is))
    back (inr (inr is)) = inl is

-- an extension's layout was added where an item of its productions is there
pub own_added : (lexicon : LexiconView) (old set : List Bool) (items : List Item) → ListsFrom items lexicon.own_productions
    → HasAdded old lexicon.own_layout (length lexicon.own_layout) set → (t : ℕ) → IsMember set t ↔ (IsOwnBy lexicon items t ⊎ IsMember old t)
own_added lexicon old set items lists added t = (
  λ has. elim ((added t).0 has) [ inl (_, is) ↦ inl (is, lists) | inr is ↦ inr is ],
  λ either. (added t).1 (elim either [ inl (is, _) ↦ inl (has_below lexicon.own_layout t is, is) | inr is ↦ inr is ]),
)

-- and not where none is
pub own_kept : (lexicon : LexiconView) (old : List Bool) (items : List Item) → (ListsFrom items lexicon.own_productions → ⊥) → (t : ℕ)
    → IsMember old t ↔ (IsOwnBy lexicon items t ⊎ IsMember old t)
own_kept lexicon old items not t = (λ has. inr has, λ either. elim either [ inl (_, lists) ↦ absurd (not lists) | inr has ↦ has ])

-- nothing was added
pub added_first : (old other : List Bool) → HasAdded old other 0 old
added_first old other t = (λ has. inr has, λ either. elim either [ inl (lt, has) ↦ absurd (omega (arith, lt)) | inr has ↦ has ])

-- the next member was added
pub added_next : (old other now : List Bool) (from n : ℕ) → n < length now → IsNextMember other from n → HasAdded old other from now
    → HasAdded old other (n + 1) (slice_set now n true)
added_next old other now from n room next are t = (
  λ has. elim (IsMember-insert now n t has) [
    | inl before ↦ elim ((are t).0 before) [
      | inl (lt, is) ↦ inl ((let le = next.from_on in omega (arith, lt, le)), is)
      | inr first ↦ inr first
    ]
    | inr same ↦ inl (omega (arith, same), subst (IsMember other) (sym same) next.member)
  ],
  λ either. elim either [
    | inl (lt, is) ↦ elim (cases_lt t from) [
      | inl early ↦ IsSubset-insert now n t ((are t).1 (inl (early, is)))
      | inr late ↦ elim (cases_lt t n) [
        | inl between ↦ absurd (next.least t late between is)
        | inr past ↦
            subst (IsMember (slice_set now n true)) (let e : n ≡ t = omega (arith, lt, past) in e) (IsMember-insert_same now n room)
      ]
    ]
    | inr first ↦ IsSubset-insert now n t ((are t).1 (inr first))
  ],
)

-- the next member is past the last that is wanted
pub added_past : (old other now : List Bool) (from below n : ℕ) → from ≤ below → below ≤ n → IsNextMember other from n
    → HasAdded old other from now → HasAdded old other below now
added_past old other now from below n low high next are t = (
  λ has. elim ((are t).0 has) [ inl (lt, is) ↦ inl (omega (arith, lt, low), is) | inr first ↦ inr first ],
  λ either. elim either [
    | inl (lt, is) ↦ elim (cases_lt t from) [
      | inl early ↦ (are t).1 (inl (early, is))
      | inr late ↦ absurd (next.least t late (omega (arith, lt, high)) is)
    ]
    | inr first ↦ (are t).1 (inr first)
  ],
)

-- no member is left
pub added_all : (old other now : List Bool) (from below : ℕ) → from ≤ below → HasNoneFrom other from → HasAdded old other from now
    → HasAdded old other below now
added_all old other now from below low past are t = (
  λ has. elim ((are t).0 has) [ inl (lt, is) ↦ inl (omega (arith, lt, low), is) | inr first ↦ inr first ],
  λ either. elim either [
    | inl (lt, is) ↦ elim (cases_lt t from) [
      | inl early ↦ (are t).1 (inl (early, is))
      | inr late ↦ absurd (past t late is)
    ]
    | inr first ↦ (are t).1 (inr first)
  ],
)

-- one kernel more
pub sets_more : (kernels : KernelsView) (lexicon : LexiconView) (s : ℕ) (sets : List (List Bool)) (set : List Bool)
    → AreConsideredSets kernels lexicon s sets → IsConsideredSet kernels lexicon s set
    → AreConsideredSets kernels lexicon (s + 1) (sets ++ set ∷ [])
sets_more kernels lexicon s sets set are is = record {
  len = omega (arith, length-append sets (set ∷ []), are.len);
  each = λ k other at. pick k other (at_push sets set other k at);
}
  where
    pick : (k : ℕ) (other : List Bool) → (slice_get sets k ≡ Some other) ⊎ ((k ≡ length sets) × (set ≡ other))
        → IsConsideredSet kernels lexicon k other
    pick k other (inl at) = are.each k other at
    pick k other (inr (here, same)) =
        subst (λ z. IsConsideredSet kernels lexicon k z) same
        (subst (λ (j : ℕ). IsConsideredSet kernels lexicon j set) (sym (here ∙ are.len)) is)
