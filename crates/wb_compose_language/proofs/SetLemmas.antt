-- Sets of forms that are considered, one more at a time.
use Rattle.std.proofs.Common.{◌≡◌, ◌≢◌, ◌<◌, ◌≤◌, ◌+◌, ◌-◌, ◌∙◌, ◌⊎◌, ◌++◌, ◌∷◌, [], ℕ, Bool, true, List, Option, Some, None, length, slice_get}
use Rattle.std.proofs.Common.{sym, ap, subst, inl, inr, arith, length-append}
use Rattle.std.specs.Prelude.{◌↔◌, slice_index_or, slice_set}
use Rattle.std.proofs.lemmas.Bool.{cases_lt}
use Rattle.wb_base.specs.declared.symbol.Symbol.{Symbol}
use Rattle.wb_base.specs.Grammar.{GrammarView}
use Rattle.wb_grammar_theory.specs.declared.item.Item.{Item}
use Rattle.wb_items.specs.Kernels.{KernelsView, ListsKernel, prefix_of}
use Rattle.wb_scan_theory.specs.declared.form.Form.{Form}
use Rattle.wb_scan_theory.specs.Winners.{HoldsOne}
use Rattle.wb_lemmas.proofs.Places.{at_push}
use Rattle.wb_lookahead.specs.Contents.{TablesView, valid_of}
use Rattle.wb_termset.specs.Sets.{IsMember}
use Rattle.wb_termset.proofs.CallerLemmas.{IsMember-insert, IsMember-insert_same, IsSubset-insert}
use Rattle.wb_compose_language.specs.Inner.Sets.{AreFormSets, IsFormAt, IsFormBy, IsLayoutBefore, IsValidForm, ListsOne, span_after}

-- a list of a kernel's items has one of these productions exactly where the kernel holds one
holds_is : (g : GrammarView) (prefix : List Symbol) (items : List Item) → ListsKernel g prefix items → (span : Option (ℕ × ℕ)) →
    ListsOne items span ↔ HoldsOne g prefix span
holds_is g prefix items lists None = (λ has. tt, λ has. tt)
holds_is g prefix items lists (Some span) = (
  λ (k, i, within, at, both). (i, (lists i).0 (k, within, at), both.0, both.1),
  λ (i, holds, from, to). (let (k, within, at) = (lists i).1 holds in (k, i, within, at, (from, to))),
)

-- so a form is considered by the items exactly where it is at the kernel
at_kernel : (kernels : KernelsView) (s : ℕ) (items : List Item) (valid : List Bool) (forms : List Form) (spans : List (Option (ℕ × ℕ)))
    → ListsKernel kernels.grammar (prefix_of kernels s) items → (place : ℕ)
    → IsFormBy valid items forms spans place ↔ IsFormAt kernels s valid forms spans place
at_kernel kernels s items valid forms spans lists place = (there, back)
  where
    there : IsFormBy valid items forms spans place → IsFormAt kernels s valid forms spans place
    there (inl is) = inl is
    there (inr (from, to, lists_one)) =
        inr (from, to, (holds_is kernels.grammar (prefix_of kernels s) items lists (span_after (length forms) spans place)).0 lists_one)

    back : IsFormAt kernels s valid forms spans place → IsFormBy valid items forms spans place
    back (inl is) = inl is
    back (inr (from, to, holds)) =
        inr (from, to, (holds_is kernels.grammar (prefix_of kernels s) items lists (span_after (length forms) spans place)).1 holds)

-- the set of one state more
pub sets_more : (kernels : KernelsView) (tables : TablesView) (forms : List Form) (spans : List (Option (ℕ × ℕ))) (s : ℕ)
    (sets : List (List Bool)) (set : List Bool) (items : List Item) → AreFormSets kernels tables forms spans s sets
    → ListsKernel kernels.grammar (prefix_of kernels s) items
    → ((p : ℕ) → IsMember set p ↔ IsFormBy (valid_of tables s) items forms spans p)
    → AreFormSets kernels tables forms spans (s + 1) (sets ++ set ∷ [])
sets_more kernels tables forms spans s sets set items are lists is = record {
  len = omega (arith, length-append sets (set ∷ []), are.len);
  each = λ k other at. pick k other (at_push sets set other k at);
}
  where
    IsSetAt : ℕ → List Bool → Type 0
    IsSetAt k other = (p : ℕ) → IsMember other p ↔ IsFormAt kernels k (valid_of tables k) forms spans p

    here : IsSetAt s set
    here p =
        let same = at_kernel kernels s items (valid_of tables s) forms spans lists p in
        (λ has. same.0 ((is p).0 has), λ form. (is p).1 (same.1 form))

    pick : (k : ℕ) (other : List Bool) → (slice_get sets k ≡ Some other) ⊎ ((k ≡ length sets) × (set ≡ other)) → IsSetAt k other
    pick k other (inl at) = are.each k other at
    pick k other (inr (last, same)) = subst (IsSetAt k) same (subst (λ (j : ℕ). IsSetAt j set) (sym (last ∙ are.len)) here)

-- forms of the set's terminals, and layout
pub form_set : (valid set laid : List Bool) (items : List Item) (forms : List Form) (spans : List (Option (ℕ × ℕ)))
    → ((p : ℕ) → IsMember laid p ↔ IsLayoutBefore items (length forms) spans (length spans) p)
    → ((p : ℕ) → IsMember set p ↔ (IsValidForm valid forms p ⊎ IsMember laid p)) → (place : ℕ)
    → IsMember set place ↔ IsFormBy valid items forms spans place
form_set valid set laid items forms spans layout each place = (there, back)
  where
    there : IsMember set place → IsFormBy valid items forms spans place
    there has = elim ((each place).0 has) [ inl is ↦ inl is | inr in_layout ↦ inr ((layout place).0 in_layout) ]

    back : IsFormBy valid items forms spans place → IsMember set place
    back (inl is) = (each place).1 (inl is)
    back (inr is) = (each place).1 (inr ((layout place).1 is))

-- the set has the places of layout before the one of this number
abbrev pub HasLayoutBefore : List Item → ℕ → List (Option (ℕ × ℕ)) → ℕ → List Bool → Type 0
HasLayoutBefore items count spans bound set = (p : ℕ) → IsMember set p ↔ IsLayoutBefore items count spans bound p

-- no place yet
pub no_layout : (items : List Item) (count : ℕ) (spans : List (Option (ℕ × ℕ))) (set : List Bool) → ((p : ℕ) → ¬ IsMember set p)
    → HasLayoutBefore items count spans 0 set
no_layout items count spans set empty p =
    (λ has. absurd (empty p has), λ is. (let from = is.0 in let to = is.1 in absurd (omega (arith, from, to))))

module _ (items : List Item) (count : ℕ) (spans : List (Option (ℕ × ℕ))) (n : ℕ) (set : List Bool)
    (were : HasLayoutBefore items count spans n set) where
  -- the place of one layout more
  at_last : (p : ℕ) → count + n ≡ p → span_after count spans p ≡ slice_index_or spans n None
  at_last p is = let e : p - count ≡ n = omega (arith, is) in ap (λ z. slice_index_or spans z None) e

  early : (p : ℕ) → IsLayoutBefore items count spans n p → IsLayoutBefore items count spans (n + 1) p
  early p (from, to, lists) = (from, omega (arith, to), lists)

  -- it is considered
  pub layout_added : count + n < length set → ListsOne items (slice_index_or spans n None)
      → HasLayoutBefore items count spans (n + 1) (slice_set set (count + n) true)
  layout_added room lists p = (
    λ has. elim (IsMember-insert set (count + n) p has) [
      | inl before ↦ early p ((were p).0 before)
      | inr same ↦ (omega (arith, same), omega (arith, same), subst (ListsOne items) (sym (at_last p (sym same))) lists)
    ],
    λ is. (let from = is.0 in let to = is.1 in elim (cases_lt p (count + n)) [
      | inl less ↦ IsSubset-insert set (count + n) p ((were p).1 (from, less, is.2))
      | inr far ↦
          let e : count + n ≡ p = omega (arith, to, far) in
          subst (IsMember (slice_set set (count + n) true)) e (IsMember-insert_same set (count + n) room)
    ]),
  )

  -- or it isn't
  pub layout_kept : ¬ ListsOne items (slice_index_or spans n None) → HasLayoutBefore items count spans (n + 1) set
  layout_kept out p = (
    λ has. early p ((were p).0 has),
    λ is. (let from = is.0 in let to = is.1 in elim (cases_lt p (count + n)) [
      | inl less ↦ (were p).1 (from, less, is.2)
      | inr far ↦
          let e : count + n ≡ p = omega (arith, to, far) in
          absurd (out (subst (ListsOne items) (at_last p e) (is.2)))
    ]),
  )
