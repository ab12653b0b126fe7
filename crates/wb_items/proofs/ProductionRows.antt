-- The productions of a nonterminal, as a loop over all productions gathers them.
use Rattle.std.proofs.Common.{◌≡◌, ℕ, ◌+◌, ◌≤◌, List, [], ◌∷◌, ◌++◌, length, Some, sym, ◌∙◌, subst, inl, inr}
use Rattle.std.proofs.Common.{arith, replicate, length-set}
use Rattle.std.specs.Prelude.{slice_get, slice_set, Contains}
use Rattle.std.proofs.lemmas.Option.{slice_get_within}
use Rattle.std.proofs.lemmas.List.{length-replicate}
use Rattle.std.proofs.lemmas.Bool.{cases_eq}
use Rattle.wb_lemmas.proofs.Places.{at_push, push_last}
use Rattle.wb_lemmas.proofs.Members.{contains_at, contains_push, push_contains}
use Rattle.wb_base.specs.declared.symbol.Symbol.{Symbol}
use Rattle.wb_base.specs.Grammar.{GrammarView}
use Rattle.wb_grammar_theory.specs.Productions.{IsProduction}
use Rattle.wb_grammar_theory.proofs.ProductionLemmas.{production_once, production_within}
use Rattle.wb_items.specs.Table.{AreProductionsOf, AreProductions}
use Rattle.wb_items.specs.Inner.Passes.{ProductionsUpTo, RowsUpTo}
use Rattle.wb_items.proofs.SetLemmas.{set_here, set_elsewhere, empty_at}

rules_start : (g : GrammarView) (b : ℕ) → ProductionsUpTo g b [] 0
rules_start g b = record {
  below = λ q k. absurd (omega (arith, k.1));
  sound = λ q k. absurd (omega (arith, k.1));
  complete = λ q right lt rule. absurd (omega arith);
  rising = λ i j p q lt one two. cc;
}

-- one more production, which is of the nonterminal
rules_take : (g : GrammarView) (b : ℕ) (numbers : List ℕ) (n : ℕ) (right : List Symbol) → ProductionsUpTo g b numbers n →
    IsProduction g n b right → ProductionsUpTo g b (numbers ++ n ∷ []) (n + 1)
rules_take g b numbers n right h rule = record {
  below = λ q k. elim (contains_push numbers n q k) [
    | inl old ↦ (let lt = h.below q old in omega (arith, lt))
    | inr last ↦ omega (arith, last)
  ];
  sound = λ q k. elim (contains_push numbers n q k) [
    | inl old ↦ h.sound q old
    | inr last ↦ subst (λ z. (right : List Symbol) × IsProduction g z b right) last (right, rule)
  ];
  complete = λ q other lt is. elim (cases_eq q n) [
    | inl same ↦ subst (Contains (numbers ++ n ∷ [])) (sym same) (contains_at (numbers ++ n ∷ []) n (length numbers) (push_last numbers n))
    | inr differs ↦ push_contains numbers n q (h.complete q other (omega arith) is)
  ];
  rising = λ i j p q lt one two. elim (at_push numbers n p i one) [
    | inl old ↦ elim (at_push numbers n q j two) [
      | inl old' ↦ h.rising i j p q lt old old'
      | inr last ↦ (let below = h.below p (contains_at numbers p i old) in omega (arith, below, last.1))
    ]
    | inr last ↦ elim (at_push numbers n q j two) [
      | inl old' ↦ absurd (omega (arith, last.0, slice_get_within numbers j q old'))
      | inr last' ↦ absurd (omega (arith, last.0, last'.0))
    ]
  ];
}

-- one more production, which isn't
rules_pass : (g : GrammarView) (a b : ℕ) (numbers : List ℕ) (n : ℕ) (right : List Symbol) → ProductionsUpTo g b numbers n →
    IsProduction g n a right → (a ≡ b → ⊥) → ProductionsUpTo g b numbers (n + 1)
rules_pass g a b numbers n right h rule ne = record {
  below = λ q k. (let lt = h.below q k in omega (arith, lt));
  sound = h.sound;
  complete = λ q other lt is. elim (cases_eq q n) [
    | inl same ↦ absurd (ne (production_once g n a b right other rule (subst (λ z. IsProduction g z b other) same is)).0)
    | inr differs ↦ h.complete q other (omega arith) is
  ];
  rising = h.rising;
}

rules_done : (g : GrammarView) (b : ℕ) (numbers : List ℕ) (n : ℕ) → length g.productions ≤ n → ProductionsUpTo g b numbers n →
    AreProductionsOf g b numbers
rules_done g b numbers n past h = record {
  sound = h.sound;
  complete = λ q right rule. h.complete q right (let lt = production_within g q b right rule in omega (arith, lt)) rule;
  rising = h.rising;
}

-- empty rows
pub rows_start : (g : GrammarView) → RowsUpTo g (replicate g.nonterminals []) 0
rows_start g = record {
  len = length-replicate {A = List ℕ} g.nonterminals [];
  each = λ b numbers at. subst (λ z. ProductionsUpTo g b z 0) (sym (empty_at g.nonterminals b numbers at)) (rules_start g b);
}

-- one more production goes to the row of its left side
pub rows_more : (g : GrammarView) (rows : List (List ℕ)) (n left : ℕ) (right : List Symbol) (numbers : List ℕ) →
    IsProduction g n left right → slice_get rows left ≡ Some numbers → RowsUpTo g rows n →
    RowsUpTo g (slice_set rows left (numbers ++ n ∷ [])) (n + 1)
rows_more g rows n left right numbers rule here h = record {
  len = length-set {A = List ℕ} rows left (numbers ++ n ∷ []) ∙ h.len;
  each = λ b other at. elim (cases_eq b left) [
    | inl same ↦
        let e : numbers ++ n ∷ [] ≡ other = set_here rows left (numbers ++ n ∷ []) other (slice_get_within rows left numbers here)
        (subst (λ k. slice_get (slice_set rows left (numbers ++ n ∷ [])) k ≡ Some other) same at) in
        subst (λ z. ProductionsUpTo g b z (n + 1)) e
        (subst (λ k. ProductionsUpTo g k (numbers ++ n ∷ []) (n + 1)) (sym same)
        (rules_take g left numbers n right (h.each left numbers here) rule))
    | inr ne ↦ rules_pass g left b other n right (h.each b other (set_elsewhere rows left b (numbers ++ n ∷ []) other ne at)) rule
        (λ same. ne (sym same))
  ];
}

-- all productions have been gone over
pub rows_done : (g : GrammarView) (rows : List (List ℕ)) (n : ℕ) → length g.productions ≤ n → RowsUpTo g rows n → AreProductions g rows
rows_done g rows n past h = record { len = h.len; each = λ b numbers at. rules_done g b numbers n past (h.each b numbers at) }
