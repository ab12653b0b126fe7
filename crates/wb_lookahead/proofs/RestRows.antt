-- Rests of right sides, one after another.
use Rattle.std.proofs.Common.{◌≡◌, ℕ, ◌+◌, ◌<◌, ◌⊎◌, Bool, false, List, [], ◌∷◌, ◌++◌, length, drop, replicate, Some, sym, ◌∙◌, ap, subst}
use Rattle.std.proofs.Common.{inl, inr, arith, length-append, length-set}
use Rattle.std.specs.Prelude.{◌↔◌, IsTrue, slice_get, slice_set}
use Rattle.std.proofs.lemmas.Grind.{common_steps}
use Rattle.std.proofs.lemmas.List.{get_or-replicate, length-replicate}
use Rattle.std.proofs.lemmas.List.Elements.{All-contains, All-replicate, All-set}
use Rattle.std.proofs.lemmas.Option.{gets, same_Some, slice_get_within}
use Rattle.wb_lemmas.proofs.Places.{at_once, at_push, default_at}
use Rattle.wb_lemmas.proofs.Members.{contains_at}
use Rattle.wb_base.specs.declared.symbol.Symbol.{Symbol}
use Rattle.wb_base.specs.declared.symbol.Symbol.TheVariants.{Nonterminal}
use Rattle.wb_base.specs.Grammar.{GrammarView}
use Rattle.wb_termset.specs.Sets.{IsMember, IsUnion}
use Rattle.wb_termset.proofs.CallerLemmas.{IsEmpty-replicate}
use Rattle.wb_grammar_theory.specs.Productions.{IsProduction}
use Rattle.wb_grammar_theory.specs.Derives.{Derives, IsFirst}
use Rattle.wb_lookahead.specs.declared.first_of.Rest.{Rest}
use Rattle.wb_lookahead.specs.Inner.Rests.{AreRepeats, AreRestsOf, IsOpening, IsRest, Joins, Repeats}

-- one rest more
pub rests_more : (g : GrammarView) (right : List Symbol) (row new : List Rest) (n : ℕ) (rest : Rest) (y : Symbol) → length row ≡ n →
    new ≡ row ++ rest ∷ [] → slice_get right n ≡ Some y → IsOpening g y (drop (n + 1) right) rest →
    ((d : ℕ) (r : Rest) (x : Symbol) → slice_get row d ≡ Some r → slice_get right d ≡ Some x → IsOpening g x (drop (d + 1) right) r) →
    (d : ℕ) (r : Rest) (x : Symbol) → slice_get new d ≡ Some r → slice_get right d ≡ Some x → IsOpening g x (drop (d + 1) right) r
rests_more g right row new n rest y len is here last each d r x at sym_at =
    elim (at_push row rest r d (subst (λ z. slice_get z d ≡ Some r) is at)) [
      | inl old ↦ each d r x old sym_at
      | inr (d_is, r_is) ↦
          let same : y ≡ x = at_once right n y x here (subst (λ k. slice_get right k ≡ Some x) (d_is ∙ len) sym_at) in
          subst (IsOpening g x (drop (d + 1) right)) r_is
          (subst (λ z. IsOpening g z (drop (d + 1) right) rest) same
          (subst (λ k. IsOpening g y (drop (k + 1) right) rest) (sym (d_is ∙ len)) last))
    ]

pub rests_done : (g : GrammarView) (right : List Symbol) (row made : List Rest) → length row ≡ length right →
    ((d : ℕ) (r : Rest) (x : Symbol) → slice_get row d ≡ Some r → slice_get right d ≡ Some x → IsOpening g x (drop (d + 1) right) r) →
    made ≡ row → AreRestsOf g right made
rests_done g right row made len each is = subst (AreRestsOf g right) (sym is) (record { len = len; each = each })

-- what the symbol repeats, joined to what begins the rest
pub joined_opening : (g : GrammarView) (x : Symbol) (w : List Symbol) (repeats : List (List Bool)) (old new : Rest) → IsRest g w old →
    AreRepeats g repeats → Joins x repeats old new → IsOpening g x w new
joined_opening g x w repeats old new is are joined = record {
  len = joined.len ∙ is.len;
  first = λ u begins. joined.keeps u ((is.first u).1 begins);
  sound = λ u has. elim (joined.only u has) [
    | inl here ↦ inl ((is.first u).0 here)
    | inr (b, set, symbol, at, member) ↦ inr (b, symbol, are.sound b u set at member)
  ];
  empty = subst (λ z. IsTrue z ↔ Derives g w []) (sym joined.empty) is.empty;
}

-- sets without members repeat nothing
pub repeats_start : (g : GrammarView) (sets : List (List Bool)) → sets ≡ replicate g.nonterminals (replicate (g.terminals + 1) false) →
    AreRepeats g sets
repeats_start g sets is = subst (AreRepeats g) (sym is) (record {
  len = length-replicate {A = List Bool} g.nonterminals (replicate (g.terminals + 1) false);
  widths = All-replicate (λ set. length set ≡ g.terminals + 1) g.nonterminals (replicate (g.terminals + 1) false)
      (length-replicate (g.terminals + 1) false);
  sound = λ b u set at has.
      let lt : b < g.nonterminals = subst (λ n. b < n) (length-replicate {A = List Bool} g.nonterminals (replicate (g.terminals + 1) false))
      (slice_get_within (replicate g.nonterminals (replicate (g.terminals + 1) false)) b set at) in
      let e : set ≡ replicate (g.terminals + 1) false =
      sym (default_at (replicate g.nonterminals (replicate (g.terminals + 1) false)) b [] set at) ∙
      get_or-replicate {A = List Bool} g.nonterminals b (replicate (g.terminals + 1) false) [] lt in
      absurd (IsEmpty-replicate (g.terminals + 1) u (subst (λ z. IsMember z u) e has));
})

-- what one production repeats, joined to the set of its left side
pub repeats_more : (g : GrammarView) (sets : List (List Bool)) (q b : ℕ) (right : List Symbol) (old set union : List Bool) →
    AreRepeats g sets →
    IsProduction g q b right → slice_get right 0 ≡ Some (Nonterminal b) → slice_get sets b ≡ Some old →
    ((u : ℕ) → IsMember set u → IsFirst g (drop 1 right) u) → IsUnion old set union → AreRepeats g (slice_set sets b union)
repeats_more g sets q b right old set union are rule first at begins joined = record {
  len = length-set sets b union ∙ are.len;
  widths = All-set (λ (s : List Bool). length s ≡ g.terminals + 1) sets b union
      (joined.len ∙ All-contains (λ (s : List Bool). length s ≡ g.terminals + 1) sets old are.widths
      (contains_at sets old b at)) are.widths;
  sound = λ a u row row_at has. elim (row_cases a row row_at) [
    | inl (same, is) ↦ elim ((joined.each u).0 (subst (λ z. IsMember z u) is has)) [
      | inl before ↦ subst (λ z. Repeats g z u) (sym same) (are.sound b u old at before)
      | inr new ↦ subst (λ z. Repeats g z u) (sym same)
          (record {
            q = q;
            rest = drop 1 right;
            production = subst (IsProduction g q b) (head_first right first) rule;
            first =
                begins u new;
          })
    ]
    | inr before ↦ are.sound a u row before has
  ];
}
  where
    row_cases : (a : ℕ) (row : List Bool) → slice_get (slice_set sets b union) a ≡ Some row →
        ((a ≡ b) × (row ≡ union)) ⊎ (slice_get sets a ≡ Some row)
    row_cases a row row_at = grind (arith, gets, common_steps)

    head_first : (w : List Symbol) → slice_get w 0 ≡ Some (Nonterminal b) → w ≡ Nonterminal b ∷ drop 1 w
    head_first [] e = cc
    head_first (y ∷ w) e = ap (λ z. z ∷ w) (same_Some y (Nonterminal b) e)

-- the rests of one production more
pub rows_more : (g : GrammarView) (rows new : List (List Rest)) (n : ℕ) (row : List Rest) → length rows ≡ n → new ≡ rows ++ row ∷ [] →
    ((a : ℕ) (right : List Symbol) → IsProduction g n a right → AreRestsOf g right row) →
    ((p a : ℕ) (right : List Symbol) (r : List Rest) → slice_get rows p ≡ Some r → IsProduction g p a right → AreRestsOf g right r) →
    (p a : ℕ) (right : List Symbol) (r : List Rest) → slice_get new p ≡ Some r → IsProduction g p a right → AreRestsOf g right r
rows_more g rows new n row len is last each p a right r at rule = elim (at_push rows row r p (subst (λ z. slice_get z p ≡ Some r) is at)) [
  | inl old ↦ each p a right r old rule
  | inr (p_is, r_is) ↦ subst (AreRestsOf g right) r_is (last a right (subst (λ k. IsProduction g k a right) (p_is ∙ len) rule))
]

pub length_more : {A : Type 0} (xs new : List A) (x : A) (n : ℕ) → length xs ≡ n → new ≡ xs ++ x ∷ [] → length new ≡ n + 1
length_more xs new x n len is = (let e = ap length is in let f = length-append xs (x ∷ []) in omega (arith, e, f, len))
