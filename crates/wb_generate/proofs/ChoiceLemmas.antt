-- Choosing a production: some may be chosen, and the one at a place is found by counting.
use Rattle.std.proofs.Common.{◌≡◌, ℕ, ◌+◌, zero, suc, ◌<◌, ◌≤◌, min, Bool, true, false, cond, ◌&&◌, List, [], ◌∷◌}
use Rattle.std.proofs.Common.{length, take, refl, sym, ◌∙◌, ap, subst, inl, inr, arith, Some}
use Rattle.std.specs.Prelude.{slice_get, slice_index, nat_le, nat_lt, ◌==◌}
use Rattle.std.specs.List.{filter}
use Rattle.std.proofs.Math.Nat.{min-eq_left, min-eq_right}
use Rattle.std.proofs.lemmas.List.{get_or_past}
use Rattle.std.proofs.lemmas.Option.{slice_get_within}
use Rattle.std.proofs.lemmas.Bool.{true≢false, cases_lt, leb-true, le-leb, lt-leb, eqb-true, eq-eqb, lt-ltb}
use Rattle.wb_base.specs.declared.symbol.Symbol.{Symbol}
use Rattle.wb_base.specs.declared.symbol.Symbol.TheVariants.{Nonterminal}
use Rattle.wb_base.specs.Grammar.{GrammarView, Production}
use Rattle.wb_grammar_theory.specs.Productions.{IsProduction}
use Rattle.wb_grammar_theory.specs.Trees.{Forest, nothing, leaf, node, symbols, IsDerived}
use Rattle.wb_scan_theory.specs.Bounds.{count}
use Rattle.wb_generate.specs.Counts.{AreLeast, total}
use Rattle.wb_generate.specs.Draws.{admits, candidates, wants, IsChosen}

-- an element that passes the test is among those that do, after as many as pass before it
pub filter_at : {X : Type 0} (test : X → Bool) (xs : List X) (i : ℕ) (x : X) → slice_get xs i ≡ Some x → test x ≡ true →
    slice_get (filter test xs) (length (filter test (take i xs))) ≡ Some x
filter_at test [] i x e t = cc
filter_at test (y ∷ xs) zero x e t =
    let same : y ≡ x = cc in
    let passes : test y ≡ true = ap test same ∙ t in
    ap (λ b. slice_get (cond b (y ∷ filter test xs) (filter test xs)) 0) passes ∙ e
filter_at test (y ∷ xs) (suc i) x e t = by_test (test y) (filter_at test xs i x e t)
  where
    by_test : (b : Bool) → slice_get (filter test xs) (length (filter test (take i xs))) ≡ Some x →
        slice_get (cond b (y ∷ filter test xs) (filter test xs))
        (length (cond b (y ∷ filter test (take i xs)) (filter test (take i xs)))) ≡ Some x
    by_test true r = r
    by_test false r = r

-- one that is among those that pass is in the list, and passes
pub filter_from : (test : Production → Bool) (xs : List Production) (k : ℕ) (x : Production) → slice_get (filter test xs) k ≡ Some x →
    (p : ℕ) × (slice_get xs p ≡ Some x) × (test x ≡ true)
filter_from test [] k x e = cc
filter_from test (y ∷ xs) k x e = by_test (test y) (λ j h. filter_from test xs j x h) refl k e
  where
    by_test : (b : Bool) → ((j : ℕ) → slice_get (filter test xs) j ≡ Some x → (p : ℕ) × (slice_get xs p ≡ Some x) × (test x ≡ true)) →
        test y ≡ b → (j : ℕ) → slice_get (cond b (y ∷ filter test xs) (filter test xs)) j ≡ Some x →
        (p : ℕ) × (slice_get (y ∷ xs) p ≡ Some x) × (test x ≡ true)
    by_test true f t zero h = (let same : y ≡ x = cc in (0, h, ap test (sym same) ∙ t))
    by_test true f t (suc j) h = (let r = f j h in (suc r.0, r.1, r.2))
    by_test false f t j h = (let r = f j h in (suc r.0, r.1, r.2))

both_left : (a b : Bool) → (a && b) ≡ true → a ≡ true
both_left true b e = refl
both_left false b e = absurd (true≢false (sym e))

both_right : (a b : Bool) → (a && b) ≡ true → b ≡ true
both_right true b e = e
both_right false b e = absurd (true≢false (sym e))

-- what a test that was passed says
pub admitted : (counts : List ℕ) (a spare : ℕ) (grow : Bool) (rule : Production) → admits counts a spare grow rule ≡ true →
    (rule.0 ≡ a) × (total counts rule.1 ≤ spare + slice_index counts a)
admitted counts a spare grow rule e = (
  eqb-true rule.0 a (both_left (rule.0 == a) _ e),
  leb-true (total counts rule.1) (spare + slice_index counts a)
      (both_left (nat_le (total counts rule.1) (spare + slice_index counts a)) _ (both_right (rule.0 == a) _ e)),
)

-- a production that a number chooses is one of the grammar, with few enough leaves
pub chosen_rule : (g : GrammarView) (counts : List ℕ) (a spare r : ℕ) (right : List Symbol) → IsChosen g counts a spare r right →
    (p : ℕ) × IsProduction g p a right × (total counts right ≤ spare + slice_index counts a)
chosen_rule g counts a spare r right chosen =
    let grow : Bool = wants g counts a spare r in
    let f = filter_from (admits counts a spare grow) g.productions _ (a, right) chosen in
    (f.0, f.1, (admitted counts a spare grow (a, right) f.2).1)

-- trees have no fewer leaves than the counts say
pub least_forest : (g : GrammarView) (limit : ℕ) (counts : List ℕ) → AreLeast g limit counts → (f : Forest) → IsDerived g f →
    total counts (symbols f) ≤ count f
least_forest g limit counts least nothing d = omega arith
least_forest g limit counts least (leaf t l r) d =
    let i : total counts (symbols r) ≤ count r = least_forest g limit counts least r d in omega arith
least_forest g limit counts least (node p a k r) (rule, dk, dr) =
    let j : total counts (symbols r) ≤ count r = least_forest g limit counts least r dr in
    let h : slice_index counts a ≤ count k + 0 = elim (cases_lt a g.nonterminals) [
      | inl lt ↦ (least.each a lt).lower (node p a k nothing) (record { derived = (rule, dk, tt); root = refl })
      | inr past ↦ (let e : slice_index counts a ≡ 0 = get_or_past counts a 0 (omega (arith, least.len)) in omega arith)
    ] in
    omega arith

-- a production of the nonterminal that has no more leaves than it
pub record HasRule (g : GrammarView) (counts : List ℕ) (a : ℕ) : Type 0 where
  pub p : ℕ
  pub right : List Symbol
  pub rule : IsProduction g p a right
  pub low : total counts right ≤ slice_index counts a

rule_of : (g : GrammarView) (limit : ℕ) (counts : List ℕ) (a : ℕ) → AreLeast g limit counts → (tree : Forest) → IsDerived g tree →
    symbols tree ≡ Nonterminal a ∷ [] → count tree ≡ slice_index counts a → HasRule g counts a
rule_of g limit counts a least nothing d root many = cc
rule_of g limit counts a least (leaf t l r) d root many = cc
rule_of g limit counts a least (node p b k r) (rule, dk, dr) root many =
    let same : b ≡ a = (let e : Nonterminal b ≡ Nonterminal a = cc in cc) in
    let h : total counts (symbols k) ≤ count k = least_forest g limit counts least k dk in
    record { p = p; right = symbols k; rule = subst (λ z. IsProduction g p z (symbols k)) same rule; low = omega arith }

pub has_rule : (g : GrammarView) (limit : ℕ) (counts : List ℕ) (a : ℕ) → AreLeast g limit counts → a < g.nonterminals →
    slice_index counts a < limit → HasRule g counts a
has_rule g limit counts a least lt less =
    elim (least.each a lt).reached [
      | inl e ↦ absurd (omega arith)
      | inr t ↦ rule_of g limit counts a least t.tree t.is.derived t.is.root t.many
    ]

all_true : (a b : Bool) → a ≡ true → b ≡ true → (a && b) ≡ true
all_true true b e f = f
all_true false b e f = absurd (true≢false (sym e))

-- so some production may be chosen
pub some_candidate : (g : GrammarView) (limit : ℕ) (counts : List ℕ) (a spare : ℕ) → AreLeast g limit counts → a < g.nonterminals →
    slice_index counts a < limit → 0 < length (candidates g counts a spare false)
some_candidate g limit counts a spare least lt less =
    let r = has_rule g limit counts a least lt less in
    let low : total counts r.right ≤ slice_index counts a = r.low in
    let one : nat_le (total counts r.right) (spare + slice_index counts a) ≡ true =
    le-leb (total counts r.right) (spare + slice_index counts a) (omega arith) in
    let passes : admits counts a spare false (a, r.right) ≡ true = all_true (a == a) _ (eq-eqb a a refl) (all_true _ _ one refl) in
    let at = filter_at (admits counts a spare false) g.productions r.p (a, r.right) r.rule passes in
    let within = slice_get_within (candidates g counts a spare false) _ (a, r.right) at in
    omega arith

-- a test on a count that stops at a limit is one on the count itself
pub le_stopped : (t limit m : ℕ) → m < limit → nat_le (min t limit) m ≡ nat_le t m
le_stopped t limit m lt =
    elim (cases_lt t limit) [
      | inl below ↦ ap (λ z. nat_le z m) (min-eq_left (omega arith))
      | inr past ↦ ap (λ z. nat_le z m) (min-eq_right (omega arith)) ∙ lt-leb limit m lt ∙ sym (lt-leb t m (omega arith))
    ]

pub lt_stopped : (t limit m : ℕ) → m < limit → nat_lt m (min t limit) ≡ nat_lt m t
lt_stopped t limit m lt =
    elim (cases_lt t limit) [
      | inl below ↦ ap (λ z. nat_lt m z) (min-eq_left (omega arith))
      | inr past ↦ (let e : nat_lt m limit ≡ true = lt-ltb m limit lt in let f : nat_lt m t ≡ true = lt-ltb m t (omega arith) in
          ap (λ z. nat_lt m z) (min-eq_right (omega arith)) ∙ e ∙ sym f)
    ]

pub chosen_low : (g : GrammarView) (counts : List ℕ) (a spare r : ℕ) (right : List Symbol) → IsChosen g counts a spare r right →
    total counts right ≤ spare + slice_index counts a
chosen_low g counts a spare r right chosen = (chosen_rule g counts a spare r right chosen).2
