-- The productions of a union: the host's, those of each extension in their places, and those of holes.
use Rattle.std.proofs.Common.{◌≡◌, ◌+◌, ◌∙◌, ◌∷◌, ◌++◌, [], ℕ, zero, suc, List, Some, drop, length, map, slice_get, refl, ap, arith}
use Rattle.std.specs.Prelude.{option_map}
use Rattle.std.proofs.lemmas.List.{length-append, length-drop, length-map}
use Rattle.std.proofs.lemmas.Option.{same_Some, slice_get-map}
use Rattle.wb_base.specs.declared.symbol.Symbol.TheVariants.{Terminal}
use Rattle.wb_base.specs.Grammar.{GrammarView, Production}
use Rattle.wb_lemmas.proofs.Places.{append_after, append_keeps, nothing_at}
use Rattle.wb_marking_holes.specs.Holes.{hole_productions}
use Rattle.wb_compose_theory_grammar.specs.Places.{count_before, total_of}
use Rattle.wb_compose_theory_grammar.specs.Unions.{added_nonterminals, added_productions, added_terminals, lifted_by, own_productions}
use Rattle.wb_compose_theory_grammar.specs.Unions.{productions_after, renamed_production}

-- a place in a list without its first ones
pub drop_at : {X : Type 0} (n i : ℕ) (xs : List X) → slice_get (drop n xs) i ≡ slice_get xs (n + i)
drop_at zero i xs = let is : i ≡ 0 + i = omega arith in ap (slice_get xs) is
drop_at (suc n) i [] = refl
drop_at (suc n) i (x ∷ xs) = drop_at n i xs ∙ (let is : suc (n + i) ≡ suc n + i = omega arith in ap (slice_get (x ∷ xs)) is)

-- so many productions are an extension's own
pub own_len : (host g : GrammarView) → length (own_productions host g) ≡ added_productions host g
own_len host g = length-drop (length host.productions) g.productions

-- a place of a joined list that is past its first part
after : {X : Type 0} (xs ys : List X) (n i x : ℕ) → length xs ≡ n → x ≡ n + i → slice_get (xs ++ ys) x ≡ slice_get ys i
after xs ys n i x len is =
    let at : x ≡ length xs + i = omega (arith, len, is) in ap (slice_get (xs ++ ys)) at ∙ append_after xs ys i

-- the production of an extension in the union
pub extension_production : (host : GrammarView) (t a : ℕ) (gs : List GrammarView) (k : ℕ) (g : GrammarView) (i : ℕ) (rule : Production)
    (x : ℕ)
    → slice_get gs k ≡ Some g → slice_get (own_productions host g) i ≡ Some rule
    → x ≡ count_before (map (added_productions host) gs) k + i
    → slice_get (productions_after host t a gs) x
    ≡ Some (renamed_production (lifted_by host (t + count_before (map (added_terminals host) gs) k)
    (a + count_before (map (added_nonterminals host) gs) k) 0) rule)
extension_production host t a [] k g i rule x at here is = absurd (nothing_at g k at)
extension_production host t a (first ∷ gs) zero g i rule x at here is =
    let same : first ≡ g = same_Some first g at in
    let x_is : x ≡ i = omega (arith, is) in
    let mine : slice_get (own_productions host first) x ≡ Some rule =
    ap (slice_get (own_productions host first)) x_is ∙ (ap (λ z. slice_get (own_productions host z) i) same ∙ here) in
    let t_is : t ≡ t + 0 = omega arith in
    let a_is : a ≡ a + 0 = omega arith in
    append_keeps (map (renamed_production (lifted_by host t a 0)) (own_productions host first))
    (productions_after host (t + added_terminals host first) (a + added_nonterminals host first) gs) x
    (renamed_production (lifted_by host (t + 0) (a + 0) 0) rule)
    (slice_get-map (renamed_production (lifted_by host t a 0)) (own_productions host first) x ∙
    (ap (option_map (renamed_production (lifted_by host t a 0))) mine ∙
    (λ z. Some (renamed_production (lifted_by host (t_is z) (a_is z) 0) rule))))
extension_production host t a (first ∷ gs) (suc k) g i rule x at here is =
    let len : length (map (renamed_production (lifted_by host t a 0)) (own_productions host first)) ≡ added_productions host first =
    length-map (own_productions host first) (renamed_production (lifted_by host t a 0)) ∙ own_len host first in
    let t_is : (t + added_terminals host first) + count_before (map (added_terminals host) gs) k
    ≡ t + (added_terminals host first + count_before (map (added_terminals host) gs) k) = omega arith in
    let a_is : (a + added_nonterminals host first) + count_before (map (added_nonterminals host) gs) k
    ≡ a + (added_nonterminals host first + count_before (map (added_nonterminals host) gs) k) = omega arith in
    let x_is : x ≡ added_productions host first + (count_before (map (added_productions host) gs) k + i) = omega (arith, is) in
    after (map (renamed_production (lifted_by host t a 0)) (own_productions host first))
    (productions_after host (t + added_terminals host first) (a + added_nonterminals host first) gs)
    (added_productions host first) (count_before (map (added_productions host) gs) k + i) x len x_is ∙
    (extension_production host (t + added_terminals host first) (a + added_nonterminals host first) gs k g i rule
    (count_before (map (added_productions host) gs) k + i) at here refl ∙
    (λ z. Some (renamed_production (lifted_by host (t_is z) (a_is z) 0) rule)))

-- so many productions extensions have
pub productions_len : (host : GrammarView) (t a : ℕ) (gs : List GrammarView) →
    length (productions_after host t a gs) ≡ total_of (map (added_productions host) gs)
productions_len host t a [] = refl
productions_len host t a (g ∷ gs) =
    let own = length-map (own_productions host g) (renamed_production (lifted_by host t a 0)) ∙ own_len host g in
    let rest = productions_len host (t + added_terminals host g) (a + added_nonterminals host g) gs in
    length-append (map (renamed_production (lifted_by host t a 0)) (own_productions host g))
    (productions_after host (t + added_terminals host g) (a + added_nonterminals host g) gs) ∙
    (λ z. own z + rest z)

-- the production of a hole
pub hole_production : (next : ℕ) (xs : List ℕ) (j a : ℕ) → slice_get xs j ≡ Some a →
    slice_get (hole_productions next xs) j ≡ Some ((a, Terminal (next + j) ∷ []))
hole_production next [] j a at = absurd (nothing_at a j at)
hole_production next (x ∷ xs) zero a at =
    let same : x ≡ a = same_Some x a at in
    let is : next ≡ next + 0 = omega arith in
    λ z. Some ((same z, Terminal (is z) ∷ []))
hole_production next (x ∷ xs) (suc j) a at =
    let is : suc next + j ≡ next + suc j = omega arith in
    hole_production (suc next) xs j a at ∙ (λ z. Some ((a, Terminal (is z) ∷ [])))
