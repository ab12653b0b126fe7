-- Groups of productions, one production or one symbol more at a time.
use Rattle.std.proofs.Common.{◌≡◌, ℕ, ◌+◌, zero, suc, ◌<◌, ◌≤◌, Bool, true, false, cond, List, [], ◌∷◌, ◌++◌, length, get_or, set}
use Rattle.std.proofs.Common.{replicate, take}
use Rattle.std.proofs.Common.{All, Contains, Some, refl, sym, ◌∙◌, ap, subst, inl, inr, arith, get_or-set_same, get_or-set_other}
use Rattle.std.proofs.Common.{length-set}
use Rattle.std.specs.Prelude.{◌==◌, IfSome, slice_get}
use Rattle.std.proofs.lemmas.Bool.{cases_eq, eq-eqb, eqb-true}
use Rattle.std.proofs.lemmas.List.{append-nil, length-replicate, take_all, take_more}
use Rattle.std.proofs.lemmas.List.Elements.{All-get_or}
use Rattle.std.proofs.lemmas.Option.{slice_get-get_or}
use Rattle.wb_base.specs.declared.symbol.Symbol.{Symbol}
use Rattle.wb_base.specs.declared.symbol.Symbol.TheVariants.{Terminal, Nonterminal}
use Rattle.wb_base.specs.Grammar.{GrammarView, Production, IsSymbolBelow}
use Rattle.wb_grammar_theory.specs.Productions.{IsProduction}
use Rattle.wb_grammar_theory.proofs.ProductionLemmas.{production_once}
use Rattle.wb_lemmas.proofs.Members.{contains_cases, contains_one, contains_push, nothing_in, push_contains, push_contains_last}
use Rattle.wb_lemmas.proofs.Elements.{all_weaker}
use Rattle.wb_lemmas.proofs.Booleans.{is_false}
use Rattle.wb_generate.specs.Inner.Groups.{AddsUses, AreLeftGroups, AreByLeft, AreUsesBefore, AreUses, IsBelow, group_at, numbers_of}

-- an empty group at each place
pub empty_group : (n a : ℕ) → group_at (replicate n []) a ≡ []
empty_group zero a = refl
empty_group (suc n) zero = refl
empty_group (suc n) (suc a) = empty_group n a

suc_one : (i : ℕ) → suc i + 1 ≡ suc (i + 1)
suc_one i = omega arith

-- one production more
pub numbers_more : (a from : ℕ) (xs : List Production) (i : ℕ) (d : Production) → i < length xs →
    numbers_of a from (take (i + 1) xs) ≡ numbers_of a from (take i xs) ++ cond ((get_or xs i d).0 == a) ((from + i) ∷ []) []
numbers_more a from [] i d lt = absurd (omega arith)
numbers_more a from (x ∷ xs) zero d lt = by_test (x.0 == a)
  where
    by_test : (b : Bool) → cond b (from ∷ []) [] ≡ [] ++ cond b ((from + 0) ∷ []) []
    by_test true = ap (λ z. z ∷ []) (omega arith)
    by_test false = refl
numbers_more a from (x ∷ xs) (suc i) d lt =
    ap (λ n. numbers_of a from (take n (x ∷ xs))) (suc_one i)
    ∙ after_first x.0 (numbers_more a (suc from) xs i d (omega (arith, lt))
    ∙ ap (λ z. numbers_of a (suc from) (take i xs) ++ cond ((get_or xs i d).0 == a) (z ∷ []) []) (omega arith))
  where
    after_first : (left : ℕ) → numbers_of a (suc from) (take (i + 1) xs) ≡
        numbers_of a (suc from) (take i xs) ++ cond ((get_or xs i d).0 == a) ((from + suc i) ∷ []) [] →
        cond (left == a) (from ∷ numbers_of a (suc from) (take (i + 1) xs)) (numbers_of a (suc from) (take (i + 1) xs)) ≡
        cond (left == a) (from ∷ numbers_of a (suc from) (take i xs)) (numbers_of a (suc from) (take i xs)) ++
        cond ((get_or xs i d).0 == a) ((from + suc i) ∷ []) []
    after_first left rest = by_test (left == a)
      where
        by_test : (b : Bool) → cond b (from ∷ numbers_of a (suc from) (take (i + 1) xs)) (numbers_of a (suc from) (take (i + 1) xs)) ≡
            cond b (from ∷ numbers_of a (suc from) (take i xs)) (numbers_of a (suc from) (take i xs)) ++
            cond ((get_or xs i d).0 == a) ((from + suc i) ∷ []) []
        by_test true = ap (λ z. from ∷ z) rest
        by_test false = rest

-- a production with another left side isn't added
skipped : (b a : ℕ) (xs ys : List ℕ) → (b ≡ a → ⊥) → xs ++ cond (b == a) ys [] ≡ xs
skipped b a xs ys other =
    ap (λ z. xs ++ cond z ys []) (is_false (b == a) (λ e. other (eqb-true b a e))) ∙ append-nil xs

added : (b a : ℕ) (xs ys : List ℕ) → b ≡ a → xs ++ cond (b == a) ys [] ≡ xs ++ ys
added b a xs ys same = ap (λ z. xs ++ cond z ys []) (eq-eqb b a same)

same_nonterminal : (a b : ℕ) → Nonterminal a ≡ Nonterminal b → a ≡ b
same_nonterminal a b e = cc

-- groups by left sides
pub left_none : (g : GrammarView) → AreLeftGroups g [] (replicate g.nonterminals [])
left_none g = record { len = length-replicate g.nonterminals []; each = λ a lt. empty_group g.nonterminals a }

pub left_more : (g : GrammarView) (i left : ℕ) (groups new : List (List ℕ)) (d : Production) → AreLeftGroups g (take i g.productions) groups →
    i < length g.productions → left ≡ (get_or g.productions i d).0 → left < g.nonterminals →
    new ≡ set groups left (group_at groups left ++ i ∷ []) → AreLeftGroups g (take (i + 1) g.productions) new
left_more g i left groups new d are lt is below made =
    let longer : List ℕ = group_at groups left ++ i ∷ [] in
    let own : ℕ = (get_or g.productions i d).0 in
    let none : i ≡ 0 + i = omega arith in
    record {
      len = ap length made ∙ (length-set groups left longer ∙ are.len);
      each = λ a in_range. ap (λ z. group_at z a) made ∙ elim (cases_eq a left) [
        | inl same ↦
            ap (group_at (set groups left longer)) same ∙
            (get_or-set_same groups left longer [] (omega (arith, below, are.len)) ∙
            (ap (λ z. z ++ i ∷ []) (ap (group_at groups) (sym same) ∙ are.each a in_range) ∙
            (ap (λ n. numbers_of a 0 (take i g.productions) ++ n ∷ []) none ∙
            sym (added own a (numbers_of a 0 (take i g.productions)) ((0 + i) ∷ []) (sym is ∙ sym same)) ∙
            sym (numbers_more a 0 g.productions i d lt))))
        | inr other ↦
            get_or-set_other groups left a longer [] other ∙
            (are.each a in_range ∙ (sym (skipped own a (numbers_of a 0 (take i g.productions)) ((0 + i) ∷ []) (λ e. other (sym (is ∙ e)))) ∙
            sym (numbers_more a 0 g.productions i d lt)))
      ];
    }

pub left_all : (g : GrammarView) (i : ℕ) (groups : List (List ℕ)) → length g.productions ≤ i → AreLeftGroups g (take i g.productions) groups →
    AreByLeft g groups
left_all g i groups past are = subst (λ z. AreLeftGroups g z groups) (take_all i g.productions past) are

-- each number of a group is that of a production
pub numbers_below : (a from : ℕ) (xs : List Production) (p : ℕ) → Contains (numbers_of a from xs) p → p < from + length xs
numbers_below a from [] p has = absurd (nothing_in p has)
numbers_below a from (x ∷ xs) p has = by_test (x.0 == a) (λ later. numbers_below a (suc from) xs p later) has
  where
    by_test : (b : Bool) → (Contains (numbers_of a (suc from) xs) p → p < suc from + length xs) →
        Contains (cond b (from ∷ numbers_of a (suc from) xs) (numbers_of a (suc from) xs)) p → p < from + suc (length xs)
    by_test false rest later = let below : p < suc from + length xs = rest later in omega (arith, below)
    by_test true rest some = elim (contains_cases from p (numbers_of a (suc from) xs) some) [
      | inl same ↦ omega (arith, same)
      | inr later ↦ let below : p < suc from + length xs = rest later in omega (arith, below)
    ]

-- a production in the groups of its right side's nonterminals, one symbol more at a time
pub uses_none : (p : ℕ) (groups : List (List ℕ)) → AddsUses [] p groups groups
uses_none p groups = record {
  len = refl;
  keeps = λ a q has. has;
  has = λ a within. absurd (nothing_in (Nonterminal a) within);
  only = λ a q has. inl has;
}

-- a terminal has no group
pub uses_terminal : (x : Symbol) (t p : ℕ) (groups : List (List ℕ)) → x ≡ Terminal t → AddsUses (x ∷ []) p groups groups
uses_terminal x t p groups is = record {
  len = refl;
  keeps = λ a q has. has;
  has = λ a within. absurd (differ a (sym is ∙ sym ((contains_one x (Nonterminal a)).0 within)));
  only = λ a q has. inl has;
}
  where
    differ : (a : ℕ) → Terminal t ≡ Nonterminal a → ⊥
    differ a e = absurd (cc)

-- a nonterminal has one
pub uses_nonterminal : (x : Symbol) (b p : ℕ) (old new : List (List ℕ)) → x ≡ Nonterminal b → b < length old →
    new ≡ set old b (group_at old b ++ p ∷ []) → AddsUses (x ∷ []) p old new
uses_nonterminal x b p old new named below made =
    let longer : List ℕ = group_at old b ++ p ∷ [] in
    let here : group_at new b ≡ longer = ap (λ z. group_at z b) made ∙ get_or-set_same old b longer [] below in
    let there : (a : ℕ) → (a ≡ b → ⊥) → group_at new a ≡ group_at old a =
    λ a other. ap (λ z. group_at z a) made ∙ get_or-set_other old b a longer [] other in
    record {
      len = ap length made ∙ length-set old b longer;
      keeps = λ a q has. elim (cases_eq a b) [
        | inl same ↦ subst (λ z. Contains z q) (sym (ap (group_at new) same ∙ here))
            (push_contains (group_at old b) p q (subst (λ z. Contains (group_at old z) q) same has))
        | inr other ↦ subst (λ z. Contains z q) (sym (there a other)) has
      ];
      has = λ a within.
          let is_b : b ≡ a = same_nonterminal b a (sym named ∙ sym ((contains_one x (Nonterminal a)).0 within)) in
          subst (λ z. Contains (group_at new z) p) is_b (subst (λ z. Contains z p) (sym here) (push_contains_last (group_at old b) p));
      only = λ a q has. elim (cases_eq a b) [
        | inl same ↦ elim (contains_push (group_at old b) p q (subst (λ z. Contains z q) (ap (group_at new) same ∙ here) has)) [
          | inl before ↦ inl (subst (λ z. Contains (group_at old z) q) (sym same) before)
          | inr is_p ↦ inr (sym is_p)
        ]
        | inr other ↦ inl (subst (λ z. Contains z q) (there a other) has)
      ];
    }

pub uses_more : (right : List Symbol) (i p : ℕ) (d : Symbol) (old mid new : List (List ℕ)) → i < length right →
    AddsUses (take i right) p old mid → AddsUses (get_or right i d ∷ []) p mid new → AddsUses (take (i + 1) right) p old new
uses_more right i p d old mid new lt one two = record {
  len = two.len ∙ one.len;
  keeps = λ a q has. two.keeps a q (one.keeps a q has);
  has = λ a within. elim (contains_push (take i right) (get_or right i d) (Nonterminal a)
      (subst (λ z. Contains z (Nonterminal a)) (take_more right i d lt) within)) [
        | inl before ↦ two.keeps a p (one.has a before)
        | inr same ↦ two.has a ((contains_one (get_or right i d) (Nonterminal a)).1 (sym same))
      ];
  only = λ a q has. elim (two.only a q has) [
    | inl before ↦ one.only a q before
    | inr is_p ↦ inr is_p
  ];
}

pub uses_all : (right : List Symbol) (i p : ℕ) (old new : List (List ℕ)) → length right ≤ i → AddsUses (take i right) p old new →
    AddsUses right p old new
uses_all right i p old new past adds = subst (λ z. AddsUses z p old new) (take_all i right past) adds

-- the symbol at a place is in range
pub below_at : (n m : ℕ) (right : List Symbol) (i : ℕ) (d : Symbol) → m ≡ n → i < length right → All (IsBelow n) right →
    IsBelow m (get_or right i d)
below_at n m right i d same lt all = subst (λ z. IsBelow z (get_or right i d)) (sym same) (All-get_or (IsBelow n) right i d lt all)

-- all productions before a number
pub before_none : (g : GrammarView) → AreUsesBefore g 0 (replicate g.nonterminals [])
before_none g = record {
  len = length-replicate g.nonterminals [];
  has = λ a p left right lt rule within. absurd (omega (arith, lt));
  only = λ a p has. absurd (nothing_in p (subst (λ z. Contains z p) (empty_group g.nonterminals a) has));
}

pub before_more : (g : GrammarView) (i left : ℕ) (right : List Symbol) (groups new : List (List ℕ)) → AreUsesBefore g i groups →
    IsProduction g i left right → AddsUses right i groups new → AreUsesBefore g (i + 1) new
before_more g i left right groups new are rule adds = record {
  len = adds.len ∙ are.len;
  has = λ a p b other lt at within. elim (cases_eq p i) [
    | inl same ↦
        let here : IsProduction g i b other = subst (λ z. IsProduction g z b other) same at in
        let same_right : right ≡ other = (production_once g i left b right other rule here).1 in
        subst (λ z. Contains (group_at new a) z) (sym same) (adds.has a (subst (λ z. Contains z (Nonterminal a)) (sym same_right) within))
    | inr differ ↦ adds.keeps a p (are.has a p b other (omega (arith, lt, differ)) at within)
  ];
  only = λ a p has. elim (adds.only a p has) [
    | inl before ↦ let lt : p < i = are.only a p before in omega arith
    | inr same ↦ omega (arith, same)
  ];
}

pub before_all : (g : GrammarView) (i : ℕ) (groups : List (List ℕ)) → length g.productions ≤ i → i ≤ length g.productions →
    AreUsesBefore g i groups → AreUses g groups
before_all g i groups past within are =
    let same : i ≡ length g.productions = omega arith in subst (λ z. AreUsesBefore g z groups) same are

-- the symbols of a production are in range
pub below_all : (g : GrammarView) (n : ℕ) (right : List Symbol) → n ≡ g.nonterminals → All (IsSymbolBelow g.terminals g.nonterminals) right →
    All (IsBelow n) right
below_all g n right same all =
    all_weaker (IsSymbolBelow g.terminals g.nonterminals) (IsBelow n) right (λ x below. each x below) all
  where
    each : (x : Symbol) → IsSymbolBelow g.terminals g.nonterminals x → IsBelow n x
    each (Terminal t) below = tt
    each (Nonterminal a) below = omega (arith, same, below)

-- a left side and a right side as they are read
pub left_read : (g : GrammarView) (p left : ℕ) → p < length g.productions → IfSome (slice_get g.productions p) (λ rule. left ≡ rule.0) →
    left ≡ (get_or g.productions p (0, [])).0
left_read g p left lt is = subst (λ o. IfSome o (λ rule. left ≡ rule.0)) (slice_get-get_or g.productions p (0, []) lt) is

pub rule_here : (g : GrammarView) (p : ℕ) (right : List Symbol) → p < length g.productions →
    IfSome (slice_get g.productions p) (λ rule. right ≡ rule.1) → (left : ℕ) × IsProduction g p left right
rule_here g p right lt is =
    let at : slice_get g.productions p ≡ Some (get_or g.productions p (0, [])) = slice_get-get_or g.productions p (0, []) lt in
    let same : right ≡ (get_or g.productions p (0, [])).1 = subst (λ o. IfSome o (λ rule. right ≡ rule.1)) at is in
    ((get_or g.productions p (0, [])).0, at ∙ ap (λ z. Some ((get_or g.productions p (0, [])).0, z)) (sym same))
