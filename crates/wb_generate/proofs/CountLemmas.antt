-- Least counts: lowering them keeps what they mean, and what no production lowers is least.
use Rattle.std.proofs.Common.{◌≡◌, ℕ, ◌+◌, zero, suc, ◌<◌, ◌≤◌, ◌⊎◌, min, Bool, true, false, List, [], ◌∷◌, ◌++◌, length, get_or, set}
use Rattle.std.proofs.Common.{replicate, take, refl, sym, ◌∙◌, ap, subst, get_or-set_same, get_or-set_other, inl, inr, arith, length-set}
use Rattle.std.specs.Prelude.{All, ◌↔◌, slice_index}
use Rattle.std.specs.List.{sum}
use Rattle.std.proofs.Math.Nat.{min-eq_left, min-eq_right}
use Rattle.std.proofs.lemmas.List.{get_or-replicate, get_or_past, length-replicate, take_more}
use Rattle.std.proofs.lemmas.List.Elements.{All-head, All-tail}
use Rattle.std.proofs.lemmas.List.Sums.{sum_by-set}
use Rattle.std.proofs.lemmas.Bool.{true≢false, cases_eq, cases_lt}
use Rattle.wb_base.specs.declared.symbol.Symbol.{Symbol}
use Rattle.wb_base.specs.declared.symbol.Symbol.TheVariants.{Terminal, Nonterminal}
use Rattle.wb_base.specs.Grammar.{GrammarView, IsSymbolBelow}
use Rattle.wb_grammar_theory.specs.Productions.{IsProduction}
use Rattle.wb_grammar_theory.specs.Trees.{Forest, nothing, leaf, node, symbols, IsDerived}
use Rattle.wb_scan_theory.specs.Bounds.{count}
use Rattle.wb_scan_theory.specs.Machine.{joined}
use Rattle.wb_scan_theory.proofs.ForestLemmas.{symbols_joined, derived_joined}
use Rattle.wb_scan_theory.proofs.TreeBounds.{count_joined}
use Rattle.wb_generate.specs.Counts.{HasTree, AreLeast, least_of, total}
use Rattle.wb_generate.specs.Inner.Lowerings.{AreReached}

-- a number that is read at a place
same_default : (xs : List ℕ) (i d e : ℕ) → i < length xs → get_or xs i d ≡ get_or xs i e
same_default [] i d e lt = absurd (omega arith)
same_default (x ∷ xs) zero d e lt = refl
same_default (x ∷ xs) (suc i) d e lt = same_default xs i d e (omega arith)

pub index_read : (xs : List ℕ) (i r : ℕ) → i < length xs → r ≡ get_or xs i r → slice_index xs i ≡ r
index_read xs i r lt is = same_default xs i 0 r lt ∙ sym is

-- the sum of joined symbols
pub total_append : (counts : List ℕ) (w v : List Symbol) → total counts (w ++ v) ≡ total counts w + total counts v
total_append counts [] v = omega arith
total_append counts (x ∷ w) v = let i : total counts (w ++ v) ≡ total counts w + total counts v = total_append counts w v in omega arith

pub total_more : (counts : List ℕ) (w : List Symbol) (i : ℕ) (d : Symbol) → i < length w →
    total counts (take (i + 1) w) ≡ total counts (take i w) + least_of counts (get_or w i d)
total_more counts w i d lt =
    let e : total counts (take (i + 1) w) ≡ total counts (take i w ++ get_or w i d ∷ []) = ap (total counts) (take_more w i d lt) in
    let f : total counts (take i w ++ get_or w i d ∷ []) ≡ total counts (take i w) + (least_of counts (get_or w i d) + 0) =
    total_append counts (take i w) (get_or w i d ∷ []) in
    omega arith

-- a sum that stops at a limit goes on as the sum does
pub stopped_more : (t c limit : ℕ) → min (min t limit + c) limit ≡ min (t + c) limit
stopped_more t c limit =
    elim (cases_lt t limit) [
      | inl lt ↦ (let e : min t limit ≡ t = min-eq_left (omega arith) in ap (λ z. min (z + c) limit) e)
      | inr ge ↦
          let e : min t limit ≡ limit = min-eq_right (omega arith) in
          let f : min (limit + c) limit ≡ limit = min-eq_right (omega arith) in
          let h : min (t + c) limit ≡ limit = min-eq_right (omega arith) in
          ap (λ z. min (z + c) limit) e ∙ f ∙ sym h
    ]

pub stopped_step : (counts : List ℕ) (w : List Symbol) (i n c m limit : ℕ) (d : Symbol) → i < length w →
    n ≡ min (total counts (take i w)) limit →
    c ≡ least_of counts (get_or w i d) → m ≡ min (n + c) limit → m ≡ min (total counts (take (i + 1) w)) limit
stopped_step counts w i n c m limit d lt is one next =
    next ∙ ap (λ z. min (n + z) limit) one ∙ ap (λ z. min (z + least_of counts (get_or w i d)) limit) is
    ∙ stopped_more (total counts (take i w)) (least_of counts (get_or w i d)) limit
    ∙ ap (λ z. min z limit) (sym (total_more counts w i d lt))

-- trees of the symbols, with as many leaves as their counts say
pub record HasForest (g : GrammarView) (w : List Symbol) (n : ℕ) : Type 0 where
  pub forest : Forest
  pub derived : IsDerived g forest
  pub roots : symbols forest ≡ w
  pub many : count forest ≡ n

with_tree : (g : GrammarView) (a n m : ℕ) (w : List Symbol) → HasTree g a n → HasForest g w m → HasForest g (Nonterminal a ∷ w) (n + m)
with_tree g a n m w t f = record {
  forest = joined t.tree f.forest;
  derived = derived_joined g t.tree f.forest t.is.derived f.derived;
  roots = symbols_joined t.tree f.forest ∙ ap (λ z. z ++ symbols f.forest) t.is.root ∙ ap (λ z. Nonterminal a ∷ z) f.roots;
  many = count_joined t.tree f.forest ∙ ap (λ z. z + count f.forest) t.many ∙ ap (λ z. n + z) f.many;
}

pub forest_of : (g : GrammarView) (limit : ℕ) (counts : List ℕ) → AreReached g limit counts → (w : List Symbol) →
    All (IsSymbolBelow g.terminals g.nonterminals) w → total counts w < limit → HasForest g w (total counts w)
forest_of g limit counts reached [] known few = record { forest = nothing; derived = tt; roots = refl; many = refl }
forest_of g limit counts reached (Terminal t ∷ w) known few =
    let f = forest_of g limit counts reached w (All-tail (IsSymbolBelow g.terminals g.nonterminals) (Terminal t) w known) (omega arith) in
    record { forest = leaf t [] f.forest; derived = f.derived; roots = ap (λ z. Terminal t ∷ z) f.roots; many = ap (λ z. 1 + z) f.many }
forest_of g limit counts reached (Nonterminal a ∷ w) known few =
    let f = forest_of g limit counts reached w (All-tail (IsSymbolBelow g.terminals g.nonterminals) (Nonterminal a) w known) (omega arith)
    in
    let lt : a < g.nonterminals = All-head (IsSymbolBelow g.terminals g.nonterminals) (Nonterminal a) w known in
    elim (reached.each a lt) [
      | inl e ↦ absurd (omega arith)
      | inr t ↦ with_tree g a (slice_index counts a) (total counts w) w t f
    ]

-- a lower count of a production's left side
lower_tree : (g : GrammarView) (limit : ℕ) (counts : List ℕ) (p a : ℕ) (right : List Symbol) → AreReached g limit counts →
    IsProduction g p a right → All (IsSymbolBelow g.terminals g.nonterminals) right → total counts right < limit →
    HasTree g a (total counts right)
lower_tree g limit counts p a right reached rule known few =
    let f = forest_of g limit counts reached right known few in
    record {
      tree = node p a f.forest nothing;
      is = record { derived = (subst (IsProduction g p a) (sym f.roots) rule, f.derived, tt); root = refl };
      many = (let e : count f.forest ≡ total counts right = f.many in omega arith);
    }

least_is : (t limit least : ℕ) → least ≡ min t limit → least < limit → least ≡ t
least_is t limit least is lt =
    elim (cases_lt t limit) [
      | inl below ↦ is ∙ min-eq_left (omega arith)
      | inr past ↦ absurd (let e : min t limit ≡ limit = min-eq_right (omega arith) in omega arith)
    ]

pub reached_lower : (g : GrammarView) (limit : ℕ) (counts : List ℕ) (p a least : ℕ) (right : List Symbol) → AreReached g limit counts →
    IsProduction g p a right → a < g.nonterminals → All (IsSymbolBelow g.terminals g.nonterminals) right →
    least ≡ min (total counts right) limit
    → least < slice_index counts a → AreReached g limit (set counts a least)
reached_lower g limit counts p a least right reached rule lt known is less =
    let top : slice_index counts a ≤ limit = reached.most a in
    let len : length counts ≡ g.nonterminals = reached.len in
    let exact : least ≡ total counts right = least_is (total counts right) limit least is (omega arith) in
    let tree : HasTree g a least = subst (HasTree g a) (sym exact) (lower_tree g limit counts p a right reached rule known (omega arith)) in
    let here : slice_index (set counts a least) a ≡ least = get_or-set_same counts a least 0 (omega arith) in
    record {
      len = length-set counts a least ∙ len;
      most = λ b. elim (cases_eq b a) [
        | inl same ↦ (let e : slice_index (set counts a least) b ≡ least = ap (slice_index (set counts a least)) same ∙ here in omega arith)
        | inr other ↦
            let e : slice_index (set counts a least) b ≡ slice_index counts b = get_or-set_other counts a b least 0 other in
            let h : slice_index counts b ≤ limit = reached.most b in
            omega arith
      ];
      each = λ b below. elim (cases_eq b a) [
        | inl same ↦
            let e : least ≡ slice_index (set counts a least) b = sym (ap (slice_index (set counts a least)) same ∙ here) in
            inr (subst (HasTree g b) e (subst (λ z. HasTree g z least) (sym same) tree))
        | inr other ↦
            let e : slice_index counts b ≡ slice_index (set counts a least) b = sym (get_or-set_other counts a b least 0 other) in
            subst (λ z. (z ≡ limit) ⊎ HasTree g b z) e (reached.each b below)
      ];
    }

pub sum_lower : (counts : List ℕ) (a least : ℕ) → a < length counts → least < slice_index counts a → sum (set counts a least) < sum counts
sum_lower counts a least lt less =
    let e : sum (set counts a least) + slice_index counts a ≡ sum counts + least = sum_by-set (λ x. x) counts a least 0 lt in omega arith

-- the count of each production's left side isn't above the sum of its right side
abbrev pub AreLow : GrammarView → List ℕ → Type 0
AreLow g counts = (p a : ℕ) (right : List Symbol) → IsProduction g p a right → slice_index counts a ≤ total counts right

-- what no production lowers is at most what trees have
pub low_forest : (g : GrammarView) (counts : List ℕ) → AreLow g counts → (f : Forest) →
    IsDerived g f →
    total counts (symbols f) ≤ count f
low_forest g counts low nothing d = omega arith
low_forest g counts low (leaf t l r) d = let i : total counts (symbols r) ≤ count r = low_forest g counts low r d in omega arith
low_forest g counts low (node p a k r) (rule, dk, dr) =
    let i : total counts (symbols k) ≤ count k = low_forest g counts low k dk in
    let j : total counts (symbols r) ≤ count r = low_forest g counts low r dr in
    let h : slice_index counts a ≤ total counts (symbols k) = low p a (symbols k) rule in
    omega arith

pub least_from : (g : GrammarView) (limit : ℕ) (counts : List ℕ) → AreReached g limit counts →
    AreLow g counts → AreLeast g limit counts
least_from g limit counts reached low = record {
  len = reached.len;
  each = λ a lt. record {
    most = reached.most a;
    lower = λ tree is.
        let i : total counts (symbols tree) ≤ count tree = low_forest g counts low tree is.derived in
        let e : total counts (symbols tree) ≡ slice_index counts a + 0 = ap (total counts) is.root in
        omega arith;
    reached = reached.each a lt;
  };
}

pub reached_start : (g : GrammarView) (limit : ℕ) → AreReached g limit (replicate g.nonterminals limit)
reached_start g limit = record {
  len = length-replicate g.nonterminals limit;
  most = λ a. elim (cases_lt a g.nonterminals) [
    | inl lt ↦ (let e : slice_index (replicate g.nonterminals limit) a ≡ limit = get_or-replicate g.nonterminals a limit 0 lt in omega
        arith)
    | inr past ↦
        let e : slice_index (replicate g.nonterminals limit) a ≡ 0 =
        get_or_past (replicate g.nonterminals limit) a 0 (omega (arith, length-replicate g.nonterminals limit)) in
        omega arith
  ];
  each = λ a lt. inl (get_or-replicate g.nonterminals a limit 0 lt);
}

-- least counts are reached
pub reached_of : (g : GrammarView) (limit : ℕ) (counts : List ℕ) → AreLeast g limit counts → AreReached g limit counts
reached_of g limit counts least = record {
  len = least.len;
  most = λ a. elim (cases_lt a g.nonterminals) [
    | inl lt ↦ (least.each a lt).most
    | inr past ↦
        let e : slice_index counts a ≡ 0 = get_or_past counts a 0 (omega (arith, past, least.len)) in
        omega (arith, e)
  ];
  each = λ a lt. (least.each a lt).reached;
}

-- what a test of a count says where it fails
pub above_of : (b : Bool) (m n : ℕ) → (b ≡ true) ↔ (m ≤ n) → b ≡ false → n < m
above_of b m n test fails = elim (cases_lt n m) [
  | inl lt ↦ lt
  | inr past ↦ absurd (true≢false (sym (test.1 past) ∙ fails))
]
