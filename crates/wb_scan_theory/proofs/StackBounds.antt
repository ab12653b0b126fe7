-- How many trees a stack has, where there is no hidden left recursion.
use Rattle.std.proofs.Common.{List, [], ap, append_assoc, arith, inl, inr, length, refl, subst, suc, sym, zero, ℕ, ◌++◌, ◌+◌, ◌<◌, ◌∙◌, ◌∷◌}
use Rattle.std.proofs.Common.{◌≡◌, ◌≢◌, ◌≤◌, ◌⊎◌}
use Rattle.std.proofs.lemmas.Bool.{cases_eq}
use Rattle.wb_base.specs.Grammar.{GrammarView}
use Rattle.wb_base.specs.declared.symbol.Symbol.{Symbol}
use Rattle.wb_base.specs.declared.symbol.Symbol.TheVariants.{Nonterminal}
use Rattle.wb_grammar_theory.proofs.DerivesLemmas.{Derives-append, Derives-same}
use Rattle.wb_grammar_theory.proofs.DotLemmas.{after_advance, after_initial, after_start}
use Rattle.wb_grammar_theory.specs.Derives.{Derives, done, expand}
use Rattle.wb_grammar_theory.specs.Items.{IsValidItem, IsViablePrefix, after_dot, close, move, start}
use Rattle.wb_grammar_theory.specs.Productions.{IsProduction, right_in, top_of}
use Rattle.wb_grammar_theory.specs.Trees.{Forest, IsDerived, leaf, node, nothing, symbols}
use Rattle.wb_grammar_theory.specs.declared.item.Item.{Item}
use Rattle.wb_scan_theory.proofs.BackLemmas.{parts_of}
use Rattle.wb_scan_theory.proofs.ForestLemmas.{append_nil, derived_left, derived_right, nodes_joined}
use Rattle.wb_scan_theory.proofs.Pigeons.{AllBelow, Distinct, Fresh, Member, member_or_fresh, pigeons}
use Rattle.wb_scan_theory.proofs.TreeBounds.{copies_more, count_joined, no_leaves, pred_of, tree_bound}
use Rattle.wb_scan_theory.specs.Bounds.{HasNoCycle, IsSized, copies, count, fewer, levels, limit, nodes}
use Rattle.wb_scan_theory.specs.Machine.{joined}

-- an item as the productions that lead to it, each with what is before its dot
pub data Level (g : GrammarView) : List Symbol → List Symbol → Type 0 where
  first : (before rest : List Symbol) → before ++ rest ≡ Nonterminal g.start ∷ [] → Level g before rest
  inner : (p a : ℕ) (below before rest later : List Symbol) {prefix : List Symbol} → Level g below (Nonterminal a ∷ later) →
      IsProduction g p a (before ++ rest) → prefix ≡ below ++ before → Level g prefix rest

level_move : (g : GrammarView) {prefix more : List Symbol} (x : Symbol) (rest longer : List Symbol) → Level g prefix more →
    more ≡ x ∷ rest → longer ≡ prefix ++ x ∷ [] → Level g longer rest
level_move g x rest longer (first before more e) is named =
    subst (λ z. Level g z rest) (sym named)
    (first (before ++ x ∷ []) rest (append_assoc before (x ∷ []) rest ∙ ap (λ z. before ++ z) (sym is) ∙ e))
level_move g x rest longer (inner p a below before more later l rule e) is named =
    inner p a below (before ++ x ∷ []) rest later l
    (subst (λ z. IsProduction g p a z) (ap (λ z. before ++ z) is ∙ sym (append_assoc before (x ∷ []) rest)) rule)
    (named ∙ ap (λ z. z ++ x ∷ []) e ∙ append_assoc below before (x ∷ []))

pub level_of : (g : GrammarView) {prefix : List Symbol} {item : Item} {t : ℕ} → IsValidItem g prefix item t →
    Level g prefix (after_dot g item)
level_of g start = first [] (right_in g.productions g.start (top_of g)) (after_start g)
level_of g (close item t b rest q u right {prefix} v is rule f) =
    let e : right_in g.productions g.start q ≡ right = after_initial g q b right rule in
    inner q b prefix [] (right_in g.productions g.start q) rest (subst (λ z. Level g prefix z) is (level_of g v))
    (subst (λ z. IsProduction g q b z) (sym e) rule) (sym (append_nil prefix))
level_of g (move item x rest prefix {t} {longer} {moved} v is longer_is moved_is) =
    subst (λ z. Level g longer z) (sym (ap (after_dot g) moved_is ∙ after_advance g item x rest is))
    (level_move g x rest longer (level_of g v) is longer_is)

-- each of these nonterminals can begin what comes, but for symbols that derive the empty text
pub record Begun (g : GrammarView) (rest : List Symbol) (c : ℕ) : Type 0 where
  pub front : List Symbol
  pub back : List Symbol
  pub derives : Derives g rest (front ++ Nonterminal c ∷ back)
  pub empty : Derives g front []

abbrev pub AllBegun : GrammarView → List Symbol → List ℕ → Type 0
AllBegun g rest [] = Unit {0}
AllBegun g rest (c ∷ cs) = Begun g rest c × AllBegun g rest cs

member_begun : (g : GrammarView) (rest : List Symbol) (cs : List ℕ) (a : ℕ) → Member a cs → AllBegun g rest cs → Begun g rest a
member_begun g rest [] a m all = absurd m
member_begun g rest (c ∷ cs) a (inl e) (x, all) = subst (λ z. Begun g rest z) (sym e) x
member_begun g rest (c ∷ cs) a (inr m) (x, all) = member_begun g rest cs a m all

-- a level up: what is before the dot derives the empty text
up_one : (g : GrammarView) (p a : ℕ) (before rest later : List Symbol) (c : ℕ) → IsProduction g p a (before ++ rest) → Derives g before [] →
    Begun g rest c → Begun g (Nonterminal a ∷ later) c
up_one g p a before rest later c rule empty b = record {
  front = b.front;
  back = b.back ++ later;
  derives = expand p a (before ++ rest) (b.front ++ Nonterminal c ∷ b.back) later rule (Derives-append empty b.derives)
      (Derives-same g later)
      (sym (append_assoc b.front (Nonterminal c ∷ b.back) later));
  empty = b.empty;
}

up_all : (g : GrammarView) (p a : ℕ) (before rest later : List Symbol) (cs : List ℕ) → IsProduction g p a (before ++ rest) →
    Derives g before [] → AllBegun g rest cs → AllBegun g (Nonterminal a ∷ later) cs
up_all g p a before rest later [] rule empty all = tt
up_all g p a before rest later (c ∷ cs) rule empty (b, all) =
    (up_one g p a before rest later c rule empty b, up_all g p a before rest later cs rule empty all)

not_nil_front : (before front : List Symbol) → before ≢ [] → before ++ front ≢ []
not_nil_front [] front ne e = ne refl
not_nil_front (x ∷ before) front ne e = cc

fresh_level : (g : GrammarView) → HasNoCycle g → (p a : ℕ) (before rest : List Symbol) (cs : List ℕ) → IsProduction g p a (before ++ rest) →
    Derives g before [] → before ≢ [] → AllBegun g rest cs → Fresh a cs
fresh_level g acyclic p a before rest cs rule empty ne all =
    elim (member_or_fresh a cs) [
      | inl m ↦
          let b = member_begun g rest cs a m all in
          absurd (acyclic.hidden a (
            p,
            before ++ rest,
            before ++ b.front,
            b.back,
            rule,
            subst (λ z. Derives g (before ++ rest) z) (sym (append_assoc before b.front (Nonterminal a ∷ b.back)))
                (Derives-append (Derives-same g before) b.derives),
            not_nil_front before b.front ne,
            Derives-append empty b.empty,
          ))
      | inr f ↦ f
    ]

length_joined : (a b : List Symbol) → length (a ++ b) ≡ length a + length b
length_joined [] b = omega arith
length_joined (x ∷ a) b = let i : length (a ++ b) ≡ length a + length b = length_joined a b in omega arith

nil_or_not : (w : List Symbol) → (w ≡ []) ⊎ (w ≢ [])
nil_or_not [] = inl refl
nil_or_not (x ∷ w) = inr (λ e. cc)

levels_more : (many m n : ℕ) → m ≤ n → levels many m ≤ levels many n
levels_more many zero n h = omega arith
levels_more many (suc m) zero h = absurd (omega arith)
levels_more many (suc m) (suc n) h = let i : levels many m ≤ levels many n = levels_more many m n (omega arith) in omega arith

levels_step : (many m n : ℕ) → m < n → suc (many + levels many m) ≤ levels many n
levels_step many m n h = levels_more many (suc m) n (omega arith)

-- the roots of a stack; n counts the levels that are left
pub roots : (g : GrammarView) (many wide : ℕ) → IsSized g many wide → HasNoCycle g → {prefix rest : List Symbol} → Level g prefix rest →
    (stack : Forest) (n : ℕ) (cs : List ℕ) → IsDerived g stack → symbols stack ≡ prefix
    → AllBelow many cs → Distinct cs → AllBegun g rest cs → levels many (count stack) + many ≤ n + length cs →
    length prefix ≤ suc (copies wide n)
roots g many wide sized acyclic (first before rest e) stack n cs d is below distinct all enough =
    let f : length before + length rest ≡ 1 = sym (length_joined before rest) ∙ ap length e in omega arith
roots g many wide sized acyclic (inner p a under before rest later {prefix} l rule e) stack n cs d is below distinct all enough =
    let parts = parts_of stack under before (is ∙ e) in
    let split : IsDerived g (joined parts.left parts.right) = subst (λ z. IsDerived g z) parts.is d in
    let dl = derived_left g parts.left parts.right split in
    let dr = derived_right g parts.left parts.right split in
    let counts : count stack ≡ count parts.left + count parts.right = ap count parts.is ∙ count_joined parts.left parts.right in
    let a_below : a < many = sized.left p a (before ++ rest) rule in
    let wide_enough : length (before ++ rest) ≤ wide = sized.right p a (before ++ rest) rule in
    let len : length (before ++ rest) ≡ length before + length rest = length_joined before rest in
    let total : length prefix ≡ length under + length before = ap length e ∙ length_joined under before in
    elim (cases_eq (count parts.right) 0) [
      | inl none_there ↦
          let empty : Derives g before [] = subst (λ z. Derives g z []) parts.right_is (no_leaves g parts.right dr none_there) in
          let same_count : count stack ≡ count parts.left = omega arith in
          let same_levels : levels many (count stack) ≡ levels many (count parts.left) = ap (levels many) same_count in
          let up = up_all g p a before rest later cs rule empty all in
          elim (nil_or_not before) [
            | inl nil ↦
                let z : length before ≡ 0 = ap length nil in
                let i : length under ≤ suc (copies wide n) =
                roots g many wide sized acyclic l parts.left n cs dl parts.left_is below distinct up (omega arith) in
                omega arith
            | inr ne ↦
                let fresh : Fresh a cs = fresh_level g acyclic p a before rest cs rule empty ne all in
                let fit : length (a ∷ cs) ≤ many = pigeons many (a ∷ cs) (a_below, below) (fresh, distinct) in
                let (n', n_is) = pred_of n (omega arith) in
                let here : Begun g (Nonterminal a ∷ later) a =
                record { front = []; back = later; derives = Derives-same g (Nonterminal a ∷ later); empty = done } in
                let i : length under ≤ suc (copies wide n') =
                roots g many wide sized acyclic l parts.left n' (a ∷ cs) dl parts.left_is (a_below, below) (fresh, distinct) (here, up)
                (omega arith) in
                let c : copies wide n ≡ wide + copies wide n' = ap (copies wide) n_is in
                omega arith
          ]
      | inr some ↦
          let step : suc (many + levels many (count parts.left)) ≤ levels many (count stack) =
          levels_step many (count parts.left) (count stack) (omega arith) in
          let fit : length cs ≤ many = pigeons many cs below distinct in
          let (n', n_is) = pred_of n (omega arith) in
          let i : length under ≤ suc (copies wide n') =
          roots g many wide sized acyclic l parts.left n' [] dl parts.left_is tt tt tt (omega arith) in
          let c : copies wide n ≡ wide + copies wide n' = ap (copies wide) n_is in
          omega arith
    ]

-- the nodes of trees, each with no more than w
pub nodes_of_roots : (g : GrammarView) (many wide : ℕ) → IsSized g many wide → HasNoCycle g → (m : ℕ) (f : Forest) → IsDerived g f →
    count f ≤ m → nodes f ≤ copies (fewer many wide (suc m)) (length (symbols f))
nodes_of_roots g many wide sized acyclic m nothing d few = omega arith
nodes_of_roots g many wide sized acyclic m (leaf t l r) d few =
    let w : ℕ = fewer many wide (suc m) in
    let i : nodes r ≤ copies w (length (symbols r)) = nodes_of_roots g many wide sized acyclic m r d (omega arith) in omega arith
nodes_of_roots g many wide sized acyclic m (node q b k r) (rule, dk, dr) few =
    let w : ℕ = fewer many wide (suc m) in
    let h : 1 + nodes k ≤ w = tree_bound g many wide sized acyclic q b k m rule dk (omega arith) in
    let i : nodes r ≤ copies w (length (symbols r)) = nodes_of_roots g many wide sized acyclic m r dr (omega arith) in omega arith

-- a stack of a prefix has no more nodes than the limit of its leaves
pub bounded : (g : GrammarView) (many wide : ℕ) → IsSized g many wide → HasNoCycle g → (stack : Forest) (m : ℕ) → IsDerived g stack →
    IsViablePrefix g (symbols stack) → count stack ≤ m → nodes stack ≤ limit many wide m
bounded g many wide sized acyclic stack m d (item, t, v) is =
    let w : ℕ = fewer many wide (suc m) in
    let n : ℕ = levels many m + many in
    let e : levels many (count stack) ≤ levels many m = levels_more many (count stack) m is in
    let h : nodes stack ≤ copies w (length (symbols stack)) = nodes_of_roots g many wide sized acyclic m stack d (omega arith) in
    let r : length (symbols stack) ≤ suc (copies wide n) =
    roots g many wide sized acyclic (level_of g v) stack n [] d refl tt tt tt (omega arith) in
    let c : copies w (length (symbols stack)) ≤ copies w (suc (copies wide n)) =
    copies_more w (length (symbols stack)) (suc (copies wide n)) r in
    omega arith

-- a reduction adds one node and no leaf
pub reduced_nodes : (below children : Forest) (p a : ℕ) →
    nodes (joined below (node p a children nothing)) ≡ suc (nodes (joined below children))
reduced_nodes below children p a =
    let e : nodes (joined below (node p a children nothing)) ≡ nodes below + nodes (node p a children nothing) =
    nodes_joined below (node p a children nothing) in
    let f : nodes (joined below children) ≡ nodes below + nodes children = nodes_joined below children in
    omega arith

pub reduced_count : (below children : Forest) (p a : ℕ) → count (joined below (node p a children nothing)) ≡ count (joined below children)
reduced_count below children p a =
    let e : count (joined below (node p a children nothing)) ≡ count below + count (node p a children nothing) =
    count_joined below (node p a children nothing) in
    let f : count (joined below children) ≡ count below + count children = count_joined below children in
    omega arith
