-- How many nodes a tree has, where no nonterminal derives itself.
use Rattle.std.proofs.Common.{List, [], ap, arith, inl, inr, length, refl, subst, suc, sym, zero, ℕ, ◌+◌, ◌<◌, ◌∙◌, ◌∷◌, ◌≡◌, ◌≤◌}
use Rattle.std.proofs.lemmas.Bool.{cases_eq}
use Rattle.wb_base.specs.Grammar.{GrammarView}
use Rattle.wb_base.specs.declared.symbol.Symbol.{Symbol}
use Rattle.wb_base.specs.declared.symbol.Symbol.TheVariants.{Nonterminal}
use Rattle.wb_grammar_theory.proofs.DerivesLemmas.{Derives-append, Derives-then}
use Rattle.wb_grammar_theory.specs.Derives.{Derives, done, expand, keep}
use Rattle.wb_grammar_theory.specs.Productions.{IsProduction}
use Rattle.wb_grammar_theory.specs.Trees.{Forest, IsDerived, leaf, node, nothing, symbols}
use Rattle.wb_scan_theory.proofs.ForestLemmas.{derived_joined, joined_assoc, symbols_joined}
use Rattle.wb_scan_theory.proofs.Pigeons.{AllBelow, Distinct, Fresh, Member, member_or_fresh, pigeons}
use Rattle.wb_scan_theory.specs.Bounds.{HasNoCycle, IsSized, copies, count, fewer, nodes, row}
use Rattle.wb_scan_theory.specs.Machine.{joined}

pub count_joined : (a b : Forest) → count (joined a b) ≡ count a + count b
count_joined nothing b = omega arith
count_joined (leaf t l r) b = let e : count (joined r b) ≡ count r + count b = count_joined r b in omega arith
count_joined (node p a k r) b = let e : count (joined r b) ≡ count r + count b = count_joined r b in omega arith

-- trees without leaves derive the empty text
pub no_leaves : (g : GrammarView) (f : Forest) → IsDerived g f → count f ≡ 0 → Derives g (symbols f) []
no_leaves g nothing d e = done
no_leaves g (leaf t l r) d e = absurd (omega arith)
no_leaves g (node p a k r) (rule, dk, dr) e =
    expand p a (symbols k) [] [] rule (no_leaves g k dk (omega arith)) (no_leaves g r dr (omega arith)) refl

-- a derives b alone, in one or more steps
pub record Alone (g : GrammarView) (a b : ℕ) : Type 0 where
  pub p : ℕ
  pub right : List Symbol
  pub rule : IsProduction g p a right
  pub derives : Derives g right (Nonterminal b ∷ [])

alone_then : (g : GrammarView) (a b c : ℕ) → Alone g a b → Alone g b c → Alone g a c
alone_then g a b c x y =
    record {
      p = x.p;
      right = x.right;
      rule = x.rule;
      derives =
          Derives-then x.derives (expand y.p b y.right (Nonterminal c ∷ []) [] y.rule y.derives done refl);
    }

abbrev pub AllAlone : GrammarView → List ℕ → ℕ → Type 0
AllAlone g [] a = Unit {0}
AllAlone g (c ∷ cs) a = Alone g c a × AllAlone g cs a

all_then : (g : GrammarView) (cs : List ℕ) (a b : ℕ) → AllAlone g cs a → Alone g a b → AllAlone g cs b
all_then g [] a b all x = tt
all_then g (c ∷ cs) a b (y, all) x = (alone_then g c a b y x, all_then g cs a b all x)

member_alone : (g : GrammarView) (cs : List ℕ) (b : ℕ) → Member b cs → AllAlone g cs b → Alone g b b
member_alone g [] b m all = absurd m
member_alone g (c ∷ cs) b (inl e) (x, all) = subst (λ z. Alone g z b) (sym e) x
member_alone g (c ∷ cs) b (inr m) (x, all) = member_alone g cs b m all

pub fresh_of : (g : GrammarView) → HasNoCycle g → (cs : List ℕ) (b : ℕ) → AllAlone g cs b → Fresh b cs
fresh_of g acyclic cs b all =
    elim (member_or_fresh b cs) [
      | inl m ↦
          (let x = member_alone g cs b m all in absurd (acyclic.unit b (x.p, x.right, x.rule, x.derives)))
      | inr f ↦ f
    ]

pub pred_of : (d : ℕ) → 1 ≤ d → (e : ℕ) × (d ≡ suc e)
pred_of zero h = absurd (omega arith)
pred_of (suc d) h = (d, refl)

pub copies_more : (w m n : ℕ) → m ≤ n → copies w m ≤ copies w n
copies_more w zero n h = omega arith
copies_more w (suc m) zero h = absurd (omega arith)
copies_more w (suc m) (suc n) h = let i : copies w m ≤ copies w n = copies_more w m n (omega arith) in omega arith

-- the children of a node, where S are the nonterminals above it with the same leaves
pub walk : (g : GrammarView) (many wide : ℕ) → IsSized g many wide → HasNoCycle g → (f before : Forest) (p a m d : ℕ) (cs : List ℕ) →
    IsDerived g before → IsDerived g f → IsProduction g p a (symbols (joined before f))
    → count before + count f ≤ m → AllBelow many (a ∷ cs) → Distinct (a ∷ cs) → AllAlone g cs a → many ≤ d + suc (length cs)
    → nodes f ≤ copies (fewer many wide m + row wide (fewer many wide m) d) (length (symbols f))
walk g many wide sized acyclic nothing before p a m d cs db df rule few below distinct all enough = omega arith
walk g many wide sized acyclic (leaf t l r) before p a m d cs db df rule few below distinct all enough =
    let w : ℕ = fewer many wide m + row wide (fewer many wide m) d in
    let c : count (joined before (leaf t l nothing)) ≡ count before + 1 = count_joined before (leaf t l nothing)
    ∙ (let z : count (leaf t l nothing) ≡ 1 = refl in omega arith) in
    let i : nodes r ≤ copies w (length (symbols r)) =
    walk g many wide sized acyclic r (joined before (leaf t l nothing)) p a m d cs (derived_joined g before (leaf t l nothing) db tt) df
    (subst (λ z. IsProduction g p a (symbols z)) (sym (joined_assoc before (leaf t l nothing) r)) rule)
    (omega arith) below distinct all enough in
    omega arith
walk g many wide sized acyclic (node q b k r) before p a m d cs db (rule_q, dk, dr) rule few below distinct all enough =
    let less : ℕ = fewer many wide m in
    let w : ℕ = less + row wide less d in
    let one : Forest = node q b k nothing in
    let c : count (joined before one) ≡ count before + count k = count_joined before one ∙ (omega arith) in
    let i : nodes r ≤ copies w (length (symbols r)) =
    walk g many wide sized acyclic r (joined before one) p a m d cs (derived_joined g before one db (rule_q, dk, tt)) dr
    (subst (λ z. IsProduction g p a (symbols z)) (sym (joined_assoc before one r)) rule) (omega arith) below distinct all enough in
    let b_below : b < many = sized.left q b (symbols k) rule_q in
    let k_wide : length (symbols k) ≤ wide = sized.right q b (symbols k) rule_q in
    let here : 1 + nodes k ≤ w =
    elim (cases_eq (count before + count r) 0) [
      | inl e ↦
          let up : Alone g a b = record {
            p = p;
            right = symbols (joined before (node q b k r));
            rule = rule;
            derives = subst (λ z. Derives g z (Nonterminal b ∷ [])) (sym (symbols_joined before (node q b k r)))
                (Derives-append (no_leaves g before db (omega arith)) (keep (Nonterminal b) (no_leaves g r dr (omega arith))));
          } in
          let all' : AllAlone g (a ∷ cs) b = (up, all_then g cs a b all up) in
          let fresh : Fresh b (a ∷ cs) = fresh_of g acyclic (a ∷ cs) b all' in
          let fit : length (b ∷ a ∷ cs) ≤ many = pigeons many (b ∷ a ∷ cs) (b_below, below) (fresh, distinct) in
          let (d', is) = pred_of d (omega arith) in
          let v : ℕ = less + row wide less d' in
          let h : nodes k ≤ copies v (length (symbols k)) =
          walk g many wide sized acyclic k nothing q b m d' (a ∷ cs) tt dk rule_q (omega arith) (b_below, below) (fresh, distinct) all'
          (omega arith) in
          let s : copies v (length (symbols k)) ≤ copies v wide = copies_more v (length (symbols k)) wide k_wide in
          let t : row wide less d ≡ 1 + copies v wide = ap (row wide less) is in
          omega arith
      | inr ne ↦
          let (m', is) = pred_of m (omega arith) in
          let (n', is') = pred_of many (omega arith) in
          let least : ℕ = fewer many wide m' in
          let v : ℕ = least + row wide least n' in
          let h : nodes k ≤ copies v (length (symbols k)) =
          walk g many wide sized acyclic k nothing q b m' n' [] tt dk rule_q (omega arith) (b_below, tt) (tt, tt) tt (omega arith) in
          let s : copies v (length (symbols k)) ≤ copies v wide = copies_more v (length (symbols k)) wide k_wide in
          let t : less ≡ 1 + copies v wide = ap (fewer many wide) is ∙ ap (row wide least) is' in
          omega arith
    ] in
    omega arith

-- a tree with m leaves or fewer
pub tree_bound : (g : GrammarView) (many wide : ℕ) → IsSized g many wide → HasNoCycle g → (q b : ℕ) (k : Forest) (m : ℕ) →
    IsProduction g q b (symbols k) → IsDerived g k → count k ≤ m → 1 + nodes k ≤ fewer many wide (suc m)
tree_bound g many wide sized acyclic q b k m rule dk few =
    let b_below : b < many = sized.left q b (symbols k) rule in
    let k_wide : length (symbols k) ≤ wide = sized.right q b (symbols k) rule in
    let (n', is') = pred_of many (omega arith) in
    let least : ℕ = fewer many wide m in
    let v : ℕ = least + row wide least n' in
    let h : nodes k ≤ copies v (length (symbols k)) =
    walk g many wide sized acyclic k nothing q b m n' [] tt dk rule (omega arith) (b_below, tt) (tt, tt) tt (omega arith) in
    let s : copies v (length (symbols k)) ≤ copies v wide = copies_more v (length (symbols k)) wide k_wide in
    let t : row wide least many ≡ 1 + copies v wide = ap (row wide least) is' in
    omega arith
