-- The machine has one way.
use Rattle.std.proofs.Common.{List, [], ap, append_assoc, inl, inr, refl, subst, sym, ℕ, ◌++◌, ◌∙◌, ◌∷◌, ◌≡◌}
use Rattle.std.proofs.lemmas.Bool.{cases_eq}
use Rattle.wb_base.specs.Grammar.{GrammarView}
use Rattle.wb_base.specs.declared.symbol.Symbol.{Symbol}
use Rattle.wb_base.specs.declared.symbol.Symbol.TheVariants.{Nonterminal, Terminal}
use Rattle.wb_grammar_theory.proofs.DotLemmas.{top_no_production}
use Rattle.wb_grammar_theory.proofs.KernelLemmas.{snoc_parts}
use Rattle.wb_grammar_theory.proofs.ProductionLemmas.{production_once}
use Rattle.wb_grammar_theory.specs.Lookaheads.{CanReduce, CanShift, HasNoConflict}
use Rattle.wb_grammar_theory.specs.Productions.{IsProduction, end_of, top_of}
use Rattle.wb_grammar_theory.specs.Trees.{Forest, Leaf, leaf, node, nothing, symbols}
use Rattle.wb_scan_theory.proofs.ForestLemmas.{joined_split, symbols_joined}
use Rattle.wb_scan_theory.specs.Machine.{Accepts, accept, ahead, joined, reduce, shift}

-- contexts agree as long as what is ahead does
abbrev pub SameContexts : ℕ → List Leaf → List Leaf → Type 0
SameContexts u (x ∷ xs) (y ∷ ys) = (x.context ≡ y.context) × (ahead u xs ≡ ahead u ys → SameContexts u xs ys)
SameContexts u [] ys = Unit {0}
SameContexts u (x ∷ xs) [] = Unit {0}

same_end : (u : ℕ) (xs : List Leaf) → SameContexts u xs []
same_end u [] = tt
same_end u (x ∷ xs) = tt

-- both reduce by the same production
pub one_reduction : (g : GrammarView) → HasNoConflict g → (prefix prefix' : List Symbol) (t t' p q : ℕ) → prefix ≡ prefix' → t ≡ t' →
    CanReduce g prefix p t → CanReduce g prefix' q t' → p ≡ q
one_reduction g free prefix prefix' t t' p q same next a b =
    elim (cases_eq p q) [
      | inl e ↦ e
      | inr ne ↦ absurd (free prefix t
          (inr (p, q, ne, a, subst (λ z. CanReduce g z q t) (sym same) (subst (λ z. CanReduce g prefix' q z) (sym next) b))))
    ]

pub no_shift : (g : GrammarView) → HasNoConflict g → (prefix prefix' : List Symbol) (t t' p : ℕ) → prefix ≡ prefix' → t ≡ t' →
    CanShift g prefix t → CanReduce g prefix' p t' → ⊥
no_shift g free prefix prefix' t t' p same next a b =
    free prefix t (inl (p, a, subst (λ z. CanReduce g z p t) (sym same) (subst (λ z. CanReduce g prefix' p z) (sym next) b)))

pub cancel_right : (w a b : List Symbol) → a ++ w ≡ b ++ w → a ≡ b
cancel_right [] a b e = sym (nil a) ∙ e ∙ nil b
  where
    nil : (w : List Symbol) → w ++ [] ≡ w
    nil [] = refl
    nil (x ∷ w) = ap (λ z. x ∷ z) (nil w)
cancel_right (x ∷ w) a b e =
    (snoc_parts a b x x (cancel_right w (a ++ x ∷ []) (b ++ x ∷ []) (append_assoc a (x ∷ []) w ∙ e ∙ sym (append_assoc b (x ∷ []) w)))).0

pub one_rule : (g : GrammarView) (p q a b : ℕ) (v w : List Symbol) → p ≡ q → IsProduction g p a v → IsProduction g q b w → (a ≡ b) × (v ≡ w)
one_rule g p q a b v w e r s = production_once g p a b v w r (subst (λ z. IsProduction g z b w) (sym e) s)

-- what stands below is the same, too
pub one_below : (below children below' children' : Forest) → symbols (joined below children) ≡ symbols (joined below' children') →
    symbols children ≡ symbols children' → symbols below ≡ symbols below'
one_below below children below' children' e f =
    cancel_right (symbols children) (symbols below) (symbols below')
    (sym (symbols_joined below children) ∙ e ∙ symbols_joined below' children' ∙ ap (λ z. symbols below' ++ z) (sym f))

pub contexts_agree : (g : GrammarView) → HasNoConflict g → {stack stack' tree tree' : Forest} {xs ys : List Leaf} →
    Accepts g stack xs tree → Accepts g stack' ys tree' → symbols stack ≡ symbols stack' → ahead (end_of g) xs ≡ ahead (end_of g) ys →
    SameContexts (end_of g) xs ys
contexts_agree g free (accept c) m same next = tt
contexts_agree g free (shift x c is r) (accept c') same next = tt
contexts_agree g free (shift x {xs} {stack} c is r) (shift y {xs = ys} {stack = stack'} c' is' r') same next = (
  is ∙ same ∙ sym is',
  λ next'. contexts_agree g free r r'
      (symbols_joined stack (leaf x.terminal x.text nothing) ∙ ap (λ z. z ++ Terminal x.terminal ∷ []) same
      ∙ ap (λ z. symbols stack' ++ Terminal z ∷ []) next ∙ sym (symbols_joined stack' (leaf y.terminal y.text nothing)))
      next',
)
contexts_agree g free (shift x {xs} {stack} c is r) (reduce p a below k {stack = stack'} {tree} {xs = ys} e rule can m) same next =
    absurd (no_shift g free (symbols stack) (symbols stack') x.terminal (ahead (end_of g) ys) p same next c can)
contexts_agree g free (reduce p a below k {xs = xs} e rule can m) (accept c) same next = same_end (end_of g) xs
contexts_agree g free (reduce p a below k {stack} {tree} {xs} e rule can m) (shift y {xs = ys} {stack = stack'} c is r) same next =
    absurd (no_shift g free (symbols stack') (symbols stack) y.terminal (ahead (end_of g) xs) p (sym same) (sym next) c can)
contexts_agree g free (reduce p a below k {stack} {tree} {xs} e rule can m)
    (reduce q b below' k' {stack = stack'} {tree = tree'} {xs = ys} e' rule' can' m') same next =
    let one = one_reduction g free (symbols stack) (symbols stack') (ahead (end_of g) xs) (ahead (end_of g) ys) p q same next can can' in
    let rules = one_rule g p q a b (symbols k) (symbols k') one rule rule' in
    let lower : symbols below ≡ symbols below' =
    one_below below k below' k' (sym (ap symbols e) ∙ same ∙ ap symbols e') rules.1 in
    contexts_agree g free m m'
    (symbols_joined below (node p a k nothing) ∙ ap (λ z. z ++ Nonterminal a ∷ []) lower
    ∙ ap (λ z. symbols below' ++ Nonterminal z ∷ []) rules.0 ∙ sym (symbols_joined below' (node q b k' nothing)))
    next

-- no production is `S' -> S`
pub not_top : (g : GrammarView) (p a : ℕ) (right : List Symbol) → IsProduction g p a right → top_of g ≡ p → ⊥
not_top g p a right rule e = top_no_production g p a right rule (sym e)

pub trees_agree : (g : GrammarView) → HasNoConflict g → {stack tree tree' : Forest} {xs : List Leaf} → Accepts g stack xs tree →
    {stack' : Forest} {ys : List Leaf} → Accepts g stack' ys tree' → stack ≡ stack' → xs ≡ ys → tree ≡ tree'
trees_agree g free (accept c) (accept c') same e = same
trees_agree g free (accept c) (shift y c' is r) same e = cc
trees_agree g free (accept {stack} c) (reduce p a below k {stack = stack'} {tree = tree'} {xs = ys} is rule can m) same e =
    absurd (not_top g p a (symbols k) rule
    (one_reduction g free (symbols stack) (symbols stack') (end_of g) (ahead (end_of g) ys) (top_of g) p (ap symbols same)
    (ap (ahead (end_of g)) e) c can))
trees_agree g free (shift x c is r) (accept c') same e = cc
trees_agree g free (shift x {xs} {stack} c is r) (shift y {xs = ys} {stack = stack'} c' is' r') same e =
    let h : x ≡ y = cc in
    let i : xs ≡ ys = cc in
    trees_agree g free r r'
    (ap (λ z. joined z (leaf x.terminal x.text nothing)) same ∙ ap (λ z. joined stack' (leaf z.terminal z.text nothing)) h) i
trees_agree g free (shift x {xs} {stack} c is r) (reduce p a below k {stack = stack'} {tree = tree'} {xs = ys} is' rule can m) same e =
    absurd (no_shift g free (symbols stack) (symbols stack') x.terminal (ahead (end_of g) ys) p (ap symbols same)
    (ap (ahead (end_of g)) e) c can)
trees_agree g free (reduce p a below k {stack} {tree} {xs} is rule can m) (accept {stack = stack'} c) same e =
    absurd (not_top g p a (symbols k) rule
    (one_reduction g free (symbols stack') (symbols stack) (end_of g) (ahead (end_of g) xs) (top_of g) p (sym (ap symbols same))
    (sym (ap (ahead (end_of g)) e)) c can))
trees_agree g free (reduce p a below k {stack} {tree} {xs} is rule can m) (shift y {xs = ys} {stack = stack'} c is' r) same e =
    absurd (no_shift g free (symbols stack') (symbols stack) y.terminal (ahead (end_of g) xs) p (sym (ap symbols same))
    (sym (ap (ahead (end_of g)) e)) c can)
trees_agree g free (reduce p a below k {stack} {tree} {xs} is rule can m)
    (reduce q b below' k' {stack = stack'} {tree = tree'} {xs = ys} is' rule' can' m') same e =
    let one = one_reduction g free (symbols stack) (symbols stack') (ahead (end_of g) xs) (ahead (end_of g) ys) p q (ap symbols same)
    (ap (ahead (end_of g)) e) can can' in
    let rules = one_rule g p q a b (symbols k) (symbols k') one rule rule' in
    let whole : joined below k ≡ joined below' k' = sym is ∙ same ∙ is' in
    let lower : symbols below ≡ symbols below' = one_below below k below' k' (ap symbols whole) rules.1 in
    let parts = joined_split below below' k k' lower whole in
    let b_is : a ≡ b = rules.0 in
    let h0 : below ≡ below' = parts.0 in
    let h1 : k ≡ k' = parts.1 in
    let h2 : joined below (node p a k nothing) ≡ joined below' (node q b k' nothing) = cc in
    trees_agree g free m m' h2 e
