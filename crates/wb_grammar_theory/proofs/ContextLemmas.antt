-- The leaves of a forest are those that paths lead to, with their left contexts.
use Rattle.std.proofs.Common.{◌≡◌, ◌<◌, zero, suc, List, [], ◌∷◌, ◌++◌, length, map, get_or, refl, sym, ◌∙◌, ap, subst, append_assoc, inl}
use Rattle.std.proofs.Common.{inr, arith}
use Rattle.std.specs.Prelude.{Contains}
use Rattle.std.proofs.lemmas.List.{map-append, length-map, get_or-map}
use Rattle.std.proofs.lemmas.List.Elements.{Contains-get_or, Contains-append_left, Contains-append_right, Contains-append_cases}
use Rattle.wb_base.specs.declared.symbol.Symbol.{Symbol}
use Rattle.wb_base.specs.declared.symbol.Symbol.TheVariants.{Terminal, Nonterminal}
use Rattle.wb_grammar_theory.specs.Trees.{Forest, nothing, leaf, node, Leaf, leaves, LeftContext, here, past_leaf, past_node, down}

-- the leaf with more symbols before its context
abbrev pub behind : List Symbol → Leaf → Leaf
behind a x = record x { context = a ++ x.context }

shifted : (a b : List Symbol) (f : Forest) → leaves (a ++ b) f ≡ map (behind a) (leaves b f)
shifted a b nothing = refl
shifted a b (leaf t l r) =
    ap (λ z. record { context = a ++ b; terminal = t; text = l } ∷ z)
    (ap (λ z. leaves z r) (append_assoc a b (Terminal t ∷ [])) ∙ shifted a (b ++ Terminal t ∷ []) r)
shifted a b (node p n k r) =
    ap (λ z. z ++ leaves ((a ++ b) ++ Nonterminal n ∷ []) r) (shifted a b k)
    ∙ (ap (λ z. map (behind a) (leaves b k) ++ z)
    (ap (λ z. leaves z r) (append_assoc a b (Nonterminal n ∷ [])) ∙ shifted a (b ++ Nonterminal n ∷ []) r)
    ∙ sym (map-append (behind a) (leaves b k) (leaves (b ++ Nonterminal n ∷ []) r)))

-- the leaves after one symbol
beside : (x : Symbol) (f : Forest) → leaves (x ∷ []) f ≡ map (behind (x ∷ [])) (leaves [] f)
beside x f = shifted (x ∷ []) [] f

contains_map : (a : List Symbol) (xs : List Leaf) (y x : Leaf) → Contains xs y → x ≡ behind a y → Contains (map (behind a) xs) x
contains_map a xs y x (k, lt, is) e =
    (k, subst (λ n. k < n) (sym (length-map xs (behind a))) lt, get_or-map (behind a) xs k y x lt ∙ (ap (behind a) is ∙ sym e))

-- the leaf of which another is the one after these symbols
record Before (a : List Symbol) (xs : List Leaf) (x : Leaf) : Type 0 where
  found : Leaf
  within : Contains xs found
  is : x ≡ behind a found

contains_unmap : (a : List Symbol) (xs : List Leaf) (x : Leaf) → Contains (map (behind a) xs) x → Before a xs x
contains_unmap a xs x (k, lt, is) =
    let within : k < length xs = subst (λ n. k < n) (length-map xs (behind a)) lt in
    record { found = get_or xs k x; within = Contains-get_or xs k x within; is = sym is ∙ get_or-map (behind a) xs k x x within }

later : (y x : Leaf) (xs : List Leaf) → Contains xs x → Contains (y ∷ xs) x
later y x xs (k, lt, is) = (suc k, omega arith, is)

pub context_listed : {f : Forest} {x : Leaf} → LeftContext f x → Contains (leaves [] f) x
context_listed (here t text rest is) = (0, omega arith, sym is)
context_listed (past_leaf t text y {rest} {x} h is) =
    later _ x (leaves (Terminal t ∷ []) rest) (subst (λ z. Contains z x) (sym (beside (Terminal t) rest))
    (contains_map (Terminal t ∷ []) (leaves [] rest) y x (context_listed h) is))
context_listed (past_node p a children y {rest} {x} h is) =
    Contains-append_right (leaves [] children) (leaves (Nonterminal a ∷ []) rest) x
    (subst (λ z. Contains z x) (sym (beside (Nonterminal a) rest))
    (contains_map (Nonterminal a ∷ []) (leaves [] rest) y x (context_listed h) is))
context_listed (down p a rest {children} {x} h) = Contains-append_left (leaves [] children) (leaves (Nonterminal a ∷ []) rest) x
    (context_listed h)

pub listed_context : (f : Forest) (x : Leaf) → Contains (leaves [] f) x → LeftContext f x
listed_context nothing x (k, lt, is) = absurd (omega arith)
listed_context (leaf t text rest) x (zero, lt, is) = here t text rest (sym is)
listed_context (leaf t text rest) x (suc k, lt, is) =
    let b = contains_unmap (Terminal t ∷ []) (leaves [] rest) x
    (subst (λ z. Contains z x) (beside (Terminal t) rest) (k, omega arith, is)) in
    past_leaf t text b.found (listed_context rest b.found b.within) b.is
listed_context (node p a children rest) x h = elim (Contains-append_cases (leaves [] children) (leaves (Nonterminal a ∷ []) rest) x h) [
  | inl left ↦ down p a rest (listed_context children x left)
  | inr right ↦ (let b = contains_unmap (Nonterminal a ∷ []) (leaves [] rest) x
      (subst (λ z. Contains z x) (beside (Nonterminal a) rest) right) in
      past_node p a children b.found (listed_context rest b.found b.within) b.is)
]
