-- Laws of forests.
use Rattle.std.proofs.Common.{List, [], ap, append_assoc, arith, refl, sym, ℕ, ◌++◌, ◌+◌, ◌∙◌, ◌∷◌, ◌≡◌}
use Rattle.wb_base.specs.Grammar.{GrammarView}
use Rattle.wb_base.specs.declared.symbol.Symbol.{Symbol}
use Rattle.wb_base.specs.declared.symbol.Symbol.TheVariants.{Nonterminal, Terminal}
use Rattle.wb_grammar_theory.proofs.DerivesLemmas.{Derives-append}
use Rattle.wb_grammar_theory.proofs.TreeLemmas.{forest_derives}
use Rattle.wb_grammar_theory.specs.Derives.{Derives, IsFirst, done, keep}
use Rattle.wb_grammar_theory.specs.Trees.{Forest, IsDerived, Leaf, leaf, leaves, node, nothing, symbols, text_of}
use Rattle.wb_scan_theory.specs.Bounds.{nodes}
use Rattle.wb_scan_theory.specs.Machine.{ahead, joined}
use Rattle.wb_scan_theory.specs.Readings.{terminals_of}

pub append_nil : {A : Type 0} (w : List A) → w ++ [] ≡ w
append_nil [] = refl
append_nil (x ∷ w) = ap (λ z. x ∷ z) (append_nil w)

pub joined_none : (a : Forest) → joined a nothing ≡ a
joined_none nothing = refl
joined_none (leaf t l r) = ap (λ z. leaf t l z) (joined_none r)
joined_none (node p a c r) = ap (λ z. node p a c z) (joined_none r)

pub joined_assoc : (a b c : Forest) → joined (joined a b) c ≡ joined a (joined b c)
joined_assoc nothing b c = refl
joined_assoc (leaf t l r) b c = ap (λ z. leaf t l z) (joined_assoc r b c)
joined_assoc (node p a k r) b c = ap (λ z. node p a k z) (joined_assoc r b c)

pub symbols_joined : (a b : Forest) → symbols (joined a b) ≡ symbols a ++ symbols b
symbols_joined nothing b = refl
symbols_joined (leaf t l r) b = ap (λ z. Terminal t ∷ z) (symbols_joined r b)
symbols_joined (node p a k r) b = ap (λ z. Nonterminal a ∷ z) (symbols_joined r b)

pub leaves_joined : (prefix : List Symbol) (a b : Forest) → leaves prefix (joined a b) ≡ leaves prefix a ++ leaves (prefix ++ symbols a) b
leaves_joined prefix nothing b = ap (λ z. leaves z b) (sym (append_nil prefix))
leaves_joined prefix (leaf t l r) b =
    ap (λ z. record { context = prefix; terminal = t; text = l } ∷ z)
    (leaves_joined (prefix ++ Terminal t ∷ []) r b
    ∙ ap (λ z. leaves (prefix ++ Terminal t ∷ []) r ++ leaves z b) (append_assoc prefix (Terminal t ∷ []) (symbols r)))
leaves_joined prefix (node p a k r) b =
    ap (λ z. leaves prefix k ++ z)
    (leaves_joined (prefix ++ Nonterminal a ∷ []) r b
    ∙ ap (λ z. leaves (prefix ++ Nonterminal a ∷ []) r ++ leaves z b) (append_assoc prefix (Nonterminal a ∷ []) (symbols r)))
    ∙ sym (append_assoc (leaves prefix k) (leaves (prefix ++ Nonterminal a ∷ []) r) (leaves (prefix ++ Nonterminal a ∷ symbols r) b))

pub derived_joined : (g : GrammarView) (a b : Forest) → IsDerived g a → IsDerived g b → IsDerived g (joined a b)
derived_joined g nothing b da db = db
derived_joined g (leaf t l r) b da db = derived_joined g r b da db
derived_joined g (node p a k r) b (rule, dk, dr) db = (rule, dk, derived_joined g r b dr db)

pub derived_left : (g : GrammarView) (a b : Forest) → IsDerived g (joined a b) → IsDerived g a
derived_left g nothing b d = tt
derived_left g (leaf t l r) b d = derived_left g r b d
derived_left g (node p a k r) b (rule, dk, dr) = (rule, dk, derived_left g r b dr)

pub derived_right : (g : GrammarView) (a b : Forest) → IsDerived g (joined a b) → IsDerived g b
derived_right g nothing b d = d
derived_right g (leaf t l r) b d = derived_right g r b d
derived_right g (node p a k r) b (rule, dk, dr) = derived_right g r b dr

pub nodes_joined : (a b : Forest) → nodes (joined a b) ≡ nodes a + nodes b
nodes_joined nothing b = omega arith
nodes_joined (leaf t l r) b = nodes_joined r b
nodes_joined (node p a k r) b = let e : nodes (joined r b) ≡ nodes r + nodes b = nodes_joined r b in omega arith

pub terminals_joined : (a b : List Leaf) → terminals_of (a ++ b) ≡ terminals_of a ++ terminals_of b
terminals_joined [] b = refl
terminals_joined (x ∷ a) b = ap (λ z. x.terminal ∷ z) (terminals_joined a b)

-- where the roots of two forests have the same symbols, equal joined forests are equal in both parts
pub joined_split : (a a' b b' : Forest) → symbols a ≡ symbols a' → joined a b ≡ joined a' b' → (a ≡ a') × (b ≡ b')
joined_split nothing nothing b b' s e = (refl, e)
joined_split nothing (leaf t l r) b b' s e = cc
joined_split nothing (node p n k r) b b' s e = cc
joined_split (leaf t l r) nothing b b' s e = cc
joined_split (leaf t l r) (leaf t' l' r') b b' s e =
    let i = joined_split r r' b b' (cc) (cc) in
    (let h : r ≡ r' = i.0 in cc, i.1)
joined_split (leaf t l r) (node p n k r') b b' s e = cc
joined_split (node p n k r) nothing b b' s e = cc
joined_split (node p n k r) (leaf t l r') b b' s e = cc
joined_split (node p n k r) (node p' n' k' r') b b' s e =
    let i = joined_split r r' b b' (cc) (cc) in
    (let h : r ≡ r' = i.0 in cc, i.1)

-- what is ahead of a forest is in IsFirst of its symbols and what follows
pub forest_first : (g : GrammarView) (prefix : List Symbol) (f : Forest) (u : ℕ) → IsDerived g f →
    IsFirst g (symbols f ++ Terminal u ∷ []) (ahead u (leaves prefix f))
forest_first g prefix f u d = go (leaves prefix f) (forest_derives g prefix f d)
  where
    go : (xs : List Leaf) → Derives g (symbols f) (text_of xs) → IsFirst g (symbols f ++ Terminal u ∷ []) (ahead u xs)
    go [] r = ([], Derives-append r (keep (Terminal u) done))
    go (x ∷ xs) r = (text_of xs ++ Terminal u ∷ [], Derives-append r (keep (Terminal u) done))

pub ahead_joined : (u : ℕ) (a b : List Leaf) → ahead u (a ++ b) ≡ ahead (ahead u b) a
ahead_joined u [] b = refl
ahead_joined u (x ∷ a) b = refl
