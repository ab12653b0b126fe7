-- Kernels of prefixes.
use Rattle.std.proofs.Common.{◌≡◌, ◌≢◌, ℕ, ◌+◌, List, [], ◌∷◌, ◌++◌, refl, sym, ◌∙◌, ap, subst, inl, inr, arith}
use Rattle.wb_base.specs.declared.symbol.Symbol.{Symbol}
use Rattle.wb_base.specs.declared.symbol.Symbol.TheVariants.{Nonterminal}
use Rattle.wb_base.specs.Grammar.{GrammarView}
use Rattle.wb_grammar_theory.specs.declared.item.Item.{Item}
use Rattle.wb_grammar_theory.specs.Items.{after_dot, advance, IsValidItem, start, close, move, HasItem, IsKernelItem, SameKernel}
use Rattle.wb_grammar_theory.specs.Items.{start_item}
use Rattle.wb_grammar_theory.specs.Productions.{end_of}
use Rattle.wb_grammar_theory.specs.Shape.{IsLive}

-- an item of a prefix is one of every prefix with the same kernel
pub kernel_decides : {g : GrammarView} {prefix : List Symbol} {item : Item} {t : ℕ} → IsLive g → IsValidItem g prefix item t →
    (other : List Symbol) → SameKernel g prefix other → HasItem g other item
kernel_decides {g} live start other same = ((same (start_item g)).0 ((end_of g, start), inr (refl, refl))).0
kernel_decides live (close item t b rest q u right v is rule f) other same =
    let (t', v') = kernel_decides live v other same in
    let (u', f') = live item (Nonterminal b) rest is t' in
    (u', close item t' b rest q u' right v' is rule f')
kernel_decides {g} live (move item x rest prefix {t} {longer} {moved} v is longer_is moved_is) other same =
    ((same moved).0 (
      (t, move item x rest prefix v is longer_is moved_is),
      inl
          (λ zero_dot. absurd (dot_moved item moved moved_is zero_dot)),
    )).0
  where
    dot_moved : (item moved : Item) → moved ≡ advance item → moved.dot ≡ 0 → ⊥
    dot_moved item moved e z = let f : moved.dot ≡ item.dot + 1 = ap (λ i. i.dot) e in omega arith

pub snoc_parts : (a b : List Symbol) (x y : Symbol) → a ++ x ∷ [] ≡ b ++ y ∷ [] → (a ≡ b) × (x ≡ y)
snoc_parts [] [] x y e = (refl, (cc))
snoc_parts [] (c ∷ []) x y e = cc
snoc_parts [] (c ∷ d ∷ b) x y e = cc
snoc_parts (c ∷ []) [] x y e = cc
snoc_parts (c ∷ d ∷ a) [] x y e = cc
snoc_parts (c ∷ a) (d ∷ b) x y e =
    let rest = snoc_parts a b x y (cc) in
    (let h : a ≡ b = rest.0 in cc, rest.1)

pub snoc_not_nil : (a : List Symbol) (x : Symbol) → a ++ x ∷ [] ≡ [] → ⊥
snoc_not_nil [] x e = cc
snoc_not_nil (y ∷ a) x e = cc

-- where an item of a longer prefix came from
pub record Moved (g : GrammarView) (prefix : List Symbol) (x : Symbol) (moved : Item) (t : ℕ) : Type 0 where
  pub item : Item
  pub rest : List Symbol
  pub valid : IsValidItem g prefix item t
  pub before_dot : after_dot g item ≡ x ∷ rest
  pub is : moved ≡ advance item

pub moved_from : {g : GrammarView} {longer : List Symbol} {moved : Item} {t : ℕ} → IsValidItem g longer moved t → moved.dot ≢ 0 →
    (prefix : List Symbol) (x : Symbol) → longer ≡ prefix ++ x ∷ [] → Moved g prefix x moved t
moved_from start ne prefix x e = absurd (ne refl)
moved_from (close item t b rest q u right v is rule f) ne prefix x e = absurd (ne refl)
moved_from {g} (move item y rest shorter {t} v is longer_is moved_is) ne prefix x e =
    let p = snoc_parts shorter prefix y x (sym longer_is ∙ e) in
    record {
      item = item;
      rest = rest;
      valid = subst (λ z. IsValidItem g z item t) p.0 v;
      before_dot = subst (λ z. after_dot g item ≡ z ∷ rest) p.1 is;
      is = moved_is;
    }

half : {g : GrammarView} → IsLive g → (a b : List Symbol) (x : Symbol) → SameKernel g a b → (item : Item) →
    IsKernelItem g (a ++ x ∷ []) item → IsKernelItem g (b ++ x ∷ []) item
half live a b x same item ((t, v), inl ne) =
    let m = moved_from v ne a x refl in
    let (t', v') = kernel_decides live m.valid b same in
    ((t', move m.item x m.rest b v' m.before_dot refl m.is), inl ne)
half live a b x same item (h, inr (is, empty)) = absurd (snoc_not_nil a x empty)

flip : {g : GrammarView} {a b : List Symbol} → SameKernel g a b → SameKernel g b a
flip same item = ((same item).1, (same item).0)

-- prefixes with the same kernel have the same kernels after one more symbol
pub same_move : {g : GrammarView} → IsLive g → (a b : List Symbol) (x : Symbol) → SameKernel g a b →
    SameKernel g (a ++ x ∷ []) (b ++ x ∷ [])
same_move live a b x same item = (half live a b x same item, half live b a x (flip same) item)
