-- Where valid items come from, and trees that begin with a stack.
use Rattle.std.proofs.Common.{List, [], ap, append_assoc, arith, inl, inr, refl, subst, sym, ℕ, ◌++◌, ◌+◌, ◌∙◌, ◌∷◌, ◌≡◌, ◌⊎◌}
use Rattle.wb_base.specs.Grammar.{GrammarView}
use Rattle.wb_base.specs.declared.symbol.Symbol.{Symbol}
use Rattle.wb_base.specs.declared.symbol.Symbol.TheVariants.{Nonterminal, Terminal}
use Rattle.wb_grammar_theory.proofs.DotLemmas.{after_advance, after_initial, after_start}
use Rattle.wb_grammar_theory.proofs.KernelLemmas.{kernel_decides}
use Rattle.wb_grammar_theory.proofs.ShiftLemmas.{top_end}
use Rattle.wb_grammar_theory.specs.Items.{IsValidItem, IsViablePrefix, advance, after_dot, close, initial_item, move, start}
use Rattle.wb_grammar_theory.specs.Lookaheads.{CanReduce}
use Rattle.wb_grammar_theory.specs.Productions.{IsProduction, end_of, right_in, top_of}
use Rattle.wb_grammar_theory.specs.Shape.{IsLive}
use Rattle.wb_grammar_theory.specs.Trees.{DerivationTree, Forest, IsDerived, Leaf, leaf, leaves, node, nothing, symbols}
use Rattle.wb_grammar_theory.specs.declared.item.Item.{Item}
use Rattle.wb_scan_theory.proofs.ForestLemmas.{append_nil, derived_joined, derived_left, derived_right, joined_assoc, leaves_joined}
use Rattle.wb_scan_theory.proofs.ForestLemmas.{symbols_joined}
use Rattle.wb_scan_theory.specs.Inner.Runs.{HasTrees}
use Rattle.wb_scan_theory.specs.Machine.{joined}

-- what is before the dot is the end of the prefix
pub record Back (g : GrammarView) (prefix : List Symbol) (item : Item) (u : ℕ) : Type 0 where
  pub below : List Symbol
  pub before : List Symbol
  pub is : prefix ≡ below ++ before
  pub right_is : before ++ after_dot g item ≡ right_in g.productions g.start item.production
  pub opened : IsValidItem g below (initial_item item.production) u

pub back : (g : GrammarView) {prefix : List Symbol} {item : Item} {u : ℕ} → IsValidItem g prefix item u → Back g prefix item u
back g start = record { below = []; before = []; is = refl; right_is = refl; opened = start }
back g (close item t b rest q u right {prefix} v e rule f) =
    record { below = prefix; before = []; is = sym (append_nil prefix); right_is = refl; opened = close item t b rest q u right v e rule f }
back g (move item x rest prefix {t} {longer} {moved} v e longer_is moved_is) =
    let b = back g v in
    let e' : after_dot g moved ≡ rest = ap (after_dot g) moved_is ∙ after_advance g item x rest e in
    let p : moved.production ≡ item.production = ap (λ i. i.production) moved_is in
    record {
      below = b.below;
      before = b.before ++ x ∷ [];
      is = longer_is ∙ ap (λ z. z ++ x ∷ []) b.is ∙ append_assoc b.below b.before (x ∷ []);
      right_is = append_assoc b.before (x ∷ []) (after_dot g moved) ∙ ap (λ z. b.before ++ x ∷ z) e' ∙ ap (λ z. b.before ++ z) (sym e)
          ∙ b.right_is
          ∙ ap (right_in g.productions g.start) (sym p);
      opened = subst (λ z. IsValidItem g b.below (initial_item z) t) (sym p) b.opened;
    }

-- an item with its dot at the left end is the start item, or was opened by an item before its left side
pub record OpenedBy (g : GrammarView) (prefix : List Symbol) (q : ℕ) : Type 0 where
  pub left : ℕ
  pub right : List Symbol
  pub rule : IsProduction g q left right
  pub item : Item
  pub rest : List Symbol
  pub t : ℕ
  pub is_valid : IsValidItem g prefix item t
  pub before_dot : after_dot g item ≡ Nonterminal left ∷ rest

pub opened_by : (g : GrammarView) {prefix : List Symbol} {item : Item} {u : ℕ} (q : ℕ) → IsValidItem g prefix item u →
    item ≡ initial_item q → ((q ≡ top_of g) × (prefix ≡ [])) ⊎ OpenedBy g prefix q
opened_by g q start e = inl (sym (ap (λ i. i.production) e), refl)
opened_by g q (close item t b rest p u right v is rule f) e =
    let h : p ≡ q = ap (λ i. i.production) e in
    inr (record {
      left = b;
      right = right;
      rule = subst (λ z. IsProduction g z b right) h rule;
      item = item;
      rest = rest;
      t = t;
      is_valid =
          v;
      before_dot = is;
    })
opened_by g q (move item x rest prefix v is longer_is moved_is) e =
    let h : item.dot + 1 ≡ 0 = sym (ap (λ i. i.dot) moved_is) ∙ ap (λ i. i.dot) e in absurd (omega arith)

-- a forest in two parts
pub record Parts (f : Forest) (u v : List Symbol) : Type 0 where
  pub left : Forest
  pub right : Forest
  pub is : f ≡ joined left right
  pub left_is : symbols left ≡ u
  pub right_is : symbols right ≡ v

pub parts_of : (f : Forest) (u v : List Symbol) → symbols f ≡ u ++ v → Parts f u v
parts_of f [] v e = record { left = nothing; right = f; is = refl; left_is = refl; right_is = e }
parts_of nothing (x ∷ u) v e = cc
parts_of (leaf t l r) (x ∷ u) v e =
    let p = parts_of r u v (cc) in
    let h : Terminal t ≡ x = cc in
    record {
      left = leaf t l p.left;
      right = p.right;
      is = ap (λ z. leaf t l z) p.is;
      left_is = ap (λ z. Terminal t ∷ z) p.left_is
          ∙ ap (λ z. z ∷ u) h;
      right_is = p.right_is;
    }
parts_of (node n a k r) (x ∷ u) v e =
    let p = parts_of r u v (cc) in
    let h : Nonterminal a ≡ x = cc in
    record {
      left = node n a k p.left;
      right = p.right;
      is = ap (λ z. node n a k z) p.is;
      left_is = ap (λ z. Nonterminal a ∷ z) p.left_is
          ∙ ap (λ z. z ∷ u) h;
      right_is = p.right_is;
    }

-- what a reduction does to a stack: it accepts, or the right side stands on top_of and the stack stays one of a prefix
pub record Reduced (g : GrammarView) (stack : Forest) (p : ℕ) : Type 0 where
  pub left : ℕ
  pub below : Forest
  pub children : Forest
  pub is : stack ≡ joined below children
  pub rule : IsProduction g p left (symbols children)
  pub prefix : IsViablePrefix g (symbols (joined below (node p left children nothing)))

pub reduction_finds : (g : GrammarView) → IsLive g → (stack : Forest) (p t : ℕ) → CanReduce g (symbols stack) p t →
    ((p ≡ top_of g) × (t ≡ end_of g) × (symbols stack ≡ Nonterminal g.start ∷ [])) ⊎ Reduced g stack p
reduction_finds g live stack p t can =
    let item : Item = can.item in
    let p_is : item.production ≡ p = can.production in
    let complete : after_dot g item ≡ [] = can.complete in
    let (other, same, v) = can.lookahead in
    let (u, v') = kernel_decides live v (symbols stack) (λ i. ((same i).1, (same i).0)) in
    let b = back g v' in
    let r : b.before ≡ right_in g.productions g.start item.production = sym (append_nil b.before) ∙ ap (λ z. b.before ++ z) (sym complete)
    ∙ b.right_is in
    elim (opened_by g item.production b.opened refl) [
      | inl (is_top, empty) ↦ inl (
        sym p_is ∙ is_top,
        top_end v is_top,
        b.is ∙ ap (λ z. z ++ b.before) empty ∙ r ∙ ap (right_in g.productions g.start) is_top ∙ after_start g,
      )
      | inr o ↦
          let rule : IsProduction g p o.left o.right = subst (λ z. IsProduction g z o.left o.right) p_is o.rule in
          let parts = parts_of stack b.below b.before b.is in
          let right_is : symbols parts.right ≡ o.right = parts.right_is ∙ r ∙ after_initial g item.production o.left o.right o.rule in
          inr (record {
            left = o.left;
            below = parts.left;
            children = parts.right;
            is = parts.is;
            rule = subst (λ z. IsProduction g p o.left z) (sym right_is) rule;
            prefix = (
              advance o.item,
              o.t,
              move o.item (Nonterminal o.left) o.rest b.below o.is_valid o.before_dot
                  (symbols_joined parts.left (node p o.left parts.right nothing)
                  ∙ ap (λ z. z ++ Nonterminal o.left ∷ []) parts.left_is) refl,
            );
          })
    ]

-- a tree that begins with the leaves of a stack
pub record Whole (g : GrammarView) (stack : Forest) : Type 0 where
  pub tree : Forest
  pub is_tree : DerivationTree g tree
  pub rest : List Leaf
  pub is : leaves [] tree ≡ leaves [] stack ++ rest

shorter : (g : GrammarView) (stack f : Forest) → Whole g (joined stack f) → Whole g stack
shorter g stack f w = record {
  tree = w.tree;
  is_tree = w.is_tree;
  rest = leaves (symbols stack) f ++ w.rest;
  is = w.is ∙ ap (λ z. z ++ w.rest) (leaves_joined [] stack f) ∙ append_assoc (leaves [] stack) (leaves (symbols stack) f) w.rest;
}

pub whole_from : (g : GrammarView) → HasTrees g → {prefix : List Symbol} {item : Item} {t : ℕ} → IsValidItem g prefix item t →
    (stack f : Forest) → IsDerived g stack → symbols stack ≡ prefix → IsDerived g f → symbols f ≡ after_dot g item →
    Whole g (joined stack f)
whole_from g productive start nothing f ds e df is =
    record { tree = f; is_tree = record { derived = df; root = is ∙ after_start g }; rest = []; is = sym (append_nil (leaves [] f)) }
whole_from g productive start (leaf t l r) f ds e df is = cc
whole_from g productive start (node p a k r) f ds e df is = cc
whole_from g productive (close item t b rest q u right {prefix} v is_b rule first) stack f ds e df is =
    let (later, dl, later_is) = productive (advance item) in
    let named : symbols later ≡ rest = later_is ∙ after_advance g item (Nonterminal b) rest is_b in
    let right_is : symbols f ≡ right = is ∙ after_initial g q b right rule in
    let w = whole_from g productive v stack (node q b f later) ds e (subst (λ z. IsProduction g q b z) (sym right_is) rule, df, dl)
    (ap (λ z. Nonterminal b ∷ z) named ∙ sym is_b) in
    record {
      tree = w.tree;
      is_tree = w.is_tree;
      rest = leaves (symbols stack ++ Nonterminal b ∷ []) later ++ w.rest;
      is = w.is ∙ ap (λ z. z ++ w.rest) (leaves_joined [] stack (node q b f later)
          ∙ sym (append_assoc (leaves [] stack) (leaves (symbols stack) f) (leaves (symbols stack ++ Nonterminal b ∷ []) later))
          ∙ ap (λ z. z ++ leaves (symbols stack ++ Nonterminal b ∷ []) later) (sym (leaves_joined [] stack f)))
          ∙ append_assoc (leaves [] (joined stack f)) (leaves (symbols stack ++ Nonterminal b ∷ []) later) w.rest;
    }
whole_from g productive (move item x rest prefix {t} {longer} {moved} v is_x longer_is moved_is) stack f ds e df is =
    let parts = parts_of stack prefix (x ∷ []) (e ∙ longer_is) in
    let split : IsDerived g (joined parts.left parts.right) = subst (λ z. IsDerived g z) parts.is ds in
    let dl = derived_left g parts.left parts.right split in
    let dr = derived_right g parts.left parts.right split in
    let rest_is : symbols f ≡ rest = is ∙ ap (after_dot g) moved_is ∙ after_advance g item x rest is_x in
    let w = whole_from g productive v parts.left (joined parts.right f) dl parts.left_is (derived_joined g parts.right f dr df)
    (symbols_joined parts.right f ∙ ap (λ z. z ++ symbols f) parts.right_is ∙ ap (λ z. x ∷ z) rest_is ∙ sym is_x) in
    subst (λ z. Whole g z) (sym (joined_assoc parts.left parts.right f) ∙ ap (λ z. joined z f) (sym parts.is)) w

-- a stack of a prefix begins some tree
pub whole : (g : GrammarView) → HasTrees g → (stack : Forest) → IsDerived g stack → IsViablePrefix g (symbols stack) → Whole g stack
whole g productive stack ds (item, t, v) =
    let (f, df, is) = productive item in
    shorter g stack f (whole_from g productive v stack f ds refl df is)
