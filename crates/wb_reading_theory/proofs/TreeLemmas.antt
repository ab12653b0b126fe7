-- Trees of a grammar that begins with another, whose first leaves are no markers: the other has trees that begin with these leaves.
use Rattle.std.proofs.Common.{◌≡◌, ◌⊎◌, ◌∙◌, ◌+◌, ◌<◌, ◌≤◌, ◌++◌, ◌∷◌, ℕ, Bool, List, Some, [], ap, append_assoc, inl, inr, length, refl}
use Rattle.std.proofs.Common.{subst, sym}
use Rattle.std.proofs.Common.{arith}
use Rattle.std.specs.Prelude.{All, slice_get}
use Rattle.std.proofs.lemmas.List.Elements.{All-cons, All-head, All-nil, All-same, All-tail}
use Rattle.wb_lemmas.proofs.Elements.{all_at}
use Rattle.wb_lemmas.proofs.Places.{append_keeps, at_append}
use Rattle.wb_base.specs.declared.symbol.Symbol.{Symbol}
use Rattle.wb_base.specs.declared.symbol.Symbol.TheVariants.{Nonterminal, Terminal}
use Rattle.wb_base.specs.Grammar.{GrammarView, Production, IsGrammar, IsSymbolBelow}
use Rattle.wb_termset.specs.Sets.{IsMember}
use Rattle.wb_grammar_theory.specs.Productions.{IsProduction}
use Rattle.wb_grammar_theory.specs.Shape.{IsReduced}
use Rattle.wb_grammar_theory.specs.Trees.{DerivationTree, Forest, IsDerived, Leaf, leaf, leaves, node, nothing, symbols}
use Rattle.wb_grammar_theory.proofs.ProductionLemmas.{production_below}
use Rattle.wb_grammar_theory.proofs.TreeLemmas.{derives_grown}
use Rattle.wb_scan_theory.specs.Machine.{joined}
use Rattle.wb_scan_theory.proofs.ForestLemmas.{append_nil, derived_joined, symbols_joined}
use Rattle.wb_reading_theory.specs.Grammars.{ExtendsGrammar, IsFurther, on_further, on_marker}
use Rattle.wb_reading_theory.specs.Markers.{HasNoMarker}

-- leaves without markers, in parts
pub plain_joined : (markers : List Bool) (xs ys : List Leaf) → HasNoMarker markers xs → HasNoMarker markers ys →
    HasNoMarker markers (xs ++ ys)
plain_joined markers [] ys one other = other
plain_joined markers (x ∷ xs) ys (not, one) other = (not, plain_joined markers xs ys one other)

pub plain_left : (markers : List Bool) (xs ys : List Leaf) → HasNoMarker markers (xs ++ ys) → HasNoMarker markers xs
plain_left markers [] ys plain = tt
plain_left markers (x ∷ xs) ys (not, plain) = (not, plain_left markers xs ys plain)

pub plain_right : (markers : List Bool) (xs ys : List Leaf) → HasNoMarker markers (xs ++ ys) → HasNoMarker markers ys
plain_right markers [] ys plain = plain
plain_right markers (x ∷ xs) ys (not, plain) = plain_right markers xs ys plain

-- two ways to part a list: the first part is longer in the one or in the other
data Parted {A : Type 0} (a b xs ys : List A) : Type 0 where
  within : (rest : List A) → a ≡ xs ++ rest → ys ≡ rest ++ b → Parted a b xs ys
  beyond : (rest : List A) → xs ≡ a ++ rest → b ≡ rest ++ ys → Parted a b xs ys

parted : {A : Type 0} (a b xs ys : List A) → a ++ b ≡ xs ++ ys → Parted a b xs ys
parted a b [] ys e = within a refl (sym e)
parted [] b (x ∷ xs) ys e = beyond (x ∷ xs) refl e
parted (y ∷ a) b (x ∷ xs) ys e =
    let head : y ≡ x = cc in
    go head (parted a b xs ys (cc))
  where
    go : y ≡ x → Parted a b xs ys → Parted (y ∷ a) b (x ∷ xs) ys
    go head (within rest is others) = within rest (λ i. head i ∷ is i) others
    go head (beyond rest is others) = beyond rest (λ i. sym head i ∷ is i) others

-- symbols of a grammar
abbrev pub AreBelow : GrammarView → List Symbol → Type 0
AreBelow g w = All (IsSymbolBelow g.terminals g.nonterminals) w

-- in a reduced grammar any symbols have trees
pub trees_of : (g : GrammarView) → IsReduced g → (w : List Symbol) → AreBelow g w → (f : Forest) × IsDerived g f × (symbols f ≡ w)
trees_of g ok [] all = (nothing, tt, refl)
trees_of g ok (Terminal t ∷ w) all =
    let (f, d, is) = trees_of g ok w (All-tail (IsSymbolBelow g.terminals g.nonterminals) (Terminal t) w all) in
    (leaf t [] f, d, ap (λ z. Terminal t ∷ z) is)
trees_of g ok (Nonterminal a ∷ w) all =
    let (f, d, is) = trees_of g ok w (All-tail (IsSymbolBelow g.terminals g.nonterminals) (Nonterminal a) w all) in
    let (v, derives, text) = ok.productive a (All-head (IsSymbolBelow g.terminals g.nonterminals) (Nonterminal a) w all) in
    let one = derives_grown derives text in (
      joined one.forest f,
      derived_joined g one.forest f one.derived d,
      symbols_joined one.forest f ∙ ap (λ z. z ++ symbols f) one.roots ∙ ap (λ z. Nonterminal a ∷ z) is,
    )

-- trees of the smaller grammar with the same roots, whose first leaves are these
pub record BeginsSo (g : GrammarView) (prefix roots : List Symbol) (read : List Leaf) : Type 0 where
  pub forest : Forest
  pub derived : IsDerived g forest
  pub same : symbols forest ≡ roots
  pub rest : List Leaf
  pub is : leaves prefix forest ≡ read ++ rest

-- of what grammar a production is
data RuleOf (g : GrammarView) (markers : List Bool) (p a : ℕ) (right : List Symbol) : Type 0 where
  of_smaller : IsProduction g p a right → RuleOf g markers p a right
  on_other : g.nonterminals ≤ a → RuleOf g markers p a right
  with_marker : (t : ℕ) (rest : List Symbol) → IsMember markers t → right ≡ Terminal t ∷ rest → RuleOf g markers p a right

module _ {g k : GrammarView} {markers : List Bool} (extends : ExtendsGrammar g k markers) (ok : IsGrammar g) where
  -- a production of the smaller grammar is one of the larger
  pub rule_to : (p a : ℕ) (right : List Symbol) → IsProduction g p a right → IsProduction k p a right
  rule_to p a right rule =
      subst (λ z. slice_get z p ≡ Some (a, right)) (sym extends.productions) (append_keeps g.productions extends.more p (a, right) rule)

  rule_from : (p a : ℕ) (right : List Symbol) → IsProduction k p a right → RuleOf g markers p a right
  rule_from p a right rule = elim (at_append g.productions extends.more (a, right) p
      (subst (λ z. slice_get z p ≡ Some (a, right)) extends.productions rule)) [
        | inl own ↦ of_smaller own
        | inr (j, is, at) ↦ further (all_at (IsFurther g.nonterminals markers) extends.more j (a, right) extends.shape at)
      ]
    where
      further : IsFurther g.nonterminals markers (a, right) → RuleOf g markers p a right
      further (on_further low) = on_other low
      further (on_marker t rest marks is) = with_marker t rest marks is

  pub derived_to : (f : Forest) → IsDerived g f → IsDerived k f
  derived_to nothing d = tt
  derived_to (leaf t text rest) d = derived_to rest d
  derived_to (node p a children rest) (rule, below, after) =
      (rule_to p a (symbols children) rule, derived_to children below, derived_to rest after)

  pub tree_to : (tree : Forest) → DerivationTree g tree → DerivationTree k tree
  tree_to tree is = record {
    derived = derived_to tree is.derived;
    root = is.root ∙ ap (λ z. Nonterminal z ∷ []) (sym extends.start);
  }

  -- what begins with a marker has it as the first leaf
  first_leaf : (prefix : List Symbol) (f : Forest) (t : ℕ) (rest : List Symbol) → symbols f ≡ Terminal t ∷ rest →
      (x : Leaf) × (xs : List Leaf) × (leaves prefix f ≡ x ∷ xs) × (x.terminal ≡ t)
  first_leaf prefix nothing t rest e = cc
  first_leaf prefix (leaf s text f) t rest e =
      (record { context = prefix; terminal = s; text = text }, leaves (prefix ++ Terminal s ∷ []) f, refl, cc)
  first_leaf prefix (node p a children f) t rest e = cc

  -- so it isn't there where the first leaf is no marker
  not_marked : (prefix : List Symbol) (f : Forest) (t : ℕ) (w : List Symbol) (x : Leaf) (more xs : List Leaf) → symbols f ≡ Terminal t ∷ w →
      IsMember markers t → leaves prefix f ++ more ≡ x ∷ xs → ¬ IsMember markers x.terminal → ⊥
  not_marked prefix f t w x more xs e marks is not =
      let (y, ys, first, named) = first_leaf prefix f t w e in
      let whole : y ∷ (ys ++ more) ≡ x ∷ xs = ap (λ z. z ++ more) (sym first) ∙ is in
      let same : y ≡ x = cc in
      not (subst (IsMember markers) (sym named ∙ ap (λ (z : Leaf). z.terminal) same) marks)

  below_of : (p a : ℕ) (right : List Symbol) → IsProduction g p a right → AreBelow g right
  below_of p a right rule = (production_below g p a right ok rule).right

  -- a node whose leaves are no markers
  node_plain : (prefix : List Symbol) (p a : ℕ) (children rest : Forest) → RuleOf g markers p a (symbols children) → a < g.nonterminals →
      HasNoMarker markers (leaves prefix children) → (AreBelow g (symbols children) → IsDerived g children) → IsDerived g rest →
      IsDerived g (node p a children rest)
  node_plain prefix p a children rest (of_smaller own) low plain inner outer = (own, inner (below_of p a (symbols children) own), outer)
  node_plain prefix p a children rest (on_other high) low plain inner outer = absurd (omega (arith, low, high))
  node_plain prefix p a children rest (with_marker t w marks e) low plain inner outer =
      let (y, ys, first, named) = first_leaf prefix children t w e in
      absurd ((subst (HasNoMarker markers) first plain).0 (subst (IsMember markers) (sym named) marks))

  -- trees of the larger grammar on symbols of the smaller, without markers, are trees of the smaller
  pub plain_derived : (prefix : List Symbol) (f : Forest) → IsDerived k f → AreBelow g (symbols f) → HasNoMarker markers (leaves prefix f) →
      IsDerived g f
  plain_derived prefix nothing d all plain = tt
  plain_derived prefix (leaf t text rest) d all (not, plain) =
      plain_derived (prefix ++ Terminal t ∷ []) rest d (All-tail (IsSymbolBelow g.terminals g.nonterminals) (Terminal t)
      (symbols rest) all) plain
  plain_derived prefix (node p a children rest) (rule, below, after) all plain =
      let inner = plain_left markers (leaves prefix children) (leaves (prefix ++ Nonterminal a ∷ []) rest) plain in
      let outer = plain_right markers (leaves prefix children) (leaves (prefix ++ Nonterminal a ∷ []) rest) plain in
      node_plain prefix p a children rest (rule_from p a (symbols children) rule)
      (All-head (IsSymbolBelow g.terminals g.nonterminals) (Nonterminal a) (symbols rest) all) inner
      (λ whole. plain_derived prefix children below whole inner)
      (plain_derived (prefix ++ Nonterminal a ∷ []) rest after
      (All-tail (IsSymbolBelow g.terminals g.nonterminals) (Nonterminal a) (symbols rest) all) outer)

  root_below : (tree : Forest) → symbols tree ≡ Nonterminal g.start ∷ [] → AreBelow g (symbols tree)
  root_below tree root =
      All-same (IsSymbolBelow g.terminals g.nonterminals) (symbols tree) (Nonterminal g.start ∷ []) root
      (All-cons (IsSymbolBelow g.terminals g.nonterminals) (Nonterminal g.start) [] ok.start_below
      (All-nil (IsSymbolBelow g.terminals g.nonterminals)))

  pub plain_tree : (tree : Forest) → DerivationTree k tree → HasNoMarker markers (leaves [] tree) → DerivationTree g tree
  plain_tree tree is plain =
      let root : symbols tree ≡ Nonterminal g.start ∷ [] = is.root ∙ ap (λ z. Nonterminal z ∷ []) extends.start in
      record { derived = plain_derived [] tree is.derived (root_below tree root) plain; root = root }

  module _ (reduced : IsReduced g) where
    -- any trees on the symbols, where nothing was read
    unread : (prefix : List Symbol) (w : List Symbol) → AreBelow g w → BeginsSo g prefix w []
    unread prefix w all =
        let (f, d, is) = trees_of g reduced w all in
        record { forest = f; derived = d; same = is; rest = leaves prefix f; is = refl }

    -- a node whose first leaf is no marker
    node_begins : (prefix : List Symbol) (p a : ℕ) (children f : Forest) (x : Leaf) (read rest : List Leaf) →
        RuleOf g markers p a (symbols children) →
        IsDerived k children → AreBelow g (Nonterminal a ∷ symbols f) → HasNoMarker markers (x ∷ read) →
        leaves prefix children ++ leaves (prefix ++ Nonterminal a ∷ []) f ≡ x ∷ (read ++ rest) →
        ((further : List Leaf) → AreBelow g (symbols children) → leaves prefix children ≡ x ∷ (read ++ further) →
        BeginsSo g prefix (symbols children) (x ∷ read)) →
        ((later : List Leaf) → leaves (prefix ++ Nonterminal a ∷ []) f ≡ later ++ rest → HasNoMarker markers later →
        BeginsSo g (prefix ++ Nonterminal a ∷ []) (symbols f) later) →
        BeginsSo g prefix (Nonterminal a ∷ symbols f) (x ∷ read)
    node_begins prefix p a children f x read rest (on_other high) d all plain e inner outer =
        let low = All-head (IsSymbolBelow g.terminals g.nonterminals) (Nonterminal a) (symbols f) all in
        absurd (omega (arith, low, high))
    node_begins prefix p a children f x read rest (with_marker t w marks is) d all (not, plain) e inner outer =
        absurd (not_marked prefix children t w x (leaves (prefix ++ Nonterminal a ∷ []) f) (read ++ rest) is marks e not)
    node_begins prefix p a children f x read rest (of_smaller own) d all plain e inner outer =
        go (parted (leaves prefix children) (leaves (prefix ++ Nonterminal a ∷ []) f) (x ∷ read) rest e)
      where
        go : Parted (leaves prefix children) (leaves (prefix ++ Nonterminal a ∷ []) f) (x ∷ read) rest →
            BeginsSo g prefix (Nonterminal a ∷ symbols f) (x ∷ read)
        go (within further is others) =
            let b = inner further (below_of p a (symbols children) own) is in
            let (h, dh, roots) = trees_of g reduced (symbols f)
            (All-tail (IsSymbolBelow g.terminals g.nonterminals) (Nonterminal a) (symbols f) all) in
            record {
              forest = node p a b.forest h;
              derived = (subst (IsProduction g p a) (sym b.same) own, b.derived, dh);
              same = ap (λ z. Nonterminal a ∷ z) roots;
              rest = b.rest ++ leaves (prefix ++ Nonterminal a ∷ []) h;
              is = ap (λ z. z ++ leaves (prefix ++ Nonterminal a ∷ []) h) b.is ∙
                  append_assoc (x ∷ read) b.rest (leaves (prefix ++ Nonterminal a ∷ []) h);
            }
        go (beyond later is others) =
            let both = subst (HasNoMarker markers) is plain in
            let b = outer later others (plain_right markers (leaves prefix children) later both) in
            let own_trees = plain_derived prefix children d (below_of p a (symbols children) own)
            (plain_left markers (leaves prefix children) later both) in
            record {
              forest = node p a children b.forest;
              derived = (own, own_trees, b.derived);
              same = ap (λ z. Nonterminal a ∷ z) b.same;
              rest = b.rest;
              is = ap (λ z. leaves prefix children ++ z) b.is ∙
                  (sym (append_assoc (leaves prefix children) later b.rest) ∙ ap (λ z. z ++ b.rest) (sym is));
            }

    -- trees of the larger grammar on symbols of the smaller, whose first leaves are no markers
    pub plain_begins : (prefix : List Symbol) (f : Forest) (read rest : List Leaf) → IsDerived k f → AreBelow g (symbols f) →
        leaves prefix f ≡ read ++ rest → HasNoMarker markers read → BeginsSo g prefix (symbols f) read
    plain_begins prefix f [] rest d all e plain = unread prefix (symbols f) all
    plain_begins prefix nothing (x ∷ read) rest d all e plain = cc
    plain_begins prefix (leaf t text f) (x ∷ read) rest d all e (not, plain) =
        let b = plain_begins (prefix ++ Terminal t ∷ []) f read rest d
        (All-tail (IsSymbolBelow g.terminals g.nonterminals) (Terminal t) (symbols f) all) (cc) plain in
        let first : record { context = prefix; terminal = t; text = text } ≡ x = cc in
        record {
          forest = leaf t text b.forest;
          derived = b.derived;
          same = ap (λ z. Terminal t ∷ z) b.same;
          rest = b.rest;
          is = λ i. first i ∷ b.is i;
        }
    plain_begins prefix (node p a children f) (x ∷ read) rest (rule, below, after) all e plain =
        node_begins prefix p a children f x read rest (rule_from p a (symbols children) rule) below all plain e
        (λ further whole is. plain_begins prefix children (x ∷ read) further below whole is plain)
        (λ later is no_marker. plain_begins (prefix ++ Nonterminal a ∷ []) f later rest after
        (All-tail (IsSymbolBelow g.terminals g.nonterminals) (Nonterminal a) (symbols f) all) is no_marker)

    -- so a derivation tree of the larger that begins with leaves that are no markers gives one of the smaller that begins with them
    pub tree_begins : (tree : Forest) (read rest : List Leaf) → DerivationTree k tree → leaves [] tree ≡ read ++ rest →
        HasNoMarker markers read →
        (other : Forest) × DerivationTree g other × ((more : List Leaf) × (leaves [] other ≡ read ++ more))
    tree_begins tree read rest is e plain =
        let root : symbols tree ≡ Nonterminal g.start ∷ [] = is.root ∙ ap (λ z. Nonterminal z ∷ []) extends.start in
        let b = plain_begins [] tree read rest is.derived (root_below tree root) e plain in
        (b.forest, record { derived = b.derived; root = b.same ∙ root }, (b.rest, b.is))
