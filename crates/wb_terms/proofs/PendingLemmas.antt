-- What is still to be printed, once a tree is begun and once it ends.
use Rattle.std.proofs.Common.{◌≡◌, ◌+◌, ◌-◌, ◌<◌, ◌≤◌, ℕ, zero, suc, List, [], ◌∷◌, ◌++◌, Option, None, Some, Bool, true, false, All}
use Rattle.std.proofs.Common.{length, take, reverse, refl, sym, ap, ◌∙◌, subst, arith, append_assoc, length-append}
use Rattle.std.specs.Prelude.{IfSome}
use Rattle.std.proofs.lemmas.List.{reverse-append, reverse-reverse, get_or-reverse, length-reverse}
use Rattle.std.proofs.lemmas.List.{take_at, take_all, drop_all, append-nil}
use Rattle.std.proofs.lemmas.List.Elements.{All-append}
use Rattle.std.proofs.Math.Seq.{drop-append_seam, take-append-add}
use Rattle.wb_values.specs.Signature.{Signature}
use Rattle.wb_values.specs.Tree.{Tree, node, Value, tree, Values, empty, more, production_of, children_of, value_at, count_of}
use Rattle.wb_values.specs.ValuesIn.{tree_in, value_in, values_in, IsIn, AreChildren}
use Rattle.wb_values.specs.declared.value.TreeId.{TreeId}
use Rattle.wb_values.specs.declared.value.Value.{Value as Stored}
use Rattle.wb_values.specs.declared.value.Value.TheVariants.{Tree as Subtree}
use Rattle.wb_values.proofs.CallerLemmas.{all_in_more}
use Rattle.wb_terms.specs.declared.print.Begun.{Begun}
use Rattle.wb_terms.specs.declared.print.Current.{Current}
use Rattle.wb_terms.specs.declared.print.Next.{Next}
use Rattle.wb_terms.specs.Printed.{name_of, printed_tree, printed_value, printed_children}
use Rattle.wb_terms.specs.Inner.Pending.{before, closing, next_text, children_text, children_left, text_left, current_text, tree_weight}
use Rattle.wb_terms.specs.Inner.Pending.{children_weight, weight_left, AreNested, ArePendingIn, Appends, Descends, Begins, Keeps}

-- one more on the stack
pub pushed : (ps qs : List Begun) (p : Begun) → qs ≡ ps ++ p ∷ [] → reverse qs ≡ p ∷ reverse ps
pushed ps qs p e = ap reverse e ∙ reverse-append ps (p ∷ [])

-- the weight of a tree is that of its children
pub tree_weight_is : (t : Tree) → tree_weight t ≡ children_weight (children_of t)
tree_weight_is (node p xs) = refl

-- so many parentheses, and more of them
pub closing_add : (m n : ℕ) → closing m ++ closing n ≡ closing (m + n)
closing_add zero n = ap closing (omega arith)
closing_add (suc m) n =
    let e : suc (m + n) ≡ suc m + n = omega arith in
    ap (λ (l : List ℕ). 41 ∷ l) (closing_add m n) ∙ ap closing e

pub length-closing : (n : ℕ) → length (closing n) ≡ n
length-closing zero = refl
length-closing (suc n) = ap suc (length-closing n)

-- a name is printed
pub named_text : (ss : List Signature) (t : Tree) (n closes : ℕ) (out new : List ℕ) → n ≡ production_of t
    → new ≡ (out ++ name_of ss n) ++ 40 ∷ []
    → new ++ (printed_children ss (children_of t) ++ closing (closes + 1)) ≡ out ++ (printed_tree ss t ++ closing closes)
named_text ss (node p xs) n closes out new e g =
    let one : closing (closes + 1) ≡ 41 ∷ closing closes = ap closing (let f : closes + 1 ≡ suc closes = omega arith in f) in
    let a : ((out ++ name_of ss p) ++ 40 ∷ []) ++ (printed_children ss xs ++ 41 ∷ closing closes)
    ≡ out ++ (printed_tree ss (node p xs) ++ closing closes) = simp append_assoc in
    ap (λ (l : List ℕ). l ++ (printed_children ss xs ++ closing (closes + 1))) g
    ∙ ap (λ (l : List ℕ). ((out ++ name_of ss n) ++ 40 ∷ []) ++ (printed_children ss xs ++ l)) one
    ∙ ap (λ (m : ℕ). ((out ++ name_of ss m) ++ 40 ∷ []) ++ (printed_children ss xs ++ 41 ∷ closing closes)) e ∙ a

-- of a tree whose only child is a tree, that comes next
pub only_text : (ss : List Signature) (xs : Values) (t : Tree) → xs ≡ more (tree t) empty → printed_children ss xs ≡ printed_tree ss t
only_text ss xs t e = ap (printed_children ss) e ∙ append-nil (printed_tree ss t)

pub only_weight : (xs : Values) (t : Tree) → xs ≡ more (tree t) empty → tree_weight t ≤ children_weight xs
only_weight xs t e = omega (arith, ap children_weight e)

-- the only child
pub only_value : (xs : Values) (x : Value) → count_of xs ≡ 1 → value_at xs 0 ≡ Some x → xs ≡ more x empty
only_value empty x one at = absurd cc
only_value (more y empty) x one at = let e : y ≡ x = cc in ap (λ (z : Value). more z empty) e
only_value (more y (more z zs)) x one at = absurd (omega (arith, one))

pub only_child : (trees : List Tree) (xs : Values) (child : Option TreeId) → count_of xs ≡ 1
    → IfSome child (λ (id : TreeId). value_at xs 0 ≡ Some (tree (tree_in trees id.0)))
    → IfSome child (λ (id : TreeId). xs ≡ more (tree (tree_in trees id.0)) empty)
only_child trees xs None one some = tt
only_child trees xs (Some id) one some = only_value xs (tree (tree_in trees id.0)) one some

-- a few parentheses are cut off those that are appended
pub few_closes : (old mid new : List ℕ) (n closes : ℕ) → closes ≤ 16 → mid ≡ old ++ closing 16 → n ≡ length mid - (16 - closes) → new ≡ take n mid
    → new ≡ old ++ closing closes
few_closes old mid new n closes le appended len cut =
    let m : length mid ≡ length old + 16 = ap length appended ∙ length-append old (closing 16) in
    let e : n ≡ length old + closes = omega (arith, le, len, m) in
    let two : closing 16 ≡ closing closes ++ closing (16 - closes) =
    sym (closing_add closes (16 - closes) ∙ ap closing (let f : closes + (16 - closes) ≡ 16 = omega (arith, le) in f)) in
    let seam : take closes (closing closes ++ closing (16 - closes)) ≡ closing closes =
    take_at (closing closes) (closing (16 - closes)) closes (length-closing closes) in
    cut ∙ ap (λ (k : ℕ). take k mid) e ∙ ap (take (length old + closes)) appended ∙ take-append-add old (closing 16) closes
    ∙ ap (λ (l : List ℕ). old ++ take closes l) two ∙ ap (λ (l : List ℕ). old ++ l) seam

-- and sixteen of those that are left are appended
pub more_closes : (old mid new : List ℕ) (left : ℕ) → 16 < left → new ≡ mid ++ closing 16 → mid ++ closing left ≡ old
    → new ++ closing (left - 16) ≡ old
more_closes old mid new left many appended before =
    let e : 16 + (left - 16) ≡ left = omega (arith, many) in
    ap (λ (l : List ℕ). l ++ closing (left - 16)) appended ∙ append_assoc mid (closing 16) (closing (left - 16))
    ∙ ap (λ (l : List ℕ). mid ++ l) (closing_add 16 (left - 16) ∙ ap closing e) ∙ before

-- with too many parentheses a text is too long
pub names_long : (ss : List Signature) (trees : List Tree) (out whole : List ℕ) (t closes : ℕ) → out ++ next_text ss trees t closes ≡ whole
    → 16777216 < closes → 16777216 < length whole
names_long ss trees out whole t closes e long =
    omega (
      arith,
      long,
      ap length e,
      length-append out (next_text ss trees t closes),
      length-append (printed_tree ss (tree_in trees t)) (closing closes),
      length-closing closes,
    )

-- the name of a tree is appended, whose only child comes next
pub names_text : (ss : List Signature) (trees : List Tree) (whole mid new : List ℕ) (t child n closes : ℕ) → n ≡ production_of (tree_in trees t)
    → new ≡ (mid ++ name_of ss n) ++ 40 ∷ [] → children_of (tree_in trees t) ≡ more (tree (tree_in trees child)) empty
    → mid ++ next_text ss trees t closes ≡ whole → new ++ next_text ss trees child (closes + 1) ≡ whole
names_text ss trees whole mid new t child n closes e named only before =
    sym (ap (λ (l : List ℕ). new ++ (l ++ closing (closes + 1))) (only_text ss (children_of (tree_in trees t)) (tree_in trees child) only))
    ∙ named_text ss (tree_in trees t) n closes mid new e named ∙ before

-- or whose children do
pub descended : (ss : List Signature) (trees : List Tree) (old mid new : List ℕ) (next : Next) (id : TreeId) (n closes : ℕ)
    → n ≡ production_of (tree_in trees id.0) → new ≡ (mid ++ name_of ss n) ++ 40 ∷ []
    → mid ++ next_text ss trees id.0 closes ≡ old ++ next_text ss trees next.tree.0 next.closes
    → tree_weight (tree_in trees id.0) ≤ tree_weight (tree_in trees next.tree.0) → id.0 < length trees
    → Descends ss trees old new next (record { tree = id; closes = closes + 1 })
descended ss trees old mid new next id n closes e named before less within = record {
  text = named_text ss (tree_in trees id.0) n closes mid new e named ∙ before;
  weight = omega (arith, less, tree_weight_is (tree_in trees id.0));
  within = within;
}

-- a tree that is handed back
pub handed_back : (old new : List ℕ) (v : Stored) (answer : Option TreeId) (id : TreeId) → answer ≡ Some id → Appends old new v answer
    → (v ≡ Subtree id) × (new ≡ old)
handed_back old new v answer id is appends = subst (Appends old new v) is appends

-- a value that is appended
pub appended : (old new : List ℕ) (v : Stored) (answer : Option TreeId) (ss : List Signature) (trees : List Tree) → answer ≡ None
    → Appends old new v answer → new ≡ old ++ printed_value ss (value_in trees v)
appended old new v answer ss trees is appends =
    let a : Appends old new v None = subst (Appends old new v) is appends in a ss trees

-- the children of a tree, the last first, are those that are left of it
module _ (trees : List Tree) (t : ℕ) (o : Begun) (vs ws cs : List Stored) (below : o.below ≡ length vs) (are : AreChildren trees t cs)
    (added : ws ≡ vs ++ reverse cs) where
  begun_left : children_left trees o.below ws ≡ children_of (tree_in trees t)
  begun_left =
      ap (λ (n : ℕ). children_left trees n ws) below ∙ ap (children_left trees (length vs)) added
      ∙ ap (λ (xs : List Stored). values_in trees (reverse xs)) (drop-append_seam vs (reverse cs))
      ∙ ap (values_in trees) (reverse-reverse cs) ∙ are.values

  begun_below : take o.below ws ≡ vs
  begun_below = ap (λ (n : ℕ). take n ws) below ∙ ap (take (length vs)) added ∙ take_at vs (reverse cs) (length vs) refl

  begun_text : (ss : List Signature) (os : List Begun)
      → text_left true ss trees ws (o ∷ os) ≡ printed_children ss (children_of (tree_in trees t)) ++ (closing o.closes ++ text_left false ss trees vs os)
  begun_text ss os =
      ap (λ (xs : Values). printed_children ss xs ++ (closing o.closes ++ text_left false ss trees (take o.below ws) os)) begun_left
      ∙ ap (λ (xs : List Stored). printed_children ss (children_of (tree_in trees t)) ++ (closing o.closes ++ text_left false ss trees xs os)) begun_below

  begun_weight : (os : List Begun) → weight_left trees ws (o ∷ os) ≡ children_weight (children_of (tree_in trees t)) + weight_left trees vs os
  begun_weight os =
      ap (λ (xs : Values). children_weight xs + weight_left trees (take o.below ws) os) begun_left
      ∙ ap (λ (xs : List Stored). children_weight (children_of (tree_in trees t)) + weight_left trees xs os) begun_below

  begun_pending : (count : ℕ) (os : List Begun) → t < count → All (IsIn count) vs → AreNested (length vs) os → ArePendingIn count ws (o ∷ os)
  begun_pending count os within there nested =
      let lower : All (IsIn count) cs = all_in_more t count cs (omega (arith, within)) are.below in
      let all : All (IsIn count) (vs ++ reverse cs) = All-append (IsIn count) vs (reverse cs) there (turned (IsIn count) cs lower) in
      let le : o.below ≤ length ws = omega (arith, below, ap length added, length-append vs (reverse cs)) in (
        subst (All (IsIn count)) (sym added) all,
        (le, subst (λ (n : ℕ). AreNested n os) (sym below) nested),
      )
    where
      turned : (P : Stored → Type 0) (xs : List Stored) → All P xs → All P (reverse xs)
      turned P xs all i d lt =
          let inside : i < length xs = omega (arith, lt, length-reverse xs) in
          subst P (sym (get_or-reverse xs i d inside)) (all (length xs - 1 - i) d (omega (arith, inside)))

-- a tree is begun
pub begins : (ss : List Signature) (trees : List Tree) (old new : List ℕ) (next last : Next) (vs ws : List Stored) (o : Begun)
    → Descends ss trees old new next last → o.below ≡ length vs → o.closes ≡ last.closes
    → (cs : List Stored) × AreChildren trees last.tree.0 cs × (ws ≡ vs ++ reverse cs) → All (IsIn (length trees)) vs
    → Begins ss trees old new next vs ws (record { begun = o; first = true })
begins ss trees old new next last vs ws o down below closes pushed_are there =
    let (cs, are, added) = pushed_are in record {
      text = λ (os : List Begun).
          (let rest = text_left false ss trees vs os in
          let children = printed_children ss (children_of (tree_in trees last.tree.0)) in
          ap (λ (l : List ℕ). new ++ l) (begun_text trees last.tree.0 o vs ws cs below are added ss os)
          ∙ ap (λ (n : ℕ). new ++ (children ++ (closing n ++ rest))) closes
          ∙ regroup new children (closing last.closes) rest
          ∙ ap (λ (l : List ℕ). l ++ rest) down.text
          ∙ append_assoc old (next_text ss trees next.tree.0 next.closes) rest);
      weight = λ (os : List Begun). omega (arith, begun_weight trees last.tree.0 o vs ws cs below are added os, down.weight);
      pending = λ (os : List Begun) (nested : AreNested (length vs) os).
          begun_pending trees last.tree.0 o vs ws cs below are added (length trees) os down.within there nested;
    }
  where
    regroup : (a b c d : List ℕ) → a ++ (b ++ (c ++ d)) ≡ (a ++ (b ++ c)) ++ d
    regroup a b c d = simp append_assoc

-- where no value of a tree is left, there are no children
ended_left : (trees : List Tree) (below : ℕ) (values : List Stored) → length values ≤ below → children_left trees below values ≡ empty
ended_left trees below values le = ap (λ (xs : List Stored). values_in trees (reverse xs)) (drop_all below values le)

-- and what closes it is left
pub ended_text : (first : Bool) (ss : List Signature) (trees : List Tree) (o : Begun) (os : List Begun) (values : List Stored)
    → length values ≤ o.below → text_left first ss trees values (o ∷ os) ≡ closing o.closes ++ text_left false ss trees values os
ended_text first ss trees o os values le =
    ap (λ (l : List ℕ). l ++ (closing o.closes ++ text_left false ss trees (take o.below values) os))
    (ap (children_text first ss) (ended_left trees o.below values le) ∙ no_text first)
    ∙ ap (λ (xs : List Stored). closing o.closes ++ text_left false ss trees xs os) (take_all o.below values le)
  where
    no_text : (f : Bool) → children_text f ss empty ≡ []
    no_text true = refl
    no_text false = refl

pub ended_weight : (trees : List Tree) (o : Begun) (os : List Begun) (values : List Stored) → length values ≤ o.below
    → weight_left trees values (o ∷ os) ≡ 1 + weight_left trees values os
ended_weight trees o os values le =
    let e : children_weight (children_left trees o.below values) ≡ 1 = ap children_weight (ended_left trees o.below values le) in
    let f : weight_left trees (take o.below values) os ≡ weight_left trees values os =
    ap (λ (xs : List Stored). weight_left trees xs os) (take_all o.below values le) in
    omega (arith, e, f)

pub ended_nested : (count : ℕ) (o : Begun) (os : List Begun) → count ≤ o.below → AreNested count (o ∷ os) → AreNested count os
ended_nested count o os le nested =
    let same : o.below ≡ count = omega (arith, le, nested.0) in
    subst (λ (n : ℕ). AreNested n os) same nested.1

-- a tree without children left isn't kept
pub kept_closes : (count : ℕ) (o : Begun) (os : List Begun) → count ≤ o.below → Keeps count (o ∷ os) os o.closes
kept_closes count o os le = record {
  text = λ (ss : List Signature) (trees : List Tree) (values : List Stored) (same : length values ≡ count).
      sym (ended_text false ss trees o os values (omega (arith, le, same)));
  weight = λ (trees : List Tree) (values : List Stored) (same : length values ≡ count).
      omega (arith, ended_weight trees o os values (omega (arith, le, same)));
  nested = ended_nested count o os le;
}

-- and another is
pub kept_begun : (count : ℕ) (os qs : List Begun) → qs ≡ os → Keeps count os qs 0
kept_begun count os qs same = record {
  text = λ (ss : List Signature) (trees : List Tree) (values : List Stored) (many : length values ≡ count).
      ap (text_left false ss trees values) same;
  weight = λ (trees : List Tree) (values : List Stored) (many : length values ≡ count).
      omega (arith, ap (weight_left trees values) same);
  nested = subst (AreNested count) (sym same);
}

-- the tree that is a value is within the store
pub is_within : (count : ℕ) (v : Stored) (id : TreeId) → v ≡ Subtree id → IsIn count v → id.0 < count
is_within count v id is within = subst (IsIn count) is within

-- at first a tree alone is left
pub first_text : (ss : List Signature) (trees : List Tree) (values : List Stored) (id : TreeId) (c : Current) (os : List Begun)
    → values ≡ [] ++ Subtree id ∷ [] → c.begun.below ≡ 0 → c.begun.closes ≡ 0 → c.first ≡ true → os ≡ []
    → current_text ss trees values c os ≡ printed_tree ss (tree_in trees id.0)
first_text ss trees values id c os is below closes first none =
    ap (λ (xs : List Stored). current_text ss trees xs c os) is
    ∙ ap (λ (qs : List Begun). current_text ss trees (Subtree id ∷ []) c qs) none
    ∙ ap (λ (b : Bool). children_text b ss (children_left trees c.begun.below (Subtree id ∷ [])) ++ (closing c.begun.closes ++ [])) first
    ∙ ap (λ (n : ℕ). printed_children ss (children_left trees n (Subtree id ∷ [])) ++ (closing c.begun.closes ++ [])) below
    ∙ ap (λ (n : ℕ). (printed_tree ss (tree_in trees id.0) ++ []) ++ (closing n ++ [])) closes
    ∙ append-nil (printed_tree ss (tree_in trees id.0) ++ []) ∙ append-nil (printed_tree ss (tree_in trees id.0))

pub first_pending : (count : ℕ) (values : List Stored) (id : TreeId) (c : Current) (os : List Begun) → id.0 < count
    → values ≡ [] ++ Subtree id ∷ [] → c.begun.below ≡ 0 → os ≡ [] → ArePendingIn count values (c.begun ∷ os)
first_pending count values id c os within is below none =
    let one : All (IsIn count) (Subtree id ∷ []) = all_one (IsIn count) (Subtree id) within in (
      subst (All (IsIn count)) (sym is) one,
      (omega (arith, below), subst (AreNested c.begun.below) (sym none) tt),
    )
  where
    all_one : (P : Stored → Type 0) (x : Stored) → P x → All P (x ∷ [])
    all_one P x is zero d lt = is
    all_one P x is (suc k) d lt = absurd (omega (arith, lt))
