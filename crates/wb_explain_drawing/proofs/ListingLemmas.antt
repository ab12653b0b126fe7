-- A step of a walk leaves the listing as it was.
use Rattle.std.proofs.Common.{◌≡◌, ◌≢◌, ◌<◌, ◌+◌, ◌≤◌, ◌++◌, ◌∷◌, [], ℕ, zero, suc, List, Some, true, false, refl, sym, subst, ◌∙◌, ap, append_assoc, arith, length}
use Rattle.wb_values.specs.Tree.{Tree, node, Plain, Value, plain, tree, Values, empty, more, children_of, count_of, production_of, value_at}
use Rattle.std.proofs.Math.ListN.{get_or-eq_default}
use Rattle.wb_values.specs.ValuesIn.{tree_in}
use Rattle.wb_values.specs.declared.value.TreeId.{TreeId}
use Rattle.wb_explain_drawing.specs.Listings.{IsListing, item, leaves_in, leaves_of, listed, listed_in, seen}
use Rattle.wb_explain_drawing.specs.Inner.Remaining.{HasNext, Leads, left_of, remaining, values_from}
use Rattle.wb_explain_drawing.specs.declared.items.Item.{Item}
use Rattle.wb_explain_drawing.specs.declared.items.Part.TheVariants.{Node, Leaf}
use Rattle.std.specs.Prelude.{IfOk}
use Rattle.std.proofs.Common.{Result}
use Rattle.wb_explain_drawing.specs.declared.walk.Open.{Open}
use Rattle.wb_explain_drawing.specs.declared.walk.Walked.{Walked}
use Rattle.wb_explain_drawing.specs.declared.walk.Walked.TheVariants.{At, End, Stop}

no_more : {X : Type 0} (w : List X) → w ++ [] ≡ w
no_more [] = refl
no_more (x ∷ w) = ap (λ z. x ∷ z) (no_more w)

-- the value at a place is the first of those from it on
from_place : (xs : Values) (place : ℕ) (x : Value) → value_at xs place ≡ Some x → values_from place xs ≡ more x (values_from (place + 1) xs)
from_place empty place x is = absurd (cc)
from_place (more y xs) zero x is = let same : y ≡ x = cc in ap (λ z. more z xs) same
from_place (more y xs) (suc place) x is =
    let one : suc (place + 1) ≡ suc place + 1 = omega arith in
    from_place xs place x is ∙ ap (λ (n : ℕ). more x (values_from n (more y xs))) one

-- none is left past the last
none_from : (xs : Values) (place : ℕ) → count_of xs ≤ place → values_from place xs ≡ empty
none_from empty zero within = refl
none_from empty (suc place) within = refl
none_from (more y xs) zero within = absurd (omega (arith, within))
none_from (more y xs) (suc place) within = none_from xs place (omega (arith, within))

-- there is a value at each place before the last
value_there : (xs : Values) (place : ℕ) → place < count_of xs → (x : Value) × (value_at xs place ≡ Some x)
value_there empty place within = absurd (omega (arith, within))
value_there (more y xs) zero within = (y, refl)
value_there (more y xs) (suc place) within = value_there xs place (omega (arith, within))

-- a value that is no tree is plain
plain_there : (xs : Values) (place : ℕ) → place < count_of xs → ((t : Tree) → value_at xs place ≢ Some (tree t)) →
    (x : Plain) × (value_at xs place ≡ Some (plain x))
plain_there xs place within none = cases (value_there xs place within) where
  cases : ((x : Value) × (value_at xs place ≡ Some x)) → (x : Plain) × (value_at xs place ≡ Some (plain x))
  cases (plain x, is) = (x, is)
  cases (tree t, is) = absurd (none t is)

-- no child is left of a tree past the end of the store
pub none_out : (store : List Tree) (o : Open) → length store ≤ o.id.0 → left_of store o ≡ empty
none_out store o past =
    ap (λ t. values_from o.next (children_of t)) (get_or-eq_default store (node 0 empty) past) ∙ none_from empty o.next (omega arith)

-- nor past the last
pub none_past : (store : List Tree) (o : Open) → count_of (children_of (tree_in store o.id.0)) ≤ o.next → left_of store o ≡ empty
none_past store o past = none_from (children_of (tree_in store o.id.0)) o.next past

-- an open node after its next child
abbrev pub next_of : Open → Open
next_of o = record { id = o.id; next = o.next + 1; depth = o.depth }

-- a child of an open node when it is opened
abbrev pub child_of : Open → TreeId → Open
child_of o id = record { id = id; next = 0; depth = o.depth + 1 }

-- a tree is listed, and then what is below it
listed_parts : (levels depth leaf : ℕ) (t : Tree) →
    listed levels depth leaf t ≡ seen levels (item (Node (production_of t)) depth leaf) ++ listed_in levels (depth + 1) leaf (children_of t)
listed_parts levels depth leaf (node p xs) = refl

module _ (levels : ℕ) (store : List Tree) where
  -- what is left where nothing is left of the first open node
  pub closes : (items : List Item) (o : Open) (os before : List Open) (leaf : ℕ) → before ≡ o ∷ os → left_of store o ≡ empty
      → items ++ remaining levels store before leaf ≡ items ++ remaining levels store os leaf
  closes items o os before leaf was none =
      ap (λ os. items ++ remaining levels store os leaf) was
      ∙ (ap (λ xs. items ++ (listed_in levels (o.depth + 1) leaf xs ++ remaining levels store os (leaf + leaves_in xs))) none
      ∙ ap (λ (n : ℕ). items ++ remaining levels store os n) (omega arith))

  -- what is left where a leaf is next
  leaf_first : (o : Open) (os : List Open) (leaf : ℕ) (x : Plain) → left_of store o ≡ more (plain x) (left_of store (next_of o))
      → remaining levels store (o ∷ os) leaf ≡ seen levels (item Leaf (o.depth + 1) leaf) ++ remaining levels store (next_of o ∷ os) (leaf + 1)
  leaf_first o os leaf x next =
      ap (λ xs. listed_in levels (o.depth + 1) leaf xs ++ remaining levels store os (leaf + leaves_in xs)) next
      ∙ (append_assoc (seen levels (item Leaf (o.depth + 1) leaf)) (listed_in levels (o.depth + 1) (leaf + 1) (left_of store (next_of o)))
      (remaining levels store os (leaf + (1 + leaves_in (left_of store (next_of o)))))
      ∙ ap (λ (n : ℕ). seen levels (item Leaf (o.depth + 1) leaf)
      ++ (listed_in levels (o.depth + 1) (leaf + 1) (left_of store (next_of o)) ++ remaining levels store os n)) (omega arith))

  -- what is left where a tree is next
  tree_first : (depth leaf : ℕ) (t : Tree) (rest : Values) (os : List Open)
      → (listed levels depth leaf t ++ listed_in levels depth (leaf + leaves_of t) rest)
      ++ remaining levels store os (leaf + (leaves_of t + leaves_in rest))
      ≡ seen levels (item (Node (production_of t)) depth leaf) ++ (listed_in levels (depth + 1) leaf (children_of t)
      ++ (listed_in levels depth (leaf + leaves_in (children_of t)) rest
      ++ remaining levels store os (leaf + leaves_in (children_of t) + leaves_in rest)))
  tree_first depth leaf (node p xs) rest os =
      append_assoc (seen levels (item (Node p) depth leaf) ++ listed_in levels (depth + 1) leaf xs)
      (listed_in levels depth (leaf + leaves_in xs) rest) (remaining levels store os (leaf + (leaves_in xs + leaves_in rest)))
      ∙ (append_assoc (seen levels (item (Node p) depth leaf)) (listed_in levels (depth + 1) leaf xs)
      (listed_in levels depth (leaf + leaves_in xs) rest ++ remaining levels store os (leaf + (leaves_in xs + leaves_in rest)))
      ∙ ap (λ (n : ℕ). seen levels (item (Node p) depth leaf) ++ (listed_in levels (depth + 1) leaf xs
      ++ (listed_in levels depth (leaf + leaves_in xs) rest ++ remaining levels store os n))) (omega arith))

  node_first : (o : Open) (id : TreeId) (os : List Open) (leaf : ℕ)
      → left_of store o ≡ more (tree (tree_in store id.0)) (left_of store (next_of o))
      → remaining levels store (o ∷ os) leaf
      ≡ seen levels (item (Node (production_of (tree_in store id.0))) (o.depth + 1) leaf)
      ++ remaining levels store (child_of o id ∷ next_of o ∷ os) leaf
  node_first o id os leaf next =
      ap (λ xs. listed_in levels (o.depth + 1) leaf xs ++ remaining levels store os (leaf + leaves_in xs)) next
      ∙ tree_first (o.depth + 1) leaf (tree_in store id.0) (left_of store (next_of o)) os

  -- what was listed and what is left, where one more is listed
  moved : (items new one before after : List Item) → before ≡ one ++ after → new ≡ items ++ one
      → items ++ before ≡ new ++ after
  moved items new one before after is now =
      ap (λ z. items ++ z) is ∙ (sym (append_assoc items one after) ∙ ap (λ z. z ++ after) (sym now))

  -- a leaf is listed
  pub leaf_leads : (items new : List Item) (o : Open) (os stack : List Open) (leaf : ℕ) → HasNext store o
      → ((t : Tree) → value_at (children_of (tree_in store o.id.0)) o.next ≢ Some (tree t))
      → new ≡ items ++ seen levels (item Leaf (o.depth + 1) leaf) → stack ≡ next_of o ∷ os
      → items ++ remaining levels store (o ∷ os) leaf ≡ new ++ remaining levels store stack (leaf + 1)
  leaf_leads items new o os stack leaf has none now after = cases (plain_there (children_of (tree_in store o.id.0)) o.next has.place none)
    where
      cases : ((x : Plain) × (value_at (children_of (tree_in store o.id.0)) o.next ≡ Some (plain x)))
          → items ++ remaining levels store (o ∷ os) leaf ≡ new ++ remaining levels store stack (leaf + 1)
      cases (x, is) =
          moved items new (seen levels (item Leaf (o.depth + 1) leaf)) (remaining levels store (o ∷ os) leaf)
          (remaining levels store (next_of o ∷ os) (leaf + 1))
          (leaf_first o os leaf x (from_place (children_of (tree_in store o.id.0)) o.next (plain x) is)) now
          ∙ ap (λ os. new ++ remaining levels store os (leaf + 1)) (sym after)

  -- a node is listed and opened
  pub node_leads : (items new : List Item) (o : Open) (id : TreeId) (p : ℕ) (os stack : List Open) (leaf : ℕ)
      → p ≡ production_of (tree_in store id.0) → value_at (children_of (tree_in store o.id.0)) o.next ≡ Some (tree (tree_in store id.0))
      → new ≡ items ++ seen levels (item (Node p) (o.depth + 1) leaf) → stack ≡ child_of o id ∷ next_of o ∷ os
      → items ++ remaining levels store (o ∷ os) leaf ≡ new ++ remaining levels store stack leaf
  node_leads items new o id p os stack leaf kind is now after =
      moved items new (seen levels (item (Node (production_of (tree_in store id.0))) (o.depth + 1) leaf))
      (remaining levels store (o ∷ os) leaf) (remaining levels store (child_of o id ∷ next_of o ∷ os) leaf)
      (node_first o id os leaf (from_place (children_of (tree_in store o.id.0)) o.next (tree (tree_in store id.0)) is))
      (now ∙ ap (λ (p : ℕ). items ++ seen levels (item (Node p) (o.depth + 1) leaf)) kind)
      ∙ ap (λ os. new ++ remaining levels store os leaf) (sym after)

  -- nothing was listed, and all of it is left
  pub stops_here : (items : List Item) (os : List Open) (leaf : ℕ)
      → (rest : List Item) × (items ++ remaining levels store os leaf ≡ items ++ rest)
  stops_here items os leaf = (remaining levels store os leaf, refl)

  -- nothing is left
  pub ends_here : (items : List Item) (os : List Open) (leaf : ℕ) → os ≡ [] → items ++ remaining levels store os leaf ≡ items
  ends_here items os leaf none = ap (λ os. items ++ remaining levels store os leaf) none ∙ no_more items

  -- the same with the stack as it was
  pub as_before : {E : Type 0} (r : Result Walked E) (items : List Item) (before popped : List Open) (leaf : ℕ) (new : List Item)
      (after : List Open) → before ≡ popped
      → IfOk r (Leads levels store (items ++ remaining levels store popped leaf) new after)
      → IfOk r (Leads levels store (items ++ remaining levels store before leaf) new after)
  as_before r items before popped leaf new after was =
      subst (λ os. IfOk r (Leads levels store (items ++ remaining levels store os leaf) new after)) (sym was)

  -- the root is listed and opened
  pub root_leads : (items new : List Item) (id : TreeId) (p : ℕ) (os stack : List Open) → items ≡ [] → os ≡ []
      → p ≡ production_of (tree_in store id.0) → new ≡ items ++ seen levels (item (Node p) 0 0)
      → stack ≡ record { id = id; next = 0; depth = 0 } ∷ os
      → listed levels 0 0 (tree_in store id.0) ≡ new ++ remaining levels store stack 0
  root_leads items new id p os stack none closed kind now after =
      listed_parts levels 0 0 (tree_in store id.0)
      ∙ (ap (λ z. seen levels (item (Node (production_of (tree_in store id.0))) 0 0) ++ z)
      (sym (no_more (listed_in levels 1 0 (children_of (tree_in store id.0)))))
      ∙ (ap (λ z. z ++ (listed_in levels 1 0 (children_of (tree_in store id.0)) ++ []))
      (sym (now ∙ (ap (λ (p : ℕ). items ++ seen levels (item (Node p) 0 0)) kind
      ∙ ap (λ z. z ++ seen levels (item (Node (production_of (tree_in store id.0))) 0 0)) none)))
      ∙ ap (λ os. new ++ remaining levels store os 0) (sym (after ∙ ap (λ z. record { id = id; next = 0; depth = 0 } ∷ z) closed))))

  -- a step goes on
  pub leads_on : (t : Tree) (items new : List Item) (os stack : List Open) (leaf next : ℕ) (w : Walked)
      → listed levels 0 0 t ≡ items ++ remaining levels store os leaf → w ≡ At next
      → Leads levels store (items ++ remaining levels store os leaf) new stack w
      → listed levels 0 0 t ≡ new ++ remaining levels store stack next
  leads_on t items new os stack leaf next w is told leads =
      is ∙ subst (Leads levels store (items ++ remaining levels store os leaf) new stack) told leads

  -- the listing isn't whole, or nothing more is known of it
  pub is_part : (t : Tree) (items : List Item) (os : List Open) (leaf : ℕ) → listed levels 0 0 t ≡ items ++ remaining levels store os leaf
      → IsListing levels t items false
  is_part t items os leaf is = record { rest = remaining levels store os leaf; first = is; all = λ e. absurd (cc) }

  -- the same after a step that stops
  pub is_stopped : (t : Tree) (items new : List Item) (os stack : List Open) (leaf : ℕ) (w : Walked)
      → listed levels 0 0 t ≡ items ++ remaining levels store os leaf → w ≡ Stop
      → Leads levels store (items ++ remaining levels store os leaf) new stack w → IsListing levels t new false
  is_stopped t items new os stack leaf w is told leads =
      cases (subst (Leads levels store (items ++ remaining levels store os leaf) new stack) told leads)
    where
      cases : ((rest : List Item) × (items ++ remaining levels store os leaf ≡ new ++ rest)) → IsListing levels t new false
      cases (rest, goes) = record { rest = rest; first = is ∙ goes; all = λ e. absurd (cc) }

  -- the listing is whole after a step that ends it
  pub is_whole : (t : Tree) (items new : List Item) (os stack : List Open) (leaf : ℕ) (w : Walked)
      → listed levels 0 0 t ≡ items ++ remaining levels store os leaf → w ≡ End
      → Leads levels store (items ++ remaining levels store os leaf) new stack w → IsListing levels t new true
  is_whole t items new os stack leaf w is told leads = record {
    rest = [];
    first = is ∙ (subst (Leads levels store (items ++ remaining levels store os leaf) new stack) told leads ∙ sym (no_more new));
    all = λ e. refl;
  }
