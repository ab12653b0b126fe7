-- The children of a new node, one more of them each time, and all of them.
use Rattle.std.proofs.Common.{◌≡◌, ℕ, zero, suc, ◌+◌, ◌-◌, ◌*◌, ◌/◌, ◌%◌, ◌^◌, ◌<◌, ◌≤◌, List, [], ◌∷◌, ◌++◌, length, take, drop, get_or, refl, sym, subst}
use Rattle.std.proofs.Common.{ap, ◌∙◌, arith, reverse, append_assoc, append-nil, length-append, pow-suc, mul-add, mul-one, mul_assoc, mul-zero, add-zero, one-mul}
use Rattle.std.proofs.lemmas.Nat.{pow_below}
use Rattle.std.proofs.lemmas.List.{reverse-append, reverse-reverse, length-reverse, drop-drop}
use Rattle.wb_values.specs.declared.value.TreeId.{TreeId}
use Rattle.wb_values.specs.declared.value.Value.{Value}
use Rattle.wb_values.specs.declared.value.Value.TheVariants.{Tree as Stored}
use Rattle.wb_values.specs.declared.node.Node.{Node}
use Rattle.wb_values.specs.declared.layout.Layout.{Layout}
use Rattle.wb_values.specs.InPlace.{node_at, size_at, children_back, LieInPlace, AreSized}
use Rattle.wb_values.specs.Inner.Layouts.{IsLayout, IsWhole}
use Rattle.wb_values.proofs.InPlaceLemmas.{back_other, back_inner, back_none, back_no_digit, lies_none, lies_other, lies_inner}
use Rattle.wb_values.proofs.Laid.{sized-at}

-- while what a digit counts is below 2^32, a digit is left
digit_left : (used left unit : ℕ) → used + left ≡ 32 → unit ≡ 2 ^ used → unit < 4294967296 → (k : ℕ) × (left ≡ suc k)
digit_left used zero unit sum is lt =
    let e : used ≡ 32 = omega (arith, sum) in
    let f : unit ≡ 4294967296 = is ∙ ap (λ (n : ℕ). 2 ^ n) e in
    absurd (omega (arith, f, lt))
digit_left used (suc k) unit sum is lt = (k, refl)

-- and else none is
no_digit_left : (used left unit : ℕ) → used + left ≡ 32 → unit ≡ 2 ^ used → 4294967296 ≤ unit → left ≡ zero
no_digit_left used zero unit sum is le = refl
no_digit_left used (suc k) unit sum is le =
    let lt : used < 32 = omega (arith, sum) in
    let below : 2 ^ used < 4294967296 = pow_below used 32 lt in
    absurd (omega (arith, below, le, is))

-- twice as much for the next digit
next_unit : (used unit next : ℕ) → unit ≡ 2 ^ used → next ≡ unit * 2 → next ≡ 2 ^ suc used
next_unit used unit next is twice = twice ∙ ap (λ (n : ℕ). n * 2) is ∙ sym (pow-suc 2 used)

-- digits that go on with a 1
one_more : (digits unit d digits' unit' : ℕ) → digits' ≡ digits + unit → unit' ≡ unit * 2 → digits' + unit' * d ≡ digits + unit * (1 + 2 * d)
one_more digits unit d digits' unit' a b =
    let e : unit * (1 + 2 * d) ≡ unit + unit * 2 * d = mul-add unit 1 (2 * d) ∙ ap (λ (n : ℕ). n + unit * (2 * d)) (mul-one unit)
    ∙ ap (λ (n : ℕ). unit + n) (sym (mul_assoc unit 2 d)) in
    let f : unit' * d ≡ unit * 2 * d = ap (λ (n : ℕ). n * d) b in
    omega (arith, a, e, f)

-- digits that go on with a 0
none_more : (digits unit d digits' unit' : ℕ) → digits' ≡ digits → unit' ≡ unit * 2 → digits' + unit' * d ≡ digits + unit * (2 * d)
none_more digits unit d digits' unit' a b =
    let e : unit * 2 * d ≡ unit * (2 * d) = mul_assoc unit 2 d in
    let f : unit' * d ≡ unit * 2 * d = ap (λ (n : ℕ). n * d) b in
    omega (arith, a, e, f)

-- no children yet
pub layout_none : (nodes : List Node) (start : List Value) (layout : Layout) → layout.digits ≡ 0 → layout.unit ≡ 1
    → layout.top ≡ length nodes → IsLayout nodes start start [] layout
layout_none nodes start layout digits unit top =
    let same = λ (d : ℕ). let e : layout.unit * d ≡ d = ap (λ (n : ℕ). n * d) unit ∙ one-mul d in
    let f : layout.digits + layout.unit * d ≡ d = omega (arith, e, digits) in f in
    record {
      others = [];
      listed_are = sym (append-nil start);
      few = omega arith;
      used = 0;
      left = 32;
      digits = refl;
      unit = unit;
      within = (omega (arith, digits, unit), omega (arith, top));
      stands = λ d os. ap (λ (n : ℕ). children_back 32 nodes n (length nodes) os) (same d)
          ∙ ap (λ (n : ℕ). children_back 32 nodes d n os) (sym top);
      lies = λ d first h. subst (λ (n : ℕ). LieInPlace 32 nodes n (length nodes) first) (sym (same d))
          (subst (λ (n : ℕ). LieInPlace 32 nodes d n first) top h);
    }

-- the sizes of nodes reach no further than to the first one
pub size_le : (nodes : List Node) (k : ℕ) → AreSized [] nodes → k < length nodes → size_at nodes k ≤ suc k
size_le nodes k sized lt =
    let n = node_at nodes k in
    let is = sized-at [] nodes k n sized lt (get_same nodes k lt) in
    let len : length (take k nodes) ≡ k = taken k nodes lt in
    omega (arith, is.size, len)
  where
    get_same : (ns : List Node) (i : ℕ) → i < length ns → get_or ns i (node_at ns i) ≡ node_at ns i
    get_same [] i h = absurd (omega (arith, h))
    get_same (m ∷ ms) zero h = refl
    get_same (m ∷ ms) (suc i) h = get_same ms i (omega (arith, h))

    taken : (i : ℕ) (ns : List Node) → i < length ns → length (take i ns) ≡ i
    taken zero ns h = refl
    taken (suc i) [] h = absurd (omega (arith, h))
    taken (suc i) (m ∷ ms) h = ap suc (taken i ms (omega (arith, h)))

-- one child more, which lies in place
pub layout_tree : (nodes : List Node) (start listed done : List Value) (layout next : Layout) (tree : TreeId) → AreSized [] nodes
    → layout.unit < 4294967296 → suc tree.0 ≡ layout.top → next.digits ≡ layout.digits + layout.unit → next.unit ≡ layout.unit * 2
    → next.top ≡ layout.top - size_at nodes tree.0 → IsLayout nodes start listed done layout
    → IsLayout nodes start listed (done ++ Stored tree ∷ []) next
layout_tree nodes start listed done layout next tree sized lt top digits' unit' top' l =
    let (k, left) = digit_left l.used l.left layout.unit l.digits l.unit lt in
    let id : layout.top - 1 ≡ tree.0 = omega (arith, top) in
    let step = λ (d : ℕ). one_more layout.digits layout.unit d next.digits next.unit digits' unit' in
    let odd = λ (d : ℕ). let e : (1 + 2 * d) % 2 ≡ 1 = omega arith in e in
    let half = λ (d : ℕ). let e : (1 + 2 * d) / 2 ≡ d = omega arith in e in
    let under : layout.top - size_at nodes (layout.top - 1) ≡ next.top =
    ap (λ (n : ℕ). layout.top - size_at nodes n) id ∙ sym top' in
    let within : tree.0 < length nodes = omega (arith, top, l.within.1) in
    let size : size_at nodes (layout.top - 1) ≤ layout.top =
    subst (λ (n : ℕ). size_at nodes n ≤ layout.top) (sym id) (omega (arith, size_le nodes tree.0 sized within, top)) in
    record {
      others = l.others;
      listed_are = l.listed_are;
      few = omega (arith, l.few, length-append done (Stored tree ∷ []));
      used = suc l.used;
      left = k;
      digits = omega (arith, l.digits, left);
      unit = next_unit l.used layout.unit next.unit l.unit unit';
      within = (omega (arith, digits', unit', l.within.0), omega (arith, top', l.within.1));
      stands = λ d os.
          ap (λ (n : ℕ). children_back 32 nodes n (length nodes) (l.others ++ os)) (step d) ∙ l.stands (1 + 2 * d) os
          ∙ ap (λ (n : ℕ). done ++ children_back n nodes (1 + 2 * d) layout.top os) left
          ∙ ap (λ (xs : List Value). done ++ xs) (back_inner k nodes (1 + 2 * d) layout.top os (odd d)
          ∙ ap (λ (n : ℕ). Stored (record { 0 = n }) ∷ children_back k nodes ((1 + 2 * d) / 2)
          (layout.top - size_at nodes (layout.top - 1)) os) id
          ∙ ap (λ (n : ℕ). Stored tree ∷ children_back k nodes n (layout.top - size_at nodes (layout.top - 1)) os) (half d)
          ∙ ap (λ (n : ℕ). Stored tree ∷ children_back k nodes d n os) under)
          ∙ sym (append_assoc done (Stored tree ∷ []) (children_back k nodes d next.top os));
      lies = λ d first h.
          subst (λ (n : ℕ). LieInPlace 32 nodes n (length nodes) first) (sym (step d)) (l.lies (1 + 2 * d) first
          (subst (λ (n : ℕ). LieInPlace n nodes (1 + 2 * d) layout.top first) (sym left)
          ((lies_inner k nodes (1 + 2 * d) layout.top first (odd d)).1 (
            omega (arith, top),
            size,
            subst (λ (n : ℕ). LieInPlace k nodes n (layout.top - size_at nodes (layout.top - 1)) first) (sym (half d))
                (subst (λ (n : ℕ). LieInPlace k nodes d n first) (sym under) h),
          ))));
    }

-- one child more, which is one of the others, while a digit is left
pub layout_other : (nodes : List Node) (start listed done : List Value) (child : Value) (layout next : Layout) → layout.unit < 4294967296
    → next.digits ≡ layout.digits → next.unit ≡ layout.unit * 2 → next.top ≡ layout.top → IsLayout nodes start listed done layout
    → IsLayout nodes start (listed ++ child ∷ []) (done ++ child ∷ []) next
layout_other nodes start listed done child layout next lt digits' unit' top' l =
    let (k, left) = digit_left l.used l.left layout.unit l.digits l.unit lt in
    let step = λ (d : ℕ). none_more layout.digits layout.unit d next.digits next.unit digits' unit' in
    let even = λ (d : ℕ). let e : (2 * d) % 2 ≡ 0 = omega arith in e in
    let half = λ (d : ℕ). let e : (2 * d) / 2 ≡ d = omega arith in e in
    record {
      others = l.others ++ child ∷ [];
      listed_are = ap (λ (xs : List Value). xs ++ child ∷ []) l.listed_are ∙ append_assoc start l.others (child ∷ []);
      few = omega (arith, l.few, length-append done (child ∷ []), length-append l.others (child ∷ []));
      used = suc l.used;
      left = k;
      digits = omega (arith, l.digits, left);
      unit = next_unit l.used layout.unit next.unit l.unit unit';
      within = (omega (arith, digits', unit', l.within.0), omega (arith, top', l.within.1));
      stands = λ d os.
          ap (λ (n : ℕ). children_back 32 nodes n (length nodes) (l.others ++ child ∷ [] ++ os)) (step d)
          ∙ ap (children_back 32 nodes (layout.digits + layout.unit * (2 * d)) (length nodes)) (append_assoc l.others (child ∷ []) os)
          ∙ l.stands (2 * d) (child ∷ os)
          ∙ ap (λ (n : ℕ). done ++ children_back n nodes (2 * d) layout.top (child ∷ os)) left
          ∙ ap (λ (xs : List Value). done ++ xs) (back_other k nodes (2 * d) layout.top (child ∷ os) (even d)
          ∙ ap (λ (n : ℕ). child ∷ children_back k nodes n layout.top os) (half d)
          ∙ ap (λ (n : ℕ). child ∷ children_back k nodes d n os) (sym top'))
          ∙ sym (append_assoc done (child ∷ []) (children_back k nodes d next.top os));
      lies = λ d first h.
          subst (λ (n : ℕ). LieInPlace 32 nodes n (length nodes) first) (sym (step d)) (l.lies (2 * d) first
          (subst (λ (n : ℕ). LieInPlace n nodes (2 * d) layout.top first) (sym left)
          ((lies_other k nodes (2 * d) layout.top first (even d)).1
          (subst (λ (n : ℕ). LieInPlace k nodes n layout.top first) (sym (half d))
          (subst (λ (n : ℕ). LieInPlace k nodes d n first) top' h)))));
    }

-- and where none is
pub layout_last : (nodes : List Node) (start listed done : List Value) (child : Value) (layout : Layout) → 4294967296 ≤ layout.unit
    → IsLayout nodes start listed done layout → IsLayout nodes start (listed ++ child ∷ []) (done ++ child ∷ []) layout
layout_last nodes start listed done child layout le l =
    let left = no_digit_left l.used l.left layout.unit l.digits l.unit le in
    record {
      others = l.others ++ child ∷ [];
      listed_are = ap (λ (xs : List Value). xs ++ child ∷ []) l.listed_are ∙ append_assoc start l.others (child ∷ []);
      few = omega (arith, l.few, length-append done (child ∷ []), length-append l.others (child ∷ []));
      used = l.used;
      left = zero;
      digits = omega (arith, l.digits, left);
      unit = l.unit;
      within = l.within;
      stands = λ d os.
          ap (children_back 32 nodes (layout.digits + layout.unit * d) (length nodes)) (append_assoc l.others (child ∷ []) os)
          ∙ l.stands d (child ∷ os)
          ∙ ap (λ (n : ℕ). done ++ children_back n nodes d layout.top (child ∷ os)) left
          ∙ ap (λ (xs : List Value). done ++ xs) (back_no_digit nodes d layout.top (child ∷ os))
          ∙ ap (λ (xs : List Value). done ++ child ∷ xs) (sym (back_no_digit nodes d layout.top os))
          ∙ sym (append_assoc done (child ∷ []) (children_back zero nodes d layout.top os));
      lies = λ d first h. l.lies d first (subst (λ (n : ℕ). LieInPlace n nodes d layout.top first) (sym left) h);
    }

-- all of the children
pub layout_whole : (nodes : List Node) (start listed children : List Value) (layout : Layout)
    → IsLayout nodes start listed (reverse children) layout → IsWhole nodes start listed children layout
layout_whole nodes start listed children layout l =
    let none : layout.digits + layout.unit * 0 ≡ layout.digits = ap (λ (n : ℕ). layout.digits + n) (mul-zero layout.unit) ∙ add-zero layout.digits in
    record {
      others = l.others;
      listed_are = l.listed_are;
      few = omega (arith, l.few, length-reverse children);
      digits = few_digits l.used l.left layout.unit layout.digits l.digits l.unit l.within.0;
      top = l.within.1;
      stands = ap reverse (ap (λ (n : ℕ). children_back 32 nodes n (length nodes) l.others) (sym none)
          ∙ ap (children_back 32 nodes (layout.digits + layout.unit * 0) (length nodes)) (sym (append-nil l.others)) ∙ l.stands 0 []
          ∙ ap (λ (xs : List Value). reverse children ++ xs) (back_none l.left nodes layout.top []) ∙ append-nil (reverse children))
          ∙ reverse-reverse children;
      lies = subst (λ (n : ℕ). LieInPlace 32 nodes n (length nodes) layout.top) none
          (l.lies 0 layout.top (lies_none l.left nodes layout.top));
    }
  where
    few_digits : (used left unit digits : ℕ) → used + left ≡ 32 → unit ≡ 2 ^ used → digits < unit → digits < 2 ^ 32
    few_digits used zero unit digits sum is lt =
        let e : used ≡ 32 = omega (arith, sum) in
        let f : unit ≡ 2 ^ 32 = is ∙ ap (λ (n : ℕ). 2 ^ n) e in
        omega (arith, f, lt)
    few_digits used (suc k) unit digits sum is lt =
        let below : 2 ^ used < 2 ^ 32 = pow_below used 32 (omega (arith, sum)) in
        omega (arith, below, lt, is)

-- the values from a place on, the last first, with the one before
pub reverse_more : (vs : List Value) (place : ℕ) → reverse (drop (place + 1) vs) ++ take 1 (drop place vs) ≡ reverse (drop place vs)
reverse_more vs place =
    ap (λ (xs : List Value). reverse xs ++ take 1 (drop place vs)) (sym (drop-drop 1 place vs)) ∙ first (drop place vs)
  where
    first : (xs : List Value) → reverse (drop 1 xs) ++ take 1 xs ≡ reverse xs
    first [] = refl
    first (x ∷ xs) = sym (reverse-append (x ∷ []) xs)
