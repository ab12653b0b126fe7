-- Kernels of prefixes in two parts.
use Rattle.std.proofs.Common.{◌++◌, ◌+◌, ◌∙◌, ◌∷◌, ◌≡◌, ◌≢◌, List, [], ap, arith, inl, inr, refl, subst, sym, ℕ}
use Rattle.wb_base.specs.declared.symbol.Symbol.{Symbol}
use Rattle.wb_base.specs.declared.symbol.Symbol.TheVariants.{Nonterminal, Terminal}
use Rattle.wb_grammar_theory.specs.declared.item.Item.{Item}
use Rattle.wb_grammar_theory.proofs.KernelLemmas.{snoc_not_nil, snoc_parts}
use Rattle.wb_grammar_theory.specs.Items.{advance, initial_item}
use Rattle.wb_compose_theory.proofs.DerivesLemmas.{valid_more}
use Rattle.wb_compose_theory.proofs.MarkLemmas.{Ways, bare_not_on, bridge, each_weaker, mark_opens, own, ways}
use Rattle.wb_compose_theory.proofs.StepLemmas.{Named, item_names, live, open_names}
use Rattle.wb_compose_theory.specs.Derives.{AreProductiveIn}
use Rattle.wb_compose_theory.specs.Items.{HasItemIn, InClosureIn, IsKernelItemIn, IsValidItemIn, SameKernelIn, after_dot_in, close, kernel}
use Rattle.wb_compose_theory.specs.Items.{move, opened, start}
use Rattle.wb_compose_theory.specs.Marks.{IsBare, IsMarked}
use Rattle.wb_compose_theory.specs.Worlds.{Has, Mark, Owner, Part, World, bare, on}

-- where an item with its dot further right came from
pub record Moved (w : World) (part : Part) (longer : List Symbol) (moved : Item) (t : ℕ) : Type 0 where
  pub item : Item
  pub x : Symbol
  pub rest : List Symbol
  pub prefix : List Symbol
  pub valid : IsValidItemIn w part prefix item t
  pub before_dot : after_dot_in w item ≡ x ∷ rest
  pub longer_is : longer ≡ prefix ++ x ∷ []
  pub is : moved ≡ advance item

-- an item with its dot not at the left end moved there
pub moved_from : {w : World} {part : Part} {longer : List Symbol} {moved : Item} {t : ℕ} → IsValidItemIn w part longer moved t →
    moved.dot ≢ 0 → Moved w part longer moved t
moved_from start ne = absurd (ne refl)
moved_from (close item t b rest q u v is rule left f) ne = absurd (ne refl)
moved_from (move item x rest prefix v is longer_is moved_is) ne =
    record { item = item; x = x; rest = rest; prefix = prefix; valid = v; before_dot = is; longer_is = longer_is; is = moved_is }

-- an item that moved has its dot not at the left end
pub advanced : (item moved : Item) → moved ≡ advance item → moved.dot ≢ 0
advanced item moved e z = let f : moved.dot ≡ item.dot + 1 = ap (λ i. i.dot) e in omega arith

-- kernels that are the same, the other way round
pub flip : {w : World} {p q : Part} {a b : List Symbol} → SameKernelIn w p a q b → SameKernelIn w q b p a
flip same item = ((same item).1, (same item).0)

-- kernels that are the same one after another
pub chain : {w : World} {p q r : Part} {a b c : List Symbol} → SameKernelIn w p a q b → SameKernelIn w q b r c → SameKernelIn w p a r c
chain f g item = (λ h. (g item).0 ((f item).0 h), λ h. (f item).1 ((g item).1 h))

-- a kernel is the same as itself
pub same_itself : (w : World) (p : Part) (a : List Symbol) → SameKernelIn w p a p a
same_itself w p a item = (λ h. h, λ h. h)

-- the valid items are in the closure of the kernel
pub closure_complete : {w : World} {part : Part} {prefix : List Symbol} {item : Item} {t : ℕ} → IsValidItemIn w part prefix item t →
    InClosureIn w part (IsKernelItemIn w part prefix) item
closure_complete {w} start = kernel ((w.end_terminal, start), inr (refl, refl))
closure_complete (close item t b rest q u v is rule left f) = opened item b rest q (closure_complete v) is rule left
closure_complete (move item x rest prefix {t} {longer} {moved} v is longer_is moved_is) =
    kernel ((t, move item x rest prefix v is longer_is moved_is), inl (advanced item moved moved_is))

-- and each item there is valid
pub closure_sound : {w : World} {part : Part} → IsMarked w → AreProductiveIn w part → (prefix : List Symbol) {item : Item} →
    InClosureIn w part (IsKernelItemIn w part prefix) item → HasItemIn w part prefix item
closure_sound ok p prefix (kernel k) = k.0
closure_sound ok p prefix (opened item b rest q c is rule left) =
    let (t, v) = closure_sound ok p prefix c in
    let (u, f) = live p rest ((open_names ok v b rest is).1) t in
    (u, close item t b rest q u v is rule left f)

-- the closure of a larger set
pub closure_map : {w : World} {part : Part} {K L : Item → Type 0} {item : Item} → ((i : Item) → K i → L i) → InClosureIn w part K item →
    InClosureIn w part L item
closure_map f (kernel {item} k) = kernel (f item k)
closure_map f (opened item b rest q c is rule left) = opened item b rest q (closure_map f c) is rule left

-- a closure with an item has a member
pub closure_kernel : {w : World} {part : Part} {K : Item → Type 0} {item : Item} → InClosureIn w part K item → (i : Item) × K i
closure_kernel (kernel {item} k) = (item, k)
closure_kernel (opened item b rest q c is rule left) = closure_kernel c

-- an item of a closure is in the closure by the part's productions, or is the initial item of a mark's production there
pub data Seen (w : World) (part : Part) (K : Item → Type 0) (i : Item) : Type 0 where
  seen : InClosureIn w part K i → Named w part (after_dot_in w i) → Seen w part K i
  marks : (m h : ℕ) (j : Item) (rest : List Symbol) → w.mark m ≡ on h → i ≡ initial_item (w.production_of m) → InClosureIn w part K j →
      after_dot_in w j ≡ Nonterminal h ∷ rest → Named w part (after_dot_in w j) → Seen w part K i

-- the closure by one part in that by another
pub closure_project : {w : World} {all part : Part} {K : Item → Type 0} {i : Item} → IsMarked w →
    ((i : Item) → K i → Named w part (after_dot_in w i)) → InClosureIn w all K i → Seen w part K i
closure_project ok names (kernel {item} k) = seen (kernel k) (names item k)
closure_project {w} {all} {part} {K} ok names (opened item b rest q c is rule left) = go (closure_project ok names c)
  where
    go : Seen w part K item → Seen w part K (initial_item q)
    go (seen d named) = next (ways ok all part q b rule left ((subst (Named w part) is named).0))
      where
        next : Ways w part q b → Seen w part K (initial_item q)
        next (own mine clean) =
            seen (opened item b rest q d is mine left)
            (each_weaker (λ x. Has part (w.symbol_owner x) × IsBare w x) (λ x. Has part (w.symbol_owner x)) (λ x h. h.0) (w.right q) clean)
        next (bridge m rest' mark of_mark right) = marks m b item rest mark (ap initial_item of_mark) d is named
    go (marks m h j rest' mark i_is d j_open named) =
        let (rest2, right) = ok.bridges.bridge_right m h mark in
        let e : Terminal m ∷ rest2 ≡ Nonterminal b ∷ rest = sym right ∙ (sym (ap (after_dot_in w) i_is) ∙ is) in cc

-- what an item of one part is in another, at prefixes with one kernel
pub data Found (w : World) (part : Part) (prefix : List Symbol) (i : Item) : Type 0 where
  found : HasItemIn w part prefix i → Found w part prefix i
  opens : (m h : ℕ) (j : Item) (rest : List Symbol) → w.mark m ≡ on h → i ≡ initial_item (w.production_of m) → HasItemIn w part prefix j →
      after_dot_in w j ≡ Nonterminal h ∷ rest → Found w part prefix i

-- an item of one part in another
pub find_item : {w : World} {all part : Part} {a b : List Symbol} {i : Item} {t : ℕ} → IsMarked w → AreProductiveIn w part →
    SameKernelIn w all a part b → IsValidItemIn w all a i t → Found w part b i
find_item {w} {all} {part} {a} {b} {i} ok p same v =
    go (closure_project ok named (closure_map (λ j k. (same j).0 k) (closure_complete v)))
  where
    named : (j : Item) → IsKernelItemIn w part b j → Named w part (after_dot_in w j)
    named j k = item_names ok ((k.0).1)

    go : Seen w part (IsKernelItemIn w part b) i → Found w part b i
    go (seen c n) = found (closure_sound ok p b c)
    go (marks m h j rest mark is c before n) = opens m h j rest mark is (closure_sound ok p b c) before

-- a symbol without mark keeps kernels the same
step_half : {w : World} {all part : Part} → IsMarked w → AreProductiveIn w part → (a b : List Symbol) (x : Symbol) → IsBare w x →
    SameKernelIn w all a part b → (moved : Item) → IsKernelItemIn w all (a ++ x ∷ []) moved → IsKernelItemIn w part (b ++ x ∷ []) moved
step_half {w} {all} {part} ok p a b x bare_x same moved ((t, v), inr (is, empty)) = absurd (snoc_not_nil a x empty)
step_half {w} {all} {part} ok p a b x bare_x same moved ((t, v), inl ne) =
    let m = moved_from v ne in
    let parts = snoc_parts a m.prefix x m.x m.longer_is in
    go m.item (subst (λ z. IsValidItemIn w all z m.item t) (sym parts.0) m.valid) m.rest
    (subst (λ z. after_dot_in w m.item ≡ z ∷ m.rest) (sym parts.1) m.before_dot) m.is
  where
    go : (i : Item) → IsValidItemIn w all a i t → (rest : List Symbol) → after_dot_in w i ≡ x ∷ rest → moved ≡ advance i →
        IsKernelItemIn w part (b ++ x ∷ []) moved
    go i vi rest is moved_is = at (find_item ok p same vi)
      where
        at : Found w part b i → IsKernelItemIn w part (b ++ x ∷ []) moved
        at (found (u, vj)) = ((u, move i x rest b vj is refl moved_is), inl ne)
        at (opens m h j rest' mark i_is has before) =
            let (rest2, right) = ok.bridges.bridge_right m h mark in
            let e : Terminal m ∷ rest2 ≡ x ∷ rest = sym right ∙ (sym (ap (after_dot_in w) i_is) ∙ is) in
            let f : Terminal m ≡ x = cc in
            absurd (bare_not_on h (sym (subst (IsBare w) (sym f) bare_x) ∙ mark))

-- kernels that are the same are so after a bare symbol
pub bare_step : {w : World} {all part : Part} → IsMarked w → AreProductiveIn w all → AreProductiveIn w part →
    (a b : List Symbol) (x : Symbol) → IsBare w x → SameKernelIn w all a part b → SameKernelIn w all (a ++ x ∷ []) part (b ++ x ∷ [])
bare_step ok p q a b x bare_x same moved = (step_half ok q a b x bare_x same moved, step_half ok p b a x bare_x (flip same) moved)

-- the kernel after a mark is the one item of its production
after_mark : {w : World} {all part : Part} → IsMarked w → (a b : List Symbol) (m h : ℕ) (rest : List Symbol) (item : Item) (t : ℕ) →
    w.mark m ≡ on h → IsValidItemIn w part b item t → after_dot_in w item ≡ Terminal m ∷ rest → (moved : Item) →
    IsKernelItemIn w all (a ++ Terminal m ∷ []) moved → IsKernelItemIn w part (b ++ Terminal m ∷ []) moved
after_mark ok a b m h rest item t mark v is moved ((t', v'), inr (is', empty)) = absurd (snoc_not_nil a (Terminal m) empty)
after_mark {w} {all} {part} ok a b m h rest item t mark v is moved ((t', v'), inl ne) =
    let k = moved_from v' ne in
    let parts = snoc_parts a k.prefix (Terminal m) k.x k.longer_is in
    let other : k.item ≡ initial_item (w.production_of m) =
    mark_opens ok k.item m h k.rest (subst (λ z. after_dot_in w k.item ≡ z ∷ k.rest) (sym parts.1) k.before_dot) mark in
    let mine : item ≡ initial_item (w.production_of m) = mark_opens ok item m h rest is mark in
    let moved_is : moved ≡ advance item = k.is ∙ ap advance (other ∙ sym mine) in
    ((t, move item (Terminal m) rest b v is refl moved_is), inl ne)

-- kernels are the same after a mark
pub mark_step : {w : World} {all part : Part} → IsMarked w →
    (a b : List Symbol) (m h : ℕ) (rest rest' : List Symbol) (i j : Item) (t u : ℕ) → w.mark m ≡ on h → IsValidItemIn w all a i t →
    after_dot_in w i ≡ Terminal m ∷ rest → IsValidItemIn w part b j u → after_dot_in w j ≡ Terminal m ∷ rest' →
    SameKernelIn w all (a ++ Terminal m ∷ []) part (b ++ Terminal m ∷ [])
mark_step ok a b m h rest rest' i j t u mark v is v' is' moved =
    (after_mark ok a b m h rest' j u mark v' is' moved, after_mark ok b a m h rest i t mark v is moved)

-- the kernel of the empty prefix
pub first_half : {w : World} {part other : Part} (item : Item) → IsKernelItemIn w part [] item → IsKernelItemIn w other [] item
first_half {w} {part} {other} item ((t, v), inl ne) = let m = moved_from v ne in absurd (snoc_not_nil m.prefix m.x (sym m.longer_is))
first_half {w} {part} {other} item ((t, v), inr (is, e)) =
    ((w.end_terminal, subst (λ z. IsValidItemIn w other [] z w.end_terminal) (sym is) start), inr (is, e))

-- all parts have one kernel at the empty prefix
pub first_kernels : {w : World} (part other : Part) → SameKernelIn w part [] other []
first_kernels part other item = (first_half item, first_half item)

-- kernels stay the same over a symbol before which an item of both has its dot
pub item_step : {w : World} {all part : Part} {a b : List Symbol} {i : Item} {t u : ℕ} → IsMarked w → AreProductiveIn w all →
    AreProductiveIn w part → (x : Symbol) (rest : List Symbol) → SameKernelIn w all a part b → IsValidItemIn w all a i t →
    IsValidItemIn w part b i u → after_dot_in w i ≡ x ∷ rest → SameKernelIn w all (a ++ x ∷ []) part (b ++ x ∷ [])
item_step {a = a} {b = b} ok p q (Nonterminal c) rest same v v' is = bare_step ok p q a b (Nonterminal c) tt same
item_step {w} {all} {part} {a} {b} {i} {t} {u} ok p q (Terminal m) rest same v v' is = go (w.mark m) refl
  where
    go : (k : Mark) → w.mark m ≡ k → SameKernelIn w all (a ++ Terminal m ∷ []) part (b ++ Terminal m ∷ [])
    go bare mark = bare_step ok p q a b (Terminal m) mark same
    go (on h) mark = mark_step ok a b m h rest rest i i t u mark v is v' is

-- a prefix of a part has the same kernel in a larger part
pub shapes : {w : World} {part other : Part} {prefix : List Symbol} {item : Item} {t : ℕ} → IsMarked w → AreProductiveIn w part →
    AreProductiveIn w other → ((o : Owner) → Has part o → Has other o) → IsValidItemIn w part prefix item t →
    SameKernelIn w part prefix other prefix
shapes {w} {part} {other} ok p q more start = first_kernels part other
shapes ok p q more (close item t b rest r u v is rule left f) = shapes ok p q more v
shapes {w} {part} {other} ok p q more (move item x rest prefix {longer = longer} v is longer_is moved_is) =
    subst (λ z. SameKernelIn w part z other z) (sym longer_is) (item_step ok p q x rest (shapes ok p q more v) v (valid_more more v) is)
