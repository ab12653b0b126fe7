-- Where the kernels of a union lead, by where those of the certified grammars lead.
use Rattle.std.proofs.Common.{◌++◌, ◌<◌, ◌∙◌, ◌∷◌, ◌≡◌, ◌≢◌, ◌⊎◌, List, [], ap, drop, inl, inr, refl, subst, suc, sym, zero, ℕ}
use Rattle.wb_base.specs.declared.symbol.Symbol.{Symbol}
use Rattle.wb_base.specs.declared.symbol.Symbol.TheVariants.{Nonterminal, Terminal}
use Rattle.wb_grammar_theory.specs.declared.item.Item.{Item}
use Rattle.wb_grammar_theory.proofs.KernelLemmas.{snoc_not_nil, snoc_parts}
use Rattle.wb_grammar_theory.specs.Items.{advance, initial_item}
use Rattle.wb_compose_theory.proofs.HomeLemmas.{main}
use Rattle.wb_compose_theory.proofs.KernelLemmas.{Found, advanced, find_item, flip, found, item_step, opens}
use Rattle.wb_compose_theory.proofs.LookaheadLemmas.{back, back_same}
use Rattle.wb_compose_theory.proofs.MarkLemmas.{mark_opens}
use Rattle.wb_compose_theory.proofs.PartLemmas.{home_holes, productive_home, productive_union}
use Rattle.wb_compose_theory.proofs.StepLemmas.{Named, hole_left, hole_rule, item_names, item_source, live, open_names}
use Rattle.wb_compose_theory.specs.Homes.{AreComposableApart, Home, IsListed, of, of_host, part_of}
use Rattle.wb_compose_theory.specs.Items.{HasItemIn, IsKernelItemIn, IsValidItemIn, IsViablePrefixIn, SameKernelIn, after_dot_in, close}
use Rattle.wb_compose_theory.specs.Items.{move, start, start_item_in}
use Rattle.wb_compose_theory.specs.Marks.{IsMarked, Shape, marked, unmarked}
use Rattle.wb_compose_theory.specs.Worlds.{Has, IsProductionIn, Owner, Part, World, extension, hole, host, on, top, union}

-- an item of a prefix with its dot before the symbol
pub record Before (w : World) (part : Part) (prefix : List Symbol) (x : Symbol) : Type 0 where
  pub item : Item
  pub t : ℕ
  pub rest : List Symbol
  pub valid : IsValidItemIn w part prefix item t
  pub is : after_dot_in w item ≡ x ∷ rest

-- the item from which a longer prefix goes on
pub before : {w : World} {part : Part} {longer : List Symbol} {i : Item} {t : ℕ} → IsValidItemIn w part longer i t →
    (prefix : List Symbol) (x : Symbol) → longer ≡ prefix ++ x ∷ [] → Before w part prefix x
before start prefix x e = absurd (snoc_not_nil prefix x (sym e))
before (close item t b rest q u v is rule left f) prefix x e = before v prefix x e
before {w} {part} (move item y rest shorter {t = t} v is longer_is moved_is) prefix x e =
    let p = snoc_parts shorter prefix y x (sym longer_is ∙ e) in
    record {
      item = item;
      t = t;
      rest = rest;
      valid = subst (λ z. IsValidItemIn w part z item t) p.0 v;
      is = is ∙ ap (λ z. z ∷ rest) p.1;
    }

-- a prefix with an item has a kernel item
pub some_kernel : {w : World} {part : Part} {prefix : List Symbol} {i : Item} {t : ℕ} → IsValidItemIn w part prefix i t →
    (j : Item) × IsKernelItemIn w part prefix j
some_kernel {w} start = (start_item_in w, ((w.end_terminal, start), inr (refl, refl)))
some_kernel (close item t b rest q u v is rule left f) = some_kernel v
some_kernel (move item x rest prefix {t = t} {longer = longer} {moved = moved} v is longer_is moved_is) =
    (moved, ((t, move item x rest prefix v is longer_is moved_is), inl (advanced item moved moved_is)))

-- a symbol after a prefix is one of the part
pub named_after : {w : World} {part : Part} → IsMarked w → (prefix : List Symbol) (x : Symbol) →
    IsViablePrefixIn w part (prefix ++ x ∷ []) → Has part (w.symbol_owner x)
named_after {w} {part} ok prefix x (i, t, v) =
    let b = before v prefix x refl in
    (subst (Named w part) b.is (item_names ok b.valid)).0

-- the one item of a hole's production with a symbol after its dot: its dot is at the left end, and the symbol is the hole
pub record AtHole (w : World) (item : Item) (x : Symbol) : Type 0 where
  pub nonterminal : ℕ
  pub mark : w.mark (w.hole_on nonterminal) ≡ on nonterminal
  pub symbol : x ≡ Terminal (w.hole_on nonterminal)
  pub item_is : item ≡ initial_item (w.production_of (w.hole_on nonterminal))

-- an item of a hole's production with a symbol after its dot
pub at_hole : {w : World} → IsMarked w → (item : Item) (x : Symbol) (rest : List Symbol) → after_dot_in w item ≡ x ∷ rest →
    w.production_owner item.production ≡ hole → AtHole w item x
at_hole {w} ok item x rest is owner = go (ok.bridges.shape item.production)
  where
    by_dot : (d : ℕ) (a : ℕ) → item.dot ≡ d → item.production ≡ w.production_of (w.hole_on a) → w.mark (w.hole_on a) ≡ on a →
        drop d (Terminal (w.hole_on a) ∷ []) ≡ x ∷ rest → AtHole w item x
    by_dot zero a dot_is p_is mark e = record {
      nonterminal = a;
      mark = mark;
      symbol = (cc);
      item_is = λ j. record { production = p_is j; dot = dot_is j };
    }
    by_dot (suc zero) a dot_is p_is mark e = cc
    by_dot (suc (suc d)) a dot_is p_is mark e = cc

    go : Shape w item.production → AtHole w item x
    go (unmarked bares) =
        absurd (ok.named.no_hole (w.left item.production) (sym (ok.named.unmarked_owner item.production bares
        (λ e. (let f : hole ≡ top = sym owner ∙ e in cc))) ∙ owner))
    go (marked m a rest' mark is' right bares) =
        let m_owner : w.symbol_owner (Terminal m) ≡ hole = sym (ok.bridges.bridge_owner m a mark) ∙
        (ap w.production_owner (sym is') ∙ owner)
        in
        let m_is = ok.holes.hole_only m a mark m_owner in
        let p_is : item.production ≡ w.production_of (w.hole_on a) = is' ∙ ap w.production_of m_is in
        by_dot item.dot a refl p_is (ok.holes.hole_mark m a mark)
        (ap (drop item.dot) (sym (ap w.right p_is ∙ ok.holes.hole_right m a mark)) ∙ is)

-- where an item's dot is before a symbol that is no hole, its production isn't a hole's
pub before_no_hole : {w : World} → IsMarked w → (item : Item) (x : Symbol) (rest : List Symbol) → after_dot_in w item ≡ x ∷ rest →
    w.symbol_owner x ≢ hole → w.production_owner item.production ≢ hole
before_no_hole {w} ok item x rest is ne owner =
    let h = at_hole ok item x rest is owner in
    ne (ap w.symbol_owner h.symbol ∙ ok.holes.hole_owner (w.hole_on h.nonterminal) h.nonterminal h.mark)

-- where a certified grammar has a kernel item that isn't a hole's, the union has the kernel at the same prefix
pub kept_same : {w : World} {n : ℕ} → IsMarked w → AreComposableApart w n → (home : Home) → IsListed n home → {prefix : List Symbol}
    {j : Item} → IsKernelItemIn w (part_of home) prefix j → w.production_owner j.production ≢ hole →
    IsViablePrefixIn w (union n) prefix × SameKernelIn w (union n) prefix (part_of home) prefix
kept_same ok c home l {prefix} {j} ((t, v), k) ne =
    let (u, v') = (back ok c home l v ne).has in ((j, u, v'), flip (back_same ok c home l v ne))

-- a certified grammar with a kernel of the union
pub record Housed (w : World) (n : ℕ) (prefix : List Symbol) : Type 0 where
  pub home : Home
  pub listed : IsListed n home
  pub other : List Symbol
  pub same : SameKernelIn w (union n) prefix (part_of home) other
  pub viable : IsViablePrefixIn w (part_of home) other

-- each kernel of the union is one of a certified grammar
pub housed : {w : World} {n : ℕ} → IsMarked w → AreComposableApart w n → (prefix : List Symbol) → IsViablePrefixIn w (union n) prefix →
    Housed w n prefix
housed ok c prefix (i, t, v) =
    let k = main ok c v in
    let (j, at) = some_kernel v in
    let ((u, v'), by) = (k.same j).0 at in
    record { home = k.home; listed = k.listed; other = k.other; same = k.same; viable = (j, u, v') }

-- where a kernel of the union leads: where one of a certified grammar does, or over a marker, where that leads over the hole
pub data Over (w : World) (n : ℕ) (home : Home) (prefix other : List Symbol) (x : Symbol) : Type 0 where
  along : IsViablePrefixIn w (part_of home) (other ++ x ∷ []) →
      SameKernelIn w (union n) (prefix ++ x ∷ []) (part_of home) (other ++ x ∷ []) → Over w n home prefix other x
  across : (m h : ℕ) → x ≡ Terminal m → w.mark m ≡ on h →
      IsViablePrefixIn w (part_of home) (other ++ Terminal (w.hole_on h) ∷ []) → Over w n home prefix other x

-- from a kernel that both have
pub over : {w : World} {n : ℕ} → IsMarked w → AreComposableApart w n → (home : Home) → IsListed n home → (prefix other : List Symbol)
    (x : Symbol) → SameKernelIn w (union n) prefix (part_of home) other → IsViablePrefixIn w (union n) (prefix ++ x ∷ []) →
    Over w n home prefix other x
over {w} {n} ok c home l prefix other x same (i, t, v) = go (before v prefix x refl)
  where
    by : (b : Before w (union n) prefix x) → Found w (part_of home) other b.item → Over w n home prefix other x
    by b (found (u, v')) =
        along (advance b.item, u, move b.item x b.rest other v' b.is refl refl)
        (item_step ok (productive_union ok n c) (productive_home ok c home l) x b.rest same b.valid v' b.is)
    by b (opens m h j rest mark i_is (s, vj) opening) =
        let (rest', right) = ok.bridges.bridge_right m h mark in
        let e : x ∷ b.rest ≡ Terminal m ∷ rest' = sym b.is ∙ (ap (after_dot_in w) i_is ∙ right) in
        let x_is : x ≡ Terminal m = cc in
        let (u, f) = live (productive_home ok c home l) rest ((open_names ok vj h rest opening).1) s in
        across m h x_is mark (
          advance (initial_item (w.production_of (w.hole_on h))),
          u,
          move (initial_item (w.production_of (w.hole_on h))) (Terminal (w.hole_on h)) [] other
              (close j s h rest (w.production_of (w.hole_on h)) u vj opening (hole_rule ok (part_of home) (home_holes home) m h mark)
              (hole_left ok m h mark) f)
              (ok.holes.hole_right m h mark) refl refl,
        )

    go : Before w (union n) prefix x → Over w n home prefix other x
    go b = by b (find_item ok (productive_home ok c home l) same b.valid)

-- what a certified grammar has, and isn't a hole's, is of the union
pub owner_there : (n : ℕ) (home : Home) → IsListed n home → (o : Owner) → Has (part_of home) o → o ≢ hole → Has (union n) o
owner_there n home l host has ne = tt
owner_there n home l hole has ne = absurd (ne refl)
owner_there n of_host l (extension k) has ne = absurd has
owner_there n (of e) l (extension k) has ne = subst (λ z. z < n) (sym has) l
owner_there n of_host l top has ne = absurd has
owner_there n (of e) l top has ne = absurd has

-- the production that a mark begins is not the added one
mark_rule_in : {w : World} {part : Part} {prefix : List Symbol} {i : Item} {t : ℕ} → IsMarked w → (m h : ℕ) → w.mark m ≡ on h →
    IsValidItemIn w part prefix i t → i ≡ initial_item (w.production_of m) → IsProductionIn w part (w.production_of m)
mark_rule_in {w} {part} {i = i} ok m h mark v is = go (item_source v)
  where
    go : (i.production ≡ w.top_production) ⊎ IsProductionIn w part i.production → IsProductionIn w part (w.production_of m)
    go (inl e) =
        let (rest, right) = ok.bridges.bridge_right m h mark in
        let f : w.top_production ≡ w.production_of m = sym e ∙ ap (λ z. z.production) is in
        let g : Nonterminal w.start_symbol ∷ [] ≡ Terminal m ∷ rest = sym ok.start.top_right ∙ (ap w.right f ∙ right) in cc
    go (inr rule) = subst (λ z. IsProductionIn w part z.production) is rule

-- an item of a certified grammar that isn't a hole's is one of the union
item_there : {w : World} {n : ℕ} → IsMarked w → AreComposableApart w n → (home : Home) → IsListed n home → (prefix other : List Symbol)
    → SameKernelIn w (union n) prefix (part_of home) other → {i : Item} {t : ℕ} → IsValidItemIn w (part_of home) other i t →
    w.production_owner i.production ≢ hole → HasItemIn w (union n) prefix i
item_there {w} {n} ok c home l prefix other same {i} v ne = go (find_item ok (productive_union ok n c) (flip same) v)
  where
    go : Found w (union n) prefix i → HasItemIn w (union n) prefix i
    go (found has) = has
    go (opens m h j rest mark i_is (s, vj) opening) =
        let rule = owner_there n home l (w.production_owner (w.production_of m)) (mark_rule_in ok m h mark v i_is)
        (λ e. ne (ap (λ z. w.production_owner z.production) i_is ∙ e)) in
        let (u, f) = live (productive_union ok n c) rest ((open_names ok vj h rest opening).1) s in (
          u,
          subst (λ z. IsValidItemIn w (union n) prefix z u) (sym i_is)
              (close j s h rest (w.production_of m) u vj opening rule (ok.bridges.bridge_left m h mark) f),
        )

-- where a certified grammar leads over a symbol that is no hole, the union does
pub over_along : {w : World} {n : ℕ} → IsMarked w → AreComposableApart w n → (home : Home) → IsListed n home →
    (prefix other : List Symbol) (x : Symbol) → SameKernelIn w (union n) prefix (part_of home) other →
    IsViablePrefixIn w (part_of home) (other ++ x ∷ []) → w.symbol_owner x ≢ hole →
    IsViablePrefixIn w (union n) (prefix ++ x ∷ []) × SameKernelIn w (union n) (prefix ++ x ∷ []) (part_of home) (other ++ x ∷ [])
over_along {w} {n} ok c home l prefix other x same (i, t, v) ne = go (before v other x refl)
  where
    go : Before w (part_of home) other x →
        IsViablePrefixIn w (union n) (prefix ++ x ∷ []) × SameKernelIn w (union n) (prefix ++ x ∷ []) (part_of home) (other ++ x ∷ [])
    go b =
        let (u, v') = item_there ok c home l prefix other same b.valid (before_no_hole ok b.item x b.rest b.is ne) in (
          (advance b.item, u, move b.item x b.rest prefix v' b.is refl refl),
          item_step ok (productive_union ok n c) (productive_home ok c home l) x b.rest same v' b.valid b.is,
        )

-- the item that opened the initial item of a mark's production
record Opener (w : World) (part : Part) (prefix : List Symbol) (h : ℕ) : Type 0 where
  pub item : Item
  pub t : ℕ
  rest : List Symbol
  valid : IsValidItemIn w part prefix item t
  pub is : after_dot_in w item ≡ Nonterminal h ∷ rest

-- there is one
opener : {w : World} {part : Part} {prefix : List Symbol} {i : Item} {u : ℕ} → IsMarked w → (m h : ℕ) → w.mark m ≡ on h →
    IsValidItemIn w part prefix i u → i ≡ initial_item (w.production_of m) → Opener w part prefix h
opener {w} ok m h mark start i_is =
    let (rest, right) = ok.bridges.bridge_right m h mark in
    let e : w.top_production ≡ w.production_of m = ap (λ z. z.production) i_is in
    let f : Nonterminal w.start_symbol ∷ [] ≡ Terminal m ∷ rest = sym ok.start.top_right ∙ (ap w.right e ∙ right) in cc
opener {w} ok m h mark (close item t b rest q u {prefix} v is rule left f) i_is =
    let e : q ≡ w.production_of m = ap (λ z. z.production) i_is in
    let same : b ≡ h = sym left ∙ (ap w.left e ∙ ok.bridges.bridge_left m h mark) in
    record { item = item; t = t; rest = rest; valid = v; is = is ∙ ap (λ z. Nonterminal z ∷ rest) same }
opener ok m h mark (move item x rest prefix {moved = moved} v is longer_is moved_is) i_is =
    absurd (advanced item moved moved_is (ap (λ z. z.dot) i_is))

-- where a certified grammar leads over a hole, the union does over each of its markers on the nonterminal
pub over_across : {w : World} {n : ℕ} → IsMarked w → AreComposableApart w n → (home : Home) → IsListed n home →
    (prefix other : List Symbol) (m h : ℕ) → SameKernelIn w (union n) prefix (part_of home) other → w.mark m ≡ on h →
    Has (union n) (w.symbol_owner (Terminal m)) → IsViablePrefixIn w (part_of home) (other ++ Terminal (w.hole_on h) ∷ []) →
    IsViablePrefixIn w (union n) (prefix ++ Terminal m ∷ [])
over_across {w} {n} ok c home l prefix other m h same mark named (i, t, v) = go (before v other (Terminal (w.hole_on h)) refl)
  where
    from : Opener w (part_of home) other h → IsViablePrefixIn w (union n) (prefix ++ Terminal m ∷ [])
    from o =
        let ne : w.production_owner o.item.production ≢ hole =
        before_no_hole ok o.item (Nonterminal h) o.rest o.is (ok.named.no_hole h) in
        let (s, vs) = item_there ok c home l prefix other same o.valid ne in
        let (u, f) = live (productive_union ok n c) o.rest ((open_names ok vs h o.rest o.is).1) s in
        let rule : IsProductionIn w (union n) (w.production_of m) = subst (Has (union n)) (sym (ok.bridges.bridge_owner m h mark)) named in
        let (rest, right) = ok.bridges.bridge_right m h mark in (
          advance (initial_item (w.production_of m)),
          u,
          move (initial_item (w.production_of m)) (Terminal m) rest prefix
              (close o.item s h o.rest (w.production_of m) u vs o.is rule (ok.bridges.bridge_left m h mark) f) right refl refl,
        )

    go : Before w (part_of home) other (Terminal (w.hole_on h)) → IsViablePrefixIn w (union n) (prefix ++ Terminal m ∷ [])
    go b = from (opener ok (w.hole_on h) h (ok.holes.hole_mark m h mark) b.valid
        (mark_opens ok b.item (w.hole_on h) h b.rest b.is (ok.holes.hole_mark m h mark)))
