-- Actions of the union are actions of certified grammars, and where a kernel is one of the host with holes, actions there.
use Rattle.std.proofs.Common.{◌∙◌, ◌∷◌, ◌≡◌, ◌≢◌, List, [], ap, inl, inr, refl, subst, sym, ℕ}
use Rattle.wb_base.specs.declared.symbol.Symbol.{Symbol}
use Rattle.wb_base.specs.declared.symbol.Symbol.TheVariants.{Terminal}
use Rattle.wb_grammar_theory.specs.declared.item.Item.{Item}
use Rattle.wb_compose_theory.proofs.HomeLemmas.{kernel_bare, main, to_plus}
use Rattle.wb_compose_theory.proofs.KernelLemmas.{advanced, chain, closure_complete, closure_map, closure_sound, flip, same_itself}
use Rattle.wb_compose_theory.proofs.MarkLemmas.{phi_bare, phi_on, phi_phi}
use Rattle.wb_compose_theory.proofs.PartLemmas.{home_holes}
use Rattle.wb_compose_theory.proofs.StepLemmas.{close_step, first_step, rest_clean, stands_open}
use Rattle.wb_compose_theory.specs.Derives.{AreProductiveIn}
use Rattle.wb_compose_theory.specs.Homes.{AreComposableApart, Home, IsListed, part_of}
use Rattle.wb_compose_theory.specs.Items.{HasItemIn, IsKernelItemIn, IsValidItemIn, SameKernelIn, after_dot_in, close, move, start}
use Rattle.wb_compose_theory.specs.Items.{start_item_in}
use Rattle.wb_compose_theory.specs.Lookaheads.{CanReduceIn, HasConflictIn, IsLookaheadIn}
use Rattle.wb_compose_theory.specs.Marks.{Each, IsBare, IsMarked, phi}
use Rattle.wb_compose_theory.specs.Stands.{StandsFor, as_hole, itself}
use Rattle.wb_compose_theory.specs.Worlds.{HasHoles, Part, World, plus, union}

-- an action: to shift, or to reduce by a production
pub data Act : Type 0 where
  shift : Act
  reduce : ℕ → Act

-- the item has this action on t, if t is one of its lookaheads where it reduces
abbrev pub Shows : World → Act → ℕ → Item → Type 0
Shows w shift t item = (rest : List Symbol) × (after_dot_in w item ≡ Terminal t ∷ rest)
Shows w (reduce p) t item = (item.production ≡ p) × (after_dot_in w item ≡ [])

-- the terminal is one of these where the action is to reduce, and there is one where it is to shift
abbrev pub Looks : (ℕ → Type 0) → Act → ℕ → Type 0
Looks P shift t = (u : ℕ) × P u
Looks P (reduce p) t = P t

-- an action by an item that is valid for this very prefix
abbrev pub Acts : World → Part → List Symbol → Act → ℕ → Type 0
Acts w part prefix act t = (item : Item) × Shows w act t item × Looks (IsValidItemIn w part prefix item) act t

-- the items are those of every prefix of the part with the same kernel
pub same_has : {w : World} {part : Part} → IsMarked w → AreProductiveIn w part → (a b : List Symbol) {i : Item} {t : ℕ} →
    SameKernelIn w part a part b → IsValidItemIn w part a i t → HasItemIn w part b i
same_has ok p a b same v = closure_sound ok p b (closure_map (λ j k. (same j).0 k) (closure_complete v))

-- a reduction at a prefix, by an item that is valid for another with the same kernel
pub reducing : {w : World} {part : Part} {a b : List Symbol} → IsMarked w → AreProductiveIn w part → SameKernelIn w part b part a →
    (i : Item) (p t : ℕ) → i.production ≡ p → after_dot_in w i ≡ [] → IsValidItemIn w part b i t → CanReduceIn w part a p t
reducing {a = a} {b = b} ok live same i p t p_is over v =
    record { item = i; production = p_is; complete = over; has = same_has ok live b a same v; lookahead = (b, flip same, v) }

-- two different actions at one kernel of a part are a conflict of it
pub conflict_of : {w : World} {part : Part} {a b : List Symbol} → IsMarked w → AreProductiveIn w part → (p q : Act) (t : ℕ) → p ≢ q →
    SameKernelIn w part a part b → Acts w part a p t → Acts w part b q t → (prefix : List Symbol) × HasConflictIn w part prefix t
conflict_of ok live shift shift t ne same x y = absurd (ne refl)
conflict_of {a = a} {b = b} ok live shift (reduce q) t ne same (i, (rest, is), has) (j, (p_is, over), v) =
    (a, inl (q, record { item = i; rest = rest; has = has; before_dot = is }, reducing ok live (flip same) j q t p_is over v))
conflict_of {a = a} {b = b} ok live (reduce p) shift t ne same (i, (p_is, over), v) (j, (rest, is), has) =
    (b, inl (p, record { item = j; rest = rest; has = has; before_dot = is }, reducing ok live same i p t p_is over v))
conflict_of {w} {part} {a} {b} ok live (reduce p) (reduce q) t ne same (i, (p_is, over), v) (j, (q_is, over'), v') = (
  a,
  inr (
    p,
    q,
    (λ e. ne (ap reduce e)),
    reducing ok live (same_itself w part a) i p t p_is over v,
    reducing ok live (flip same) j q t q_is over' v',
  ),
)

-- two different actions at prefixes with one kernel
pub record Two (w : World) (part : Part) (t : ℕ) : Type 0 where
  pub a : List Symbol
  pub b : List Symbol
  pub p : Act
  pub q : Act
  pub differ : p ≢ q
  pub same : SameKernelIn w part a part b
  pub first : Acts w part a p t
  pub second : Acts w part b q t

-- a conflict is two different actions
pub two_of : {w : World} {part : Part} (prefix : List Symbol) (t : ℕ) → HasConflictIn w part prefix t → Two w part t
two_of prefix t (inl (p, can, red)) =
    let (b, same, v) = red.lookahead in
    record {
      a = prefix;
      b = b;
      p = shift;
      q = reduce p;
      differ = λ e. cc;
      same = same;
      first = (can.item, (can.rest, can.before_dot), can.has);
      second = (red.item, (red.production, red.complete), v);
    }
two_of prefix t (inr (p, q, ne, one, two)) =
    let (a, same, v) = one.lookahead in
    let (b, same', v') = two.lookahead in
    record {
      a = a;
      b = b;
      p = reduce p;
      q = reduce q;
      differ = λ e. ne (reduce_same p q e);
      same = chain (flip same) same';
      first = (one.item, (one.production, one.complete), v);
      second = (two.item, (two.production, two.complete), v');
    }
  where
    reduce_same : (p q : ℕ) → reduce p ≡ reduce q → p ≡ q
    reduce_same p q e = cc

-- what an item shows, what it stands for shows on what the terminal becomes by phi
pub shows_stand : {w : World} → IsMarked w → (act : Act) (t : ℕ) (i j : Item) → StandsFor w i j → Shows w act t i → Shows w act (phi w t) j
shows_stand {w} ok shift t i j (itself bares same) (rest, is) =
    (rest, ap (after_dot_in w) same ∙ (is ∙ ap (λ z. Terminal z ∷ rest) (sym (phi_bare w t ((subst (Each (IsBare w)) is bares).0)))))
shows_stand {w} ok shift t i j (as_hole m h mark i_is j_is) (rest, is) =
    let (rest', right) = ok.bridges.bridge_right m h mark in
    let e : Terminal m ∷ rest' ≡ Terminal t ∷ rest = sym right ∙ (sym (ap (after_dot_in w) i_is) ∙ is) in
    let f : t ≡ m = cc in
    ([], ap (after_dot_in w) j_is ∙ (ok.holes.hole_right m h mark ∙ ap (λ z. Terminal z ∷ []) (sym (phi_on w t h (ap w.mark f ∙ mark)))))
shows_stand {w} ok (reduce p) t i j (itself bares same) (p_is, over) = (ap (λ z. z.production) same ∙ p_is, ap (after_dot_in w) same ∙ over)
shows_stand {w} ok (reduce p) t i j (as_hole m h mark i_is j_is) (p_is, over) =
    let (rest', right) = ok.bridges.bridge_right m h mark in
    let e : Terminal m ∷ rest' ≡ [] = sym right ∙ (sym (ap (after_dot_in w) i_is) ∙ over) in cc

-- an action of the union is one of a certified grammar
pub record Housed (w : World) (n : ℕ) (prefix : List Symbol) (act : Act) (t : ℕ) : Type 0 where
  pub home : Home
  pub listed : IsListed n home
  pub other : List Symbol
  pub same : SameKernelIn w (union n) prefix (part_of home) other
  pub acts : Acts w (part_of home) other act (phi w t)

-- an action of the union is one of a certified grammar
pub house : {w : World} {n : ℕ} → IsMarked w → AreComposableApart w n → (act : Act) (prefix : List Symbol) (t : ℕ) →
    Acts w (union n) prefix act t → Housed w n prefix act t
house {w} {n} ok c shift prefix t (i, shows, (u, v)) =
    let k = main ok c v in
    record {
      home = k.home;
      listed = k.listed;
      other = k.other;
      same = k.same;
      acts =
          (k.item, shows_stand ok shift t i k.item k.stands shows, (phi w u, k.valid));
    }
house {w} {n} ok c (reduce p) prefix t (i, shows, v) =
    let k = main ok c v in
    record {
      home = k.home;
      listed = k.listed;
      other = k.other;
      same = k.same;
      acts =
          (k.item, shows_stand ok (reduce p) t i k.item k.stands shows, k.valid);
    }

-- where its kernel is one of the host with holes, what an item stands for has its lookaheads there
pub record PlusLooks (w : World) (a : List Symbol) (i : Item) (t : ℕ) : Type 0 where
  pub item : Item
  pub stands : StandsFor w i item
  pub looks : IsLookaheadIn w plus a item t

-- the lookahead rule on a kernel item
rule_at : {w : World} {n : ℕ} → IsMarked w → AreComposableApart w n → (home : Home) → IsListed n home →
    (a b : List Symbol) (item : Item) (t : ℕ) → SameKernelIn w plus a (part_of home) b → IsKernelItemIn w (part_of home) b item →
    IsValidItemIn w (part_of home) b item (phi w t) → PlusLooks w a item (phi w t)
rule_at ok c home l a b item t same k v =
    record { item = item; stands = itself (kernel_bare ok item k) refl; looks = to_plus ok c home l a b item t same ((same item).1 k) v }

-- what a lookahead becomes by phi is a lookahead
pub canonical : {w : World} {part : Part} {prefix : List Symbol} {i : Item} {t : ℕ} → IsMarked w → HasHoles part →
    IsValidItemIn w part prefix i t → IsValidItemIn w part prefix i (phi w t)
canonical {w} {part} ok holes start = subst (λ z. IsValidItemIn w part [] (start_item_in w) z)
    (sym (phi_bare w w.end_terminal ok.start.end_bare)) start
canonical {w} {part} ok holes (close item t b rest q u v is rule left f) =
    close item (phi w t) b rest q (phi w u) (canonical ok holes v) is rule left (first_step ok holes rest t u (rest_clean ok v b rest is) f)
canonical ok holes (move item x rest prefix v is longer_is moved_is) = move item x rest prefix (canonical ok holes v) is longer_is moved_is

-- the lookaheads of a certified grammar are in the host with holes, where the kernel is one of it
pub plus_looks : {w : World} {n : ℕ} → IsMarked w → AreComposableApart w n → (home : Home) → IsListed n home →
    (a : List Symbol) {b : List Symbol} {i : Item} {t : ℕ} → SameKernelIn w plus a (part_of home) b →
    IsValidItemIn w (part_of home) b i t → PlusLooks w a i (phi w t)
plus_looks {w} ok c home l a same start =
    rule_at ok c home l a [] (start_item_in w) w.end_terminal same ((w.end_terminal, start), inr (refl, refl))
    (canonical ok (home_holes home) start)
plus_looks {w} ok c home l a same (close item t b rest q u {prefix} v is rule left f) =
    let k = plus_looks ok c home l a same v in
    let (other, same', v') = k.looks in
    let item_is : k.item ≡ item = stands_open ok k.stands b rest is in
    let s = close_step ok tt item t b rest q u (subst (λ z. IsValidItemIn w plus other z (phi w t)) item_is v') is rule left f in
    record { item = s.item; stands = s.stands; looks = (other, same', s.valid) }
plus_looks {w} ok c home l a same (move item x rest prefix {t} {longer} {moved} v is longer_is moved_is) =
    rule_at ok c home l a longer moved t same ((t, move item x rest prefix v is longer_is moved_is), inl (advanced item moved moved_is))
    (canonical ok (home_holes home) (move item x rest prefix v is longer_is moved_is))

-- an action at a kernel of the host with holes is an action there
pub record InPlus (w : World) (a : List Symbol) (act : Act) (t : ℕ) : Type 0 where
  pub other : List Symbol
  pub same : SameKernelIn w plus a plus other
  pub acts : Acts w plus other act t

-- and so are its actions
pub plus_acts : {w : World} {n : ℕ} → IsMarked w → AreComposableApart w n → (home : Home) → IsListed n home →
    (a b : List Symbol) (act : Act) (t : ℕ) → SameKernelIn w plus a (part_of home) b → Acts w (part_of home) b act (phi w t) →
    InPlus w a act (phi w t)
plus_acts {w} ok c home l a b shift t same (i, shows, (u, v)) =
    let k = plus_looks ok c home l a same v in
    let (other, same', v') = k.looks in
    record {
      other = other;
      same = same';
      acts = (
        k.item,
        subst (λ z. Shows w shift z k.item) (phi_phi w ok t) (shows_stand ok shift (phi w t) i k.item k.stands shows),
        (phi w u, v'),
      );
    }
plus_acts {w} ok c home l a b (reduce p) t same (i, shows, v) =
    let k = plus_looks ok c home l a same v in
    let (other, same', v') = k.looks in
    record {
      other = other;
      same = same';
      acts = (
        k.item,
        shows_stand ok (reduce p) (phi w t) i k.item k.stands shows,
        subst (λ z. IsValidItemIn w plus other k.item z) (phi_phi w ok t) v',
      );
    }
