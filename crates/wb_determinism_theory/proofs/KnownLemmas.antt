-- What is known at a kernel of the host with holes is true with the extension, and nothing is lost in between.
use Rattle.std.proofs.Common.{◌++◌, ◌∙◌, ◌∷◌, ◌≡◌, ◌⊎◌, List, [], ap, inl, inr, refl, subst, sym, ℕ}
use Rattle.wb_base.specs.declared.symbol.Symbol.{Symbol}
use Rattle.wb_base.specs.declared.symbol.Symbol.TheVariants.{Nonterminal, Terminal}
use Rattle.wb_grammar_theory.specs.declared.item.Item.{Item}
use Rattle.wb_grammar_theory.specs.Items.{advance, initial_item}
use Rattle.wb_compose_theory.proofs.ActionLemmas.{same_has}
use Rattle.wb_compose_theory.proofs.DerivesLemmas.{valid_more}
use Rattle.wb_compose_theory.proofs.HomeLemmas.{kernel_bare, moved_bare, start_bare}
use Rattle.wb_compose_theory.proofs.KernelLemmas.{Found, advanced, chain, find_item, flip, found, item_step, opens, shapes}
use Rattle.wb_compose_theory.proofs.LookaheadLemmas.{lookahead_named}
use Rattle.wb_compose_theory.proofs.MarkLemmas.{Follows, at_mark, bare_not_on, clear, follows, phi_bare, phi_phi}
use Rattle.wb_compose_theory.proofs.PartLemmas.{plus_in}
use Rattle.wb_compose_theory.proofs.StepLemmas.{close_step, hole_left, hole_rule, item_source, live, open_names, stands_open}
use Rattle.wb_compose_theory.proofs.TerminalLemmas.{twins}
use Rattle.wb_compose_theory.specs.Composable.{KeepsLookaheadsIn}
use Rattle.wb_compose_theory.specs.Derives.{AreProductiveIn, IsFirstIn}
use Rattle.wb_compose_theory.specs.Homes.{of}
use Rattle.wb_compose_theory.specs.Items.{HasItemIn, IsKernelItemIn, IsValidItemIn, SameKernelIn, after_dot_in, close}
use Rattle.wb_compose_theory.specs.Items.{move, start, start_item_in}
use Rattle.wb_compose_theory.specs.Lookaheads.{IsLookaheadIn}
use Rattle.wb_compose_theory.specs.Marks.{Each, IsBare, IsMarked, phi}
use Rattle.wb_compose_theory.specs.Stands.{IsHostLookahead, StandsFor, as_hole, itself}
use Rattle.wb_compose_theory.specs.Worlds.{Has, IsProductionIn, Owner, Part, World, both, extension, hole, host, on, plus, top}
use Rattle.wb_determinism_theory.specs.Known.{IsKnownItem, IsKnownLookahead, IsMarkerOf, IsSourced, KeepsAt}

-- the initial item of a mark's production is valid where that of another mark on the same nonterminal is
pub opens_too : {w : World} {part : Part} {prefix : List Symbol} {i : Item} {v : ℕ} → IsMarked w → (t u a : ℕ) → w.mark t ≡ on a →
    w.mark u ≡ on a → IsProductionIn w part (w.production_of u) → IsValidItemIn w part prefix i v → i ≡ initial_item (w.production_of t)
    → IsValidItemIn w part prefix (initial_item (w.production_of u)) v
opens_too {w} ok t u a t_mark u_mark rule start i_is =
    let e : w.top_production ≡ w.production_of t = ap (λ z. z.production) i_is in
    let (rest, right) = ok.bridges.bridge_right t a t_mark in
    let f : Nonterminal w.start_symbol ∷ [] ≡ Terminal t ∷ rest = sym ok.start.top_right ∙ (ap w.right e ∙ right) in cc
opens_too {w} ok t u a t_mark u_mark rule (close item s b rest q v {prefix} valid is rule' left first) i_is =
    let e : q ≡ w.production_of t = ap (λ z. z.production) i_is in
    let same : a ≡ b = sym (ok.bridges.bridge_left t a t_mark) ∙ (ap w.left (sym e) ∙ left) in
    close item s b rest (w.production_of u) v valid is rule (ok.bridges.bridge_left u a u_mark ∙ same) first
opens_too ok t u a t_mark u_mark rule (move item x rest prefix {moved = moved} valid is longer_is moved_is) i_is =
    absurd (advanced item moved moved_is (ap (λ z. z.dot) i_is))

-- the production of a mark's item is the part's
pub marked_rule : {w : World} (part : Part) → IsMarked w → (m h : ℕ) → w.mark m ≡ on h → (i : Item) →
    i ≡ initial_item (w.production_of m) → IsSourced w part i.production → IsProductionIn w part (w.production_of m)
marked_rule {w} part ok m h mark i is (inl e) =
    let (rest, right) = ok.bridges.bridge_right m h mark in
    let f : w.top_production ≡ w.production_of m = sym e ∙ ap (λ z. z.production) is in
    let g : Nonterminal w.start_symbol ∷ [] ≡ Terminal m ∷ rest = sym ok.start.top_right ∙ (ap w.right f ∙ right) in cc
marked_rule {w} part ok m h mark i is (inr rule) = subst (λ z. IsProductionIn w part z.production) is rule

-- what an item stands for is valid, so it is
pub stands_back : {w : World} {part : Part} {prefix : List Symbol} {i j : Item} {t : ℕ} → IsMarked w → StandsFor w i j →
    IsSourced w part i.production → IsValidItemIn w part prefix j t → IsValidItemIn w part prefix i t
stands_back {w} {part} {prefix} {i} {j} {t} ok (itself bares j_is) source v = subst (λ z. IsValidItemIn w part prefix z t) j_is v
stands_back {w} {part} {prefix} {i} {j} {t} ok (as_hole m h mark i_is j_is) source v =
    subst (λ z. IsValidItemIn w part prefix z t) (sym i_is)
    (opens_too ok (w.hole_on h) m h (ok.holes.hole_mark m h mark) mark (marked_rule part ok m h mark i i_is source) v j_is)

-- an item that is valid stands for one that is valid
pub record Standing (w : World) (part : Part) (prefix : List Symbol) (i : Item) (t : ℕ) : Type 0 where
  pub item : Item
  pub stands : StandsFor w i item
  pub valid : IsValidItemIn w part prefix item t

pub standing : {w : World} {part : Part} {prefix : List Symbol} {i : Item} {t : ℕ} → IsMarked w →
    ((m h : ℕ) → w.mark m ≡ on h → IsProductionIn w part (w.production_of (w.hole_on h))) → IsValidItemIn w part prefix i t →
    Standing w part prefix i t
standing {w} {part} {prefix} {i} {t} ok holes v = go (follows ok i)
  where
    go : Follows w i → Standing w part prefix i t
    go (clear bares) = record { item = i; stands = itself bares refl; valid = v }
    go (at_mark m h rest mark is dot bares) = record {
      item = initial_item (w.production_of (w.hole_on h));
      stands = as_hole m h mark is refl;
      valid = opens_too ok m (w.hole_on h) h mark (ok.holes.hole_mark m h mark) (holes m h mark) v is;
    }

-- what the prefixes of the host with holes are with the extension
pub host_same : {w : World} {e : ℕ} {prefix : List Symbol} {i : Item} {t : ℕ} → IsMarked w → AreProductiveIn w plus →
    AreProductiveIn w (both e) → IsValidItemIn w plus prefix i t → SameKernelIn w plus prefix (both e) prefix
host_same {e = e} ok p q v = shapes ok p q (plus_in (of e)) v

-- what is valid in the host with holes is valid with the extension, also with each terminal that phi takes to the same
pub valid_up : {w : World} {e : ℕ} {prefix : List Symbol} {i j : Item} {t : ℕ} → IsMarked w → AreProductiveIn w (both e) →
    StandsFor w i j → IsSourced w (both e) i.production → Has (both e) (w.symbol_owner (Terminal t)) →
    IsValidItemIn w plus prefix j (phi w t) → IsValidItemIn w (both e) prefix i t
valid_up {w} {e} {t = t} ok q stands source named v =
    stands_back ok stands source (twins ok q (valid_more (plus_in (of e)) v) t named (sym (phi_phi w ok t)))

-- what is known is true
pub known_true : {w : World} {e : ℕ} → IsMarked w → AreProductiveIn w plus → AreProductiveIn w (both e) → (other prefix : List Symbol) →
    SameKernelIn w plus other (both e) prefix → (i : Item) (t : ℕ) → IsKnownLookahead w e other i t → IsLookaheadIn w (both e) prefix i t
known_true ok p q other prefix same i t k =
    let (o, same', v) = k.host.lookahead in
    (o, chain (flip same) (chain same' (host_same ok p q v)), valid_up ok q k.host.stands k.source k.named v)

-- known items are items
pub known_item_true : {w : World} {e : ℕ} → IsMarked w → AreProductiveIn w plus → AreProductiveIn w (both e) →
    (other prefix : List Symbol) → SameKernelIn w plus other (both e) prefix → (i : Item) → IsKnownItem w e other i →
    HasItemIn w (both e) prefix i
known_item_true {w} {e} ok p q other prefix same i k =
    let (t, v) = k.has in
    same_has ok q other prefix (chain (flip (host_same ok p q v)) same) (stands_back ok k.stands k.source (valid_more (plus_in (of e)) v))

-- and all items are known
pub item_known : {w : World} {e : ℕ} {other prefix : List Symbol} {i : Item} {t : ℕ} → IsMarked w → AreProductiveIn w plus →
    SameKernelIn w plus other (both e) prefix → IsValidItemIn w (both e) prefix i t → IsKnownItem w e other i
item_known {w} {e} {other} {prefix} {i} {t} ok p same v = go (find_item ok p (flip same) v)
  where
    go : Found w plus other i → IsKnownItem w e other i
    go (found (u, v')) =
        let s = standing ok (λ m h mark. hole_rule ok plus tt m h mark) v' in
        record { source = item_source v; item = s.item; stands = s.stands; has = (u, s.valid) }
    go (opens m h j rest mark i_is (s, vj) before) =
        let (u, f) = live p rest ((open_names ok vj h rest before).1) s in
        record {
          source = item_source v;
          item = initial_item (w.production_of (w.hole_on h));
          stands = as_hole m h mark i_is refl;
          has = (
            u,
            close j s h rest (w.production_of (w.hole_on h)) u vj before (hole_rule ok plus tt m h mark) (hole_left ok m h mark) f,
          );
        }

-- an item that moves over no marker of the extension is the host's
pub in_plus : {w : World} {e : ℕ} {o : List Symbol} {i j : Item} {u : ℕ} → IsMarked w → StandsFor w i j →
    IsSourced w (both e) i.production → (x : Symbol) (rest : List Symbol) → after_dot_in w i ≡ x ∷ rest → IsValidItemIn w plus o j u →
    IsMarkerOf w e x ⊎ IsValidItemIn w plus o i u
in_plus {w} {e} {o} {i} {j} {u} ok (itself bares j_is) source x rest is v = inr (subst (λ z. IsValidItemIn w plus o z u) j_is v)
in_plus {w} {e} {o} {i} {j} {u} ok (as_hole m h mark i_is j_is) source x rest is v =
    go (w.symbol_owner (Terminal m)) refl (subst (Has (both e)) (ok.bridges.bridge_owner m h mark) (marked_rule
    (both e) ok m h mark i i_is source))
  where
    in_host : Has plus (w.symbol_owner (Terminal m)) → IsValidItemIn w plus o i u
    in_host has = subst (λ z. IsValidItemIn w plus o z u) (sym i_is)
        (opens_too ok (w.hole_on h) m h (ok.holes.hole_mark m h mark) mark
        (subst (Has plus) (sym (ok.bridges.bridge_owner m h mark)) has) v j_is)

    x_is : x ≡ Terminal m
    x_is =
        let (rest', right) = ok.bridges.bridge_right m h mark in
        let f : x ∷ rest ≡ Terminal m ∷ rest' = sym is ∙ (ap (after_dot_in w) i_is ∙ right) in cc

    go : (owner : Owner) → w.symbol_owner (Terminal m) ≡ owner → Has (both e) (w.symbol_owner (Terminal m)) →
        IsMarkerOf w e x ⊎ IsValidItemIn w plus o i u
    go host is has = inr (in_host (subst (Has plus) (sym is) tt))
    go hole is has = inr (in_host (subst (Has plus) (sym is) tt))
    go (extension k) is has =
        let same : k ≡ e = subst (Has (both e)) is has in
        inl (record { terminal = m; nonterminal = h; is = x_is; mark = mark; owner = is ∙ ap extension same })
    go top is has = absurd (subst (Has (both e)) is has)

-- over a symbol that is no marker of the extension a kernel of the host stays one
pub record Stays (w : World) (e : ℕ) (other prefix : List Symbol) (x : Symbol) (i : Item) : Type 0 where
  pub t : ℕ
  pub valid : IsValidItemIn w plus other i t
  pub moved : IsValidItemIn w plus (other ++ x ∷ []) (advance i) t
  pub same : SameKernelIn w plus (other ++ x ∷ []) (both e) (prefix ++ x ∷ [])

pub stays : {w : World} {e : ℕ} {other prefix : List Symbol} {i : Item} {t : ℕ} → IsMarked w → AreProductiveIn w plus →
    AreProductiveIn w (both e) → SameKernelIn w plus other (both e) prefix → IsValidItemIn w (both e) prefix i t → (x : Symbol)
    (rest : List Symbol) → after_dot_in w i ≡ x ∷ rest → IsMarkerOf w e x ⊎ Stays w e other prefix x i
stays {w} {e} {other} {prefix} {i} {t} ok p q same v x rest is =
    let k = item_known ok p same v in
    let (u, v') = k.has in
    go (in_plus ok k.stands k.source x rest is v')
  where
    go : {u : ℕ} → IsMarkerOf w e x ⊎ IsValidItemIn w plus other i u → IsMarkerOf w e x ⊎ Stays w e other prefix x i
    go (inl m) = inl m
    go {u} (inr vi) = inr (record {
      t = u;
      valid = vi;
      moved = move i x rest other vi is refl refl;
      same = item_step ok p q x rest same vi v is;
    })

-- the lookahead rule on a kernel item
at_kernel : {w : World} {e : ℕ} → IsMarked w → (other prefix : List Symbol) → SameKernelIn w plus other (both e) prefix →
    KeepsAt w e other prefix → {b : List Symbol} {i : Item} {t : ℕ} → SameKernelIn w (both e) prefix (both e) b →
    IsValidItemIn w (both e) b i t → IsKernelItemIn w (both e) b i → IsHostLookahead w other i t
at_kernel ok other prefix same keeps {b} {i} {t} to v k =
    record { item = i; stands = itself (kernel_bare ok i k) refl; lookahead = keeps i t ((chain same to i).1 k) (b, to, v) }

-- what is known of an item is known of what it opens
pub known_closes : {w : World} {e : ℕ} → IsMarked w → AreProductiveIn w (both e) → (other : List Symbol) (i : Item)
    (t b : ℕ) (rest : List Symbol) (q u : ℕ) → IsKnownLookahead w e other i t → after_dot_in w i ≡ Nonterminal b ∷ rest →
    IsProductionIn w (both e) q → w.left q ≡ b → IsFirstIn w (both e) (rest ++ Terminal t ∷ []) u →
    IsKnownLookahead w e other (initial_item q) u
known_closes {w} {e} ok productive other i t b rest q u k is rule left f =
    let (o, same, v) = k.host.lookahead in
    let item_is : k.host.item ≡ i = stands_open ok k.host.stands b rest is in
    let here : IsValidItemIn w plus o i (phi w t) = subst (λ z. IsValidItemIn w plus o z (phi w t)) item_is v in
    let s = close_step ok tt i t b rest q u here is rule left f in
    record {
      named = lookahead_named ok (close i t b rest q u (valid_up ok productive k.host.stands k.source k.named v) is rule left f);
      source = inr rule;
      host = record { item = s.item; stands = s.stands; lookahead = (o, same, s.valid) };
    }

-- an item that moved stands for itself
pub moved_stands : {w : World} → IsMarked w → (i : Item) → StandsFor w (advance i) (advance i)
moved_stands ok i = itself (moved_bare ok (advance i) (advanced i (advance i) refl)) refl

-- and is known of the item that moved over a symbol that is no marker
pub known_moves : {w : World} {e : ℕ} → IsMarked w → AreProductiveIn w plus → (other : List Symbol) (i : Item) (t : ℕ) (x : Symbol)
    (rest : List Symbol) → IsKnownLookahead w e other i t → after_dot_in w i ≡ x ∷ rest →
    IsMarkerOf w e x ⊎ IsKnownLookahead w e (other ++ x ∷ []) (advance i) t
known_moves {w} {e} ok p other i t x rest k is =
    let (o, same, v) = k.host.lookahead in go o same v (in_plus ok k.host.stands k.source x rest is v)
  where
    go : (o : List Symbol) → SameKernelIn w plus other plus o → IsValidItemIn w plus o k.host.item (phi w t) →
        IsMarkerOf w e x ⊎ IsValidItemIn w plus o i (phi w t) →
        IsMarkerOf w e x ⊎ IsKnownLookahead w e (other ++ x ∷ []) (advance i) t
    go o same v (inl m) = inl m
    go o same v (inr vi) =
        let (u, vo) = same_has ok p o other (flip same) vi in
        inr (record {
          named = k.named;
          source = k.source;
          host = record {
            item = advance i;
            stands = moved_stands ok i;
            lookahead = (o ++ x ∷ [], item_step ok p p x rest same vo vi is, move i x rest o vi is refl refl);
          };
        })

-- what is known rests on the kernel alone
pub known_same : {w : World} {e : ℕ} {a b : List Symbol} {i : Item} {t : ℕ} → SameKernelIn w plus a plus b → IsKnownLookahead w e a i t →
    IsKnownLookahead w e b i t
known_same same k =
    let (o, same', v) = k.host.lookahead in
    record {
      named = k.named;
      source = k.source;
      host = record { item = k.host.item; stands = k.host.stands; lookahead = (o, chain (flip same) same', v) };
    }

-- the start item's
pub known_start : {w : World} {e : ℕ} → IsMarked w → (prefix : List Symbol) → SameKernelIn w plus prefix plus [] →
    IsKnownLookahead w e prefix (start_item_in w) w.end_terminal
known_start {w} {e} ok prefix same = record {
  named = subst (Has (both e)) (sym ok.start.end_host) tt;
  source = inl refl;
  host = record {
    item = start_item_in w;
    stands = itself (start_bare ok) refl;
    lookahead =
        ([], same, subst (λ z. IsValidItemIn w plus [] (start_item_in w) z) (sym (phi_bare w w.end_terminal ok.start.end_bare)) start);
  };
}

-- the lookahead rule is the lookahead rule at each kernel of the host with holes
pub keeps_at : {w : World} {e : ℕ} → IsMarked w → AreProductiveIn w plus → AreProductiveIn w (both e) → KeepsLookaheadsIn w e →
    (other prefix : List Symbol) → SameKernelIn w plus other (both e) prefix → KeepsAt w e other prefix
keeps_at ok p q keeps other prefix same item t k (o, same', v) =
    keeps other item t k (o, chain (flip (host_same ok p q ((k.0).1))) (chain same same'), v)

-- with the lookahead rule at the kernel nothing else is a lookahead
pub known_looks : {w : World} {e : ℕ} → IsMarked w → (other prefix : List Symbol) →
    SameKernelIn w plus other (both e) prefix → KeepsAt w e other prefix → {b : List Symbol} {i : Item} {t : ℕ} →
    SameKernelIn w (both e) prefix (both e) b → IsValidItemIn w (both e) b i t → IsHostLookahead w other i t
known_looks {w} {e} ok other prefix same keeps to start =
    at_kernel ok other prefix same keeps to start ((w.end_terminal, start), inr (refl, refl))
known_looks {w} {e} ok other prefix same keeps to (close item t b rest q u v is rule left f) =
    let k = known_looks ok other prefix same keeps to v in
    let (o, same', v') = k.lookahead in
    let item_is : k.item ≡ item = stands_open ok k.stands b rest is in
    let s = close_step ok tt item t b rest q u (subst (λ z. IsValidItemIn w plus o z (phi w t)) item_is v') is rule left f in
    record { item = s.item; stands = s.stands; lookahead = (o, same', s.valid) }
known_looks {w} {e} ok other prefix same keeps to (move item x rest shorter {t} {longer} {moved} v is longer_is moved_is) =
    let m : IsValidItemIn w (both e) longer moved t = move item x rest shorter v is longer_is moved_is in
    at_kernel ok other prefix same keeps to m ((t, m), inl (advanced item moved moved_is))

pub known_exact : {w : World} {e : ℕ} → IsMarked w → (other prefix : List Symbol) →
    SameKernelIn w plus other (both e) prefix → KeepsAt w e other prefix → (i : Item) (t : ℕ) → IsLookaheadIn w (both e) prefix i t →
    IsKnownLookahead w e other i t
known_exact ok other prefix same keeps i t (b, to, v) =
    record { named = lookahead_named ok v; source = item_source v; host = known_looks ok other prefix same keeps to v }

-- of a kernel item what the terminal becomes by phi is a lookahead in the host with holes
pub known_looks_bare : {w : World} {e : ℕ} → IsMarked w → (prefix : List Symbol) (item : Item) (t : ℕ) →
    IsKernelItemIn w plus prefix item → IsKnownLookahead w e prefix item t → IsLookaheadIn w plus prefix item (phi w t)
known_looks_bare {w} {e} ok prefix item t in_kernel k = go k.host.stands k.host.lookahead
  where
    go : StandsFor w item k.host.item → IsLookaheadIn w plus prefix k.host.item (phi w t) → IsLookaheadIn w plus prefix item (phi w t)
    go (itself bares same) looks = subst (λ z. IsLookaheadIn w plus prefix z (phi w t)) same looks
    go (as_hole m h mark item_is hole_is) looks =
        let (rest, right) = ok.bridges.bridge_right m h mark in
        let bares = subst (Each (IsBare w)) (ap (after_dot_in w) item_is ∙ right) (kernel_bare ok item in_kernel) in
        absurd (bare_not_on h (sym bares.0 ∙ mark))
