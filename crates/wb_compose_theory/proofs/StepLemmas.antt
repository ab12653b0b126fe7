-- Initial items from one part to another, liveness, and the symbols after a dot.
use Rattle.std.proofs.Common.{◌++◌, ◌∙◌, ◌∷◌, ◌≡◌, ◌⊎◌, List, [], ap, inl, inr, refl, subst, sym, ℕ}
use Rattle.wb_base.specs.declared.symbol.Symbol.{Symbol}
use Rattle.wb_base.specs.declared.symbol.Symbol.TheVariants.{Nonterminal, Terminal}
use Rattle.wb_grammar_theory.specs.declared.item.Item.{Item}
use Rattle.wb_grammar_theory.specs.Derives.{IsText}
use Rattle.wb_grammar_theory.specs.Items.{initial_item}
use Rattle.wb_compose_theory.proofs.DerivesLemmas.{DerivesIn-append, DerivesIn-same, DerivesIn-split, DerivesIn-then, begins_cut}
use Rattle.wb_compose_theory.proofs.DerivesLemmas.{derives_terminal}
use Rattle.wb_compose_theory.proofs.FirstLemmas.{Begins, begins_project, by_itself, by_mark, nullable_project}
use Rattle.wb_compose_theory.proofs.MarkLemmas.{Clean, Ways, bridge, each_both, each_drop, each_weaker, has_host, names_within, not_top}
use Rattle.wb_compose_theory.proofs.MarkLemmas.{own}
use Rattle.wb_compose_theory.proofs.MarkLemmas.{phi_bare, phi_on, rest_bare, ways}
use Rattle.wb_compose_theory.specs.Derives.{AreProductiveIn, DerivesIn, IsFirstIn, expand}
use Rattle.wb_compose_theory.specs.Items.{IsValidItemIn, after_dot_in, close, move, start}
use Rattle.wb_compose_theory.specs.Marks.{Each, IsBare, IsMarked, phi}
use Rattle.wb_compose_theory.specs.Stands.{StandsFor, as_hole, itself}
use Rattle.wb_compose_theory.specs.Worlds.{Has, HasHoles, IsProductionIn, Part, World, hole, on}

-- the hole's production
pub hole_rule : {w : World} → IsMarked w → (part : Part) → HasHoles part → (m h : ℕ) → w.mark m ≡ on h →
    IsProductionIn w part (w.production_of (w.hole_on h))
hole_rule {w} ok part holes m h mark =
    let e : w.production_owner (w.production_of (w.hole_on h)) ≡ hole =
    ok.bridges.bridge_owner (w.hole_on h) h (ok.holes.hole_mark m h mark) ∙ ok.holes.hole_owner m h mark in
    subst (Has part) (sym e) holes

-- its left side
pub hole_left : {w : World} → IsMarked w → (m h : ℕ) → w.mark m ≡ on h → w.left (w.production_of (w.hole_on h)) ≡ h
hole_left {w} ok m h mark = ok.bridges.bridge_left (w.hole_on h) h (ok.holes.hole_mark m h mark)

-- a nonterminal derives its hole
pub hole_derives : {w : World} → IsMarked w → (part : Part) → HasHoles part → (m h : ℕ) (v : List Symbol) → w.mark m ≡ on h →
    DerivesIn w part (Nonterminal h ∷ v) (Terminal (w.hole_on h) ∷ v)
hole_derives {w} ok part holes m h v mark =
    expand (w.production_of (w.hole_on h)) h (Terminal (w.hole_on h) ∷ []) v (hole_rule ok part holes m h mark) (hole_left ok m h mark)
    (subst (λ z. DerivesIn w part z (Terminal (w.hole_on h) ∷ [])) (sym (ok.holes.hole_right m h mark))
    (DerivesIn-same w part (Terminal (w.hole_on h) ∷ [])))
    (DerivesIn-same w part v) refl

-- what can begin what is after a nonterminal, up to phi
pub first_step : {w : World} {all part : Part} → IsMarked w → HasHoles part → (rest : List Symbol) (t u : ℕ) → Clean w part rest →
    IsFirstIn w all (rest ++ Terminal t ∷ []) u → IsFirstIn w part (rest ++ Terminal (phi w t) ∷ []) (phi w u)
first_step {w} {all} {part} ok holes rest t u clean (v, d) =
    let s = DerivesIn-split rest d in
    elim (begins_cut (Terminal u) v s.front s.back s.is) [
      | inl n ↦ ends (nullable_project ok s.of_front n.0 clean) (derives_terminal t [] s.of_back refl) s.back n.1 refl
      | inr n ↦ begins (begins_project ok s.of_front u n.0 n.1 clean)
    ]
  where
    last : DerivesIn w part (Terminal (phi w t) ∷ []) (Terminal (phi w t) ∷ [])
    last = DerivesIn-same w part (Terminal (phi w t) ∷ [])

    ends : DerivesIn w part rest [] → {back : List Symbol} → (v' : List Symbol) × (back ≡ Terminal t ∷ v') → (x : List Symbol) →
        x ≡ Terminal u ∷ v → x ≡ back → IsFirstIn w part (rest ++ Terminal (phi w t) ∷ []) (phi w u)
    ends n {back} (v', e) x f g =
        let same : t ≡ u = (let k : Terminal t ∷ v' ≡ Terminal u ∷ v = sym e ∙ (sym g ∙ f) in cc) in
        ([], subst (λ z. DerivesIn w part (rest ++ Terminal (phi w t) ∷ []) (Terminal (phi w z) ∷ [])) same (DerivesIn-append n last))

    begins : Begins w part rest u → IsFirstIn w part (rest ++ Terminal (phi w t) ∷ []) (phi w u)
    begins (by_itself v' mark r) = (
      v' ++ Terminal (phi w t) ∷ [],
      subst (λ z. DerivesIn w part (rest ++ Terminal (phi w t) ∷ []) (Terminal z ∷ v' ++ Terminal (phi w t) ∷ []))
          (sym (phi_bare w u mark)) (DerivesIn-append r last),
    )
    begins (by_mark h v' mark r) = (
      v' ++ Terminal (phi w t) ∷ [],
      subst (λ z. DerivesIn w part (rest ++ Terminal (phi w t) ∷ []) (Terminal z ∷ v' ++ Terminal (phi w t) ∷ []))
          (sym (phi_on w u h mark)) (DerivesIn-append (DerivesIn-then r (hole_derives ok part holes u h v' mark)) last),
    )

-- some terminal begins any symbols of a productive part, with a terminal after them
pub live : {w : World} {part : Part} → AreProductiveIn w part → (a : List Symbol) → Each (λ x. Has part (w.symbol_owner x)) a → (t : ℕ) →
    (u : ℕ) × IsFirstIn w part (a ++ Terminal t ∷ []) u
live {w} {part} p [] names t = (t, ([], DerivesIn-same w part (Terminal t ∷ [])))
live {w} {part} p (Terminal u ∷ a) names t = (u, (a ++ Terminal t ∷ [], DerivesIn-same w part (Terminal u ∷ a ++ Terminal t ∷ [])))
live {w} {part} p (Nonterminal b ∷ a) names t =
    let (v, d, text) = p b names.0 in go v d text (live p a names.1 t)
  where
    go : (v : List Symbol) → DerivesIn w part (Nonterminal b ∷ []) v → IsText v → (u : ℕ) × IsFirstIn w part (a ++ Terminal t ∷ []) u →
        (u : ℕ) × IsFirstIn w part (Nonterminal b ∷ a ++ Terminal t ∷ []) u
    go [] d text (u, (x, f)) = (u, (x, DerivesIn-append d f))
    go (Terminal u ∷ v) d text later = (u, (v ++ (a ++ Terminal t ∷ []), DerivesIn-append d (DerivesIn-same w part (a ++ Terminal t ∷ []))))
    go (Nonterminal c ∷ v) d text later = elim text [ ]

-- the production of a valid item is the part's, or `S' -> S`
pub item_source : {w : World} {part : Part} {prefix : List Symbol} {item : Item} {t : ℕ} → IsValidItemIn w part prefix item t →
    (item.production ≡ w.top_production) ⊎ IsProductionIn w part item.production
item_source start = inl refl
item_source (close item t b rest q u v is rule left f) = inr rule
item_source {w} {part} (move item x rest prefix {moved = moved} v is longer_is moved_is) =
    let same : moved.production ≡ item.production = ap (λ i. i.production) moved_is in
    subst (λ z. (z ≡ w.top_production) ⊎ IsProductionIn w part z) (sym same) (item_source v)

-- symbols of the part
abbrev pub Named : World → Part → List Symbol → Type 0
Named w part a = Each (λ x. Has part (w.symbol_owner x)) a

-- a production of the part has symbols of the part
pub rule_names : {w : World} → IsMarked w → (part : Part) (p : ℕ) → IsProductionIn w part p → Named w part (w.right p)
rule_names {w} ok part p rule = names_within w part (w.production_owner p) (w.right p) rule
    (ok.named.uses p (not_top part (w.production_owner p) rule))

-- so has what is after the dot of a valid item
pub item_names : {w : World} {part : Part} {prefix : List Symbol} {item : Item} {t : ℕ} → IsMarked w →
    IsValidItemIn w part prefix item t → Named w part (after_dot_in w item)
item_names {w} {part} {item = item} ok v = each_drop (λ x. Has part (w.symbol_owner x)) item.dot (w.right item.production)
    (go (item_source v))
  where
    go : (item.production ≡ w.top_production) ⊎ IsProductionIn w part item.production → Named w part (w.right item.production)
    go (inl e) =
        subst (Named w part) (sym (ap w.right e ∙ ok.start.top_right))
        (has_host part (w.symbol_owner (Nonterminal w.start_symbol)) ok.start.start_host, tt)
    go (inr rule) = rule_names ok part item.production rule

-- so have the nonterminal after it and the rest
pub open_names : {w : World} {part : Part} {prefix : List Symbol} {item : Item} {t : ℕ} → IsMarked w →
    IsValidItemIn w part prefix item t → (b : ℕ) (rest : List Symbol) → after_dot_in w item ≡ Nonterminal b ∷ rest →
    Has part (w.symbol_owner (Nonterminal b)) × Named w part rest
open_names {w} {part} ok v b rest is = subst (Named w part) is (item_names ok v)

-- which has no mark
pub rest_clean : {w : World} {part : Part} {prefix : List Symbol} {item : Item} {t : ℕ} → IsMarked w →
    IsValidItemIn w part prefix item t → (b : ℕ) (rest : List Symbol) → after_dot_in w item ≡ Nonterminal b ∷ rest → Clean w part rest
rest_clean {w} {part} {item = item} ok v b rest is = each_both (λ x. Has part (w.symbol_owner x)) (IsBare w) rest
    ((open_names ok v b rest is).1) (rest_bare ok item b rest is)

-- the initial item, or what it stands for, is valid in the part
pub record Closes (w : World) (part : Part) (prefix : List Symbol) (i : Item) (u : ℕ) : Type 0 where
  pub item : Item
  pub stands : StandsFor w i item
  pub valid : IsValidItemIn w part prefix item u

-- a production's initial item, from any part to a part with holes
pub close_step : {w : World} {all part : Part} {prefix : List Symbol} → IsMarked w → HasHoles part →
    (item : Item) (t b : ℕ) (rest : List Symbol) (q u : ℕ) → IsValidItemIn w part prefix item (phi w t) →
    after_dot_in w item ≡ Nonterminal b ∷ rest → IsProductionIn w all q → w.left q ≡ b → IsFirstIn w all (rest ++ Terminal t ∷ []) u →
    Closes w part prefix (initial_item q) (phi w u)
close_step {w} {all} {part} {prefix} ok holes item t b rest q u v is rule left f =
    go (ways ok all part q b rule left ((open_names ok v b rest is).0))
  where
    first : IsFirstIn w part (rest ++ Terminal (phi w t) ∷ []) (phi w u)
    first = first_step ok holes rest t u (rest_clean ok v b rest is) f

    go : Ways w part q b → Closes w part prefix (initial_item q) (phi w u)
    go (own mine clean) = record {
      item = initial_item q;
      stands = itself (each_weaker (λ x. Has part (w.symbol_owner x) × IsBare w x) (IsBare w) (λ x h. h.1) (w.right q) clean) refl;
      valid = close item (phi w t) b rest q (phi w u) v is mine left first;
    }
    go (bridge m rest' mark of_mark right) = record {
      item = initial_item (w.production_of (w.hole_on b));
      stands = as_hole m b mark (ap initial_item of_mark) refl;
      valid = close item (phi w t) b rest (w.production_of (w.hole_on b)) (phi w u) v is (hole_rule ok part holes m b mark)
          (hole_left ok m b mark) first;
    }

-- an item with its dot before a nonterminal stands for itself
pub stands_open : {w : World} → IsMarked w → {i j : Item} → StandsFor w i j → (b : ℕ) (rest : List Symbol) →
    after_dot_in w i ≡ Nonterminal b ∷ rest → j ≡ i
stands_open ok (itself bares same) b rest is = same
stands_open {w} ok (as_hole m h mark i_is j_is) b rest is =
    let (rest', right) = ok.bridges.bridge_right m h mark in
    let e : Terminal m ∷ rest' ≡ Nonterminal b ∷ rest = sym right ∙ (sym (ap (after_dot_in w) i_is) ∙ is) in cc
