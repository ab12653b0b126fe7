-- The union is reduced, and has no unit cycle and no hidden left recursion.
use Rattle.std.proofs.Common.{◌++◌, ◌∙◌, ◌∷◌, ◌≡◌, ◌⊎◌, List, [], ap, append_assoc, inl, inr, refl, subst, sym, ℕ}
use Rattle.wb_base.specs.declared.symbol.Symbol.{Symbol}
use Rattle.wb_base.specs.declared.symbol.Symbol.TheVariants.{Nonterminal, Terminal}
use Rattle.wb_compose_theory.proofs.DerivesLemmas.{DerivesIn-same, derives_more, derives_terminal}
use Rattle.wb_compose_theory.proofs.FirstLemmas.{nullable_project}
use Rattle.wb_compose_theory.proofs.LookaheadLemmas.{names_derive}
use Rattle.wb_compose_theory.proofs.MarkLemmas.{Clean, bridge, each_both, has_host, not_top, own, ways}
use Rattle.wb_compose_theory.proofs.PartLemmas.{alone_in_union, plain_in, productive_union}
use Rattle.wb_compose_theory.proofs.StepLemmas.{Named, rule_names}
use Rattle.wb_compose_theory.specs.Composable.{IsFitForParsingIn}
use Rattle.wb_compose_theory.specs.Derives.{DerivesIn, DerivesItselfIn, IsHiddenLeftRecursiveIn, IsReachableIn, done, expand, keep}
use Rattle.wb_compose_theory.specs.Homes.{AreComposableApart, Home, IsListed, of, of_host, part_of}
use Rattle.wb_compose_theory.specs.Marks.{Each, IsBare, IsMarked, Shape, marked, unmarked}
use Rattle.wb_compose_theory.specs.Worlds.{Has, IsProductionIn, Owner, Part, World, alone, both, extension, hole, host, plain, plus, top}
use Rattle.wb_compose_theory.specs.Worlds.{union}

-- nonterminals alone
abbrev AllNonterminals : List Symbol → Type 0
AllNonterminals [] = Unit {0}
AllNonterminals (Terminal t ∷ a) = ⊥
AllNonterminals (Nonterminal b ∷ a) = AllNonterminals a

-- the first of joined lists
nonterminals_front : (u v : List Symbol) → AllNonterminals (u ++ v) → AllNonterminals u
nonterminals_front [] v e = tt
nonterminals_front (Terminal t ∷ u) v e = absurd e
nonterminals_front (Nonterminal a ∷ u) v e = nonterminals_front u v e

-- the last of joined lists
nonterminals_back : (u v : List Symbol) → AllNonterminals (u ++ v) → AllNonterminals v
nonterminals_back [] v e = e
nonterminals_back (Terminal t ∷ u) v e = absurd e
nonterminals_back (Nonterminal a ∷ u) v e = nonterminals_back u v e

-- nonterminals are no marks
nonterminals_bare : (w : World) (a : List Symbol) → AllNonterminals a → Each (IsBare w) a
nonterminals_bare w [] e = tt
nonterminals_bare w (Terminal t ∷ a) e = absurd e
nonterminals_bare w (Nonterminal b ∷ a) e = (tt, nonterminals_bare w a e)

-- what derives the empty text is nonterminals alone
nullable_nonterminals : {w : World} {part : Part} {a x : List Symbol} → DerivesIn w part a x → x ≡ [] → AllNonterminals a
nullable_nonterminals done e = tt
nullable_nonterminals (keep y r) e = cc
nullable_nonterminals (expand p b [] v rule left r s is) e = nullable_nonterminals s (sym is ∙ e)
nullable_nonterminals (expand p b (y ∷ u) v rule left r s is) e = let f : y ∷ (u ++ v) ≡ [] = sym is ∙ e in cc

-- what begins with a terminal isn't
terminal_head : (m : ℕ) (v u : List Symbol) → u ≡ Terminal m ∷ v → AllNonterminals u → ⊥
terminal_head m v u e all = subst AllNonterminals e all

-- nor is what is before a nonterminal, where the whole begins with a terminal
terminal_first : (m h : ℕ) (v b c : List Symbol) → Terminal m ∷ v ≡ b ++ Nonterminal h ∷ c → AllNonterminals b → ⊥
terminal_first m h v [] c e all = cc
terminal_first m h v (Terminal t ∷ b) c e all = all
terminal_first m h v (Nonterminal a ∷ b) c e all = cc

-- what derives nonterminals alone in a part, a smaller part derives too
project_all : {w : World} {all part : Part} {a x : List Symbol} → IsMarked w → DerivesIn w all a x → AllNonterminals x → Clean w part a →
    DerivesIn w part a x
project_all ok done e clean = done
project_all ok (keep (Terminal t) r) e clean = absurd e
project_all ok (keep (Nonterminal a) r) e clean = keep (Nonterminal a) (project_all ok r e clean.1)
project_all {w} {all} {part} ok (expand p b u v rule left r s is) e clean =
    let f : AllNonterminals (u ++ v) = subst AllNonterminals is e in
    elim (ways ok all part p b rule left ((clean.0).0)) [
      | own mine clean' ↦ expand p b u v mine left (project_all ok r (nonterminals_front u v f) clean')
          (project_all ok s (nonterminals_back u v f) clean.1) is
      | bridge m rest mark of_mark right ↦
          let t = derives_terminal m rest r right in
          absurd (terminal_head m t.0 u t.1 (nonterminals_front u v f))
    ]

-- where joined lists have a nonterminal
cut : (h : ℕ) (u v b c : List Symbol) → u ++ v ≡ b ++ Nonterminal h ∷ c → ((c' : List Symbol) × (u ≡ b ++ Nonterminal h ∷ c')) ⊎
    ((b' : List Symbol) × (b ≡ u ++ b') × (v ≡ b' ++ Nonterminal h ∷ c))
cut h [] v b c e = inr (b, refl, e)
cut h (y ∷ u) v [] c e = inl (u, (let f : y ≡ Nonterminal h = cc in ap (λ z. z ∷ u) f))
cut h (y ∷ u) v (z ∷ b) c e =
    let f : u ++ v ≡ b ++ Nonterminal h ∷ c = cc in
    let g : y ≡ z = cc in
    elim (cut h u v b c f) [
      | inl k ↦ inl (k.0, (let k1 = k.1 in cc))
      | inr k ↦ inr (k.0, (let k1 = k.1 in cc), k.2)
    ]

-- what derives nonterminals alone before a nonterminal, it derives in a smaller part too, but for what is after it
project_left : {w : World} {all part : Part} {a x : List Symbol} → IsMarked w → DerivesIn w all a x → (h : ℕ) (b c : List Symbol) →
    x ≡ b ++ Nonterminal h ∷ c → AllNonterminals b → Clean w part a → (c' : List Symbol) × DerivesIn w part a (b ++ Nonterminal h ∷ c')
project_left ok done h [] c e all clean = cc
project_left ok done h (z ∷ b) c e all clean = cc
project_left {w} {part = part} ok (keep y {a} {b = x} r) h [] c e all clean =
    (a, (let f : y ≡ Nonterminal h = cc in subst (λ z. DerivesIn w part (y ∷ a) (z ∷ a)) f (DerivesIn-same w part (y ∷ a))))
project_left {w} ok (keep y {a} {b = x} r) h (Terminal t ∷ b) c e all clean = absurd all
project_left {w} {part = part} ok (keep y {a} {b = x} r) h (Nonterminal z ∷ b) c e all clean =
    let f : x ≡ b ++ Nonterminal h ∷ c = cc in
    let g : y ≡ Nonterminal z = cc in
    let k = project_left ok r h b c f all clean.1 in
    (k.0, subst (λ q. DerivesIn w part (y ∷ a) (q ∷ (b ++ Nonterminal h ∷ k.0))) g (keep y k.1))
project_left {w} {all} {part} ok (expand p n u v {a} rule left r s is) h b c e nt clean =
    elim (cut h u v b c (sym is ∙ e)) [
      | inl k ↦
          elim (ways ok all part p n rule left ((clean.0).0)) [
            | own mine clean' ↦
                let d = project_left ok r h b k.0 k.1 nt clean' in (
                  d.0 ++ a,
                  expand p n (b ++ Nonterminal h ∷ d.0) a mine left d.1 (DerivesIn-same w part a)
                      (sym (append_assoc b (Nonterminal h ∷ d.0) a)),
                )
            | bridge m rest mark of_mark right ↦
                let t = derives_terminal m rest r right in
                absurd (terminal_first m h t.0 b k.0 (sym t.1 ∙ k.1) nt)
          ]
      | inr k ↦
          let front : AllNonterminals u = nonterminals_front u k.0 (subst AllNonterminals k.1 nt) in
          let back : AllNonterminals k.0 = nonterminals_back u k.0 (subst AllNonterminals k.1 nt) in
          elim (ways ok all part p n rule left ((clean.0).0)) [
            | own mine clean' ↦
                let d = project_left ok s h k.0 c k.2 back clean.1 in (
                  d.0,
                  expand p n u (k.0 ++ Nonterminal h ∷ d.0) mine left (project_all ok r front clean') d.1
                      (ap (λ z. z ++ Nonterminal h ∷ d.0) k.1 ∙ append_assoc u k.0 (Nonterminal h ∷ d.0)),
                )
            | bridge m rest mark of_mark right ↦
                let t = derives_terminal m rest r right in
                absurd (terminal_head m t.0 u t.1 front)
          ]
    ]

-- a certified grammar that has the left side of a production of the union
record Chosen (w : World) (n a : ℕ) : Type 0 where
  home : Home
  listed : IsListed n home
  has : Has (part_of home) (w.symbol_owner (Nonterminal a))

-- the left side of a production of the union is of a certified grammar
chosen : {w : World} → IsMarked w → (n p a : ℕ) → IsProductionIn w (union n) p → w.left p ≡ a → Chosen w n a
chosen {w} ok n p a rule left = go (ok.bridges.shape p)
  where
    by_owner : (o : Owner) → w.symbol_owner (Nonterminal a) ≡ o → Has (union n) o → Chosen w n a
    by_owner host e h = record { home = of_host; listed = tt; has = has_host plus (w.symbol_owner (Nonterminal a)) e }
    by_owner hole e h = absurd h
    by_owner (extension k) e h = record { home = of k; listed = h; has = subst (Has (both k)) (sym e) refl }
    by_owner top e h = absurd h

    go : Shape w p → Chosen w n a
    go (unmarked bares) =
        let e : w.production_owner p ≡ w.symbol_owner (Nonterminal a) =
        ok.named.unmarked_owner p bares (not_top (union n) (w.production_owner p) rule) ∙
        ap (λ z. w.symbol_owner (Nonterminal z)) left in
        by_owner (w.symbol_owner (Nonterminal a)) refl (subst (Has (union n)) e rule)
    go (marked m h rest mark is right bares) =
        let e : h ≡ a = sym (ok.bridges.bridge_left m h mark) ∙ (ap w.left (sym is) ∙ left) in
        by_owner host (ap (λ z. w.symbol_owner (Nonterminal z)) (sym e) ∙ ok.bridges.bridge_host m h mark) tt

-- a certified grammar has no unit cycle
unit_home : {w : World} {n : ℕ} → AreComposableApart w n → (home : Home) → IsListed n home → (a : ℕ) →
    DerivesItselfIn w (part_of home) a → ⊥
unit_home c of_host l a u = c.of_host.fit.no_unit_cycle a u
unit_home c (of e) l a u = (c.of_extension e l).fit.no_unit_cycle a u

-- and no hidden left recursion
hidden_home : {w : World} {n : ℕ} → AreComposableApart w n → (home : Home) → IsListed n home → (a : ℕ) →
    IsHiddenLeftRecursiveIn w (part_of home) a → ⊥
hidden_home c of_host l a u = c.of_host.fit.no_hidden_left_recursion a u
hidden_home c (of e) l a u = (c.of_extension e l).fit.no_hidden_left_recursion a u

-- the union has no unit cycle
pub no_unit_cycle : (w : World) (n : ℕ) → IsMarked w → AreComposableApart w n → (a : ℕ) → DerivesItselfIn w (union n) a → ⊥
no_unit_cycle w n ok c a (p, rule, left, d) =
    let k = chosen ok n p a rule left in
    elim (ways ok (union n) (part_of k.home) p a rule left k.has) [
      | own mine clean ↦ unit_home c k.home k.listed a (p, mine, left, project_all ok d tt clean)
      | bridge m rest mark of_mark right ↦
          let t = derives_terminal m rest d right in
          let t1 = t.1 in cc
    ]

-- the union has no hidden left recursion
pub no_hidden : (w : World) (n : ℕ) → IsMarked w → AreComposableApart w n → (a : ℕ) → IsHiddenLeftRecursiveIn w (union n) a → ⊥
no_hidden w n ok c a (p, b, x, rule, left, d, ne, empty) =
    let k = chosen ok n p a rule left in
    let nt = nullable_nonterminals empty refl in
    elim (ways ok (union n) (part_of k.home) p a rule left k.has) [
      | own mine clean ↦
          let y = project_left ok d a b x refl nt clean in
          let named : Named w (part_of k.home) (b ++ Nonterminal a ∷ y.0) = names_derive ok y.1 (rule_names ok (part_of k.home) p mine) in
          hidden_home c k.home k.listed a (
            p,
            b,
            y.0,
            mine,
            left,
            y.1,
            ne,
            nullable_project ok empty refl
                (each_both (λ z. Has (part_of k.home) (w.symbol_owner z)) (IsBare w) b
                (front_named (λ z. Has (part_of k.home) (w.symbol_owner z)) b (Nonterminal a ∷ y.0) named) (nonterminals_bare w b nt)),
          )
      | bridge m rest mark of_mark right ↦
          let t = derives_terminal m rest d right in
          absurd (terminal_first m a t.0 b x (sym t.1) nt)
    ]
  where
    front_named : (P : Symbol → Type 0) (u v : List Symbol) → Each P (u ++ v) → Each P u
    front_named P [] v e = tt
    front_named P (x ∷ u) v e = (e.0, front_named P u v e.1)

-- each nonterminal of the union is reachable
pub reachable : (w : World) (n : ℕ) → IsMarked w → AreComposableApart w n → (a : ℕ) → Has (union n) (w.symbol_owner (Nonterminal a)) →
    IsReachableIn w (union n) a
reachable w n ok c a has = go (w.symbol_owner (Nonterminal a)) refl has
  where
    go : (o : Owner) → w.symbol_owner (Nonterminal a) ≡ o → Has (union n) o → IsReachableIn w (union n) a
    go host e h = let (u, v, d) = c.of_host.fit.reduced.reachable a (has_host plain (w.symbol_owner (Nonterminal a)) e) in
        (u, v, derives_more (plain_in (union n)) d)
    go hole e h = absurd h
    go (extension k) e h =
        let (u, v, d) = (c.of_extension k h).fit.reduced.reachable a (subst (Has (alone k)) (sym e) refl) in
        (u, v, derives_more (alone_in_union n k h) d)
    go top e h = absurd h

-- the union is reduced, and has no unit cycle and no hidden left recursion
pub fit : (w : World) (n : ℕ) → IsMarked w → AreComposableApart w n → IsFitForParsingIn w (union n) (union n)
fit w n ok c = record {
  reduced = record { reachable = reachable w n ok c; productive = productive_union ok n c };
  no_unit_cycle = no_unit_cycle w n ok c;
  no_hidden_left_recursion = no_hidden w n ok c;
}
