-- Terminals that are valid together in the union.
use Rattle.std.proofs.Common.{◌++◌, ◌<◌, ◌∙◌, ◌∷◌, ◌≡◌, ◌≢◌, List, [], ap, inl, inr, refl, subst, sym, ℕ}
use Rattle.std.proofs.lemmas.Bool.{cases_eq}
use Rattle.wb_base.specs.declared.symbol.Symbol.{Symbol}
use Rattle.wb_base.specs.declared.symbol.Symbol.TheVariants.{Nonterminal, Terminal}
use Rattle.wb_grammar_theory.specs.declared.item.Item.{Item}
use Rattle.wb_grammar_theory.specs.Items.{initial_item}
use Rattle.wb_compose_theory.proofs.ActionLemmas.{Act, Acts, house, plus_acts, reduce, reducing, same_has, shift}
use Rattle.wb_compose_theory.proofs.ConflictLemmas.{envelope_acts, envelope_map, other_source}
use Rattle.wb_compose_theory.proofs.DerivesLemmas.{DerivesIn-append, DerivesIn-same, DerivesIn-split, DerivesIn-then, begins_cut}
use Rattle.wb_compose_theory.proofs.DerivesLemmas.{derives_terminal}
use Rattle.wb_compose_theory.proofs.FirstLemmas.{Begins, begins_project, by_itself, by_mark, nullable_project}
use Rattle.wb_compose_theory.proofs.KernelLemmas.{chain, flip, same_itself}
use Rattle.wb_compose_theory.proofs.LookaheadLemmas.{lookahead_named, phi_from_bare, phi_from_on}
use Rattle.wb_compose_theory.proofs.MarkLemmas.{Clean}
use Rattle.wb_compose_theory.proofs.PartLemmas.{productive_both, productive_home, productive_plus}
use Rattle.wb_compose_theory.proofs.StepLemmas.{item_names, rest_clean}
use Rattle.wb_compose_theory.specs.Composable.{IsNewHostKernelIn, IsValidInEnvelopeIn}
use Rattle.wb_compose_theory.specs.Derives.{AreProductiveIn, DerivesIn, expand}
use Rattle.wb_compose_theory.specs.Homes.{AreComposableApart, Home, IsListed, of, of_host, part_of}
use Rattle.wb_compose_theory.specs.Items.{IsKernelItemIn, IsValidItemIn, SameKernelIn, close, move, start, start_item_in}
use Rattle.wb_compose_theory.specs.Lookaheads.{IsValidTerminalIn}
use Rattle.wb_compose_theory.specs.Marks.{Each, IsMarked, phi}
use Rattle.wb_compose_theory.specs.Stands.{AreApart}
use Rattle.wb_compose_theory.specs.Worlds.{Has, IsProductionIn, Part, World, both, on, plus, union}

-- an action at a prefix with the same kernel makes its terminal valid
valid_of : {w : World} {part : Part} → IsMarked w → AreProductiveIn w part → (a b : List Symbol) (act : Act) (t : ℕ) →
    SameKernelIn w part a part b → Acts w part b act t → IsValidTerminalIn w part a t
valid_of ok p a b shift t same (i, (rest, is), (u, v)) =
    inl (record { item = i; rest = rest; has = same_has ok p b a (flip same) v; before_dot = is })
valid_of ok p a b (reduce q) t same (i, (p_is, over), v) = inr (q, reducing ok p (flip same) i q t p_is over v)

-- a valid terminal is one of an action
record Acting (w : World) (part : Part) (prefix : List Symbol) (t : ℕ) : Type 0 where
  act : Act
  other : List Symbol
  same : SameKernelIn w part prefix part other
  acts : Acts w part other act t

-- each valid terminal is
acting : {w : World} {part : Part} (prefix : List Symbol) (t : ℕ) → IsValidTerminalIn w part prefix t → Acting w part prefix t
acting {w} {part} prefix t (inl can) =
    record { act = shift; other = prefix; same = same_itself w part prefix; acts = (can.item, (can.rest, can.before_dot), can.has) }
acting prefix t (inr (p, red)) =
    let (other, same, v) = red.lookahead in
    record { act = reduce p; other = other; same = same; acts = (red.item, (red.production, red.complete), v) }

-- what the terminal becomes by phi is valid in a certified grammar that has the kernel
pub record ValidAt (w : World) (n : ℕ) (prefix : List Symbol) (t : ℕ) : Type 0 where
  pub home : Home
  pub listed : IsListed n home
  pub other : List Symbol
  pub same : SameKernelIn w (union n) prefix (part_of home) other
  pub valid : IsValidTerminalIn w (part_of home) other (phi w t)

-- each valid terminal of the union
pub valid_at : {w : World} {n : ℕ} → IsMarked w → AreComposableApart w n → (prefix : List Symbol) (t : ℕ) →
    IsValidTerminalIn w (union n) prefix t → ValidAt w n prefix t
valid_at {w} ok c prefix t x =
    let a = acting prefix t x in
    let h = house ok c a.act a.other t a.acts in
    record {
      home = h.home;
      listed = h.listed;
      other = h.other;
      same = chain a.same h.same;
      valid =
          valid_of ok (productive_home ok c h.home h.listed) h.other h.other a.act (phi w t)
          (same_itself w (part_of h.home) h.other) h.acts;
    }

-- a valid terminal of a certified grammar, where the kernel is one of the host with holes
pub valid_in_host : {w : World} {n : ℕ} → IsMarked w → AreComposableApart w n → (home : Home) → IsListed n home →
    (a b : List Symbol) (t : ℕ) → SameKernelIn w plus a (part_of home) b → IsValidTerminalIn w (part_of home) b (phi w t) →
    IsValidTerminalIn w plus a (phi w t)
valid_in_host {w} ok c home l a b t same x =
    let k = acting b (phi w t) x in
    let p = plus_acts ok c home l a k.other k.act t (chain same k.same) k.acts in
    valid_of ok (productive_plus ok c.of_host) a p.other k.act (phi w t) p.same p.acts

-- two terminals that are valid at a prefix of the union are not apart
pub valid_together : {w : World} {n : ℕ} → IsMarked w → AreComposableApart w n → (prefix : List Symbol) (t u : ℕ) →
    IsValidTerminalIn w (union n) prefix t → IsValidTerminalIn w (union n) prefix u → ¬ AreApart w n prefix t u
valid_together {w} {n} ok c prefix t u xt xu apart =
    let f = valid_at ok c prefix t xt in
    let g = valid_at ok c prefix u xu in
    go f.home g.home f.listed g.listed f.other g.other f.same g.same f.valid g.valid
  where
    in_plus : (f g : Home) → IsListed n f → IsListed n g → (x a b : List Symbol) → SameKernelIn w (union n) prefix (part_of f) a →
        SameKernelIn w (union n) prefix (part_of g) b → SameKernelIn w plus x (union n) prefix →
        IsValidTerminalIn w (part_of f) a (phi w t) → IsValidTerminalIn w (part_of g) b (phi w u) → ⊥
    in_plus f g lf lg x a b sf sg here et eu =
        apart.in_homes of_host tt x (flip here) (valid_in_host ok c f lf x a t (chain here sf) et)
        (valid_in_host ok c g lg x b u (chain here sg) eu)

    enveloped : (e f : ℕ) → e < n → f < n → (a b : List Symbol) → IsNewHostKernelIn w e a → IsNewHostKernelIn w f b →
        SameKernelIn w (both e) a (both f) b → (y : ℕ) → IsValidTerminalIn w (both f) b (phi w y) →
        IsValidInEnvelopeIn w (IsKernelItemIn w (both e) a) (phi w y)
    enveloped e f le lf a b new_a new_b same y x = sets (acting b (phi w y) x)
      where
        sets : Acting w (both f) b (phi w y) → IsValidInEnvelopeIn w (IsKernelItemIn w (both e) a) (phi w y)
        sets k = by k.act k.other k.same k.acts
          where
            new_at : (other : List Symbol) → SameKernelIn w (both f) b (both f) other → IsNewHostKernelIn w f other
            new_at other s = record { within = λ i m. new_b.within i ((s i).1 m); is_new = λ z m. new_b.is_new z (chain m (flip s)) }

            by : (act : Act) (other : List Symbol) → SameKernelIn w (both f) b (both f) other → Acts w (both f) other act (phi w y) →
                IsValidInEnvelopeIn w (IsKernelItemIn w (both e) a) (phi w y)
            by shift other s acts =
                inl (envelope_map w shift (phi w y) (λ i m. (chain same s i).1 m) (λ i m. (chain same s i).0 m)
                (envelope_acts ok f (c.of_extension f lf) other (new_at other s) shift y acts))
            by (reduce p) other s acts =
                inr (
                  p,
                  envelope_map w (reduce p) (phi w y) (λ i m. (chain same s i).1 m) (λ i m. (chain same s i).0 m)
                      (envelope_acts ok f (c.of_extension f lf) other (new_at other s) (reduce p) y acts),
                )

    go : (f g : Home) → IsListed n f → IsListed n g → (a b : List Symbol) → SameKernelIn w (union n) prefix (part_of f) a →
        SameKernelIn w (union n) prefix (part_of g) b → IsValidTerminalIn w (part_of f) a (phi w t) →
        IsValidTerminalIn w (part_of g) b (phi w u) → ⊥
    go of_host g lf lg a b sf sg et eu = in_plus of_host g lf lg a a b sf sg (flip sf) et eu
    go (of e) of_host lf lg a b sf sg et eu = in_plus (of e) of_host lf lg b a b sf sg (flip sg) et eu
    go (of e) (of f) lf lg a b sf sg et eu = elim (cases_eq e f) [ inl is ↦ equal is | inr differ ↦ different differ ]
      where
        same : SameKernelIn w (both e) a (both f) b
        same = chain (flip sf) sg

        equal : e ≡ f → ⊥
        equal is =
            let back : SameKernelIn w (both e) a (both e) b = subst (λ z. SameKernelIn w (both e) a (both z) b) (sym is) same in
            let k = acting b (phi w u) (subst (λ z. IsValidTerminalIn w (both z) b (phi w u)) (sym is) eu) in
            apart.in_homes (of e) lf a sf et
            (valid_of ok (productive_both ok e (c.of_extension e lf)) a k.other k.act (phi w u) (chain back k.same) k.acts)

        not_plus : (x : List Symbol) → SameKernelIn w plus x (both e) a → ⊥
        not_plus x here = in_plus (of e) (of f) lf lg x a b sf sg (chain here (flip sf)) et eu

        different : e ≢ f → ⊥
        different differ =
            let new_a : IsNewHostKernelIn w e a =
            record { within = λ i k. other_source ok e f differ b i ((same i).0 k); is_new = not_plus } in
            let new_b : IsNewHostKernelIn w f b =
            record {
              within = λ i k. other_source ok f e (λ z. differ (sym z)) a i ((same i).1 k);
              is_new =
                  λ x here. not_plus x (chain here (flip same));
            } in
            apart.in_envelopes e lf a sf new_a (enveloped e e lf lf a a new_a new_a (same_itself w (both e) a) t et)
            (enveloped e f lf lg a b new_a new_b same u eu)

-- a valid terminal is one of the part's
pub valid_named : {w : World} {part : Part} → IsMarked w → (prefix : List Symbol) (t : ℕ) → IsValidTerminalIn w part prefix t →
    Has part (w.symbol_owner (Terminal t))
valid_named {w} {part} ok prefix t (inl can) =
    (subst (λ z. Each (λ x. Has part (w.symbol_owner x)) z) can.before_dot (item_names ok (can.has.1))).0
valid_named ok prefix t (inr (p, red)) = lookahead_named ok (red.lookahead.2)

-- what is valid with a terminal is valid with each other one that phi takes to the same
pub twins : {w : World} {part : Part} {prefix : List Symbol} {i : Item} {t : ℕ} → IsMarked w → AreProductiveIn w part →
    IsValidItemIn w part prefix i t → (u : ℕ) → Has part (w.symbol_owner (Terminal u)) → phi w u ≡ phi w t → IsValidItemIn w part prefix i u
twins {w} {part} ok p start u hu same = subst (λ z. IsValidItemIn w part [] (start_item_in w) z)
    (sym (phi_from_bare w ok u w.end_terminal same ok.start.end_bare)) start
twins {w} {part} {prefix} ok p (close item t b rest q u v is rule left (x, d)) y hy same = each (twins ok p v) (rest_clean ok v b rest is)
  where
    last : (z : ℕ) → DerivesIn w part (Terminal z ∷ []) (Terminal z ∷ [])
    last z = DerivesIn-same w part (Terminal z ∷ [])

    each : ((z : ℕ) → Has part (w.symbol_owner (Terminal z)) → phi w z ≡ phi w t → IsValidItemIn w part prefix item z) →
        Clean w part rest → IsValidItemIn w part prefix (initial_item q) y
    each more clean =
        let s = DerivesIn-split rest d in
        elim (begins_cut (Terminal u) x s.front s.back s.is) [
          | inl n' ↦ ends (nullable_project ok s.of_front n'.0 clean) (derives_terminal t [] s.of_back refl) n'.1
          | inr n' ↦ begins (begins_project ok s.of_front u n'.0 n'.1 clean)
        ]
      where
        ends : DerivesIn w part rest [] → {back : List Symbol} → (v' : List Symbol) × (back ≡ Terminal t ∷ v') → back ≡ Terminal u ∷ x →
            IsValidItemIn w part prefix (initial_item q) y
        ends empty {back} (v', f) g =
            let h : Terminal t ∷ v' ≡ Terminal u ∷ x = sym f ∙ g in
            let t_is : t ≡ u = cc in
            close item y b rest q y (more y hy (same ∙ ap (phi w) (sym t_is))) is rule left ([], DerivesIn-append empty (last y))

        begins : Begins w part rest u → IsValidItemIn w part prefix (initial_item q) y
        begins (by_itself v' mark r) =
            let y_is : y ≡ u = phi_from_bare w ok y u same mark in
            close item t b rest q y v is rule left (
              v' ++ Terminal t ∷ [],
              subst (λ z. DerivesIn w part (rest ++ Terminal t ∷ []) (Terminal z ∷ v' ++ Terminal t ∷ []))
                  (sym y_is) (DerivesIn-append r (last t)),
            )
        begins (by_mark h v' mark r) =
            let y_mark : w.mark y ≡ on h = phi_from_on w ok y u h same mark in
            let (rest', right) = ok.bridges.bridge_right y h y_mark in
            let y_rule : IsProductionIn w part (w.production_of y) = subst (Has part) (sym (ok.bridges.bridge_owner y h y_mark)) hy in
            let bridged : DerivesIn w part (Nonterminal h ∷ v') (Terminal y ∷ (rest' ++ v')) =
            expand (w.production_of y) h (Terminal y ∷ rest') v' y_rule (ok.bridges.bridge_left y h y_mark)
            (subst (λ z. DerivesIn w part z (Terminal y ∷ rest')) (sym right) (DerivesIn-same w part (Terminal y ∷ rest')))
            (DerivesIn-same w part v') refl in
            close item t b rest q y v is rule left ((rest' ++ v') ++ Terminal t ∷ [], DerivesIn-append (DerivesIn-then r bridged) (last t))
twins ok p (move item x rest prefix v is longer_is moved_is) u hu same =
    move item x rest prefix (twins ok p v u hu same) is longer_is moved_is
