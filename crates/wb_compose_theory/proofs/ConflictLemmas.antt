-- A conflict of the union would be one of a certified grammar, or one with the envelope.
use Rattle.std.proofs.Common.{◌∙◌, ◌∷◌, ◌≡◌, ◌≢◌, ◌⊎◌, List, [], ap, inl, inr, refl, subst, sym, ℕ}
use Rattle.std.proofs.lemmas.Bool.{cases_eq}
use Rattle.wb_base.specs.declared.symbol.Symbol.{Symbol}
use Rattle.wb_base.specs.declared.symbol.Symbol.TheVariants.{Nonterminal, Terminal}
use Rattle.wb_grammar_theory.specs.declared.item.Item.{Item}
use Rattle.wb_grammar_theory.specs.Items.{initial_item}
use Rattle.wb_compose_theory.proofs.ActionLemmas.{Act, Acts, conflict_of, house, plus_acts, reduce, shift, two_of}
use Rattle.wb_compose_theory.proofs.KernelLemmas.{Seen, chain, closure_complete, closure_map, closure_project, flip, marks, same_itself}
use Rattle.wb_compose_theory.proofs.KernelLemmas.{seen}
use Rattle.wb_compose_theory.proofs.MarkLemmas.{each_drop, has_host, phi_on, phi_phi}
use Rattle.wb_compose_theory.proofs.PartLemmas.{productive_both, productive_plus}
use Rattle.wb_compose_theory.proofs.StepLemmas.{Named, hole_left, hole_rule, item_source, rule_names}
use Rattle.wb_compose_theory.specs.Composable.{CanReduceInEnvelopeIn, CanShiftInEnvelopeIn, HasEnvelopeConflictIn, IsComposableExtensionIn}
use Rattle.wb_compose_theory.specs.Composable.{IsEnvelopeLookaheadIn, IsNewHostKernelIn}
use Rattle.wb_compose_theory.specs.Homes.{AreComposableApart, Home, IsListed, of, of_host, part_of}
use Rattle.wb_compose_theory.specs.Items.{IsKernelItemIn, SameKernelIn, after_dot_in, opened}
use Rattle.wb_compose_theory.specs.Lookaheads.{HasConflictIn}
use Rattle.wb_compose_theory.specs.Marks.{IsMarked, phi}
use Rattle.wb_compose_theory.specs.Worlds.{Has, IsProductionIn, Owner, World, both, extension, hole, host, plus, top, union}

-- actions with the envelope as lookaheads
abbrev pub EnvelopeActs : World → (Item → Type 0) → Act → ℕ → Type 0
EnvelopeActs w K shift t = CanShiftInEnvelopeIn w K t
EnvelopeActs w K (reduce p) t = CanReduceInEnvelopeIn w K p t

-- two different actions with the envelope are a conflict of it
envelope_conflict : {w : World} {K : Item → Type 0} (p q : Act) (t : ℕ) → p ≢ q → EnvelopeActs w K p t → EnvelopeActs w K q t →
    HasEnvelopeConflictIn w K t
envelope_conflict shift shift t ne x y = absurd (ne refl)
envelope_conflict shift (reduce q) t ne x y = inl (q, x, y)
envelope_conflict (reduce p) shift t ne x y = inl (p, y, x)
envelope_conflict (reduce p) (reduce q) t ne x y = inr (p, q, (λ e. ne (ap reduce e)), x, y)

-- actions with the envelope depend on the members of the kernel alone
pub envelope_map : (w : World) {K L : Item → Type 0} (act : Act) (t : ℕ) → ((i : Item) → K i → L i) → ((i : Item) → L i → K i) →
    EnvelopeActs w K act t → EnvelopeActs w L act t
envelope_map w shift t f g can = record { item = can.item; rest = can.rest; within = closure_map f can.within; before_dot = can.before_dot }
envelope_map w (reduce p) t f g red =
    let (prefix, within, looks) = red.lookahead in
    record {
      item = red.item;
      production = red.production;
      complete = red.complete;
      within = closure_map f red.within;
      lookahead = (prefix, (λ j k. within j (g j k)), looks);
    }

-- a production that isn't the extension's is of the host with holes
pub plus_rule : (w : World) (e p : ℕ) → IsProductionIn w (both e) p → w.production_owner p ≢ extension e → IsProductionIn w plus p
plus_rule w e p rule ne = go (w.production_owner p) refl
  where
    go : (o : Owner) → w.production_owner p ≡ o → IsProductionIn w plus p
    go host is = subst (Has plus) (sym is) tt
    go hole is = subst (Has plus) (sym is) tt
    go (extension k) is = absurd (ne (is ∙ ap extension (subst (Has (both e)) is rule)))
    go top is = absurd (subst (Has (both e)) is rule)

-- the items of a new host kernel have symbols of the host and holes
kernel_named : {w : World} → IsMarked w → (e : ℕ) (b : List Symbol) → IsNewHostKernelIn w e b → (i : Item) →
    IsKernelItemIn w (both e) b i → Named w plus (after_dot_in w i)
kernel_named {w} ok e b new i k = each_drop (λ x. Has plus (w.symbol_owner x)) i.dot (w.right i.production) (go (item_source ((k.0).1)))
  where
    go : (i.production ≡ w.top_production) ⊎ IsProductionIn w (both e) i.production → Named w plus (w.right i.production)
    go (inl is) = subst (Named w plus) (sym (ap w.right is ∙ ok.start.top_right))
        (has_host plus (w.symbol_owner (Nonterminal w.start_symbol)) ok.start.start_host, tt)
    go (inr rule) = rule_names ok plus i.production (plus_rule w e i.production rule (new.within i k))

-- at a new host kernel an action with the extension is one with the envelope
pub envelope_acts : {w : World} → IsMarked w → (e : ℕ) → IsComposableExtensionIn w e → (b : List Symbol) → IsNewHostKernelIn w e b →
    (act : Act) (t : ℕ) → Acts w (both e) b act (phi w t) → EnvelopeActs w (IsKernelItemIn w (both e) b) act (phi w t)
envelope_acts {w} ok e x b new shift t (i, (rest, is), (u, v)) =
    go (closure_project ok (kernel_named ok e b new) (closure_complete v))
  where
    go : Seen w plus (IsKernelItemIn w (both e) b) i → CanShiftInEnvelopeIn w (IsKernelItemIn w (both e) b) (phi w t)
    go (seen c named) = record { item = i; rest = rest; within = c; before_dot = is }
    go (marks m h j rest' mark i_is c before named) =
        let (rest2, right) = ok.bridges.bridge_right m h mark in
        let k : Terminal m ∷ rest2 ≡ Terminal (phi w t) ∷ rest = sym right ∙ (sym (ap (after_dot_in w) i_is) ∙ is) in
        let m_is : m ≡ phi w t = cc in
        let hole_is : w.hole_on h ≡ phi w t = sym (phi_on w m h mark) ∙ (ap (phi w) m_is ∙ phi_phi w ok t) in
        record {
          item = initial_item (w.production_of (w.hole_on h));
          rest = [];
          within = opened j h rest' (w.production_of (w.hole_on h)) c before (hole_rule ok plus tt m h mark) (hole_left ok m h mark);
          before_dot = ok.holes.hole_right m h mark ∙ ap (λ z. Terminal z ∷ []) hole_is;
        }
envelope_acts {w} ok e x b new (reduce p) t (i, (p_is, over), v) =
    go (closure_project ok (kernel_named ok e b new) (closure_complete v))
  where
    go : Seen w plus (IsKernelItemIn w (both e) b) i → CanReduceInEnvelopeIn w (IsKernelItemIn w (both e) b) p (phi w t)
    go (seen c named) =
        record {
          item = i;
          production = p_is;
          complete = over;
          within = c;
          lookahead = subst (IsEnvelopeLookaheadIn w (IsKernelItemIn w (both e) b) i) (phi_phi w ok t)
              (x.stays_in_envelope.lookaheads b new i (phi w t) c (b, same_itself w (both e) b, v));
        }
    go (marks m h j rest' mark i_is c before named) =
        let (rest2, right) = ok.bridges.bridge_right m h mark in
        let k : Terminal m ∷ rest2 ≡ [] = sym right ∙ (sym (ap (after_dot_in w) i_is) ∙ over) in cc

-- two different actions at one kernel of two certified grammars
clash_plus : {w : World} {n : ℕ} → IsMarked w → AreComposableApart w n → (f g : Home) → IsListed n f → IsListed n g →
    (x a b : List Symbol) → SameKernelIn w plus x (part_of f) a → SameKernelIn w plus x (part_of g) b → (p q : Act) (t : ℕ) → p ≢ q →
    Acts w (part_of f) a p (phi w t) → Acts w (part_of g) b q (phi w t) → ⊥
clash_plus {w} ok c f g lf lg x a b same same' p q t ne first second =
    let k = plus_acts ok c f lf x a p t same first in
    let l = plus_acts ok c g lg x b q t same' second in
    let (prefix, conflict) = conflict_of ok (productive_plus ok c.of_host) p q (phi w t) ne (chain (flip k.same) l.same) k.acts l.acts in
    c.of_host.no_conflict prefix (phi w t) conflict

-- a kernel of one extension has no item of another
pub other_source : {w : World} → IsMarked w → (e f : ℕ) → e ≢ f → (b : List Symbol) (i : Item) → IsKernelItemIn w (both f) b i →
    w.production_owner i.production ≢ extension e
other_source {w} ok e f ne b i k is = go (item_source ((k.0).1))
  where
    go : (i.production ≡ w.top_production) ⊎ IsProductionIn w (both f) i.production → ⊥
    go (inl same) = let h : top ≡ extension e = sym ok.start.top_owner ∙ (ap w.production_owner (sym same) ∙ is) in cc
    go (inr rule) = ne (subst (Has (both f)) is rule)

-- two different actions at one kernel can't be
clash : {w : World} {n : ℕ} → IsMarked w → AreComposableApart w n → (f g : Home) → IsListed n f → IsListed n g → (a b : List Symbol) →
    SameKernelIn w (part_of f) a (part_of g) b → (p q : Act) (t : ℕ) → p ≢ q → Acts w (part_of f) a p (phi w t) →
    Acts w (part_of g) b q (phi w t) → ⊥
clash {w} ok c of_host g lf lg a b same p q t ne first second =
    clash_plus ok c of_host g lf lg a a b (same_itself w plus a) same p q t ne first second
clash {w} ok c (of e) of_host lf lg a b same p q t ne first second =
    clash_plus ok c (of e) of_host lf lg b a b (flip same) (same_itself w plus b) p q t ne first second
clash {w} {n} ok c (of e) (of f) lf lg a b same p q t ne first second =
    elim (cases_eq e f) [ inl is ↦ equal is | inr differ ↦ different differ ]
  where
    equal : e ≡ f → ⊥
    equal is =
        let (prefix, conflict) = conflict_of ok (productive_both ok e (c.of_extension e lf)) p q (phi w t) ne
        (subst (λ z. SameKernelIn w (both e) a (both z) b) (sym is) same) first
        (subst (λ z. Acts w (both z) b q (phi w t)) (sym is) second) in
        (c.of_extension e lf).no_conflict prefix (phi w t) conflict

    not_plus : (x : List Symbol) → SameKernelIn w plus x (both e) a → ⊥
    not_plus x here = clash_plus ok c (of e) (of f) lf lg x a b here (chain here same) p q t ne first second

    different : e ≢ f → ⊥
    different differ =
        let new_a : IsNewHostKernelIn w e a = record { within = λ i k. other_source ok e f differ b i ((same i).0 k); is_new = not_plus } in
        let new_b : IsNewHostKernelIn w f b =
        record {
          within = λ i k. other_source ok f e (λ z. differ (sym z)) a i ((same i).1 k);
          is_new =
              λ x here. not_plus x (chain here (flip same));
        } in
        let one = envelope_acts ok e (c.of_extension e lf) a new_a p t first in
        let two = envelope_acts ok f (c.of_extension f lg) b new_b q t second in
        (c.of_extension e lf).stays_in_envelope.no_conflict a new_a (phi w t)
        (envelope_conflict p q (phi w t) ne one (envelope_map w q (phi w t) (λ i k. (same i).1 k) (λ i k. (same i).0 k) two))

-- the union has no conflict
pub no_conflict : (w : World) (n : ℕ) → IsMarked w → AreComposableApart w n → (prefix : List Symbol) (t : ℕ) →
    HasConflictIn w (union n) prefix t → ⊥
no_conflict w n ok c prefix t conflict =
    let d = two_of prefix t conflict in
    let f = house ok c d.p d.a t d.first in
    let g = house ok c d.q d.b t d.second in
    clash ok c f.home g.home f.listed g.listed f.other g.other (chain (flip f.same) (chain d.same g.same)) d.p d.q t d.differ f.acts g.acts
