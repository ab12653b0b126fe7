-- The lookahead rule and the envelope rule in numbers give those of the world.
use Rattle.std.proofs.Common.{◌∙◌, ◌∷◌, ◌≡◌, ◌⊎◌, List, [], ap, inl, inr, map, refl, subst, sym, ℕ}
use Rattle.std.specs.Prelude.{◌↔◌}
use Rattle.wb_base.specs.declared.symbol.Symbol.{Symbol}
use Rattle.wb_base.specs.declared.symbol.Symbol.TheVariants.{Nonterminal, Terminal}
use Rattle.wb_base.specs.Grammar.{GrammarView}
use Rattle.wb_grammar_theory.specs.declared.item.Item.{Item}
use Rattle.wb_grammar_theory.specs.Closure.{InClosure, kernel, opened}
use Rattle.wb_grammar_theory.specs.Items.{IsKernelItem, IsViablePrefix, after_dot, initial_item}
use Rattle.wb_grammar_theory.specs.Productions.{top_of}
use Rattle.wb_compose_theory.proofs.ConflictLemmas.{plus_rule}
use Rattle.wb_compose_theory.proofs.KernelLemmas.{shapes}
use Rattle.wb_compose_theory.proofs.NumberLemmas.{item_named, kernel_back, kernel_there, looks_back, looks_there, prefix_named}
use Rattle.wb_compose_theory.proofs.PartLemmas.{plus_in}
use Rattle.wb_compose_theory.proofs.RenamingLemmas.{InGrammar, ValidBack, at_rule, at_top, dots, item_once, nonterminal_of, ruled}
use Rattle.wb_compose_theory.proofs.RenamingLemmas.{split_list}
use Rattle.wb_compose_theory.proofs.RenamingLemmas.{valid_back, valid_there}
use Rattle.wb_compose_theory.proofs.StepLemmas.{item_source}
use Rattle.wb_compose_theory.specs.Composable.{IsEnvelopeLookaheadIn, IsNewHostKernelIn}
use Rattle.wb_compose_theory.specs.Derives.{AreProductiveIn}
use Rattle.wb_compose_theory.specs.Homes.{of}
use Rattle.wb_compose_theory.specs.Items.{InClosureIn, IsKernelItemIn, SameKernelIn, after_dot_in}
use Rattle.wb_compose_theory.specs.Lookaheads.{IsLookaheadIn}
use Rattle.wb_compose_theory.specs.Marks.{IsMarked, phi}
use Rattle.wb_compose_theory.specs.Numbered.{HostKernel, KeepsKernelLookaheads, KeepsLookaheads, IsComposable, IsHostKernel}
use Rattle.wb_compose_theory.specs.Numbered.{IsNewHostKernel}
use Rattle.wb_compose_theory.specs.Renamings.{Renaming, renamed, renamed_item}
use Rattle.wb_compose_theory.specs.Seams.{AreNumberings}
use Rattle.wb_compose_theory.specs.Worlds.{IsProductionIn, World, both, plus}

module _ {g k : GrammarView} {up : Renaming} {phi_of : ℕ → ℕ} {w : World} {e : ℕ} {r s : Renaming}
    (seam : AreNumberings g k up phi_of w e r s) where
  -- the names of a symbol
  pub symbol_up : (x : Symbol) → renamed r x ≡ renamed s (renamed up x)
  symbol_up (Terminal t) = ap Terminal (seam.terminals t)
  symbol_up (Nonterminal a) = ap Nonterminal (seam.nonterminals a)

  -- the names of a list
  pub list_up : (a : List Symbol) → map (renamed r) a ≡ map (renamed s) (map (renamed up) a)
  list_up [] = refl
  list_up (x ∷ a) = ap (λ z. z ∷ map (renamed r) a) (symbol_up x) ∙ ap (λ z. renamed s (renamed up x) ∷ z) (list_up a)

  -- the names of an item
  pub item_up : (i : Item) → renamed_item r i ≡ renamed_item s (renamed_item up i)
  item_up i = let p = seam.productions i.production in λ j. record { production = p j; dot = i.dot }

  -- a prefix of the host with holes has the same kernel with the extension
  pub host_kernel : IsMarked w → AreProductiveIn w plus → AreProductiveIn w (both e) → (prefix : List Symbol) → IsViablePrefix g prefix →
      IsHostKernel g k up (map (renamed up) prefix) prefix
  host_kernel ok live more prefix (item, t, v) = record { within = within; same = λ i. (there i, back i) }
    where
      same : SameKernelIn w plus (map (renamed r) prefix) (both e) (map (renamed r) prefix)
      same = shapes ok live more (plus_in (of e)) (valid_there seam.of_host v)

      there : (i : Item) → IsKernelItem g prefix i → HostKernel k up (map (renamed up) prefix) i
      there i x = kernel_back seam.of_both (map (renamed up) prefix) (renamed_item up i)
          (subst (λ z. IsKernelItemIn w (both e) z (renamed_item s (renamed_item up i))) (list_up prefix)
          (subst (IsKernelItemIn w (both e) (map (renamed r) prefix)) (item_up i)
          ((same (renamed_item r i)).0 (kernel_there seam.of_host prefix i x))))

      in_host : (item : Item) → IsKernelItem k (map (renamed up) prefix) item →
          IsKernelItemIn w plus (map (renamed r) prefix) (renamed_item s item)
      in_host item x = (same (renamed_item s item)).1
          (subst (λ z. IsKernelItemIn w (both e) z (renamed_item s item)) (sym (list_up prefix))
          (kernel_there seam.of_both (map (renamed up) prefix) item x))

      back : (i : Item) → HostKernel k up (map (renamed up) prefix) i → IsKernelItem g prefix i
      back i x = kernel_back seam.of_host prefix i
          (subst (IsKernelItemIn w plus (map (renamed r) prefix)) (sym (item_up i)) (in_host (renamed_item up i) x))

      within : (item : Item) → IsKernelItem k (map (renamed up) prefix) item → (i : Item) × (item ≡ renamed_item up i)
      within item x =
          let (i, is) = item_named seam.of_host (((in_host item x).0).1) in
          (i, item_once seam.of_both item (renamed_item up i) (is ∙ item_up i))

  -- the lookahead rule, from the one by kernels
  pub by_kernels : IsMarked w → AreProductiveIn w plus → AreProductiveIn w (both e) → KeepsKernelLookaheads g k up phi_of →
      KeepsLookaheads g k up phi_of
  by_kernels ok live more rule prefix item t has looks =
      rule (map (renamed up) prefix) prefix item t (host_kernel ok live more prefix (item, (has.0).0, (has.0).1)) has looks

  -- an item of the grammar with the extension that is the host's
  pub record HostItem (item : Item) : Type 0 where
    pub i : Item
    pub is : item ≡ renamed_item up i
    pub kind : InGrammar g i.production

  -- an item whose production is the host's
  from_number : (item : Item) (p : ℕ) → InGrammar g p → item.production ≡ up.production p → HostItem item
  from_number item p kind f =
      record { i = record { production = p; dot = item.dot }; is = λ j. record { production = f j; dot = item.dot }; kind = kind }

  -- each item of a new host kernel is the host's
  pub host_item : IsMarked w → (prefix : List Symbol) → IsNewHostKernelIn w e (map (renamed s) prefix) → (item : Item) →
      IsKernelItem k prefix item → HostItem item
  host_item ok prefix new item in_kernel = go (item_source ((here.0).1))
    where
      here : IsKernelItemIn w (both e) (map (renamed s) prefix) (renamed_item s item)
      here = kernel_there seam.of_both prefix item in_kernel

      go : (s.production item.production ≡ w.top_production) ⊎ IsProductionIn w (both e) (s.production item.production) → HostItem item
      go (inl is) =
          from_number item (top_of g) (at_top refl)
          (seam.of_both.once.production item.production (up.production (top_of g))
          (is ∙ (sym seam.of_host.ends.top_is ∙ seam.productions (top_of g))))
      go (inr rule) =
          let (p, a, right, mine, is) = seam.of_host.productions.onto (s.production item.production)
          (plus_rule w e (s.production item.production) rule (new.within (renamed_item s item) here)) in
          from_number item p (at_rule a right mine)
          (seam.of_both.once.production item.production (up.production p) (is ∙ seam.productions p))

  -- a new host kernel of the world is one in numbers
  pub new_back : IsMarked w → (prefix : List Symbol) → IsNewHostKernelIn w e (map (renamed s) prefix) → IsNewHostKernel g k up prefix
  new_back ok prefix new =
      record {
        within = λ item in_kernel. (let h = host_item ok prefix new item in_kernel in (h.i, h.is));
        is_new =
            λ other same. new.is_new (map (renamed r) other) (λ item'. (up_half other same item', down_half other same item'));
      }
    where
      up_half : (other : List Symbol) → ((i : Item) → IsKernelItem g other i ↔ HostKernel k up prefix i) → (item' : Item) →
          IsKernelItemIn w plus (map (renamed r) other) item' → IsKernelItemIn w (both e) (map (renamed s) prefix) item'
      up_half other same item' x =
          let (i, is) = item_named seam.of_host ((x.0).1) in
          let y = kernel_back seam.of_host other i (subst (IsKernelItemIn w plus (map (renamed r) other)) is x) in
          subst (IsKernelItemIn w (both e) (map (renamed s) prefix)) (sym (is ∙ item_up i))
          (kernel_there seam.of_both prefix (renamed_item up i) ((same i).0 y))

      down_half : (other : List Symbol) → ((i : Item) → IsKernelItem g other i ↔ HostKernel k up prefix i) → (item' : Item) →
          IsKernelItemIn w (both e) (map (renamed s) prefix) item' → IsKernelItemIn w plus (map (renamed r) other) item'
      down_half other same item' x =
          let (item, is) = item_named seam.of_both ((x.0).1) in
          let y = kernel_back seam.of_both prefix item (subst (IsKernelItemIn w (both e) (map (renamed s) prefix)) is x) in
          let h = host_item ok prefix new item y in
          subst (IsKernelItemIn w plus (map (renamed r) other)) (sym (is ∙ (ap (renamed_item s) h.is ∙ sym (item_up h.i))))
          (kernel_there seam.of_host other h.i ((same h.i).1 (subst (IsKernelItem k prefix) h.is y)))

  -- an item of the closure in numbers
  pub record ClosureBack (prefix : List Symbol) (item' : Item) : Type 0 where
    pub i : Item
    pub is : item' ≡ renamed_item r i
    pub closure : InClosure g (HostKernel k up prefix) i
    pub kind : InGrammar g i.production

  -- each item of the closure has numbers
  pub closure_back : IsMarked w → (prefix : List Symbol) → IsNewHostKernelIn w e (map (renamed s) prefix) → {item' : Item} →
      InClosureIn w plus (IsKernelItemIn w (both e) (map (renamed s) prefix)) item' → ClosureBack prefix item'
  closure_back ok prefix new (InClosureIn.kernel {item = item'} x) =
      let (item, is) = item_named seam.of_both ((x.0).1) in
      let y = kernel_back seam.of_both prefix item (subst (IsKernelItemIn w (both e) (map (renamed s) prefix)) is x) in
      let h = host_item ok prefix new item y in
      record {
        i = h.i;
        is = is ∙ (ap (renamed_item s) h.is ∙ sym (item_up h.i));
        closure = kernel (subst (IsKernelItem k prefix) h.is y);
        kind = h.kind;
      }
  closure_back ok prefix new (InClosureIn.opened item' b' rest' q' c is rule left) =
      let h = closure_back ok prefix new c in
      let (y, rest, dot_is, y_is, rest_is) = split_list r (after_dot g h.i) (Nonterminal b') rest'
      (sym (dots seam.of_host h.i h.kind) ∙ (ap (after_dot_in w) (sym h.is) ∙ is)) in
      let (b, y_is0, b_is) = nonterminal_of r y b' y_is in
      let m = ruled seam.of_host q' b rule (left ∙ sym b_is) in
      record {
        i = initial_item m.p;
        is = ap initial_item m.is;
        closure =
            opened h.i b rest m.p m.right h.closure (dot_is ∙ ap (λ z. z ∷ rest) y_is0) m.rule;
        kind = at_rule b m.right m.rule;
      }

  -- phi in numbers and in the world
  phi_up : (t' t u : ℕ) → t' ≡ s.terminal t → up.terminal u ≡ phi_of t → r.terminal u ≡ phi w t'
  phi_up t' t u t_is u_is = seam.terminals u ∙ (ap s.terminal u_is ∙ (seam.phis t ∙ ap (phi w) (sym t_is)))

  -- the lookahead rule
  pub lookaheads_seam : IsComposable g k up phi_of → (prefix' : List Symbol) (item' : Item) (t' : ℕ) → IsKernelItemIn w plus prefix' item' →
      IsLookaheadIn w (both e) prefix' item' t' → IsLookaheadIn w plus prefix' item' (phi w t')
  lookaheads_seam x prefix' item' t' in_kernel looks = go b.prefix b.prefix_is b.item b.item_is
    where
      b : ValidBack g r prefix' item' ((in_kernel.0).0)
      b = valid_back seam.of_host ((in_kernel.0).1)

      go : (prefix : List Symbol) → prefix' ≡ map (renamed r) prefix → (item : Item) → item' ≡ renamed_item r item →
          IsLookaheadIn w plus prefix' item' (phi w t')
      go prefix p_is item i_is =
          let kk = kernel_back seam.of_host prefix item
          (subst (λ z. IsKernelItemIn w plus z (renamed_item r item)) p_is
          (subst (λ z. IsKernelItemIn w plus prefix' z) i_is in_kernel)) in
          let (t, l, t_is) = looks_back seam.of_both (map (renamed up) prefix) (renamed_item up item) t'
          (subst (λ z. IsLookaheadIn w (both e) z (renamed_item s (renamed_item up item)) t') (p_is ∙ list_up prefix)
          (subst (λ z. IsLookaheadIn w (both e) prefix' z t') (i_is ∙ item_up item) looks)) in
          let (u, u_is, m) = x.keeps_lookaheads prefix item t kk l in
          subst (λ z. IsLookaheadIn w plus prefix' item' z) (phi_up t' t u t_is u_is)
          (subst (λ z. IsLookaheadIn w plus z item' (r.terminal u)) (sym p_is)
          (subst (λ z. IsLookaheadIn w plus (map (renamed r) prefix) z (r.terminal u)) (sym i_is)
          (looks_there seam.of_host prefix item u m)))

  -- the envelope rule at a prefix that has numbers
  envelope_at : IsMarked w → IsComposable g k up phi_of → (prefix : List Symbol) → IsNewHostKernelIn w e (map (renamed s) prefix) →
      (item' : Item) (t' : ℕ) → InClosureIn w plus (IsKernelItemIn w (both e) (map (renamed s) prefix)) item' →
      IsLookaheadIn w (both e) (map (renamed s) prefix) item' t' →
      IsEnvelopeLookaheadIn w (IsKernelItemIn w (both e) (map (renamed s) prefix)) item' (phi w t')
  envelope_at ok x prefix new item' t' c looks =
      let h = closure_back ok prefix new c in
      let (t, l, t_is) = looks_back seam.of_both prefix (renamed_item up h.i) t'
      (subst (λ z. IsLookaheadIn w (both e) (map (renamed s) prefix) z t') (h.is ∙ item_up h.i) looks) in
      let (u, u_is, (other, within, m)) = x.stays_in_envelope.lookaheads prefix (new_back ok prefix new) h.i t h.closure l in (
        map (renamed r) other,
        (λ j' y. contains other within j' y),
        subst (λ z. IsLookaheadIn w plus (map (renamed r) other) item' z) (phi_up t' t u t_is u_is)
            (subst (λ z. IsLookaheadIn w plus (map (renamed r) other) z (r.terminal u)) (sym h.is)
            (looks_there seam.of_host other h.i u m)),
      )
    where
      contains : (other : List Symbol) → ((i : Item) → HostKernel k up prefix i → IsKernelItem g other i) → (j' : Item) →
          IsKernelItemIn w (both e) (map (renamed s) prefix) j' → IsKernelItemIn w plus (map (renamed r) other) j'
      contains other within j' y =
          let (item, is) = item_named seam.of_both ((y.0).1) in
          let z = kernel_back seam.of_both prefix item (subst (IsKernelItemIn w (both e) (map (renamed s) prefix)) is y) in
          let h = host_item ok prefix new item z in
          subst (IsKernelItemIn w plus (map (renamed r) other)) (sym (is ∙ (ap (renamed_item s) h.is ∙ sym (item_up h.i))))
          (kernel_there seam.of_host other h.i (within h.i (subst (IsKernelItem k prefix) h.is z)))

  -- the envelope rule on lookaheads
  pub envelope_seam : IsMarked w → IsComposable g k up phi_of → (prefix' : List Symbol) → IsNewHostKernelIn w e prefix' →
      (item' : Item) (t' : ℕ) → InClosureIn w plus (IsKernelItemIn w (both e) prefix') item' → IsLookaheadIn w (both e) prefix' item' t' →
      IsEnvelopeLookaheadIn w (IsKernelItemIn w (both e) prefix') item' (phi w t')
  envelope_seam ok x prefix' new item' t' c looks = go (prefix_named seam.of_both prefix' item' t' looks)
    where
      go : (prefix : List Symbol) × (prefix' ≡ map (renamed s) prefix) →
          IsEnvelopeLookaheadIn w (IsKernelItemIn w (both e) prefix') item' (phi w t')
      go (prefix, is) = (subst (λ p. IsNewHostKernelIn w e p → InClosureIn w plus (IsKernelItemIn w (both e) p) item' →
          IsLookaheadIn w (both e) p item' t' → IsEnvelopeLookaheadIn w (IsKernelItemIn w (both e) p) item' (phi w t')) (sym is)
          (λ n c l. envelope_at ok x prefix n item' t' c l)) new c looks
