-- Which kernels that a union takes can be one, where they lead, and that its own kernels and moves are such lists.
use Rattle.std.proofs.Common.{◌++◌, ◌<◌, ◌∙◌, ◌∷◌, ◌≡◌, List, [], ap, inl, inr, length, refl, subst, sym, ℕ, arith}
use Rattle.std.specs.Prelude.{◌↔◌, Contains}
use Rattle.std.proofs.lemmas.Bool.{cases_lt}
use Rattle.std.proofs.lemmas.Option.{slice_get_within}
use Rattle.wb_base.specs.declared.symbol.Symbol.{Symbol}
use Rattle.wb_base.specs.declared.symbol.Symbol.TheVariants.{Nonterminal, Terminal}
use Rattle.wb_base.specs.Grammar.{GrammarView}
use Rattle.wb_grammar_theory.specs.declared.item.Item.{Item}
use Rattle.wb_grammar_theory.specs.Items.{advance, initial_item}
use Rattle.wb_lemmas.proofs.Places.{at_once}
use Rattle.wb_recheck_theory.specs.KernelLists.{AreKernelsAndMoves}
use Rattle.wb_compose_theory.proofs.KernelLemmas.{Found, chain, find_item, first_kernels, flip, found, opens}
use Rattle.wb_compose_theory.proofs.MarkLemmas.{has_host}
use Rattle.wb_compose_theory.proofs.NumberLemmas.{kernel_back, kernel_there, same_back, same_there}
use Rattle.wb_compose_theory.proofs.PartLemmas.{plain_in, productive_home, productive_plus}
use Rattle.wb_compose_theory.proofs.ReachLemmas.{Opens, reach}
use Rattle.wb_compose_theory.proofs.RenamingLemmas.{item_once}
use Rattle.wb_compose_theory.proofs.StepLemmas.{live, open_names}
use Rattle.wb_compose_theory.specs.Derives.{AreProductiveIn}
use Rattle.wb_compose_theory.specs.Homes.{Home, IsListed, of, of_host, part_of}
use Rattle.wb_compose_theory.specs.Items.{HasItemIn, IsKernelItemIn, IsValidItemIn, IsViablePrefixIn, SameKernelIn, after_dot_in, close}
use Rattle.wb_compose_theory.specs.Items.{move}
use Rattle.wb_compose_theory.specs.Renamings.{renamed, renamed_item}
use Rattle.wb_compose_theory.specs.Worlds.{Has, World, both, plain, plus, union}
use Rattle.wb_compose_theory_grammar.specs.Certificates.{AreCertified}
use Rattle.wb_compose_theory_grammar.specs.Pieces.{Piece}
use Rattle.wb_compose_theory_kernels.proofs.LocalLemmas.{one_home}
use Rattle.wb_compose_theory_kernels.proofs.MoveLemmas.{from_of, further, home_longer, move_there}
use Rattle.wb_compose_theory_kernels.proofs.SplicedLemmas.{move_back}
use Rattle.wb_compose_theory_kernels.proofs.HoleNames.{MarkerNames, marker_names}
use Rattle.wb_compose_theory_kernels.proofs.NumberLemmas.{TakenPrefix, apart, chosen, first_there, home_names, items_back, items_there}
use Rattle.wb_compose_theory_kernels.proofs.NumberLemmas.{many, marked, new_is_new, of_home, prefix_at, prefix_in}
use Rattle.wb_compose_theory_kernels.proofs.NumberLemmas.{taken_below, taken_listed, taken_no_hole, taken_prefix}
use Rattle.wb_compose_theory_kernels.proofs.PrefixNumbers.{prefix_number}
use Rattle.wb_compose_theory_kernels.proofs.NumberLemmas.{union_no_hole, whole, whole_prefix, world}
use Rattle.wb_compose_theory_kernels.proofs.PrefixNumbers.{viable_back, viable_there}
use Rattle.wb_compose_theory_kernels.proofs.HoleKernels.{marked_kernel}
use Rattle.wb_compose_theory_kernels.specs.Kernels.{AreKernelNumbers, AreSplicedKernels, AreSplicedMoves, HasOwnItem, IsFrom, IsItemFrom}
use Rattle.wb_compose_theory_kernels.specs.Kernels.{IsTaken}
use Rattle.wb_compose_theory_kernels.specs.Kernels.{KernelNumbers, LeadsAt}
use Rattle.wb_compose_theory_kernels.specs.Parts.{into_union}
use Rattle.wb_compose_theory_kernels.specs.Taken.{AreMarkersReached, AreMovesTaken, AreOneAt, AreTakenOnce, IsTakenSomewhere, LeadToBridges}

-- numbers of extensions
of_same : (e f : ℕ) → of f ≡ of e → e ≡ f
of_same e f same = cc

module _ (g : GrammarView) (extensible : List ℕ) (pieces : List Piece) (is : AreCertified g extensible pieces) (n : KernelNumbers)
    (ok : AreKernelNumbers g extensible pieces n) where
  abbrev wo : World
  wo = world g extensible pieces is

  -- kernels that are one in the union's numbers are one in the world
  joined : (home : Home) (s : ℕ) (other_home : Home) (other : ℕ) → IsTaken g extensible pieces n home s →
      IsTaken g extensible pieces n other_home other → AreOneAt g extensible pieces n home s other_home other →
      SameKernelIn wo (part_of home) (prefix_at g extensible pieces is n ok home s) (part_of other_home)
      (prefix_at g extensible pieces is n ok other_home other)
  joined home s other_home other k l one = go (taken_prefix g extensible pieces is n ok home s k)
    where
      go : TakenPrefix g extensible pieces is n ok home s →
          SameKernelIn wo (part_of home) (prefix_at g extensible pieces is n ok home s) (part_of other_home)
          (prefix_at g extensible pieces is n ok other_home other)
      go t =
          let items = items_there g extensible pieces is home (taken_listed g extensible pieces is n ok home s k) t.prefix
          (n.prefix_of home s) t.same in
          chain (flip t.same)
          (items_back g extensible pieces is other_home (taken_listed g extensible pieces is n ok other_home other l) t.prefix
          (n.prefix_of other_home other) (taken_no_hole g extensible pieces is n ok other_home other l)
          (λ item. ((λ z. (one item).0 ((items item).0 z)), (λ z. (items item).1 ((one item).1 z)))))

  -- which can be one
  pub taken_once : AreTakenOnce g extensible pieces n
  taken_once = record {
    same_number = λ home s other k l one.
        (ok.states home (taken_listed g extensible pieces is n ok home s k)).each_once s other
        (taken_below g extensible pieces is n ok home s k) (taken_below g extensible pieces is n ok home other l)
        (same_back (of_home g extensible pieces is home (taken_listed g extensible pieces is n ok home s k)) (n.prefix_of home s)
        (n.prefix_of home other) (joined home s home other k l one));
    not_host = λ s e other k l one.
        new_is_new g extensible pieces is n ok e other l (prefix_at g extensible pieces is n ok of_host s)
        (viable_there (of_home g extensible pieces is of_host tt) (n.prefix_of of_host s)
        ((ok.states of_host tt).prefixes s (taken_below g extensible pieces is n ok of_host s k)))
        (joined of_host s (of e) other k l one);
    same_extension = λ e s f other k l own one. one_extension e s f other k l own one (taken_prefix g extensible pieces is n ok (of e) s k);
  }
    where
      one_extension : (e s f other : ℕ) → IsTaken g extensible pieces n (of e) s → IsTaken g extensible pieces n (of f) other →
          HasOwnItem g extensible pieces (of e) (n.prefix_of (of e) s) → AreOneAt g extensible pieces n (of e) s (of f) other →
          TakenPrefix g extensible pieces is n ok (of e) s → e ≡ f
      one_extension e s f other k l own one t =
          of_same e f (one_home g extensible pieces is t.prefix e (n.prefix_of (of e) s) k.0 t.same own
          (of f) (prefix_at g extensible pieces is n ok (of f) other) (chain t.same (joined (of e) s (of f) other k l one)))

  -- where they lead
  pub moves_taken : AreMovesTaken g extensible pieces n
  moves_taken home s next x k leads free = go (taken_prefix g extensible pieces is n ok home s k)
    where
      at_host : (p : List Symbol) → next < n.count of_host → SameKernelIn wo (union (many g extensible pieces is))
          (whole_prefix g extensible pieces is p) plus (prefix_at g extensible pieces is n ok of_host next) →
          IsTaken g extensible pieces n of_host next
      at_host p below same = (
        below,
        union_no_hole g extensible pieces is of_host tt (whole_prefix g extensible pieces is p) (n.prefix_of of_host next) same,
      )

      at : (home : Home) → IsListed (many g extensible pieces is) home → next < n.count home → (p : List Symbol) →
          SameKernelIn wo (union (many g extensible pieces is)) (whole_prefix g extensible pieces is p) (part_of home)
          (prefix_at g extensible pieces is n ok home next) → IsTakenSomewhere g extensible pieces n home next
      at of_host listed below p same = inl (at_host p below same)
      at (of e) listed below p same = elim (cases_lt next (n.count of_host)) [
        | inl near ↦
            (let there = chain same (flip (first_there g extensible pieces is n ok e listed next near)) in
            let items = items_there g extensible pieces is (of e) listed p (n.prefix_of (of e) next) same in
            let more = items_there g extensible pieces is of_host tt p (n.prefix_of of_host next) there in
            inr (
              at_host p near there,
              (λ item. ((λ z. (more item).0 ((items item).1 z)), (λ z. (items item).0 ((more item).1 z)))),
            ))
        | inr far ↦ inl (listed, far, below)
      ]

      go : TakenPrefix g extensible pieces is n ok home s → IsTakenSomewhere g extensible pieces n home next
      go t =
          let listed = taken_listed g extensible pieces is n ok home s k in
          let onward = further g extensible pieces is n ok [] t.prefix (renamed (into_union g extensible pieces home) x) home s x next
          listed t.same leads free refl in
          at home listed leads.1 (t.prefix ++ renamed (into_union g extensible pieces home) x ∷ []) onward.same

  -- a marker leads to its bridge
  pub lead_to_bridges : LeadToBridges g extensible pieces n
  lead_to_bridges e m a s next x at mark less (below, more, viable, same) item = (there, back)
    where
      told : MarkerNames g extensible pieces is.are_pieces e x m a
      told = marker_names g extensible pieces is.are_pieces e x m a at mark

      b : List Symbol
      b = n.prefix_of (of e) s ++ Terminal m ∷ []

      name_is : renamed_item (home_names g extensible pieces is (of e)) (advance (initial_item (x.bridge m)))
          ≡ advance (initial_item (wo.production_of ((home_names g extensible pieces is (of e)).terminal m)))
      name_is = sym (ap (λ z. advance (initial_item z)) told.production)

      kernel : (j : Item) → IsKernelItemIn wo (both e) (prefix_in g extensible pieces is (of e) b) j
          ↔ (j ≡ advance (initial_item (wo.production_of ((home_names g extensible pieces is (of e)).terminal m))))
      kernel = subst (λ z. (j : Item) → IsKernelItemIn wo (both e) z j
          ↔ (j ≡ advance (initial_item (wo.production_of ((home_names g extensible pieces is (of e)).terminal m)))))
          (sym (home_longer g extensible pieces is (of e) (n.prefix_of (of e) s) (Terminal m)))
          (marked_kernel (marked g extensible pieces is) (prefix_at g extensible pieces is n ok (of e) s)
          ((home_names g extensible pieces is (of e)).terminal m) a told.mark
          (subst (IsViablePrefixIn wo (both e)) (home_longer g extensible pieces is (of e) (n.prefix_of (of e) s) (Terminal m))
          (viable_there (of_home g extensible pieces is (of e) less) b viable)))

      there : IsItemFrom g extensible pieces (of e) (n.prefix_of (of e) next) item →
          item ≡ renamed_item (into_union g extensible pieces (of e)) (advance (initial_item (x.bridge m)))
      there (own, has, item_is) =
          let own_is = item_once (of_home g extensible pieces is (of e) less) own (advance (initial_item (x.bridge m)))
          ((kernel (renamed_item (home_names g extensible pieces is (of e)) own)).0
          (kernel_there (of_home g extensible pieces is (of e) less) b own ((same own).0 has)) ∙ sym name_is) in
          item_is ∙ ap (renamed_item (into_union g extensible pieces (of e))) own_is

      back : item ≡ renamed_item (into_union g extensible pieces (of e)) (advance (initial_item (x.bridge m))) →
          IsItemFrom g extensible pieces (of e) (n.prefix_of (of e) next) item
      back item_is = (
        advance (initial_item (x.bridge m)),
        (same (advance (initial_item (x.bridge m)))).1
            (kernel_back (of_home g extensible pieces is (of e) less) b (advance (initial_item (x.bridge m)))
            ((kernel (renamed_item (home_names g extensible pieces is (of e)) (advance (initial_item (x.bridge m))))).1 name_is)),
        item_is,
      )

  -- an item of the host with its dot before a nonterminal is one of an extension where the kernel is
  opener_there : (e : ℕ) → e < many g extensible pieces is → (a b : List Symbol) → SameKernelIn wo plus a (both e) b → {j : Item} {t : ℕ} →
      IsValidItemIn wo plus a j t → (h : ℕ) (rest : List Symbol) → after_dot_in wo j ≡ Nonterminal h ∷ rest → HasItemIn wo (both e) b j
  opener_there e less a b same {j} v h rest is_open =
      go (find_item (marked g extensible pieces is)
      (productive_home (marked g extensible pieces is) (apart g extensible pieces is) (of e) less) same v)
    where
      go : Found wo (both e) b j → HasItemIn wo (both e) b j
      go (found has) = has
      go (opens m k i more mark j_is has opening) =
          let (rest', right) = (marked g extensible pieces is).bridges.bridge_right m k mark in
          let f : Nonterminal h ∷ rest ≡ Terminal m ∷ rest' = sym is_open ∙ (ap (after_dot_in wo) j_is ∙ right) in cc

  -- each marker leads somewhere from a kernel of the host
  pub markers_reached : AreMarkersReached g extensible pieces n
  markers_reached e m a x at mark = go (reach (marked g extensible pieces is) live_host (plain_in plus) a
      ((apart g extensible pieces is).of_host.fit.reduced.reachable a
      (has_host plain (wo.symbol_owner (Nonterminal a)) ((marked g extensible pieces is).bridges.bridge_host name a told.mark))))
    where
      less : e < many g extensible pieces is
      less = slice_get_within pieces e x at

      told : MarkerNames g extensible pieces is.are_pieces e x m a
      told = marker_names g extensible pieces is.are_pieces e x m a at mark

      name : ℕ
      name = (home_names g extensible pieces is (of e)).terminal m

      live_host : AreProductiveIn wo plus
      live_host = productive_plus (marked g extensible pieces is) (apart g extensible pieces is).of_host

      live_both : AreProductiveIn wo (both e)
      live_both = productive_home (marked g extensible pieces is) (apart g extensible pieces is) (of e) less

      from : (s : ℕ) → s < n.count of_host → (j : Item) (t : ℕ) (rest : List Symbol) →
          IsValidItemIn wo (both e) (prefix_at g extensible pieces is n ok (of e) s) j t → after_dot_in wo j ≡ Nonterminal a ∷ rest →
          (s next : ℕ) × (s < n.count of_host) × LeadsAt g extensible pieces n (of e) s (Terminal m) next
      from s below j t rest v opening =
          let (u, f) = live live_both rest ((open_names (marked g extensible pieces is) v a rest opening).1) t in
          let (more, right) = (marked g extensible pieces is).bridges.bridge_right name a told.mark in
          let rule : Has (both e) (wo.production_owner (wo.production_of name)) =
          subst (Has (both e)) (sym ((marked g extensible pieces is).bridges.bridge_owner name a told.mark ∙ told.owner)) refl in
          let there : IsValidItemIn wo (both e) (prefix_at g extensible pieces is n ok (of e) s) (initial_item (wo.production_of name)) u =
          close j t a rest (wo.production_of name) u v opening rule
          ((marked g extensible pieces is).bridges.bridge_left name a told.mark) f in
          let viable = viable_back (of_home g extensible pieces is (of e) less) (n.prefix_of (of e) s ++ Terminal m ∷ [])
          (subst (IsViablePrefixIn wo (both e)) (sym (home_longer g extensible pieces is (of e) (n.prefix_of (of e) s) (Terminal m))) (
            advance (initial_item (wo.production_of name)),
            u,
            move (initial_item (wo.production_of name)) (Terminal name) more (prefix_at g extensible pieces is n ok (of e) s) there
                right refl
                refl,
          )) in
          let (next, within, same) = (ok.states (of e) less).all (n.prefix_of (of e) s ++ Terminal m ∷ []) viable in
          let fewer = ok.no_fewer e less in
          (s, next, below, (omega (arith, below, fewer), within, viable, same))

      go : Opens wo plus a → (s next : ℕ) × (s < n.count of_host) × LeadsAt g extensible pieces n (of e) s (Terminal m) next
      go o =
          let (b, b_is) = prefix_number (of_home g extensible pieces is of_host tt) o.prefix (o.item, o.t, o.valid) in
          let (s, below, same) = (ok.states of_host tt).all b (viable_back (of_home g extensible pieces is of_host tt) b
          (subst (IsViablePrefixIn wo plus) b_is (o.item, o.t, o.valid))) in
          let there : SameKernelIn wo plus o.prefix (both e) (prefix_at g extensible pieces is n ok (of e) s) =
          subst (λ z. SameKernelIn wo plus z (both e) (prefix_at g extensible pieces is n ok (of e) s)) (sym b_is)
          (chain (flip (same_there (of_home g extensible pieces is of_host tt) (n.prefix_of of_host s) b same))
          (first_there g extensible pieces is n ok e less s below)) in
          let (t, v) = opener_there e less o.prefix (prefix_at g extensible pieces is n ok (of e) s) there o.valid a o.rest o.is in
          from s below o.item t o.rest v o.is

  -- the kernels of the union's prefixes are such lists
  pub spliced_back : (kernels : List (List Item)) (moves : List (ℕ × Symbol × ℕ)) →
      AreKernelsAndMoves (whole g extensible pieces is) kernels moves → AreSplicedKernels g extensible pieces n kernels
  spliced_back kernels moves all = record {
    first = from_of g extensible pieces is n ok kernels 0 of_host 0 [] tt all.first
        (subst (λ z. SameKernelIn wo (union (many g extensible pieces is)) [] plus (prefix_in g extensible pieces is of_host z))
        (sym (ok.states of_host tt).first) (first_kernels (union (many g extensible pieces is)) plus));
    sound = sound;
    all = λ home s k. (let t = taken_prefix g extensible pieces is n ok home s k in
        let (u, listed) = all.all t.prefix t.viable in (
          u,
          from_of g extensible pieces is n ok kernels u home s t.prefix (taken_listed g extensible pieces is n ok home s k) listed
              t.same,
        ));
    once = once;
  }
    where
      sound : (u : ℕ) → u < length kernels →
          (home : Home) × (s : ℕ) × IsTaken g extensible pieces n home s × IsFrom g extensible pieces n kernels u home s
      sound u below =
          let (p, viable, listed) = all.sound u below in
          let c = chosen g extensible pieces is n ok p viable in (
            c.home,
            c.number,
            c.taken,
            from_of g extensible pieces is n ok kernels u c.home c.number p
                (taken_listed g extensible pieces is n ok c.home c.number c.taken) listed c.same,
          )

      once : (u v : ℕ) (home : Home) (s : ℕ) → IsFrom g extensible pieces n kernels u home s → IsFrom g extensible pieces n kernels v home s
          → u ≡ v
      once u v home s one other =
          let (p, viable, listed) = all.sound u (slice_get_within kernels u one.kernel one.at) in
          let same = at_once kernels u listed.kernel one.kernel listed.at one.at in
          all.once u v p listed (record {
            kernel = other.kernel;
            at = other.at;
            exact = λ item. (
              (λ c. (listed.exact item).0 (subst (λ z. Contains z item) (sym same) ((one.exact item).1 ((other.exact item).0 c)))),
              (λ k. (other.exact item).1 ((one.exact item).0 (subst (λ z. Contains z item) same ((listed.exact item).1 k)))),
            );
          })

  -- and the moves between them are such moves
  pub moves_back : (kernels : List (List Item)) (moves : List (ℕ × Symbol × ℕ)) →
      AreKernelsAndMoves (whole g extensible pieces is) kernels moves → AreSplicedMoves g extensible pieces n kernels moves
  moves_back kernels moves all = record {
    within = λ u x v c. (let b = (all.between u x v).0 c in slice_get_within kernels u b.before.kernel b.before.at);
    each = λ u below. (let (home, s, k, from) = (spliced_back kernels moves all).sound u below in record {
      home = home;
      number = s;
      taken = k;
      source = from;
      exact = λ x v. (
        (λ c. move_back g extensible pieces is n ok kernels u home s x v k from ((all.between u x v).0 c)),
        (λ y. (all.between u x v).1 (move_there g extensible pieces is n ok kernels u home s x v k from y)),
      );
    });
  }
