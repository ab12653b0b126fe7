-- What is known, in numbers.
use Rattle.std.proofs.Common.{◌++◌, ◌∙◌, ◌∷◌, ◌≡◌, ◌≢◌, List, [], ap, inl, inr, map, refl, subst, sym, ℕ}
use Rattle.std.proofs.lemmas.Bool.{cases_eq}
use Rattle.wb_base.specs.declared.symbol.Symbol.{Symbol}
use Rattle.wb_base.specs.declared.symbol.Symbol.TheVariants.{Nonterminal, Terminal}
use Rattle.wb_base.specs.Grammar.{GrammarView}
use Rattle.wb_grammar_theory.specs.declared.item.Item.{Item}
use Rattle.wb_grammar_theory.specs.Derives.{IsFirst}
use Rattle.wb_grammar_theory.specs.Items.{HasItem, IsKernelItem, after_dot, initial_item}
use Rattle.wb_grammar_theory.specs.Lookaheads.{IsLookahead}
use Rattle.wb_grammar_theory.specs.Productions.{IsProduction, end_of, top_of}
use Rattle.wb_compose_theory.proofs.MarkLemmas.{mark_opens, phi_bare, phi_on}
use Rattle.wb_compose_theory.proofs.NumberLemmas.{item_back, item_named, kernel_back, kernel_there, looks_back, looks_there}
use Rattle.wb_compose_theory.proofs.PartLemmas.{plus_in}
use Rattle.wb_compose_theory.proofs.RenamingLemmas.{InGrammar, at_rule, at_top, derives_there, dots, in_grammar}
use Rattle.wb_compose_theory.proofs.RenamingLemmas.{item_once, list_once, map_join}
use Rattle.wb_compose_theory.proofs.RenamingLemmas.{split_list, terminal_of, valid_there}
use Rattle.wb_compose_theory.proofs.SeamLemmas.{host_kernel, item_up, symbol_up}
use Rattle.wb_compose_theory.proofs.StepLemmas.{hole_rule, item_source}
use Rattle.wb_compose_theory.specs.Derives.{DerivesIn, IsFirstIn}
use Rattle.wb_compose_theory.specs.Homes.{of}
use Rattle.wb_compose_theory.specs.Items.{IsKernelItemIn, IsValidItemIn, SameKernelIn, after_dot_in}
use Rattle.wb_compose_theory.specs.Marks.{IsMarked, phi}
use Rattle.wb_compose_theory.specs.Numbered.{IsHostKernel}
use Rattle.wb_compose_theory.specs.Renamings.{Renaming, renamed, renamed_item}
use Rattle.wb_compose_theory.specs.Seams.{AreNumberings}
use Rattle.wb_compose_theory.specs.Stands.{StandsFor, as_hole}
use Rattle.wb_compose_theory.specs.Worlds.{IsProductionIn, Mark, World, bare, both, on, plus}
use Rattle.wb_determinism_theory.specs.Beside.{IsBeside, IsKnown, IsKnownItem, StandsAs, bridge}
use Rattle.wb_determinism_theory.specs.Known.{IsKnownLookahead, IsSourced}
use Rattle.wb_determinism_theory.specs.Laws.{IsPrepared}
use Rattle.wb_determinism_theory.specs.Inner.Terminals.{AreTerminals}
use Rattle.wb_determinism_theory.proofs.KnownLemmas.{item_known, known_closes, known_item_true, known_true, marked_rule, standing}

module _ {g k : GrammarView} {up : Renaming} {phi_of : ℕ → ℕ} {w : World} {e : ℕ} {r s : Renaming}
    (seam : AreNumberings g k up phi_of w e r s) (ready : IsPrepared w e) (terminals : AreTerminals k w (both e) s) where
  ok : IsMarked w
  ok = ready.is_marked

  -- a kernel that both have
  pub host_there : (prefix other : List Symbol) → IsHostKernel g k up prefix other →
      SameKernelIn w plus (map (renamed r) other) (both e) (map (renamed s) prefix)
  host_there prefix other is item' = (there, back)
    where
      there : IsKernelItemIn w plus (map (renamed r) other) item' → IsKernelItemIn w (both e) (map (renamed s) prefix) item'
      there x =
          let (i, i_is) = item_named seam.of_host ((x.0).1) in
          let y = kernel_back seam.of_host other i (subst (IsKernelItemIn w plus (map (renamed r) other)) i_is x) in
          subst (IsKernelItemIn w (both e) (map (renamed s) prefix)) (sym (i_is ∙ item_up seam i))
          (kernel_there seam.of_both prefix (renamed_item up i) ((is.same i).0 y))

      back : IsKernelItemIn w (both e) (map (renamed s) prefix) item' → IsKernelItemIn w plus (map (renamed r) other) item'
      back x =
          let (item, item_is) = item_named seam.of_both ((x.0).1) in
          let y = kernel_back seam.of_both prefix item (subst (IsKernelItemIn w (both e) (map (renamed s) prefix)) item_is x) in
          let (i, i_is) = is.within item y in
          subst (IsKernelItemIn w plus (map (renamed r) other)) (sym (item_is ∙ (ap (renamed_item s) i_is ∙ sym (item_up seam i))))
          (kernel_there seam.of_host other i ((is.same i).1 (subst (IsKernelItem k prefix) i_is y)))

  -- phi in numbers
  pub phi_there : (u t : ℕ) → up.terminal u ≡ phi_of t → r.terminal u ≡ phi w (s.terminal t)
  phi_there u t is = seam.terminals u ∙ (ap s.terminal is ∙ seam.phis t)

  pub phi_back : (u t : ℕ) → phi w (s.terminal t) ≡ r.terminal u → up.terminal u ≡ phi_of t
  phi_back u t is = seam.of_both.once.terminal (up.terminal u) (phi_of t) (sym (seam.terminals u) ∙ (sym is ∙ sym (seam.phis t)))

  -- the production of a valid item of the host is the extended host's
  source_up : (p : ℕ) → IsSourced w plus p → IsSourced w (both e) p
  source_up p (inl is) = inl is
  source_up p (inr rule) = inr (plus_in (of e) (w.production_owner p) rule)

  -- a marker in numbers is a mark
  record Marked (m : ℕ) : Type 0 where
    on_what : ℕ
    mark : w.mark (s.terminal m) ≡ on on_what

  marked : (m : ℕ) → phi_of m ≢ m → Marked m
  marked m ne = go (w.mark (s.terminal m)) refl
    where
      go : (x : Mark) → w.mark (s.terminal m) ≡ x → Marked m
      go bare is = absurd (ne (seam.of_both.once.terminal (phi_of m) m (seam.phis m ∙ phi_bare w (s.terminal m) is)))
      go (on c) is = record { on_what = c; mark = is }

  -- what an item is known by, in the world
  record There (i : Item) (o : List Symbol) (t' : ℕ) : Type 0 where
    source : IsSourced w (both e) (renamed_item s i).production
    item : Item
    stands : StandsFor w (renamed_item s i) item
    valid : IsValidItemIn w plus o item t'

  stands_there : (i own : Item) → StandsAs g k up phi_of i own → {o : List Symbol} {t' : ℕ} →
      IsValidItemIn w plus o (renamed_item r own) t' → There i o t'
  stands_there i own (StandsAs.itself i_is) v =
      let item_is : renamed_item s i ≡ renamed_item r own = ap (renamed_item s) i_is ∙ sym (item_up seam own) in
      let z = standing ok (λ m h mark. hole_rule ok plus tt m h mark) v in
      record {
        source = subst (λ y. IsSourced w (both e) y.production) (sym item_is)
            (source_up (renamed_item r own).production (item_source v));
        item = z.item;
        stands = subst (λ y. StandsFor w y z.item) (sym item_is) z.stands;
        valid = z.valid;
      }
  stands_there i own (bridge m h q p a b rest right ne up_is of_k of_g i_is own_is) v =
      let c = marked m ne in
      let q_is : initial_item (s.production q) ≡ initial_item (w.production_of (s.terminal m)) =
      mark_opens ok (initial_item (s.production q)) (s.terminal m) c.on_what (map (renamed s) rest)
      (seam.of_both.productions.right_is q a (Terminal m ∷ rest) of_k) c.mark in
      let hole_is : r.terminal h ≡ w.hole_on c.on_what = phi_there h m up_is ∙ phi_on w (s.terminal m) c.on_what c.mark in
      let p_is : initial_item (r.production p) ≡ initial_item (w.production_of (w.hole_on c.on_what)) =
      mark_opens ok (initial_item (r.production p)) (w.hole_on c.on_what) c.on_what (map (renamed r) right)
      (seam.of_host.productions.right_is p b (Terminal h ∷ right) of_g ∙ ap (λ z. Terminal z ∷ map (renamed r) right) hole_is)
      (ok.holes.hole_mark (s.terminal m) c.on_what c.mark) in
      record {
        source = inr (subst (λ z. IsProductionIn w (both e) (renamed_item s z).production) (sym i_is)
            (seam.of_both.productions.production q a (Terminal m ∷ rest) of_k));
        item = renamed_item r own;
        stands = as_hole (s.terminal m) c.on_what c.mark (ap (renamed_item s) i_is ∙ q_is) (ap (renamed_item r) own_is ∙ p_is);
        valid = v;
      }

  -- what is known in numbers is known in the world
  pub known_there : (other : List Symbol) (i : Item) (t : ℕ) → IsKnown g k up phi_of other i t →
      IsKnownLookahead w e (map (renamed r) other) (renamed_item s i) (s.terminal t)
  known_there other i t x =
      let (o, same, v) = looks_there seam.of_host other x.own x.u x.lookahead in
      let z = stands_there i x.own x.stands v in
      record {
        named = (terminals t).0 x.named;
        source = z.source;
        host = record {
          item = z.item;
          stands = z.stands;
          lookahead = (o, same, subst (IsValidItemIn w plus o z.item) (phi_there x.u t x.is) z.valid);
        };
      }

  -- so are items
  item_there : (prefix other : List Symbol) → IsHostKernel g k up prefix other → (i : Item) → IsKnownItem g k up phi_of other i →
      HasItem k prefix i
  item_there prefix other is i x =
      let z = stands_there i x.own x.stands (valid_there seam.of_host (x.has.1)) in
      let (t', v) = known_item_true ok ready.host ready.both_parts (map (renamed r) other) (map (renamed s) prefix)
      (host_there prefix other is) (renamed_item s i)
      (record { source = z.source; item = z.item; stands = z.stands; has = (r.terminal (x.has.0), z.valid) }) in
      let (t, m, t_is) = item_back seam.of_both prefix i v in (t, m)

  -- a production of a mark, in numbers
  record Begun (n : GrammarView) (z : Renaming) (m' : ℕ) : Type 0 where
    m : ℕ
    q : ℕ
    a : ℕ
    rest : List Symbol
    m_is : z.terminal m ≡ m'
    rule : IsProduction n q a (Terminal m ∷ rest)
    is : w.production_of m' ≡ z.production q

  begun_both : (m' c : ℕ) → w.mark m' ≡ on c → IsProductionIn w (both e) (w.production_of m') → Begun k s m'
  begun_both m' c mark rule =
      let (q, a, right, mine, is) = seam.of_both.productions.onto (w.production_of m') rule in
      let (rest', w_right) = ok.bridges.bridge_right m' c mark in
      let (y, rest, right_is, y_is, rest_is) = split_list s right (Terminal m') rest'
      (sym (seam.of_both.productions.right_is q a right mine) ∙ (ap w.right (sym is) ∙ w_right)) in
      let (m, y_is0, m_is) = terminal_of s y m' y_is in
      record {
        m = m;
        q = q;
        a = a;
        rest = rest;
        m_is = m_is;
        rule = subst (IsProduction k q a) (right_is ∙ ap (λ z. z ∷ rest) y_is0) mine;
        is = is;
      }

  begun_host : (m' c : ℕ) → w.mark m' ≡ on c → IsProductionIn w plus (w.production_of m') → Begun g r m'
  begun_host m' c mark rule =
      let (q, a, right, mine, is) = seam.of_host.productions.onto (w.production_of m') rule in
      let (rest', w_right) = ok.bridges.bridge_right m' c mark in
      let (y, rest, right_is, y_is, rest_is) = split_list r right (Terminal m') rest'
      (sym (seam.of_host.productions.right_is q a right mine) ∙ (ap w.right (sym is) ∙ w_right)) in
      let (m, y_is0, m_is) = terminal_of r y m' y_is in
      record {
        m = m;
        q = q;
        a = a;
        rest = rest;
        m_is = m_is;
        rule = subst (IsProduction g q a) (right_is ∙ ap (λ z. z ∷ rest) y_is0) mine;
        is = is;
      }

  -- what an item stands for, in numbers
  stands_numbers : (i own j' : Item) → IsSourced w (both e) (renamed_item s i).production → StandsFor w (renamed_item s i) j' →
      j' ≡ renamed_item r own → StandsAs g k up phi_of i own
  stands_numbers i own j' source stands own_is = by stands
    where
      same_item : j' ≡ renamed_item s i → StandsAs g k up phi_of i own
      same_item j_is =
          StandsAs.itself (item_once seam.of_both i (renamed_item up own) (sym j_is ∙ (own_is ∙ item_up seam own)))

      by : StandsFor w (renamed_item s i) j' → StandsAs g k up phi_of i own
      by (StandsFor.itself bares j_is) = same_item j_is
      by (as_hole m' c mark i_is j_is) = elim (cases_eq m' (w.hole_on c)) [
        | inl is_hole ↦ same_item (j_is ∙ (ap (λ z. initial_item (w.production_of z)) (sym is_hole) ∙ sym i_is))
        | inr differ ↦ over differ
      ]
        where
          over : m' ≢ w.hole_on c → StandsAs g k up phi_of i own
          over differ =
              let b = begun_both m' c mark (marked_rule (both e) ok m' c mark (renamed_item s i) i_is source) in
              let h = begun_host (w.hole_on c) c (ok.holes.hole_mark m' c mark) (hole_rule ok plus tt m' c mark) in
              let to_hole : phi w (s.terminal b.m) ≡ w.hole_on c = ap (phi w) b.m_is ∙ phi_on w m' c mark in
              bridge b.m h.m b.q h.q b.a h.a b.rest h.rest
              (λ z. differ (sym b.m_is ∙ (ap s.terminal (sym z) ∙ (seam.phis b.m ∙ to_hole))))
              (phi_back h.m b.m (to_hole ∙ sym h.m_is)) b.rule h.rule
              (item_once seam.of_both i (initial_item b.q) (i_is ∙ ap initial_item b.is))
              (item_once seam.of_host own (initial_item h.q) (sym own_is ∙ (j_is ∙ ap initial_item h.is)))

  -- and back
  pub known_back : (other : List Symbol) (i : Item) (t : ℕ) →
      IsKnownLookahead w e (map (renamed r) other) (renamed_item s i) (s.terminal t) → IsKnown g k up phi_of other i t
  known_back other i t x =
      let (o, same, v) = x.host.lookahead in
      let (own, own_is) = item_named seam.of_host v in
      let (u, l, u_is) = looks_back seam.of_host other own (phi w (s.terminal t))
      (o, same, subst (λ z. IsValidItemIn w plus o z (phi w (s.terminal t))) own_is v) in
      record {
        named = (terminals t).1 x.named;
        own = own;
        stands = stands_numbers i own x.host.item x.source x.host.stands own_is;
        u = u;
        is = phi_back u t u_is;
        lookahead = l;
      }

  -- so are items
  item_known_back : (prefix other : List Symbol) → IsHostKernel g k up prefix other → (i : Item) → HasItem k prefix i →
      IsKnownItem g k up phi_of other i
  item_known_back prefix other is i (t, v) =
      let x = item_known ok ready.host (host_there prefix other is) (valid_there seam.of_both v) in
      let (u', v') = x.has in
      let (own, own_is) = item_named seam.of_host v' in
      let (u, m, u_is) = item_back seam.of_host other own
      (subst (λ z. IsValidItemIn w plus (map (renamed r) other) z u') own_is v') in
      record { own = own; stands = stands_numbers i own x.item x.source x.stands own_is; has = (u, m) }

  -- g beside k
  pub beside : IsBeside g k up phi_of
  beside = record {
    kernels = host_kernel seam ok ready.host ready.both_parts;
    end_up = seam.of_both.once.terminal (up.terminal (end_of g)) (end_of k)
        (sym (seam.terminals (end_of g)) ∙ (seam.of_host.ends.end_is ∙ sym seam.of_both.ends.end_is));
    end_phi = seam.of_both.once.terminal (phi_of (end_of k)) (end_of k)
        (seam.phis (end_of k) ∙ (ap (phi w) seam.of_both.ends.end_is ∙
        (phi_bare w w.end_terminal ok.start.end_bare ∙ sym seam.of_both.ends.end_is)));
    top_up = seam.of_both.once.production (up.production (top_of g)) (top_of k)
        (sym (seam.productions (top_of g)) ∙ (seam.of_host.ends.top_is ∙ sym seam.of_both.ends.top_is));
    production_once = λ p q is. seam.of_host.once.production p q
        (seam.productions p ∙ (ap s.production is ∙ sym (seam.productions q)));
    dots = λ other own has. lifted_dots own (in_grammar (has.1));
    items = λ prefix other is i. (item_known_back prefix other is i, item_there prefix other is i);
    true = true_there;
    closed = closed_there;
  }
    where
      -- productions of the host are the extended host's
      in_both : (p : ℕ) → InGrammar g p → InGrammar k (up.production p)
      in_both p (at_top is) =
          at_top (seam.of_both.once.production (up.production p) (top_of k)
          (sym (seam.productions p) ∙ (ap r.production is ∙ (seam.of_host.ends.top_is ∙ sym seam.of_both.ends.top_is))))
      in_both p (at_rule a right rule) =
          let (q, b, side, mine, is) = seam.of_both.productions.onto (r.production p)
          (plus_in (of e) (w.production_owner (r.production p)) (seam.of_host.productions.production p a right rule)) in
          let q_is : up.production p ≡ q = seam.of_both.once.production (up.production p) q (sym (seam.productions p) ∙ is) in
          at_rule b side (subst (λ z. IsProduction k z b side) (sym q_is) mine)

      list_up : (a : List Symbol) → map (renamed r) a ≡ map (renamed s) (map (renamed up) a)
      list_up [] = refl
      list_up (y ∷ a) = ap (λ z. z ∷ map (renamed r) a) (symbol_up seam y) ∙ ap (λ z. renamed s (renamed up y) ∷ z) (list_up a)

      lifted_dots : (own : Item) → InGrammar g own.production → after_dot k (renamed_item up own) ≡ map (renamed up) (after_dot g own)
      lifted_dots own within =
          list_once seam.of_both (after_dot k (renamed_item up own)) (map (renamed up) (after_dot g own))
          (sym (dots seam.of_both (renamed_item up own) (in_both own.production within)) ∙
          (ap (after_dot_in w) (sym (item_up seam own)) ∙ (dots seam.of_host own within ∙ list_up (after_dot g own))))

      true_there : (prefix other : List Symbol) → IsHostKernel g k up prefix other → (i : Item) (t : ℕ) → IsKnown g k up phi_of other i t →
          IsLookahead k prefix i t
      true_there prefix other is i t x =
          let l = known_true ok ready.host ready.both_parts (map (renamed r) other) (map (renamed s) prefix) (host_there prefix other is)
          (renamed_item s i) (s.terminal t) (known_there other i t x) in
          let (u, m, u_is) = looks_back seam.of_both prefix i (s.terminal t) l in
          subst (IsLookahead k prefix i) (seam.of_both.once.terminal u t (sym u_is)) m

      closed_there : (other : List Symbol) (i : Item) (t b : ℕ) (rest : List Symbol) (q u : ℕ) (right : List Symbol) →
          IsKnown g k up phi_of other i t → after_dot k i ≡ Nonterminal b ∷ rest → IsProduction k q b right →
          IsFirst k (rest ++ Terminal t ∷ []) u → IsKnown g k up phi_of other (initial_item q) u
      closed_there other i t b rest q u right x is rule (y, d) =
          let first : IsFirstIn w (both e) (map (renamed s) rest ++ Terminal (s.terminal t) ∷ []) (s.terminal u) = (
            map (renamed s) y,
            subst (λ z. DerivesIn w (both e) z (Terminal (s.terminal u) ∷ map (renamed s) y)) (map_join s rest (Terminal t ∷ []))
                (derives_there seam.of_both d),
          ) in
          known_back other (initial_item q) u
          (known_closes ok ready.both_parts (map (renamed r) other) (renamed_item s i) (s.terminal t) (s.nonterminal b)
          (map (renamed s) rest) (s.production q) (s.terminal u) (known_there other i t x)
          (dots seam.of_both i (known_grammar x) ∙ ap (map (renamed s)) is) (seam.of_both.productions.production q b right rule)
          (seam.of_both.productions.left_is q b right rule) first)
        where
          known_grammar : IsKnown g k up phi_of other i t → InGrammar k i.production
          known_grammar z = by z.stands z.lookahead
            where
              by : StandsAs g k up phi_of i z.own → IsLookahead g other z.own z.u → InGrammar k i.production
              by (StandsAs.itself i_is) (o, same, v) =
                  subst (λ y. InGrammar k y.production) (sym i_is) (in_both z.own.production (in_grammar v))
              by (bridge m h q p a b rest right ne up_is of_k of_g i_is own_is) l =
                  subst (λ y. InGrammar k y.production) (sym i_is) (at_rule a (Terminal m ∷ rest) of_k)
