-- What markers bring from the host's kernels.
use Rattle.std.proofs.Common.{◌≡◌, ◌≢◌, ◌+◌, ◌<◌, ◌≤◌, ◌∙◌, ◌∷◌, ◌++◌, [], Bool, List, ℕ, Some, map, refl, sym, ap, subst, inl, inr}
use Rattle.std.proofs.Common.{arith}
use Rattle.std.specs.Prelude.{◌↔◌, Contains, slice_get}
use Rattle.wb_lemmas.proofs.Members.{place_in}
use Rattle.wb_base.specs.declared.symbol.Symbol.{Symbol}
use Rattle.wb_base.specs.declared.symbol.Symbol.TheVariants.{Terminal}
use Rattle.wb_base.specs.Grammar.{GrammarView}
use Rattle.wb_termset.proofs.CallerLemmas.{has_below}
use Rattle.wb_grammar_theory.specs.declared.item.Item.{Item}
use Rattle.wb_grammar_theory.specs.Items.{HasItem, IsKernelItem, IsValidItem, IsViablePrefix, SameKernel, advance, after_dot, initial_item}
use Rattle.wb_grammar_theory.specs.Items as valid
use Rattle.wb_grammar_theory.specs.Lookaheads.{IsLookahead}
use Rattle.wb_grammar_theory.specs.Productions.{end_of}
use Rattle.wb_grammar_theory.proofs.DotLemmas.{after_initial}
use Rattle.wb_grammar_theory.proofs.FlowLemmas.{same_back, same_itself, same_then}
use Rattle.wb_grammar_theory.proofs.KernelLemmas.{kernel_decides, moved_from, same_move, snoc_not_nil}
use Rattle.wb_items.specs.Kernels.{HasNoneBefore, LeadsTo, prefix_of}
use Rattle.wb_items.specs.Lookaheads.{IsSetOf, items_in, row_of}
use Rattle.wb_items.specs.Table.{Leads}
use Rattle.wb_items.proofs.CallerLemmas.{row_has}
use Rattle.wb_lookahead.proofs.StepLemmas.{step_has}
use Rattle.wb_compose_theory.proofs.RenamingLemmas.{split_list, terminal_of}
use Rattle.wb_compose_theory.specs.Numbered.{IsHostKernel}
use Rattle.wb_compose_theory.specs.Renamings.{renamed}
use Rattle.wb_determinism_theory.specs.Beside.{IsKnown, StandsAs, bridge, itself}
use Rattle.wb_determinism_kernels.specs.declared.starts.Start.{Start}
use Rattle.wb_determinism_kernels.specs.NewKernels.{IsStart, prefixes_beside}
use Rattle.wb_determinism_kernels.proofs.CrossingLemmas.{crossed_kernel}
use Rattle.wb_determinism_kernels.proofs.NumberLemmas.{lift_once}
use Rattle.wb_determinism_kernels.proofs.PrefixLemmas.{beside_below, beside_is}
use Rattle.wb_determinism_lookaheads.specs.declared.context.Context.{Context}
use Rattle.wb_determinism_lookaheads.specs.Inner.Spreading.{AreTrueFor, ComesBy, IsBrought, IsContext, IsLifted, LeadsIn, both_of}
use Rattle.wb_determinism_lookaheads.specs.Inner.Spreading.{host_of, image_of, own_of, prefix_in, up_of}
use Rattle.wb_determinism_lookaheads.proofs.TogetherLemmas.{alone_moved}

-- the start is one
abbrev pub IsStartOf : Context → Start → Type 0
IsStartOf c start = IsStart (host_of c) (both_of c) c.beside.now.numbers.now c.beside.now.images.now
    (prefixes_beside (up_of c) (host_of c) c.new.now.index.steps) start

pub start_is : {c : Context} → IsContext c → (start : Start) → Contains c.new.now.starts start → IsStartOf c start
start_is {c} ok start listed = ok.new.starts (listed.0) start (place_in c.new.now.starts start listed)

-- from where an item with its dot past the left end moved
record Before (g : GrammarView) (longer : List Symbol) (moved : Item) (t : ℕ) : Type 0 where
  item : Item
  prefix : List Symbol
  valid : IsValidItem g prefix item t
  is : moved ≡ advance item

before : {g : GrammarView} {longer : List Symbol} {moved : Item} {t : ℕ} → IsValidItem g longer moved t → moved.dot ≢ 0 →
    Before g longer moved t
before valid.start ne = absurd (ne refl)
before (valid.close item t b rest q u right v is rule f) ne = absurd (ne refl)
before (valid.move item x rest prefix v is longer_is moved_is) ne = record { item = item; prefix = prefix; valid = v; is = moved_is }

-- items that move to one are one
advance_once : (i j : Item) → advance i ≡ advance j → i ≡ j
advance_once i j e =
    let p : i.production ≡ j.production = ap (λ z. z.production) e in
    let d : i.dot + 1 ≡ j.dot + 1 = ap (λ z. z.dot) e in
    let f : i.dot ≡ j.dot = omega arith in
    λ k. record { production = p k; dot = f k }

moved_dot : (i : Item) → (advance i).dot ≡ 0 → ⊥
moved_dot i e = let d : i.dot + 1 ≡ 0 = e in omega (arith, d)

module _ {c : Context} (ok : IsContext c) where
  abbrev g : GrammarView
  g = (host_of c).grammar

  abbrev k : GrammarView
  k = both_of c

  -- where a symbol leads
  pub leads_in : {s : ℕ} {x : Symbol} {n : ℕ} → Leads k (prefixes_beside (up_of c) (host_of c) c.new.now.index.steps) s x n →
      LeadsIn c s x n
  leads_in {s} {x} {n} l =
      let here : prefix_in c s ≡ l.prefix = beside_is (up_of c) (host_of c) c.new.now.index.steps s l.prefix l.at in
      let there : prefix_in c n ≡ l.other = beside_is (up_of c) (host_of c) c.new.now.index.steps n l.other l.to in (
        beside_below (up_of c) (host_of c) c.new.now.index.steps s l.prefix l.at,
        beside_below (up_of c) (host_of c) c.new.now.index.steps n l.other l.to,
        subst (λ p. IsViablePrefix k (p ++ x ∷ [])) (sym here) l.viable,
        subst (λ p. SameKernel k (prefix_in c n) (p ++ x ∷ [])) (sym here)
            (subst (λ p. SameKernel k p (l.prefix ++ x ∷ [])) (sym there) l.same),
      )

  -- the kernel of a number of the host
  pub host_kernel : (s : ℕ) → s < own_of c → IsHostKernel g k (up_of c) (prefix_in c s) (prefix_of (host_of c) s)
  host_kernel s lt = subst (λ z. IsHostKernel g k (up_of c) z (prefix_of (host_of c) s)) (sym (ok.new.found.first.lifted s lt))
      (ok.given.beside.kernels (prefix_of (host_of c) s) (ok.new.found.first.host s lt))

  module _ (start : Start) (is : IsStartOf c start) where
    abbrev item : Item
    item = initial_item start.production

    abbrev hole : Symbol
    hole = Terminal start.hole

    -- the hole is behind the dot
    at_hole : (right : List Symbol) × (after_dot g item ≡ hole ∷ right)
    at_hole = let (b, right, rule, e) = is.begins in (right, after_initial g start.production b (hole ∷ right) rule)

    pub behind_there : HasNoneBefore g (prefix_of (host_of c) start.before) hole → ⊥
    behind_there none = none item (at_hole.0) is.has (at_hole.1)

    module _ (behind : ℕ) (leads : LeadsTo (host_of c) start.before hole behind) where
      pub behind_has : HasItem g (prefix_of (host_of c) behind) (advance item)
      behind_has = step_has ok.given.kernels start.before hole behind item (at_hole.0) leads is.has (at_hole.1)

      pub behind_listed : Contains (items_in (row_of c.known.now behind)) (advance item)
      behind_listed = row_has ok.given.kernels c.known.now ok.known.shape behind (advance item) (leads.1) behind_has

      -- what the host has behind the hole, in the numbers of the host with the extension
      pub brought_by : (set lifted : List Bool) → IsSetOf c.known.now behind (advance item) set → IsLifted c set lifted →
          IsBrought c start lifted
      brought_by set lifted there l = record {
        len = l.len;
        each = λ t le (u, up_is, (o, same, v)).
            l.each t le (u, up_is, (ok.known.exact behind (advance item) set u (leads.1) there).1 (o, same_then leads.3 same, v));
        only = λ t has.
            let (u, up_is, member) = l.only t has in
            let (o, same, v) = (ok.known.exact behind (advance item) set u (leads.1) there).0 member in
            (u, up_is, (o, same_then (same_back leads.3) same, v));
      }

    -- at each prefix of the host that has the item, the kernel after the marker is that of the start
    pub after_marker : (prefix other : List Symbol) → IsHostKernel g k (up_of c) prefix other → HasItem g other item →
        SameKernel k (prefix_in c start.before ++ Terminal start.marker ∷ []) (prefix ++ Terminal start.marker ∷ [])
    after_marker prefix other at has =
        let one = crossed_kernel ok.given (prefix_in c start.before) (prefix_of (host_of c) start.before)
        (host_kernel start.before is.before) start.marker is.marker start.hole start.production is.hole is.has is.begins in
        let two = crossed_kernel ok.given prefix other at start.marker is.marker start.hole start.production is.hole has is.begins in
        λ i. (λ x. (two i).1 ((one i).0 x), λ x. (one i).1 ((two i).0 x))

    -- what comes is true
    pub brought_true : (i : ℕ) (kernel : List Item) (moved : Item) (set : List Bool) → start.number ≡ own_of c + i →
        slice_get c.new.now.index.kernels i ≡ Some kernel → Contains kernel moved → IsBrought c start set → AreTrueFor c i moved set
    brought_true i kernel moved set number_is there listed b = λ other belong t has.
        let leads = leads_in is.leads in
        let number : IsKernelItem k (prefix_in c start.number) moved =
        subst (λ z. IsKernelItem k (prefix_in c z) moved) (sym number_is) ((ok.new.kernels i kernel there moved).0 listed) in
        let (q, a, rest, rule, e) = (crossed_kernel ok.given (prefix_in c start.before) (prefix_of (host_of c) start.before)
        (host_kernel start.before is.before) start.marker is.marker start.hole start.production is.hole is.has is.begins moved).0
        ((leads.3 moved).0 number) in
        let other_is : moved ≡ other = alone_moved k moved other belong
        (λ z. moved_dot (initial_item q) (ap (λ (x : Item). x.dot) (sym e) ∙ z)) in
        let le : t ≤ end_of k = (let w = has_below set t has in let len = b.len in omega (arith, w, len)) in
        let (u, up_is, (o, same, v)) = b.only t has in
        let f = before v (moved_dot item) in
        let vo : IsValidItem g f.prefix item u = subst (λ z. IsValidItem g f.prefix z u) (sym (advance_once item f.item f.is)) f.valid in
        let at : IsHostKernel g k (up_of c) (map (renamed (up_of c)) f.prefix) f.prefix = ok.given.beside.kernels f.prefix (item, u, vo) in
        let (bb, right, of_g, z) = is.begins in
        let known : IsKnown g k (up_of c) (image_of c) f.prefix (initial_item q) t = record {
          named = le;
          own = item;
          stands = bridge start.marker start.hole q start.production a bb rest right is.marker is.hole rule of_g refl refl;
          u = u;
          is = up_is;
          lookahead = (f.prefix, same_itself g f.prefix, vo);
        } in
        let (w, wsame, wv) = ok.given.beside.true (map (renamed (up_of c)) f.prefix) f.prefix at (initial_item q) t known in
        let all : SameKernel k (prefix_in c start.number) (w ++ Terminal start.marker ∷ []) =
        same_then (same_then leads.3 (after_marker (map (renamed (up_of c)) f.prefix) f.prefix at (u, vo)))
        (same_move ok.given.live (map (renamed (up_of c)) f.prefix) w (Terminal start.marker) wsame) in
        subst (λ n. IsLookahead k (prefix_in c n) other t) number_is
        (subst (λ n. IsLookahead k (prefix_in c start.number) n t) (sym e ∙ other_is) (
          w ++ Terminal start.marker ∷ [],
          all,
          valid.move (initial_item q) (Terminal start.marker) rest w {longer = w ++ Terminal start.marker ∷ []} wv
              (after_initial k q a (Terminal start.marker ∷ rest) rule) (refl {a = w ++ Terminal start.marker ∷ []}) refl,
        ))

    -- the kernel behind the hole has one item
    hole_kernel : (prefix : List Symbol) → HasItem g prefix item → (i : Item) → IsKernelItem g (prefix ++ hole ∷ []) i ↔ (i ≡ advance item)
    hole_kernel prefix (t, v) i = (there, back)
      where
        there : IsKernelItem g (prefix ++ hole ∷ []) i → i ≡ advance item
        there ((u, w), inl dot) =
            let from = moved_from w dot prefix hole refl in
            from.is ∙ ap advance (ok.alone start.marker start.hole from.item item from.rest (at_hole.0) is.marker is.hole from.before_dot
            (at_hole.1))
        there (has, inr (same, empty)) = absurd (snoc_not_nil prefix hole empty)

        back : i ≡ advance item → IsKernelItem g (prefix ++ hole ∷ []) i
        back e = (
          (t, valid.move item hole (at_hole.0) prefix v (at_hole.1) refl e),
          inl (λ z. moved_dot item (ap (λ (x : Item). x.dot) (sym e) ∙ z)),
        )

    -- where the host has the item, the kernels behind the hole are one
    pub after_hole : (prefix : List Symbol) → HasItem g prefix item →
        SameKernel g (prefix_of (host_of c) start.before ++ hole ∷ []) (prefix ++ hole ∷ [])
    after_hole prefix has =
        let one = hole_kernel (prefix_of (host_of c) start.before) is.has in
        let two = hole_kernel prefix has in
        λ i. (λ x. (two i).1 ((one i).0 x), λ x. (one i).1 ((two i).0 x))

    -- what is known before the marker comes
    pub known_comes : (other : List Symbol) (i : Item) (t : ℕ) (rest : List Symbol) → after_dot k i ≡ Terminal start.marker ∷ rest →
        IsKnown g k (up_of c) (image_of c) other i t → ComesBy c start t
    known_comes other i t rest dot_is z = go z.stands z.lookahead
      where
        go : StandsAs g k (up_of c) (image_of c) i z.own → IsLookahead g other z.own z.u → ComesBy c start t
        go (itself i_is) (o, same, v) =
            let has = kernel_decides ok.given.kernels.live v other (same_back same) in
            let here : map (renamed (up_of c)) (after_dot g z.own) ≡ Terminal start.marker ∷ rest =
            sym (ok.given.beside.dots other z.own has) ∙ (ap (after_dot k) (sym i_is) ∙ dot_is) in
            let (y, more, y_dot, y_is, more_is) = split_list (up_of c) (after_dot g z.own) (Terminal start.marker) rest here in
            let (u, u_is, up_is) = terminal_of (up_of c) y start.marker y_is in
            absurd (is.marker (ap (image_of c) (sym up_is) ∙ (ok.given.themselves u ∙ up_is)))
        go (bridge mark h q p a b rest' right ne up_is of_k of_g i_is own_is) (o, same, v) =
            let f : Terminal start.marker ∷ rest ≡ Terminal mark ∷ rest' =
            sym dot_is ∙ (ap (after_dot k) i_is ∙ after_initial k q a (Terminal mark ∷ rest') of_k) in
            let mark_is : mark ≡ start.marker = cc in
            let numbers = c.beside.now.numbers.now.terminals in
            let hole_is : h ≡ start.hole = lift_once numbers.own numbers.more h start.hole
            (up_is ∙ (ap (image_of c) mark_is ∙ sym is.hole)) in
            let e : z.own ≡ item = own_is ∙ ok.alone start.marker start.hole (initial_item p) item right (at_hole.0) is.marker is.hole
            (after_initial g p b (Terminal h ∷ right) of_g ∙ ap (λ x. Terminal x ∷ right) hole_is) (at_hole.1) in
            let vo : IsValidItem g o item z.u = subst (λ x. IsValidItem g o x z.u) e v in (
              z.u,
              z.is,
              (
                o ++ hole ∷ [],
                after_hole o (z.u, vo),
                valid.move item hole (at_hole.0) o vo (at_hole.1) refl refl,
              ),
            )
