-- Kernels, lookaheads, actions and conflicts of a grammar, and of the part of a world that it is.
use Rattle.std.proofs.Common.{◌∙◌, ◌∷◌, ◌≡◌, List, [], ap, inl, inr, map, refl, subst, sym, ℕ}
use Rattle.std.specs.Prelude.{◌↔◌}
use Rattle.wb_base.specs.declared.symbol.Symbol.{Symbol}
use Rattle.wb_base.specs.declared.symbol.Symbol.TheVariants.{Terminal}
use Rattle.wb_base.specs.Grammar.{GrammarView}
use Rattle.wb_grammar_theory.specs.declared.item.Item.{Item}
use Rattle.wb_grammar_theory.specs.Items.{IsKernelItem, IsValidItem, SameKernel, after_dot, initial_item, start_item}
use Rattle.wb_grammar_theory.specs.Lookaheads.{CanReduce, CanShift, HasConflict, IsLookahead, IsValidTerminal}
use Rattle.wb_compose_theory.proofs.KernelLemmas.{advanced}
use Rattle.wb_compose_theory.proofs.RenamingLemmas.{InGrammar, dots, in_grammar, item_once, list_once, split_list, terminal_of, valid_back}
use Rattle.wb_compose_theory.proofs.RenamingLemmas.{valid_there}
use Rattle.wb_compose_theory.specs.Items.{IsKernelItemIn, IsValidItemIn, SameKernelIn, after_dot_in, start_item_in}
use Rattle.wb_compose_theory.specs.Lookaheads.{CanReduceIn, CanShiftIn, HasConflictIn, IsLookaheadIn, IsValidTerminalIn}
use Rattle.wb_compose_theory.specs.Renamings.{Renaming, renamed, renamed_item}
use Rattle.wb_compose_theory.specs.Seams.{IsNumbering}
use Rattle.wb_compose_theory.specs.Worlds.{Part, World}

-- a list whose renaming is empty is empty
pub nil_map : (r : Renaming) (a : List Symbol) → map (renamed r) a ≡ [] → a ≡ []
nil_map r [] e = refl
nil_map r (x ∷ a) e = cc

-- a prefix with an item has a kernel item
kernel_item : {w : World} {part : Part} {prefix : List Symbol} {i : Item} {t : ℕ} → IsValidItemIn w part prefix i t →
    (j : Item) × IsKernelItemIn w part prefix j
kernel_item {w} IsValidItemIn.start = (start_item_in w, ((w.end_terminal, IsValidItemIn.start), inr (refl, refl)))
kernel_item (IsValidItemIn.close item t b rest q u v is rule left f) = kernel_item v
kernel_item (IsValidItemIn.move item x rest prefix {t = t} {longer = longer} {moved = moved} v is longer_is moved_is) =
    (moved, ((t, IsValidItemIn.move item x rest prefix v is longer_is moved_is), inl (advanced item moved moved_is)))

module _ {g : GrammarView} {w : World} {part : Part} {r : Renaming} (n : IsNumbering g w part r) where
  -- an item of a prefix in numbers
  pub item_back : (prefix : List Symbol) (item : Item) {t' : ℕ} →
      IsValidItemIn w part (map (renamed r) prefix) (renamed_item r item) t' →
      (t : ℕ) × IsValidItem g prefix item t × (t' ≡ r.terminal t)
  item_back prefix item v =
      let k = valid_back n v in (
        k.t,
        subst (λ z. IsValidItem g z item k.t) (list_once n k.prefix prefix (sym k.prefix_is))
            (subst (λ z. IsValidItem g k.prefix z k.t) (item_once n k.item item (sym k.item_is)) k.valid),
        k.t_is,
      )

  -- an item of a prefix has a number
  pub item_named : {prefix : List Symbol} {item : Item} {t : ℕ} → IsValidItemIn w part prefix item t →
      (i : Item) × (item ≡ renamed_item r i)
  item_named v = let k = valid_back n v in (k.item, k.item_is)

  -- the kernel of a prefix
  pub kernel_there : (prefix : List Symbol) (item : Item) → IsKernelItem g prefix item →
      IsKernelItemIn w part (map (renamed r) prefix) (renamed_item r item)
  kernel_there prefix item ((t, v), inl ne) = ((r.terminal t, valid_there n v), inl ne)
  kernel_there prefix item ((t, v), inr (is, empty)) =
      ((r.terminal t, valid_there n v), inr (ap (renamed_item r) is ∙ ap initial_item n.ends.top_is, ap (map (renamed r)) empty))

  -- a kernel item in numbers
  pub kernel_back : (prefix : List Symbol) (item : Item) → IsKernelItemIn w part (map (renamed r) prefix) (renamed_item r item) →
      IsKernelItem g prefix item
  kernel_back prefix item ((t', v'), inl ne) = let (t, v, is) = item_back prefix item v' in ((t, v), inl ne)
  kernel_back prefix item ((t', v'), inr (is, empty)) =
      let (t, v, t_is) = item_back prefix item v' in
      ((t, v), inr (item_once n item (start_item g) (is ∙ ap initial_item (sym n.ends.top_is)), nil_map r prefix empty))

  -- prefixes with the same kernel
  pub same_there : (a b : List Symbol) → SameKernel g a b → SameKernelIn w part (map (renamed r) a) part (map (renamed r) b)
  same_there a b same item' = (half a b (λ i. (same i).0), half b a (λ i. (same i).1))
    where
      half : (a b : List Symbol) → ((i : Item) → IsKernelItem g a i → IsKernelItem g b i) →
          IsKernelItemIn w part (map (renamed r) a) item' → IsKernelItemIn w part (map (renamed r) b) item'
      half a b f k =
          let (i, is) = item_named ((k.0).1) in
          subst (IsKernelItemIn w part (map (renamed r) b)) (sym is)
          (kernel_there b i (f i (kernel_back a i (subst (IsKernelItemIn w part (map (renamed r) a)) is k))))

  -- prefixes with the same kernel in numbers
  pub same_back : (a b : List Symbol) → SameKernelIn w part (map (renamed r) a) part (map (renamed r) b) → SameKernel g a b
  same_back a b same i = (
    λ k. kernel_back b i ((same (renamed_item r i)).0 (kernel_there a i k)),
    λ k. kernel_back a i ((same (renamed_item r i)).1 (kernel_there b i k)),
  )

  -- lookaheads
  pub looks_there : (prefix : List Symbol) (item : Item) (t : ℕ) → IsLookahead g prefix item t →
      IsLookaheadIn w part (map (renamed r) prefix) (renamed_item r item) (r.terminal t)
  looks_there prefix item t (other, same, v) = (map (renamed r) other, same_there prefix other same, valid_there n v)

  -- a lookahead in numbers
  pub looks_back : (prefix : List Symbol) (item : Item) (t' : ℕ) →
      IsLookaheadIn w part (map (renamed r) prefix) (renamed_item r item) t' → (t : ℕ) × IsLookahead g prefix item t × (t' ≡ r.terminal t)
  looks_back prefix item t' (other', same', v') =
      let k = valid_back n v' in (
        k.t,
        (
          k.prefix,
          same_back prefix k.prefix (subst (λ z. SameKernelIn w part (map (renamed r) prefix) part z) k.prefix_is same'),
          subst (λ z. IsValidItem g k.prefix z k.t) (item_once n k.item item (sym k.item_is)) k.valid,
        ),
        k.t_is,
      )

  -- what is after a dot
  pub over_back : (item : Item) → InGrammar g item.production → after_dot_in w (renamed_item r item) ≡ [] → after_dot g item ≡ []
  over_back item k e = nil_map r (after_dot g item) (sym (dots n item k) ∙ e)

  -- a terminal after a dot
  pub shift_back : (item : Item) → InGrammar g item.production → (t' : ℕ) (rest' : List Symbol) →
      after_dot_in w (renamed_item r item) ≡ Terminal t' ∷ rest' →
      (t : ℕ) × (rest : List Symbol) × (after_dot g item ≡ Terminal t ∷ rest) × (r.terminal t ≡ t')
  shift_back item k t' rest' e =
      let (y, rest, dot_is, y_is, rest_is) = split_list r (after_dot g item) (Terminal t') rest' (sym (dots n item k) ∙ e) in
      let (t, y_is0, t_is) = terminal_of r y t' y_is in
      (t, rest, dot_is ∙ ap (λ z. z ∷ rest) y_is0, t_is)

  -- what can be shifted
  pub shifts_there : (prefix : List Symbol) (t : ℕ) → CanShift g prefix t → CanShiftIn w part (map (renamed r) prefix) (r.terminal t)
  shifts_there prefix t can =
      let (u, v) = can.has in
      record {
        item = renamed_item r can.item;
        rest = map (renamed r) can.rest;
        has = (r.terminal u, valid_there n v);
        before_dot = dots n can.item (in_grammar v) ∙ ap (map (renamed r)) can.before_dot;
      }

  -- a shift in numbers
  pub shifts_back : (prefix : List Symbol) (t' : ℕ) → CanShiftIn w part (map (renamed r) prefix) t' →
      (t : ℕ) × CanShift g prefix t × (t' ≡ r.terminal t)
  shifts_back prefix t' can =
      let (u', v') = can.has in
      let k = valid_back n v' in
      let (t, rest, dot_is, t_is) =
      shift_back k.item (in_grammar k.valid) t' can.rest (ap (after_dot_in w) (sym k.item_is) ∙ can.before_dot) in (
        t,
        record {
          item = k.item;
          rest = rest;
          has = (k.t, subst (λ z. IsValidItem g z k.item k.t) (list_once n k.prefix prefix (sym k.prefix_is)) k.valid);
          before_dot = dot_is;
        },
        sym t_is,
      )

  -- what can be reduced
  pub reduce_there : (prefix : List Symbol) (p t : ℕ) → CanReduce g prefix p t →
      CanReduceIn w part (map (renamed r) prefix) (r.production p) (r.terminal t)
  reduce_there prefix p t red =
      let (u, v) = red.has in
      record {
        item = renamed_item r red.item;
        production = ap r.production red.production;
        complete = dots n red.item (in_grammar v) ∙ ap (map (renamed r)) red.complete;
        has = (r.terminal u, valid_there n v);
        lookahead = looks_there prefix red.item t red.lookahead;
      }

  -- a reduction in numbers
  pub reduce_back : (prefix : List Symbol) (p' t' : ℕ) → CanReduceIn w part (map (renamed r) prefix) p' t' →
      (p t : ℕ) × CanReduce g prefix p t × (p' ≡ r.production p) × (t' ≡ r.terminal t)
  reduce_back prefix p' t' red =
      let (other', same', v') = red.lookahead in
      let k = valid_back n v' in
      let over' : after_dot_in w (renamed_item r k.item) ≡ [] = ap (after_dot_in w) (sym k.item_is) ∙ red.complete in
      let (u', here') = red.has in
      let (u, here, u_is) = item_back prefix k.item (subst (λ z. IsValidItemIn w part (map (renamed r) prefix) z u') k.item_is here') in (
        k.item.production,
        k.t,
        record {
          item = k.item;
          production = refl;
          complete = over_back k.item (in_grammar k.valid) over';
          has = (u, here);
          lookahead = (
            k.prefix,
            same_back prefix k.prefix (subst (λ z. SameKernelIn w part (map (renamed r) prefix) part z) k.prefix_is same'),
            k.valid,
          );
        },
        sym red.production ∙ ap (λ z. z.production) k.item_is,
        k.t_is,
      )

  -- valid terminals
  pub terminal_there : (prefix : List Symbol) (t : ℕ) → IsValidTerminal g prefix t →
      IsValidTerminalIn w part (map (renamed r) prefix) (r.terminal t)
  terminal_there prefix t (inl can) = inl (shifts_there prefix t can)
  terminal_there prefix t (inr (p, red)) = inr (r.production p, reduce_there prefix p t red)

  -- a valid terminal in numbers
  pub terminal_back : (prefix : List Symbol) (t' : ℕ) → IsValidTerminalIn w part (map (renamed r) prefix) t' →
      (t : ℕ) × IsValidTerminal g prefix t × (t' ≡ r.terminal t)
  terminal_back prefix t' (inl can) = let (t, mine, is) = shifts_back prefix t' can in (t, inl mine, is)
  terminal_back prefix t' (inr (p', red)) = let (p, t, mine, p_is, is) = reduce_back prefix p' t' red in (t, inr (p, mine), is)

  -- a prefix of the part has numbers
  pub prefix_named : (prefix' : List Symbol) (i : Item) (t : ℕ) → IsLookaheadIn w part prefix' i t →
      (prefix : List Symbol) × (prefix' ≡ map (renamed r) prefix)
  prefix_named prefix' i t (other, same, v) =
      let (j, k) = kernel_item v in
      let b = valid_back n ((((same j).1 k).0).1) in
      (b.prefix, b.prefix_is)

  -- a prefix with a valid terminal has numbers
  pub terminal_prefix : (prefix' : List Symbol) (t' : ℕ) → IsValidTerminalIn w part prefix' t' →
      (prefix : List Symbol) × (prefix' ≡ map (renamed r) prefix)
  terminal_prefix prefix' t' (inl can) = let b = valid_back n (can.has.1) in (b.prefix, b.prefix_is)
  terminal_prefix prefix' t' (inr (p, red)) = prefix_named prefix' red.item t' red.lookahead

  -- conflicts
  pub conflict_there : (prefix : List Symbol) (t : ℕ) → HasConflict g prefix t →
      HasConflictIn w part (map (renamed r) prefix) (r.terminal t)
  conflict_there prefix t (inl (p, can, red)) = inl (r.production p, shifts_there prefix t can, reduce_there prefix p t red)
  conflict_there prefix t (inr (p, q, ne, one, two)) =
      inr (r.production p, r.production q, (λ e. ne (n.once.production p q e)), reduce_there prefix p t one, reduce_there prefix q t two)

  -- a conflict in numbers
  conflict_at : (prefix : List Symbol) (t' : ℕ) → HasConflictIn w part (map (renamed r) prefix) t' → (t : ℕ) × HasConflict g prefix t
  conflict_at prefix t' (inl (p', can, red)) =
      let (t, a, t_is) = shifts_back prefix t' can in
      let (p, u, b, p_is, u_is) = reduce_back prefix p' t' red in
      let same : u ≡ t = n.once.terminal u t (sym u_is ∙ t_is) in
      (t, inl (p, a, subst (λ z. CanReduce g prefix p z) same b))
  conflict_at prefix t' (inr (p', q', ne, first, second)) =
      let (p, t, a, p_is, t_is) = reduce_back prefix p' t' first in
      let (q, u, b, q_is, u_is) = reduce_back prefix q' t' second in
      let same : u ≡ t = n.once.terminal u t (sym u_is ∙ t_is) in
      (t, inr (p, q, (λ e. ne (p_is ∙ (ap r.production e ∙ sym q_is))), a, subst (λ z. CanReduce g prefix q z) same b))

  -- a conflict at any prefix
  pub conflict_back : (prefix' : List Symbol) (t' : ℕ) → HasConflictIn w part prefix' t' →
      (prefix : List Symbol) × (t : ℕ) × HasConflict g prefix t
  conflict_back prefix' t' x =
      let (prefix, is) = terminal_prefix prefix' t' (reduces x) in
      let (t, y) = conflict_at prefix t' (subst (λ z. HasConflictIn w part z t') is x) in
      (prefix, t, y)
    where
      reduces : HasConflictIn w part prefix' t' → IsValidTerminalIn w part prefix' t'
      reduces (inl (p, can, red)) = inl can
      reduces (inr (p, q, ne, one, two)) = inr (p, one)

  -- an item with a lookahead, a kernel item and a valid terminal, there and back
  pub lookahead_renamed : (prefix : List Symbol) (item : Item) (t : ℕ) → IsLookahead g prefix item t ↔
      IsLookaheadIn w part (map (renamed r) prefix) (renamed_item r item) (r.terminal t)
  lookahead_renamed prefix item t = (looks_there prefix item t, there)
    where
      there : IsLookaheadIn w part (map (renamed r) prefix) (renamed_item r item) (r.terminal t) → IsLookahead g prefix item t
      there x =
          let (u, mine, is) = looks_back prefix item (r.terminal t) x in
          subst (IsLookahead g prefix item) (n.once.terminal u t (sym is)) mine

  -- a kernel item
  pub kernel_renamed : (prefix : List Symbol) (item : Item) → IsKernelItem g prefix item ↔
      IsKernelItemIn w part (map (renamed r) prefix) (renamed_item r item)
  kernel_renamed prefix item = (kernel_there prefix item, kernel_back prefix item)

  -- a valid terminal
  pub terminal_renamed : (prefix : List Symbol) (t : ℕ) → IsValidTerminal g prefix t ↔
      IsValidTerminalIn w part (map (renamed r) prefix) (r.terminal t)
  terminal_renamed prefix t = (terminal_there prefix t, there)
    where
      there : IsValidTerminalIn w part (map (renamed r) prefix) (r.terminal t) → IsValidTerminal g prefix t
      there x =
          let (u, mine, is) = terminal_back prefix (r.terminal t) x in
          subst (IsValidTerminal g prefix) (n.once.terminal u t (sym is)) mine
