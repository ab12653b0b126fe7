-- What a certificate lists: the kernels of prefixes, and their lookaheads.
use Rattle.std.proofs.Common.{◌≡◌, ℕ, ◌<◌, zero, suc, List, [], ◌∷◌, ◌++◌, Some, refl, sym, ◌∙◌, ap, subst, inl, inr, arith}
use Rattle.std.specs.Prelude.{◌↔◌, slice_get, None}
use Rattle.std.proofs.lemmas.Bool.{cases_lt}
use Rattle.std.proofs.lemmas.Option.{same_Some}
use Rattle.wb_base.specs.declared.symbol.Symbol.{Symbol}
use Rattle.wb_base.specs.declared.symbol.Symbol.TheVariants.{Nonterminal}
use Rattle.wb_base.specs.Grammar.{GrammarView}
use Rattle.wb_grammar_theory.specs.declared.item.Item.{Item}
use Rattle.wb_grammar_theory.specs.Productions.{end_of}
use Rattle.wb_grammar_theory.specs.Items.{IsValidItem, IsViablePrefix, HasItem, IsKernelItem, SameKernel, start_item, advance, initial_item}
use Rattle.wb_grammar_theory.specs.Items as valid
use Rattle.wb_grammar_theory.specs.Closure.{MovesTo}
use Rattle.wb_grammar_theory.specs.Lookaheads.{IsLookahead}
use Rattle.wb_grammar_theory.specs.Shape.{IsLive}
use Rattle.wb_grammar_theory.specs.States.{AreStates, Flows, IsNext}
use Rattle.wb_grammar_theory.specs.States as flows
use Rattle.wb_grammar_theory.proofs.KernelLemmas.{kernel_decides, snoc_parts, snoc_not_nil, moved_from, same_move}
use Rattle.wb_grammar_theory.proofs.FlowLemmas.{flows_exact, flows_has, flows_within, same_itself, same_then, same_back}
use Rattle.wb_recheck_theory.specs.declared.line.Line.{Line}
use Rattle.wb_recheck_theory.specs.declared.entry.Entry.{Entry}
use Rattle.wb_recheck_theory.specs.Lines.{kernel_count, IsItemAt, at_first, at_opened, at_moved, IsKernelItemAt, IsMoveOf, AreGoodLines}
use Rattle.wb_recheck_theory.specs.Lines.{AreMovesListed, prefix_at}
use Rattle.wb_recheck_theory.specs.Entries.{IsFollowed, opens, moves_on, IsListed, first_entry}
use Rattle.wb_recheck_theory.specs.Certificates.{IsCertificate}
use Rattle.wb_recheck_theory.proofs.PrefixLemmas.{prefix_first, prefix_step}
use Rattle.wb_recheck_theory.proofs.ClosureLemmas.{line_of, moved_dot, closure_there, closure_back}

module _ {g : GrammarView} (live : IsLive g) (lines : List Line) (good : AreGoodLines g lines) where
  prefix_next : (n : ℕ) (line : Line) → slice_get lines n ≡ Some line →
      prefix_at lines (suc n) ≡ prefix_at lines line.from ++ line.symbol ∷ []
  prefix_next n line at = prefix_step lines n line at (good n line at).from

  -- a kernel with the empty prefix is the first
  is_first : (k : ℕ) → k < kernel_count lines → prefix_at lines k ≡ [] → k ≡ 0
  is_first zero lt e = refl
  is_first (suc n) lt e =
      let (line, at) = line_of lines n lt in
      absurd (snoc_not_nil (prefix_at lines line.from) line.symbol (sym (prefix_next n line at) ∙ e))

  -- an item at a listed kernel is one of its prefix
  pub item_sound : {k : ℕ} {item : Item} → IsItemAt g lines k item → HasItem g (prefix_at lines k) item
  item_sound {k} {item} (at_first z is) = (
    end_of g,
    subst (λ i. IsValidItem g (prefix_at lines k) i (end_of g)) (sym is)
        (subst (λ p. IsValidItem g p (start_item g) (end_of g)) (sym (ap (prefix_at lines) z ∙ prefix_first lines)) valid.start),
  )
  item_sound {k} (at_opened item b rest q right i is rule new_is) =
      let (t, v) = item_sound i in
      let (u, f) = live item (Nonterminal b) rest is t in
      (u, subst (λ z. IsValidItem g (prefix_at lines k) z u) (sym new_is) (valid.close item t b rest q u right v is rule f))
  item_sound {k} (at_moved n line item rest at k_is i is new_is) =
      let (t, v) = item_sound i in
      (t, valid.move item line.symbol rest (prefix_at lines line.from) v is (ap (prefix_at lines) k_is ∙ prefix_next n line at) new_is)

  -- and each item of the prefix is at the kernel
  pub item_complete : {prefix : List Symbol} {item : Item} {t : ℕ} → IsValidItem g prefix item t → (k : ℕ) → k < kernel_count lines →
      prefix_at lines k ≡ prefix → IsItemAt g lines k item
  item_complete valid.start k lt e = at_first (is_first k lt e) refl
  item_complete (valid.close item t b rest q u right v is rule f) k lt e =
      at_opened item b rest q right (item_complete v k lt e) is rule refl
  item_complete (valid.move item x rest shorter v is longer_is moved_is) zero lt e =
      absurd (snoc_not_nil shorter x (sym longer_is ∙ (sym e ∙ prefix_first lines)))
  item_complete (valid.move item x rest shorter v is longer_is moved_is) (suc n) lt e =
      let (line, at) = line_of lines n lt in
      let p = snoc_parts (prefix_at lines line.from) shorter line.symbol x (sym (prefix_next n line at) ∙ (e ∙ longer_is)) in
      let from_lt : line.from < kernel_count lines = (let a = (good n line at).from in omega (arith, a, lt)) in
      at_moved n line item rest at refl (item_complete v line.from from_lt p.0) (is ∙ ap (λ z. z ∷ rest) (sym p.1)) moved_is

  -- so a kernel has the items of its prefix's kernel
  pub kernel_there : (k : ℕ) (item : Item) → IsKernelItemAt g lines k item → IsKernelItem g (prefix_at lines k) item
  kernel_there k item (i, inl ne) = (item_sound i, inl ne)
  kernel_there k item (i, inr (is, z)) = (item_sound i, inr (is, ap (prefix_at lines) z ∙ prefix_first lines))

  -- and no others
  pub kernel_back : (k : ℕ) → k < kernel_count lines → (item : Item) → IsKernelItem g (prefix_at lines k) item →
      IsKernelItemAt g lines k item
  kernel_back k lt item ((t, v), inl ne) = (item_complete v k lt refl, inl ne)
  kernel_back k lt item ((t, v), inr (is, empty)) = (item_complete v k lt refl, inr (is, is_first k lt empty))

  -- the move of a listed kernel is the kernel after one more symbol
  moved_there : (k : ℕ) (x : Symbol) (item : Item) → MovesTo g (IsKernelItemAt g lines k) x item →
      IsKernelItem g (prefix_at lines k ++ x ∷ []) item
  moved_there k x item m =
      let (t, v) = item_sound (closure_back m.within) in
      ((t, valid.move m.item x m.rest (prefix_at lines k) v m.before_dot refl m.is), inl (moved_dot m.item item m.is))

  moved_back : (k : ℕ) (x : Symbol) → k < kernel_count lines → (item : Item) → IsKernelItem g (prefix_at lines k ++ x ∷ []) item →
      MovesTo g (IsKernelItemAt g lines k) x item
  moved_back k x lt item ((t, v), inl ne) =
      let m = moved_from v ne (prefix_at lines k) x refl in
      record {
        item = m.item;
        rest = m.rest;
        within = closure_there (item_complete m.valid k lt refl);
        before_dot = m.before_dot;
        is = m.is;
      }
  moved_back k x lt item (has, inr (is, empty)) = absurd (snoc_not_nil (prefix_at lines k) x empty)

  -- so a move is where the symbol leads
  pub move_there : (k : ℕ) (x : Symbol) (m : ℕ) → k < kernel_count lines → m < kernel_count lines → IsMoveOf g lines k x m →
      SameKernel g (prefix_at lines m) (prefix_at lines k ++ x ∷ [])
  move_there k x m lt lt' h item = (
    λ i. moved_there k x item ((h item).0 (kernel_back m lt' item i)),
    λ i. kernel_there m item ((h item).1 (moved_back k x lt item i)),
  )

  -- and where the symbol leads is the move
  pub move_back : (k : ℕ) (x : Symbol) (m : ℕ) → k < kernel_count lines → m < kernel_count lines →
      SameKernel g (prefix_at lines m) (prefix_at lines k ++ x ∷ []) → IsMoveOf g lines k x m
  move_back k x m lt lt' h item = (
    λ i. moved_back k x lt item ((h item).0 (kernel_there m item i)),
    λ i. kernel_back m lt' item ((h item).1 (moved_there k x item i)),
  )

  -- each listed kernel is that of a prefix
  pub at_prefix : (k : ℕ) → k < kernel_count lines → IsViablePrefix g (prefix_at lines k)
  at_prefix zero lt =
      (start_item g, end_of g, subst (λ p. IsValidItem g p (start_item g) (end_of g)) (sym (prefix_first lines)) valid.start)
  at_prefix (suc n) lt =
      let (line, at) = line_of lines n lt in
      let (item, rest, i, is) = (good n line at).moves in
      let (t, v) = item_sound i in
      (advance item, t, valid.move item line.symbol rest (prefix_at lines line.from) v is (prefix_next n line at) refl)

  -- an earlier kernel is another
  earlier : (s other : ℕ) → s < other → other < kernel_count lines → SameKernel g (prefix_at lines s) (prefix_at lines other) → ⊥
  earlier s zero less lt same = absurd (omega (arith, less))
  earlier s (suc n) less lt same =
      let (line, at) = line_of lines n lt in
      let from_lt : line.from < kernel_count lines = (let a = (good n line at).from in omega (arith, a, lt)) in
      (good n line at).new s less
      (move_back line.from line.symbol s from_lt (omega (arith, less, lt))
      (subst (λ z. SameKernel g (prefix_at lines s) z) (prefix_next n line at) same))

  -- so each kernel is listed once
  pub once : (s other : ℕ) → s < kernel_count lines → other < kernel_count lines →
      SameKernel g (prefix_at lines s) (prefix_at lines other) → s ≡ other
  once s other lt lt' same = elim (cases_lt s other) [
    | inl less ↦ absurd (earlier s other less lt' same)
    | inr more ↦ elim (cases_lt other s) [
      | inl less ↦ absurd (earlier other s less lt (same_back same))
      | inr more' ↦ (let e : s ≡ other = omega (arith, more, more') in e)
    ]
  ]

  module _ (listed : AreMovesListed g lines) where
    -- each prefix has its kernel in the list
    pub all_listed : {prefix : List Symbol} {item : Item} {t : ℕ} → IsValidItem g prefix item t →
        (s : ℕ) × (s < kernel_count lines) × SameKernel g (prefix_at lines s) prefix
    all_listed valid.start =
        (0, omega arith, subst (λ z. SameKernel g (prefix_at lines 0) z) (prefix_first lines) (same_itself g (prefix_at lines 0)))
    all_listed (valid.close item t b rest q u right v is rule f) = all_listed v
    all_listed (valid.move item x rest shorter {longer = longer} v is longer_is moved_is) =
        let (s, lt, same) = all_listed v in
        let (u, w) = kernel_decides live v (prefix_at lines s) (same_back same) in
        let (m, lt', is_move) = listed s x lt (item, rest, item_complete w s lt refl, is) in
        let stepped = same_then (move_there s x m lt lt' is_move) (same_move live (prefix_at lines s) shorter x same) in
        (m, lt', subst (λ z. SameKernel g (prefix_at lines m) z) (sym longer_is) stepped)

    -- the lines are the kernels by numbers
    pub are_states : AreStates g (kernel_count lines) (prefix_at lines) (IsNext g (kernel_count lines) (prefix_at lines))
    are_states = record {
      first = prefix_first lines;
      prefixes = at_prefix;
      each_once = once;
      all = λ prefix p. all_listed p.2;
      next = λ s x s'. (λ n. n, λ n. n);
    }

-- the entries are what flows
module _ {g : GrammarView} (live : IsLive g) (lines : List Line) (entries : List Entry) (c : IsCertificate g lines entries) where
  -- the kernels of a certificate are those by numbers
  pub states : AreStates g (kernel_count lines) (prefix_at lines) (IsNext g (kernel_count lines) (prefix_at lines))
  states = are_states live lines c.lines_good c.moves_listed

  -- what follows from what flows flows
  followed : (k : ℕ) (item : Item) (t k' : ℕ) (item' : Item) (t' : ℕ) → IsFollowed g lines k item t k' item' t' →
      Flows g (IsNext g (kernel_count lines) (prefix_at lines)) k item t →
      Flows g (IsNext g (kernel_count lines) (prefix_at lines)) k' item' t'
  followed k item t k' item' t' (opens b rest q right is rule f same is_item) flow =
      subst (λ z. Flows g (IsNext g (kernel_count lines) (prefix_at lines)) z item' t') (sym same)
      (subst (λ z. Flows g (IsNext g (kernel_count lines) (prefix_at lines)) k z t') (sym is_item)
      (flows.close item t b rest q t' right flow is rule f))
  followed k item t k' item' t' (moves_on x rest is lt is_move is_item same) flow =
      let (u, v) = flows_has (prefix_at lines) live states flow in
      let p : IsViablePrefix g (prefix_at lines k ++ x ∷ []) =
      (advance item, u, valid.move item x rest (prefix_at lines k) v is refl refl) in
      let within = flows_within (prefix_at lines) states flow in
      subst (λ z. Flows g (IsNext g (kernel_count lines) (prefix_at lines)) k' item' z) (sym same)
      (flows.move item x rest k flow is (within, lt, p, move_there live lines c.lines_good k x k' within lt is_move) is_item)

  -- each entry flows, by recursion on a bound of its place
  entry_sound : (bound n : ℕ) → n < bound → (e : Entry) → slice_get entries n ≡ Some e →
      Flows g (IsNext g (kernel_count lines) (prefix_at lines)) e.kernel e.item e.terminal
  entry_sound zero n lt e at = absurd (omega (arith, lt))
  entry_sound (suc bound) zero lt e at =
      let same : first_entry g ≡ e = same_Some (first_entry g) e (sym c.entry_first ∙ at) in
      subst (λ z. Flows g (IsNext g (kernel_count lines) (prefix_at lines)) z.kernel z.item z.terminal) same flows.start
  entry_sound (suc bound) (suc n) lt e at =
      let h = c.entries_good n e at in
      followed h.source.kernel h.source.item h.source.terminal e.kernel e.item e.terminal h.follows
      (entry_sound bound h.place (let a = h.earlier in omega (arith, a, lt)) h.source h.at)

  -- what is listed flows
  pub listed_sound : (k : ℕ) (item : Item) (t : ℕ) → IsListed entries k item t →
      Flows g (IsNext g (kernel_count lines) (prefix_at lines)) k item t
  listed_sound k item t (n, origin, at) =
      entry_sound (suc n) n (omega arith) (record { kernel = k; item = item; terminal = t; origin = origin }) at

  -- and what flows is listed
  pub listed_complete : {k : ℕ} {item : Item} {t : ℕ} → Flows g (IsNext g (kernel_count lines) (prefix_at lines)) k item t →
      IsListed entries k item t
  listed_complete flows.start = (0, None, c.entry_first)
  listed_complete {k} (flows.close item t b rest q u right f is rule fi) =
      c.entries_listed k item t (listed_complete f) k (initial_item q) u (opens b rest q right is rule fi refl refl)
  listed_complete (flows.move item x rest s {t} {s'} {moved = moved_item} f is (lt, lt', p, same) moved_is) =
      c.entries_listed s item t (listed_complete f) s' moved_item t
      (moves_on x rest is lt' (move_back live lines c.lines_good s x s' lt lt' same) moved_is refl)

  -- the entries are exactly the lookaheads
  pub entries_exact : (k : ℕ) (item : Item) (t : ℕ) →
      IsListed entries k item t ↔ ((k < kernel_count lines) × IsLookahead g (prefix_at lines k) item t)
  entries_exact k item t = (
    λ l.
        let f = listed_sound k item t l in
        let lt = flows_within (prefix_at lines) states f in
        (lt, (exact lt).0 f),
    λ (lt, l). listed_complete ((exact lt).1 l),
  )
    where
      exact : k < kernel_count lines →
          Flows g (IsNext g (kernel_count lines) (prefix_at lines)) k item t ↔ IsLookahead g (prefix_at lines k) item t
      exact lt =
          flows_exact g (kernel_count lines) (prefix_at lines) (IsNext g (kernel_count lines) (prefix_at lines)) live states k lt item t
