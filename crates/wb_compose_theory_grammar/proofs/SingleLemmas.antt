-- Grammars each of whose productions has one terminal of its own.
use Rattle.std.proofs.Common.{◌≡◌, ◌≢◌, ◌<◌, ◌+◌, ◌∙◌, ◌⊎◌, ◌∷◌, ◌++◌, [], ℕ, zero, suc, List, Some, drop, length, slice_get, refl}
use Rattle.std.proofs.Common.{sym, ap, subst, inl, inr, arith}
use Rattle.std.specs.Prelude.{All}
use Rattle.std.proofs.lemmas.List.Elements.{All-cons, All-nil}
use Rattle.std.proofs.lemmas.Option.{slice_get_within}
use Rattle.wb_lemmas.proofs.Elements.{all_from_places}
use Rattle.wb_base.specs.declared.symbol.Symbol.{Symbol}
use Rattle.wb_base.specs.declared.symbol.Symbol.TheVariants.{Terminal, Nonterminal}
use Rattle.wb_base.specs.Grammar.{GrammarView, IsGrammar, IsProductionBelow, IsSymbolBelow, Production}
use Rattle.wb_grammar_theory.specs.declared.item.Item.{Item}
use Rattle.wb_grammar_theory.specs.Cycles.{HasNoHiddenLeftRecursion, HasNoUnitCycle}
use Rattle.wb_grammar_theory.specs.Derives.{Derives, IsText, done, empty, expand, keep, next}
use Rattle.wb_grammar_theory.specs.Items.{HasItem, IsKernelItem, IsValidItem, SameKernel, after_dot, close, initial_item, move, start}
use Rattle.wb_grammar_theory.specs.Items.{start_item}
use Rattle.wb_grammar_theory.specs.Lookaheads.{HasNoConflict}
use Rattle.wb_grammar_theory.specs.Productions.{IsProduction, end_of, right_of, top_of}
use Rattle.wb_grammar_theory.specs.Shape.{IsReduced}
use Rattle.wb_grammar_theory.proofs.DerivesLemmas.{Derives-same}
use Rattle.wb_grammar_theory.proofs.DotLemmas.{after_initial, after_start}
use Rattle.wb_lemmas.proofs.Places.{nothing_at}
use Rattle.wb_compose_theory.proofs.RenamingLemmas.{InGrammar, at_rule, at_top, in_grammar}
use Rattle.wb_compose_theory_grammar.specs.Example.{single_grammar, single_productions}

-- what a production is
single_at : (first n p a : ℕ) (right : List Symbol) → slice_get (single_productions first n) p ≡ Some ((a, right)) →
    (a ≡ 0) × (right ≡ Terminal (first + p) ∷ [])
single_at first zero p a right at = absurd (nothing_at (a, right) p at)
single_at first (suc n) zero a right at =
    let same : (0, Terminal first ∷ []) ≡ (a, right) = cc in
    let is : first ≡ first + 0 = omega arith in
    (sym (ap (λ (z : Production). z.0) same), sym (ap (λ (z : Production). z.1) same) ∙ ap (λ z. Terminal z ∷ []) is)
single_at first (suc n) (suc p) a right at =
    let rest = single_at (suc first) n p a right at in
    let is : suc first + p ≡ first + suc p = omega arith in
    (rest.0, rest.1 ∙ ap (λ z. Terminal z ∷ []) is)

-- there are so many
single_len : (first n : ℕ) → length (single_productions first n) ≡ n
single_len first zero = refl
single_len first (suc n) = ap suc (single_len (suc first) n)

-- what begins with a terminal derives what begins with it
derives_terminal : {g : GrammarView} {a x : List Symbol} (t : ℕ) (rest : List Symbol) → Derives g a x → a ≡ Terminal t ∷ rest →
    (v : List Symbol) × (x ≡ Terminal t ∷ v)
derives_terminal t rest done e = cc
derives_terminal t rest (keep y {w} {v} r) e = (v, (let h : y ≡ Terminal t = cc in ap (λ z. z ∷ v) h))
derives_terminal t rest (expand p a right u v rule r s is) e = cc

module _ (m : ℕ) where
  -- the grammar
  abbrev pub G : GrammarView
  G = single_grammar (suc m)

  -- its productions
  pub rule_is : (p a : ℕ) (right : List Symbol) → IsProduction G p a right → (a ≡ 0) × (right ≡ Terminal p ∷ [])
  rule_is p a right rule =
      let k = single_at 0 (suc m) p a right rule in
      let is : 0 + p ≡ p = omega arith in
      (k.0, k.1 ∙ ap (λ z. Terminal z ∷ []) is)

  -- the number of `S' -> S`
  pub top_is : top_of G ≡ suc m
  top_is = single_len 0 (suc m)

  -- it is a grammar
  pub is_grammar : IsGrammar G
  is_grammar = record {
    start_below = omega arith;
    productions_below = all_from_places (IsProductionBelow (suc m) 1) (single_productions 0 (suc m)) (λ p rule at. below p rule at);
  }
    where
      below : (p : ℕ) (rule : Production) → slice_get (single_productions 0 (suc m)) p ≡ Some rule → IsProductionBelow (suc m) 1 rule
      below p rule at =
          let k = rule_is p rule.0 rule.1 at in
          let less = slice_get_within (single_productions 0 (suc m)) p rule at in
          let len = single_len 0 (suc m) in
          let zero_is = k.0 in
          let in_range : p < suc m = omega (arith, less, len) in
          record {
            left = omega (arith, zero_is);
            right = subst (All (IsSymbolBelow (suc m) 1)) (sym k.1)
                (All-cons (IsSymbolBelow (suc m) 1) (Terminal p) [] in_range (All-nil (IsSymbolBelow (suc m) 1)));
          }

  -- it is reduced
  pub reduced : IsReduced G
  reduced = record {
    reachable = λ a below. subst (λ z. (u v : List Symbol) × Derives G (Nonterminal 0 ∷ []) (u ++ Nonterminal z ∷ v)) (zero_is a below)
        ([], [], Derives-same G (Nonterminal 0 ∷ []));
    productive = λ a below. subst (λ z. (v : List Symbol) × Derives G (Nonterminal z ∷ []) v × IsText v) (zero_is a below) (
      Terminal 0 ∷ [],
      expand 0 0 (Terminal 0 ∷ []) (Terminal 0 ∷ []) [] refl (Derives-same G (Terminal 0 ∷ [])) done refl,
      next 0 empty,
    );
  }
    where
      zero_is : (a : ℕ) → a < 1 → 0 ≡ a
      zero_is a below = omega (arith, below)

  -- no nonterminal derives itself
  pub no_unit : HasNoUnitCycle G
  no_unit a (p, right, rule, d) =
      let t = derives_terminal p [] d ((rule_is p a right rule).1) in
      let f = t.1 in cc

  -- none is hidden left recursive
  pub no_hidden : HasNoHiddenLeftRecursion G
  no_hidden a (p, right, b, c, rule, d, ne, nothing) =
      let t = derives_terminal p [] d ((rule_is p a right rule).1) in go b ne nothing t.0 t.1
    where
      go : (b : List Symbol) → b ≢ [] → Derives G b [] → (v : List Symbol) → b ++ Nonterminal a ∷ c ≡ Terminal p ∷ v → ⊥
      go [] ne nothing v e = ne refl
      go (y ∷ b) ne nothing v e =
          let f : y ≡ Terminal p = cc in
          let t = derives_terminal p b nothing (ap (λ z. z ∷ b) f) in
          let g = t.1 in cc

  -- the production of a symbol
  abbrev pub number : Symbol → ℕ
  number (Terminal t) = t
  number (Nonterminal a) = top_of G

  -- the production has one symbol, and its number follows from it
  pub record Single (p : ℕ) : Type 0 where
    pub x : Symbol
    pub right : right_of G p ≡ x ∷ []
    pub is : p ≡ number x

  pub single_of : {p : ℕ} → InGrammar G p → Single p
  single_of {p} (at_top is) = record { x = Nonterminal 0; right = ap (right_of G) is ∙ after_start G; is = is }
  single_of {p} (at_rule a right rule) =
      record { x = Terminal p; right = after_initial G p a right rule ∙ (rule_is p a right rule).1; is = refl }

  -- each valid item's production is so
  pub single : {prefix : List Symbol} {i : Item} {t : ℕ} → IsValidItem G prefix i t → Single i.production
  single v = single_of (in_grammar v)

  -- where an item is valid
  pub data Where (prefix : List Symbol) (i : Item) (t : ℕ) : Type 0 where
    at_start : t ≡ end_of G → prefix ≡ [] → i.dot ≡ 0 → Where prefix i t
    after_one : (x : Symbol) → t ≡ end_of G → prefix ≡ x ∷ [] → i.production ≡ number x → i.dot ≡ 1 →
        right_of G i.production ≡ x ∷ [] → Where prefix i t

  -- nothing is after the one symbol
  over_one : (p d : ℕ) (x y : Symbol) (rest : List Symbol) → right_of G p ≡ x ∷ [] → d ≡ 1 → drop d (right_of G p) ≡ y ∷ rest → ⊥
  over_one p d x y rest e f g =
      let h : drop 1 (x ∷ []) ≡ y ∷ rest = ap (drop 1) (sym e) ∙ (ap (λ z. drop z (right_of G p)) (sym f) ∙ g) in
      let k : [] ≡ y ∷ rest = h in cc

  -- the one symbol
  head_one : (p d : ℕ) (x y : Symbol) (rest : List Symbol) → right_of G p ≡ x ∷ [] → d ≡ 0 → drop d (right_of G p) ≡ y ∷ rest →
      (x ≡ y) × (rest ≡ [])
  head_one p d x y rest e f g =
      let h : x ∷ [] ≡ y ∷ rest = sym e ∙ (ap (λ z. drop z (right_of G p)) (sym f) ∙ g) in ((cc), (cc))

  -- each valid item is there
  pub where_is : {prefix : List Symbol} {i : Item} {t : ℕ} → IsValidItem G prefix i t → Where prefix i t
  where_is start = at_start refl refl refl
  where_is (close item t b rest q u right {prefix} v is rule (x, d)) = go (where_is v)
    where
      s : Single item.production
      s = single v

      go : Where prefix item t → Where prefix (initial_item q) u
      go (at_start t_is prefix_is dot_is) =
          let h = head_one item.production item.dot s.x (Nonterminal b) rest s.right dot_is is in
          let r = h.1 in
          let e : rest ++ Terminal t ∷ [] ≡ Terminal t ∷ [] = ap (λ z. z ++ Terminal t ∷ []) r in
          let k = derives_terminal t [] d e in
          let f : u ≡ t = (let k1 = k.1 in cc) in
          at_start (f ∙ t_is) prefix_is refl
      go (after_one y t_is prefix_is p_is dot_is right_is) =
          absurd (over_one item.production item.dot s.x (Nonterminal b) rest s.right dot_is is)
  where_is (move item x rest prefix {t} {longer} {moved} v is longer_is moved_is) = go (where_is v)
    where
      s : Single item.production
      s = single v

      go : Where prefix item t → Where longer moved t
      go (at_start t_is prefix_is dot_is) =
          let h = head_one item.production item.dot s.x x rest s.right dot_is is in
          after_one x t_is (longer_is ∙ ap (λ z. z ++ x ∷ []) prefix_is) (ap (λ z. z.production) moved_is ∙ (s.is ∙ ap number h.0))
          (let f : moved.dot ≡ item.dot + 1 = ap (λ z. z.dot) moved_is in omega (arith, f, dot_is))
          (ap (λ z. right_of G z.production) moved_is ∙ (s.right ∙ ap (λ z. z ∷ []) h.0))
      go (after_one y t_is prefix_is p_is dot_is right_is) = absurd (over_one item.production item.dot s.x x rest s.right dot_is is)

  -- the end is the only lookahead
  pub ends : {prefix : List Symbol} {i : Item} {t : ℕ} → IsValidItem G prefix i t → t ≡ end_of G
  ends {prefix} {i} {t} v = go (where_is v)
    where
      go : Where prefix i t → t ≡ end_of G
      go (at_start e f g) = e
      go (after_one x e f g h r) = e

  -- a complete item is valid after its symbol alone
  record Complete (prefix : List Symbol) (i : Item) : Type 0 where
    x : Symbol
    prefix_is : prefix ≡ x ∷ []
    number_is : i.production ≡ number x
    dot_is : i.dot ≡ 1

  -- each complete item is
  complete : {prefix : List Symbol} {i : Item} {t : ℕ} → IsValidItem G prefix i t → after_dot G i ≡ [] → Complete prefix i
  complete {prefix} {i} {t} v over = go (where_is v)
    where
      s : Single i.production
      s = single v

      go : Where prefix i t → Complete prefix i
      go (at_start e f g) =
          let h : s.x ∷ [] ≡ [] = sym s.right ∙ (ap (λ z. drop z (right_of G i.production)) (sym g) ∙ over) in cc
      go (after_one x e f g h r) = record { x = x; prefix_is = f; number_is = g; dot_is = h }

  -- an item after a symbol
  same_number : (x : Symbol) (prefix : List Symbol) (i : Item) → prefix ≡ x ∷ [] → HasItem G prefix i →
      (i.production ≡ number x) ⊎ (i.dot ≡ 0)
  same_number x prefix i e (t, v) = go (where_is v)
    where
      go : Where prefix i t → (i.production ≡ number x) ⊎ (i.dot ≡ 0)
      go (at_start a b c) = inr c
      go (after_one y a b c d r) = let f : y ∷ [] ≡ x ∷ [] = sym b ∙ e in let g : y ≡ x = cc in inl (c ∙ ap number g)

  -- a shift and a reduction at one prefix can't be
  no_shift_reduce : (prefix : List Symbol) (t : ℕ) (i : Item) (rest : List Symbol) {u : ℕ} → IsValidItem G prefix i u →
      after_dot G i ≡ Terminal t ∷ rest → (j : Item) → after_dot G j ≡ [] → (other : List Symbol) → SameKernel G prefix other →
      {s : ℕ} → IsValidItem G other j s → ⊥
  no_shift_reduce prefix t i rest {u} v is j over other same v' = go (where_is v)
    where
      s : Single i.production
      s = single v

      c : Complete other j
      c = complete v' over

      go : Where prefix i u → ⊥
      go (at_start a b d) =
          let k : IsKernelItem G prefix (start_item G) =
          subst (λ z. IsKernelItem G z (start_item G)) (sym b) ((end_of G, start), inr (refl, refl)) in
          let (has, why) = (same (start_item G)).0 k in
          elim why [
            | inl ne ↦ ne refl
            | inr e ↦ (let f : c.x ∷ [] ≡ [] = sym c.prefix_is ∙ e.1 in cc)
          ]
      go (after_one x a b d e r) = over_one i.production i.dot s.x (Terminal t) rest s.right e is

  -- there is no conflict
  pub no_conflict : HasNoConflict G
  no_conflict prefix t (inl (p, can, red)) =
      let (u, v) = can.has in
      let (other, same, v') = red.lookahead in
      no_shift_reduce prefix t can.item can.rest v can.before_dot red.item red.complete other same v'
  no_conflict prefix t (inr (p, q, ne, one, two)) =
      let (other, same, v) = one.lookahead in
      let (other', same', v') = two.lookahead in
      let c = complete v one.complete in
      let d = complete v' two.complete in
      let dot : one.item.dot ≢ 0 =
      λ e. (let f : one.item.dot ≡ 1 = c.dot_is in let g : 0 ≡ 1 = sym e ∙ f in omega (arith, g)) in
      let k = (same' one.item).0 ((same one.item).1 ((t, v), inl dot)) in
      elim (same_number d.x other' one.item d.prefix_is k.0) [
        | inl e ↦ ne (sym one.production ∙ (e ∙ (sym d.number_is ∙ two.production)))
        | inr e ↦ dot e
      ]

  -- the kernel after a symbol that can be is the one item of its production
  pub kernel_there : (x : Symbol) (j : Item) → IsKernelItem G (x ∷ []) j → (j.production ≡ number x) × (j.dot ≡ 1)
  kernel_there x j ((t, v), why) = go (where_is v)
    where
      go : Where (x ∷ []) j t → (j.production ≡ number x) × (j.dot ≡ 1)
      go (at_start a b c) = cc
      go (after_one y a b c d r) = let f : x ≡ y = cc in (c ∙ ap number (sym f), d)

  -- the item after a symbol is valid
  item_at : (p : ℕ) → InGrammar G p → (x : Symbol) → right_of G p ≡ x ∷ [] → (j : Item) → j.production ≡ p → j.dot ≡ 1 →
      IsValidItem G (x ∷ []) j (end_of G)
  item_at p (at_top is) x right j j_is dot_is =
      move (initial_item (top_of G)) x [] [] start (ap (right_of G) (sym is) ∙ right) refl
      (λ k. record { production = (j_is ∙ is) k; dot = dot_is k })
  item_at p (at_rule a side rule) x right j j_is dot_is =
      move (initial_item p) x [] []
      (close (start_item G) (end_of G) 0 [] p (end_of G) side start (after_start G)
      (subst (λ z. IsProduction G p z side) (rule_is p a side rule).0 rule) ([], Derives-same G (Terminal (end_of G) ∷ []))) right refl
      (λ k. record { production = j_is k; dot = dot_is k })

  -- so it is the kernel
  pub kernel_back : {p : ℕ} → InGrammar G p → (x : Symbol) → right_of G p ≡ x ∷ [] → (j : Item) → j.production ≡ p → j.dot ≡ 1 →
      IsKernelItem G (x ∷ []) j
  kernel_back {p} within x right j j_is dot_is = (
    (end_of G, item_at p within x right j j_is dot_is),
    inl (λ e. (let f : 0 ≡ 1 = sym e ∙ dot_is in omega (arith, f))),
  )
