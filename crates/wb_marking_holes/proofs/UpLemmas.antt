-- The items and derivations of a grammar, with holes: they stay, but for the numbers of `S' -> S` and of the end of a text.
use Rattle.std.proofs.Common.{◌≡◌, ◌≢◌, ◌+◌, ◌-◌, ◌<◌, ◌≤◌, ◌∙◌, ◌⊎◌, ℕ, zero, suc, List, [], ◌∷◌, ◌++◌, All, drop, length, length-append}
use Rattle.std.proofs.Common.{refl, sym, ap, subst, inl, inr, arith}
use Rattle.std.specs.Prelude.{map}
use Rattle.std.proofs.lemmas.Bool.{cases_lt}
use Rattle.std.proofs.lemmas.List.{drop-map, map-append}
use Rattle.std.proofs.lemmas.List.Elements.{All-head, All-tail, All-cons, All-nil}
use Rattle.std.proofs.lemmas.Option.{slice_get_within}
use Rattle.wb_lemmas.proofs.Elements.{all_left, all_right}
use Rattle.wb_lemmas.proofs.Places.{at_within, append_before}
use Rattle.wb_grammar_theory.specs.Shape.{IsLive}
use Rattle.wb_base.specs.declared.symbol.Symbol.{Symbol}
use Rattle.wb_base.specs.declared.symbol.Symbol.TheVariants.{Terminal, Nonterminal}
use Rattle.wb_base.specs.Grammar.{GrammarView, IsGrammar, IsSymbolBelow, Production}
use Rattle.wb_grammar_theory.specs.declared.item.Item.{Item}
use Rattle.wb_grammar_theory.specs.Productions.{IsProduction, right_in, right_of, top_of, end_of}
use Rattle.wb_grammar_theory.specs.Derives.{Derives, done, keep, expand, IsFirst}
use Rattle.wb_grammar_theory.specs.Items.{IsValidItem, start, close, move, after_dot, advance, initial_item, start_item, HasItem}
use Rattle.wb_grammar_theory.specs.Items.{IsViablePrefix, IsKernelItem, SameKernel}
use Rattle.wb_grammar_theory.specs.Lookaheads.{IsLookahead, CanShift, CanReduce, HasNoConflict, IsValidTerminal}
use Rattle.wb_grammar_theory.proofs.DotLemmas.{after_initial}
use Rattle.wb_grammar_theory.proofs.ProductionLemmas.{production_below}
use Rattle.wb_marking_holes.specs.Holes.{hole_productions, with_holes_of}
use Rattle.wb_marking_holes.proofs.LiftLemmas.{lifted_production}
use Rattle.wb_marking_holes.proofs.ShiftLemmas.{shift, shift_below, shift_past, shift_once}

-- there are as many productions of holes as extensible nonterminals
pub holes_len : (next : ℕ) (xs : List ℕ) → length (hole_productions next xs) ≡ length xs
holes_len next [] = refl
holes_len next (x ∷ xs) = ap suc (holes_len (suc next) xs)

-- right sides from a place on
right_past : (rules : List Production) (s j : ℕ) → right_in rules s (length rules + j) ≡ right_in [] s j
right_past [] s j = ap (λ (q : ℕ). right_in [] s q) (let e : 0 + j ≡ j = omega arith in e)
right_past (r ∷ rules) s j =
    ap (λ (q : ℕ). right_in (r ∷ rules) s q) (let e : suc (length rules) + j ≡ suc (length rules + j) = omega arith in e) ∙ right_past rules s j

-- right sides of the first of two lists
right_before : (rules more : List Production) (s p : ℕ) → p < length rules → right_in (rules ++ more) s p ≡ right_in rules s p
right_before [] more s p below = absurd (omega (arith, below))
right_before (r ∷ rules) more s zero below = refl
right_before (r ∷ rules) more s (suc p) below = right_before rules more s p (omega (arith, below))

-- what is left of a list has what all of it has
all_dropped : {X : Type 0} (P : X → Type 0) (n : ℕ) (xs : List X) → All P xs → All P (drop n xs)
all_dropped P zero xs all = all
all_dropped P (suc n) [] all = all
all_dropped P (suc n) (x ∷ xs) all = all_dropped P n xs (All-tail P x xs all)

module _ (g : GrammarView) (extensible : List ℕ) where
  -- the grammar with holes
  abbrev pub plus : GrammarView
  plus = with_holes_of g extensible

  -- the number of a terminal or of the end
  abbrev pub up : ℕ → ℕ
  up t = shift g.terminals (length extensible) t

  -- the number of a production or of `S' -> S`
  abbrev pub up_production : ℕ → ℕ
  up_production p = shift (length g.productions) (length extensible) p

  abbrev pub up_item : Item → Item
  up_item item = record { production = up_production item.production; dot = item.dot }

  abbrev pub up_symbol : Symbol → Symbol
  up_symbol (Terminal t) = Terminal (up t)
  up_symbol (Nonterminal a) = Nonterminal a

  -- the number of `S' -> S` with holes
  pub up_top : up_production (top_of g) ≡ top_of plus
  up_top =
      let past = shift_past (length g.productions) (length extensible) (length g.productions) (omega arith) in
      let len = length-append g.productions (hole_productions g.terminals extensible) in
      let holes = holes_len g.terminals extensible in
      omega (arith, past, len, holes)

  -- the number of the end with holes
  pub up_end : up (end_of g) ≡ end_of plus
  up_end = shift_past g.terminals (length extensible) g.terminals (omega arith)

  -- right sides stay
  pub up_right : (p : ℕ) → right_of plus (up_production p) ≡ right_of g p
  up_right p = elim (cases_lt p (length g.productions)) [
    | inl below ↦
        ap (λ (q : ℕ). right_of plus q) (shift_below (length g.productions) (length extensible) p below)
        ∙ right_before g.productions (hole_productions g.terminals extensible) g.start p below
    | inr past ↦ late past
  ]
    where
      late : length g.productions ≤ p → right_of plus (up_production p) ≡ right_of g p
      late past =
          let j = p - length g.productions in
          let moved = shift_past (length g.productions) (length extensible) p past in
          let len = length-append g.productions (hole_productions g.terminals extensible) in
          let holes = holes_len g.terminals extensible in
          let there : up_production p ≡ length plus.productions + j = omega (arith, past, moved, len, holes) in
          let here : length g.productions + j ≡ p = omega (arith, past) in
          ap (λ (q : ℕ). right_of plus q) there ∙ right_past plus.productions g.start j
          ∙ sym (right_past g.productions g.start j) ∙ ap (λ (q : ℕ). right_of g q) here

  -- what is after a dot stays
  pub up_after : (item : Item) → after_dot plus (up_item item) ≡ after_dot g item
  up_after item = ap (λ (xs : List Symbol). drop item.dot xs) (up_right item.production)

  module _ (in_range : IsGrammar g) where
    -- symbols of the grammar stay
    up_below : (xs : List Symbol) → All (IsSymbolBelow g.terminals g.nonterminals) xs → map up_symbol xs ≡ xs
    up_below [] all = refl
    up_below (Terminal t ∷ xs) all =
        let below : t < g.terminals = All-head (IsSymbolBelow g.terminals g.nonterminals) (Terminal t) xs all in
        ap (λ (k : ℕ). Terminal k ∷ map up_symbol xs) (shift_below g.terminals (length extensible) t below)
        ∙ ap (λ (ys : List Symbol). Terminal t ∷ ys) (up_below xs (All-tail (IsSymbolBelow g.terminals g.nonterminals) (Terminal t) xs all))
    up_below (Nonterminal a ∷ xs) all =
        ap (λ (ys : List Symbol). Nonterminal a ∷ ys) (up_below xs (All-tail (IsSymbolBelow g.terminals g.nonterminals) (Nonterminal a) xs all))

    up_right_side : (p a : ℕ) (right : List Symbol) → IsProduction g p a right → map up_symbol right ≡ right
    up_right_side p a right is = up_below right (production_below g p a right in_range is).right

    -- so does every right side, that of `S' -> S` too
    up_right_of : (p : ℕ) → map up_symbol (right_of g p) ≡ right_of g p
    up_right_of p = elim (cases_lt p (length g.productions)) [ inl below ↦ early below | inr past ↦ late past ]
      where
        early : p < length g.productions → map up_symbol (right_of g p) ≡ right_of g p
        early below =
            let ((a, right), at) = at_within g.productions p below in
            let is : right_of g p ≡ right = after_initial g p a right at in
            ap (λ (xs : List Symbol). map up_symbol xs) is ∙ up_right_side p a right at ∙ sym is

        top : (j : ℕ) → map up_symbol (right_in [] g.start j) ≡ right_in [] g.start j
        top zero = refl
        top (suc j) = refl

        late : length g.productions ≤ p → map up_symbol (right_of g p) ≡ right_of g p
        late past =
            let j = p - length g.productions in
            let here : p ≡ length g.productions + j = omega (arith, past) in
            let is : right_of g p ≡ right_in [] g.start j =
            ap (λ (q : ℕ). right_of g q) here ∙ right_past g.productions g.start j in
            ap (λ (xs : List Symbol). map up_symbol xs) is ∙ top j ∙ sym is

    -- and what is after a dot
    up_rest : (item : Item) (x : Symbol) (rest : List Symbol) → after_dot g item ≡ x ∷ rest → map up_symbol (x ∷ rest) ≡ x ∷ rest
    up_rest item x rest is =
        ap (λ (xs : List Symbol). map up_symbol xs) (sym is) ∙ sym (drop-map up_symbol item.dot (right_of g item.production))
        ∙ ap (λ (xs : List Symbol). drop item.dot xs) (up_right_of item.production) ∙ is

    -- a symbol after a dot is the grammar's
    symbol_below : (item : Item) (x : Symbol) (rest : List Symbol) → after_dot g item ≡ x ∷ rest
        → IsSymbolBelow g.terminals g.nonterminals x
    symbol_below item x rest is = elim (cases_lt item.production (length g.productions)) [
      | inl below ↦
          let ((a, right), at) = at_within g.productions item.production below in
          let whole : right_of g item.production ≡ right = after_initial g item.production a right at in
          let all : All (IsSymbolBelow g.terminals g.nonterminals) (right_of g item.production) =
          subst (All (IsSymbolBelow g.terminals g.nonterminals)) (sym whole) (production_below g item.production a right in_range at).right in
          All-head (IsSymbolBelow g.terminals g.nonterminals) x rest
          (subst (All (IsSymbolBelow g.terminals g.nonterminals)) is
          (all_dropped (IsSymbolBelow g.terminals g.nonterminals) item.dot (right_of g item.production) all))
      | inr past ↦ of_start past
    ]
      where
        of_start : length g.productions ≤ item.production → IsSymbolBelow g.terminals g.nonterminals x
        of_start past =
            let j = item.production - length g.productions in
            let here : item.production ≡ length g.productions + j = omega (arith, past) in
            let whole : right_of g item.production ≡ right_in [] g.start j =
            ap (λ (q : ℕ). right_of g q) here ∙ right_past g.productions g.start j in
            let all : All (IsSymbolBelow g.terminals g.nonterminals) (right_of g item.production) =
            subst (All (IsSymbolBelow g.terminals g.nonterminals)) (sym whole) (top j) in
            All-head (IsSymbolBelow g.terminals g.nonterminals) x rest
            (subst (All (IsSymbolBelow g.terminals g.nonterminals)) is
            (all_dropped (IsSymbolBelow g.terminals g.nonterminals) item.dot (right_of g item.production) all))
          where
            top : (j : ℕ) → All (IsSymbolBelow g.terminals g.nonterminals) (right_in [] g.start j)
            top zero = All-cons (IsSymbolBelow g.terminals g.nonterminals) (Nonterminal g.start) [] in_range.start_below
                (All-nil (IsSymbolBelow g.terminals g.nonterminals))
            top (suc j) = All-nil (IsSymbolBelow g.terminals g.nonterminals)

    -- a derivation
    up_derives : {w v : List Symbol} → Derives g w v → Derives plus (map up_symbol w) (map up_symbol v)
    up_derives done = done
    up_derives (keep x rest) = keep (up_symbol x) (up_derives rest)
    up_derives (expand p a right u v rule within rest whole) =
        expand p a right (map up_symbol u) (map up_symbol v) (lifted_production g extensible p a right rule)
        (subst (λ (z : List Symbol). Derives plus z (map up_symbol u)) (up_right_side p a right rule) (up_derives within)) (up_derives rest)
        (ap (λ (xs : List Symbol). map up_symbol xs) whole ∙ map-append up_symbol u v)

    -- what begins what is after a dot
    up_first : (item : Item) (x : Symbol) (rest : List Symbol) (t u : ℕ) → after_dot g item ≡ x ∷ rest
        → IsFirst g (rest ++ Terminal t ∷ []) u → IsFirst plus (rest ++ Terminal (up t) ∷ []) (up u)
    up_first item x rest t u is (v, derives) =
        let stays : map up_symbol rest ≡ rest = ap (λ (xs : List Symbol). drop 1 xs) (up_rest item x rest is) in (
          map up_symbol v,
          subst (λ (z : List Symbol). Derives plus z (Terminal (up u) ∷ map up_symbol v))
              (map-append up_symbol rest (Terminal t ∷ []) ∙ ap (λ (z : List Symbol). z ++ Terminal (up t) ∷ []) stays) (up_derives derives),
        )

    -- a valid item
    pub up_valid : {prefix : List Symbol} {item : Item} {t : ℕ} → IsValidItem g prefix item t
        → IsValidItem plus prefix (up_item item) (up t)
    up_valid start =
        subst (λ (p : ℕ). IsValidItem plus [] (initial_item p) (up (end_of g))) (sym up_top)
        (subst (λ (t : ℕ). IsValidItem plus [] (start_item plus) t) (sym up_end) start)
    up_valid {prefix = prefix} (close item t b rest q u right valid before rule first) =
        subst (λ (p : ℕ). IsValidItem plus prefix (initial_item p) (up u))
        (sym (shift_below (length g.productions) (length extensible) q (slice_get_within g.productions q (b, right) rule)))
        (close (up_item item) (up t) b rest q (up u) right (up_valid valid) (up_after item ∙ before)
        (lifted_production g extensible q b right rule) (up_first item (Nonterminal b) rest t u before first))
    up_valid (move item x rest prefix valid before longer moved) =
        move (up_item item) x rest prefix (up_valid valid) (up_after item ∙ before) longer (ap up_item moved)

    -- an initial item of a hole's production
    pub record IsHoleItem (item : Item) : Type 0 where
      pub initial : item.dot ≡ 0
      pub from : length g.productions ≤ item.production
      pub to : item.production < length g.productions + length extensible

    -- an item that the prefix has without holes
    pub record IsHostItem (prefix : List Symbol) (moved : Item) : Type 0 where
      pub item : Item
      pub is : moved ≡ up_item item
      pub has : HasItem g prefix item

    -- the right side of a hole's production
    hole_right : (next : ℕ) (xs : List ℕ) (s j : ℕ) → j < length xs → right_in (hole_productions next xs) s j ≡ Terminal (next + j) ∷ []
    hole_right next [] s j below = absurd (omega (arith, below))
    hole_right next (x ∷ xs) s zero below = ap (λ (k : ℕ). Terminal k ∷ []) (let e : next ≡ next + 0 = omega arith in e)
    hole_right next (x ∷ xs) s (suc j) below =
        hole_right (suc next) xs s j (omega (arith, below)) ∙ ap (λ (k : ℕ). Terminal k ∷ []) (let e : suc next + j ≡ next + suc j = omega arith in e)

    right_after : (rules more : List Production) (s j : ℕ) → right_in (rules ++ more) s (length rules + j) ≡ right_in more s j
    right_after [] more s j = ap (λ (q : ℕ). right_in more s q) (let e : 0 + j ≡ j = omega arith in e)
    right_after (r ∷ rules) more s j =
        ap (λ (q : ℕ). right_in (r ∷ (rules ++ more)) s q) (let e : suc (length rules) + j ≡ suc (length rules + j) = omega arith in e)
        ∙ right_after rules more s j

    -- after its dot is a terminal that the grammar doesn't have
    hole_after : (item : Item) → IsHoleItem item → (k : ℕ) × (g.terminals ≤ k) × (after_dot plus item ≡ Terminal k ∷ [])
    hole_after item is =
        let j = item.production - length g.productions in
        let from = is.from in
        let to = is.to in
        let here : item.production ≡ length g.productions + j = omega (arith, from) in (
          g.terminals + j,
          omega arith,
          ap (λ (d : ℕ). drop d (right_of plus item.production)) is.initial
              ∙ ap (λ (q : ℕ). right_of plus q) here
              ∙ right_after g.productions (hole_productions g.terminals extensible) g.start j
              ∙ hole_right g.terminals extensible g.start j (omega (arith, from, to)),
        )

    -- a valid item of a prefix of the grammar is one without holes, or an initial item of a hole's production
    pub down_valid : IsLive g → {prefix : List Symbol} {moved : Item} {t : ℕ} → IsValidItem plus prefix moved t
        → All (IsSymbolBelow g.terminals g.nonterminals) prefix → IsHostItem prefix moved ⊎ IsHoleItem moved
    down_valid live start below =
        inl (record { item = start_item g; is = ap (λ (p : ℕ). initial_item p) (sym up_top); has = (end_of g, start) })
    down_valid live {prefix = prefix} (close item t b rest q u right valid before rule first) below =
        by_item (down_valid live valid below) (cases_lt q (length g.productions))
      where
        by_item : IsHostItem prefix item ⊎ IsHoleItem item → (q < length g.productions) ⊎ (length g.productions ≤ q)
            → IsHostItem prefix (initial_item q) ⊎ IsHoleItem (initial_item q)
        by_item (inr hole) any =
            let (k, past, is) = hole_after item hole in
            let bad : Terminal k ∷ [] ≡ Nonterminal b ∷ rest = sym is ∙ before in cc
        by_item (inl host) (inl early) =
            let (s, v) = host.has in
            let there : after_dot g host.item ≡ Nonterminal b ∷ rest =
            sym (up_after host.item) ∙ ap (λ (i : Item). after_dot plus i) (sym host.is) ∙ before in
            let own : IsProduction g q b right =
            sym (append_before g.productions (hole_productions g.terminals extensible) q early) ∙ rule in
            let (w, begins) = live host.item (Nonterminal b) rest there s in
            inl (record {
              item = initial_item q;
              is = ap (λ (p : ℕ). initial_item p) (sym (shift_below (length g.productions) (length extensible) q early));
              has = (w, close host.item s b rest q w right v there own begins);
            })
        by_item (inl host) (inr late) =
            let within = slice_get_within plus.productions q (b, right) rule in
            let len = length-append g.productions (hole_productions g.terminals extensible) in
            let holes = holes_len g.terminals extensible in
            inr (record { initial = refl; from = late; to = omega (arith, within, len, holes) })
    down_valid live {prefix = long} {moved = further} (move item x rest prefix valid before longer moved) below =
        by_item (down_valid live valid first)
      where
        whole : All (IsSymbolBelow g.terminals g.nonterminals) (prefix ++ x ∷ [])
        whole = subst (All (IsSymbolBelow g.terminals g.nonterminals)) longer below

        first : All (IsSymbolBelow g.terminals g.nonterminals) prefix
        first = all_left (IsSymbolBelow g.terminals g.nonterminals) prefix (x ∷ []) whole

        last : IsSymbolBelow g.terminals g.nonterminals x
        last = All-head (IsSymbolBelow g.terminals g.nonterminals) x [] (all_right (IsSymbolBelow g.terminals g.nonterminals) prefix (x ∷ []) whole)

        by_item : IsHostItem prefix item ⊎ IsHoleItem item → IsHostItem long further ⊎ IsHoleItem further
        by_item (inr hole) =
            let (k, past, is) = hole_after item hole in
            let same : Terminal k ≡ x = let bad : Terminal k ∷ [] ≡ x ∷ rest = sym is ∙ before in cc in
            let early : k < g.terminals = subst (IsSymbolBelow g.terminals g.nonterminals) (sym same) last in
            absurd (omega (arith, early, past))
        by_item (inl host) =
            let (s, v) = host.has in
            let there : after_dot g host.item ≡ x ∷ rest =
            sym (up_after host.item) ∙ ap (λ (i : Item). after_dot plus i) (sym host.is) ∙ before in
            inl (record { item = advance host.item; is = moved ∙ ap advance host.is; has = (s, move host.item x rest prefix v there longer refl) })

    -- the symbols of a prefix are the grammar's
    prefix_below : {prefix : List Symbol} {item : Item} {t : ℕ} → IsValidItem g prefix item t
        → All (IsSymbolBelow g.terminals g.nonterminals) prefix
    prefix_below start = All-nil (IsSymbolBelow g.terminals g.nonterminals)
    prefix_below (close item t b rest q u right valid before rule first) = prefix_below valid
    prefix_below (move item x rest prefix valid before longer moved) =
        subst (All (IsSymbolBelow g.terminals g.nonterminals)) (sym longer)
        (all_push prefix (prefix_below valid) x (symbol_below item x rest before))
      where
        all_push : (xs : List Symbol) → All (IsSymbolBelow g.terminals g.nonterminals) xs → (y : Symbol)
            → IsSymbolBelow g.terminals g.nonterminals y → All (IsSymbolBelow g.terminals g.nonterminals) (xs ++ y ∷ [])
        all_push [] all y last =
            All-cons (IsSymbolBelow g.terminals g.nonterminals) y [] last (All-nil (IsSymbolBelow g.terminals g.nonterminals))
        all_push (z ∷ xs) all y last =
            All-cons (IsSymbolBelow g.terminals g.nonterminals) z (xs ++ y ∷ [])
            (All-head (IsSymbolBelow g.terminals g.nonterminals) z xs all)
            (all_push xs (All-tail (IsSymbolBelow g.terminals g.nonterminals) z xs all) y last)

    -- prefixes of the grammar with one kernel have one with holes
    pub up_kernel : IsLive g → (prefix other : List Symbol) → IsViablePrefix g prefix → IsViablePrefix g other → SameKernel g prefix other
        → (moved : Item) → IsKernelItem plus prefix moved → IsKernelItem plus other moved
    up_kernel live prefix other (first, t, viable) (second, u, also) same moved ((s, valid), at) =
        by_item (down_valid live valid (prefix_below viable)) at
      where
        start_is : (host : IsHostItem prefix moved) → moved ≡ start_item plus → host.item ≡ start_item g
        start_is host is =
            let number : up_production host.item.production ≡ up_production (length g.productions) =
            sym (ap (λ (i : Item). i.production) host.is) ∙ ap (λ (i : Item). i.production) is ∙ sym up_top in
            let dot : host.item.dot ≡ 0 = sym (ap (λ (i : Item). i.dot) host.is) ∙ ap (λ (i : Item). i.dot) is in
            let production = shift_once (length g.productions) (length extensible) host.item.production (length g.productions) number in
            (λ k. record { production = production k; dot = dot k })

        kept : (host : IsHostItem prefix moved) → (host.item.dot ≢ 0) ⊎ ((host.item ≡ start_item g) × (prefix ≡ []))
            → IsKernelItem plus other moved
        kept host at =
            let ((w, there), where_at) = (same host.item).0 (host.has, at) in (
              (up w, subst (λ (i : Item). IsValidItem plus other i (up w)) (sym host.is) (up_valid there)),
              placed where_at,
            )
          where
            placed : (host.item.dot ≢ 0) ⊎ ((host.item ≡ start_item g) × (other ≡ [])) → (moved.dot ≢ 0) ⊎ ((moved ≡ start_item plus) × (other ≡ []))
            placed (inl far) = inl (λ zero_dot. far (sym (ap (λ (i : Item). i.dot) host.is) ∙ zero_dot))
            placed (inr (is, empty)) =
                inr (host.is ∙ ap up_item is ∙ ap (λ (p : ℕ). initial_item p) up_top, empty)

        by_item : IsHostItem prefix moved ⊎ IsHoleItem moved → (moved.dot ≢ 0) ⊎ ((moved ≡ start_item plus) × (prefix ≡ []))
            → IsKernelItem plus other moved
        by_item (inl host) (inl far) = kept host (inl (λ zero_dot. far (ap (λ (i : Item). i.dot) host.is ∙ zero_dot)))
        by_item (inl host) (inr (is, empty)) = kept host (inr (start_is host is, empty))
        by_item (inr hole) (inl far) = absurd (far hole.initial)
        by_item (inr hole) (inr (is, empty)) =
            let number : moved.production ≡ length plus.productions = ap (λ (i : Item). i.production) is in
            let len = length-append g.productions (hole_productions g.terminals extensible) in
            let holes = holes_len g.terminals extensible in
            let to = hole.to in
            absurd (omega (arith, number, len, holes, to))

    -- a lookahead
    pub up_lookahead : IsLive g → (prefix : List Symbol) (item : Item) (t : ℕ) → IsViablePrefix g prefix → IsLookahead g prefix item t
        → IsLookahead plus prefix (up_item item) (up t)
    up_lookahead live prefix item t viable (other, same, valid) = (
      other,
      (λ moved. (
        up_kernel live prefix other viable (item, t, valid) same moved,
        up_kernel live other prefix (item, t, valid) viable (λ i. ((same i).1, (same i).0)) moved,
      )),
      up_valid valid,
    )

    -- a shift, whose terminal is the grammar's
    pub up_shift : (prefix : List Symbol) (t : ℕ) → CanShift g prefix t → (t < g.terminals) × CanShift plus prefix t
    up_shift prefix t can =
        let (u, valid) = can.has in (
          symbol_below can.item (Terminal t) can.rest can.before_dot,
          record { item = up_item can.item; rest = can.rest; has = (up u, up_valid valid); before_dot = up_after can.item ∙ can.before_dot },
        )

    -- a reduction
    pub up_reduction : IsLive g → (prefix : List Symbol) (p t : ℕ) → CanReduce g prefix p t → CanReduce plus prefix (up_production p) (up t)
    up_reduction live prefix p t can =
        let (u, valid) = can.has in
        record {
          item = up_item can.item;
          production = ap up_production can.production;
          complete = up_after can.item ∙ can.complete;
          has = (up u, up_valid valid);
          lookahead = up_lookahead live prefix can.item t (can.item, u, valid) can.lookahead;
        }

    -- without a conflict with holes there is none without
    pub no_conflict_without : IsLive g → HasNoConflict plus → HasNoConflict g
    no_conflict_without live never prefix t (inl (p, can, red)) =
        let (below, shifts) = up_shift prefix t can in
        never prefix t (inl (
          up_production p,
          shifts,
          subst (λ (u : ℕ). CanReduce plus prefix (up_production p) u)
              (shift_below g.terminals (length extensible) t below) (up_reduction live prefix p t red),
        ))
    no_conflict_without live never prefix t (inr (p, q, differ, one, two)) =
        never prefix (up t) (inr (
          up_production p,
          up_production q,
          (λ same. differ (shift_once (length g.productions) (length extensible) p q same)),
          up_reduction live prefix p t one,
          up_reduction live prefix q t two,
        ))

    -- a terminal that is valid is so with holes
    pub up_valid_terminal : IsLive g → (prefix : List Symbol) (t : ℕ) → t < g.terminals → IsValidTerminal g prefix t → IsValidTerminal plus prefix t
    up_valid_terminal live prefix t below (inl can) = inl (up_shift prefix t can).1
    up_valid_terminal live prefix t below (inr (p, red)) =
        inr (
          up_production p,
          subst (λ (u : ℕ). CanReduce plus prefix (up_production p) u)
              (shift_below g.terminals (length extensible) t below) (up_reduction live prefix p t red),
        )

    -- and so is a prefix
    pub up_viable : (prefix : List Symbol) → IsViablePrefix g prefix → IsViablePrefix plus prefix
    up_viable prefix (item, t, valid) = (up_item item, up t, up_valid valid)
