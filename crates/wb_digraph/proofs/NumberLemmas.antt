-- The numbers of the items of kernels: each item has one, and those of one number belong together.
use Rattle.std.proofs.Common.{◌≡◌, ℕ, ◌+◌, ◌-◌, ◌<◌, ◌≤◌, ◌⊎◌, zero, suc, List, [], ◌∷◌, ◌++◌, length, drop, Some, refl, sym}
use Rattle.std.proofs.Common.{◌∙◌, ap, subst, inl, inr, arith, length-append}
use Rattle.std.specs.Prelude.{slice_get, slice_index, ◌↔◌}
use Rattle.std.proofs.lemmas.Bool.{cases_eq, cases_lt}
use Rattle.std.proofs.lemmas.Option.{slice_get_within, slice_get-get_or}
use Rattle.wb_lemmas.proofs.Places.{at_once, at_within, default_at, push_before, push_last}
use Rattle.wb_lemmas.proofs.Members.{contains_at, place_of}
use Rattle.wb_base.specs.declared.symbol.Symbol.{Symbol}
use Rattle.wb_base.specs.declared.symbol.Symbol.TheVariants.{Nonterminal}
use Rattle.wb_base.specs.Grammar.{GrammarView, IsGrammar}
use Rattle.wb_grammar_theory.specs.Derives.{Derives}
use Rattle.wb_grammar_theory.specs.declared.item.Item.{Item}
use Rattle.wb_grammar_theory.specs.Items.{HasItem, IsValidItem, after_dot, initial_item, start_item}
use Rattle.wb_grammar_theory.specs.Items as valid
use Rattle.wb_grammar_theory.specs.Productions.{IsProduction, top_of}
use Rattle.wb_grammar_theory.proofs.DotLemmas.{top_no_production}
use Rattle.wb_grammar_theory.proofs.ProductionLemmas.{production_below, production_once, production_within}
use Rattle.wb_items.specs.Apart.{BelongTogether, Opens}
use Rattle.wb_items.specs.Kernels.{AreInOrder, AreKernels, KernelsView, Precedes, closure_of, count_of, prefix_of}
use Rattle.wb_items.specs.Table.{AreProductions}
use Rattle.wb_digraph.specs.Inner.Links.{IsNumbering}
use Rattle.wb_digraph.specs.Inner.Numbers.{AreBases, AreBasesUpTo, AreTailsUpTo, HasNumber, IsFirstOpened, StandsFor}

-- an item of the prefix has the nonterminal after its dot, where the prefix has an item that the nonterminal opens
pub record IsOpener (g : GrammarView) (prefix : List Symbol) (b : ℕ) : Type 0 where
  pub item : Item
  pub look : ℕ
  pub next : ℕ
  pub rest : List Symbol
  pub valid : IsValidItem g prefix item look
  pub before_dot : after_dot g item ≡ Nonterminal b ∷ rest
  pub opens : (q : ℕ) (right : List Symbol) → IsProduction g q b right → HasItem g prefix (initial_item q)

pub opener : {g : GrammarView} {prefix : List Symbol} {item : Item} {u : ℕ} → IsValidItem g prefix item u → (b : ℕ) → Opens g b item →
    IsOpener g prefix b
opener {g} valid.start b (dot, right, rule) = absurd (top_no_production g (top_of g) b right rule refl)
opener {g} {prefix} (valid.close item t c rest q u right v is rule f) b (dot, other, rule') =
    let same : c ≡ b = (production_once g q c b right other rule rule').0 in
    record {
      item = item;
      look = t;
      next = u;
      rest = rest;
      valid = v;
      before_dot = is ∙ ap (λ z. Nonterminal z ∷ rest) same;
      opens = λ p right' rule''. (u, valid.close item t c rest p u right' v is (subst (λ z. IsProduction g p z right') (sym same) rule'') f);
    }
opener (valid.move item x rest shorter v is longer_is moved_is) b (dot, right, rule) =
    absurd (let e = ap (λ (i : Item). i.dot) moved_is in omega (arith, e, dot))

-- whether a nonterminal opens the item
pub opens_cases : (g : GrammarView) (item : Item) → ((b : ℕ) × Opens g b item) ⊎ ((b : ℕ) → ¬ Opens g b item)
opens_cases g item = elim (cases_eq item.dot 0) [
  | inr ne ↦ inr (λ b (dot, _, _). ne dot)
  | inl dot ↦ elim (cases_lt item.production (length g.productions)) [
    | inl lt ↦ (let (rule, at) = at_within g.productions item.production lt in inl (rule.0, (dot, rule.1, at)))
    | inr past ↦ inr (λ b (_, right, rule). (let w = production_within g item.production b right rule in omega (arith, w, past)))
  ]
]

-- one nonterminal opens an item
pub opens_once : (g : GrammarView) (item : Item) (b c : ℕ) → Opens g b item → Opens g c item → b ≡ c
opens_once g item b c (_, one, rule) (_, other, rule') = (production_once g item.production b c one other rule rule').0

-- an item that a nonterminal opens is the initial item of its production
pub opened_is : (g : GrammarView) (item : Item) (b : ℕ) → Opens g b item → item ≡ initial_item item.production
opened_is g item b (dot, _, _) = λ j. record { production = item.production; dot = dot j }

module _ (g : GrammarView) (rows : List (List ℕ)) (ok : IsGrammar g) (p : AreProductions g rows) where
  -- the first item that a nonterminal opens
  pub first_opened : (b : ℕ) (item : Item) → Opens g b item → (one : Item) × IsFirstOpened rows b one
  first_opened b item (dot, right, rule) =
      let below = production_below g item.production b right ok rule in
      let (numbers, at) = at_within rows b (let e = p.len in let lt = below.left in omega (arith, e, lt)) in
      let has = (p.each b numbers at).complete item.production right rule in
      let (q, first) = at_within numbers 0 (let (k, lt, is) = has in omega (arith, lt)) in
      (initial_item q, (numbers, q, at, first, refl))

  -- is opened by it
  pub first_opens : (b : ℕ) (one : Item) → IsFirstOpened rows b one → Opens g b one
  first_opens b one (numbers, q, at, first, is) =
      let (right, rule) = (p.each b numbers at).sound q (contains_at numbers q 0 first) in
      subst (λ z. Opens g b z) (sym is) (refl, right, rule)

  first_once : (b : ℕ) (one other : Item) → IsFirstOpened rows b one → IsFirstOpened rows b other → one ≡ other
  first_once b one other (numbers, q, at, first, is) (numbers', q', at', first', is') =
      let same : numbers ≡ numbers' = at_once rows b numbers numbers' at at' in
      let number : q ≡ q' = at_once numbers' 0 q q' (subst (λ z. slice_get z 0 ≡ Some q) same first) first' in
      is ∙ ap initial_item number ∙ sym is'

  -- each item has one that stands for it
  pub stand_in : (item : Item) → (one : Item) × StandsFor g rows one item
  stand_in item = elim (opens_cases g item) [
    | inl (b, opens) ↦ (let (one, first) = first_opened b item opens in (one, inl (b, opens, first)))
    | inr never ↦ (item, inr (never, refl))
  ]

  -- and no other
  pub stands_once : (item one other : Item) → StandsFor g rows one item → StandsFor g rows other item → one ≡ other
  stands_once item one other (inl (b, opens, first)) (inl (c, opens', first')) =
      let same : b ≡ c = opens_once g item b c opens opens' in
      first_once c one other (subst (λ z. IsFirstOpened rows z one) same first) first'
  stands_once item one other (inl (b, opens, first)) (inr (never, is)) = absurd (never b opens)
  stands_once item one other (inr (never, is)) (inl (c, opens, first)) = absurd (never c opens)
  stands_once item one other (inr (never, is)) (inr (never', is')) = is ∙ sym is'

  -- items for which one stands belong together
  pub stands_together : (item other one : Item) → StandsFor g rows one item → StandsFor g rows one other → BelongTogether g item other
  stands_together item other one (inl (b, opens, first)) (inl (c, opens', first')) =
      let same : b ≡ c = opens_once g one b c (first_opens b one first) (first_opens c one first') in
      inr (c, subst (λ z. Opens g z item) same opens, opens')
  stands_together item other one (inl (b, opens, first)) (inr (never, is)) =
      absurd (never b (subst (λ z. Opens g b z) is (first_opens b one first)))
  stands_together item other one (inr (never, is)) (inl (c, opens, first)) =
      absurd (never c (subst (λ z. Opens g c z) is (first_opens c one first)))
  stands_together item other one (inr (never, is)) (inr (never', is')) = inl (sym is ∙ is')

-- the item that stands for one of a kernel's is there
pub stands_there : {kernels : KernelsView} → AreKernels kernels → (rows : List (List ℕ)) → IsGrammar kernels.grammar →
    AreProductions kernels.grammar rows → (s : ℕ) (one item : Item) → HasItem kernels.grammar (prefix_of kernels s) item →
    StandsFor kernels.grammar rows one item → HasItem kernels.grammar (prefix_of kernels s) one
stands_there {kernels} h rows ok p s one item (u, v) (inl (b, opens, first)) =
    let (dot, right, rule) = first_opens kernels.grammar rows ok p b one first in
    let is : one ≡ initial_item one.production = opened_is kernels.grammar one b (dot, right, rule) in
    subst (HasItem kernels.grammar (prefix_of kernels s)) (sym is) ((opener v b opens).opens one.production right rule)
stands_there {kernels} h rows ok p s one item has (inr (never, is)) = subst (HasItem kernels.grammar (prefix_of kernels s)) (sym is) has

-- the numbers of a later kernel's items come after those of an earlier one's
pub bases_rise : (kernels : KernelsView) (bases : List ℕ) → AreBases kernels bases → (s k : ℕ) → s < k → k ≤ count_of kernels →
    slice_index bases s + length (closure_of kernels s) ≤ slice_index bases k
bases_rise kernels bases h s zero lt le = absurd (omega (arith, lt))
bases_rise kernels bases h s (suc k) lt le = elim (cases_eq s k) [
  | inl same ↦
      let e = h.next k (omega (arith, le)) in
      let f : slice_index bases (k + 1) ≡ slice_index bases (suc k) = ap (slice_index bases) (omega arith) in
      let g : slice_index bases s + length (closure_of kernels s) ≡ slice_index bases k + length (closure_of kernels k) =
      ap (λ z. slice_index bases z + length (closure_of kernels z)) same in
      omega (arith, e, f, g)
  | inr ne ↦
      let before = bases_rise kernels bases h s k (omega (arith, lt, ne)) (omega (arith, le)) in
      let e = h.next k (omega (arith, le)) in
      let f : slice_index bases (k + 1) ≡ slice_index bases (suc k) = ap (slice_index bases) (omega arith) in
      omega (arith, before, e, f)
]

not_before : (item : Item) → Precedes item item → ⊥
not_before item (inl less) = omega arith
not_before item (inr less) = (let f = less.1 in omega (arith, f))

-- an item is at one place
pub place_once : (items : List Item) (item : Item) (i j : ℕ) → AreInOrder items → slice_get items i ≡ Some item →
    slice_get items j ≡ Some item → i ≡ j
place_once items item i j h at at' = elim (cases_eq i j) [
  | inl same ↦ same
  | inr other ↦ absurd (elim (cases_lt i j) [
    | inl less ↦ not_before item (h i j item item less at at')
    | inr more ↦ not_before item (h j i item item (omega (arith, more, other)) at' at)
  ])
]

-- a number is that of one place
pub number_place : (kernels : KernelsView) (bases : List ℕ) → AreBases kernels bases → (s k i j : ℕ) (one other : Item) → s < count_of kernels → k < count_of kernels →
    slice_get (closure_of kernels s) i ≡ Some one → slice_get (closure_of kernels k) j ≡ Some other →
    slice_index bases s + i ≡ slice_index bases k + j → (s ≡ k) × (one ≡ other)
number_place kernels bases b s k i j one other lt lt' at at' is = elim (cases_eq s k) [
  | inl same ↦
      let place : i ≡ j = (let e = ap (slice_index bases) same in omega (arith, e, is)) in (
        same,
        at_once (closure_of kernels k) j one other
            (subst (λ z. slice_get (closure_of kernels k) z ≡ Some one) place (subst (λ z. slice_get (closure_of kernels z) i ≡ Some one)
            same at)) at',
      )
  | inr ne ↦ absurd (elim (cases_lt s k) [
    | inl less ↦
        let w = slice_get_within (closure_of kernels s) i one at in
        let rise = bases_rise kernels bases b s k less (omega (arith, lt')) in
        omega (arith, w, rise, is)
    | inr more ↦
        let w = slice_get_within (closure_of kernels k) j other at' in
        let rise = bases_rise kernels bases b k s (omega (arith, more, ne)) (omega (arith, lt)) in
        omega (arith, w, rise, is)
  ])
]

module _ {kernels : KernelsView} (h : AreKernels kernels) (rows : List (List ℕ)) (bases : List ℕ) (ok : IsGrammar kernels.grammar)
    (p : AreProductions kernels.grammar rows) (b : AreBases kernels bases) where
  -- the numbers are a numbering
  pub numbering : IsNumbering kernels (HasNumber kernels rows bases)
  numbering = record {
    given = λ s item lt has.
        let (one, stands) = stand_in kernels.grammar rows ok p item in
        let (i, at) = place_of (closure_of kernels s) one
        ((h.closures s lt one).1 (stands_there h rows ok p s one item has stands)) in
        (slice_index bases s + i, record { within = lt; one = one; place = i; stands = stands; at = at; is = refl });
    apart = λ s k item other n m m'.
        let (same, one_is) = number_place kernels bases b s k m.place m'.place m.one m'.one m.within m'.within m.at m'.at (sym m.is ∙ m'.is) in (
          same,
          stands_together kernels.grammar rows ok p item other m'.one
              (subst (λ z. StandsFor kernels.grammar rows z item) one_is m.stands) m'.stands,
        );
  }

  -- an item has one number
  pub number_once : (s : ℕ) (item : Item) (m n : ℕ) → HasNumber kernels rows bases s item m → HasNumber kernels rows bases s item n → m ≡ n
  number_once s item m n one two =
      let same : one.one ≡ two.one = stands_once kernels.grammar rows ok p item one.one two.one one.stands two.stands in
      let place : one.place ≡ two.place =
      place_once (closure_of kernels s) two.one one.place two.place (h.in_order s)
      (subst (λ z. slice_get (closure_of kernels s) one.place ≡ Some z) same one.at) two.at in
      one.is ∙ ap (λ z. slice_index bases s + z) place ∙ sym two.is

  -- items that one nonterminal opens have one number
  pub number_together : (s c q r : ℕ) (right other : List Symbol) (m n : ℕ) → IsProduction kernels.grammar q c right →
      IsProduction kernels.grammar r c other → HasNumber kernels rows bases s (initial_item q) m →
      HasNumber kernels rows bases s (initial_item r) n → m ≡ n
  number_together s c q r right other m n rule rule' one two =
      number_once s (initial_item r) m n (record {
        within = one.within;
        one = one.one;
        place = one.place;
        stands = moved one.stands;
        at = one.at;
        is = one.is;
      }) two
    where
      moved : StandsFor kernels.grammar rows one.one (initial_item q) → StandsFor kernels.grammar rows one.one (initial_item r)
      moved (inl (d, opens, first)) =
          let same : d ≡ c = opens_once kernels.grammar (initial_item q) d c opens (refl, right, rule) in
          inl (d, subst (λ z. Opens kernels.grammar z (initial_item r)) (sym same) (refl, other, rule'), first)
      moved (inr (never, is)) = absurd (never c (refl, right, rule))

  -- each number is below the last base
  pub number_below : (s : ℕ) (item : Item) (n : ℕ) → HasNumber kernels rows bases s item n → n < slice_index bases (count_of kernels)
  number_below s item n m =
      let w = slice_get_within (closure_of kernels s) m.place m.one m.at in
      let rise = bases_rise kernels bases b s (count_of kernels) m.within (omega arith) in
      let is = m.is in
      omega (arith, w, rise, is)

-- the base of the next kernel, as numbers are read from it
pub number_read : (kernels : KernelsView) (bases : List ℕ) → AreBases kernels bases → (s place len next : ℕ) → s < count_of kernels →
    len ≡ length (closure_of kernels s) → place < len → next ≡ slice_index bases (s + 1) → next - (len - place) ≡ slice_index bases s + place
number_read kernels bases h s place len next lt len_is within is =
    let e = h.next s lt in omega (arith, e, len_is, within, is)

-- where the numbers of the first kernel's items begin
pub bases_start : (kernels : KernelsView) (bases : List ℕ) → bases ≡ 0 ∷ [] → AreBasesUpTo kernels 0 bases
bases_start kernels bases is = record { len = ap length is; first = ap (λ z. slice_index z 0) is; next = λ s lt. absurd (omega (arith, lt)) }

-- those of one kernel more
pub bases_more : (kernels : KernelsView) (s next : ℕ) (old new : List ℕ) → new ≡ old ++ next ∷ [] →
    next ≡ slice_index old s + length (closure_of kernels s) → AreBasesUpTo kernels s old → AreBasesUpTo kernels (s + 1) new
bases_more kernels s next old new is next_is h = record {
  len = ap length is ∙ length-append old (next ∷ []) ∙ ap (λ z. z + 1) h.len;
  first = kept 0 (let e = h.len in omega (arith, e)) ∙ h.first;
  next = λ k lt. elim (cases_eq k s) [
    | inl same ↦
        let e : slice_index new (k + 1) ≡ next =
        ap (slice_index new) (let f = h.len in let g : k + 1 ≡ length old = omega (arith, f, same) in g) ∙ last in
        e ∙ next_is ∙ ap (λ z. slice_index old z + length (closure_of kernels z)) (sym same)
        ∙ ap (λ z. z + length (closure_of kernels k)) (sym (kept k (let f = h.len in omega (arith, f, lt))))
    | inr ne ↦
        let less : k < s = omega (arith, lt, ne) in
        kept (k + 1) (let f = h.len in omega (arith, f, less)) ∙ h.next k less
        ∙ ap (λ z. z + length (closure_of kernels k)) (sym (kept k (let f = h.len in omega (arith, f, less))))
  ];
}
  where
    kept : (k : ℕ) → k < length old → slice_index new k ≡ slice_index old k
    kept k lt = ap (λ z. slice_index z k) is ∙
        default_at (old ++ next ∷ []) k 0 (slice_index old k) (push_before old next k lt ∙ slice_get-get_or old k 0 lt)

    last : slice_index new (length old) ≡ next
    last = ap (λ z. slice_index z (length old)) is ∙ default_at (old ++ next ∷ []) (length old) 0 next (push_last old next)

-- the end of one right side more
pub tails_more : (g : GrammarView) (p from : ℕ) (old new : List ℕ) → new ≡ old ++ from ∷ [] →
    ((b : ℕ) (right : List Symbol) → IsProduction g p b right → (k : ℕ) → k ≤ length right → (from ≤ k) ↔ Derives g (drop k right) []) →
    AreTailsUpTo g p old → AreTailsUpTo g (p + 1) new
tails_more g p from old new is here h = record {
  len = ap length is ∙ length-append old (from ∷ []) ∙ ap (λ z. z + 1) h.len;
  each = λ q b right lt rule k le. elim (cases_eq q p) [
    | inl same ↦
        let e : slice_index new q ≡ from = ap (slice_index new) (same ∙ sym h.len) ∙ ap (λ z. slice_index z (length old)) is ∙
        default_at (old ++ from ∷ []) (length old) 0 from (push_last old from) in
        subst (λ z. (z ≤ k) ↔ Derives g (drop k right) []) (sym e)
        (here b right (subst (λ z. IsProduction g z b right) same rule) k le)
    | inr ne ↦
        let less : q < length old = (let f = h.len in omega (arith, f, lt, ne)) in
        let e : slice_index new q ≡ slice_index old q = ap (λ z. slice_index z q) is ∙
        default_at (old ++ from ∷ []) q 0 (slice_index old q) (push_before old from q less ∙ slice_get-get_or old q 0 less) in
        subst (λ z. (z ≤ k) ↔ Derives g (drop k right) []) (sym e) (h.each q b right (let f = h.len in omega (arith, f, less)) rule k le)
  ];
}
