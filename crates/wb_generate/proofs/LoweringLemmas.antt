-- Lowering counts: what was settled stays so, as the nonterminal whose count falls waits.
use Rattle.std.proofs.Common.{◌≡◌, ℕ, suc, ◌+◌, ◌-◌, ◌<◌, ◌≤◌, ◌⊎◌, min, List, [], ◌∷◌, length, get_or, set, replicate, take, All, Contains}
use Rattle.std.proofs.Common.{refl, sym, ◌∙◌, ap, subst, inl, inr, arith, get_or-set_same, get_or-set_other}
use Rattle.std.specs.Prelude.{slice_index, IsPermutation}
use Rattle.std.specs.List.{sum}
use Rattle.std.proofs.Math.Nat.{min-le_left}
use Rattle.std.proofs.lemmas.Bool.{cases_eq}
use Rattle.std.proofs.lemmas.List.{take_all, take_more}
use Rattle.std.proofs.lemmas.List.Elements.{All-cons, All-head, All-nil, All-tail}
use Rattle.std.proofs.lemmas.List.Sorted.{All-permutation, Contains-permutation, length_permutation}
use Rattle.wb_base.specs.declared.symbol.Symbol.{Symbol}
use Rattle.wb_base.specs.declared.symbol.Symbol.TheVariants.{Terminal, Nonterminal}
use Rattle.wb_base.specs.Grammar.{GrammarView, IsSymbolBelow}
use Rattle.wb_grammar_theory.specs.Productions.{IsProduction}
use Rattle.wb_grammar_theory.proofs.ProductionLemmas.{production_once, production_within}
use Rattle.wb_lemmas.proofs.Members.{contains_cases, contains_first, contains_later, contains_one, contains_push, nothing_in}
use Rattle.wb_lemmas.proofs.Elements.{all_from_contained}
use Rattle.wb_generate.specs.Counts.{AreLeast, total}
use Rattle.wb_generate.specs.Inner.Groups.{AreUses, group_at}
use Rattle.wb_generate.specs.Inner.Lowerings.{Advances, IsLowering, IsPending, IsSettled, Settles, State, Waits, left_of}
use Rattle.wb_generate.proofs.CountLemmas.{least_from, reached_lower, reached_start, sum_lower}

-- a nonterminal isn't among symbols
abbrev Lacks : List Symbol → ℕ → Type 0
Lacks w a = (b : ℕ) → Contains w (Nonterminal b) → b ≡ a → ⊥

or_later : (a : ℕ) (x : Symbol) (w : List Symbol) → ((b : ℕ) → x ≡ Nonterminal b → b ≡ a → ⊥) → Contains w (Nonterminal a) ⊎ Lacks w a →
    Contains (x ∷ w) (Nonterminal a) ⊎ Lacks (x ∷ w) a
or_later a x w other (inl later) = inl (contains_later x (Nonterminal a) w later)
or_later a x w other (inr none) = inr (λ b has same. elim (contains_cases x (Nonterminal b) w has) [
  | inl first ↦ other b first same
  | inr later ↦ none b later same
])

in_or_not : (a : ℕ) (w : List Symbol) → Contains w (Nonterminal a) ⊎ Lacks w a
in_or_not a [] = inr (λ b has same. nothing_in (Nonterminal b) has)
in_or_not a (Terminal t ∷ w) = or_later a (Terminal t) w (λ b is same. absurd (cc)) (in_or_not a w)
in_or_not a (Nonterminal c ∷ w) = elim (cases_eq c a) [
  | inl same ↦ inl (subst (λ z. Contains (Nonterminal c ∷ w) (Nonterminal z)) same (contains_first (Nonterminal c) w))
  | inr other ↦ or_later a (Nonterminal c) w (λ b is same. other (same_number c b is ∙ same)) (in_or_not a w)
]
  where
    same_number : (m n : ℕ) → Nonterminal m ≡ Nonterminal n → m ≡ n
    same_number m n e = cc

-- another count doesn't change sums of symbols without its nonterminal
total_other : (counts : List ℕ) (a least : ℕ) (w : List Symbol) → Lacks w a → total (set counts a least) w ≡ total counts w
total_other counts a least [] none = refl
total_other counts a least (Terminal t ∷ w) none =
    ap (λ z. 1 + z) (total_other counts a least w (λ b later. none b (contains_later (Terminal t) (Nonterminal b) w later)))
total_other counts a least (Nonterminal c ∷ w) none =
    let one : slice_index (set counts a least) c ≡ slice_index counts c =
    get_or-set_other counts a c least 0 (none c (contains_first (Nonterminal c) w)) in
    let rest : total (set counts a least) w ≡ total counts w =
    total_other counts a least w (λ b later. none b (contains_later (Nonterminal c) (Nonterminal b) w later)) in
    omega (arith, one, rest)

-- a production that doesn't lower
pub settles_same : (g : GrammarView) (limit : ℕ) (s : State) (p a least : ℕ) (right : List Symbol) → IsLowering g limit s →
    IsProduction g p a right → least ≡ min (total s.counts right) limit → slice_index s.counts a ≤ least → Settles g limit (p ∷ []) s s
settles_same g limit s p a least right lowering rule is low = record {
  lowering = lowering;
  fewer = omega arith;
  keeps = λ q settled. settled;
  here = λ q has b other at.
      let same : q ≡ p = (contains_one p q).0 has in
      let parts = production_once g p a b right other rule (subst (λ z. IsProduction g z b other) same at) in
      let e : slice_index s.counts b ≡ slice_index s.counts a = ap (slice_index s.counts) (sym parts.0) in
      let f : total s.counts other ≡ total s.counts right = ap (total s.counts) (sym parts.1) in
      let h : min (total s.counts right) limit ≤ total s.counts right = min-le_left (total s.counts right) limit in
      inr (omega (arith, e, f, h, is, low));
}

-- a production that lowers the count of its left side, which waits with it
module _ (g : GrammarView) (limit : ℕ) (s : State) (p a least : ℕ) (right : List Symbol) (waiting : List (ℕ × ℕ))
    (lowering : IsLowering g limit s) (rule : IsProduction g p a right) (below : a < g.nonterminals)
    (known : All (IsSymbolBelow g.terminals g.nonterminals) right) (is : least ≡ min (total s.counts right) limit)
    (less : least < slice_index s.counts a) (pushed : IsPermutation ((limit - least, a) ∷ s.waiting) waiting) where
  abbrev lowered : State
  lowered = record { counts = set s.counts a least; waiting = waiting }

  here_count : slice_index (set s.counts a least) a ≡ least
  here_count = get_or-set_same s.counts a least 0 (omega (arith, below, lowering.reached.len))

  there_count : (b : ℕ) → (b ≡ a → ⊥) → slice_index (set s.counts a least) b ≡ slice_index s.counts b
  there_count b other = get_or-set_other s.counts a b least 0 other

  waits_now : Waits limit lowered a
  waits_now = subst (λ z. Contains waiting (limit - z, a)) (sym here_count)
      (Contains-permutation ((limit - least, a) ∷ s.waiting) waiting (limit - least, a) pushed (contains_first (limit - least, a) s.waiting))

  waits_still : (b : ℕ) → (b ≡ a → ⊥) → Waits limit s b → Waits limit lowered b
  waits_still b other waits = subst (λ z. Contains waiting (limit - z, b)) (sym (there_count b other))
      (Contains-permutation ((limit - least, a) ∷ s.waiting) waiting (limit - slice_index s.counts b, b) pushed
      (contains_later (limit - least, a) (limit - slice_index s.counts b, b) s.waiting waits))

  no_more : (b : ℕ) → slice_index (set s.counts a least) b ≤ slice_index s.counts b
  no_more b = elim (cases_eq b a) [
    | inl same ↦
        let e : slice_index (set s.counts a least) b ≡ least = ap (slice_index (set s.counts a least)) same ∙ here_count in
        let f : slice_index s.counts b ≡ slice_index s.counts a = ap (slice_index s.counts) same in
        omega (arith, e, f, less)
    | inr other ↦ (let e : slice_index (set s.counts a least) b ≡ slice_index s.counts b = there_count b other in omega (arith, e))
  ]

  -- a production stays settled: the nonterminal is on its right and waits, or isn't and nothing changes there
  stays : (b : ℕ) (other : List Symbol) → IsPending limit s other ⊎ (slice_index s.counts b ≤ total s.counts other) →
      IsPending limit lowered other ⊎ (slice_index (set s.counts a least) b ≤ total (set s.counts a least) other)
  stays b other settled = elim (in_or_not a other) [
    | inl within ↦ inl (record { nonterminal = a; within = within; waits = waits_now })
    | inr none ↦ elim settled [
      | inl pending ↦ inl (record {
        nonterminal = pending.nonterminal;
        within = pending.within;
        waits = waits_still pending.nonterminal (none pending.nonterminal pending.within) pending.waits;
      })
      | inr low ↦
          let e : total (set s.counts a least) other ≡ total s.counts other = total_other s.counts a least other none in
          let f : slice_index (set s.counts a least) b ≤ slice_index s.counts b = no_more b in
          inr (omega (arith, e, f, low))
    ]
  ]

  -- the production itself
  own : IsPending limit lowered right ⊎ (slice_index (set s.counts a least) a ≤ total (set s.counts a least) right)
  own = elim (in_or_not a right) [
    | inl within ↦ inl (record { nonterminal = a; within = within; waits = waits_now })
    | inr none ↦
        let e : total (set s.counts a least) right ≡ total s.counts right = total_other s.counts a least right none in
        let h : min (total s.counts right) limit ≤ total s.counts right = min-le_left (total s.counts right) limit in
        let f : slice_index (set s.counts a least) a ≡ least = here_count in
        inr (omega (arith, e, f, h, is))
  ]

  pub settles_lower : Settles g limit (p ∷ []) s lowered
  settles_lower = record {
    lowering = record {
      reached = reached_lower g limit s.counts p a least right lowering.reached rule below known is less;
      known = All-permutation (λ (e : ℕ × ℕ). e.1 < g.nonterminals) ((limit - least, a) ∷ s.waiting) waiting pushed
          (All-cons (λ (e : ℕ × ℕ). e.1 < g.nonterminals) (limit - least, a) s.waiting below lowering.known);
    };
    fewer =
        let e : length waiting ≡ suc (length s.waiting) = length_permutation ((limit - least, a) ∷ s.waiting) waiting pushed in
        let f : sum (set s.counts a least) < sum s.counts = sum_lower s.counts a least (omega (arith, below, lowering.reached.len)) less in
        omega (arith, e, f);
    keeps = λ q settled b other at. stays b other (settled b other at);
    here = λ q has b other at.
        let same : q ≡ p = (contains_one p q).0 has in
        let parts = production_once g p a b right other rule (subst (λ z. IsProduction g z b other) same at) in
        subst (λ z. IsPending limit lowered z ⊎ (slice_index (set s.counts a least) b ≤ total (set s.counts a least) z)) parts.1
        (subst (λ z. IsPending limit lowered right ⊎ (slice_index (set s.counts a least) z ≤ total (set s.counts a least) right)) parts.0
        own);
  }

-- no production
pub settles_none : (g : GrammarView) (limit : ℕ) (s : State) → IsLowering g limit s → Settles g limit [] s s
settles_none g limit s lowering = record {
  lowering = lowering;
  fewer = omega arith;
  keeps = λ q settled. settled;
  here = λ q has. absurd (nothing_in q has);
}

-- one production more
pub settles_more : (g : GrammarView) (limit : ℕ) (productions : List ℕ) (i d : ℕ) (s t u : State) → i < length productions →
    Settles g limit (take i productions) s t → Settles g limit (get_or productions i d ∷ []) t u →
    Settles g limit (take (i + 1) productions) s u
settles_more g limit productions i d s t u lt one two =
    let p : ℕ = get_or productions i d in
    let first : left_of t ≤ left_of s = one.fewer in
    let second : left_of u ≤ left_of t = two.fewer in
    record {
      lowering = two.lowering;
      fewer = omega (arith, first, second);
      keeps = λ q settled. two.keeps q (one.keeps q settled);
      here = λ q has. elim (contains_push (take i productions) p q (subst (λ z. Contains z q) (take_more productions i d lt) has)) [
        | inl before ↦ two.keeps q (one.here q before)
        | inr same ↦ two.here q ((contains_one p q).1 (sym same))
      ];
    }

pub settles_all : (g : GrammarView) (limit : ℕ) (productions : List ℕ) (i : ℕ) (s t : State) → length productions ≤ i →
    Settles g limit (take i productions) s t → Settles g limit productions s t
settles_all g limit productions i s t past settles =
    subst (λ z. Settles g limit z s t) (take_all i productions past) settles

-- at the start every count is at its limit
pub lowering_start : (g : GrammarView) (limit : ℕ) → IsLowering g limit (record { counts = replicate g.nonterminals limit; waiting = [] })
lowering_start g limit = record { reached = reached_start g limit; known = All-nil (λ (e : ℕ × ℕ). e.1 < g.nonterminals) }

-- a number of no production is settled
pub settled_all : (g : GrammarView) (limit : ℕ) (s : State) (end : ℕ) → length g.productions ≤ end →
    ((p : ℕ) → p < end → IsSettled g limit s p) → (p : ℕ) → IsSettled g limit s p
settled_all g limit s end past settled p a right rule =
    let within = production_within g p a right rule in settled p (omega (arith, past, within)) a right rule

-- an entry is taken
module _ (g : GrammarView) (limit : ℕ) (s : State) (entry : ℕ × ℕ) (rest : List (ℕ × ℕ)) (lowering : IsLowering g limit s)
    (settled : (q : ℕ) → IsSettled g limit s q) (popped : IsPermutation s.waiting (entry ∷ rest)) where
  abbrev without : State
  without = record { counts = s.counts; waiting = rest }

  abbrev IsKnown : ℕ × ℕ → Type 0
  IsKnown e = e.1 < g.nonterminals

  pub lowering_without : IsLowering g limit without
  lowering_without = record {
    reached = lowering.reached;
    known = All-tail IsKnown entry rest (All-permutation IsKnown s.waiting (entry ∷ rest) popped lowering.known);
  }

  pub taken_known : entry.1 < g.nonterminals
  taken_known = All-head IsKnown entry rest (All-permutation IsKnown s.waiting (entry ∷ rest) popped lowering.known)

  fewer_left : left_of without < left_of s
  fewer_left =
      let e : suc (length rest) ≡ length s.waiting = length_permutation s.waiting (entry ∷ rest) popped in omega (arith, e)

  -- what waits besides the entry still does
  waits_without : (b : ℕ) → (limit - slice_index s.counts b ≡ entry.0 → b ≡ entry.1 → ⊥) → Waits limit s b → Waits limit without b
  waits_without b other waits = elim (contains_cases entry (limit - slice_index s.counts b, b) rest
      (Contains-permutation s.waiting (entry ∷ rest) (limit - slice_index s.counts b, b) popped waits)) [
        | inl same ↦ absurd (other (ap (λ (z : ℕ × ℕ). z.0) (sym same)) (ap (λ (z : ℕ × ℕ). z.1) (sym same)))
        | inr later ↦ later
      ]

  -- an entry whose count was lowered since then
  pub advances_past : (slice_index s.counts entry.1 + entry.0 ≡ limit → ⊥) → Advances g limit s without
  advances_past stale = record {
    lowering = lowering_without;
    fewer = fewer_left;
    settled = λ q b right rule. elim (settled q b right rule) [
      | inl pending ↦ inl (record {
        nonterminal = pending.nonterminal;
        within = pending.within;
        waits = waits_without pending.nonterminal (λ far same. stale (exact pending.nonterminal far same)) pending.waits;
      })
      | inr low ↦ inr low
    ];
  }
    where
      exact : (b : ℕ) → limit - slice_index s.counts b ≡ entry.0 → b ≡ entry.1 → slice_index s.counts entry.1 + entry.0 ≡ limit
      exact b far same =
          let most : slice_index s.counts entry.1 ≤ limit = lowering.reached.most entry.1 in
          let f : slice_index s.counts b ≡ slice_index s.counts entry.1 = ap (slice_index s.counts) same in
          omega (arith, most, far, f)

  -- one whose productions on the right were all looked at
  pub advances_by : (groups : List (List ℕ)) → AreUses g groups → (u : State) → Settles g limit (group_at groups entry.1) without u →
      Advances g limit s u
  advances_by groups uses u settles = record {
    lowering = settles.lowering;
    fewer = (let e : left_of u ≤ left_of without = settles.fewer in let f = fewer_left in omega (arith, e, f));
    settled = λ q b right rule. elim (in_or_not entry.1 right) [
      | inl within ↦ settles.here q (uses.has entry.1 q b right (production_within g q b right rule) rule within) b right rule
      | inr none ↦ settles.keeps q (kept q b right rule none) b right rule
    ];
  }
    where
      kept : (q b : ℕ) (right : List Symbol) → IsProduction g q b right → Lacks right entry.1 → IsSettled g limit without q
      kept q b right rule none c other at = elim (settled q c other at) [
        | inl pending ↦ inl (record {
          nonterminal = pending.nonterminal;
          within = pending.within;
          waits = waits_without pending.nonterminal
              (λ far same. none pending.nonterminal (subst (λ z. Contains z (Nonterminal pending.nonterminal))
              (production_once g q c b other right at rule).1 pending.within) same) pending.waits;
        })
        | inr low ↦ inr low
      ]

  -- the productions that are looked at are of the grammar
  pub productions_known : (groups : List (List ℕ)) → AreUses g groups → (list : List ℕ) → list ≡ group_at groups entry.1 →
      All (λ p. p < length g.productions) list
  productions_known groups uses list is = all_from_contained (λ p. p < length g.productions) list
      (λ p has. uses.only entry.1 p (subst (λ z. Contains z p) is has))

-- counts are least where nothing waits
pub least_settled : (g : GrammarView) (limit : ℕ) (s : State) → IsLowering g limit s → ((q : ℕ) → IsSettled g limit s q) → s.waiting ≡ [] →
    AreLeast g limit s.counts
least_settled g limit s lowering settled none = least_from g limit s.counts lowering.reached
    (λ p a right rule. elim (settled p a right rule) [
      | inl pending ↦ absurd (nothing_in (limit - slice_index s.counts pending.nonterminal, pending.nonterminal)
          (subst (λ z. Contains z (limit - slice_index s.counts pending.nonterminal, pending.nonterminal)) none pending.waits))
      | inr low ↦ low
    ])
