-- What is read at kernels, as rows of moves are gone through.
use Rattle.std.proofs.Common.{◌≡◌, ℕ, ◌+◌, ◌<◌, ◌≤◌, ◌⊎◌, Bool, List, [], ◌∷◌, ◌++◌, length, set, get_or, false, true, Some, refl, sym, ◌∙◌, ap, subst}
use Rattle.std.proofs.Common.{inl, inr, arith, length-set, length-append, get_or-set_same, get_or-set_other}
use Rattle.std.specs.Prelude.{Contains, slice_get, take, ◌↔◌}
use Rattle.std.proofs.lemmas.Bool.{cases_eq}
use Rattle.std.proofs.lemmas.List.{take_all, take_more}
use Rattle.std.proofs.lemmas.List.Elements.{All-contains, All-push, Contains-push, Contains-push_cases, Contains-append_left}
use Rattle.std.proofs.lemmas.Option.{slice_get_within}
use Rattle.wb_lemmas.proofs.Places.{at_once, at_push}
use Rattle.wb_lemmas.proofs.Members.{contains_at, contains_push, nothing_in, place_of, push_contains, push_contains_last}
use Rattle.wb_termset.specs.Sets.{IsMember}
use Rattle.wb_graph.specs.Graphs.{Edge, IsEdge}
use Rattle.wb_base.specs.declared.symbol.Symbol.{Symbol}
use Rattle.wb_base.specs.declared.symbol.Symbol.TheVariants.{Nonterminal, Terminal}
use Rattle.wb_grammar_theory.specs.Derives.{IsNullable}
use Rattle.wb_items.specs.declared.transitions.Move.{Move}
use Rattle.wb_base.specs.Grammar.{IsGrammar}
use Rattle.wb_items.specs.Kernels.{AreKernels, KernelsView, LeadsTo, count_of}
use Rattle.wb_digraph.specs.Inner.Links.{AddsReads, AreShiftsUpTo, ReadsOn, Shifts}
use Rattle.wb_digraph.specs.Inner.Pools.{AreNumbers, Extends, set_at}
use Rattle.wb_digraph.proofs.BackLemmas.{leads_below}
use Rattle.wb_digraph.proofs.PoolLemmas.{extended_at, numbers_kept}

abbrev pub move_of : Symbol → ℕ → Move
move_of x next = record { symbol = x; state = next }

-- the first places of the row have a move by the terminal
abbrev pub ShiftsIn : List Move → ℕ → Type 0
ShiftsIn row t = (next : ℕ) × Contains row (move_of (Terminal t) next)

-- a terminal more
pub inserted : (old new : List Bool) (n : ℕ) → n < length old → new ≡ set old n true → (length new ≡ length old) ×
    ((t : ℕ) → IsMember new t ↔ (IsMember old t ⊎ (t ≡ n)))
inserted old new n lt is = (
  ap length is ∙ length-set old n true,
  λ t. elim (cases_eq t n) [
    | inl same ↦ (
      λ has. inr same,
      λ either. ap (λ z. get_or z t false) is ∙ ap (λ z. get_or (set old n true) z false) same ∙ get_or-set_same old n true false lt,
    )
    | inr ne ↦ (
      λ has. inl (sym (ap (λ z. get_or z t false) is ∙ get_or-set_other old n t true false ne) ∙ has),
      λ either. elim either [
        | inl has ↦ ap (λ z. get_or z t false) is ∙ get_or-set_other old n t true false ne ∙ has
        | inr same ↦ absurd (ne same)
      ],
    )
  ],
)

same_terminal : (t n : ℕ) → Terminal n ≡ Terminal t → t ≡ n
same_terminal t n e = cc

-- a symbol that is a terminal
pub symbol_in : (old new : List Bool) (symbol : Symbol) (n : ℕ) → symbol ≡ Terminal n →
    ((t : ℕ) → IsMember new t ↔ (IsMember old t ⊎ (t ≡ n))) → (t : ℕ) → IsMember new t ↔ (IsMember old t ⊎ (symbol ≡ Terminal t))
symbol_in old new symbol n is h t = (
  λ has. elim ((h t).0 has) [ inl before ↦ inl before | inr same ↦ inr (is ∙ ap Terminal (sym same)) ],
  λ either. elim either [ inl before ↦ (h t).1 (inl before) | inr at ↦ (h t).1 (inr (same_terminal t n (sym is ∙ at))) ],
)

-- one move more of the row
pub shifts_more : (row : List Move) (i : ℕ) (d step : Move) (old new : List Bool) → i < length row → step ≡ get_or row i d →
    ((t : ℕ) → IsMember new t ↔ (IsMember old t ⊎ (step.symbol ≡ Terminal t))) →
    ((t : ℕ) → IsMember old t ↔ ShiftsIn (take i row) t) → (t : ℕ) → IsMember new t ↔ ShiftsIn (take (i + 1) row) t
shifts_more row i d step old new lt is adds h t = (
  λ has. elim ((adds t).0 has) [
    | inl before ↦ (let (next, of) = (h t).0 before in (next, more (Contains-append_left (take i row) (get_or row i d ∷ []) _ of)))
    | inr same ↦ (
      step.state,
      more (subst (λ z. Contains (take i row ++ get_or row i d ∷ []) z) (sym is ∙ whole step t same)
          (Contains-push (take i row) (get_or row i d))),
    )
  ],
  λ (next, of). elim (Contains-push_cases (take i row) (get_or row i d) (move_of (Terminal t) next)
      (subst (λ z. Contains z (move_of (Terminal t) next)) (take_more row i d lt) of)) [
        | inl before ↦ (adds t).1 (inl ((h t).1 (next, before)))
        | inr same ↦ (adds t).1 (inr (ap (λ (m : Move). m.symbol) (is ∙ same)))
      ],
)
  where
    more : {m : Move} → Contains (take i row ++ get_or row i d ∷ []) m → Contains (take (i + 1) row) m
    more {m} of = subst (λ z. Contains z m) (sym (take_more row i d lt)) of

    whole : (m : Move) (t : ℕ) → m.symbol ≡ Terminal t → m ≡ move_of (Terminal t) m.state
    whole m t e = λ j. record { symbol = e j; state = m.state }

-- all moves of the row
pub shifts_all : (kernels : KernelsView) (row : List Move) (s i : ℕ) (made : List Bool) →
    ((x : Symbol) (next : ℕ) → Contains row (move_of x next) ↔ LeadsTo kernels s x next) → length row ≤ i →
    ((t : ℕ) → IsMember made t ↔ ShiftsIn (take i row) t) → (t : ℕ) → IsMember made t ↔ Shifts kernels s t
shifts_all kernels row s i made exact past h t = (
  λ has. let (next, of) = (h t).0 has in
      (next, (exact (Terminal t) next).0 (subst (λ z. Contains z (move_of (Terminal t) next)) (take_all i row past) of)),
  λ (next, leads). (h t).1
      (next, subst (λ z. Contains z (move_of (Terminal t) next)) (sym (take_all i row past)) ((exact (Terminal t) next).1 leads)),
)

-- the set of one kernel more
pub shifts_next : (kernels : KernelsView) (s number : ℕ) (old new : List (List Bool)) (shifts shifts' : List ℕ) (made : List Bool) →
    Extends old new → number < length new → set_at new number ≡ made → ((t : ℕ) → IsMember made t ↔ Shifts kernels s t) →
    shifts' ≡ shifts ++ number ∷ [] → AreShiftsUpTo kernels s old shifts → AreShiftsUpTo kernels (s + 1) new shifts'
shifts_next kernels s number old new shifts shifts' made more lt is exact shifts_is h =
    subst (AreShiftsUpTo kernels (s + 1) new) (sym shifts_is) (record {
      len = length-append shifts (number ∷ []) ∙ ap (λ z. z + 1) h.len;
      below = All-push (λ n. n < length new) shifts number (numbers_kept old new shifts more h.below) lt;
      exact = λ k m t at. elim (at_push shifts number m k at) [
        | inl before ↦
            let m_lt : m < length old = All-contains (λ n. n < length old) shifts m h.below
            (contains_at shifts m k before) in
            let same = extended_at old new m more m_lt in
            let one = h.exact k m t before in
            (λ has. one.0 (subst (λ z. IsMember z t) same has), λ shifts. subst (λ z. IsMember z t) (sym same) (one.1 shifts))
        | inr (last, same) ↦
            let set_is : set_at new m ≡ made = ap (set_at new) (sym same) ∙ is in
            let one = exact t in
            let k_is : k ≡ s = last ∙ h.len in (
              λ has. subst (λ z. Shifts kernels z t) (sym k_is) (one.0 (subst (λ z. IsMember z t) set_is has)),
              λ shifts. subst (λ z. IsMember z t) (sym set_is) (one.1 (subst (λ z. Shifts kernels z t) k_is shifts)),
            )
      ];
    })

-- an edge more
pub reads_push : (To : ℕ → Type 0) (s next : ℕ) (old new : List Edge) → new ≡ old ++ (s, next) ∷ [] → ((v : ℕ) → To v ↔ (v ≡ next)) →
    AddsReads To s old new
reads_push To s next old new is to u v = (
  λ e. elim (contains_push old (s, next) (u, v) (subst (λ z. Contains z (u, v)) is e)) [
    | inl before ↦ inl before
    | inr same ↦ inr (ap (λ (z : Edge). z.0) (sym same), (to v).1 (ap (λ (z : Edge). z.1) (sym same)))
  ],
  λ either. subst (λ z. Contains z (u, v)) (sym is) (elim either [
    | inl before ↦ push_contains old (s, next) (u, v) before
    | inr (from, at) ↦ subst (Contains (old ++ (s, next) ∷ [])) (λ j. (sym from j, sym ((to v).0 at) j)) (push_contains_last old (s, next))
  ]),
)

-- none
pub reads_none : (To : ℕ → Type 0) (s : ℕ) (edges : List Edge) → ((v : ℕ) → To v → ⊥) → AddsReads To s edges edges
reads_none To s edges never u v = (
  λ e. inl e,
  λ either. elim either [ inl before ↦ before | inr (from, to) ↦ absurd (never v to) ],
)

-- one after another
pub reads_then : {P Q R : ℕ → Type 0} {s : ℕ} (old mid new : List Edge) → AddsReads P s old mid → AddsReads Q s mid new →
    ((v : ℕ) → R v ↔ (P v ⊎ Q v)) → AddsReads R s old new
reads_then old mid new one two both u v = (
  λ e. elim ((two u v).0 e) [
    | inl before ↦ elim ((one u v).0 before) [
      | inl first ↦ inl first
      | inr (from, p) ↦ inr (from, (both v).1 (inl p))
    ]
    | inr (from, q) ↦ inr (from, (both v).1 (inr q))
  ],
  λ either. elim either [
    | inl first ↦ (two u v).1 (inl ((one u v).1 (inl first)))
    | inr (from, r) ↦ elim ((both v).0 r) [
      | inl p ↦ (two u v).1 (inl ((one u v).1 (inr (from, p))))
      | inr q ↦ (two u v).1 (inr (from, q))
    ]
  ],
)

-- a move of the first places of the row is by such a nonterminal
abbrev pub ReadsIn : KernelsView → List Move → ℕ → Type 0
ReadsIn kernels row next = (c : ℕ) × Contains row (move_of (Nonterminal c) next) × IsNullable kernels.grammar c

pub row_more : (kernels : KernelsView) (row : List Move) (i : ℕ) (d step : Move) (v : ℕ) → i < length row → step ≡ get_or row i d →
    ReadsIn kernels (take (i + 1) row) v ↔ (ReadsIn kernels (take i row) v ⊎
    ((v ≡ step.state) × ((c : ℕ) × (step.symbol ≡ Nonterminal c) × IsNullable kernels.grammar c)))
row_more kernels row i d step v lt is = (
  λ (c, of, empty). elim (Contains-push_cases (take i row) (get_or row i d) (move_of (Nonterminal c) v)
      (subst (λ z. Contains z (move_of (Nonterminal c) v)) (take_more row i d lt) of)) [
        | inl before ↦ inl (c, before, empty)
        | inr same ↦ inr (
          ap (λ (m : Move). m.state) (sym same ∙ sym is),
          (c, ap (λ (m : Move). m.symbol) (is ∙ same), empty),
        )
      ],
  λ either. elim either [
    | inl (c, of, empty) ↦ (c, more (Contains-append_left (take i row) (get_or row i d ∷ []) (move_of (Nonterminal c) v) of), empty)
    | inr (state, (c, symbol, empty)) ↦ (
      c,
      more (subst (λ z. Contains (take i row ++ get_or row i d ∷ []) z) (sym is ∙ whole c symbol state)
          (Contains-push (take i row) (get_or row i d))),
      empty,
    )
  ],
)
  where
    more : {m : Move} → Contains (take i row ++ get_or row i d ∷ []) m → Contains (take (i + 1) row) m
    more {m} of = subst (λ z. Contains z m) (sym (take_more row i d lt)) of

    whole : (c : ℕ) → step.symbol ≡ Nonterminal c → v ≡ step.state → step ≡ move_of (Nonterminal c) v
    whole c symbol state = λ j. record { symbol = symbol j; state = sym state j }

pub row_all : (kernels : KernelsView) (row : List Move) (s i v : ℕ) →
    ((x : Symbol) (next : ℕ) → Contains row (move_of x next) ↔ LeadsTo kernels s x next) → length row ≤ i →
    ReadsOn kernels s v ↔ ReadsIn kernels (take i row) v
row_all kernels row s i v exact past = (
  λ (c, leads, empty). (
    c,
    subst (λ z. Contains z (move_of (Nonterminal c) v)) (sym (take_all i row past)) ((exact (Nonterminal c) v).1 leads),
    empty,
  ),
  λ (c, of, empty). (
    c,
    (exact (Nonterminal c) v).0 (subst (λ z. Contains z (move_of (Nonterminal c) v)) (take_all i row past) of),
    empty,
  ),
)

-- the same by another condition
pub reads_same : {P R : ℕ → Type 0} {s : ℕ} (old new : List Edge) → AddsReads P s old new → ((v : ℕ) → R v ↔ P v) → AddsReads R s old new
reads_same old new one both u v = (
  λ e. elim ((one u v).0 e) [ inl first ↦ inl first | inr (from, p) ↦ inr (from, (both v).1 p) ],
  λ either. elim either [ inl first ↦ (one u v).1 (inl first) | inr (from, r) ↦ (one u v).1 (inr (from, (both v).0 r)) ],
)

-- a nonterminal that leads somewhere is one of those that facts are known of
pub nullable_within : {kernels : KernelsView} → AreKernels kernels → IsGrammar kernels.grammar → (facts : List Bool) →
    length facts ≡ kernels.grammar.nonterminals → (s next : ℕ) (symbol : Symbol) (c : ℕ) → symbol ≡ Nonterminal c →
    LeadsTo kernels s symbol next → c < length facts
nullable_within {kernels} h ok facts len s next symbol c is leads =
    let below = leads_below h ok s (Nonterminal c) next (subst (λ z. LeadsTo kernels s z next) is leads) in
    (let lt : c < kernels.grammar.nonterminals = below in omega (arith, lt, len))

-- the edges of one kernel more
pub edges_more : (kernels : KernelsView) (s : ℕ) (old new : List Edge) → AddsReads (λ next. ReadsOn kernels s next) s old new →
    ((u v : ℕ) → IsEdge old u v ↔ ((u < s) × ReadsOn kernels u v)) → (u v : ℕ) → IsEdge new u v ↔ ((u < s + 1) × ReadsOn kernels u v)
edges_more kernels s old new adds h u v = (
  λ e. elim ((adds u v).0 e) [
    | inl before ↦ (let (lt, reads) = (h u v).0 before in (omega (arith, lt), reads))
    | inr (same, reads) ↦ (omega (arith, same), subst (λ z. ReadsOn kernels z v) (sym same) reads)
  ],
  λ (lt, reads). (adds u v).1 (elim (cases_eq u s) [
    | inl same ↦ inr (same, subst (λ z. ReadsOn kernels z v) same reads)
    | inr ne ↦ inl ((h u v).1 (omega (arith, lt, ne), reads))
  ]),
)

-- those of all kernels
pub edges_all : (kernels : KernelsView) (s : ℕ) (edges : List Edge) → count_of kernels ≤ s →
    ((u v : ℕ) → IsEdge edges u v ↔ ((u < s) × ReadsOn kernels u v)) → (u v : ℕ) → IsEdge edges u v ↔ ReadsOn kernels u v
edges_all kernels s edges past h u v = (
  λ e. ((h u v).0 e).1,
  λ (c, leads, empty). (h u v).1 ((let lt = leads.0 in omega (arith, lt, past)), (c, leads, empty)),
)
