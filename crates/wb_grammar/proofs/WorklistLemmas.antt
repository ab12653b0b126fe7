-- A worklist for a least set: what adding a member, stopping at a nonterminal and taking a member keep.
use Rattle.std.proofs.Common.{◌≡◌, ℕ, ◌+◌, ◌<◌, ◌≤◌, ◌⊎◌, Bool, true, false, List, [], ◌∷◌, ◌++◌, length, length-append, length-set, set}
use Rattle.std.proofs.Common.{get_or, take, replicate, Some, refl, sym, ◌∙◌, ap, subst, inl, inr, arith}
use Rattle.std.specs.Prelude.{All, Contains, Option, None, IfSome, slice_get, slice_set, slice_index_or}
use Rattle.std.proofs.lemmas.List.{length-replicate, get_or-replicate}
use Rattle.std.proofs.lemmas.List.Elements.{All-nil, All-push, All-pop, All-contains, All-weaker}
use Rattle.std.proofs.lemmas.Option.{slice_get_within, slice_get-get_or, gets, same_Some}
use Rattle.std.proofs.lemmas.Grind.{common_steps}
use Rattle.std.proofs.lemmas.Bool.{cases_eq, cases_Bool, true≢false}
use Rattle.wb_lemmas.proofs.Places.{at_once, at_within, default_at}
use Rattle.wb_lemmas.proofs.Members.{contains_at, place_of, nothing_in, contains_push, push_contains, push_contains_last}
use Rattle.wb_base.specs.declared.symbol.Symbol.{Symbol}
use Rattle.wb_base.specs.declared.symbol.Symbol.TheVariants.{Terminal, Nonterminal}
use Rattle.wb_base.specs.Grammar.{GrammarView, Production, IsSymbolBelow}
use Rattle.wb_termset.specs.Sets.{IsMember, IsSubset, members}
use Rattle.wb_termset.proofs.CallerLemmas.{IsMember-insert, IsMember-insert_same, IsSubset-insert, IsSubset-refl, IsEmpty-replicate}
use Rattle.wb_termset.proofs.CallerLemmas.{members_le, members_grow}
use Rattle.wb_grammar_theory.specs.Productions.{IsProduction}
use Rattle.wb_grammar_theory.proofs.ProductionLemmas.{production_once, production_within}
use Rattle.wb_grammar.specs.Inner.LeastSets.{Holds, IsClosedAt, IsLeastSet, IsFirstMissing}
use Rattle.wb_grammar.specs.Inner.Worklists.{State, added, stopped_at, IsPassed, IsStoppedAt, Blocks, IsBlocked, IsSettled, AreSettled}
use Rattle.wb_grammar.specs.Inner.Worklists.{IsWorklist, left_of, Passes, Advances}
use Rattle.wb_grammar.proofs.LeastSetLemmas.{generated_insert, least_set_is}

-- what a set holds a larger one holds
holds_more : (terminals : Bool) (old new : List Bool) → IsSubset old new → (x : Symbol) → Holds terminals old x → Holds terminals new x
holds_more terminals old new within (Terminal t) h = h
holds_more terminals old new within (Nonterminal a) h = within a h

-- what a production has passed it has passed with a larger set
pub passed_more : (g : GrammarView) (terminals : Bool) (old new : List Bool) (p k : ℕ) → IsSubset old new → IsPassed g terminals old p k →
    IsPassed g terminals new p k
passed_more g terminals old new p k within h = record {
  left = h.left;
  right = h.right;
  rule = h.rule;
  held = All-weaker (Holds terminals old) (Holds terminals new) (holds_more terminals old new within) (take k h.right) h.held;
}

-- a production that can't go on still can't when a member that waits is added
blocks_added : (terminals : Bool) (s : State) (a p : ℕ) (x : Symbol) → Blocks terminals s p x → Blocks terminals (added s a false) p x
blocks_added terminals s a p (Terminal t) e = e
blocks_added terminals s a p (Nonterminal b) (at, why) = (
  at,
  elim why [
    | inl out ↦ elim (cases_eq b a) [
      | inl same ↦ inr (subst (Contains (s.waiting ++ a ∷ [])) (sym same) (push_contains_last s.waiting a))
      | inr other ↦ inl (λ has. elim (IsMember-insert s.set a b has) [ inl old ↦ out old | inr is ↦ other is ])
    ]
    | inr waits ↦ inr (push_contains s.waiting a b waits)
  ],
)

settled_added : (g : GrammarView) (terminals : Bool) (s : State) (a q : ℕ) → IsSettled g terminals s q →
    IsSettled g terminals (added s a false) q
settled_added g terminals s a q h left right rule = elim (h left right rule) [
  | inl member ↦ inl (IsSubset-insert s.set a left member)
  | inr b ↦ inr (record { symbol = b.symbol; within = b.within; blocks = blocks_added terminals s a q b.symbol b.blocks })
]

fewer_added : (g : GrammarView) (terminals : Bool) (s : State) (a : ℕ) → IsWorklist g terminals s → a < g.nonterminals →
    get_or s.set a false ≡ false → left_of (added s a false) < left_of s
fewer_added g terminals s a w lt off =
    let len : length s.set ≡ length (set s.set a true) = sym (length-set s.set a true) in
    let within : a < length s.set = omega (arith, w.len) in
    let more : members s.set < members (set s.set a true) = members_grow s.set (set s.set a true) len (IsSubset-insert s.set a)
    (a, (λ has. true≢false (sym has ∙ off)), IsMember-insert_same s.set a within) in
    let le : members (set s.set a true) ≤ length (set s.set a true) = members_le (set s.set a true) in
    let longer : length (s.waiting ++ a ∷ []) ≡ length s.waiting + 1 = length-append s.waiting (a ∷ []) in
    omega (arith, len, more, le, longer)

-- a production whose right side the set holds adds its left side
pub passes_added : (g : GrammarView) (terminals : Bool) (s : State) (p a : ℕ) (right : List Symbol) (b : Bool) → IsWorklist g terminals s →
    a < g.nonterminals → IsProduction g p a right → All (Holds terminals s.set) right → b ≡ get_or s.set a false →
    Passes g terminals p s (added s a b)
passes_added g terminals s p a right true w lt rule all e = record {
  worklist = w;
  within = IsSubset-refl s.set;
  settled = λ left other is. inl (subst (IsMember s.set) (production_once g p a left right other rule is).0 (sym e));
  keeps = λ q h. h;
  fewer = omega arith;
}
passes_added g terminals s p a right false w lt rule all e = record {
  worklist = record {
    len = length-set s.set a true ∙ w.len;
    rows = w.rows;
    sound = generated_insert g terminals s.set p a right w.sound rule all;
    waits = All-push (λ n. n < g.nonterminals) s.waiting a w.waits lt;
    passed = λ b list q k at has. passed_more g terminals s.set (set s.set a true) q k (IsSubset-insert s.set a)
        (w.passed b list q k at has);
  };
  within = IsSubset-insert s.set a;
  settled = λ left other is. inl (subst (IsMember (set s.set a true)) (production_once g p a left right other rule is).0
      (IsMember-insert_same s.set a (omega (arith, w.len, lt))));
  keeps = settled_added g terminals s a;
  fewer = (let less = fewer_added g terminals s a w lt (sym e) in omega (arith, less));
}

-- one with a symbol that keeps it from going on stays
passes_terminal : (g : GrammarView) (terminals : Bool) (s : State) (p a : ℕ) (right : List Symbol) (x : Symbol) → IsWorklist g terminals s →
    IsProduction g p a right → Contains right x → Blocks terminals s p x → Passes g terminals p s s
passes_terminal g terminals s p a right x w rule has blocks = record {
  worklist = w;
  within = IsSubset-refl s.set;
  settled = λ left other is. inr (record {
    symbol = x;
    within =
        subst (λ z. Contains z x) (production_once g p a left right other rule is).1 has;
    blocks = blocks;
  });
  keeps = λ q h. h;
  fewer = omega arith;
}

-- the rows after one has changed
row_cases : (s : State) (b : ℕ) (row : List (ℕ × ℕ)) (c : ℕ) (list : List (ℕ × ℕ)) → slice_get (slice_set s.stopped b row) c ≡ Some list →
    ((c ≡ b) × (list ≡ row)) ⊎ (slice_get s.stopped c ≡ Some list)
row_cases s b row c list at = grind (arith, gets, common_steps)

row_other : (s : State) (b : ℕ) (row : List (ℕ × ℕ)) (c : ℕ) (list : List (ℕ × ℕ)) → (c ≡ b → ⊥) → slice_get s.stopped c ≡ Some list →
    slice_get (slice_set s.stopped b row) c ≡ Some list
row_other s b row c list other at = grind (arith, gets, common_steps)

row_same : (s : State) (b : ℕ) (row list : List (ℕ × ℕ)) → slice_get s.stopped b ≡ Some list →
    slice_get (slice_set s.stopped b row) b ≡ Some row
row_same s b row list at = grind (arith, gets, common_steps)

-- one more production that stopped takes none away
stopped_more : (s : State) (b : ℕ) (list : List (ℕ × ℕ)) (p place q c : ℕ) → slice_get s.stopped b ≡ Some list → IsStoppedAt s c q →
    IsStoppedAt (stopped_at s b list p place) c q
stopped_more s b list p place q c here (row, at, (k, has)) = elim (cases_eq c b) [
  | inl same ↦
      let e : row ≡ list = at_once s.stopped b row list (subst (λ n. slice_get s.stopped n ≡ Some row) same at) here in (
        list ++ (p, place) ∷ [],
        subst (λ n. slice_get (slice_set s.stopped b (list ++ (p, place) ∷ [])) n ≡ Some (list ++ (p, place) ∷ [])) (sym same)
            (row_same s b (list ++ (p, place) ∷ []) list here),
        (k, push_contains list (p, place) (q, k) (subst (λ z. Contains z (q, k)) e has)),
      )
  | inr other ↦ (row, row_other s b (list ++ (p, place) ∷ []) c row other at, (k, has))
]

blocks_stopped : (terminals : Bool) (s : State) (b : ℕ) (list : List (ℕ × ℕ)) (p place q : ℕ) (x : Symbol) →
    slice_get s.stopped b ≡ Some list → Blocks terminals s q x → Blocks terminals (stopped_at s b list p place) q x
blocks_stopped terminals s b list p place q (Terminal t) here e = e
blocks_stopped terminals s b list p place q (Nonterminal c) here (at, why) = (stopped_more s b list p place q c here at, why)

-- one that comes to a nonterminal that is no member stops there
passes_stopped : (g : GrammarView) (terminals : Bool) (s : State) (p a place b : ℕ) (right : List Symbol) (list : List (ℕ × ℕ)) →
    IsWorklist g terminals s → IsProduction g p a right → All (Holds terminals s.set) (take place right) → Contains right (Nonterminal b) →
    (¬ IsMember s.set b) → slice_get s.stopped b ≡ Some list → Passes g terminals p s (stopped_at s b list p place)
passes_stopped g terminals s p a place b right list w rule held has out here = record {
  worklist = record {
    len = w.len;
    rows = length-set s.stopped b (list ++ (p, place) ∷ []) ∙ w.rows;
    sound = w.sound;
    waits = w.waits;
    passed = λ c row q k at in_row. elim (row_cases s b (list ++ (p, place) ∷ []) c row at) [
      | inl new ↦ elim (contains_push list (p, place) (q, k) (subst (λ z. Contains z (q, k)) new.1 in_row)) [
        | inl old ↦ w.passed b list q k here old
        | inr is ↦ subst (λ (f : ℕ × ℕ). IsPassed g terminals s.set f.0 f.1) is (record {
          left = a;
          right = right;
          rule = rule;
          held =
              held;
        })
      ]
      | inr old ↦ w.passed c row q k old in_row
    ];
  };
  within = IsSubset-refl s.set;
  settled = λ left other is. inr (record {
    symbol = Nonterminal b;
    within = subst (λ z. Contains z (Nonterminal b)) (production_once g p a left right other rule is).1 has;
    blocks = (
      (list ++ (p, place) ∷ [], row_same s b (list ++ (p, place) ∷ []) list here, (place, push_contains_last list (p, place))),
      inl out,
    );
  });
  keeps = λ q h left other is. elim (h left other is) [
    | inl member ↦ inl member
    | inr blocked ↦ inr (record {
      symbol = blocked.symbol;
      within = blocked.within;
      blocks =
          blocks_stopped terminals s b list p place q blocked.symbol here blocked.blocks;
    })
  ];
  fewer = omega arith;
}

-- a production stops at the first symbol that the set doesn't hold, a nonterminal
pub passes_nonterminal : (g : GrammarView) (terminals : Bool) (s : State) (p a place b : ℕ) (right : List Symbol) (x : Symbol)
    (d : List (ℕ × ℕ)) → IsWorklist g terminals s → IsProduction g p a right → All (IsSymbolBelow g.terminals g.nonterminals) right →
    IsFirstMissing terminals s.set right place → slice_index_or right place x ≡ Nonterminal b →
    Passes g terminals p s (stopped_at s b (slice_index_or s.stopped b d) p place)
passes_nonterminal g terminals s p a place b right x d w rule below first is =
    let at : slice_get right place ≡ Some (Nonterminal b) = slice_get-get_or right place x first.within ∙ ap Some is in
    let has : Contains right (Nonterminal b) = contains_at right (Nonterminal b) place at in
    let lt : b < g.nonterminals = All-contains (IsSymbolBelow g.terminals g.nonterminals) right (Nonterminal b) below has in
    passes_stopped g terminals s p a place b right (slice_index_or s.stopped b d) w rule first.before has
    (first.missing (Nonterminal b) at) (slice_get-get_or s.stopped b d (omega (arith, lt, w.rows)))

-- or it stays where that is a terminal
pub passes_no_nonterminal : (g : GrammarView) (terminals : Bool) (s : State) (p a place : ℕ) (right : List Symbol) (x : Symbol) →
    IsWorklist g terminals s → IsProduction g p a right → IsFirstMissing terminals s.set right place →
    ((b : ℕ) → slice_index_or right place x ≡ Nonterminal b → ⊥) → Passes g terminals p s s
passes_no_nonterminal g terminals s p a place right x w rule first other = by_symbol (slice_index_or right place x) refl
  where
    by_symbol : (y : Symbol) → slice_index_or right place x ≡ y → Passes g terminals p s s
    by_symbol (Nonterminal b) is = absurd (other b is)
    by_symbol (Terminal t) is =
        let at : slice_get right place ≡ Some (Terminal t) = slice_get-get_or right place x first.within ∙ ap Some is in
        let none_may : terminals ≡ false = elim (cases_Bool terminals) [
          | inl may ↦ absurd (first.missing (Terminal t) at may)
          | inr off ↦ off
        ] in
        passes_terminal g terminals s p a right (Terminal t) w rule (contains_at right (Terminal t) place at) none_may

-- a production of the list from a place on
abbrev pub IsPending : List (ℕ × ℕ) → ℕ → ℕ → Type 0
IsPending list i p = (j k : ℕ) × (i ≤ j) × (slice_get list j ≡ Some (p, k))

-- the productions of a member that was taken, of which those before a place have gone on
pub record IsAdvancing (g : GrammarView) (terminals : Bool) (old : State) (list : List (ℕ × ℕ)) (i : ℕ) (s : State) : Type 0 where
  pub worklist : IsWorklist g terminals s
  pub passed : (p k : ℕ) → Contains list (p, k) → IsPassed g terminals s.set p k
  pub settled : (p a : ℕ) (right : List Symbol) → IsProduction g p a right → IsSettled g terminals s p ⊎ IsPending list i p
  pub fewer : left_of s < left_of old

-- the state of which a member was taken, and the productions that had stopped at it
abbrev pub taken : State → List ℕ → ℕ → State
taken s waiting b = record s { waiting = waiting; stopped = slice_set s.stopped b [] }

taken_blocks : (terminals : Bool) (s : State) (waiting : List ℕ) (b : ℕ) (list : List (ℕ × ℕ)) (p : ℕ) (x : Symbol) →
    s.waiting ≡ waiting ++ b ∷ [] → slice_get s.stopped b ≡ Some list → Blocks terminals s p x →
    Blocks terminals (taken s waiting b) p x ⊎ IsPending list 0 p
taken_blocks terminals s waiting b list p (Terminal t) popped here e = inl e
taken_blocks terminals s waiting b list p (Nonterminal c) popped here ((row, at, (k, has)), why) = elim (cases_eq c b) [
  | inl same ↦
      let e : row ≡ list = at_once s.stopped b row list (subst (λ n. slice_get s.stopped n ≡ Some row) same at) here in
      let (j, there) = place_of list (p, k) (subst (λ z. Contains z (p, k)) e has) in
      inr (j, k, omega arith, there)
  | inr other ↦ inl (
    (row, row_other s b [] c row other at, (k, has)),
    elim why [
      | inl out ↦ inl out
      | inr waits ↦ elim (contains_push waiting b c (subst (λ z. Contains z c) popped waits)) [
        | inl still ↦ inr still
        | inr is ↦ absurd (other (sym is))
      ]
    ],
  )
]

-- a production has one left side and one right side
one_settled : (g : GrammarView) (terminals : Bool) (s : State) (p a : ℕ) (right : List Symbol) → IsProduction g p a right →
    IsMember s.set a ⊎ IsBlocked terminals s p right → IsSettled g terminals s p
one_settled g terminals s p a right rule (inl member) left other is = inl
    (subst (IsMember s.set) (production_once g p a left right other rule is).0 member)
one_settled g terminals s p a right rule (inr blocked) left other is = inr
    (subst (IsBlocked terminals s p) (production_once g p a left right other rule is).1 blocked)

-- a member is taken
pub advancing_start : (g : GrammarView) (terminals : Bool) (s : State) (waiting : List ℕ) (b : ℕ) (list : List (ℕ × ℕ)) →
    IsWorklist g terminals s → AreSettled g terminals s → s.waiting ≡ waiting ++ b ∷ [] → slice_get s.stopped b ≡ Some list →
    IsAdvancing g terminals s list 0 (taken s waiting b)
advancing_start g terminals s waiting b list w settled popped here = record {
  worklist = record {
    len = w.len;
    rows = length-set s.stopped b [] ∙ w.rows;
    sound = w.sound;
    waits = waits;
    passed = λ c row q k at in_row. elim (row_cases s b [] c row at) [
      | inl new ↦ absurd (nothing_in (q, k) (subst (λ z. Contains z (q, k)) new.1 in_row))
      | inr old ↦ w.passed c row q k old in_row
    ];
  };
  passed = λ p k has. w.passed b list p k here has;
  settled = settled_start;
  fewer = (let longer : length s.waiting ≡ length waiting + 1 = ap length popped ∙ length-append waiting (b ∷ []) in omega (arith, longer));
}
  where
    waits : All (λ a. a < g.nonterminals) waiting
    waits = (All-pop (λ a. a < g.nonterminals) s.waiting waiting (Some b) popped w.waits).0

    settled_start : (p a : ℕ) (right : List Symbol) → IsProduction g p a right →
        IsSettled g terminals (taken s waiting b) p ⊎ IsPending list 0 p
    settled_start p a right rule = elim (settled p a right rule) [
      | inl member ↦ inl (one_settled g terminals (taken s waiting b) p a right rule (inl member))
      | inr blocked ↦ elim (taken_blocks terminals s waiting b list p blocked.symbol popped here blocked.blocks) [
        | inl blocks ↦ inl (one_settled g terminals (taken s waiting b) p a right rule (inr (record {
          symbol = blocked.symbol;
          within =
              blocked.within;
          blocks = blocks;
        })))
        | inr pending ↦ inr pending
      ]
    ]

-- the row of a member that waits is there
pub row_there : (g : GrammarView) (terminals : Bool) (s : State) (waiting : List ℕ) (b : ℕ) (d : List (ℕ × ℕ)) → IsWorklist g terminals s →
    s.waiting ≡ waiting ++ b ∷ [] → slice_get s.stopped b ≡ Some (slice_index_or s.stopped b d)
row_there g terminals s waiting b d w popped =
    let has : Contains s.waiting b = subst (λ z. Contains z b) (sym popped) (push_contains_last waiting b) in
    let lt : b < g.nonterminals = All-contains (λ a. a < g.nonterminals) s.waiting b w.waits has in
    slice_get-get_or s.stopped b d (omega (arith, lt, w.rows))

-- one of its productions goes on
pub advancing_more : (g : GrammarView) (terminals : Bool) (old : State) (list : List (ℕ × ℕ)) (i : ℕ) (s new : State) (p k : ℕ) →
    IsAdvancing g terminals old list i s → slice_get list i ≡ Some (p, k) → Passes g terminals p s new →
    IsAdvancing g terminals old list (i + 1) new
advancing_more g terminals old list i s new p k h at step = record {
  worklist = step.worklist;
  passed = λ q j has. passed_more g terminals s.set new.set q j step.within (h.passed q j has);
  settled = λ q a right rule. elim (h.settled q a right rule) [
    | inl done ↦ inl (step.keeps q done)
    | inr (j, m, le, there) ↦ elim (cases_eq j i) [
      | inl same ↦
          let e : (q, m) ≡ (p, k) = at_once list i (q, m) (p, k) (subst (λ n. slice_get list n ≡ Some (q, m)) same there) at in
          inl (subst (IsSettled g terminals new) (sym (ap (λ (f : ℕ × ℕ). f.0) e)) step.settled)
      | inr other ↦ inr (j, m, omega arith, there)
    ]
  ];
  fewer = (let less = step.fewer in omega (arith, less, h.fewer));
}

-- all of them have gone on
pub advancing_end : (g : GrammarView) (terminals : Bool) (old : State) (list : List (ℕ × ℕ)) (i : ℕ) (s : State) → length list ≤ i →
    IsAdvancing g terminals old list i s → Advances g terminals old s
advancing_end g terminals old list i s le h = record {
  worklist = h.worklist;
  settled = λ p a right rule. elim (h.settled p a right rule) [
    | inl done ↦ done a right rule
    | inr (j, k, from, there) ↦ (let lt = slice_get_within list j (p, k) there in absurd (omega (arith, lt)))
  ];
  fewer = h.fewer;
}

-- at the beginning no production has gone on
pub worklist_start : (g : GrammarView) (terminals : Bool) →
    IsWorklist g terminals (record { set = replicate g.nonterminals false; waiting = []; stopped = replicate g.nonterminals [] })
worklist_start g terminals = record {
  len = length-replicate g.nonterminals false;
  rows = length-replicate {A = List (ℕ × ℕ)} g.nonterminals [];
  sound = λ a has. absurd (IsEmpty-replicate g.nonterminals a has);
  waits = All-nil (λ a. a < g.nonterminals);
  passed = λ b list p k at has.
      let lt : b < g.nonterminals = subst (λ n. b < n) (length-replicate {A = List (ℕ × ℕ)} g.nonterminals [])
      (slice_get_within (replicate g.nonterminals []) b list at) in
      absurd (nothing_in (p, k)
      (subst (λ z. Contains z (p, k)) (sym (default_at (replicate g.nonterminals []) b [] list at) ∙
      get_or-replicate {A = List (ℕ × ℕ)} g.nonterminals b [] [] lt) has));
}

-- of a production no symbol is passed yet
pub passed_none : (g : GrammarView) (terminals : Bool) (set : List Bool) (p : ℕ) → p < length g.productions → IsPassed g terminals set p 0
passed_none g terminals set p lt =
    let ((a, right), at) = at_within g.productions p lt in
    record { left = a; right = right; rule = at; held = All-nil (Holds terminals set) }

-- the productions of a grammar are all that there are
pub settled_all : (g : GrammarView) (terminals : Bool) (s : State) (n : ℕ) → length g.productions ≤ n →
    ((p : ℕ) → p < n → IsSettled g terminals s p) → AreSettled g terminals s
settled_all g terminals s n le each p a right rule = (let lt =
    production_within g p a right rule in each p (omega (arith, lt, le)) a right rule)

-- a production with the right side that was read
pub rule_read : (g : GrammarView) (p a : ℕ) (right read : List Symbol) → IsProduction g p a right →
    IfSome (slice_get g.productions p) (λ r. read ≡ r.1) → IsProduction g p a read
rule_read g p a right read rule is = go (slice_get g.productions p) refl is
  where
    go : (o : Option Production) → slice_get g.productions p ≡ o → IfSome o (λ r. read ≡ r.1) → IsProduction g p a read
    go None e h = cc
    go (Some r) e h =
        let same : r ≡ (a, right) = same_Some r (a, right) (sym e ∙ rule) in
        subst (λ z. IsProduction g p a z) (sym (h ∙ ap (λ (q : Production). q.1) same)) rule

-- where no member waits the set is the least one
pub worklist_end : (g : GrammarView) (terminals : Bool) (s : State) → IsWorklist g terminals s → AreSettled g terminals s → s.waiting ≡ [] →
    IsLeastSet g terminals s.set
worklist_end g terminals s w settled empty = least_set_is g terminals s.set w.len w.sound closed
  where
    unblocked : (p : ℕ) (x : Symbol) → Holds terminals s.set x → Blocks terminals s p x → ⊥
    unblocked p (Terminal t) held blocks = true≢false (sym held ∙ blocks)
    unblocked p (Nonterminal b) held (at, inl out) = out held
    unblocked p (Nonterminal b) held (at, inr waits) = nothing_in b (subst (λ z. Contains z b) empty waits)

    closed : (p : ℕ) → IsClosedAt g terminals s.set p
    closed p a right rule all = elim (settled p a right rule) [
      | inl member ↦ member
      | inr blocked ↦ absurd
          (unblocked p blocked.symbol (All-contains (Holds terminals s.set) right blocked.symbol all blocked.within) blocked.blocks)
    ]
