-- First sets: what can begin symbols by them, and when they are First.
use Rattle.std.proofs.Common.{◌≡◌, ℕ, ◌+◌, ◌-◌, zero, suc, ◌<◌, ◌≤◌, ◌⊎◌, Bool, true, false, List, [], ◌∷◌, ◌++◌, length, get_or, set}
use Rattle.std.proofs.Common.{replicate, refl, sym, ◌∙◌, ap, get_or-set_same, get_or-set_other, inl, inr, arith}
use Rattle.std.specs.Prelude.{All, ◌↔◌}
use Rattle.std.proofs.lemmas.List.{get_or-replicate, get_or_past, length-replicate}
use Rattle.std.proofs.lemmas.List.Elements.{All-head, All-tail}
use Rattle.std.proofs.lemmas.Bool.{true≢false, cases_eq, cases_lt}
use Rattle.wb_base.specs.declared.symbol.Symbol.{Symbol}
use Rattle.wb_base.specs.declared.symbol.Symbol.TheVariants.{Terminal, Nonterminal}
use Rattle.wb_base.specs.Grammar.{GrammarView}
use Rattle.wb_termset.specs.Sets.{IsMember, IsUnion, Grew, members}
use Rattle.wb_termset.proofs.CallerLemmas.{IsEmpty-replicate, members_le, members_mono, members_grow}
use Rattle.wb_grammar_theory.specs.Productions.{IsProduction}
use Rattle.wb_grammar_theory.specs.Derives.{Derives, done, keep, expand, IsNullable, IsFirst}
use Rattle.wb_grammar_theory.proofs.DerivesLemmas.{append_nil, Derives-same, First-of_head, First-of_tail}
use Rattle.wb_grammar.specs.Facts.{IsNullableSet, AreSets, AreFirstSets, set_of}
use Rattle.wb_grammar.specs.Inner.Firsts.{CanBegin, AreFirsts, IsFirstClosedAt, SetsWithin, SetsGrew}

-- after the symbols before `left`, the terminals in the set, and those that can begin `left`, are those that can begin all
abbrev pub Begun : List Bool → List (List Bool) → List Symbol → List Bool → List Symbol → Type 0
Begun nullable rows all set left = (t : ℕ) → CanBegin nullable rows all t ↔ (IsMember set t ⊎ CanBegin nullable rows left t)

-- a pass over the productions, which has come to p
pub record FirstPass (g : GrammarView) (nullable : List Bool) (before rows : List (List Bool)) (p : ℕ) (some : Bool) : Type 0 where
  pub shape : AreSets g rows
  pub sound : AreFirsts g rows
  pub keeps : SetsWithin before rows
  pub grew : some ≡ true → SetsGrew before rows
  pub closed : some ≡ false → (q : ℕ) → q < p → IsFirstClosedAt g nullable rows q

-- how many members the sets lack
abbrev pub room : List (List Bool) → ℕ
room [] = 0
room (r ∷ rows) = (length r - members r) + room rows

room_mono : (old new : List (List Bool)) → length old ≡ length new → SetsWithin old new → (n : ℕ) → All (λ r. length r ≡ n) old →
    All (λ r. length r ≡ n) new → room new ≤ room old
room_mono [] [] e h n p q = omega arith
room_mono [] (y ∷ new) e h n p q = absurd (omega arith)
room_mono (x ∷ old) [] e h n p q = absurd (omega arith)
room_mono (x ∷ old) (y ∷ new) e h n p q =
    let rest = room_mono old new (omega arith) (λ a. h (suc a)) n (All-tail (λ r. length r ≡ n) x old p)
    (All-tail (λ r. length r ≡ n) y new q) in
    let a : length x ≡ n = All-head (λ r. length r ≡ n) x old p in
    let b : length y ≡ n = All-head (λ r. length r ≡ n) y new q in
    let more : members x ≤ members y = members_mono x y (a ∙ sym b) (h 0) in
    omega (arith, members_le y, rest)

pub room_grow : (old new : List (List Bool)) (a : ℕ) → length old ≡ length new → SetsWithin old new → (n : ℕ) →
    All (λ r. length r ≡ n) old → All (λ r. length r ≡ n) new → Grew (set_of old a) (set_of new a) → room new < room old
room_grow [] [] a e h n p q (k, out, on) = absurd (true≢false (sym on))
room_grow [] (y ∷ new) a e h n p q grew = absurd (omega arith)
room_grow (x ∷ old) [] a e h n p q grew = absurd (omega arith)
room_grow (x ∷ old) (y ∷ new) zero e h n p q grew =
    let rest = room_mono old new (omega arith) (λ a. h (suc a)) n (All-tail (λ r. length r ≡ n) x old p)
    (All-tail (λ r. length r ≡ n) y new q) in
    let a : length x ≡ n = All-head (λ r. length r ≡ n) x old p in
    let b : length y ≡ n = All-head (λ r. length r ≡ n) y new q in
    let more : members x < members y = members_grow x y (a ∙ sym b) (h 0) grew in
    omega (arith, members_le y, rest)
room_grow (x ∷ old) (y ∷ new) (suc a) e h n p q grew =
    let rest = room_grow old new a (omega arith) (λ a. h (suc a)) n (All-tail (λ r. length r ≡ n) x old p)
    (All-tail (λ r. length r ≡ n) y new q) grew in
    let a : length x ≡ n = All-head (λ r. length r ≡ n) x old p in
    let b : length y ≡ n = All-head (λ r. length r ≡ n) y new q in
    let more : members x ≤ members y = members_mono x y (a ∙ sym b) (h 0) in
    omega (arith, members_le y, rest)

-- what can begin the symbols by sound sets is in First
pub begin_sound : (g : GrammarView) (nullable : List Bool) (rows : List (List Bool)) → ((a : ℕ) → IsMember nullable a → IsNullable g a) →
    AreFirsts g rows → (w : List Symbol) (t : ℕ) → CanBegin nullable rows w t → IsFirst g w t
begin_sound g nullable rows n sound [] t h = absurd h
begin_sound g nullable rows n sound (Terminal u ∷ w) t h = (w, rw h (Derives-same g (Terminal u ∷ w)))
begin_sound g nullable rows n sound (Nonterminal b ∷ w) t h = elim h [
  | inl has ↦ First-of_head (Nonterminal b) w t (sound b t has)
  | inr later ↦ First-of_tail (Nonterminal b) w t (n b later.0) (begin_sound g nullable rows n sound w t later.1)
]

-- the case of a production, from what holds of its right side and of the later symbols
begin_expand : (g : GrammarView) (nullable : List Bool) (rows : List (List Bool)) (a : ℕ) (w u v rest : List Symbol) (t : ℕ)
    → (u ≡ [] → IsMember nullable a) → ((z : List Symbol) → u ≡ Terminal t ∷ z → IsMember (set_of rows a) t)
    → ((z : List Symbol) → v ≡ Terminal t ∷ z → CanBegin nullable rows w t)
    → Terminal t ∷ rest ≡ u ++ v → CanBegin nullable rows (Nonterminal a ∷ w) t
begin_expand g nullable rows a w [] v rest t empty first later is = inr (empty refl, later rest (sym is))
begin_expand g nullable rows a w (y ∷ u) v rest t empty first later is = inl (first u (cc))

-- what is in First can begin the symbols by closed sets
pub begin_complete : {g : GrammarView} (nullable : List Bool) (rows : List (List Bool)) → ((a : ℕ) → IsNullable g a → IsMember nullable a) →
    ((p : ℕ) → IsFirstClosedAt g nullable rows p) → {w x : List Symbol} → Derives g w x → (t : ℕ) (v : List Symbol) → x ≡ Terminal t ∷ v →
    CanBegin nullable rows w t
begin_complete nullable rows n closed done t v e = cc
begin_complete nullable rows n closed (keep (Terminal u) r) t v e = cc
begin_complete nullable rows n closed (keep (Nonterminal b) r) t v e = cc
begin_complete {g} nullable rows n closed (expand p a right u v {w} rule r s is) t rest e =
    begin_expand g nullable rows a w u v rest t
    (λ empty. n a (expand p a right u [] rule r done (sym empty ∙ sym (append_nil u))))
    (λ z f. closed p a right rule t (begin_complete nullable rows n closed r t z f))
    (λ z f. begin_complete nullable rows n closed s t z f)
    (sym e ∙ is)

-- sound and closed sets are First
pub first_exact : (g : GrammarView) (nullable : List Bool) (rows : List (List Bool)) → IsNullableSet g nullable → AreSets g rows →
    AreFirsts g rows → ((p : ℕ) → IsFirstClosedAt g nullable rows p) → AreFirstSets g rows
first_exact g nullable rows n shape sound closed =
    record {
      shape = shape;
      each = λ a t. (
        sound a t,
        λ f. elim (begin_complete nullable rows (λ b. (n.each b).1) closed f.1 t f.0 refl) [
          | inl has ↦ has
          | inr later ↦ absurd later.1
        ],
      );
    }

-- a union with what can begin a right side is sound
pub sound_add : (g : GrammarView) (nullable new begin : List Bool) (rows : List (List Bool)) (p a : ℕ) (right : List Symbol) →
    IsNullableSet g nullable → AreFirsts g rows → IsProduction g p a right → a < length rows →
    ((t : ℕ) → IsMember begin t → CanBegin nullable rows right t) → IsUnion (set_of rows a) begin new → AreFirsts g (set rows a new)
sound_add g nullable new begin rows p a right n sound rule lt exact union b t has =
    elim (cases_eq b a) [
      | inl same ↦
          let at : set_of (set rows a new) b ≡ new = rw same (get_or-set_same rows a new [] lt) in
          let has' : IsMember new t = ap (λ s. get_or s t false) (sym at) ∙ has in
          elim ((union.each t).0 has') [
            | inl old ↦ rw same (sound a t old)
            | inr fresh ↦ (let (v, r) = begin_sound g nullable rows (λ b. (n.each b).0) sound right t (exact t fresh) in
                rw same (v, expand p a right (Terminal t ∷ v) [] rule r done (sym (append_nil (Terminal t ∷ v)))))
          ]
      | inr other ↦ sound b t (ap (λ s. get_or s t false) (sym (get_or-set_other rows a b new [] other)) ∙ has)
    ]

-- the sets lack less after a pass in which one grew
pub room_less : (g : GrammarView) (old new : List (List Bool)) → AreSets g old → AreSets g new → SetsWithin old new → SetsGrew old new →
    room new < room old
room_less g old new p q keeps (a, lt, grew) = room_grow old new a (p.len ∙ sym q.len) keeps (g.terminals + 1) p.each q.each grew

pub no_members : (g : GrammarView) (n m : ℕ) → AreFirsts g (replicate n (replicate m false))
no_members g n m a t has = elim (cases_lt a n) [
  | inl lt ↦ absurd (IsEmpty-replicate m t (ap (λ s. get_or s t false) (sym (get_or-replicate n a (replicate m false) [] lt)) ∙ has))
  | inr past ↦ absurd (true≢false
      (sym has ∙ ap (λ s. get_or s t false)
      (get_or_past (replicate n (replicate m false)) a [] (omega (arith, length-replicate n (replicate m false))))))
]
