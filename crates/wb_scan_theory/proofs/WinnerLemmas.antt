-- At each prefix and place at most one form wins, and one does where any that is considered matches.
use Rattle.std.proofs.Common.{◌≡◌, ◌≢◌, ◌⊎◌, ◌<◌, ◌≤◌, ℕ, zero, suc, List, [], ◌∷◌, ◌++◌, length, drop, refl, sym, ◌∙◌, ap, subst, inl, inr}
use Rattle.std.proofs.Common.{arith}
use Rattle.std.specs.Prelude.{map}
use Rattle.std.proofs.lemmas.Bool.{cases_eq, cases_order}
use Rattle.std.proofs.lemmas.Option.{slice_get_within}
use Rattle.wb_lemmas.proofs.Parts.{append_same_left}
use Rattle.wb_base.specs.declared.symbol.Symbol.{Symbol}
use Rattle.wb_grammar_theory.specs.Items.{IsViablePrefix}
use Rattle.wb_scan_theory.specs.Languages.{LanguageView}
use Rattle.wb_scan_theory.specs.Winners.{IsConsideredForm, MatchesAt, BeatsAt, Wins}
use Rattle.wb_scan_theory.specs.Facts.{HasWinner, AreDecided}
use Rattle.wb_scan_theory.proofs.MatchLemmas.{match_decided}
use Rattle.wb_scan_theory.proofs.Tournament.{Lists, Champion, nobody, champion, tournament}

-- two matches at one place of one length have one text
pub piece_same : {l : LanguageView} {prefix : List Symbol} {text : List ℕ} {at p q : ℕ} {x y : List ℕ} → MatchesAt l prefix text at p x →
    MatchesAt l prefix text at q y → length x ≡ length y → x ≡ y
piece_same {x = x} {y = y} m n same = append_same_left x y m.rest n.rest same (sym m.here ∙ n.here)

-- at most one form wins, with one text
pub one_winner : {l : LanguageView} → AreDecided l → {prefix : List Symbol} {text : List ℕ} {at p q : ℕ} {x y : List ℕ} →
    Wins l prefix text at p x → Wins l prefix text at q y → (p ≡ q) × (x ≡ y)
one_winner decided {prefix} {text} {at} {p} {q} {x} {y} w v =
    let a : length y ≤ length x = w.longest q y v.matches in
    let b : length x ≤ length y = v.longest p x w.matches in
    let same : length x ≡ length y = omega arith in (
      elim (cases_eq p q) [
        | inl e ↦ e
        | inr ne ↦ absurd (decided.no_two p q (w.beats q y v.matches (sym same) (λ e. ne (sym e))) (v.beats p x w.matches same ne))
      ],
      piece_same w.matches v.matches same,
    )

-- a form's place with the piece that it matches
pub record Play : Type 0 where
  pub place : ℕ
  pub piece : List ℕ

abbrev pub Plays : LanguageView → List Symbol → List ℕ → ℕ → Play → Type 0
Plays l prefix text at p = MatchesAt l prefix text at p.place p.piece

-- the longer one, or of one length the one that beats the other
abbrev pub Better : LanguageView → Play → Play → Type 0
Better l p q = (length q.piece < length p.piece) ⊎ ((length p.piece ≡ length q.piece) × BeatsAt l p.place q.place)

better_least : (l : LanguageView) (p q : Play) → Better l p q → length q.piece ≤ length p.piece
better_least l p q (inl less) = omega arith
better_least l p q (inr (same, b)) = omega arith

better_ring : {l : LanguageView} → AreDecided l → (p q r : Play) → Better l p q → Better l q r → Better l r p → ⊥
better_ring {l} decided p q r (inl a) b d =
    let b' = better_least l q r b in
    let d' = better_least l r p d in omega arith
better_ring {l} decided p q r (inr (s, a)) (inl b) d =
    let d' = better_least l r p d in omega arith
better_ring decided p q r (inr (s, a)) (inr (s', b)) (inl d) = omega arith
better_ring decided p q r (inr (s, a)) (inr (s', b)) (inr (s'', d)) = decided.no_three p.place q.place r.place a b d

play_same : (p q : Play) → p.place ≡ q.place → p.piece ≡ q.piece → p ≡ q
play_same p q f t = λ j. record { place = f j; piece = t j }

-- all fronts of a text
abbrev fronts : List ℕ → List (List ℕ)
fronts [] = [] ∷ []
fronts (c ∷ cs) = [] ∷ map (λ xs. c ∷ xs) (fronts cs)

abbrev plays_of : ℕ → List (List ℕ) → List Play
plays_of p [] = []
plays_of p (t ∷ ts) = record { place = p; piece = t } ∷ plays_of p ts

abbrev all_plays : ℕ → List (List ℕ) → List Play
all_plays zero ts = []
all_plays (suc n) ts = plays_of n ts ++ all_plays n ts

lists_left : {A : Type 0} (xs ys : List A) (a : A) → Lists xs a → Lists (xs ++ ys) a
lists_left [] ys a m = absurd m
lists_left (x ∷ xs) ys a (inl is) = inl is
lists_left (x ∷ xs) ys a (inr m) = inr (lists_left xs ys a m)

lists_right : {A : Type 0} (xs ys : List A) (a : A) → Lists ys a → Lists (xs ++ ys) a
lists_right [] ys a m = m
lists_right (x ∷ xs) ys a m = inr (lists_right xs ys a m)

lists_map : {A B : Type 0} (f : A → B) (xs : List A) (a : A) → Lists xs a → Lists (map f xs) (f a)
lists_map f [] a m = absurd m
lists_map f (x ∷ xs) a (inl is) = inl (ap f is)
lists_map f (x ∷ xs) a (inr m) = inr (lists_map f xs a m)

lists_front : (here x rest : List ℕ) → here ≡ x ++ rest → Lists (fronts here) x
lists_front [] [] rest is = inl refl
lists_front [] (a ∷ x) rest is = cc
lists_front (c ∷ cs) [] rest is = inl refl
lists_front (c ∷ cs) (a ∷ x) rest is =
    let first : c ≡ a = cc in
    let later : cs ≡ x ++ rest = cc in
    inr (subst (λ z. Lists (map (λ xs. c ∷ xs) (fronts cs)) (z ∷ x)) first
    (lists_map (λ xs. c ∷ xs) (fronts cs) x (lists_front cs x rest later)))

lists_play : (p : ℕ) (ts : List (List ℕ)) (t : List ℕ) → Lists ts t → Lists (plays_of p ts) (record { place = p; piece = t })
lists_play p [] t m = absurd m
lists_play p (x ∷ ts) t (inl is) = inl (ap (λ z. record { place = p; piece = z }) is)
lists_play p (x ∷ ts) t (inr m) = inr (lists_play p ts t m)

lists_all : (n : ℕ) (ts : List (List ℕ)) (p : Play) → p.place < n → Lists ts p.piece → Lists (all_plays n ts) p
lists_all zero ts p less m = absurd (let h : p.place < 0 = less in omega arith)
lists_all (suc n) ts p less m = elim (cases_eq p.place n) [
  | inl is ↦ lists_left (plays_of n ts) (all_plays n ts) p (subst (λ z. Lists (plays_of z ts) p) is (lists_play p.place ts p.piece m))
  | inr ne ↦ (let h : p.place < suc n = less in lists_right (plays_of n ts) (all_plays n ts) p (lists_all n ts p (omega arith) m))
]

-- what is left of a text after a prefix
strip : (p x : List ℕ) → ((y : List ℕ) × (x ≡ p ++ y)) ⊎ ((y : List ℕ) → x ≡ p ++ y → ⊥)
strip [] x = inl (x, refl)
strip (a ∷ p) [] = inr (λ y e. cc)
strip (a ∷ p) (b ∷ x) = go (cases_eq b a) (strip p x)
  where
    go : (b ≡ a) ⊎ (b ≡ a → ⊥) → ((y : List ℕ) × (x ≡ p ++ y)) ⊎ ((y : List ℕ) → x ≡ p ++ y → ⊥) →
        ((y : List ℕ) × (b ∷ x ≡ a ∷ p ++ y)) ⊎ ((y : List ℕ) → b ∷ x ≡ a ∷ p ++ y → ⊥)
    go (inr ne) k = inr (λ y e. ne (cc))
    go (inl is) (inl (y, e)) = inl (y, cc)
    go (inl is) (inr out) = inr (λ y e. out y (cc))

-- whether a form matches at a prefix and a place is decided where it is whether the form is considered
pub match_at : (l : LanguageView) (prefix : List Symbol) →
    ((p : ℕ) → IsConsideredForm l prefix p ⊎ (IsConsideredForm l prefix p → ⊥)) → (text : List ℕ) (at p : ℕ) (x : List ℕ) →
    MatchesAt l prefix text at p x ⊎ (MatchesAt l prefix text at p x → ⊥)
match_at l prefix considers text at p x = elim (considers p) [
  | inr out ↦ inr (λ m. out m.considered)
  | inl c ↦ elim (match_decided l.expressions p x) [
    | inr out ↦ inr (λ m. out m.is)
    | inl is ↦ elim (strip x (drop at text)) [
      | inr out ↦ inr (λ m. out m.rest m.here)
      | inl (rest, here) ↦ inl (record { considered = c; is = is; rest = rest; here = here })
    ]
  ]
]

module _ {l : LanguageView} (decided : AreDecided l) (prefix : List Symbol) (viable : IsViablePrefix l.grammar prefix) (text : List ℕ)
    (at : ℕ) where
  better_total : (p q : Play) → Plays l prefix text at p → Plays l prefix text at q → (p ≡ q) ⊎ Better l p q ⊎ Better l q p
  better_total p q mp mq = go (cases_order (length p.piece) (length q.piece))
    where
      tie : length p.piece ≡ length q.piece → p.piece ≡ q.piece → (p.place ≡ q.place) ⊎ (p.place ≡ q.place → ⊥) →
          (p ≡ q) ⊎ Better l p q ⊎ Better l q p
      tie same piece_is (inl is) = inl (play_same p q is piece_is)
      tie same piece_is (inr ne) = elim
          (decided.pairs prefix viable text at p.place q.place q.piece ne (subst (MatchesAt l prefix text at p.place) piece_is mp) mq) [
            | inl b ↦ inr (inl (inr (same, b)))
            | inr b ↦ inr (inr (inr (sym same, b)))
          ]

      go : (length p.piece ≡ length q.piece) ⊎ ((length p.piece < length q.piece) ⊎ (length q.piece < length p.piece)) →
          (p ≡ q) ⊎ Better l p q ⊎ Better l q p
      go (inl same) = tie same (piece_same mp mq same) (cases_eq p.place q.place)
      go (inr (inl less)) = inr (inr (inl less))
      go (inr (inr less)) = inr (inl (inl less))

  -- where any considered form matches, one wins
  pub won_or_none : ((p : ℕ) → IsConsideredForm l prefix p ⊎ (IsConsideredForm l prefix p → ⊥)) →
      HasWinner l prefix text at ⊎ ((p : ℕ) (x : List ℕ) → MatchesAt l prefix text at p x → ⊥)
  won_or_none considers =
      go (tournament (Better l) (Plays l prefix text at) better_total (λ p q r mp mq mr. better_ring decided p q r)
      (λ p. match_at l prefix considers text at p.place p.piece) (all_plays (length l.expressions) (fronts (drop at text))))
    where
      listed : (p : Play) → Plays l prefix text at p → Lists (all_plays (length l.expressions) (fronts (drop at text))) p
      listed p m = lists_all (length l.expressions) (fronts (drop at text)) p
          (slice_get_within l.expressions p.place m.is.tree m.is.at) (lists_front (drop at text) p.piece m.rest m.here)

      go : Champion (Better l) (Plays l prefix text at) (all_plays (length l.expressions) (fronts (drop at text))) →
          HasWinner l prefix text at ⊎ ((p : ℕ) (x : List ℕ) → MatchesAt l prefix text at p x → ⊥)
      go (nobody none) = inr (λ p x m. none (record { place = p; piece = x }) m (listed (record { place = p; piece = x }) m))
      go (champion c mc best) = inl (
        c.place,
        c.piece,
        record {
          matches = mc;
          longest = λ q y mq. longest (record { place = q; piece = y })
              (best (record { place = q; piece = y }) mq (listed (record { place = q; piece = y }) mq));
          beats = λ q y mq same ne. beats (record { place = q; piece = y }) same ne
              (best (record { place = q; piece = y }) mq (listed (record { place = q; piece = y }) mq));
        },
      )
        where
          longest : (q : Play) → (q ≡ c) ⊎ Better l c q → length q.piece ≤ length c.piece
          longest q (inl is) = let h : length q.piece ≡ length c.piece = ap (λ z. length z.piece) is in omega arith
          longest q (inr b) = better_least l c q b

          beats : (q : Play) → length q.piece ≡ length c.piece → q.place ≢ c.place → (q ≡ c) ⊎ Better l c q → BeatsAt l c.place q.place
          beats q same ne (inl is) = absurd (ne (ap (λ z. z.place) is))
          beats q same ne (inr (inl less)) = absurd (let h : length q.piece < length c.piece = less in omega arith)
          beats q same ne (inr (inr (same', b))) = b

-- whether any of the plays of a list is one
any_play : (l : LanguageView) (prefix : List Symbol) (text : List ℕ) (at : ℕ) →
    ((p : Play) → Plays l prefix text at p ⊎ (Plays l prefix text at p → ⊥)) → (ps : List Play) →
    ((p : Play) × Plays l prefix text at p) ⊎ ((p : Play) → Lists ps p → Plays l prefix text at p → ⊥)
any_play l prefix text at decide [] = inr (λ p listed m. listed)
any_play l prefix text at decide (p ∷ ps) = elim (decide p) [
  | inl m ↦ inl (p, m)
  | inr out ↦ elim (any_play l prefix text at decide ps) [
    | inl found ↦ inl found
    | inr none ↦ inr (λ q listed m. neither q listed m out none)
  ]
]
  where
    neither : (q : Play) → Lists (p ∷ ps) q → Plays l prefix text at q → (Plays l prefix text at p → ⊥) →
        ((q : Play) → Lists ps q → Plays l prefix text at q → ⊥) → ⊥
    neither q (inl is) m out none = out (subst (Plays l prefix text at) (sym is) m)
    neither q (inr listed) m out none = none q listed m

-- whether any form matches at a prefix and a place
pub any_match : (l : LanguageView) (prefix : List Symbol) →
    ((p : ℕ) → IsConsideredForm l prefix p ⊎ (IsConsideredForm l prefix p → ⊥)) → (text : List ℕ) (at : ℕ) →
    ((p : ℕ) × (x : List ℕ) × MatchesAt l prefix text at p x) ⊎ ((p : ℕ) (x : List ℕ) → MatchesAt l prefix text at p x → ⊥)
any_match l prefix considers text at = elim (any_play l prefix text at
    (λ p. match_at l prefix considers text at p.place p.piece) (all_plays (length l.expressions) (fronts (drop at text)))) [
      | inl (p, m) ↦ inl (p.place, p.piece, m)
      | inr none ↦ inr (λ p x m. none (record { place = p; piece = x }) (listed p x m) m)
    ]
  where
    listed : (p : ℕ) (x : List ℕ) → MatchesAt l prefix text at p x →
        Lists (all_plays (length l.expressions) (fronts (drop at text))) (record { place = p; piece = x })
    listed p x m = lists_all (length l.expressions) (fronts (drop at text)) (record { place = p; piece = x })
        (slice_get_within l.expressions p m.is.tree m.is.at) (lists_front (drop at text) x m.rest m.here)
