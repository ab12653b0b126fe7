-- Pairs that have to be compared: how they are listed, and what they leave out.
use Rattle.std.proofs.Common.{◌≡◌, ℕ, ◌+◌, ◌<◌, ◌≤◌, ◌⊎◌, Bool, List, [], ◌∷◌, ◌++◌, length, get_or, refl, sym, ap, subst, inl, inr, arith}
use Rattle.std.specs.Prelude.{Contains, ◌↔◌}
use Rattle.std.proofs.lemmas.Bool.{cases_lt}
use Rattle.std.proofs.lemmas.List.{get_or_default}
use Rattle.std.proofs.lemmas.List.Elements.{All-get_or}
use Rattle.std.proofs.lemmas.Option.{slice_get_within}
use Rattle.wb_lemmas.proofs.Members.{contains_push, push_contains, push_contains_last, nothing_in}
use Rattle.wb_regex.specs.Tree.{Tree}
use Rattle.wb_termset.specs.Sets.{IsMember, IsNextMember, HasNoneFrom}
use Rattle.wb_termset.proofs.CallerLemmas.{has_below}
use Rattle.wb_lexical.specs.declared.candidates.Compared.{Compared}
use Rattle.wb_lexical.specs.Inner.Candidates.{AreCandidates, AreTextNumbers, IsCandidate, IsSquare, Lists}
use Rattle.wb_lexical.specs.Inner.Rows.{HoldPairs, IsInRow}

-- nothing more
pub lists_none : (P : ℕ → ℕ → Type 0) (list : List (ℕ × ℕ)) → ((t u : ℕ) → ¬ P t u) → Lists P list list
lists_none P list never t u = (λ has. inl has, λ either. elim either [ inl before ↦ before | inr p ↦ absurd (never t u p) ])

-- one pair more
pub lists_push : (P : ℕ → ℕ → Type 0) (list : List (ℕ × ℕ)) (a b : ℕ) → P a b → ((t u : ℕ) → P t u → (t ≡ a) × (u ≡ b))
    → Lists P list (list ++ (a, b) ∷ [])
lists_push P list a b p only t u = (
  λ has. elim (contains_push list (a, b) (t, u) has) [
    | inl before ↦ inl before
    | inr same ↦ inr (subst (λ z. P z u) (ap (λ z. z.0) same) (subst (P a) (ap (λ z. z.1) same) p))
  ],
  λ either. elim either [
    | inl before ↦ push_contains list (a, b) (t, u) before
    | inr fresh ↦
        let (one, other) = only t u fresh in
        subst (λ z. Contains (list ++ (a, b) ∷ []) (z, u)) (sym one)
        (subst (λ z. Contains (list ++ (a, b) ∷ []) (a, z)) (sym other) (push_contains_last list (a, b)))
  ],
)

-- one after another
pub lists_then : (P Q R : ℕ → ℕ → Type 0) (old mid new : List (ℕ × ℕ)) → Lists P old mid → Lists Q mid new
    → ((t u : ℕ) → R t u ↔ (P t u ⊎ Q t u)) → Lists R old new
lists_then P Q R old mid new one two both t u = (
  λ has. elim ((two t u).0 has) [
    | inl before ↦ elim ((one t u).0 before) [ inl first ↦ inl first | inr p ↦ inr ((both t u).1 (inl p)) ]
    | inr q ↦ inr ((both t u).1 (inr q))
  ],
  λ either. elim either [
    | inl first ↦ (two t u).1 (inl ((one t u).1 (inl first)))
    | inr r ↦ elim ((both t u).0 r) [
      | inl p ↦ (two t u).1 (inl ((one t u).1 (inr p)))
      | inr q ↦ (two t u).1 (inr q)
    ]
  ],
)

-- the same by another condition
pub lists_same : (P R : ℕ → ℕ → Type 0) (old new : List (ℕ × ℕ)) → Lists P old new → ((t u : ℕ) → R t u ↔ P t u) → Lists R old new
lists_same P R old new one both t u = (
  λ has. elim ((one t u).0 has) [ inl before ↦ inl before | inr p ↦ inr ((both t u).1 p) ],
  λ either. elim either [ inl before ↦ (one t u).1 (inl before) | inr r ↦ (one t u).1 (inr ((both t u).0 r)) ],
)

-- the pair and the lists that are pushed onto
pub lists_one : (x : Compared) (left right : ℕ) (list : List (ℕ × ℕ)) → IsCandidate x left right
    → Lists (λ t u. (t ≡ left) × (u ≡ right) × IsCandidate x t u) list (list ++ (left, right) ∷ [])
lists_one x left right list is =
    lists_push (λ t u. (t ≡ left) × (u ≡ right) × IsCandidate x t u) list left right (refl, refl, is) (λ t u (one, other, p). (one, other))

-- a pair that isn't compared
pub lists_no : (x : Compared) (left right : ℕ) (list : List (ℕ × ℕ)) → ¬ IsCandidate x left right
    → Lists (λ t u. (t ≡ left) × (u ≡ right) × IsCandidate x t u) list list
lists_no x left right list never =
    lists_none (λ t u. (t ≡ left) × (u ≡ right) × IsCandidate x t u) list
    (λ t u (one, other, p). never (subst (λ z. IsCandidate x z right) one (subst (IsCandidate x t) other p)))

-- the pairs of a terminal with those below a number
abbrev pub PairsBelow : Compared → ℕ → ℕ → ℕ → ℕ → Type 0
PairsBelow x left from t u = (t ≡ left) × (u < from) × IsCandidate x t u

-- no pair is of a terminal with one that isn't greater
pub pairs_first : (x : Compared) (left : ℕ) (list : List (ℕ × ℕ)) → Lists (PairsBelow x left (left + 1)) list list
pairs_first x left list =
    lists_none (PairsBelow x left (left + 1)) list (λ t u (one, lt, p). let less = p.less in omega (arith, one, lt, less))

-- the row of a terminal, as it is read
abbrev pub row_of : Compared → ℕ → List Bool → List Bool
row_of x left d = get_or x.rows.now left d

-- its members are the terminals to which the terminal is related
pub member_is : (x : Compared) (left u : ℕ) (d : List Bool) → left < length x.rows.now → IsMember (row_of x left d) u ↔ IsInRow x.rows.now left u
member_is x left u d lt =
    let is = get_or_default x.rows.now left d [] lt in (
      λ has. subst (λ z. IsMember z u) is has,
      λ has. subst (λ z. IsMember z u) (sym is) has,
    )

-- the second terminal of a pair is a member of the row of the first
in_row : (x : Compared) (left t u : ℕ) (d : List Bool) → left < length x.rows.now → t ≡ left → IsCandidate x t u
    → IsMember (row_of x left d) u
in_row x left t u d lt same p = (member_is x left u d lt).1 (subst (λ (k : ℕ). IsInRow x.rows.now k u) same p.together)

-- one number more
pub pairs_more : (x : Compared) (left from right : ℕ) (d : List Bool) (old mid new : List (ℕ × ℕ)) → left < length x.rows.now
    → IsNextMember (row_of x left d) from right → Lists (PairsBelow x left from) old mid
    → Lists (λ t u. (t ≡ left) × (u ≡ right) × IsCandidate x t u) mid new → Lists (PairsBelow x left (right + 1)) old new
pairs_more x left from right d old mid new lt next one two =
    lists_then (PairsBelow x left from) (λ t u. (t ≡ left) × (u ≡ right) × IsCandidate x t u) (PairsBelow x left (right + 1))
    old mid new one two both
  where
    both : (t u : ℕ) → PairsBelow x left (right + 1) t u
        ↔ (PairsBelow x left from t u ⊎ ((t ≡ left) × (u ≡ right) × IsCandidate x t u))
    both t u = (
      λ (same, low, p). elim (cases_lt u from) [
        | inl early ↦ inl (same, early, p)
        | inr late ↦ elim (cases_lt u right) [
          | inl between ↦ absurd (next.least u late between (in_row x left t u d lt same p))
          | inr past ↦ inr (same, omega (arith, low, past), p)
        ]
      ],
      λ either. elim either [
        | inl (same, low, p) ↦ (same, (let le = next.from_on in omega (arith, low, le)), p)
        | inr (same, here, p) ↦ (same, omega (arith, here), p)
      ],
    )

-- all numbers
pub pairs_all : (x : Compared) (left from : ℕ) (d : List Bool) (old new : List (ℕ × ℕ)) → left < length x.rows.now
    → HasNoneFrom (row_of x left d) from → Lists (PairsBelow x left from) old new
    → Lists (λ t u. (t ≡ left) × IsCandidate x t u) old new
pairs_all x left from d old new lt past one =
    lists_same (PairsBelow x left from) (λ t u. (t ≡ left) × IsCandidate x t u) old new one (λ t u. (
      λ (same, p). (
        same,
        elim (cases_lt u from) [ inl low ↦ low | inr le ↦ absurd (past u le (in_row x left t u d lt same p)) ],
        p,
      ),
      λ (same, low, p). (same, p),
    ))

-- the pairs of the terminals below a number
abbrev pub RowsBelow : Compared → ℕ → ℕ → ℕ → Type 0
RowsBelow x count t u = (t < count) × IsCandidate x t u

-- of no terminals
pub rows_first : (x : Compared) → Lists (RowsBelow x 0) [] []
rows_first x = lists_none (RowsBelow x 0) [] (λ t u (lt, p). omega (arith, lt))

-- one terminal more
pub rows_more : (x : Compared) (left : ℕ) (old new : List (ℕ × ℕ)) → Lists (RowsBelow x left) [] old
    → Lists (λ t u. (t ≡ left) × IsCandidate x t u) old new → Lists (RowsBelow x (left + 1)) [] new
rows_more x left old new one two =
    lists_then (RowsBelow x left) (λ t u. (t ≡ left) × IsCandidate x t u) (RowsBelow x (left + 1)) [] old new one two (λ t u. (
      λ (lt, p). elim (cases_lt t left) [ inl early ↦ inl (early, p) | inr late ↦ inr ((omega (arith, lt, late)), p) ],
      λ either. elim either [ inl (lt, p) ↦ (omega (arith, lt), p) | inr (same, p) ↦ (omega (arith, same), p) ],
    ))

-- all terminals
pub rows_all : (x : Compared) (count : ℕ) (new : List (ℕ × ℕ)) → length x.rows.now ≤ count → Lists (RowsBelow x count) [] new
    → Lists (IsCandidate x) [] new
rows_all x count new past one = lists_same (RowsBelow x count) (IsCandidate x) [] new one (λ t u. (
  λ p. ((let a = p.less in let b = p.within in omega (arith, a, b, past)), p),
  λ (lt, p). p,
))

-- what is listed are candidates, and the others match no common text
pub candidates_are : (terminals : List Tree) (x : Compared) (pairs : List (ℕ × ℕ)) → length x.rows.now ≡ length terminals
    → AreTextNumbers terminals x.texts.now → Lists (IsCandidate x) [] pairs
    → AreCandidates terminals (IsInRow x.rows.now) (IsInRow x.ordered.now) pairs
candidates_are terminals x pairs len texts lists = record {
  less = λ t u has. (is t u has).less;
  within = λ t u has. let lt = (is t u has).within in omega (arith, lt, len);
  together = λ t u has. (is t u has).together;
  unordered = λ t u has. (is t u has).unordered;
  complete = λ t u text less together unordered left right. (lists t u).1 (inr (record {
    less = less;
    within = (let lt = slice_get_within terminals u right.tree right.at in omega (arith, lt, len));
    together = together;
    unordered = unordered;
    alike = λ others. texts.apart t u text others left right;
  }));
}
  where
    is : (t u : ℕ) → Contains pairs (t, u) → IsCandidate x t u
    is t u has = elim ((lists t u).0 has) [ inl never ↦ absurd (nothing_in (t, u) never) | inr p ↦ p ]

-- where rows hold a relation, candidates by the rows are candidates by the relation
pub candidates_together : (terminals : List Tree) (Together Ordered : ℕ → ℕ → Type 0) (count : ℕ) (rows : List (List Bool))
    (pairs : List (ℕ × ℕ)) → count ≡ length terminals → HoldPairs count Together rows
    → AreCandidates terminals (IsInRow rows) Ordered pairs → AreCandidates terminals Together Ordered pairs
candidates_together terminals Together Ordered count rows pairs same hold are = record {
  less = are.less;
  within = are.within;
  together = λ t u has. (hold.each t u (low t u has) (high t u has)).0 (are.together t u has);
  unordered = are.unordered;
  complete = λ t u text less together unordered left right.
      let lt = slice_get_within terminals t left.tree left.at in
      let lu = slice_get_within terminals u right.tree right.at in
      are.complete t u text less ((hold.each t u (omega (arith, lt, same)) (omega (arith, lu, same))).1 together) unordered left right;
}
  where
    high : (t u : ℕ) → Contains pairs (t, u) → u < count
    high t u has = let b = are.within t u has in omega (arith, b, same)

    low : (t u : ℕ) → Contains pairs (t, u) → t < count
    low t u has = let a = are.less t u has in let b = high t u has in omega (arith, a, b)

-- and for the other relation
pub candidates_ordered : (terminals : List Tree) (Together Ordered : ℕ → ℕ → Type 0) (count : ℕ) (ordered : List (List Bool))
    (pairs : List (ℕ × ℕ)) → count ≡ length terminals → HoldPairs count Ordered ordered
    → AreCandidates terminals Together (IsInRow ordered) pairs → AreCandidates terminals Together Ordered pairs
candidates_ordered terminals Together Ordered count ordered pairs same hold are = record {
  less = are.less;
  within = are.within;
  together = are.together;
  unordered = λ t u has named. are.unordered t u has ((hold.each t u (low t u has) (high t u has)).1 named);
  complete = λ t u text less together unordered left right.
      let lt = slice_get_within terminals t left.tree left.at in
      let lu = slice_get_within terminals u right.tree right.at in
      are.complete t u text less together
      (λ named. unordered ((hold.each t u (omega (arith, lt, same)) (omega (arith, lu, same))).0 named)) left right;
}
  where
    high : (t u : ℕ) → Contains pairs (t, u) → u < count
    high t u has = let b = are.within t u has in omega (arith, b, same)

    low : (t u : ℕ) → Contains pairs (t, u) → t < count
    low t u has = let a = are.less t u has in let b = high t u has in omega (arith, a, b)

-- a member of a row is the second terminal of a pair of it, and below the count
pub member_within : (x : Compared) (left from right : ℕ) (d : List Bool) → IsSquare x → left < length x.rows.now
    → IsNextMember (row_of x left d) from right → right < length x.rows.now
member_within x left from right d square lt next =
    let below = has_below (row_of x left d) right next.member in
    let width = All-get_or (λ (s : List Bool). length s ≡ length x.rows.now) x.rows.now left d lt square.widths in
    omega (arith, below, width)
