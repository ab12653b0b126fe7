-- A grammar has one list of lines as they are first reached.
use Rattle.std.proofs.Common.{◌≡◌, ℕ, ◌<◌, ◌≤◌, ◌+◌, zero, suc, List, [], ◌∷◌, ◌++◌, length, length-take, take, drop, Some, refl, sym}
use Rattle.std.proofs.Common.{◌∙◌, ap, subst, inl, inr, arith}
use Rattle.std.specs.Prelude.{◌⊎◌, slice_get}
use Rattle.std.proofs.lemmas.Bool.{cases_lt}
use Rattle.std.proofs.lemmas.List.{take-append-drop, take_all, take_more}
use Rattle.std.proofs.lemmas.Option.{slice_get_within, get_or_from_slice_get}
use Rattle.wb_lemmas.proofs.Places.{at_take, at_within}
use Rattle.wb_base.specs.declared.symbol.Symbol.{Symbol}
use Rattle.wb_base.specs.declared.symbol.Symbol.TheVariants.{Terminal, Nonterminal}
use Rattle.wb_base.specs.Grammar.{GrammarView}
use Rattle.wb_items.specs.Order.{SymbolPrecedes}
use Rattle.wb_recheck_theory.specs.declared.line.Line.{Line}
use Rattle.wb_recheck_theory.specs.Lines.{HasMove, IsMoveOf, AreGoodLines, AreMovesListed}
use Rattle.wb_recheck_theory.proofs.GrowLemmas.{item_grown, item_shrunk, move_grown}
use Rattle.wb_recheck_writer.specs.Order.{AreLinesInOrder, MovePrecedes}

-- the first ones and the next
pub take_at : {X : Type 0} (xs : List X) (n : ℕ) (x : X) → slice_get xs n ≡ Some x → take (n + 1) xs ≡ take n xs ++ x ∷ []
take_at xs n x at =
    take_more xs n x (slice_get_within xs n x at) ∙ ap (λ z. take n xs ++ z ∷ []) (get_or_from_slice_get xs n x x at)

-- what is before a place is among the first
pub in_take : {X : Type 0} (xs : List X) (n m : ℕ) (x : X) → m < n → slice_get xs m ≡ Some x → slice_get (take n xs) m ≡ Some x
in_take [] n m x lt at = cc
in_take (y ∷ xs) zero m x lt at = absurd (omega (arith, lt))
in_take (y ∷ xs) (suc n) zero x lt at = at
in_take (y ∷ xs) (suc n) (suc m) x lt at = in_take xs n m x (omega (arith, lt)) at

-- so it is in each list that begins alike
pub across : {X : Type 0} (xs ys : List X) (n m : ℕ) (x : X) → take n xs ≡ take n ys → m < n → slice_get xs m ≡ Some x →
    slice_get ys m ≡ Some x
across xs ys n m x same lt at =
    (at_take ys n m x (subst (λ z. slice_get z m ≡ Some x) same (in_take xs n m x lt at))).1

-- lists of which each begins with the other are one
pub same_lists : {X : Type 0} (xs ys : List X) → (length xs ≤ length ys) × (take (length xs) xs ≡ take (length xs) ys) →
    (length ys ≤ length xs) × (take (length ys) ys ≡ take (length ys) xs) → xs ≡ ys
same_lists xs ys (le, same) (ge, _) =
    sym (take_all (length xs) xs (omega arith)) ∙ (same ∙ take_all (length xs) ys (omega (arith, ge)))

pub compare_numbers : (m n : ℕ) → (m < n) ⊎ ((m ≡ n) ⊎ (n < m))
compare_numbers m n = elim (cases_lt m n) [
  | inl less ↦ inl less
  | inr past ↦ elim (cases_lt n m) [
    | inl more ↦ inr (inr more)
    | inr still ↦ inr (inl (omega (arith, past, still)))
  ]
]

pub compare_symbols : (x y : Symbol) → SymbolPrecedes x y ⊎ ((x ≡ y) ⊎ SymbolPrecedes y x)
compare_symbols (Terminal t) (Terminal u) = elim (compare_numbers t u) [
  | inl less ↦ inl less
  | inr (inl same) ↦ inr (inl (ap Terminal same))
  | inr (inr more) ↦ inr (inr more)
]
compare_symbols (Terminal t) (Nonterminal b) = inl tt
compare_symbols (Nonterminal a) (Terminal u) = inr (inr tt)
compare_symbols (Nonterminal a) (Nonterminal b) = elim (compare_numbers a b) [
  | inl less ↦ inl less
  | inr (inl same) ↦ inr (inl (ap Nonterminal same))
  | inr (inr more) ↦ inr (inr more)
]

abbrev line_of : ℕ → Symbol → Line
line_of k x = record { from = k; symbol = x }

compare_lines : (line other : Line) →
    MovePrecedes line.from line.symbol other ⊎ ((line ≡ other) ⊎ MovePrecedes other.from other.symbol line)
compare_lines line other = elim (compare_numbers line.from other.from) [
  | inl less ↦ inl (inl less)
  | inr (inr more) ↦ inr (inr (inl more))
  | inr (inl same) ↦ elim (compare_symbols line.symbol other.symbol) [
    | inl less ↦ inl (inr (same, less))
    | inr (inl is) ↦ inr (inl (ap (λ k. line_of k line.symbol) same ∙ ap (λ x. line_of other.from x) is))
    | inr (inr more) ↦ inr (inr (inr (sym same, more)))
  ]
]

module _ {g : GrammarView} (lines others : List Line) (good : AreGoodLines g lines) (well : AreGoodLines g others) (n : ℕ)
    (within : n ≤ length lines) (inside : n ≤ length others) (same : take n lines ≡ take n others) where
  froms : (m : ℕ) (line : Line) → slice_get (take n lines) m ≡ Some line → line.from < suc m
  froms m line at = (good m line (at_take lines n m line at).1).from

  long : length (take n lines) ≡ n
  long = let e = length-take n lines in omega (arith, within, e)

  other_froms : (m : ℕ) (line : Line) → slice_get (take n others) m ≡ Some line → line.from < suc m
  other_froms m line at = (well m line (at_take others n m line at).1).from

  other_long : length (take n others) ≡ n
  other_long = let e = length-take n others in omega (arith, inside, e)

  -- a move of the kernels that both have is one in both
  pub carry_is : (k : ℕ) (x : Symbol) (m : ℕ) → k < suc n → m < suc n → IsMoveOf g lines k x m → IsMoveOf g others k x m
  carry_is k x m lt lt' is =
      subst (λ l. IsMoveOf g l k x m) (take-append-drop n others)
      ((move_grown (take n others) (drop n others) other_froms k x m (let e = other_long in omega (arith, e, lt))
      (let e = other_long in omega (arith, e, lt'))).0
      (subst (λ l. IsMoveOf g l k x m) same
      ((move_grown (take n lines) (drop n lines) froms k x m (let e = long in omega (arith, e, lt))
      (let e = long in omega (arith, e, lt'))).1
      (subst (λ l. IsMoveOf g l k x m) (sym (take-append-drop n lines)) is))))

  pub carry_has : (k : ℕ) (x : Symbol) → k < suc n → HasMove g lines k x → HasMove g others k x
  carry_has k x lt moves =
      let (item, rest, i, is) = subst (λ l. HasMove g l k x) (sym (take-append-drop n lines)) moves in
      let j = item_shrunk (take n lines) (drop n lines) froms i (let e = long in omega (arith, e, lt)) in
      subst (λ l. HasMove g l k x) (take-append-drop n others)
      (subst (λ l. HasMove g (l ++ drop n others) k x) same (item, rest, item_grown (drop n others) j, is))

module _ {g : GrammarView} (lines others : List Line) (good : AreGoodLines g lines) (well : AreGoodLines g others) (n : ℕ)
    (within : n ≤ length lines) (inside : n ≤ length others) (same : take n lines ≡ take n others) where
  -- a line's move leads to no kernel that the other list has before
  pub unlisted : (line : Line) → slice_get lines n ≡ Some line → (m : ℕ) → m < suc n → ¬ IsMoveOf g others line.from line.symbol m
  unlisted line at m lt is =
      let l = good n line at in
      l.new m lt (carry_is others lines well good n inside within (sym same) line.from line.symbol m l.from lt is)

  -- so no line of the other list at its place comes after it
  pub not_before : (line other : Line) → AreLinesInOrder g others → slice_get lines n ≡ Some line → slice_get others n ≡ Some other →
      ¬ MovePrecedes line.from line.symbol other
  not_before line other order at at' first =
      let l = good n line at in
      let (m, lt, is) = order n other at' line.from line.symbol first
      (carry_has lines others good well n within inside same line.from line.symbol l.from l.moves) in
      unlisted line at m lt is

  -- and where the other list has each move, it goes on
  pub goes_on : (line : Line) → AreMovesListed g others → slice_get lines n ≡ Some line → n < length others
  goes_on line listed at =
      let l = good n line at in
      let from = l.from in
      let (m, lt, is) = listed line.from line.symbol (omega (arith, from, inside))
      (carry_has lines others good well n within inside same line.from line.symbol l.from l.moves) in
      elim (cases_lt m (suc n)) [
        | inl less ↦ absurd (unlisted line at m less is)
        | inr past ↦ (let z : n < length others = omega (arith, past, lt) in z)
      ]

-- lines that are good and in order begin each list that besides has each move
pub lines_begin : {g : GrammarView} (lines others : List Line) → AreGoodLines g lines → AreLinesInOrder g lines → AreGoodLines g others →
    AreLinesInOrder g others → AreMovesListed g others → (n : ℕ) → n ≤ length lines →
    (n ≤ length others) × (take n lines ≡ take n others)
lines_begin lines others good order well ordered listed zero le = (omega arith, refl)
lines_begin {g} lines others good order well ordered listed (suc n) le =
    let (inside, same) = lines_begin lines others good order well ordered listed n (omega (arith, le)) in
    let (line, at) = at_within lines n (omega (arith, le)) in
    let within : n ≤ length lines = omega (arith, le) in
    let more = goes_on lines others good well n within inside same line listed at in
    let (other, at') = at_within others n more in
    let is = equal inside same line other at at' within in
    let next : n + 1 ≡ suc n = omega arith in (
      omega (arith, more),
      ap (λ z. take z lines) (sym next) ∙ (take_at lines n line at ∙ (ap (λ z. z ++ line ∷ []) same
          ∙ (ap (λ z. take n others ++ z ∷ []) is ∙ (sym (take_at others n other at') ∙ ap (λ z. take z others) next)))),
    )
  where
    equal : n ≤ length others → take n lines ≡ take n others → (line other : Line) → slice_get lines n ≡ Some line →
        slice_get others n ≡ Some other → n ≤ length lines → line ≡ other
    equal inside same line other at at' within = elim (compare_lines line other) [
      | inl less ↦ absurd (not_before lines others good well n within inside same line other ordered at at' less)
      | inr (inl is) ↦ is
      | inr (inr more) ↦ absurd (not_before others lines well good n inside within (sym same) other line order at' at more)
    ]

-- so there is one list at most
pub one_lines : {g : GrammarView} (lines others : List Line) → AreGoodLines g lines → AreLinesInOrder g lines → AreMovesListed g lines →
    AreGoodLines g others → AreLinesInOrder g others → AreMovesListed g others → lines ≡ others
one_lines lines others good order all well ordered listed =
    same_lists lines others (lines_begin lines others good order well ordered listed (length lines) (omega arith))
    (lines_begin others lines well ordered good order all (length others) (omega arith))
