-- The productions that may be chosen are those of the nonterminal whose sums are in a range, in the same order.
use Rattle.std.proofs.Common.{◌≡◌, ℕ, ◌+◌, zero, suc, ◌<◌, ◌≤◌, ◌/◌, ◌%◌, min, Bool, true, false, cond, not, ◌&&◌, ◌||◌, List, [], ◌∷◌}
use Rattle.std.proofs.Common.{◌++◌, length, get_or, take}
use Rattle.std.proofs.Common.{All, Contains, refl, sym, ◌∙◌, ap, subst, inl, inr, arith, Some}
use Rattle.std.specs.Prelude.{◌==◌, IfSome, nat_le, nat_lt, slice_get, slice_index}
use Rattle.std.specs.List.{AllZip, filter}
use Rattle.std.proofs.Math.Nat.{min-eq_left}
use Rattle.std.proofs.lemmas.Bool.{cases_lt, le-leb, lt-leb, lt-ltb, ltb-true, true≢false}
use Rattle.std.proofs.lemmas.List.{length-map, map-append, take_more}
use Rattle.std.proofs.lemmas.Option.{slice_get-get_or}
use Rattle.wb_base.specs.declared.symbol.Symbol.{Symbol}
use Rattle.wb_base.specs.Grammar.{GrammarView, Production}
use Rattle.wb_grammar_theory.specs.Productions.{IsProduction}
use Rattle.wb_lemmas.proofs.Booleans.{is_false}
use Rattle.wb_lemmas.proofs.Elements.{all_from_contained}
use Rattle.wb_lemmas.proofs.Zips.{beside}
use Rattle.wb_generate.specs.Counts.{total}
use Rattle.wb_generate.specs.Draws.{admits, candidates, chosen_of, wants, IsChosen}
use Rattle.wb_generate.specs.Inner.Choices.{AreChoices, between, is_between, low_of, number_of, totals_of}
use Rattle.wb_generate.specs.Inner.Groups.{group_at, numbers_of}
use Rattle.wb_generate.specs.declared.choices.Choices.{Choices}
use Rattle.wb_generate.proofs.ChoiceLemmas.{admitted, filter_from, le_stopped, lt_stopped, some_candidate}
use Rattle.wb_generate.proofs.GroupLemmas.{numbers_below}

-- the least sum that is chosen
abbrev pub low_for : Bool → ℕ → ℕ
low_for grow least = cond grow (least + 1) 0

le_next : (m t : ℕ) → nat_le (m + 1) t ≡ nat_lt m t
le_next m t = elim (cases_lt m t) [
  | inl lt ↦ le-leb (m + 1) t (omega (arith, lt)) ∙ sym (lt-ltb m t lt)
  | inr past ↦ lt-leb (m + 1) t (omega (arith, past)) ∙ sym (not_less m t past)
]
  where
    not_less : (m t : ℕ) → t ≤ m → nat_lt m t ≡ false
    not_less m t past = is_false (nat_lt m t) (λ e. let lt : m < t = ltb-true m t e in omega (arith, lt, past))

le_zero : (t : ℕ) → nat_le 0 t ≡ true
le_zero t = le-leb 0 t (omega arith)

and_true : (b : Bool) → (true && b) ≡ (b && true)
and_true true = refl
and_true false = refl

and_turned : (a b : Bool) → (a && b) ≡ (b && a)
and_turned true true = refl
and_turned true false = refl
and_turned false true = refl
and_turned false false = refl

-- a sum that stops is in the range exactly where the right side may be chosen
pub same_test : (grow : Bool) (t limit least spare : ℕ) → spare + least < limit →
    (nat_le (low_for grow least) (min t limit) && nat_le (min t limit) (spare + least))
    ≡ (nat_le t (spare + least) && (not grow || nat_lt least t))
same_test true t limit least spare lt =
    (λ z. le_next least (min t limit) z && le_stopped t limit (spare + least) lt z)
    ∙ ap (λ z. z && nat_le t (spare + least)) (lt_stopped t limit least (omega (arith, lt)))
    ∙ and_turned (nat_lt least t) (nat_le t (spare + least))
same_test false t limit least spare lt =
    (λ z. le_zero (min t limit) z && le_stopped t limit (spare + least) lt z)
    ∙ and_true (nat_le t (spare + least))

-- related lists are equally long
zip_len : {A B : Type 0} (R : A → B → Type 0) (xs : List A) (ys : List B) → AllZip R xs ys → length xs ≡ length ys
zip_len R [] [] all = refl
zip_len R [] (y ∷ ys) all = absurd all
zip_len R (x ∷ xs) [] all = absurd all
zip_len R (x ∷ xs) (y ∷ ys) all = ap suc (zip_len R xs ys all.1)

-- the number is that of the production
abbrev pub IsNumber : List Production → Production → ℕ → Type 0
IsNumber all rule p = slice_get all p ≡ Some rule

module _ (all : List Production) (totals counts : List ℕ) (limit a spare : ℕ) (few : spare + slice_index counts a < limit) where
  -- productions have these numbers, and the sums of their right sides
  abbrev AreThere : ℕ → List Production → Type 0
  AreThere from rules = (i : ℕ) (rule : Production) → slice_get rules i ≡ Some rule →
      (slice_get all (from + i) ≡ Some rule) × (slice_index totals (from + i) ≡ min (total counts rule.1) limit)

  later : (from : ℕ) (rule : Production) (rules : List Production) → AreThere from (rule ∷ rules) → AreThere (suc from) rules
  later from rule rules there i other at =
      let e : from + suc i ≡ suc from + i = omega arith in
      subst (λ z. (slice_get all z ≡ Some other) × (slice_index totals z ≡ min (total counts other.1) limit)) e (there (suc i) other at)

  abbrev test_of : Bool → Production → Bool
  test_of grow rule =
      nat_le (total counts rule.1) (spare + slice_index counts a) && (not grow || nat_lt (slice_index counts a) (total counts rule.1))

  abbrev open_after : Bool → ℕ → List Production → List ℕ
  open_after grow from rules =
      between totals (low_for grow (slice_index counts a)) (spare + slice_index counts a) (numbers_of a from rules)

  -- one production before the others
  zipped_more : (grow : Bool) (from : ℕ) (rule : Production) (rules : List Production) → slice_get all from ≡ Some rule →
      is_between totals (low_for grow (slice_index counts a)) (spare + slice_index counts a) from ≡ test_of grow rule →
      AllZip (IsNumber all) (filter (admits counts a spare grow) rules) (open_after grow (suc from) rules) →
      AllZip (IsNumber all) (filter (admits counts a spare grow) (rule ∷ rules)) (open_after grow from (rule ∷ rules))
  zipped_more grow from rule rules first same rest = by_left (rule.0 == a)
    where
      kept : (b : Bool) → AllZip (IsNumber all)
          (cond b (rule ∷ filter (admits counts a spare grow) rules) (filter (admits counts a spare grow) rules))
          (cond b (from ∷ open_after grow (suc from) rules) (open_after grow (suc from) rules))
      kept true = (first, rest)
      kept false = rest

      by_left : (b : Bool) → AllZip (IsNumber all)
          (cond (b && test_of grow rule) (rule ∷ filter (admits counts a spare grow) rules) (filter (admits counts a spare grow) rules))
          (between totals (low_for grow (slice_index counts a)) (spare + slice_index counts a)
          (cond b (from ∷ numbers_of a (suc from) rules) (numbers_of a (suc from) rules)))
      by_left false = rest
      by_left true = subst (λ b. AllZip (IsNumber all)
          (cond (test_of grow rule) (rule ∷ filter (admits counts a spare grow) rules) (filter (admits counts a spare grow) rules))
          (cond b (from ∷ open_after grow (suc from) rules) (open_after grow (suc from) rules))) (sym same) (kept (test_of grow rule))

  zipped : (grow : Bool) (from : ℕ) (rules : List Production) → AreThere from rules →
      AllZip (IsNumber all) (filter (admits counts a spare grow) rules) (open_after grow from rules)
  zipped grow from [] there = tt
  zipped grow from (rule ∷ rules) there =
      let here : from + 0 ≡ from = omega arith in
      let first : slice_get all from ≡ Some rule = subst (λ z. slice_get all z ≡ Some rule) here (there 0 rule refl).0 in
      let sum : slice_index totals from ≡ min (total counts rule.1) limit =
      subst (λ z. slice_index totals z ≡ min (total counts rule.1) limit) here (there 0 rule refl).1 in
      let same : is_between totals (low_for grow (slice_index counts a)) (spare + slice_index counts a) from ≡ test_of grow rule =
      ap (λ z. nat_le (low_for grow (slice_index counts a)) z && nat_le z (spare + slice_index counts a)) sum
      ∙ same_test grow (total counts rule.1) limit (slice_index counts a) spare few in
      zipped_more grow from rule rules first same (zipped grow (suc from) rules (later from rule rules there))

-- what is listed for each production is there
totals_there : (limit : ℕ) (counts : List ℕ) (rules : List Production) (i : ℕ) (rule : Production) → slice_get rules i ≡ Some rule →
    slice_index (totals_of limit counts rules) i ≡ min (total counts rule.1) limit
totals_there limit counts [] i rule at = absurd (cc at)
totals_there limit counts (x ∷ rules) zero rule at =
    let same : x ≡ rule = cc in ap (λ (z : Production). min (total counts z.1) limit) same
totals_there limit counts (x ∷ rules) (suc i) rule at = totals_there limit counts rules i rule at

module _ (g : GrammarView) (limit : ℕ) (choices : Choices) (are : AreChoices g limit choices) (a spare : ℕ) (below : a < g.nonterminals)
    (few : spare + slice_index choices.counts.items a < limit) where
  abbrev counts : List ℕ
  counts = choices.counts.items

  abbrev totals : List ℕ
  totals = choices.totals.items

  abbrev numbers : List ℕ
  numbers = group_at choices.rules.items a

  there : (i : ℕ) (rule : Production) → slice_get g.productions i ≡ Some rule →
      (slice_get g.productions (0 + i) ≡ Some rule) × (slice_index totals (0 + i) ≡ min (total counts rule.1) limit)
  there i rule at =
      let e : i ≡ 0 + i = omega arith in
      let sum : slice_index totals i ≡ min (total counts rule.1) limit =
      ap (λ z. slice_index z i) are.totals ∙ totals_there limit counts g.productions i rule at in (
        subst (λ z. slice_get g.productions z ≡ Some rule) e at,
        subst (λ z. slice_index totals z ≡ min (total counts rule.1) limit) e sum,
      )

  -- candidates, by their numbers
  pub candidates_zipped : (grow : Bool) →
      AllZip (IsNumber g.productions) (candidates g counts a spare grow)
      (between totals (low_for grow (slice_index counts a)) (spare + slice_index counts a) numbers)
  candidates_zipped grow = subst (λ z. AllZip (IsNumber g.productions) (candidates g counts a spare grow)
      (between totals (low_for grow (slice_index counts a)) (spare + slice_index counts a) z)) (sym (are.rules.each a below))
      (zipped g.productions totals counts limit a spare few grow 0 g.productions there)

  many_candidates : (grow : Bool) → length (candidates g counts a spare grow) ≡
      length (between totals (low_for grow (slice_index counts a)) (spare + slice_index counts a) numbers)
  many_candidates grow = zip_len (IsNumber g.productions) (candidates g counts a spare grow)
      (between totals (low_for grow (slice_index counts a)) (spare + slice_index counts a) numbers) (candidates_zipped grow)

  -- each has a sum
  pub numbers_known : All (λ p. p < length totals) numbers
  numbers_known = all_from_contained (λ p. p < length totals) numbers (λ p has.
      let e : length totals ≡ length g.productions = ap length are.totals ∙ length-map g.productions (λ (rule : Production). min (total counts
      rule.1) limit) in
      let lt : p < 0 + length g.productions = numbers_below a 0 g.productions p (subst (λ z. Contains z p) (are.rules.each a below) has) in
      omega (arith, e, lt))

  -- there is one
  pub some_number : 0 < length (between totals 0 (spare + slice_index counts a) numbers)
  some_number =
      let some : 0 < length (candidates g counts a spare false) =
      some_candidate g limit counts a spare are.least below (omega (arith, few)) in
      let e = many_candidates false in omega (arith, some, e)

  -- what a number chooses by numbers
  pub chosen_number : (r p : ℕ) → number_of totals (slice_index counts a) spare numbers r ≡ Some p →
      (right : List Symbol) × IsProduction g p a right × IsChosen g counts a spare r right
  chosen_number r p is =
      let least : ℕ = slice_index counts a in
      let grow : Bool = wants g counts a spare r in
      let same : low_of totals least spare numbers r ≡ low_for grow least =
      ap (λ z. cond (not (z == 0) && not (r % 4 == 0)) (least + 1) 0) (sym (many_candidates true)) in
      let list : List ℕ = between totals (low_for grow least) (spare + least) numbers in
      let at : slice_get list (r / 4 % length list) ≡ Some p =
      subst (λ low. slice_get (between totals low (spare + least) numbers) (r / 4 % length (between totals low (spare + least) numbers)) ≡ Some
      p) same is in
      let found = beside (IsNumber g.productions) (candidates g counts a spare grow) list (r / 4 % length list) p (candidates_zipped grow) at in
      let place : slice_get (candidates g counts a spare grow) (r / 4 % length (candidates g counts a spare grow)) ≡ Some found.other =
      subst (λ n. slice_get (candidates g counts a spare grow) (r / 4 % n) ≡ Some found.other) (sym (many_candidates grow)) found.at in
      of_rule r p found.other grow refl place found.related
    where
      of_rule : (r p : ℕ) (rule : Production) (grow : Bool) → grow ≡ wants g counts a spare r →
          chosen_of (candidates g counts a spare grow) r ≡ Some rule → slice_get g.productions p ≡ Some rule →
          (right : List Symbol) × IsProduction g p a right × IsChosen g counts a spare r right
      of_rule r p (left, right) grow grows chosen at =
          let f = filter_from (admits counts a spare grow) g.productions (r / 4 % length (candidates g counts a spare grow)) (left, right) chosen in
          let same : left ≡ a = (admitted counts a spare grow (left, right) f.2).0 in (
            right,
            subst (λ z. slice_get g.productions p ≡ Some (z, right)) same at,
            subst (λ b. chosen_of (candidates g counts a spare b) r ≡ Some (a, right)) grows
                (subst (λ z. chosen_of (candidates g counts a spare grow) r ≡ Some (z, right)) same chosen),
          )

  -- the sum of its right side
  pub chosen_total : (p : ℕ) (right : List Symbol) → IsProduction g p a right → total counts right ≤ spare + slice_index counts a →
      slice_index totals p ≡ total counts right
  chosen_total p right rule low =
      let e : slice_index totals p ≡ min (total counts right) limit =
      ap (λ z. slice_index z p) are.totals ∙ totals_there limit counts g.productions p (a, right) rule in
      e ∙ min-eq_left (omega (arith, low, few))

-- the sum of one production more
pub totals_more : (limit : ℕ) (counts : List ℕ) (rules : List Production) (i sum : ℕ) (right : List Symbol) (made new : List ℕ) →
    i < length rules → IfSome (slice_get rules i) (λ rule. right ≡ rule.1) → sum ≡ min (total counts right) limit →
    made ≡ totals_of limit counts (take i rules) → new ≡ made ++ sum ∷ [] → new ≡ totals_of limit counts (take (i + 1) rules)
totals_more limit counts rules i sum right made new lt read is before pushed =
    let rule : Production = get_or rules i (0, []) in
    let same : right ≡ rule.1 = subst (λ o. IfSome o (λ rule. right ≡ rule.1)) (slice_get-get_or rules i (0, []) lt) read in
    let e : totals_of limit counts (take (i + 1) rules) ≡ totals_of limit counts (take i rules) ++ min (total counts rule.1) limit ∷ [] =
    ap (totals_of limit counts) (take_more rules i (0, []) lt) ∙
    map-append (λ (r : Production). min (total counts r.1) limit) (take i rules) (rule ∷ []) in
    pushed ∙ ((λ j. before j ++ (is ∙ ap (λ w. min (total counts w) limit) same) j ∷ []) ∙ sym e)

-- the same of equal lists and numbers
module _ (given totals list numbers : List ℕ) (one : given ≡ totals) (three : list ≡ numbers) where
  pub known_there : All (λ p. p < length totals) numbers → All (λ p. p < length given) list
  known_there all = subst (λ n. All (λ p. p < n) list) (sym (ap length one)) (subst (All (λ p. p < length totals)) (sym three) all)

  module _ (count least spare : ℕ) (two : count ≡ least) where
    pub some_there : 0 < length (between totals 0 (spare + least) numbers) → 0 < length (between given 0 (spare + count) list)
    some_there some =
        let e : length (between given 0 (spare + count) list) ≡ length (between totals 0 (spare + least) numbers) =
        λ j. length (between (one j) 0 (spare + two j) (three j)) in
        omega (arith, some, e)

    pub same_number : (r p : ℕ) → number_of given count spare list r ≡ Some p → number_of totals least spare numbers r ≡ Some p
    same_number r p is = sym (λ j. number_of (one j) (two j) spare (three j) r) ∙ is

-- what a number chooses, by the counts and the place that were found
module _ (totals numbers : List ℕ) (least spare r growing low : ℕ)
    (growing_is : growing ≡ length (between totals (least + 1) (spare + least) numbers))
    (low_is : low ≡ cond (not (growing == 0) && not (r % 4 == 0)) (least + 1) 0) where
  -- there is one
  pub some_low : 0 < length (between totals 0 (spare + least) numbers) → 0 < length (between totals low (spare + least) numbers)
  some_low some = subst (λ z. 0 < length (between totals z (spare + least) numbers)) (sym low_is)
      (by_wish (not (growing == 0) && not (r % 4 == 0)) refl)
    where
      not_none : (n : ℕ) (b : Bool) → (not (n == 0) && b) ≡ true → 0 < n
      not_none zero b e = absurd (true≢false (sym e))
      not_none (suc n) b e = omega arith

      by_wish : (b : Bool) → (not (growing == 0) && not (r % 4 == 0)) ≡ b →
          0 < length (between totals (cond b (least + 1) 0) (spare + least) numbers)
      by_wish false e = some
      by_wish true e =
          let lt : 0 < growing = not_none growing (not (r % 4 == 0)) e in omega (arith, lt, growing_is)

  pub found_number : (many place p : ℕ) → many ≡ length (between totals low (spare + least) numbers) → place ≡ r / 4 % many →
      slice_get (between totals low (spare + least) numbers) place ≡ Some p → number_of totals least spare numbers r ≡ Some p
  found_number many place p many_is place_is at =
      let same : low ≡ low_of totals least spare numbers r =
      low_is ∙ ap (λ z. cond (not (z == 0) && not (r % 4 == 0)) (least + 1) 0) growing_is in
      let e : place ≡ r / 4 % length (between totals low (spare + least) numbers) = place_is ∙ ap (λ z. r / 4 % z) many_is in
      subst (λ z. slice_get (between totals z (spare + least) numbers) (r / 4 % length (between totals z (spare + least) numbers)) ≡ Some p)
      same (ap (slice_get (between totals low (spare + least) numbers)) (sym e) ∙ at)
