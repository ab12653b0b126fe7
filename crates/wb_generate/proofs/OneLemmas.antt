-- One outcome at most is right: counts, draws and least texts leave no choice.
use Rattle.std.proofs.Common.{◌≡◌, ℕ, ◌-◌, suc, ◌<◌, ◌≤◌, List, [], ◌∷◌, ◌++◌, length, refl, sym, ◌∙◌, ap, subst, inl, inr, arith}
use Rattle.std.specs.Prelude.{Option, slice_index}
use Rattle.std.proofs.lemmas.Option.{same_Some}
use Rattle.wb_automata.specs.Order.{IsAtMost, IsBefore, IsLessByBytes}
use Rattle.wb_automata.specs.Overlaps.{IsLeastMatch}
use Rattle.wb_base.specs.declared.symbol.Symbol.{Symbol}
use Rattle.wb_base.specs.declared.symbol.Symbol.TheVariants.{Nonterminal}
use Rattle.wb_base.specs.Grammar.{GrammarView, Production}
use Rattle.wb_scan_theory.specs.Bounds.{count}
use Rattle.wb_lemmas.proofs.Zips.{one_zip}
use Rattle.wb_regex.specs.Tree.{Tree}
use Rattle.wb_generate.specs.Counts.{AreLeast, IsLeast, total}
use Rattle.wb_generate.specs.Draws.{draw, upper, IsChosen}
use Rattle.wb_generate.specs.Making.{Makes, IsMade, over, shown, removed, replaced}
use Rattle.wb_generate.specs.Texts.{IsWritten, between_of, joined_texts}
use Rattle.wb_generate.specs.Outcomes.{HasNoSentence, IsSentence}
use Rattle.wb_generate.specs.Laws.{HasOneOutcome}
use Rattle.wb_generate.specs.declared.generated.Generated.TheVariants.{Text, NoSentence}
use Rattle.wb_generate.proofs.MakeLemmas.{count_is, terminals_are, terminals_in}

-- one number is the least
no_more : (g : GrammarView) (limit a m n : ℕ) → IsLeast g limit a m → IsLeast g limit a n → m ≤ n
no_more g limit a m n first second = elim second.reached [
  | inl e ↦ (let most = first.most in omega (arith, e, most))
  | inr t ↦ (let lower : m ≤ count t.tree = first.lower t.tree t.is in let many : count t.tree ≡ n = t.many in omega (arith, lower, many))
]

one_least : (g : GrammarView) (limit a m n : ℕ) → IsLeast g limit a m → IsLeast g limit a n → m ≡ n
one_least g limit a m n first second =
    let e = no_more g limit a m n first second in let f = no_more g limit a n m second first in omega (arith, e, f)

one_count : (g : GrammarView) (limit : ℕ) (xs ys : List ℕ) → AreLeast g limit xs → AreLeast g limit ys → (a : ℕ) → a < length xs →
    slice_index xs a ≡ slice_index ys a
one_count g limit xs ys first second a lt =
    let below : a < g.nonterminals = omega (arith, lt, first.len) in
    one_least g limit a (slice_index xs a) (slice_index ys a) (first.each a below) (second.each a below)

same_list : (xs ys : List ℕ) → length xs ≡ length ys → ((a : ℕ) → a < length xs → slice_index xs a ≡ slice_index ys a) → xs ≡ ys
same_list [] [] len each = refl
same_list [] (y ∷ ys) len each = absurd (omega (arith, len))
same_list (x ∷ xs) [] len each = absurd (omega (arith, len))
same_list (x ∷ xs) (y ∷ ys) len each =
    let head : x ≡ y = each 0 (omega arith) in
    let tail : xs ≡ ys = same_list xs ys (omega (arith, len)) (λ a lt. each (suc a) (omega (arith, lt))) in
    λ j. head j ∷ tail j

one_counts : (g : GrammarView) (limit : ℕ) (xs ys : List ℕ) → AreLeast g limit xs → AreLeast g limit ys → xs ≡ ys
one_counts g limit xs ys first second = same_list xs ys (first.len ∙ sym second.len) (one_count g limit xs ys first second)

-- a form becomes one list of leaves
one_right : (g : GrammarView) (counts : List ℕ) (a spare r : ℕ) (right other : List Symbol) → IsChosen g counts a spare r right →
    IsChosen g counts a spare r other → right ≡ other
one_right g counts a spare r right other first second =
    ap (λ (z : Production). z.1) (same_Some (a, right) (a, other) (sym first ∙ second))

one_made : (g : GrammarView) (counts : List ℕ) {w : List Symbol} {spare x : ℕ} {made : List ℕ} → Makes g counts w spare x made →
    (other : List ℕ) → Makes g counts w spare x other → made ≡ other
one_made g counts (over spare x) other (over spare' x') = refl
one_made g counts (shown t m) other (shown t' {made = rest} n) = ap (λ z. t ∷ z) (one_made g counts m rest n)
one_made g counts (removed a none m) other (removed a' none' n) = one_made g counts m other n
one_made g counts (removed a none m) other (replaced a' right some chosen n) = absurd (omega (arith, none, some))
one_made g counts (replaced a right some chosen m) other (removed a' none n) = absurd (omega (arith, none, some))
one_made g counts (replaced a right {form} {spare} {x} some chosen m) other (replaced a' right' some' chosen' n) =
    let same = one_right g counts a spare (upper (draw x)) right right' chosen chosen' in
    one_made g counts m other
    (subst (λ z. Makes g counts (z ++ form) (spare - (total counts z - slice_index counts a)) (draw x) other) (sym same) n)

-- an expression has one least text
not_less : (x y : List ℕ) → IsLessByBytes x y → IsLessByBytes y x → ⊥
not_less [] y h k = elim h [ ]
not_less (a ∷ x) [] h k = elim h [ ]
not_less (a ∷ x) (b ∷ y) (inl p) (inl q) = absurd (omega (arith, p, q))
not_less (a ∷ x) (b ∷ y) (inl p) (inr (e, q)) = absurd (omega (arith, p, e))
not_less (a ∷ x) (b ∷ y) (inr (e, p)) (inl q) = absurd (omega (arith, e, q))
not_less (a ∷ x) (b ∷ y) (inr (e, p)) (inr (f, q)) = not_less x y p q

not_before : (x y : List ℕ) → IsBefore x y → IsBefore y x → ⊥
not_before x y (inl p) (inl q) = absurd (omega (arith, p, q))
not_before x y (inl p) (inr (e, q)) = absurd (omega (arith, p, e))
not_before x y (inr (e, p)) (inl q) = absurd (omega (arith, e, q))
not_before x y (inr (e, p)) (inr (f, q)) = not_less x y p q

at_most_same : (x y : List ℕ) → IsAtMost x y → IsAtMost y x → x ≡ y
at_most_same x y (inl e) k = e
at_most_same x y (inr p) (inl e) = sym e
at_most_same x y (inr p) (inr q) = absurd (not_before x y p q)

pub one_least_match : (tree : Tree) (x y : List ℕ) → IsLeastMatch tree x → IsLeastMatch tree y → x ≡ y
one_least_match tree x y first second = at_most_same x y (first.least y second.matches) (second.least x first.matches)

one_written : (expressions : List Tree) (layout : Option ℕ) (made text other : List ℕ) → IsWritten expressions layout made text →
    IsWritten expressions layout made other → text ≡ other
one_written expressions layout made text other first second =
    let same : first.texts ≡ second.texts =
    one_zip IsLeastMatch one_least_match expressions first.texts second.texts first.least second.least in
    first.is ∙ (ap (λ z. joined_texts z (between_of z layout) made) same ∙ sym second.is)

-- the same leaves of one start
one_making : (g : GrammarView) (limit size number : ℕ) (made other : List ℕ) → IsMade g limit size number made →
    IsMade g limit size number other → made ≡ other
one_making g limit size number made other first second =
    let same : second.counts ≡ first.counts = one_counts g limit second.counts first.counts second.least first.least in
    one_made g first.counts first.makes other
    (subst (λ z. Makes g z (Nonterminal g.start ∷ []) (size - slice_index z g.start) number other) same second.makes)

-- a sentence is a tree with few enough leaves
not_both : (g : GrammarView) (expressions : List Tree) (layout : Option ℕ) (number size many n : ℕ) (text : List ℕ) →
    IsSentence g expressions layout number size text many → HasNoSentence g size n → ⊥
not_both g expressions layout number size many n text sentence none =
    let above : size < count sentence.tree = none.each sentence.tree sentence.derived in
    let e : terminals_in sentence.tree ≡ sentence.made = sym (terminals_are [] sentence.tree) ∙ sentence.of_tree in
    let f : count sentence.tree ≡ length sentence.made = count_is sentence.tree ∙ ap length e in
    let few : many ≤ size = sentence.few in
    let long : many ≡ length sentence.made = sentence.length_is in
    absurd (omega (arith, above, f, few, long))

pub one_outcome : (g : GrammarView) (expressions : List Tree) (layout : Option ℕ) (number size : ℕ) →
    HasOneOutcome g expressions layout number size
one_outcome g expressions layout number size (Text text many) (Text text' many') first second =
    let made : first.made ≡ second.made = one_making g 100001 size number first.made second.made first.is_made second.is_made in
    let same : text ≡ text' = one_written expressions layout second.made text text'
    (subst (λ z. IsWritten expressions layout z text) made first.written) second.written in
    let long : many ≡ many' = first.length_is ∙ (ap length made ∙ sym second.length_is) in
    λ j. Text (same j) (long j)
one_outcome g expressions layout number size (Text text many) (NoSentence n) first second =
    absurd (not_both g expressions layout number size many n text first second)
one_outcome g expressions layout number size (NoSentence n) (Text text many) first second =
    absurd (not_both g expressions layout number size many n text second first)
one_outcome g expressions layout number size (NoSentence m) (NoSentence n) first second =
    ap NoSentence (one_least g 100001 g.start m n first.least second.least)
