-- How long lines are together, with one more too.
use Rattle.std.proofs.Common.{◌≡◌, ◌∙◌, ◌<◌, ◌≤◌, ◌+◌, ◌++◌, ◌∷◌, [], ℕ, zero, suc, List, true, length, length-append, sym, ap, subst}
use Rattle.std.proofs.Common.{arith}
use Rattle.std.specs.Prelude.{MatchBool, Some, slice_get}
use Rattle.std.proofs.lemmas.List.{flat_map_more}
use Rattle.std.proofs.lemmas.Option.{same_Some}
use Rattle.wb_compose_texts.specs.EditAnswers.{joined}
use Rattle.wb_compose_texts.specs.Inner.Gathered.{AreGathered}
use Rattle.wb_compose_texts.specs.declared.lines.Lines.{Lines}

-- with one line more, its bytes come last
joined-push : (lines : List (List ℕ)) (line : List ℕ) → joined (lines ++ line ∷ []) ≡ joined lines ++ line
joined-push lines line = sym (flat_map_more (λ (x : List ℕ). x) [] lines line)

length-joined-push : (lines : List (List ℕ)) (line : List ℕ) → length (joined (lines ++ line ∷ [])) ≡ length (joined lines) + length line
length-joined-push lines line = ap length (joined-push lines line) ∙ length-append (joined lines) line

-- no line is longer than all
pub line_within : (lines : List (List ℕ)) (i : ℕ) (line : List ℕ) → slice_get lines i ≡ Some line → length line ≤ length (joined lines)
line_within [] i line at = cc
line_within (x ∷ lines) zero line at =
    let same : x ≡ line = same_Some x line at in
    let whole = length-append x (joined lines) in
    let there : length x ≡ length line = ap length same in
    omega (arith, whole, there)
line_within (x ∷ lines) (suc i) line at =
    let whole = length-append x (joined lines) in
    let rest = line_within lines i line at in
    omega (arith, whole, rest)

-- lines that are too long stay so with one more
pub stays_long : (made : Lines) (lines : List (List ℕ)) (line : List ℕ) → made.are_long ≡ true → AreGathered made lines →
    AreGathered made (lines ++ line ∷ [])
stays_long made lines line is gathered =
    let whole = length-joined-push lines line in
    let long : 16777216 < length (joined lines) =
    subst (λ b. MatchBool b (16777216 < length (joined lines)) ((made.bytes.items ≡ joined lines) × (length (joined lines) ≤ 16777216))) is
    gathered in
    subst (λ b. MatchBool b (16777216 < length (joined (lines ++ line ∷ [])))
    ((made.bytes.items ≡ joined (lines ++ line ∷ [])) × (length (joined (lines ++ line ∷ [])) ≤ 16777216)))
    (sym is) (omega (arith, whole, long))
