-- The prefixes to which lines lead.
use Rattle.std.proofs.Common.{◌≡◌, ℕ, ◌+◌, ◌<◌, zero, suc, List, [], ◌∷◌, ◌++◌, length, length-append, get_or, Some}
use Rattle.std.proofs.Common.{sym, ◌∙◌, ap, refl, arith}
use Rattle.std.specs.Prelude.{slice_get}
use Rattle.std.proofs.Math.Seq.{get_or-append_seam}
use Rattle.std.proofs.lemmas.List.{get_or_append_left}
use Rattle.wb_lemmas.proofs.Places.{push_last}
use Rattle.wb_base.specs.declared.symbol.Symbol.{Symbol}
use Rattle.wb_recheck_theory.specs.declared.line.Line.{Line}
use Rattle.wb_recheck_theory.specs.Lines.{kernel_count, prefixes_after, prefix_at}

-- what is known stays
kept : (known : List (List Symbol)) (lines : List Line) (i : ℕ) → i < length known →
    get_or (prefixes_after known lines) i [] ≡ get_or known i []
kept known [] i within = refl
kept known (line ∷ lines) i within =
    let p : List Symbol = get_or known line.from [] ++ line.symbol ∷ [] in
    let more : length (known ++ p ∷ []) ≡ length known + 1 = length-append known (p ∷ []) in
    kept (known ++ p ∷ []) lines i (omega (arith, more, within)) ∙ get_or_append_left known (p ∷ []) [] i within

-- each line adds a prefix that goes on from the one that it names
stepped : (known : List (List Symbol)) (lines : List Line) (n : ℕ) (line : Line) → slice_get lines n ≡ Some line →
    line.from < length known + n →
    get_or (prefixes_after known lines) (length known + n) [] ≡ get_or (prefixes_after known lines) line.from [] ++ line.symbol ∷ []
stepped known [] n line at lt = cc
stepped known (l ∷ lines) zero line at lt =
    let same : l ≡ line = cc in
    let p : List Symbol = get_or known l.from [] ++ l.symbol ∷ [] in
    let more : length (known ++ p ∷ []) ≡ length known + 1 = length-append known (p ∷ []) in
    let below : l.from < length known = (let f : l.from ≡ line.from = ap (λ z. z.from) same in omega (arith, f, lt)) in
    ap (λ i. get_or (prefixes_after (known ++ p ∷ []) lines) i []) (let z : length known + 0 ≡ length known = omega arith in z)
    ∙ (kept (known ++ p ∷ []) lines (length known) (omega (arith, more))
    ∙ (get_or-append_seam known p [] []
    ∙ (ap (λ z. z ++ l.symbol ∷ [])
    (sym (kept (known ++ p ∷ []) lines l.from (omega (arith, more, below)) ∙ get_or_append_left known (p ∷ []) [] l.from below))
    ∙ ap (λ z. get_or (prefixes_after (known ++ p ∷ []) lines) z.from [] ++ z.symbol ∷ []) same)))
stepped known (l ∷ lines) (suc n) line at lt =
    let p : List Symbol = get_or known l.from [] ++ l.symbol ∷ [] in
    let more : length (known ++ p ∷ []) ≡ length known + 1 = length-append known (p ∷ []) in
    let place : length known + suc n ≡ length (known ++ p ∷ []) + n = omega (arith, more) in
    ap (λ i. get_or (prefixes_after (known ++ p ∷ []) lines) i []) place
    ∙ stepped (known ++ p ∷ []) lines n line at (omega (arith, more, lt))

-- the empty prefix leads to kernel 0
pub prefix_first : (lines : List Line) → prefix_at lines 0 ≡ []
prefix_first lines = kept ([] ∷ []) lines 0 (omega arith)

-- the prefix of a line goes on from that of the kernel that it names
pub prefix_step : (lines : List Line) (n : ℕ) (line : Line) → slice_get lines n ≡ Some line → line.from < suc n →
    prefix_at lines (suc n) ≡ prefix_at lines line.from ++ line.symbol ∷ []
prefix_step lines n line at lt =
    let place : suc n ≡ 1 + n = omega arith in
    ap (prefix_at lines) place ∙ stepped ([] ∷ []) lines n line at (omega (arith, lt))

-- more lines go on from what the first lead to
prefixes-append : (known : List (List Symbol)) (lines more : List Line) →
    prefixes_after known (lines ++ more) ≡ prefixes_after (prefixes_after known lines) more
prefixes-append known [] more = refl
prefixes-append known (line ∷ lines) more =
    prefixes-append (known ++ (get_or known line.from [] ++ line.symbol ∷ []) ∷ []) lines more

length-prefixes : (known : List (List Symbol)) (lines : List Line) → length (prefixes_after known lines) ≡ length known + length lines
length-prefixes known [] = omega arith
length-prefixes known (line ∷ lines) =
    let p : List Symbol = get_or known line.from [] ++ line.symbol ∷ [] in
    let more : length (known ++ p ∷ []) ≡ length known + 1 = length-append known (p ∷ []) in
    let rest = length-prefixes (known ++ p ∷ []) lines in
    omega (arith, more, rest)

-- a kernel keeps its prefix when lines are added
pub prefix_grown : (lines more : List Line) (k : ℕ) → k < kernel_count lines → prefix_at (lines ++ more) k ≡ prefix_at lines k
prefix_grown lines more k within =
    let long = length-prefixes ([] ∷ []) lines in
    ap (λ (ps : List (List Symbol)). get_or ps k []) (prefixes-append ([] ∷ []) lines more)
    ∙ kept (prefixes_after ([] ∷ []) lines) more k (omega (arith, long, within))

-- and the kernel of an added line has that of the kernel that the line names, with its symbol
pub prefix_pushed : (lines : List Line) (line : Line) → line.from < kernel_count lines →
    prefix_at (lines ++ line ∷ []) (kernel_count lines) ≡ prefix_at lines line.from ++ line.symbol ∷ []
prefix_pushed lines line within =
    prefix_step (lines ++ line ∷ []) (length lines) line (push_last lines line) within
    ∙ ap (λ (p : List Symbol). p ++ line.symbol ∷ []) (prefix_grown lines (line ∷ []) line.from within)
