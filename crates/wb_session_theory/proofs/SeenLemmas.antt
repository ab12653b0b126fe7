-- Answers of scans that say the same is next.
use Rattle.std.proofs.Common.{◌≡◌, ◌≤◌, ◌-◌, ℕ, List, length, ap, arith}
use Rattle.std.specs.Prelude.{slice_range}
use Rattle.wb_scan_theory.specs.Tokens.{token, over, missing}
use Rattle.wb_scan_theory.proofs.SeenLemmas.{range_size}
use Rattle.wb_scan_theory.proofs.UniqueLemmas.{same_token}
use Rattle.wb_scan.specs.declared.scanned.Scanned.{Scanned}
use Rattle.wb_scan.specs.declared.scanned.Scanned.TheVariants.{Token, End, NoToken}
use Rattle.wb_scan.specs.Scans.{next_in, IsInside}

-- answers that say the same is next are the same
pub same_scanned : (count : ℕ) (text other : List ℕ) (at at' : ℕ) (one two : Scanned) → next_in text one ≡ next_in other two →
    IsInside count (length text) at one → IsInside count (length other) at' two → one ≡ two
same_scanned count text other at at' (Token t begin lexeme end) (Token t' begin' lexeme' end') e in1 in2 =
    let k = same_token begin begin' t t' (slice_range text lexeme end) (slice_range other lexeme' end') end end' e in
    let a : length (slice_range text lexeme end) ≡ end - lexeme = range_size text lexeme end in1.5 in
    let b : length (slice_range other lexeme' end') ≡ end' - lexeme' = range_size other lexeme' end' in2.5 in
    let same : length (slice_range text lexeme end) ≡ length (slice_range other lexeme' end') = ap length k.lexemes in
    let le : lexeme ≤ end = in1.3 in
    let le' : lexeme' ≤ end' = in2.3 in
    let ends : end ≡ end' = k.ends in
    let lexemes : lexeme ≡ lexeme' = omega arith in
    let begins : begin ≡ begin' = (let h : token begin t (slice_range text lexeme end) end ≡ token begin' t' (slice_range other
    lexeme' end') end' = e in cc) in
    (λ i. Token (k.terminals i) (begins i) (lexemes i) (ends i))
same_scanned count text other at at' (Token t begin lexeme end) (End place) e in1 in2 = cc
same_scanned count text other at at' (Token t begin lexeme end) (NoToken place) e in1 in2 = cc
same_scanned count text other at at' (End place) (Token t begin lexeme end) e in1 in2 = cc
same_scanned count text other at at' (End place) (End place') e in1 in2 = let h : over place ≡ over place' = e in cc
same_scanned count text other at at' (End place) (NoToken place') e in1 in2 = cc
same_scanned count text other at at' (NoToken place) (Token t begin lexeme end) e in1 in2 = cc
same_scanned count text other at at' (NoToken place) (End place') e in1 in2 = cc
same_scanned count text other at at' (NoToken place) (NoToken place') e in1 in2 = let h : missing place ≡ missing place' = e in cc
