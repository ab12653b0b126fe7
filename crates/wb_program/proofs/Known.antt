-- Bytes that a sink holds grow by the pieces of a report.
use Rattle.std.proofs.Common.{◌≡◌, ℕ, ◌+◌, List, ◌++◌, Option, Some, None, take, drop, ap, sym, refl, ◌∙◌, append_assoc}
use Rattle.std.proofs.Math.Seq.{take-add}
use Rattle.std.specs.Io.KnownBytes.{append_known}

-- one more piece of a report
pub append_more : (known : Option (List ℕ)) (report : List ℕ) (i n : ℕ) → append_known (append_known known (take i report))
    (take n (drop i report)) ≡ append_known known (take (i + n) report)
append_more None report i n = refl
append_more (Some xs) report i n = ap Some (append_assoc xs (take i report) (take n (drop i report)) ∙ ap (λ l. xs ++ l)
    (sym (take-add i n report)))
