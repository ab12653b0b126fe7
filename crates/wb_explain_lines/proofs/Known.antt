-- Bytes that a sink holds grow by the pieces of what is written.
use Rattle.std.proofs.Common.{◌≡◌, ℕ, ◌+◌, List, ◌++◌, Option, Some, None, take, drop, ap, sym, refl, ◌∙◌, append_assoc}
use Rattle.std.proofs.Math.Seq.{take-add}
use Rattle.std.specs.Io.KnownBytes.{append_known}

-- one more piece
pub append_more : (known : Option (List ℕ)) (bytes : List ℕ) (i n : ℕ) → append_known (append_known known (take i bytes))
    (take n (drop i bytes)) ≡ append_known known (take (i + n) bytes)
append_more None bytes i n = refl
append_more (Some xs) bytes i n = ap Some (append_assoc xs (take i bytes) (take n (drop i bytes)) ∙ ap (λ l. xs ++ l)
    (sym (take-add i n bytes)))
