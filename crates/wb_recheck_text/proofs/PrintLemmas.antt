-- What was appended one after another was appended together.
use Rattle.std.proofs.Common.{◌≡◌, ℕ, List, ◌++◌, refl, sym, ap, ◌∙◌}
use Rattle.wb_lemmas.proofs.Parts.{append_assoc}

pub two : (o p q b c : List ℕ) → p ≡ o ++ b → q ≡ p ++ c → q ≡ o ++ (b ++ c)
two o p q b c first second = second ∙ (ap (λ z. z ++ c) first ∙ append_assoc o b c)

pub three : (o p q r b c d : List ℕ) → p ≡ o ++ b → q ≡ p ++ c → r ≡ q ++ d → r ≡ o ++ (b ++ (c ++ d))
three o p q r b c d first second third = two o p r b (c ++ d) first (two p q r c d second third)

pub four : (o p q r s b c d e : List ℕ) → p ≡ o ++ b → q ≡ p ++ c → r ≡ q ++ d → s ≡ r ++ e → s ≡ o ++ (b ++ (c ++ (d ++ e)))
four o p q r s b c d e first second third fourth = two o p s b (c ++ (d ++ e)) first (three p q r s c d e second third fourth)

pub six : (o p q r s t u b c d e f g : List ℕ) → p ≡ o ++ b → q ≡ p ++ c → r ≡ q ++ d → s ≡ r ++ e → t ≡ s ++ f → u ≡ t ++ g →
    u ≡ o ++ (b ++ (c ++ (d ++ (e ++ (f ++ g)))))
six o p q r s t u b c d e f g first second third fourth fifth sixth =
    two o p u b (c ++ (d ++ (e ++ (f ++ g)))) first
    (two p q u c (d ++ (e ++ (f ++ g))) second (four q r s t u d e f g third fourth fifth sixth))
