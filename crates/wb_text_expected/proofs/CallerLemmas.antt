-- What the crates above may cite: those of which something holds are those of which the same holds in other words.
use Rattle.std.proofs.Common.{◌≡◌, List, [], ◌∷◌}
use Rattle.wb_text_expected.specs.Expected.{AreThose, none, taken, passed}

-- in other words
pub those_alike : {K : Type 0} (P Q : K → Type 0) → ((k : K) → P k → Q k) → ((k : K) → Q k → P k) → {asked listed : List K}
    → AreThose P asked listed → AreThose Q asked listed
those_alike P Q f h (none e i) = none e i
those_alike P Q f h (taken {k = k} p those e) = taken (f k p) (those_alike P Q f h those) e
those_alike P Q f h (passed {k = k} p those) = passed (λ q. p (h k q)) (those_alike P Q f h those)
