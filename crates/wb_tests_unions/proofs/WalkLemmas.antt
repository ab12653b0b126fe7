-- What is made of a grammar has sets for each of its kernels.
use Rattle.std.proofs.Common.{◌≡◌, ◌∙◌, ◌<◌, ℕ, length, sym, ap, subst}
use Rattle.wb_items.specs.Kernels.{count_of}
use Rattle.wb_tests_unions.specs.declared.made.Made.{Made}
use Rattle.wb_tests_unions.specs.Inner.Made.{IsMade}

pub has_sets : (x : Made) → IsMade x → (s : ℕ) → s < count_of x.kernels.now → s < length x.lookaheads.now.items
has_sets x is s below =
    subst (λ (n : ℕ). s < n) (sym (ap (λ rows. length rows) is.lookaheads.shape.items ∙ is.kernels.closures_len)) below
