-- What is said of one more place.
use Rattle.std.proofs.Common.{◌≡◌, ◌⊎◌, inl, inr, ℕ, List, subst, sym, refl}
use Rattle.wb_base.specs.Grammar.{GrammarView}
use Rattle.wb_syntax_resolved.specs.declared.resolved.ResolvedParts.{ResolvedParts}
use Rattle.wb_explain_beside.specs.Said.{SaysSides, ShowsSide, nothing, more}

-- after what was said comes nothing, or one more
pub one_more : (h g : GrammarView) (r : ResolvedParts) (old mid new : List ℕ) → SaysSides h g r old mid
    → (new ≡ mid) ⊎ ShowsSide h g r mid new → SaysSides h g r old new
one_more h g r old mid new said (inl same) = subst (SaysSides h g r old) (sym same) said
one_more h g r old mid new said (inr shows) = more mid new said shows

-- before the first, nothing was said
pub none : (h g : GrammarView) (r : ResolvedParts) (old : List ℕ) → SaysSides h g r old old
none h g r old = nothing old refl
