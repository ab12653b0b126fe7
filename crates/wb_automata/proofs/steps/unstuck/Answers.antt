use Rattle.std.proofs.Common.{refl, subst, sym, inl, inr}
use Rattle.wb_automata.specs.Inner.Pairs.{LeadTo}
use Rattle.wb_automata.proofs.steps.unstuck.Goals as goal

pub is_stuck-requires : goal.is_stuck-requires
is_stuck-requires c = c.requires c.in-One.q (subst (λ z. LeadTo z c.in-One.q) (sym c.in-One.is) refl)

pub is_stuck-requires-in-Two : goal.is_stuck-requires-in-Two
is_stuck-requires-in-Two c = c.requires c.in-Two.q (subst (λ z. LeadTo z c.in-Two.q) (sym c.in-Two.is) (inl refl))

pub is_stuck-requires-in-Two-2 : goal.is_stuck-requires-in-Two-2
is_stuck-requires-in-Two-2 c = c.requires c.in-Two.r (subst (λ z. LeadTo z c.in-Two.r) (sym c.in-Two.is) (inr refl))
