use Rattle.std.proofs.Common.{◌∙◌, inl, inr, refl, sym}
use Rattle.std.proofs.lemmas.Bool.{true≢false}
use Rattle.wb_determinism.proofs.envelope.add_containing.Goals as goal

pub returns-then-not-has_all : goal.returns-then-not-has_all
returns-then-not-has_all c = inr (
  λ has. true≢false (sym (c.has_all.ensures.1 (λ i listed. (c.kernel.ensures.exact i).1 (has.1 i listed))) ∙ c.if-not-has_all.true),
  refl,
)

pub returns : goal.returns
returns c = inl (
  (c.requires.state, λ i has. (c.kernel.ensures.exact i).0 (c.has_all.ensures.0 c.if-not-has_all.false i has)),
  c.in_ok-push.ensures.ok,
)
