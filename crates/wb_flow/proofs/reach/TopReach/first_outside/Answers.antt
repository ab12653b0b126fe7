use Rattle.std.proofs.Common.{◌<◌, ◌≤◌, ◌∙◌, ℕ, List, length, refl, sym, ap, subst, arith}
use Rattle.std.specs.Prelude.{IfSome, IfNone}
use Rattle.wb_flow.specs.declared.vertex.Vertex.{Vertex}
use Rattle.wb_flow.specs.Inner.Closing.{IsOutsideAt}
use Rattle.wb_flow.proofs.ReachLemmas.{subset_none, outside_some, outside_more, outside_none}
use Rattle.wb_flow.proofs.reach.TopReach.first_outside.Goals as goal

pub is_subset-requires : goal.is_subset-requires
is_subset-requires c = c.set_of-set.ensures.len ∙ sym c.requires.allowed

pub returns-then-is_subset-clause-none : goal.returns-then-is_subset-clause-none
returns-then-is_subset-clause-none c =
    let h = c.requires.place in
    subset_none c.args.self.now c.args.place h.component h.at c.set_of-set.result.now c.args.allowed.now
    (c.set_of-set.ensures.at h.component h.at) (c.if-is_subset.ensures.0 refl)

pub numbers-init : goal.numbers-init
numbers-init c k i lt = absurd (omega (arith, lt))

pub outside_at-found-requires-clause-number : goal.outside_at-found-requires-clause-number
outside_at-found-requires-clause-number c =
    let within : c.numbers.number < length c.args.self.now.tops = omega arith in
    subst (λ (z : List Vertex). c.numbers.number < length z) (sym c.as_slice.ensures.vertices) within

pub outside_at-found-requires-clause-len : goal.outside_at-found-requires-clause-len
outside_at-found-requires-clause-len c = c.set_of-set.ensures.len ∙ ap (λ (z : List Vertex). length z) (sym c.as_slice.ensures.vertices)

pub outside_at-found-requires-clause-allowed : goal.outside_at-found-requires-clause-allowed
outside_at-found-requires-clause-allowed c = c.requires.allowed ∙ ap (λ (z : List Vertex). length z) (sym c.as_slice.ensures.vertices)

pub numbers-preserved : goal.numbers-preserved
numbers-preserved c =
    outside_more c.args.self.now.tops c.set_of-set.result.now c.args.allowed.now c.numbers.number c.outside_at-found.result
    (sym c.is_some.ensures ∙ c.if-is_some.false)
    (subst (λ (z : List Vertex). IfNone c.outside_at-found.result
    ((i : ℕ) → ¬ IsOutsideAt z c.set_of-set.result.now c.args.allowed.now c.numbers.number i)) c.as_slice.ensures.vertices
    c.outside_at-found.ensures.none) c.numbers.invariant

pub returns-then-is_some-clause-some : goal.returns-then-is_some-clause-some
returns-then-is_some-clause-some c =
    let h = c.requires.place in
    outside_some c.args.self.now c.args.place h.component h.at c.set_of-set.result.now c.args.allowed.now
    (c.set_of-set.ensures.at h.component h.at) c.numbers.number c.outside_at-found.result
    (subst (λ (z : List Vertex). IfSome c.outside_at-found.result
    (IsOutsideAt z c.set_of-set.result.now c.args.allowed.now c.numbers.number)) c.as_slice.ensures.vertices
    c.outside_at-found.ensures.some)

pub returns-clause-none : goal.returns-clause-none
returns-clause-none c =
    let h = c.requires.place in
    let ended : length c.args.self.now.tops ≤ c.numbers.number = omega arith in
    outside_none c.args.self.now c.args.place h.component h.at c.set_of-set.result.now c.args.allowed.now
    (c.set_of-set.ensures.at h.component h.at) c.numbers.number ended c.numbers.invariant
