-- What terminals stand for, one more, and the first production that a terminal begins, in a list without its first productions.
use Rattle.std.proofs.Common.{◌≡◌, ◌<◌, ◌+◌, ◌-◌, ◌++◌, ◌∙◌, ℕ, Bool, true, false, List, [], ◌∷◌, Option, Some, IfSome, drop, length, cond}
use Rattle.std.proofs.Common.{sym, ap, subst, inl, inr, length-append}
use Rattle.std.specs.Prelude.{slice_get}
use Rattle.std.proofs.lemmas.Option.{slice_get_within, get_or_from_slice_get}
use Rattle.wb_lemmas.proofs.Parts.{drop_from}
use Rattle.wb_lemmas.proofs.Places.{at_push, at_within}
use Rattle.wb_base.specs.declared.symbol.Symbol.{Symbol}
use Rattle.wb_base.specs.Grammar.{Production}
use Rattle.wb_determinism.specs.declared.numbers.Numbers.{Numbers}
use Rattle.wb_determinism.specs.Images.{begins, bridged, AreImages}
use Rattle.wb_determinism_kernels.specs.declared.numbers.Numbers as moved
use Rattle.wb_determinism_beside.specs.Given.{moved_by}
use Rattle.wb_determinism_beside.specs.Inner.Images.{AreImagesBy, IsDownBy}

-- one terminal more with what it stands for
pub images_more : (own more : ℕ) (phi : ℕ → ℕ) (t : ℕ) (images : List (Option ℕ)) (o : Option ℕ) → AreImagesBy own more phi t images
    → IsDownBy own more (phi t) o → AreImagesBy own more phi (t + 1) (images ++ o ∷ [])
images_more own more phi t images o are is = record {
  len = length-append images (o ∷ []) ∙ ap (λ k. k + 1) are.len;
  each = λ n other at. elim (at_push images o other n at) [
    | inl old ↦ are.each n other old
    | inr (here, same) ↦ subst (λ k. IsDownBy own more (phi k) other) (sym (here ∙ are.len)) (subst (IsDownBy own more (phi t)) same is)
  ];
}

-- so they are the images in these numbers
pub images_in : (m : Numbers) (a b count : ℕ) (by : moved.Numbers) (phi : ℕ → ℕ) (images : List (Option ℕ)) → by ≡ moved_by m a b
    → AreImagesBy by.terminals.own by.terminals.more phi count images → AreImages m phi count images
images_in m a b count by phi images is are =
    let here : AreImagesBy m.own_terminals (m.both_terminals - m.host_terminals) phi count images =
    subst (λ (z : moved.Numbers). AreImagesBy z.terminals.own z.terminals.more phi count images) is are in
    record { len = here.len; each = here.each }

module _ (t : ℕ) (rules : List Production) (p : ℕ) (rule : Production) (at : slice_get rules p ≡ Some rule) where
  headed : drop p rules ≡ rule ∷ drop (p + 1) rules
  headed = drop_from rules p rule (slice_get_within rules p rule at) (sym (get_or_from_slice_get rules p rule rule at))

  -- one that it begins
  pub bridged_here : begins t rule.1 ≡ true → bridged t (drop p rules) ≡ Some rule.0
  bridged_here is =
      ap (bridged t) headed ∙ ap (λ (b : Bool). cond b (Some rule.0) (bridged t (drop (p + 1) rules))) is

  -- one that it doesn't
  pub bridged_on : begins t rule.1 ≡ false → bridged t (drop (p + 1) rules) ≡ bridged t (drop p rules)
  bridged_on is =
      sym (ap (bridged t) headed ∙ ap (λ (b : Bool). cond b (Some rule.0) (bridged t (drop (p + 1) rules))) is)

-- the production of which a side was read
pub production_at : (rules : List Production) (p : ℕ) (right : List Symbol) → p < length rules
    → IfSome (slice_get rules p) (λ rule. right ≡ rule.1) → (rule : Production) × (slice_get rules p ≡ Some rule) × (right ≡ rule.1)
production_at rules p right below is =
    let (rule, at) = at_within rules p below in
    (rule, at, subst (λ (o : Option Production). IfSome o (λ r. right ≡ r.1)) at is)

pub left_at : (rules : List Production) (p left : ℕ) (rule : Production) → slice_get rules p ≡ Some rule
    → IfSome (slice_get rules p) (λ r. left ≡ r.0) → left ≡ rule.0
left_at rules p left rule at is = subst (λ (o : Option Production). IfSome o (λ r. left ≡ r.0)) at is
