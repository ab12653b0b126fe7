-- Which terminals share a text with an expression: one terminal more, or one extension more, that doesn't.
use Rattle.std.proofs.Common.{◌≡◌, ◌+◌, ℕ, List, Some, inl, inr, slice_get, sym, subst, arith}
use Rattle.std.proofs.lemmas.Bool.{cases_lt}
use Rattle.wb_lemmas.proofs.Places.{at_once}
use Rattle.wb_regex.specs.Matches.{ShareText}
use Rattle.wb_regex.specs.Tree.{Tree}
use Rattle.wb_syntax_resolved.specs.declared.terminal.Terminal.{Terminal}
use Rattle.wb_compose_language.specs.declared.addition.Addition.{Addition}
use Rattle.wb_compose_language.specs.Inner.Sharing.{SharesAmong, SharesBefore, SharesWith}

pub none_before : (own n : ℕ) (x : Addition) (pattern : Tree) (row : Terminal) → slice_get x.terminals.now n ≡ Some row →
    (¬ ShareText pattern row.pattern) → (¬ SharesBefore own n x pattern) → ¬ SharesBefore own (n + 1) x pattern
none_before own n x pattern row at apart before s = elim (cases_lt s.terminal n) [
  | inl less ↦ before (record { terminal = s.terminal; far = s.far; less = less; row = s.row; at = s.at; share = s.share })
  | inr far ↦
      let low = s.less in
      let e : s.terminal ≡ n = omega (arith, far, low) in
      let same = at_once x.terminals.now n s.row row (subst (λ z. slice_get x.terminals.now z ≡ Some (s.row)) e s.at) at in
      apart (subst (λ (z : Terminal). ShareText pattern z.pattern) same s.share)
]

pub none_among : (own hosts n : ℕ) (xs : List Addition) (number : ℕ) (pattern : Tree) (x : Addition) → slice_get xs n ≡ Some x →
    (¬ (n ≡ number) → ¬ SharesWith own hosts x pattern) → (¬ SharesAmong own hosts n xs number pattern) →
    ¬ SharesAmong own hosts (n + 1) xs number pattern
none_among own hosts n xs number pattern x at apart before s = elim (cases_lt s.other n) [
  | inl less ↦ before (record { other = s.other; less = less; different = s.different; x = s.x; at = s.at; shares = s.shares })
  | inr far ↦
      let low = s.less in
      let e : s.other ≡ n = omega (arith, far, low) in
      let same = at_once xs n s.x x (subst (λ z. slice_get xs z ≡ Some (s.x)) e s.at) at in
      apart (λ is. s.different (subst (λ z. z ≡ number) (sym e) is)) (subst (λ (z : Addition). SharesWith own hosts z pattern) same s.shares)
]
