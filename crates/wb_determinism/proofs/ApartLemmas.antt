-- The lookaheads of complete items and what can be shifted are apart, where each is new among what was taken before.
use Rattle.std.proofs.Common.{◌≡◌, ◌≤◌, ◌+◌, ◌∷◌, ◌∙◌, [], inl, inr, ℕ, Bool, List, Some, length, slice_get, refl, sym, subst, arith}
use Rattle.std.proofs.lemmas.Bool.{cases_eq}
use Rattle.wb_lemmas.proofs.Places.{at_once}
use Rattle.wb_base.specs.Grammar.{GrammarView}
use Rattle.wb_base.specs.declared.symbol.Symbol.{Symbol}
use Rattle.wb_grammar_theory.specs.Items.{after_dot}
use Rattle.wb_items.specs.declared.item_lookahead.ItemLookahead.{ItemLookahead}
use Rattle.wb_termset.specs.Sets.{IsMember, Intersects, IsUnion}
use Rattle.wb_determinism.specs.Inner.Conflicts.{AreTaken}
use Rattle.wb_determinism.specs.Conflicts.{HasNoConflictAt, HasNoConflictIn, IsPairConflict, IsShiftConflict}
use Rattle.wb_determinism.specs.Inner.Conflicts.{TakesItem, TakesSet}

-- a set that has no taken member is added
pub takes_set : (set old new : List Bool) → ¬ Intersects old set → IsUnion old set new → TakesSet set old new
takes_set set old new apart union = record {
  len = union.len;
  keeps = λ t was. (union.each t).1 (inl was);
  added = λ t has. ((λ was. apart (t, was, has)), (union.each t).1 (inr has));
}

-- the lookaheads of a complete item are
pub takes_complete : (g : GrammarView) (looks : ItemLookahead) (old new : List Bool) → TakesSet looks.set old new
    → TakesItem g looks old new
takes_complete g looks old new takes = record { len = takes.len; keeps = takes.keeps; added = λ complete. takes.added }

-- and of another nothing is
pub takes_nothing : (g : GrammarView) (looks : ItemLookahead) (old : List Bool) (x : Symbol) (rest : List Symbol)
    → after_dot g looks.item ≡ x ∷ rest → TakesItem g looks old old
takes_nothing g looks old x rest goes_on = record {
  len = refl;
  keeps = λ t was. was;
  added = λ complete. (let both = sym complete ∙ goes_on in cc);
}

module _ (g : GrammarView) (shifts : List Bool) (row : List ItemLookahead) where
  pub taken_start : AreTaken g shifts row 0 shifts
  taken_start = record {
    len = refl;
    shifts_in = λ t has. has;
    sets_in = λ j one lt. absurd (omega (arith, lt));
    apart = λ p lt. absurd (omega (arith, lt));
  }

  module _ (place : ℕ) (looks : ItemLookahead) (at : slice_get row place ≡ Some looks) (old new : List Bool)
      (taken : AreTaken g shifts row place old) (takes : TakesItem g looks old new) where
    -- it has no conflict with what was taken
    no_conflict : HasNoConflictAt g shifts row place
    no_conflict = record {
      shift = λ one there t conflict. (
          let is = subst (λ (z : ItemLookahead). IsShiftConflict g shifts z t) (at_once row place one looks there at) conflict in
          (takes.added is.complete t is.reduce).0 (taken.shifts_in t is.shift)
          );
      pairs = λ one there j other lt other_at t conflict. (
          let is = subst (λ (z : ItemLookahead). IsPairConflict g other z t) (at_once row place one looks there at) conflict in
          (takes.added is.conflict.complete t is.conflict.reduce).0
          (taken.sets_in j other lt other_at is.complete t is.conflict.shift)
          );
    }

    -- an item among one more
    module _ (j : ℕ) (one : ItemLookahead) (there : slice_get row j ≡ Some one) (complete : after_dot g one.item ≡ []) (t : ℕ)
        (has : IsMember one.set t) where
      of_last : j ≡ place → IsMember new t
      of_last last =
          let same : one ≡ looks = at_once row place one looks (subst (λ (z : ℕ). slice_get row z ≡ Some one) last there) at in
          (takes.added (subst (λ (z : ItemLookahead). after_dot g z.item ≡ []) same complete) t
          (subst (λ (z : ItemLookahead). IsMember z.set t) same has)).1

    pub taken_more : AreTaken g shifts row (place + 1) new
    taken_more = record {
      len = takes.len ∙ taken.len;
      shifts_in = λ t has. takes.keeps t (taken.shifts_in t has);
      sets_in = λ j one lt there complete t has. elim (cases_eq j place) [
        | inl last ↦ of_last j one there complete t has last
        | inr other ↦ takes.keeps t (taken.sets_in j one (omega (arith, lt, other)) there complete t has)
      ];
      apart = λ p lt. elim (cases_eq p place) [
        | inl last ↦ subst (HasNoConflictAt g shifts row) (sym last) no_conflict
        | inr other ↦ taken.apart p (omega (arith, lt, other))
      ];
    }

  pub taken_all : (place : ℕ) (taken : List Bool) → length row ≤ place → AreTaken g shifts row place taken → HasNoConflictIn g shifts row
  taken_all place taken ended are p lt = are.apart p (omega (arith, ended, lt))
