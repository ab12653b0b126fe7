-- The row of a kernel, as codes of actions beside the set of the terminals that have one.
use Rattle.std.proofs.Common.{◌≡◌, ◌≢◌, ℕ, zero, suc, ◌+◌, ◌<◌, Bool, true, false, List, [], ◌∷◌, Some, length, get_or, map, replicate}
use Rattle.std.proofs.Common.{set, refl, sym, ◌∙◌, ap, subst, inl, inr, arith, get_or-set_same, get_or-set_other, length-set}
use Rattle.std.specs.Prelude.{slice_get}
use Rattle.std.proofs.lemmas.Bool.{cases_eq, cases_lt}
use Rattle.std.proofs.lemmas.List.{get_or_past, get_or-replicate, length-map, length-replicate}
use Rattle.wb_termset.specs.Sets.{IsMember, IsUnion}
use Rattle.wb_termset.proofs.CallerLemmas.{IsEmpty-replicate, IsMember-insert, IsMember-insert_same, IsSubset-insert}
use Rattle.wb_grammar_theory.specs.declared.item.Item.{Item}
use Rattle.wb_items.specs.Kernels.{KernelsView, closure_of}
use Rattle.wb_lookahead.specs.declared.action.Action.{Action}
use Rattle.wb_lookahead.specs.declared.action.Action.TheVariants.{Shift, Reduce, Accept, None}
use Rattle.wb_lookahead.specs.declared.rows.Row.{Row}
use Rattle.wb_lookahead.specs.Codes.{action_at}
use Rattle.wb_lookahead.specs.Contents.{action_in}
use Rattle.wb_lookahead.specs.Tables.{Stands}
use Rattle.wb_lookahead.specs.Inner.Rows.{Asks, IsReduction, Puts}
use Rattle.wb_lookahead.specs.Inner.KernelRows.{AddsItemTo, IsEmptyRow, IsSoundKernelRow, KernelRowUpTo, PutsIn, ValidIn, actions_of}
use Rattle.wb_lookahead.proofs.RowLemmas.{adds_none, puts_adds, row_more}

-- the action on a terminal is that of its code
pub action_code : (row : List ℕ) (t : ℕ) → action_in (map action_at row) t ≡ action_at (get_or row t 0)
action_code [] zero = refl
action_code [] (suc t) = refl
action_code (code ∷ row) zero = refl
action_code (code ∷ row) (suc t) = action_code row t

-- a code is put where there was none
pub put_at : (row : List ℕ) (t code : ℕ) → t < length row → action_in (map action_at row) t ≡ None →
    Puts (map action_at row) (λ u. u ≡ t) (action_at code) (map action_at (set row t code))
put_at row t code lt none = record {
  len = length-map (set row t code) action_at ∙ length-set row t code ∙ sym (length-map row action_at);
  keeps = λ u some. elim (cases_eq u t) [
    | inl same ↦ absurd (some (ap (action_in (map action_at row)) same ∙ none))
    | inr other ↦ stays u other
  ];
  takes = takes;
  only = λ u. elim (cases_eq u t) [ inl same ↦ inr (same, takes u same) | inr other ↦ inl (stays u other) ];
}
  where
    stays : (u : ℕ) → (u ≡ t → ⊥) → action_in (map action_at (set row t code)) u ≡ action_in (map action_at row) u
    stays u other = action_code (set row t code) u ∙ ap action_at (get_or-set_other row t u code 0 other) ∙ sym (action_code row u)

    takes : (u : ℕ) → u ≡ t → action_in (map action_at (set row t code)) u ≡ action_at code
    takes u same = ap (action_in (map action_at (set row t code))) same ∙ action_code (set row t code) t
        ∙ ap action_at (get_or-set_same row t code 0 lt)

-- an action that is there is there
pub put_there : (row : List Action) (t : ℕ) (action : Action) → action_in row t ≡ action → Puts row (λ u. u ≡ t) action row
put_there row t action there = record {
  len = refl;
  keeps = λ u some. refl;
  takes = λ u same. ap (action_in row) same ∙ there;
  only = λ u. inl refl;
}

-- the set with the members of another
pub puts_union : {old new : Row} {action : Action} (other : List Bool) → IsUnion old.valid other new.valid →
    Puts (actions_of old) (IsMember other) action (actions_of new) → PutsIn old (IsMember other) action new
puts_union other joined puts = record { actions = puts; len = joined.len; each = joined.each }

-- the set with a terminal more
pub puts_insert : {old new : Row} {action : Action} (t : ℕ) → t < length old.valid → new.valid ≡ set old.valid t true →
    Puts (actions_of old) (λ u. u ≡ t) action (actions_of new) → PutsIn old (λ u. u ≡ t) action new
puts_insert {old} {new} t lt is puts = record {
  actions = puts;
  len = ap length is ∙ length-set old.valid t true;
  each = λ u. (
    λ has. IsMember-insert old.valid t u (subst (λ z. IsMember z u) is has),
    λ either. subst (λ z. IsMember z u) (sym is) (elim either [
      | inl before ↦ IsSubset-insert old.valid t u before
      | inr same ↦ subst (IsMember (set old.valid t true)) (sym same) (IsMember-insert_same old.valid t lt)
    ]),
  );
}

-- the set stays that of the terminals with an action
valid_puts : {old new : Row} {action : Action} (S : ℕ → Type 0) → action ≢ None → PutsIn old S action new →
    ValidIn (actions_of old) old.valid → ValidIn (actions_of new) new.valid
valid_puts {old} {new} {action} S some p v = record {
  len = p.len ∙ v.len ∙ sym p.actions.len;
  each = λ t. (
    λ has none. elim ((p.each t).0 has) [
      | inl before ↦ (v.each t).0 before (sym (p.actions.keeps t ((v.each t).0 before)) ∙ none)
      | inr member ↦ some (sym (p.actions.takes t member) ∙ none)
    ],
    λ there. elim (p.actions.only t) [
      | inl same ↦ (p.each t).1 (inl ((v.each t).1 (λ none. there (same ∙ none))))
      | inr put ↦ (p.each t).1 (inr put.0)
    ],
  );
}

-- the row after an item that asks for one action on the members of a set
pub adds_in : {kernels : KernelsView} {s : ℕ} {item : Item} {old new : Row} {action : Action} (S : ℕ → Type 0) → action ≢ None →
    ((t : ℕ) → S t → Stands kernels s t action) → ((t : ℕ) (a : Action) → Asks kernels s item t a → S t × (a ≡ action)) →
    IsSoundKernelRow kernels s old → PutsIn old S action new → AddsItemTo kernels s item old new
adds_in S some stands asked sound p = record {
  actions = puts_adds S stands asked sound.actions p.actions;
  valid = valid_puts S some p sound.valid;
}

-- the row after an item that asks for nothing
pub adds_nothing : {kernels : KernelsView} (s : ℕ) (item : Item) (row : Row) → ((u : ℕ) (a : Action) → Asks kernels s item u a → ⊥) →
    IsSoundKernelRow kernels s row → AddsItemTo kernels s item row row
adds_nothing s item row none sound = record { actions = adds_none s item (actions_of row) none sound.actions; valid = sound.valid }

-- one item more
pub kernel_row_more : {kernels : KernelsView} {s : ℕ} {old new : Row} (n : ℕ) (item : Item) →
    slice_get (closure_of kernels s) n ≡ Some item → KernelRowUpTo kernels s old n → AddsItemTo kernels s item old new →
    KernelRowUpTo kernels s new (n + 1)
kernel_row_more n item here row adds = record { actions = row_more n item here row.actions adds.actions; valid = adds.valid }

-- nothing is there yet
pub nothing_yet : {kernels : KernelsView} (s : ℕ) (row : Row) → IsEmptyRow (kernels.grammar.terminals + 1) row →
    KernelRowUpTo kernels s row 0
nothing_yet {kernels} s row is = record {
  actions = record {
    sound = record { len = len; stands = λ t some. absurd (some (none_at t)) };
    complete = λ j t item action lt at asks. absurd (omega arith);
  };
  valid = record {
    len = ap length is.valid ∙ length-replicate count false ∙ sym len;
    each = λ t. (
      λ has. absurd (IsEmpty-replicate count t (subst (λ z. IsMember z t) is.valid has)),
      λ some. absurd (some (none_at t)),
    );
  };
}
  where
    count : ℕ
    count = kernels.grammar.terminals + 1

    none_code : ℕ
    none_code = 0

    zeros : List ℕ
    zeros = replicate count none_code

    len : length (actions_of row) ≡ kernels.grammar.terminals + 1
    len = length-map row.codes.items action_at ∙ ap length is.codes ∙ length-replicate count none_code

    zero_at : (t : ℕ) → get_or zeros t none_code ≡ none_code
    zero_at t = elim (cases_lt t count) [
      | inl lt ↦ get_or-replicate count t none_code none_code lt
      | inr le ↦ get_or_past zeros t none_code (omega (arith, le, length-replicate count none_code))
    ]

    none_at : (t : ℕ) → action_in (actions_of row) t ≡ None
    none_at t = action_code row.codes.items t ∙ ap action_at (ap (λ (z : List ℕ). get_or z t 0) is.codes ∙ zero_at t)

-- a shift and a reduction aren't none
pub shift_some : {action : Action} {n : ℕ} → action ≡ Shift n → action ≢ None
shift_some {n = n} is none = (let e : Shift n ≡ None = sym is ∙ none in cc)

pub reduction_some : {top p : ℕ} {action : Action} → IsReduction top p action → action ≢ None
reduction_some {top} {p} (inl (lt, is)) none = (let e : Reduce p ≡ None = sym is ∙ none in cc)
reduction_some (inr (same, is)) none = (let e : Accept ≡ None = sym is ∙ none in cc)
