-- An action that is put on the members of a set, one after another.
use Rattle.std.proofs.Common.{◌≡◌, ℕ, ◌+◌, ◌<◌, Bool, List, refl, sym, ◌∙◌, subst, inl, inr, arith}
use Rattle.std.proofs.lemmas.Bool.{cases_eq, cases_lt}
use Rattle.wb_termset.specs.Sets.{HasNoneFrom, IsMember, IsNextMember}
use Rattle.wb_lookahead.specs.declared.action.Action.{Action}
use Rattle.wb_lookahead.specs.declared.action.TableRefusal.{TableRefusal}
use Rattle.wb_lookahead.specs.Contents.{action_in}
use Rattle.wb_lookahead.specs.Inner.Rows.{IsClash, Puts, ShowsBoth}

-- the members before a number
abbrev Before : List Bool → ℕ → ℕ → Type 0
Before set from t = (t < from) × IsMember set t

-- none before 0
pub puts_none : (set : List Bool) (action : Action) (row : List Action) → Puts row (Before set 0) action row
puts_none set action row = record {
  len = refl;
  keeps = λ t some. refl;
  takes = λ t before. (let lt = before.0 in absurd (omega (arith, lt)));
  only = λ t. inl refl;
}

-- one member more
pub puts_next : (old mid new : List Action) (set : List Bool) (action : Action) (from n : ℕ) → IsNextMember set from n →
    Puts old (Before set from) action mid → Puts mid (λ t. t ≡ n) action new → Puts old (Before set (n + 1)) action new
puts_next old mid new set action from n next p q = record {
  len = q.len ∙ p.len;
  keeps = λ t some.
      let kept = p.keeps t some in
      q.keeps t (λ none. some (sym kept ∙ none)) ∙ kept;
  takes = λ t before. elim (cases_eq t n) [
    | inl same ↦ q.takes t same
    | inr ne ↦
        let first : t < from = earlier t before ne in
        elim (q.only t) [
          | inl same ↦ same ∙ p.takes t (first, before.1)
          | inr here ↦ absurd (ne here.0)
        ]
  ];
  only = λ t. elim (q.only t) [
    | inr here ↦ inr (((let e = here.0 in omega (arith, e)), subst (IsMember set) (sym here.0) next.member), here.1)
    | inl same ↦ elim (p.only t) [
      | inl before ↦ inl (same ∙ before)
      | inr put ↦ inr (((let lt = put.0.0 in let le = next.from_on in omega (arith, lt, le)), put.0.1), same ∙ put.1)
    ]
  ];
}
  where
    earlier : (t : ℕ) → Before set (n + 1) t → (t ≡ n → ⊥) → t < from
    earlier t before ne = elim (cases_lt t from) [
      | inl lt ↦ lt
      | inr ge ↦ absurd (next.least t (omega (arith, ge)) (let lt = before.0 in omega (arith, lt, ne)) before.1)
    ]

-- all members
pub puts_all : (old new : List Action) (set : List Bool) (action : Action) (from : ℕ) → HasNoneFrom set from →
    Puts old (Before set from) action new → Puts old (IsMember set) action new
puts_all old new set action from none p = record {
  len = p.len;
  keeps = p.keeps;
  takes = λ t has. elim (cases_lt t from) [
    | inl lt ↦ p.takes t (lt, has)
    | inr ge ↦ absurd (none t (omega (arith, ge)) has)
  ];
  only = λ t. elim (p.only t) [
    | inl same ↦ inl same
    | inr put ↦ inr (put.0.1, put.1)
  ];
}

-- another action on a member was there at first
pub clash_member : (s : ℕ) (old mid : List Action) (set : List Bool) (action : Action) {from : ℕ} (n : ℕ) (refusal : TableRefusal) →
    IsNextMember set from n → Puts old (Before set from) action mid → IsClash s mid (λ t. t ≡ n) action refusal →
    IsClash s old (IsMember set) action refusal
clash_member s old mid set action n refusal next p clash =
    let same : action_in mid clash.terminal ≡ action_in old clash.terminal = elim (p.only clash.terminal) [
      | inl same ↦ same
      | inr put ↦ absurd (clash.different put.1)
    ] in
    record {
      terminal = clash.terminal;
      member = subst (IsMember set) (sym clash.member) next.member;
      taken = λ none. clash.taken (same ∙ none);
      different = λ is. clash.different (same ∙ is);
      shows = subst (λ a. ShowsBoth s clash.terminal a action refusal) same clash.shows;
    }
