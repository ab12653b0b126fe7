-- The actions of one kernel, item by item.
use Rattle.std.proofs.Common.{◌≡◌, ◌≢◌, ◌↔◌, ℕ, ◌+◌, ◌<◌, ◌≤◌, ◌⊎◌, Bool, List, [], ◌∷◌, ◌++◌, Some, length, get_or, take, drop, refl, sym}
use Rattle.std.proofs.Common.{◌∙◌, ap, subst, inl, inr, arith}
use Rattle.std.specs.Prelude.{slice_get}
use Rattle.std.proofs.Math.ListN.{get_or-eq_default}
use Rattle.std.proofs.Math.Seq.{take-append_seam, get_or-append_seam}
use Rattle.std.proofs.lemmas.Bool.{cases_eq, cases_lt}
use Rattle.std.proofs.lemmas.List.{get_or_append_left}
use Rattle.std.proofs.lemmas.Option.{slice_get_within}
use Rattle.wb_lemmas.proofs.Places.{at_once}
use Rattle.wb_lemmas.proofs.Members.{place_of}
use Rattle.wb_base.specs.declared.symbol.Symbol.{Symbol}
use Rattle.wb_base.specs.declared.symbol.Symbol.TheVariants.{Terminal, Nonterminal}
use Rattle.wb_termset.specs.Sets.{IsMember}
use Rattle.wb_grammar_theory.specs.declared.item.Item.{Item}
use Rattle.wb_grammar_theory.specs.Productions.{top_of}
use Rattle.wb_grammar_theory.specs.Items.{after_dot, HasItem}
use Rattle.wb_grammar_theory.specs.Lookaheads.{IsLookahead}
use Rattle.wb_items.specs.Kernels.{KernelsView, AreKernels, LeadsTo, closure_of, count_of, prefix_of}
use Rattle.wb_lookahead.specs.declared.action.Action.{Action}
use Rattle.wb_lookahead.specs.declared.action.Action.TheVariants as act
use Rattle.wb_lookahead.specs.declared.action.Action.TheVariants.{Shift, Reduce, Accept}
use Rattle.wb_lookahead.specs.declared.action.TableRefusal.{TableRefusal}
use Rattle.wb_lookahead.specs.declared.action.TableRefusal.TheVariants.{Conflict, NoMemory}
use Rattle.wb_lookahead.specs.Contents.{action_in}
use Rattle.wb_lookahead.specs.Tables.{IsAction, IsConflict, IsTableRefusal, IsValidSet, Stands, ComesBefore}
use Rattle.wb_lookahead.specs.Inner.Rows.{Asks, shift, reduce, accept, AddsItem, IsClash, IsReduction, IsRowOf, IsSoundRow, Puts, RowUpTo}
use Rattle.wb_lookahead.specs.Inner.Rows.{ShowsBoth}
use Rattle.wb_lookahead.proofs.StepLemmas.{step_once}
use Rattle.wb_lookahead.proofs.StandLemmas.{before_or, stands_asked, stands_valid, valid_stands}

-- an action is none or not
none_or : (a : Action) → (a ≡ act.None) ⊎ (a ≢ act.None)
none_or (Shift n) = inr (λ e. cc)
none_or (Reduce p) = inr (λ e. cc)
none_or Accept = inr (λ e. cc)
none_or act.None = inl refl

-- what stands isn't none
pub stands_some : (kernels : KernelsView) (s t : ℕ) (a : Action) → Stands kernels s t a → a ≢ act.None
stands_some kernels s t a stands e = (let none : Stands kernels s t act.None = subst (Stands kernels s t) e stands in none)

-- an action stands within the row
taken_within : (row : List Action) (t : ℕ) → action_in row t ≢ act.None → t < length row
taken_within row t some = elim (cases_lt t (length row)) [
  | inl lt ↦ lt
  | inr le ↦ absurd (some (get_or-eq_default row act.None le))
]

-- where an item is complete, its reduction is before its lookaheads
pub complete_stands : (kernels : KernelsView) (s : ℕ) (item : Item) (action : Action) → HasItem kernels.grammar (prefix_of kernels s) item →
    after_dot kernels.grammar item ≡ [] → IsReduction (top_of kernels.grammar) item.production action → (t : ℕ) →
    IsLookahead kernels.grammar (prefix_of kernels s) item t → Stands kernels s t action
complete_stands kernels s item action has complete (inl (lt, is)) t look = subst (Stands kernels s t) (sym is)
    (lt, record { item = item; production = refl; complete = complete; has = has; lookahead = look })
complete_stands kernels s item action has complete (inr (top, is)) t look = subst (Stands kernels s t) (sym is)
    (record { item = item; production = top; complete = complete; has = has; lookahead = look })

-- and it asks for nothing else
pub complete_asks : {kernels : KernelsView} {s : ℕ} {item : Item} {action : Action} → after_dot kernels.grammar item ≡ [] →
    IsReduction (top_of kernels.grammar) item.production action → (t : ℕ) (a : Action) → Asks kernels s item t a →
    IsLookahead kernels.grammar (prefix_of kernels s) item t × (a ≡ action)
complete_asks complete is t a (shift rest n before leads) = absurd (cc)
complete_asks complete (inl (lt, is)) t a (reduce p _ number below look) = (look, ap Reduce (sym number) ∙ sym is)
complete_asks complete (inr (top, is)) t a (reduce p _ number below look) = absurd (omega arith)
complete_asks complete (inl (lt, is)) t a (accept _ number look) = absurd (omega arith)
complete_asks complete (inr (top, is)) t a (accept _ number look) = (look, sym is)

-- an item before a terminal asks for one shift
pub shift_asks : {kernels : KernelsView} → AreKernels kernels → (s : ℕ) (item : Item) (t n : ℕ) (rest : List Symbol) →
    after_dot kernels.grammar item ≡ Terminal t ∷ rest → LeadsTo kernels s (Terminal t) n → (u : ℕ) (a : Action) → Asks kernels s item u a →
    (u ≡ t) × (a ≡ Shift n)
shift_asks {kernels} h s item t n rest before leads u a (shift other m is to) =
    let same : u ≡ t = cc in (same, ap Shift (step_once h s (Terminal t) m n (subst (λ z. LeadsTo kernels s (Terminal z) m) same to) leads))
shift_asks h s item t n rest before leads u a (reduce p complete number below look) = absurd (cc)
shift_asks h s item t n rest before leads u a (accept complete number look) = absurd (cc)

-- an item before a nonterminal asks for nothing
pub nothing_asked : {kernels : KernelsView} (s : ℕ) (item : Item) (b : ℕ) (rest : List Symbol) →
    after_dot kernels.grammar item ≡ Nonterminal b ∷ rest → (u : ℕ) (a : Action) → Asks kernels s item u a → ⊥
nothing_asked s item b rest before u a (shift other m is to) = cc
nothing_asked s item b rest before u a (reduce p complete number below look) = cc
nothing_asked s item b rest before u a (accept complete number look) = cc

-- the row after an item that asks for nothing
pub adds_none : {kernels : KernelsView} (s : ℕ) (item : Item) (row : List Action) → ((u : ℕ) (a : Action) → Asks kernels s item u a → ⊥) →
    IsSoundRow kernels s row → AddsItem kernels s item row row
adds_none s item row none sound = record { sound = sound; keeps = λ t h. refl; takes = λ t a asks. absurd (none t a asks) }

-- the row after an item that asks for one action on the members of a set
pub puts_adds : {kernels : KernelsView} {s : ℕ} {item : Item} {old new : List Action} {action : Action} (S : ℕ → Type 0) →
    ((t : ℕ) → S t → Stands kernels s t action) → ((t : ℕ) (a : Action) → Asks kernels s item t a → S t × (a ≡ action)) →
    IsSoundRow kernels s old → Puts old S action new → AddsItem kernels s item old new
puts_adds {kernels} {s} {item} {old} {new} {action} S stands asked sound p = record {
  sound = record { len = p.len ∙ sound.len; stands = λ t some. at t some (p.only t) };
  keeps = p.keeps;
  takes = λ t a asks. (let (member, is) = asked t a asks in p.takes t member ∙ sym is);
}
  where
    at : (t : ℕ) → action_in new t ≢ act.None → (action_in new t ≡ action_in old t) ⊎ (S t × (action_in new t ≡ action)) →
        Stands kernels s t (action_in new t)
    at t some (inl stays) = subst (Stands kernels s t) (sym stays) (sound.stands t (λ e. some (stays ∙ e)))
    at t some (inr (member, is)) = subst (Stands kernels s t) (sym is) (stands t member)

-- a clash is a conflict
module _ {kernels : KernelsView} {s : ℕ} where
  in_turn : AreKernels kernels → s < count_of kernels → (t : ℕ) (one other first second : Action) → t ≤ kernels.grammar.terminals →
      Stands kernels s t one → Stands kernels s t other → one ≢ other → ((first ≡ one) × (second ≡ other) × ComesBefore one other) ⊎
      ((first ≡ other) × (second ≡ one) × (¬ ComesBefore one other)) → IsConflict kernels s t first second
  in_turn h lt t one other first second le x y differ (inl (f, g, before)) = record {
    state = lt;
    terminal = le;
    first_stands = subst (Stands kernels s t) (sym f) x;
    second_stands = subst (Stands kernels s t) (sym g) y;
    different = λ e. differ (sym f ∙ e ∙ g);
    in_order = subst (λ z. ComesBefore z second) (sym f) (subst (ComesBefore one) (sym g) before);
  }
  in_turn h lt t one other first second le x y differ (inr (f, g, not)) = record {
    state = lt;
    terminal = le;
    first_stands = subst (Stands kernels s t) (sym f) y;
    second_stands = subst (Stands kernels s t) (sym g) x;
    different = λ e. differ (sym g ∙ sym e ∙ f);
    in_order = subst (λ z. ComesBefore z second) (sym f)
        (subst (ComesBefore other) (sym g) (before_or kernels h s t one other x y differ not));
  }

  shown : AreKernels kernels → s < count_of kernels → (t : ℕ) (one other : Action) → t ≤ kernels.grammar.terminals →
      Stands kernels s t one → Stands kernels s t other → one ≢ other → (refusal : TableRefusal) → ShowsBoth s t one other refusal →
      IsTableRefusal kernels refusal
  shown h lt t one other le x y differ (Conflict s' t' first second) (s_is, t_is, order) =
      subst (λ z. IsConflict kernels z t' first second) (sym s_is)
      (subst (λ z. IsConflict kernels s z first second) (sym t_is) (in_turn h lt t one other first second le x y differ order))
  shown h lt t one other le x y differ (NoMemory error) none = absurd none

  pub clash_refused : {row : List Action} {action : Action} (S : ℕ → Type 0) → AreKernels kernels → s < count_of kernels →
      ((t : ℕ) → S t → Stands kernels s t action) → IsSoundRow kernels s row → (refusal : TableRefusal) → IsClash s row S action refusal →
      IsTableRefusal kernels refusal
  clash_refused {row} {action} S h lt stands sound refusal clash =
      let within = taken_within row clash.terminal clash.taken in
      shown h lt clash.terminal (action_in row clash.terminal) action (omega (arith, sound.len)) (sound.stands clash.terminal clash.taken)
      (stands clash.terminal clash.member) clash.different refusal clash.shows

-- one item more
pub row_more : {kernels : KernelsView} {s : ℕ} {old new : List Action} (n : ℕ) (item : Item) →
    slice_get (closure_of kernels s) n ≡ Some item → RowUpTo kernels s old n → AddsItem kernels s item old new →
    RowUpTo kernels s new (n + 1)
row_more {kernels} {s} {old} {new} n item here row adds = record {
  sound = adds.sound;
  complete = λ j t one a lt at asks. both j t one a lt at asks (cases_eq j n);
}
  where
    asks_some : (one : Item) (t : ℕ) (a : Action) → Asks kernels s one t a → a ≢ act.None
    asks_some one t a (shift rest n before leads) e = cc
    asks_some one t a (reduce p complete number below look) e = cc
    asks_some one t a (accept complete number look) e = cc

    both : (j t : ℕ) (one : Item) (a : Action) → j < n + 1 → slice_get (closure_of kernels s) j ≡ Some one → Asks kernels s one t a →
        (j ≡ n) ⊎ (j ≡ n → ⊥) → action_in new t ≡ a
    both j t one a lt at asks (inl same) =
        let is : one ≡ item = at_once (closure_of kernels s) n one item
        (subst (λ z. slice_get (closure_of kernels s) z ≡ Some one) same at) here in
        adds.takes t a (subst (λ z. Asks kernels s z t a) is asks)
    both j t one a lt at asks (inr other) =
        let stood : action_in old t ≡ a = row.complete j t one a (omega arith) at asks in
        adds.keeps t (λ e. asks_some one t a asks (sym stood ∙ e)) ∙ stood

-- a write through a whole vector
pub whole : {A : Type 0} (n : ℕ) (xs ys : List A) → length xs ≡ n → take n (xs ++ drop (length xs) ys) ≡ xs
whole n xs ys e = subst (λ m. take m (xs ++ drop (length xs) ys) ≡ xs) e (take-append_seam xs (drop (length xs) ys))

module _ {kernels : KernelsView} {s : ℕ} {row : List Action} where
  -- what stands is in the row
  pub row_only : AreKernels kernels → s < count_of kernels → IsRowOf kernels s row → (t : ℕ) (other : Action) → Stands kernels s t other →
      other ≡ action_in row t
  row_only h lt is t other stands =
      let (item, has, asks) = stands_asked kernels s t other stands in
      let (j, at) = place_of (closure_of kernels s) item ((h.closures s lt item).1 has) in
      sym (is.complete j t item other (slice_get_within (closure_of kernels s) j item at) at asks)

  -- the row has the action on each terminal
  pub row_action : AreKernels kernels → s < count_of kernels → IsRowOf kernels s row → (t : ℕ) → IsAction kernels s t (action_in row t)
  row_action h lt is t = record {
    none = (
      λ e valid. (let (a, stands) = valid_stands kernels s t h lt valid in stands_some kernels s t a stands
          (row_only h lt is t a stands ∙ e)),
      λ not. elim (none_or (action_in row t)) [
        | inl none ↦ none
        | inr some ↦ absurd (not (stands_valid kernels s t (action_in row t) (is.sound.stands t some)))
      ],
    );
    stands = is.sound.stands t;
    only = row_only h lt is t;
  }

  -- the terminals with an action are the valid ones
  pub row_valid : AreKernels kernels → s < count_of kernels → IsRowOf kernels s row → (set : List Bool) → length set ≡ length row →
      ((t : ℕ) → IsMember set t ↔ (action_in row t ≢ act.None)) → IsValidSet kernels s set
  row_valid h lt is set len each = record {
    len = len ∙ is.sound.len;
    each = λ t le. (
      λ has. stands_valid kernels s t (action_in row t) (is.sound.stands t ((each t).0 has)),
      λ valid. (each t).1 (λ none. (row_action h lt is t).none.0 none valid),
    );
  }

-- what holds of each element of a list, with one more
pub each_more : {A : Type 0} (P : ℕ → A → Type 0) (xs : List A) (x d : A) (n : ℕ) → length xs ≡ n →
    ((s : ℕ) → s < n → P s (get_or xs s d)) → P n x → (s : ℕ) → s < n + 1 → P s (get_or (xs ++ x ∷ []) s d)
each_more {A} P xs x d n len each here s lt = at (cases_eq s n)
  where
    at : (s ≡ n) ⊎ (s ≡ n → ⊥) → P s (get_or (xs ++ x ∷ []) s d)
    at (inl same) =
        let last : get_or (xs ++ x ∷ []) s d ≡ x = subst (λ z. get_or (xs ++ x ∷ []) z d ≡ x) (len ∙ sym same)
        (get_or-append_seam xs x [] d) in
        subst (P s) (sym last) (subst (λ z. P z x) (sym same) here)
    at (inr other) =
        let first : get_or (xs ++ x ∷ []) s d ≡ get_or xs s d = get_or_append_left xs (x ∷ []) d s (omega arith) in
        subst (P s) (sym first) (each s (omega arith))
