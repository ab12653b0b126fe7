-- What a link leads to stays the same among more entries, values and trees, and where entries that were added later are dropped.
use Rattle.std.proofs.Common.{◌≡◌, ◌<◌, ◌≤◌, ◌+◌, ◌-◌, ℕ, zero, suc, List, [], ◌∷◌}
use Rattle.std.proofs.Common.{◌++◌, length, take, drop, refl, sym, ◌∙◌, ap, subst, inl, inr, arith}
use Rattle.std.proofs.Common.{length-append}
use Rattle.std.specs.Prelude.{All, Some, slice_get}
use Rattle.std.proofs.lemmas.List.{take-append-drop, take_all, length-take-le, length-take}
use Rattle.std.proofs.lemmas.List.Elements.{All-push, All-nil, All-same, All-take}
use Rattle.std.proofs.lemmas.Option.{slice_get_within}
use Rattle.wb_lemmas.proofs.Places.{at_take, at_within, at_once, at_push, push_last, push_keeps, default_at, append_keeps}
use Rattle.wb_lemmas.proofs.Parts.{take_append}
use Rattle.wb_grammar_theory.specs.Trees.{Forest}
use Rattle.wb_lookahead.specs.Contents.{size_of}
use Rattle.wb_values.specs.Tree.{Tree}
use Rattle.wb_values.specs.ValuesIn.{values_in, IsIn}
use Rattle.wb_values.specs.declared.value.Value.{Value}
use Rattle.wb_values.proofs.CallerLemmas.{all_in_more}
use Rattle.wb_values.proofs.Grown.{values-stable}
use Rattle.wb_scan.specs.Views.{LanguageParts}
use Rattle.wb_parser_states.specs.Stacks.{last_or}
use Rattle.wb_parser_states.proofs.StateLemmas.{top_pushed}
use Rattle.wb_parser.specs.Parses.{Extends}
use Rattle.wb_parser.proofs.ExtendLemmas.{extends_length, extends_more}
use Rattle.wb_session.specs.declared.stacks.Entry.{Entry}
use Rattle.wb_session.specs.Inner.Entries.{no_entry, state_in}
use Rattle.wb_session.specs.Stacks.{Roots, LeadsTo, bottom, above, IsStack, IsLinked, IsSound}
use Rattle.wb_session.specs.Inner.Steps.{Grows}

-- what is at a place of a list is there in a longer one that begins with it
pub at_longer : {X : Type 0} (xs ys : List X) (k : ℕ) (x : X) → take (length xs) ys ≡ xs → slice_get xs k ≡ Some x → slice_get ys k ≡ Some x
at_longer xs ys k x begins at = (at_take ys (length xs) k x (subst (λ z. slice_get z k ≡ Some x) (sym begins) at)).1

-- what is before a place is there in the list that is cut off there
pub at_cut : {X : Type 0} (xs : List X) (n k : ℕ) (x : X) → k < n → slice_get xs k ≡ Some x → slice_get (take n xs) k ≡ Some x
at_cut [] n k x lt at = absurd (Rattle.wb_lemmas.proofs.Places.nothing_at x k at)
at_cut (y ∷ ys) zero k x lt at = absurd (omega arith)
at_cut (y ∷ ys) (suc n) zero x lt at = at
at_cut (y ∷ ys) (suc n) (suc k) x lt at = at_cut ys n k x (omega arith) at

pub length_begins : {X : Type 0} (xs ys : List X) → take (length xs) ys ≡ xs → length xs ≤ length ys
length_begins xs ys begins = let e = sym (length-take (length xs) ys) ∙ ap length begins in omega (arith, e)

pub begins_then : {X : Type 0} (xs ys zs : List X) → take (length xs) ys ≡ xs → take (length ys) zs ≡ ys → take (length xs) zs ≡ xs
begins_then xs ys zs first second =
    sym (Rattle.std.proofs.lemmas.List.take-take (length xs) (length ys) zs (length_begins xs ys first))
    ∙ ap (take (length xs)) second ∙ first

-- the same entries and values with others after them
pub leads_more : {entries entries' : List Entry} {values values' : List Value} → take (length entries) entries' ≡ entries →
    take (length values) values' ≡ values → {link : ℕ} {states : List ℕ} {vs : List Value} → LeadsTo entries values link states vs →
    LeadsTo entries' values' link states vs
leads_more es ws (bottom s v) = bottom s v
leads_more {entries} {entries'} {values} {values'} es ws (above k x v lower under at has le below s w) =
    above k x v lower under (at_longer entries entries' k x es at) (at_longer values values' k v ws has) le (leads_more es ws below) s w

-- the link is that of an entry
pub leads_within : {entries : List Entry} {values : List Value} {link : ℕ} {states : List ℕ} {vs : List Value} →
    LeadsTo entries values link states vs → link ≤ length entries
leads_within (bottom s v) = omega arith
leads_within {entries} (above k x v lower under at has le below s w) =
    let lt : k < length entries = slice_get_within entries k x at in omega arith

pub leads_cut : {entries : List Entry} {values : List Value} (n : ℕ) {link : ℕ} {states : List ℕ} {vs : List Value} →
    LeadsTo entries values link states vs → link ≤ n → LeadsTo (take n entries) (take n values) link states vs
leads_cut n (bottom s v) le = bottom s v
leads_cut {entries} {values} n (above k x v lower under at has lower_le below s w) le =
    above k x v lower under (at_cut entries n k x (omega arith) at) (at_cut values n k v (omega arith) has) lower_le
    (leads_cut n below (omega arith)) s w

-- a value at a place has what all have
value_at : (n : ℕ) (xs : List Value) (k : ℕ) (v : Value) → All (IsIn n) xs → slice_get xs k ≡ Some v → IsIn n v
value_at n xs k v all has = subst (IsIn n) (default_at xs k v v has) (all k v (slice_get_within xs k v has))

-- the values are among all values
pub leads_inside : {entries : List Entry} {values : List Value} (n : ℕ) {link : ℕ} {states : List ℕ} {vs : List Value} →
    All (IsIn n) values → LeadsTo entries values link states vs → All (IsIn n) vs
leads_inside n {vs = vs} inside (bottom s v) = All-same (IsIn n) vs [] v (All-nil (IsIn n))
leads_inside {values = values} n {vs = vs} inside (above k x v lower under at has le below s w) =
    All-same (IsIn n) vs (under ++ v ∷ []) w (All-push (IsIn n) under v (leads_inside n inside below) (value_at n values k v inside has))

-- the state on top is that of the last entry
pub leads_state : {entries : List Entry} {values : List Value} {link : ℕ} {states : List ℕ} {vs : List Value} →
    LeadsTo entries values link states vs → state_in entries link ≡ last_or 0 states
leads_state (bottom s v) = sym (ap (last_or 0) s)
leads_state {entries} {states = states} (above k x v lower under at has le below s w) =
    ap (λ (e : Entry). e.state) (default_at entries k no_entry x at) ∙ top_pushed lower states x.state s

-- one more entry, above a stack
pub leads_push : {entries entries' : List Entry} {values values' : List Value} (x : Entry) (v : Value) {states : List ℕ} {vs : List Value} →
    entries' ≡ entries ++ x ∷ [] → values' ≡ values ++ v ∷ [] → length values ≡ length entries →
    LeadsTo entries values x.below states vs →
    LeadsTo entries' values' (suc (length entries)) (states ++ x.state ∷ []) (vs ++ v ∷ [])
leads_push {entries} {entries'} {values} {values'} x v {states} {vs} es ws same leads =
    above (length entries) x v states vs (subst (λ z. slice_get z (length entries) ≡ Some x) (sym es) (push_last entries x))
    (subst (λ z. slice_get z (length entries) ≡ Some v) (sym ws)
    (subst (λ n. slice_get (values ++ v ∷ []) n ≡ Some v) same (push_last values v))) (leads_within leads)
    (leads_more (ap (take (length entries)) es ∙ take_append (length entries) entries (x ∷ []) refl)
    (ap (take (length values)) ws ∙ take_append (length values) values (v ∷ []) refl) leads) refl refl

-- the last root of a stack, and what is below it
pub record TopPart (entries : List Entry) (values : List Value) (link : ℕ) (states : List ℕ) (vs : List Value) : Type 0 where
  pub x : Entry
  pub v : Value
  pub lower : List ℕ
  pub under : List Value
  pub at : slice_get entries (link - 1) ≡ Some x
  pub has : slice_get values (link - 1) ≡ Some v
  pub leads : LeadsTo entries values x.below lower under
  pub states_are : states ≡ lower ++ x.state ∷ []
  pub values_are : vs ≡ under ++ v ∷ []

-- one less than the next
pub before_next : (k : ℕ) → k ≡ suc k - 1
before_next k = omega arith

pub top_part : {entries : List Entry} {values : List Value} {link : ℕ} {states : List ℕ} {vs : List Value} →
    LeadsTo entries values link states vs → 0 < link → TopPart entries values link states vs
top_part (bottom s v) some = absurd (omega (arith, some))
top_part {entries} {values} (above k x v lower under at has le leads s w) some = record {
  x = x;
  v = v;
  lower = lower;
  under = under;
  at = subst (λ n. slice_get entries n ≡ Some x) (before_next k) at;
  has = subst (λ n. slice_get values n ≡ Some v) (before_next k) has;
  leads = leads;
  states_are = s;
  values_are = w;
}

-- each link leads somewhere
pub leads_some : (entries : List Entry) (values : List Value) → IsLinked entries → length values ≡ length entries → (fuel link : ℕ) →
    link ≤ fuel → link ≤ length entries → (states : List ℕ) × (vs : List Value) × LeadsTo entries values link states vs
leads_some entries values linked same fuel zero less le = ([], [], bottom refl refl)
leads_some entries values linked same zero (suc k) less le = absurd (omega arith)
leads_some entries values linked same (suc fuel) (suc k) less le =
    let (x, at) = at_within entries k (omega arith) in
    let (v, has) = at_within values k (omega (arith, same)) in
    let lower_le : x.below ≤ k = linked k x at in
    let (states, vs, leads) = leads_some entries values linked same fuel x.below (omega arith) (omega arith) in
    (states ++ x.state ∷ [], vs ++ v ∷ [], above k x v states vs at has lower_le leads refl refl)

-- values stand for the same among more trees
pub values_extend : (trees trees' : List Tree) (vs : List Value) → Extends trees trees' → All (IsIn (length trees)) vs →
    values_in trees' vs ≡ values_in trees vs
values_extend trees trees' vs extends inside =
    ap (λ z. values_in z vs) (sym (take-append-drop (length trees) trees')
    ∙ ap (λ z. z ++ drop (length trees) trees') extends) ∙ values-stable trees (drop (length trees) trees') vs inside

-- entries and values up to a count
abbrev pub cut_at : ℕ → Roots → Roots
cut_at n roots = record { entries = take n roots.entries; values = take n roots.values; trees = roots.trees }

module _ (parts : LanguageParts) where
  pub stack_more : {roots roots' : Roots} → IsSound parts roots → Grows parts roots roots' → {link : ℕ} {stack : Forest} →
      IsStack parts roots link stack → IsStack parts roots' link stack
  stack_more {roots} {roots'} sound grows is = record {
    states = is.states;
    vs = is.vs;
    leads = leads_more grows.entries grows.values is.leads;
    states_are = is.states_are;
    values_are = values_extend roots.trees roots'.trees is.vs grows.trees (leads_inside (length roots.trees) sound.inside is.leads)
        ∙ is.values_are;
  }

  pub stack_cut : {roots : Roots} (n : ℕ) {link : ℕ} {stack : Forest} → link ≤ n → IsStack parts roots link stack →
      IsStack parts (cut_at n roots) link stack
  stack_cut n le is = record {
    states = is.states;
    vs = is.vs;
    leads = leads_cut n is.leads le;
    states_are = is.states_are;
    values_are = is.values_are;
  }

  pub grows_none : {roots : Roots} → IsSound parts roots → Grows parts roots roots
  grows_none {roots} sound = record {
    sound = sound;
    entries = take_all (length roots.entries) roots.entries (omega arith);
    values = take_all (length roots.values) roots.values (omega arith);
    trees = take_all (length roots.trees) roots.trees (omega arith);
  }

  pub grows_then : {roots roots' roots'' : Roots} → Grows parts roots roots' → Grows parts roots' roots'' → Grows parts roots roots''
  grows_then {roots} {roots'} {roots''} first second = record {
    sound = second.sound;
    entries = begins_then roots.entries roots'.entries roots''.entries first.entries second.entries;
    values = begins_then roots.values roots'.values roots''.values first.values second.values;
    trees = extends_more roots.trees roots'.trees roots''.trees first.trees second.trees;
  }

  -- more trees
  pub grows_trees : {roots roots' : Roots} → IsSound parts roots → roots'.entries ≡ roots.entries → roots'.values ≡ roots.values →
      Extends roots.trees roots'.trees → Grows parts roots roots'
  grows_trees {roots} {roots'} sound es ws extends = record {
    sound = record {
      same = ap length ws ∙ sound.same ∙ sym (ap length es);
      linked = subst IsLinked (sym es) sound.linked;
      states = subst (λ (z : List Entry). (k : ℕ) (x : Entry) → slice_get z k ≡ Some x → x.state < size_of parts.tables)
          (sym es) sound.states;
      inside = all_in_more (length roots.trees) (length roots'.trees) roots'.values
          (extends_length roots.trees roots'.trees extends) (subst (All (IsIn (length roots.trees))) (sym ws) sound.inside);
    };
    entries = ap (take (length roots.entries)) es ∙ take_all (length roots.entries) roots.entries (omega arith);
    values = ap (take (length roots.values)) ws ∙ take_all (length roots.values) roots.values (omega arith);
    trees = extends;
  }

  -- more trees, and an entry with its value
  pub grows_push : {roots roots' : Roots} (x : Entry) (v : Value) → IsSound parts roots → roots'.entries ≡ roots.entries ++ x ∷ [] →
      roots'.values ≡ roots.values ++ v ∷ [] → Extends roots.trees roots'.trees → x.below ≤ length roots.entries →
      x.state < size_of parts.tables → IsIn (length roots'.trees) v → Grows parts roots roots'
  grows_push {roots} {roots'} x v sound es ws extends le lt inside = record {
    sound = record {
      same = ap length ws ∙ length-append roots.values (v ∷ []) ∙ ap (λ n. n + 1) sound.same
          ∙ sym (length-append roots.entries (x ∷ [])) ∙ sym (ap length es);
      linked = λ k y at. linked k y (subst (λ z. slice_get z k ≡ Some y) es at);
      states = λ k y at. states k y (subst (λ z. slice_get z k ≡ Some y) es at);
      inside = subst (All (IsIn (length roots'.trees))) (sym ws)
          (All-push (IsIn (length roots'.trees)) roots.values v
          (all_in_more (length roots.trees) (length roots'.trees) roots.values
          (extends_length roots.trees roots'.trees extends) sound.inside) inside);
    };
    entries = ap (take (length roots.entries)) es ∙ take_append (length roots.entries) roots.entries (x ∷ []) refl;
    values = ap (take (length roots.values)) ws ∙ take_append (length roots.values) roots.values (v ∷ []) refl;
    trees = extends;
  }
    where
      linked : (k : ℕ) (y : Entry) → slice_get (roots.entries ++ x ∷ []) k ≡ Some y → y.below ≤ k
      linked k y at = elim (at_push roots.entries x y k at) [
        | inl old ↦ sound.linked k y old
        | inr (place, is) ↦ let e : y.below ≡ x.below = ap (λ (z : Entry). z.below) (sym is) in omega (arith, e, le, place)
      ]

      states : (k : ℕ) (y : Entry) → slice_get (roots.entries ++ x ∷ []) k ≡ Some y → y.state < size_of parts.tables
      states k y at = elim (at_push roots.entries x y k at) [
        | inl old ↦ sound.states k y old
        | inr (place, is) ↦ subst (λ (z : Entry). z.state < size_of parts.tables) is lt
      ]

  -- entries that were added later are dropped
  pub sound_cut : {roots : Roots} (n : ℕ) → n ≤ length roots.entries → IsSound parts roots → IsSound parts (cut_at n roots)
  sound_cut {roots} n le sound = record {
    same = let h = sound.same in length-take-le n roots.values (omega (arith, h)) ∙ sym (length-take-le n roots.entries le);
    linked = λ k x at. sound.linked k x ((at_take roots.entries n k x at).1);
    states = λ k x at. sound.states k x ((at_take roots.entries n k x at).1);
    inside = All-take (IsIn (length roots.trees)) n roots.values sound.inside;
  }

-- the state on top is one of the tables
pub state_below : (parts : LanguageParts) (roots : Roots) (link : ℕ) → IsSound parts roots → 0 < size_of parts.tables →
    link ≤ length roots.entries → state_in roots.entries link < size_of parts.tables
state_below parts roots zero sound some le = some
state_below parts roots (suc k) sound some le =
    let (x, at) = at_within roots.entries k (omega arith) in
    subst (λ (z : Entry). z.state < size_of parts.tables) (sym (default_at roots.entries k no_entry x at)) (sound.states k x at)
