-- An automaton is followed along a text, from the start of one expression.
use Rattle.std.proofs.Common.{◌≡◌, ◌<◌, ◌≤◌, ◌+◌, ◌++◌, ◌∷◌, ◌∙◌, [], ℕ, Bool, List, Option, None, Some, inl, inr, length, slice_get, take, drop}
use Rattle.std.proofs.Common.{refl, sym, ap, subst, arith, get_or, length-append, take_all, Result, Ok, Err}
use Rattle.std.specs.Prelude.{◌↔◌, IfOk, IsNone, true}
use Rattle.std.proofs.lemmas.List.{take-append-drop, take_more}
use Rattle.std.proofs.lemmas.Option.{slice_get_within}
use Rattle.wb_lemmas.proofs.Places.{at_once, at_push, at_within, nothing_at, read_at}
use Rattle.wb_automata.specs.Automata.{AutomatonView, GoesOn, IsConsidered, IsMatch, LeadsTo, MatchesIn}
use Rattle.wb_automata.specs.Sharing.{IsOnlyMatch}
use Rattle.wb_regex.specs.Matches.{Matches, ShareText}
use Rattle.wb_regex.specs.Tree.{Tree}
use Rattle.wb_compose_language.specs.Inner.TextMachines.{AreSetsUpTo, IsFollowed, IsSetOf, IsTextMachine}
use Rattle.wb_compose_language.proofs.KnownLemmas.{match_tree}

-- no set, and one set more
pub no_sets_yet : (texts : List (Option (List ℕ))) (sets : List (List Bool)) → sets ≡ [] → AreSetsUpTo texts 0 sets
no_sets_yet texts sets e = record {
  len = ap length e;
  each = λ k text set at set_at. absurd (nothing_at set k (subst (λ z. slice_get z k ≡ Some set) e set_at));
}

pub sets_more : (texts : List (Option (List ℕ))) (n : ℕ) (text : Option (List ℕ)) (sets : List (List Bool)) (set : List Bool)
    → slice_get texts n ≡ Some text → IsSetOf text n set → AreSetsUpTo texts n sets → AreSetsUpTo texts (n + 1) (sets ++ set ∷ [])
sets_more texts n text sets set at is was = record {
  len = (let a = length-append sets (set ∷ []) in let b = was.len in omega (arith, a, b));
  each = λ k other found there set_at. elim (at_push sets set found k set_at) [
    | inl here ↦ was.each k other found there here
    | inr (last, same) ↦
        (let b = was.len in
        let e : n ≡ k = omega (arith, last, b) in
        let alike : text ≡ other = at_once texts k text other (subst (λ z. slice_get texts z ≡ Some text) e at) there in
        subst (IsSetOf other k) same (subst (λ z. IsSetOf z k set) alike (subst (λ z. IsSetOf text z set) e is)))
  ];
}

-- two facts of what a call gives
pub ok_both : {X E : Type 0} (r : Result X E) (P Q R : X → Type 0) → ((x : X) → P x → Q x → R x) → IfOk r P → IfOk r Q → IfOk r R
ok_both (Ok x) P Q R f p q = f x p q
ok_both (Err e) P Q R f p q = tt

-- the automaton of all sets
pub machine_is : (patterns : List Tree) (texts : List (Option (List ℕ))) (sets : List (List Bool)) (machine : AutomatonView)
    → AreSetsUpTo texts (length texts) sets → machine.terminals ≡ patterns → machine.sets ≡ sets → IsTextMachine patterns texts machine
machine_is patterns texts sets machine are terminals sets_are = record {
  terminals = terminals;
  considered = λ k at.
      let within = slice_get_within texts k None at in
      let b = are.len in
      let (set, there) = at_within sets k (omega (arith, within, b)) in record {
        flags = set;
        at = subst (λ z. slice_get z k ≡ Some set) (sym sets_are) there;
        has = are.each k None set at there refl;
      };
}

module _ (machine : AutomatonView) (set : ℕ) (text : List ℕ) where
  -- no byte, and one byte more
  pub followed_first : (state : ℕ) → state < length machine.paths → LeadsTo machine set [] state → IsFollowed machine set text 0 state
  followed_first state below leads = record { within = omega arith; below = below; leads = leads }

  pub text_more : (place b : ℕ) → place < length text → b ≡ get_or text place 0 → take (place + 1) text ≡ take place text ++ b ∷ []
  text_more place b lt is = take_more text place 0 lt ∙ ap (λ z. take place text ++ z ∷ []) (sym is)

  pub followed_more : (place state next b : ℕ) → IsFollowed machine set text place state → place < length text → b ≡ get_or text place 0
      → next < length machine.paths
      → ((s : ℕ) (x : List ℕ) → LeadsTo machine s x state → LeadsTo machine s (x ++ b ∷ []) next)
      → IsFollowed machine set text (place + 1) next
  followed_more place state next b was lt is below leads = record {
    within = omega (arith, lt);
    below = below;
    leads = subst (λ z. LeadsTo machine set z next) (sym (text_more place b lt is)) (leads set (take place text) was.leads);
  }

  module _ (considered : IsConsidered machine.sets set set) where
    -- where no match goes on, the text is none
    pub stops : (place state b : ℕ) (step : Option ℕ) → IsFollowed machine set text place state → place < length text
        → b ≡ get_or text place 0
        → ((s : ℕ) (x : List ℕ) → LeadsTo machine s x state → IsNone step ↔ (¬ GoesOn machine s (x ++ b ∷ []))) → IsNone step
        → ¬ IsMatch machine.terminals set text
    stops place state b step was lt is none at match =
        (none set (take place text) was.leads).0 at (record {
          terminal = set;
          rest = drop (place + 1) text;
          is = record {
            considered = considered;
            is = subst (IsMatch machine.terminals set)
                (sym (take-append-drop (place + 1) text) ∙ ap (λ z. z ++ drop (place + 1) text) (text_more place b lt is)) match;
          };
        })

    -- at its end the state tells
    pub ends : (place state : ℕ) (answer : Bool) → IsFollowed machine set text place state → length text ≤ place
        → ((s : ℕ) (x : List ℕ) → LeadsTo machine s x state → (answer ≡ true) ↔ MatchesIn machine s set x)
        → (answer ≡ true) ↔ IsMatch machine.terminals set text
    ends place state answer was far exact =
        let there = exact set text (subst (λ z. LeadsTo machine set z state) (take_all place text far) was.leads) in
        ((λ on. (there.0 on).is), (λ is. there.1 (record { considered = considered; is = is })))

-- a text alone and another expression share a text where the other matches it
pub matched_answer : (patterns : List Tree) (other : ℕ) (answer : Bool) (text : List ℕ) (p q : Tree) → IsOnlyMatch p text
    → (answer ≡ true) ↔ IsMatch patterns other text → slice_get patterns other ≡ Some q → (answer ≡ true) ↔ ShareText p q
matched_answer patterns other answer text p q only is at = (
  λ on. record { text = text; one = only.matches; other = match_tree patterns other q text at (is.0 on) },
  λ s. is.1 (record { tree = q; at = at; matches = subst (Matches q) (only.only s.text s.one) s.other }),
)

-- so in the other order
pub turned_answer : (answer : Bool) (p q : Tree) → (answer ≡ true) ↔ ShareText q p → (answer ≡ true) ↔ ShareText p q
turned_answer answer p q is = (
  λ on. (let s = is.0 on in record { text = s.text; one = s.other; other = s.one }),
  λ s. is.1 (record { text = s.text; one = s.other; other = s.one }),
)

-- what is listed at a place that was read
pub listed_at : (texts : List (Option (List ℕ))) (k : ℕ) (d other : Option (List ℕ)) → k < length texts → d ≡ get_or texts k d
    → get_or texts k d ≡ other → slice_get texts k ≡ Some other
listed_at texts k d other lt is same = read_at texts texts k d refl lt is ∙ ap Some (is ∙ same)
