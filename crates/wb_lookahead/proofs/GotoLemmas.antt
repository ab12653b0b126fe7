-- The kernels after nonterminals of one kernel, move by move.
use Rattle.std.proofs.Common.{◌≡◌, ◌↔◌, ℕ, ◌+◌, ◌<◌, ◌≤◌, ◌⊎◌, List, [], ◌∷◌, ◌++◌, Some, None, Option, IsNone, IfSome, length, length-set}
use Rattle.std.proofs.Common.{get_or, set, refl, sym, ◌∙◌, ap, subst, inl, inr, arith, get_or-set_same, get_or-set_other}
use Rattle.std.specs.Prelude.{Contains, slice_get, slice_index}
use Rattle.std.proofs.lemmas.Bool.{cases_eq, cases_lt}
use Rattle.std.proofs.lemmas.List.{get_or_past}
use Rattle.std.proofs.lemmas.Option.{slice_get_within, same_Some}
use Rattle.wb_lemmas.proofs.Members.{place_of, contains_at}
use Rattle.wb_base.specs.declared.symbol.Symbol.{Symbol}
use Rattle.wb_base.specs.declared.symbol.Symbol.TheVariants.{Terminal, Nonterminal}
use Rattle.wb_grammar_theory.specs.declared.item.Item.{Item}
use Rattle.wb_grammar_theory.specs.Items as valid
use Rattle.wb_grammar_theory.specs.Items.{after_dot, HasItem, advance}
use Rattle.wb_grammar_theory.proofs.ValidLemmas.{before_last}
use Rattle.wb_items.specs.declared.transitions.Move.{Move}
use Rattle.wb_items.specs.Kernels.{KernelsView, AreKernels, HasNoneBefore, LeadsTo, count_of, prefix_of}
use Rattle.wb_lookahead.specs.Codes.{goto_at}
use Rattle.wb_lookahead.specs.Inner.Rows.{AreGotos, GotosUpTo, PutsGoto}
use Rattle.wb_lookahead.proofs.StepLemmas.{step_once}
use Rattle.wb_lookahead.proofs.StandLemmas.{goto_is}

-- the moves of a kernel
abbrev pub AreMovesOf : KernelsView → ℕ → List Move → Type 0
AreMovesOf kernels s moves = (x : Symbol) (next : ℕ) → Contains moves (record { symbol = x; state = next }) ↔ LeadsTo kernels s x next

-- one move more
pub gotos_more : {kernels : KernelsView} → AreKernels kernels → (s : ℕ) (moves : List Move) (codes new : List ℕ) (n : ℕ) (move : Move) →
    AreMovesOf kernels s moves → slice_get moves n ≡ Some move → PutsGoto move codes new → GotosUpTo kernels s moves codes n →
    GotosUpTo kernels s moves new (n + 1)
gotos_more {kernels} h s moves codes new n move are at (inl ((t, is), same)) before = subst (λ z. GotosUpTo kernels s moves z (n + 1))
    (sym same) (record {
      len = before.len;
      sound = before.sound;
      complete = λ i b next lt there below. elim (cases_eq i n) [
        | inl now ↦
            let e : move ≡ record { symbol = Nonterminal b; state = next } = same_Some move (record {
              symbol = Nonterminal b;
              state =
                  next;
            })
            (sym at ∙ subst (λ k. slice_get moves k ≡ Some (record { symbol = Nonterminal b; state = next })) now there) in
            let other : Terminal t ≡ Nonterminal b = sym is ∙ ap (λ (m : Move). m.symbol) e in
            cc
        | inr earlier ↦ before.complete i b next (omega arith) there below
      ];
    })
gotos_more {kernels} h s moves codes new n move are at (inr (b, code, is, code_is, same)) before = subst
    (λ z. GotosUpTo kernels s moves z (n + 1)) (sym same) (record {
      len = length-set codes b code ∙ before.len;
      sound = sound;
      complete = λ i a next lt there below. complete i a next lt there below (cases_eq a b);
    })
  where
    leads : LeadsTo kernels s (Nonterminal b) move.state
    leads = (are (Nonterminal b) move.state).0 (subst (λ x. Contains moves (record {
      symbol = x;
      state =
          move.state;
    })) is (contains_at moves move n at))

    sound : (a next : ℕ) → goto_at (get_or (set codes b code) a 0) ≡ Some next → LeadsTo kernels s (Nonterminal a) next
    sound a next found = elim (cases_eq a b) [
      | inl one ↦ elim (cases_lt b (length codes)) [
        | inl within ↦
            let there : get_or (set codes b code) a 0 ≡ code = rw one (get_or-set_same codes b code 0 within) in
            let e : move.state ≡ next = same_Some move.state next (sym code_is ∙ (ap goto_at (sym there) ∙ found)) in
            subst (λ z. LeadsTo kernels s (Nonterminal z) next) (sym one) (subst (LeadsTo kernels s (Nonterminal b)) e leads)
        | inr past ↦
            let there : get_or (set codes b code) a 0 ≡ 0 = get_or_past {X = ℕ} (set codes b code) a 0
            (omega (arith, length-set codes b code)) in
            absurd (let bad : None ≡ Some next = subst (λ z. goto_at z ≡ Some next) there found in cc)
      ]
      | inr other ↦ before.sound a next (ap goto_at (sym (get_or-set_other codes b a code 0 other)) ∙ found)
    ]

    complete : (i a next : ℕ) → i < n + 1 → slice_get moves i ≡ Some (record { symbol = Nonterminal a; state = next }) →
        a < kernels.grammar.nonterminals → (a ≡ b) ⊎ (a ≡ b → ⊥) → goto_at (get_or (set codes b code) a 0) ≡ Some next
    complete i a next lt there below (inl one) =
        let to : LeadsTo kernels s (Nonterminal a) next = (are (Nonterminal a) next).0 (contains_at moves (record {
          symbol =
              Nonterminal a;
          state = next;
        }) i there) in
        let e : move.state ≡ next = step_once h s (Nonterminal b) move.state next leads
        (subst (λ z. LeadsTo kernels s (Nonterminal z) next) one to) in
        let written : get_or (set codes b code) a 0 ≡ code = rw one
        (get_or-set_same codes b code 0 (omega (arith, before.len, below, one))) in
        ap goto_at written ∙ (code_is ∙ ap Some e)
    complete i a next lt there below (inr other) = elim (cases_eq i n) [
      | inl now ↦
          let e : move ≡ record { symbol = Nonterminal a; state = next } = same_Some move (record { symbol = Nonterminal a; state = next })
          (sym at ∙ subst (λ k. slice_get moves k ≡ Some (record { symbol = Nonterminal a; state = next })) now there) in
          let symbols : Nonterminal b ≡ Nonterminal a = sym is ∙ ap (λ (m : Move). m.symbol) e in
          absurd (other (cc))
      | inr earlier ↦ ap goto_at (get_or-set_other codes b a code 0 other) ∙ before.complete i a next (omega arith) there below
    ]

-- after all moves the codes are those of the kernels after nonterminals
pub gotos_end : {kernels : KernelsView} → AreKernels kernels → (s : ℕ) (moves : List Move) (codes : List ℕ) (n : ℕ) → s < count_of kernels →
    AreMovesOf kernels s moves → length moves ≤ n → GotosUpTo kernels s moves codes n →
    AreGotos kernels s codes kernels.grammar.nonterminals
gotos_end {kernels} h s moves codes n lt are le all = record {
  len = all.len;
  each = λ b below. goto_is h s b (goto_at (slice_index codes b)) (some b (goto_at (slice_index codes b)) refl) (
    λ none item rest has before. absurd (bad b below none item rest has before),
    λ none. nowhere b (goto_at (slice_index codes b)) refl none,
  );
}
  where
    some : (b : ℕ) (goto : Option ℕ) → goto_at (slice_index codes b) ≡ goto → IfSome goto (LeadsTo kernels s (Nonterminal b))
    some b None e = tt
    some b (Some next) e = all.sound b next e

    some_none : (goto : Option ℕ) (next : ℕ) → goto ≡ Some next → IsNone goto → ⊥
    some_none None next e none = cc
    some_none (Some m) next e none = cc

    bad : (b : ℕ) → b < kernels.grammar.nonterminals → IsNone (goto_at (slice_index codes b)) → (item : Item) (rest : List Symbol) →
        HasItem kernels.grammar (prefix_of kernels s) item → after_dot kernels.grammar item ≡ Nonterminal b ∷ rest → ⊥
    bad b below none item rest (t, v) before =
        let moved = valid.move item (Nonterminal b) rest (prefix_of kernels s) v before refl refl in
        let (next, next_lt, same) = h.states.all (prefix_of kernels s ++ Nonterminal b ∷ []) (advance item, t, moved) in
        let has : Contains moves (record { symbol = Nonterminal b; state = next }) = (are (Nonterminal b) next).1
        (lt, next_lt, (advance item, t, moved), same) in
        let (i, at) = place_of moves (record { symbol = Nonterminal b; state = next }) has in
        let found : goto_at (slice_index codes b) ≡ Some next = all.complete i b next
        (omega (arith, le, slice_get_within moves i (record { symbol = Nonterminal b; state = next }) at)) at below in
        some_none (goto_at (slice_index codes b)) next found none

    nowhere : (b : ℕ) (goto : Option ℕ) → goto_at (slice_index codes b) ≡ goto →
        HasNoneBefore kernels.grammar (prefix_of kernels s) (Nonterminal b) →
        IsNone goto
    nowhere b None e none = refl
    nowhere b (Some next) e none =
        let leads = all.sound b next e in
        let (item, t, v) = leads.2 in
        let (before, rest, has, is) = before_last v (prefix_of kernels s) (Nonterminal b) refl in
        absurd (none before rest has is)
