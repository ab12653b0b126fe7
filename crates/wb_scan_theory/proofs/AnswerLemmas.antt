-- Each text has a tree or a stop.
use Rattle.std.proofs.Common.{List, [], ap, arith, inl, inr, refl, subst, suc, sym, zero, ℕ, ◌++◌, ◌+◌, ◌<◌, ◌∙◌, ◌∷◌, ◌≡◌, ◌≤◌}
use Rattle.wb_base.specs.Grammar.{GrammarView}
use Rattle.wb_base.specs.declared.symbol.Symbol.{Symbol}
use Rattle.wb_base.specs.declared.symbol.Symbol.TheVariants.{Nonterminal, Terminal}
use Rattle.wb_grammar_theory.specs.Items.{IsViablePrefix}
use Rattle.wb_grammar_theory.specs.Lookaheads.{CanShift}
use Rattle.wb_grammar_theory.specs.Productions.{end_of}
use Rattle.wb_grammar_theory.specs.Trees.{Forest, leaf, node, nothing, symbols}
use Rattle.wb_scan_theory.proofs.BackLemmas.{Reduced, reduction_finds}
use Rattle.wb_scan_theory.proofs.ForestLemmas.{symbols_joined}
use Rattle.wb_scan_theory.proofs.StackBounds.{bounded, reduced_count, reduced_nodes}
use Rattle.wb_scan_theory.proofs.StepLemmas.{accept_gives, first_keeps, no_action_stops, nothing_stops, reduce_keeps, shift_keeps}
use Rattle.wb_scan_theory.specs.Bounds.{count, limit, nodes}
use Rattle.wb_scan_theory.specs.Inner.Runs.{Advances, Decision, IsOne, IsParsable, reduces, shifts, stuck}
use Rattle.wb_scan_theory.specs.Machine.{Keeps, joined}
use Rattle.wb_scan_theory.specs.Readings.{HasAnswerOn, a_tree, a_stop, Gives, Scanner}
use Rattle.wb_scan_theory.specs.Tokens.{Next, missing, over, token}
use Rattle.wb_scan_theory.specs.declared.stop_kind.StopKind.TheVariants.{NoToken, Unexpected}

-- after one more reduction the stack is still below the limit
pub falls : (g : GrammarView) (many wide m : ℕ) → IsParsable g many wide →
    (next : Scanner) (stack : Forest) (prefix : List Symbol) (at p : ℕ) → (r : Reduced g stack p) →
    Keeps g next (joined r.below (node p r.left r.children nothing)) prefix at → count stack ≡ m
    → (nodes (joined r.below (node p r.left r.children nothing)) ≡ suc (nodes stack)) × (suc (nodes stack) ≤ limit many wide m) ×
    (count (joined r.below (node p r.left r.children nothing)) ≡ m)
falls g many wide m ok next stack prefix at p r k e =
    let new : Forest = joined r.below (node p r.left r.children nothing) in
    let grown : nodes new ≡ suc (nodes stack) = reduced_nodes r.below r.children p r.left ∙ ap (λ z. suc (nodes z)) (sym r.is) in
    let same : count new ≡ m = reduced_count r.below r.children p r.left ∙ ap count (sym r.is) ∙ e in
    let b : nodes new ≤ limit many wide m = bounded g many wide ok.sized ok.acyclic new m k.derived k.is_prefix (omega arith) in
    (grown, (let h : suc (nodes stack) ≤ limit many wide m = subst (λ z. z ≤ limit many wide m) grown b in h), same)

pub reductions : (g : GrammarView) (many wide : ℕ) → IsParsable g many wide →
    ((prefix : List Symbol) (t : ℕ) → IsViablePrefix g prefix → t ≤ end_of g → Decision g prefix t) → (next : Scanner) → IsOne next →
    (prefix : List Symbol) (at u place : ℕ) (s : Next) → next prefix at s → Gives g s u place → u ≤ end_of g
    → ((stack : Forest) → Keeps g next stack prefix at → CanShift g (symbols stack) u → HasAnswerOn g next)
    → ((stack : Forest) → Keeps g next stack prefix at → u ≡ end_of g → symbols stack ≡ Nonterminal g.start ∷ [] → HasAnswerOn g next)
    → (fuel : ℕ) (stack : Forest) (m : ℕ) → Keeps g next stack prefix at → count stack ≡ m → limit many wide m ≤ nodes stack + fuel →
    HasAnswerOn g next
reductions g many wide ok decide next one prefix at u place s is_next gives below on_shift on_accept zero stack m k e enough =
    elim (decide (symbols stack) u k.is_prefix below) [
      | shifts can ↦ on_shift stack k can
      | reduces p can ↦
          elim (reduction_finds g ok.live stack p u can) [
            | inl (_, is_end, is) ↦ on_accept stack k is_end is
            | inr r ↦
                let k' = reduce_keeps g ok.free next one stack prefix at k p s u place is_next gives can r in
                let (grown, within, same) = falls g many wide m ok next stack prefix at p r k' e in
                absurd (let h : suc (nodes stack) ≤ limit many wide m = within in omega arith)
          ]
      | stuck no_s no_r ↦ a_stop place (Unexpected u)
          (no_action_stops g ok.productive next stack prefix at u place k s is_next gives no_s no_r)
    ]
reductions g many wide ok decide next one prefix at u place s is_next gives below on_shift on_accept (suc fuel) stack m k e enough =
    elim (decide (symbols stack) u k.is_prefix below) [
      | shifts can ↦ on_shift stack k can
      | reduces p can ↦
          elim (reduction_finds g ok.live stack p u can) [
            | inl (_, is_end, is) ↦ on_accept stack k is_end is
            | inr r ↦
                let k' = reduce_keeps g ok.free next one stack prefix at k p s u place is_next gives can r in
                let (grown, within, same) = falls g many wide m ok next stack prefix at p r k' e in
                let new : Forest = joined r.below (node p r.left r.children nothing) in
                let grown' : nodes new ≡ suc (nodes stack) = grown in
                reductions g many wide ok decide next one prefix at u place s is_next gives below on_shift on_accept fuel new m k' same
                (omega arith)
          ]
      | stuck no_s no_r ↦ a_stop place (Unexpected u)
          (no_action_stops g ok.productive next stack prefix at u place k s is_next gives no_s no_r)
    ]

with_token : (g : GrammarView) (many wide : ℕ) → IsParsable g many wide →
    ((prefix : List Symbol) (t : ℕ) → IsViablePrefix g prefix → t ≤ end_of g → Decision g prefix t) → (next : Scanner) → IsOne next →
    (size : ℕ) → ((prefix : List Symbol) (at : ℕ) → IsViablePrefix g prefix → at ≤ size → (s : Next) × next prefix at s) →
    Advances g next size
    → (stack : Forest) (prefix : List Symbol) (at : ℕ) → Keeps g next stack prefix at → (s : Next) → next prefix at s
    → ((stack' : Forest) (begin t : ℕ) (lexeme : List ℕ) (after : ℕ) → next prefix at (token begin t lexeme after) →
    Keeps g next (joined stack' (leaf t lexeme nothing)) (symbols stack' ++ Terminal t ∷ []) after → HasAnswerOn g next) →
    HasAnswerOn g next
with_token g many wide ok decide next one size total adv stack prefix at k (token begin t lexeme after) e go =
    reductions g many wide ok decide next one prefix at t begin (token begin t lexeme after) e (refl, refl)
    (let h : t < end_of g = adv.below prefix at begin t lexeme after e in omega arith)
    (λ stack' k' can. go stack' begin t lexeme after e (shift_keeps g ok.free next stack' prefix at k' begin t lexeme after e can))
    (λ stack' k' is_end is. absurd (let h : t < end_of g = adv.below prefix at begin t lexeme after e in omega arith))
    (limit many wide (count stack)) stack (count stack) k refl (omega arith)
with_token g many wide ok decide next one size total adv stack prefix at k (over place) e go =
    reductions g many wide ok decide next one prefix at (end_of g) place (over place) e (refl, refl) (omega arith)
    (λ stack' k' can. absurd (ok.no_end (symbols stack') can))
    (λ stack' k' is_end is. a_tree stack' (accept_gives g next stack' prefix at place k' e is))
    (limit many wide (count stack)) stack (count stack) k refl (omega arith)
with_token g many wide ok decide next one size total adv stack prefix at k (missing place) e go =
    a_stop place NoToken (nothing_stops g ok.productive next stack prefix at place k e)

rounds : (g : GrammarView) (many wide : ℕ) → IsParsable g many wide →
    ((prefix : List Symbol) (t : ℕ) → IsViablePrefix g prefix → t ≤ end_of g → Decision g prefix t) → (next : Scanner) → IsOne next →
    (size : ℕ) → ((prefix : List Symbol) (at : ℕ) → IsViablePrefix g prefix → at ≤ size → (s : Next) × next prefix at s) →
    Advances g next size
    → (left : ℕ) (stack : Forest) (prefix : List Symbol) (at : ℕ) → Keeps g next stack prefix at → symbols stack ≡ prefix → at ≤ size →
    size ≤ at + left → HasAnswerOn g next
rounds g many wide ok decide next one size total adv zero stack prefix at k here inside enough =
    with_token g many wide ok decide next one size total adv stack prefix at k
    (total prefix at (subst (λ z. IsViablePrefix g z) here k.is_prefix) inside).0
    (total prefix at (subst (λ z. IsViablePrefix g z) here k.is_prefix) inside).1
    (λ stack' begin t lexeme after e k'.
    let h : at < after = adv.on prefix at begin t lexeme after e in
    let i : after ≤ size = adv.within prefix at begin t lexeme after e in absurd (omega arith))
rounds g many wide ok decide next one size total adv (suc left) stack prefix at k here inside enough =
    with_token g many wide ok decide next one size total adv stack prefix at k
    (total prefix at (subst (λ z. IsViablePrefix g z) here k.is_prefix) inside).0
    (total prefix at (subst (λ z. IsViablePrefix g z) here k.is_prefix) inside).1
    (λ stack' begin t lexeme after e k'.
    let h : at < after = adv.on prefix at begin t lexeme after e in
    rounds g many wide ok decide next one size total adv left (joined stack' (leaf t lexeme nothing))
    (symbols stack' ++ Terminal t ∷ []) after k' (symbols_joined stack' (leaf t lexeme nothing))
    (adv.within prefix at begin t lexeme after e) (omega arith))

pub answer : (g : GrammarView) (many wide : ℕ) → IsParsable g many wide →
    ((prefix : List Symbol) (t : ℕ) → IsViablePrefix g prefix → t ≤ end_of g → Decision g prefix t) → (next : Scanner) → IsOne next →
    (size : ℕ) → ((prefix : List Symbol) (at : ℕ) → IsViablePrefix g prefix → at ≤ size → (s : Next) × next prefix at s) →
    Advances g next size → HasAnswerOn g next
answer g many wide ok decide next one size total adv =
    rounds g many wide ok decide next one size total adv size nothing [] 0 (first_keeps g next) refl (omega arith) (omega arith)
