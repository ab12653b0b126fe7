use Rattle.std.proofs.Common.{◌≡◌, ◌∷◌, ◌++◌, [], ℕ, List, Some, length, refl, sym, ◌∙◌, ap, subst, arith}
use Rattle.std.specs.Prelude.{slice_get, slice_set, slice_index_or}
use Rattle.std.proofs.lemmas.Grind.{common_steps}
use Rattle.std.proofs.lemmas.List.Elements.{Contains-get_or}
use Rattle.std.proofs.lemmas.Option.{gets, slice_get-get_or}
use Rattle.wb_lemmas.proofs.Places.{read_last}
use Rattle.wb_grammar.specs.Inner.Worklists.{State, state_of}
use Rattle.wb_grammar.proofs.WorklistLemmas.{IsAdvancing, advancing_start, advancing_more, advancing_end, row_there}
use Rattle.wb_grammar.proofs.least_fixpoint.Worklist.advance.Goals as goal

pub stopped-init : goal.stopped-init
stopped-init c =
    let g = c.args.grammar.now in
    let s : State = state_of c.args.self.now in
    let b = c.index-nonterminal.result.now in
    let len : c.len.result ≡ length s.waiting = omega arith in
    let last = read_last s.waiting s.waiting b refl c.requires.waiting (rw (sym len) c.index-nonterminal.ensures) in
    let popped : s.waiting ≡ c.pop.new.self.items ++ b ∷ [] = grind (
      arith,
      common_steps,
      gets,
      c.pop.ensures.items,
      c.pop.ensures.value,
      last,
    ) in
    let list : List (ℕ × ℕ) = c.deref-production-items.result.now in
    let is : list ≡ slice_index_or s.stopped b c.index_mut.result.now = c.deref-production-items.ensures.value ∙
    (c.stopped-2.view_is ∙ (c.replace-stopped.ensures.value ∙ c.index_mut.ensures.value)) in
    let here : slice_get s.stopped b ≡ Some list =
    row_there g c.args.terminals s c.pop.new.self.items b c.index_mut.result.now c.requires.worklist popped ∙ ap Some (sym is) in
    subst (λ (row : List (ℕ × ℕ)). IsAdvancing g c.args.terminals s list 0 (record s {
      waiting = c.pop.new.self.items;
      stopped =
          slice_set s.stopped b row;
    })) (sym (c.replace-stopped.ensures.after ∙ c.new.ensures))
    (advancing_start g c.args.terminals s c.pop.new.self.items b list c.requires.worklist c.requires.settled popped here)

pub pass-requires-clause-worklist : goal.pass-requires-clause-worklist
pass-requires-clause-worklist c = c.stopped.invariant.worklist

pub pass-requires-clause-passed : goal.pass-requires-clause-passed
pass-requires-clause-passed c =
    let list : List (ℕ × ℕ) = c.deref-production-items.result.now in
    let f : ℕ × ℕ = slice_index_or list c.stopped.production-index (0, 0) in
    c.stopped.invariant.passed f.0 f.1 (Contains-get_or list c.stopped.production-index (0, 0) c.stopped-test.true)

pub stopped-preserved : goal.stopped-preserved
stopped-preserved c =
    let list : List (ℕ × ℕ) = c.deref-production-items.result.now in
    let f : ℕ × ℕ = slice_index_or list c.stopped.production-index (0, 0) in
    advancing_more c.args.grammar.now c.args.terminals (state_of c.args.self.now) list c.stopped.production-index (state_of c.stopped.self)
    (state_of c.pass.new.self) f.0 f.1
    c.stopped.invariant (slice_get-get_or list c.stopped.production-index (0, 0) c.stopped-test.true) c.in_ok-pass.ensures

pub returns : goal.returns
returns c =
    advancing_end c.args.grammar.now c.args.terminals
    (state_of c.args.self.now) c.deref-production-items.result.now c.stopped.production-index
    (state_of c.stopped.self) (omega arith) c.stopped.invariant
