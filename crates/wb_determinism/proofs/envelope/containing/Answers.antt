use Rattle.std.proofs.Common.{◌+◌, ℕ, List, get_or, inl, inr, sym, subst, arith}
use Rattle.std.specs.Prelude.{◌↔◌, Contains}
use Rattle.std.proofs.lemmas.List.Elements.{Contains-get_or}
use Rattle.std.proofs.lemmas.Option.{slice_get-get_or}
use Rattle.wb_grammar_theory.specs.declared.item.Item.{Item}
use Rattle.wb_determinism.specs.Inner.Envelopes.{AddsContaining, HasAll}
use Rattle.wb_determinism.proofs.EnvelopeLemmas.{IsAmong, containing_more, containing_skip, containing_all}
use Rattle.wb_determinism.proofs.envelope.containing.Goals as goal

pub listed-candidates-requires : goal.listed-candidates-requires
listed-candidates-requires c =
    let none : Item = record { production = 0; dot = 0 } in
    let below = c.requires.own.1 (get_or c.args.own.now 0 none) (Contains-get_or c.args.own.now 0 none c.requires.own.0) in
    omega (arith, below, c.requires.index.len)

pub add_containing-requires-clause-state : goal.add_containing-requires-clause-state
add_containing-requires-clause-state c =
    let none : Item = record { production = 0; dot = 0 } in
    c.requires.index.sound (get_or c.args.own.now 0 none).production (get_or c.listed-candidates.result.now c.candidates.state-index 0)
    c.listed-candidates.result.now c.listed-candidates.ensures
    (Contains-get_or c.listed-candidates.result.now c.candidates.state-index 0 c.candidates-test.true)

pub candidates-preserved : goal.candidates-preserved
candidates-preserved c =
    let host = c.args.host.now in
    let own = c.args.own.now in
    let rows = c.listed-candidates.result.now in
    let n = c.candidates.state-index in
    let old = c.candidates.list.items in
    let adds : AddsContaining host own (get_or rows n 0) old c.add_containing.new.list.items = c.in_ok-add_containing.ensures in
    elim adds [
      | inl (has, is) ↦
          subst (λ (list : List ℕ). (s : ℕ) → Contains list s ↔ (IsAmong rows (n + 1) s × HasAll host own s)) (sym is)
          (containing_more host own rows old n 0 c.candidates-test.true c.candidates.invariant has)
      | inr (lacks, is) ↦
          subst (λ (list : List ℕ). (s : ℕ) → Contains list s ↔ (IsAmong rows (n + 1) s × HasAll host own s)) (sym is)
          (containing_skip host own rows old n 0 c.candidates-test.true c.candidates.invariant lacks)
    ]

pub returns : goal.returns
returns c =
    let none : Item = record { production = 0; dot = 0 } in
    containing_all c.args.host.now c.args.own.now c.args.index.now c.listed-candidates.result.now c.candidates.list.items
    c.candidates.state-index (get_or c.args.own.now 0 none) c.requires.index (slice_get-get_or c.args.own.now 0 none c.requires.own.0)
    c.listed-candidates.ensures (omega (arith, c.candidates-test.false)) c.candidates.invariant
