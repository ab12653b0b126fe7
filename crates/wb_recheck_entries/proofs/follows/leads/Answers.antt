use Rattle.std.proofs.Common.{refl, sym, arith}
use Rattle.std.proofs.lemmas.Bool.{true≢false}
use Rattle.wb_recheck_entries.proofs.MoveLemmas.{move_nowhere, move_where}
use Rattle.wb_recheck_entries.proofs.follows.leads.Goals as goal

pub returns-then-to-len : goal.returns-then-to-len
returns-then-to-len c = (
  λ t. absurd (true≢false (sym t)),
  λ (lt, move).
      let long = c.requires.reference.states.len in
      let count = c.len.ensures in
      let past = c.if-to-len.true in
      absurd (omega (arith, lt, long, count, past)),
)

pub returns-in-None : goal.returns-in-None
returns-in-None c =
    let r = c.args.reference.now in
    let is = c.requires.reference in (
      λ t. absurd (true≢false (sym t)),
      λ (lt, move). absurd (move_nowhere r.grammar.now r.kernels.now is.of_grammar is.kernels r.lines.now r.found.now.states is.good
          is.states
          c.args.from c.state.result c.state.ensures c.args.symbol (c.in-None.ensures.none.0 refl) c.args.to lt move),
    )

pub returns-in-Some : goal.returns-in-Some
returns-in-Some c =
    let r = c.args.reference.now in
    let is = c.requires.reference in
    let where_is = move_where r.grammar.now r.kernels.now is.of_grammar is.kernels r.lines.now r.found.now.states is.good is.states
    c.args.from c.state.result c.state.ensures c.args.symbol c.in-Some.next c.in-Some.ensures.some c.args.to c.state-in-Some.result
    c.state-in-Some.ensures in (
      λ t. (
        let long = is.states.len in
            let count = c.len.ensures in
            let within = c.if-to-len.false in
            omega (arith, long, count, within),
        where_is.0 (c.is_same.ensures.0 t),
      ),
      λ (lt, move). c.is_same.ensures.1 (where_is.1 move),
    )
