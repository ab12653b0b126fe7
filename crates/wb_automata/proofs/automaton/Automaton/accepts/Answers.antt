use Rattle.wb_automata.proofs.automaton.Automaton.accepts.Goals as goal

pub returns : goal.returns
returns c set text l =
    let e = c.accepted.ensures.exact c.args.terminal set text l in
    (λ yes. e.0 (c.has.ensures.0 yes), λ m. c.has.ensures.1 (e.1 m))
