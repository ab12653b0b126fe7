use Rattle.std.proofs.Common.{◌≡◌, None, arith, subst}
use Rattle.std.specs.Prelude.{◌↔◌, true}
use Rattle.wb_automata.specs.Automata.{IsMatch}
use Rattle.wb_compose_language.proofs.TextMachineLemmas.{listed_at}
use Rattle.wb_compose_language.proofs.known.matched_by.Goals as goal

pub is_match-requires : goal.is_match-requires
is_match-requires c =
    let len = c.requires.known.texts.len in
    let within = c.requires.other in
    c.requires.known.machine.considered c.args.other
    (listed_at c.args.known.now.texts.now c.args.other c.index-known-other.result None (omega (arith, len, within)) c.index-known-other.is
    c.in-None.is)

pub returns-in-None : goal.returns-in-None
returns-in-None c =
    subst (λ z. (c.is_match.result ≡ true) ↔ IsMatch z c.args.other c.args.text.now) c.requires.known.machine.terminals c.is_match.ensures
