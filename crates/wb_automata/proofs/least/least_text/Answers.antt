use Rattle.std.proofs.Common.{◌≡◌, Some, ap, refl, arith}
use Rattle.std.specs.Prelude.{slice_get}
use Rattle.std.proofs.lemmas.Result.{IfOk-weaker}
use Rattle.wb_automata.specs.Automata.{Path}
use Rattle.wb_automata.specs.Overlaps.{IsLeastMatch}
use Rattle.wb_automata.proofs.LeastLemmas.{filled_match, in_all, least_of}
use Rattle.wb_automata.proofs.least.least_text.Goals as goal

pub unreachable-requires : goal.unreachable-requires
unreachable-requires c =
    let a = c.in_ok-automaton.automaton in
    let at : slice_get a.terminals 0 ≡ Some c.args.regex.now = ap (λ z. slice_get z 0) c.in_ok-automaton.ensures.terminals in
    let (x, m) = filled_match c.args.regex.now c.in_ok-automaton.ensures.filled in
    let is = in_all a 1 0 c.args.regex.now x c.in_ok-automaton.ensures.sets (omega arith) at m in
    c.in-None.ensures.none refl 0 x is

pub returns : goal.returns
returns c =
    let a = c.in_ok-automaton.automaton in
    let at : slice_get a.terminals 0 ≡ Some c.args.regex.now = ap (λ z. slice_get z 0) c.in_ok-automaton.ensures.terminals in
    IfOk-weaker c.text.result (λ text. (path : Path) → slice_get a.paths c.in-Some.state ≡ Some path → text ≡ path.text)
    (IsLeastMatch c.args.regex.now) (λ text is. least_of a 1 0 c.args.regex.now c.in-Some.state text c.in_ok-automaton.ensures.sets
    (omega arith) at is c.in-Some.ensures.some) c.text.ensures
