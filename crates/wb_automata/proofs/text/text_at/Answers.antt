use Rattle.std.proofs.Common.{◌≡◌, ◌∙◌, ◌++◌, sym, ap, arith, get_or, Some, [], reverse}
use Rattle.std.specs.Prelude.{slice_get}
use Rattle.std.proofs.lemmas.Result.{IfOk-weaker}
use Rattle.wb_automata.specs.Automata.{Path}
use Rattle.wb_automata.specs.Paths.{paths_of}
use Rattle.std.proofs.lemmas.Option.{slice_get-get_or}
use Rattle.wb_automata.proofs.TextLemmas.{back_begin, text_back, text_none, paths_len}
use Rattle.wb_automata.proofs.text.text_at.Goals as goal

pub back-init : goal.back-init
back-init c = rw (c.new-bytes.ensures.items) (back_begin c.args.predecessors.now c.args.state c.requires)

pub back-preserved : goal.back-preserved
back-preserved c = text_back c.args.predecessors.now c.args.state c.back.at c.back.bytes.items c.push.new.list.items _
    (slice_get-get_or c.args.predecessors.now c.back.at _ c.back.invariant.0) c.back-test.true c.in_ok-push.ensures.ok c.back.invariant

pub returns : goal.returns
returns c =
    let os = c.args.predecessors.now in
    let o = get_or os c.back.at (record { set = 0; from = 0; byte = 0 }) in
    let whole : (path : Path) → slice_get (paths_of os) c.args.state ≡ Some path → c.reverse.new.self.items ≡ path.text = λ path is.
    let v : Path = get_or (paths_of os) c.back.at path in
    let at : slice_get (paths_of os) c.back.at ≡ Some v = slice_get-get_or (paths_of os) c.back.at path
    (omega (arith, paths_len os, c.back.invariant.0)) in
    let none : v.text ≡ [] = text_none os c.back.at o (slice_get-get_or os c.back.at _ c.back.invariant.0) c.back-test.false v at in
    sym (c.back.invariant.1 path v is at ∙ ap (λ z. z ++ reverse c.back.bytes.items) none ∙ sym c.reverse.ensures.items) in
    IfOk-weaker c.from_vec.result (λ made. made ≡ c.reverse.new.self.items)
    (λ text. (path : Path) → slice_get (paths_of os) c.args.state ≡ Some path → text ≡ path.text)
    (λ made e path is. e ∙ whole path is) c.from_vec.ensures.ok
