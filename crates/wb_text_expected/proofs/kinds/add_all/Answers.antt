use Rattle.std.proofs.Common.{◌≡◌, List, [], ◌∷◌, ◌++◌, ◌+◌, ◌<◌, ◌≤◌, drop, length, refl, sym, ap, ◌∙◌, subst, arith}
use Rattle.std.proofs.lemmas.List.{append-nil}
use Rattle.std.proofs.Math.ListN.{drop_of_length-le}
use Rattle.wb_lemmas.proofs.Parts.{drop_from}
use Rattle.wb_text_expected.specs.Expected.{AreThose, ComesAfter, none}
use Rattle.wb_text_expected.proofs.kinds.add_all.Goals as goal

pub kinds-preserved : goal.kinds-preserved
kinds-preserved g c = λ read first s rest those.
    let P = ComesAfter g.T.Table.grammar first read in
    let a = c.in_ok-add.ensures read first s (drop (c.kinds.kind-index + 1) c.args.kinds.now) rest those in
    subst (λ l. AreThose P c.args.kinds.now l) a.2
    (c.kinds.invariant read first s a.0 (subst (λ d. AreThose P d a.0)
    (sym (drop_from c.args.kinds.now c.kinds.kind-index c.kind-item.result c.kinds-test.true c.kind-item.is)) a.1))

pub returns : goal.returns
returns g c = λ read first s.
    let P = ComesAfter g.T.Table.grammar first read in
    let all : drop c.kinds.kind-index c.args.kinds.now ≡ [] = drop_of_length-le c.args.kinds.now (omega (arith, c.kinds-test.false)) in
    subst (λ l. AreThose P c.args.kinds.now l) (append-nil c.kinds.out.items) (c.kinds.invariant read first s [] (none all refl))
