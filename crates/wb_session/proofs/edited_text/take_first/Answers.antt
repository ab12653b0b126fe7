use Rattle.std.proofs.Common.{◌∙◌, ◌++◌, ◌-◌, ap, arith, drop, take}
use Rattle.std.proofs.lemmas.List.{take-take}
use Rattle.wb_session.proofs.VersionLemmas.{fewer_common, taken_first}
use Rattle.wb_session.proofs.edited_text.take_first.Goals as goal

pub returns-clause-common : goal.returns-clause-common
returns-clause-common g c =
    let n = c.args.count in
    let xs = c.args.list.now in
    let shared = c.earlier-shared.result in
    let made = taken_first xs c.args.other.now.items c.extend_from_slice.new.self.items c.args.common.now shared n
    c.earlier-shared.ensures.one c.earlier-shared.ensures.other c.requires.count c.requires.common
    (c.in_ok-extend_from_slice.ensures.items ∙ ap (λ z. z ++ take (n - shared) (drop shared xs)) c.truncate.ensures.items) in
    ap (take n) made ∙ take-take n n xs (omega arith)

pub returns-clause-ok : goal.returns-clause-ok
returns-clause-ok g c =
    let n = c.args.count in
    let xs = c.args.list.now in
    let shared = c.earlier-shared.result in
    taken_first xs c.args.other.now.items c.extend_from_slice.new.self.items c.args.common.now shared n c.earlier-shared.ensures.one
    c.earlier-shared.ensures.other c.requires.count c.requires.common
    (c.in_ok-extend_from_slice.ensures.items ∙ ap (λ z. z ++ take (n - shared) (drop shared xs)) c.truncate.ensures.items)

pub returns-in_err-extend_from_slice-clause-common : goal.returns-in_err-extend_from_slice-clause-common
returns-in_err-extend_from_slice-clause-common g c =
    let xs = c.args.list.now in
    let ys = c.args.other.now.items in
    let shared = c.earlier-shared.result in
    ap (take shared) (c.in_err-extend_from_slice.ensures.items ∙ c.truncate.ensures.items) ∙ take-take shared shared ys (omega arith)
    ∙ fewer_common xs ys shared c.args.common.now c.earlier-shared.ensures.one c.requires.common
