use Rattle.std.proofs.Common.{◌<◌, length, refl, subst, sym, rules}
use Rattle.wb_lemmas.proofs.Places.{read_at}
use Rattle.wb_marking.proofs.ClashLemmas as p
use Rattle.wb_marking.proofs.clashes.differs.Goals as goal

pub offset_bounds-texts-compared : goal.offset_bounds-texts-compared
offset_bounds-texts-compared c =
    let t = c.args.compared.now in
    let within : t.marker < length t.scanned.now.texts.now =
    subst (λ z. t.marker < z) (sym c.requires.compared.scanned.texts.len) (p.marker_within t c.requires.compared) in
    search rules

pub bounds-texts-compared : goal.bounds-texts-compared
bounds-texts-compared c =
    let t = c.args.compared.now in
    subst (λ z. t.marker < z) (sym c.requires.compared.scanned.texts.len) (p.marker_within t c.requires.compared)

pub returns : goal.returns
returns c differ =
    let t = c.args.compared.now in
    let texts = t.scanned.now.texts.now in
    let len = c.requires.compared.scanned.texts.len in
    let one = subst (λ z. t.marker < z) (sym len) (p.marker_within t c.requires.compared) in
    let two = subst (λ z. c.args.other < z) (sym len) c.requires.other in
    p.texts_differ t c.requires.compared c.args.other c.index-texts-compared.result c.index-texts-other.result
    (read_at texts texts t.marker c.index-texts-compared.result refl one c.index-texts-compared.is)
    (read_at texts texts c.args.other c.index-texts-other.result refl two c.index-texts-other.is) (c.differ.ensures differ)
