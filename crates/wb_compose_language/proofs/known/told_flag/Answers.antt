use Rattle.std.proofs.Common.{◌≡◌, ◌<◌, ◌∙◌, ℕ, Some, ap, refl, subst, arith, length}
use Rattle.std.specs.Prelude.{slice_get}
use Rattle.wb_lemmas.proofs.Places.{read_at}
use Rattle.wb_compose_language.proofs.known.told_flag.Goals as goal

pub returns : goal.returns
returns c patterns told =
    let pairs = c.args.told.now.pairs in
    let flags = c.args.told.now.flags in
    let place = c.in_ok-place.place in
    let pair : ℕ × ℕ = c.index-pair.result.now in
    let within : place < length pairs.items = omega (arith, c.if-place-len.false, c.len.ensures, pairs.ok.0) in
    let within' : place < length flags.items = omega (arith, c.if-place-len-2.false, c.len-else-place-len.ensures, flags.ok.0) in
    let at : slice_get pairs.items place ≡ Some pair = read_at pairs.items pairs.items place pair refl within c.index-pair.ensures in
    let at' : slice_get flags.items place ≡ Some c.index.result.now = read_at flags.items flags.items place c.index.result.now refl within'
    c.index.ensures in
    let is : pair ≡ (c.args.one, c.args.other) = ap (λ (z : ℕ). (z, pair.1)) c.if-pair-one.false
    ∙ ap (λ (z : ℕ). (c.args.one, z)) c.if-pair-other.false in
    told.each place (c.args.one, c.args.other) c.index.result.now (subst (λ z. slice_get pairs.items place ≡ Some z) is at) at'
