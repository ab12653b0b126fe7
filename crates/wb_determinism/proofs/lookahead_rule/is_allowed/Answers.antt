use Rattle.std.proofs.Common.{◌∙◌, ap, Some, sym}
use Rattle.std.proofs.lemmas.Bool.{true≢false}
use Rattle.std.proofs.lemmas.Option.{slice_get-get_or}
use Rattle.wb_determinism.proofs.KeepLemmas.{allows_some, allows_none}
use Rattle.wb_determinism.proofs.lookahead_rule.is_allowed.Goals as goal

pub returns-in-Some : goal.returns-in-Some
returns-in-Some c =
    allows_some c.args.images.now c.args.allowed.now c.args.number c.in-Some.own c.is_member.result
    (slice_get-get_or c.args.images.now c.args.number _ c.requires ∙ ap Some c.in-Some.is) c.is_member.ensures

pub returns-in-None : goal.returns-in-None
returns-in-None c = (
  λ yes. absurd (true≢false (sym yes)),
  λ allows. absurd
      (allows_none c.args.images.now c.args.allowed.now c.args.number
      (slice_get-get_or c.args.images.now c.args.number _ c.requires ∙ ap Some c.in-None.is) allows),
)
