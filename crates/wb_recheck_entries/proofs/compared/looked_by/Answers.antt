use Rattle.std.proofs.Common.{[], refl, sym, ◌∙◌, inl}
use Rattle.std.proofs.lemmas.Bool.{true≢false}
use Rattle.wb_recheck_entries.specs.Texts.{IsHeadOf}
use Rattle.wb_recheck_entries.proofs.FaultLemmas.{fault_of}
use Rattle.wb_recheck_entries.proofs.compared.looked_by.Goals as goal

pub returns-then-not-is_head_of-clause-refused : goal.returns-then-not-is_head_of-clause-refused
returns-then-not-is_head_of-clause-refused c =
    inl (refl, λ head. true≢false (sym (c.is_head_of.ensures.1 head) ∙ c.if-not-is_head_of.true))

pub returns-in-Ok-clause-certificate : goal.returns-in-Ok-clause-certificate
returns-in-Ok-clause-certificate c = record {
  head = c.is_head_of.ensures.0 c.if-not-is_head_of.false;
  lists = c.in-Ok.ensures.certificate;
}

pub returns-in-Err-clause-refused : goal.returns-in-Err-clause-refused
returns-in-Err-clause-refused c =
    fault_of [] (IsHeadOf c.args.owner.now) c.args.grammar.now c.args.certificate.now (c.is_head_of.ensures.0 c.if-not-is_head_of.false)
    c.in-Err.fault
    c.in-Err.ensures.refused
