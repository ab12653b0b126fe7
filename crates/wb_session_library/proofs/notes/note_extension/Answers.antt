-- What refuses an extension by a file's rules is a refusal of the file.
use Rattle.std.proofs.Common.{inl, inr, subst}
use Rattle.wb_compose_files.specs.Extensions.{IsNextRefusal}
use Rattle.wb_compose_files.specs.Unions.{all_resolved}
use Rattle.wb_operations.specs.Standard.{standard_signatures}
use Rattle.wb_session_library.specs.Inner.Reasons.{IsNextReason}
use Rattle.wb_session_library.proofs.notes.note_extension.Goals as goal

pub returns-in-Header : goal.returns-in-Header
returns-in-Header c = λ host contents reason is told.
    c.note_file.ensures host contents reason
    (inl (subst (IsNextRefusal standard_signatures host.host.resolved (all_resolved host.extensions) contents) c.in-Header.is is))
    (subst (λ refusal. IsNextReason refusal reason) c.in-Header.is told)

pub returns-in-Later : goal.returns-in-Later
returns-in-Later c = λ host contents reason is told.
    c.note_file-in-Later.ensures host contents reason
    (inr (subst (IsNextRefusal standard_signatures host.host.resolved (all_resolved host.extensions) contents) c.in-Later.is is))
    (subst (λ refusal. IsNextReason refusal reason) c.in-Later.is told)
