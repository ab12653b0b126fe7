use Rattle.wb_recheck_text.proofs.HeadLemmas.{extension_stopped_host}
use Rattle.wb_recheck_text.proofs.head_line.extension.Goals as goal

pub returns-in-Err-for_host-clause-stopped : goal.returns-in-Err-for_host-clause-stopped
returns-in-Err-for_host-clause-stopped c =
    extension_stopped_host _ _ _ _ _ c.requires c.in-Ok.ensures.read c.in-Ok-name.ensures.read c.in-Err-for_host.ensures.stopped
