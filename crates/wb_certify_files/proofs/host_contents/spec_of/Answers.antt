use Rattle.wb_certify_files.proofs.host_contents.spec_of.Goals as goal

pub returns-in-Err : goal.returns-in-Err
returns-in-Err c = record { ok = tt; refused = c.bad_text.ensures c.args.contents.now c.in-Err.ensures.refused }
