use Rattle.wb_certify_files.proofs.header.spec_of.Goals as goal

pub returns-in-Err : goal.returns-in-Err
returns-in-Err c =
    record { ok = tt; refused = λ host. c.bad_text.ensures host c.args.contents.now c.in-Err.ensures.refused }
