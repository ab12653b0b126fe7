use Rattle.wb_certify_files.proofs.host_contents.resolved_of.Goals as goal

pub returns-in-Err-clause-refused : goal.returns-in-Err-clause-refused
returns-in-Err-clause-refused c = λ contents accepted. c.bad_names.ensures contents accepted
