use Rattle.wb_certify_files.proofs.header.check_header.Goals as goal

pub returns-in-Host-clause-refused : goal.returns-in-Host-clause-refused
returns-in-Host-clause-refused c = c.no_extension.ensures c.args.host.now
