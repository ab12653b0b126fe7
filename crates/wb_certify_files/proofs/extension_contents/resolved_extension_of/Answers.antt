use Rattle.wb_certify_files.proofs.extension_contents.resolved_extension_of.Goals as goal

pub returns-in-Err : goal.returns-in-Err
returns-in-Err c = record {
  ok = tt;
  refused = λ operations. c.bad_names.ensures.shown c.args.host.now operations c.args.spec.now c.in-Err.ensures.refused;
  names = c.bad_names.ensures.names;
}
