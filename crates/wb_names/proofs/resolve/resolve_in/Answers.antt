use Rattle.wb_names.proofs.resolve.resolve_in.Goals as goal

pub numbered-requires : goal.numbered-requires
numbered-requires c = record {
  right = record { is_file = c.requires.file; format = c.args.format; hold = c.in_ok-check_names.ensures.hold };
  alone = c.requires.alone;
}

pub returns-clause-ok : goal.returns-clause-ok
returns-clause-ok c = record { names = c.in_ok-check_names.ensures.ok; value = c.in_ok-numbered.ensures }
