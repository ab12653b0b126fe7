use Rattle.wb_compose_attributes.proofs.production.production_of.Goals as goal

pub returns : goal.returns
returns c = λ j. record {
  name = c.in_ok-head.ensures.name j;
  owner = c.new_owner.ensures j;
  role = c.args.row.now.role;
  left = c.in_ok-head.ensures.left j;
  children = c.in_ok-head.ensures.children j;
  locals = c.from_vec.ensures j;
  forward = c.args.rules.forward;
  equations = c.from_vec-2.ensures j;
}
