-- The row of a production, by its parts.
use Rattle.wb_syntax_resolved.specs.declared.production.Production.{Production}
use Rattle.wb_names_rows.specs.declared.body.Body.{Body}
use Rattle.wb_names_rows.specs.declared.row.Head.{Head}

-- the row of a head, with the locals and the equations of a body
abbrev pub row_of : Head → Body → Production
row_of head body = record {
  name = head.name;
  owner = head.owner;
  role = head.role;
  left = head.left;
  children = head.children;
  locals = body.locals.items;
  forward = head.forward;
  equations = body.equations.items;
}
