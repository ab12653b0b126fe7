use Rattle.std.proofs.Common.{rules, ◌≤◌}
use Rattle.wb_eval_rows.proofs.SparseLemmas.{near_forest, near_set, near_columns, near_rows, far_forest, far_set, far_columns, far_rows}
use Rattle.wb_eval_rows.proofs.sparse.SparseRows.put.Goals as goal

pub returns-in_ok-put-clause-forest : goal.returns-in_ok-put-clause-forest
returns-in_ok-put-clause-forest c =
    let e = c.in_ok-put.ensures in
    near_forest c.args.self.now c.requires c.put.new.self c.args.row c.args.column c.args.number c.if-column-lt16.true e.set e.columns e.rows

pub returns-in_ok-put-clause-set : goal.returns-in_ok-put-clause-set
returns-in_ok-put-clause-set c =
    let e = c.in_ok-put.ensures in
    near_set c.args.self.now c.requires c.put.new.self c.args.row c.args.column c.args.number c.if-column-lt16.true e.set e.columns e.rows

pub returns-in_ok-put-clause-columns : goal.returns-in_ok-put-clause-columns
returns-in_ok-put-clause-columns c =
    let e = c.in_ok-put.ensures in
    near_columns c.args.self.now c.requires c.put.new.self c.args.row c.args.column c.args.number c.if-column-lt16.true e.set e.columns e.rows

pub returns-in_ok-put-clause-rows : goal.returns-in_ok-put-clause-rows
returns-in_ok-put-clause-rows c =
    let e = c.in_ok-put.ensures in
    near_rows c.args.self.now c.requires c.put.new.self c.args.row c.args.column c.args.number c.if-column-lt16.true e.set e.columns e.rows

pub returns-in_ok-put-2-clause-forest : goal.returns-in_ok-put-2-clause-forest
returns-in_ok-put-2-clause-forest c =
    let e = c.in_ok-put-2.ensures in
    let le : 16 ≤ c.args.column = search rules in
    far_forest c.args.self.now c.reach.new.self c.put-else-column-lt16.new.self c.args.row c.args.column c.in_ok-node.node c.args.number le
    c.in_ok-node.ensures e.set e.columns e.rows

pub returns-in_ok-put-2-clause-set : goal.returns-in_ok-put-2-clause-set
returns-in_ok-put-2-clause-set c =
    let e = c.in_ok-put-2.ensures in
    let le : 16 ≤ c.args.column = search rules in
    far_set c.args.self.now c.reach.new.self c.put-else-column-lt16.new.self c.args.row c.args.column c.in_ok-node.node c.args.number le
    c.in_ok-node.ensures e.set e.columns e.rows

pub returns-in_ok-put-2-clause-columns : goal.returns-in_ok-put-2-clause-columns
returns-in_ok-put-2-clause-columns c =
    let e = c.in_ok-put-2.ensures in
    let le : 16 ≤ c.args.column = search rules in
    far_columns c.args.self.now c.reach.new.self c.put-else-column-lt16.new.self c.args.row c.args.column c.in_ok-node.node c.args.number le
    c.in_ok-node.ensures e.set e.columns e.rows

pub returns-in_ok-put-2-clause-rows : goal.returns-in_ok-put-2-clause-rows
returns-in_ok-put-2-clause-rows c =
    let e = c.in_ok-put-2.ensures in
    let le : 16 ≤ c.args.column = search rules in
    far_rows c.args.self.now c.reach.new.self c.put-else-column-lt16.new.self c.args.row c.args.column c.in_ok-node.node c.args.number le
    c.in_ok-node.ensures e.set e.columns e.rows
