use Rattle.std.proofs.Common.{rules, refl, ◌+◌, ◌*◌, ◌<◌, List, length, sym, subst, ◌∙◌, arith}
use Rattle.std.specs.Prelude.{ℕ, vec_len}
use Rattle.std.proofs.lemmas.List.{get_or_read_under}
use Rattle.wb_lookahead.specs.Matrices.{MatrixView, rows_of}
use Rattle.wb_lookahead.proofs.MatrixLemmas.{number_at, row_length, rows_of-length}
use Rattle.wb_lookahead.proofs.matrix.Matrix.at.Goals as goal
use Rattle.wb_lemmas.proofs.Numbers.{row_within}

pub overflow_mul-row : goal.overflow_mul-row
overflow_mul-row c =
    let rows : List (List ℕ) = rows_of c.self.inside.height c.self.inside.width c.self.inside.codes.items in
    let row : c.args.row < length rows = subst (λ (g : MatrixView). c.args.row < length g.rows) (sym c.self.view_is) c.requires.row in
    let lt : c.args.row < c.self.inside.height = omega
    (arith, rows_of-length c.self.inside.height c.self.inside.width c.self.inside.codes.items) in
    let place : c.args.place < c.self.inside.width = subst (λ (g : MatrixView). c.args.place < g.width)
    (sym c.self.view_is) c.requires.place in
    let within = row_within c.self.inside.height c.self.inside.width c.args.row lt in
    let below : c.args.row * c.self.inside.width + c.args.place < vec_len c.self.inside.codes = omega
    (arith, c.self.invariant, c.self.inside.codes.ok.0) in
    search rules

pub overflow_add-row : goal.overflow_add-row
overflow_add-row c =
    let rows : List (List ℕ) = rows_of c.self.inside.height c.self.inside.width c.self.inside.codes.items in
    let row : c.args.row < length rows = subst (λ (g : MatrixView). c.args.row < length g.rows) (sym c.self.view_is) c.requires.row in
    let lt : c.args.row < c.self.inside.height = omega
    (arith, rows_of-length c.self.inside.height c.self.inside.width c.self.inside.codes.items) in
    let place : c.args.place < c.self.inside.width = subst (λ (g : MatrixView). c.args.place < g.width)
    (sym c.self.view_is) c.requires.place in
    let within = row_within c.self.inside.height c.self.inside.width c.args.row lt in
    let below : c.args.row * c.self.inside.width + c.args.place < vec_len c.self.inside.codes = omega
    (arith, c.self.invariant, c.self.inside.codes.ok.0) in
    search rules

pub index-requires : goal.index-requires
index-requires c =
    let rows : List (List ℕ) = rows_of c.self.inside.height c.self.inside.width c.self.inside.codes.items in
    let row : c.args.row < length rows = subst (λ (g : MatrixView). c.args.row < length g.rows) (sym c.self.view_is) c.requires.row in
    let lt : c.args.row < c.self.inside.height = omega
    (arith, rows_of-length c.self.inside.height c.self.inside.width c.self.inside.codes.items) in
    let place : c.args.place < c.self.inside.width = subst (λ (g : MatrixView). c.args.place < g.width)
    (sym c.self.view_is) c.requires.place in
    let within = row_within c.self.inside.height c.self.inside.width c.args.row lt in
    omega (arith, c.self.invariant, c.self.inside.codes.ok.0)

pub returns-clause-is : goal.returns-clause-is
returns-clause-is c =
    let rows : List (List ℕ) = rows_of c.self.inside.height c.self.inside.width c.self.inside.codes.items in
    let row : c.args.row < length rows = subst (λ (g : MatrixView). c.args.row < length g.rows) (sym c.self.view_is) c.requires.row in
    let lt : c.args.row < c.self.inside.height = omega
    (arith, rows_of-length c.self.inside.height c.self.inside.width c.self.inside.codes.items) in
    let place : c.args.place < c.self.inside.width = subst (λ (g : MatrixView). c.args.place < g.width)
    (sym c.self.view_is) c.requires.place in
    let within = row_within c.self.inside.height c.self.inside.width c.args.row lt in
    let below : c.args.row * c.self.inside.width + c.args.place < length c.self.inside.codes.items = omega (arith, c.self.invariant) in
    rw (← c.self.view_is) (get_or_read_under c.self.inside.codes.items (c.args.row * c.self.inside.width + c.args.place)
    (length c.self.inside.codes.items) c.index.result.now 0 c.index.ensures below refl
    ∙ sym (number_at c.self.inside.height c.self.inside.width c.self.inside.codes.items c.args.row c.args.place lt place))

pub returns-clause-within : goal.returns-clause-within
returns-clause-within c =
    let rows : List (List ℕ) = rows_of c.self.inside.height c.self.inside.width c.self.inside.codes.items in
    let row : c.args.row < length rows = subst (λ (g : MatrixView). c.args.row < length g.rows) (sym c.self.view_is) c.requires.row in
    let lt : c.args.row < c.self.inside.height = omega
    (arith, rows_of-length c.self.inside.height c.self.inside.width c.self.inside.codes.items) in
    let place : c.args.place < c.self.inside.width = subst (λ (g : MatrixView). c.args.place < g.width)
    (sym c.self.view_is) c.requires.place in
    rw (← c.self.view_is)
    (let len = row_length c.self.inside.height c.self.inside.width c.self.inside.codes.items c.args.row c.self.invariant lt in omega
    (arith, len))
