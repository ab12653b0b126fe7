use Rattle.std.proofs.Common.{◌≡◌, ◌++◌, ℕ, List, length, subst}
use Rattle.wb_syntax_resolved.specs.declared.terminal.Terminal.{Terminal}
use Rattle.wb_names_theory.specs.Declarations.{lexicals}
use Rattle.wb_names_numbers_theory.specs.Resolves.{IsScanned}
use Rattle.wb_names_numbers_theory.specs.Sources.{sources}
use Rattle.wb_names_rows.specs.Terminals.{AddsTerminals, IsCopy, has_scanned}
use Rattle.wb_names_symbols.specs.Lent.{lent_file}
use Rattle.wb_names_symbols.specs.Rows.{AreGroupedBy, IsTerminalNow}
use Rattle.wb_names_symbols.proofs.JoinedLemmas.{joined, ok_both}
use Rattle.wb_names_symbols.proofs.RowsNamed.{terminals_now}
use Rattle.wb_names_symbols.proofs.symbols.add_terminals.Goals as goal

pub returns : goal.returns
returns c =
    let file = lent_file c.args.file.now in
    let words = sources file.base.terminals (lexicals file.items) in
    let made = c.add_declared.new.made in
    let both = made.scanned.items ++ made.layout.items in
    let now = terminals_now file c.args.made.now c.add_base.new.made made c.requires.scanned c.requires.layout
    (subst (λ (z : List Terminal). AddsTerminals has_scanned IsCopy z c.args.made.now c.add_base.new.made) c.as_slice.ensures
    c.in_ok-add_base.ensures) c.in_ok-add_declared.ensures in
    ok_both c.join.result (λ (count : ℕ). count ≡ length made.scanned.items) (λ (count : ℕ). c.join.new.leading.items ≡ both)
    (λ (count : ℕ). AreGroupedBy count IsScanned (IsTerminalNow file) words c.join.new.leading.items)
    (λ count counted all. joined IsScanned (IsTerminalNow file) words count (length made.scanned.items) c.join.new.leading.items both
    counted all now)
    c.join.ensures.count c.join.ensures.joined
