use Rattle.std.proofs.Common.{◌≡◌, ◌++◌, ℕ, length}
use Rattle.wb_names_theory.specs.Declarations.{productions}
use Rattle.wb_names_numbers_theory.specs.Resolves.{IsConcrete}
use Rattle.wb_names_numbers_theory.specs.Sources.{sources}
use Rattle.wb_names_symbols.proofs.JoinedLemmas.{joined, ok_both}
use Rattle.wb_names.specs.Inner.Bodies.{file_of}
use Rattle.wb_names.specs.Inner.Now.{IsProductionNow}
use Rattle.wb_names.specs.Inner.Productions.{AreProductions}
use Rattle.wb_names.proofs.ProductionsGrouped.{all_grouped}
use Rattle.wb_names.proofs.productions.add_productions.Goals as goal

pub returns : goal.returns
returns c =
    let file = file_of c.args.context.now in
    let s = c.args.context.now.scope.now in
    let m = c.args.context.now.moves.now in
    let made = c.add_declared.new.made in
    let both = made.concrete.items ++ made.others.items in
    let are = all_grouped file s m c.args.made.now c.add_base.new.made made c.requires.concrete c.requires.others c.in_ok-add_base.ensures
    c.in_ok-add_declared.ensures in
    ok_both c.join.result (λ (count : ℕ). count ≡ length made.concrete.items) (λ (count : ℕ). c.join.new.leading.items ≡ both)
    (λ (count : ℕ). AreProductions file s m count c.join.new.leading.items)
    (λ count counted all. joined IsConcrete (IsProductionNow file s m)
    (sources file.base.attributes.productions (productions file.items)) count (length made.concrete.items) c.join.new.leading.items both
    counted all are)
    c.join.ensures.count c.join.ensures.joined
