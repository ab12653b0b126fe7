-- The grammars that are united are those of the extensions.
use Rattle.std.proofs.Common.{◌≡◌, sym, subst, map, List}
use Rattle.std.specs.Prelude.{All}
use Rattle.std.specs.List.{AllZip}
use Rattle.std.proofs.lemmas.Result.{IfOk-weaker}
use Rattle.wb_base.specs.Grammar.{GrammarView}
use Rattle.wb_compose_language.specs.declared.addition.Addition.{Addition}
use Rattle.wb_compose_language.specs.Additions.{grammar_in}
use Rattle.wb_compose_theory_grammar.specs.Pieces.{Extends}
use Rattle.wb_compose_theory_grammar.specs.Unions.{union_of}
use Rattle.wb_tests_unions.specs.Inner.Lent.{IsAdded, IsUnion}
use Rattle.wb_tests_unions.proofs.UnionLemmas.{additions_extend, union_is}
use Rattle.wb_tests_unions.proofs.additions.union_of.Goals as goal

pub united_grammar-union-requires : goal.united_grammar-union-requires
united_grammar-union-requires c =
    let own = c.args.own.now in
    subst (λ (xs : List Addition). All (λ (x : Addition). Extends own.grammar.now (grammar_in x)) xs) (sym c.deref.ensures.value)
    (additions_extend own c.args.extensions.now c.in_ok-additions.additions.items c.in_ok-additions.ensures c.requires)

pub returns : goal.returns
returns c =
    let own = c.args.own.now in
    let es = c.args.extensions.now in
    IfOk-weaker c.united_grammar-union.result
    (λ (g : GrammarView). g ≡ union_of own.grammar.now (map grammar_in c.deref.result.now)) (IsUnion own es)
    (λ (g : GrammarView) is. union_is own es c.deref.result.now g
    (subst (AllZip IsAdded es) (sym c.deref.ensures.value) c.in_ok-additions.ensures) is) c.united_grammar-union.ensures
