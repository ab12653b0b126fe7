-- Numbers of the union by blocks, and sums of blocks.
use Rattle.std.proofs.Common.{◌≡◌, ◌∙◌, ◌+◌, ℕ, zero, suc, List, [], ◌∷◌, ◌++◌, Some, slice_get, ap, arith}
use Rattle.std.specs.List.{range_with_len}
use Rattle.std.proofs.lemmas.Option.{same_Some}
use Rattle.wb_lemmas.proofs.Places.{nothing_at}
use Rattle.wb_compose_theory.specs.Blocks.{spread}
use Rattle.wb_compose_theory_grammar.specs.Places.{count_before}
use Rattle.wb_compose_language.specs.declared.row.Block.{Block}
use Rattle.wb_compose_language.specs.declared.addition.Lent.{Lent}
use Rattle.wb_compose_language.specs.declared.row.Blocks.{Blocks}
use Rattle.wb_compose_language.specs.Inner.Rows.{AreBlocks, among, layout_total, layouts_begin, row_in}
use Rattle.wb_compose_language.specs.Inner.Rows as rows

-- the number in a block of these sizes
among_is : (block : Block) (own before size total : ℕ) → block.own ≡ own → block.before ≡ before → block.size ≡ size →
    block.total ≡ total → (t : ℕ) → among block t ≡ spread own before size total t
among_is block own before size total own_is before_is size_is total_is t =
    ap (λ z. spread z block.before block.size block.total t) own_is ∙
    (ap (λ z. spread own z block.size block.total t) before_is ∙
    (ap (λ z. spread own before z block.total t) size_is ∙ ap (λ z. spread own before size z t) total_is))

-- and in two, one after the other
pub row_is : (lent : Lent) (blocks : Blocks) (before size layouts_before layouts : ℕ) →
    AreBlocks lent blocks before size layouts_before layouts → (t : ℕ) →
    row_in blocks t ≡ spread (layouts_begin lent) layouts_before layouts (layout_total lent)
    (spread lent.grammar.now.terminals before size (rows.total lent) t)
row_is lent blocks before size layouts_before layouts are t =
    ap (among blocks.layouts)
    (among_is blocks.terminals lent.grammar.now.terminals before size (rows.total lent) are.own_is are.before_is are.size_is are.total_is t)
    ∙ among_is blocks.layouts (layouts_begin lent) layouts_before layouts (layout_total lent) are.from_is are.layouts_before_is
    are.layouts_is are.layout_total_is (spread lent.grammar.now.terminals before size (rows.total lent) t)

-- numbers with one more
pub range_more : (a n : ℕ) → range_with_len a (n + 1) ≡ range_with_len a n ++ (a + n) ∷ []
range_more a zero = ap (λ (k : ℕ). k ∷ []) (let e : a ≡ a + 0 = omega arith in e)
range_more a (suc n) =
    ap (λ (k : ℕ). range_with_len a k) (let e : suc n + 1 ≡ suc (n + 1) = omega arith in e)
    ∙ ap (λ (xs : List ℕ). a ∷ xs) (range_more (a + 1) n)
    ∙ ap (λ (k : ℕ). a ∷ (range_with_len (a + 1) n ++ k ∷ [])) (let e : a + 1 + n ≡ a + suc n = omega arith in e)
