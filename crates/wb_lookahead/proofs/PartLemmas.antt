-- Tables in the making: one kernel more, and all kernels.
use Rattle.std.proofs.Common.{◌≡◌, ℕ, ◌+◌, ◌<◌, Bool, List, [], ◌∷◌, ◌++◌, None, length, get_or, map, sym, ◌∙◌, ap, subst, arith}
use Rattle.std.proofs.Common.{length-append}
use Rattle.std.proofs.lemmas.List.{get_or-map}
use Rattle.wb_items.specs.Kernels.{KernelsView, AreKernels, count_of}
use Rattle.wb_lookahead.specs.declared.build_tables.Parts.{Parts}
use Rattle.wb_lookahead.specs.Codes.{action_at, goto_at}
use Rattle.wb_lookahead.specs.Contents.{action_in, goto_in}
use Rattle.wb_lookahead.specs.Matrices.{MatrixView}
use Rattle.wb_lookahead.specs.Inner.Parts.{ArePartsUpTo}
use Rattle.wb_lookahead.specs.Inner.Rows.{AreGotos, IsRowOf}
use Rattle.wb_lookahead.specs.Tables.{AreTables, IsAction, IsGoto, IsValidSet}
use Rattle.wb_lookahead.proofs.RowLemmas.{each_more, row_action, row_only}
use Rattle.wb_lookahead.proofs.StandLemmas.{no_conflict}

-- a matrix with one row more
abbrev with_row : MatrixView → List ℕ → MatrixView
with_row matrix row = record { width = matrix.width; rows = matrix.rows ++ row ∷ [] }

-- one kernel more
pub parts_more : {kernels : KernelsView} (old new : Parts) (n : ℕ) (codes gotos : List ℕ) (set : List Bool) →
    new.actions ≡ with_row old.actions codes → new.gotos ≡ with_row old.gotos gotos → new.valid.items ≡ old.valid.items ++ set ∷ [] →
    IsRowOf kernels n (map action_at codes) → AreGotos kernels n gotos kernels.grammar.nonterminals → IsValidSet kernels n set →
    ArePartsUpTo kernels old n → ArePartsUpTo kernels new (n + 1)
parts_more {kernels} old new n codes gotos set actions_are gotos_are valid_is row goto_row valid p =
    let action_rows : new.actions.rows ≡ old.actions.rows ++ codes ∷ [] = ap (λ (g : MatrixView). g.rows) actions_are in
    let goto_rows : new.gotos.rows ≡ old.gotos.rows ++ gotos ∷ [] = ap (λ (g : MatrixView). g.rows) gotos_are in
    record {
      matrices = record {
        width = ap (λ (g : MatrixView). g.width) actions_are ∙ p.matrices.width;
        actions_len = ap length action_rows ∙ omega (arith, length-append old.actions.rows (codes ∷ []), p.matrices.actions_len);
        gotos_len = ap length goto_rows ∙ omega (arith, length-append old.gotos.rows (gotos ∷ []), p.matrices.gotos_len);
      };
      nonterminals = ap (λ (g : MatrixView). g.width) gotos_are ∙ p.nonterminals;
      valid_len = ap length valid_is ∙ omega (arith, length-append old.valid.items (set ∷ []), p.valid_len);
      actions = subst (λ (z : List (List ℕ)). (s : ℕ) → s < n + 1 → IsRowOf kernels s (map action_at (get_or z s []))) (sym action_rows)
          (each_more (λ s z. IsRowOf kernels s (map action_at z)) old.actions.rows codes [] n p.matrices.actions_len p.actions row);
      gotos = subst (λ (z : List (List ℕ)). (s : ℕ) → s < n + 1 → AreGotos kernels s (get_or z s []) kernels.grammar.nonterminals)
          (sym goto_rows) (each_more
          (λ s z. AreGotos kernels s z kernels.grammar.nonterminals) old.gotos.rows gotos [] n p.matrices.gotos_len p.gotos goto_row);
      valid = subst (λ (z : List (List Bool)). (s : ℕ) → s < n + 1 → IsValidSet kernels s (get_or z s [])) (sym valid_is)
          (each_more (IsValidSet kernels) old.valid.items set [] n p.valid_len p.valid valid);
    }

-- all kernels
pub parts_all : {kernels : KernelsView} → AreKernels kernels → (parts : Parts) (terminals : ℕ) → terminals ≡ kernels.grammar.terminals →
    ArePartsUpTo kernels parts (count_of kernels) →
    AreTables kernels (record {
      terminals = terminals;
      nonterminals = parts.gotos.width;
      actions = map (map action_at) parts.actions.rows;
      gotos = map (map goto_at) parts.gotos.rows;
      valid = parts.valid.items;
    })
parts_all {kernels} h parts terminals same p = record {
  terminals = same;
  nonterminals = p.nonterminals;
  count = p.valid_len;
  actions = λ s t lt le. subst (λ row. IsAction kernels s t (action_in row t))
      (sym (get_or-map (map action_at) parts.actions.rows s [] [] (omega (arith, p.matrices.actions_len))))
      (row_action h lt (p.actions s lt) t);
  gotos = λ s b lt less. subst (λ row. IsGoto kernels s b (goto_in row b))
      (sym (get_or-map (map goto_at) parts.gotos.rows s [] [] (omega (arith, p.matrices.gotos_len))))
      (subst (IsGoto kernels s b) (sym (get_or-map goto_at (get_or parts.gotos.rows s []) b 0 None (omega (arith, (p.gotos s lt).len))))
      ((p.gotos s lt).each b less));
  valid = p.valid;
  no_conflict = no_conflict h (λ s t lt a b x y. row_only h lt (p.actions s lt) t a x ∙ sym (row_only h lt (p.actions s lt) t b y));
}
