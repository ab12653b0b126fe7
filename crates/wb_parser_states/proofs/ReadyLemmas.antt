-- What is next is found at the state on top, right after a shift; and what a shift makes of states.
use Rattle.std.proofs.Common.{◌≡◌, ℕ, List, [], ◌∷◌, ◌++◌, refl, sym, ◌∙◌, ap, subst}
use Rattle.wb_base.specs.declared.symbol.Symbol.{Symbol}
use Rattle.wb_base.specs.declared.symbol.Symbol.TheVariants.{Terminal}
use Rattle.wb_grammar_theory.specs.Trees.{Forest, Leaf, nothing, leaf, symbols}
use Rattle.wb_scan_theory.specs.Tokens.{Next, NextToken, token}
use Rattle.wb_scan_theory.specs.Facts.{IsLanguage}
use Rattle.wb_scan_theory.specs.Parts.{AreTablesOf, IsPrefixOf}
use Rattle.wb_scan_theory.specs.Machine.{joined, Keeps}
use Rattle.wb_scan_theory.proofs.ForestLemmas.{symbols_joined}
use Rattle.wb_scan_theory.proofs.StepLemmas.{first_keeps, leaves_shifted, shift_keeps}
use Rattle.wb_scan_theory.proofs.FactLemmas.{parsable}
use Rattle.wb_scan.specs.Views.{LanguageParts}
use Rattle.wb_parser_states.specs.Stacks.{AreStates, last_or}
use Rattle.wb_parser_states.specs.Steps.{AreReady, LeadTo}
use Rattle.wb_parser_states.proofs.StateLemmas.{at_top, leaf_push}

module _ (parts : LanguageParts) (source : List ℕ) where
  -- what was scanned at the state on top is next at the symbols of the stack
  pub scanned : AreTablesOf parts.language.grammar parts.tables → (states slice : List ℕ) (stack : Forest) (prefix : List Symbol) →
      AreStates parts.language.grammar parts.tables [] states stack → prefix ≡ symbols stack → (at top : ℕ) (next : Next) →
      top ≡ last_or 0 slice → slice ≡ states →
      ((prefix : List Symbol) → IsPrefixOf parts.language.grammar parts.tables top prefix →
      NextToken parts.language source prefix at next) → NextToken parts.language source prefix at next
  scanned of states slice stack prefix are same at top next top_is slice_is found =
      found prefix (subst (λ z. IsPrefixOf parts.language.grammar parts.tables z prefix) (sym (top_is ∙ ap (last_or 0) slice_is))
      (subst (IsPrefixOf parts.language.grammar parts.tables (last_or 0 states)) (sym same) (at_top of states stack are)))

  -- at the beginning no leaf was read
  pub first_ready : (states : List ℕ) → states ≡ [] → AreReady parts source states [] 0
  first_ready states states_is = (
    [],
    record {
      stack = nothing;
      states_are = subst (λ z. AreStates parts.language.grammar parts.tables [] z nothing) (sym states_is) tt;
      leaves_are = refl;
      keeps = first_keeps parts.language.grammar (NextToken parts.language source);
    },
    refl,
  )

  -- a shift adds a leaf
  pub shifted : IsLanguage parts.language → (states pushed : List ℕ) (read : List Leaf) (prefix : List Symbol)
      (at begin t : ℕ) (lexeme : List ℕ) (after target : ℕ) → pushed ≡ states ++ target ∷ [] →
      NextToken parts.language source prefix at (token begin t lexeme after) → LeadTo parts source states read prefix at t target →
      (x : Leaf) × (x.terminal ≡ t) × AreReady parts source pushed (read ++ x ∷ []) after
  shifted ok states pushed read prefix at begin t lexeme after target pushed_is n c =
      let g = parts.language.grammar in
      let stack : Forest = c.are.stack in
      let new : Forest = joined stack (leaf t lexeme nothing) in
      let x : Leaf = record { context = symbols stack; terminal = t; text = lexeme } in
      let keeps = shift_keeps g (parsable g ok.deterministic).free (NextToken parts.language source) stack prefix at c.are.keeps begin t
      lexeme after n c.can in
      let named : symbols new ≡ symbols stack ++ Terminal t ∷ [] = symbols_joined stack (leaf t lexeme nothing) in (
        x,
        refl,
        (
          symbols new,
          record {
            stack = new;
            states_are = subst (λ z. AreStates g parts.tables [] z new) (sym pushed_is)
                (leaf_push g parts.tables [] states stack target t lexeme c.are.states_are c.goes);
            leaves_are = leaves_shifted stack t lexeme ∙ ap (λ z. z ++ x ∷ []) c.are.leaves_are;
            keeps = subst (λ z. Keeps g (NextToken parts.language source) new z after) (sym named) keeps;
          },
          refl,
        ),
      )
