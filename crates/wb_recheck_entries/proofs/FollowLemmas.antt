-- What follows from an entry, by the symbol after its dot.
use Rattle.std.proofs.Common.{◌≡◌, ℕ, ◌<◌, ◌+◌, ◌++◌, List, [], ◌∷◌, sym, ◌∙◌, ap, subst, arith}
use Rattle.std.specs.Prelude.{◌↔◌}
use Rattle.wb_base.specs.declared.symbol.Symbol.{Symbol}
use Rattle.wb_base.specs.declared.symbol.Symbol.TheVariants.{Terminal, Nonterminal}
use Rattle.wb_base.specs.Grammar.{GrammarView}
use Rattle.wb_grammar_theory.specs.declared.item.Item.{Item}
use Rattle.wb_grammar_theory.specs.Derives.{IsFirst}
use Rattle.wb_grammar_theory.specs.Items.{after_dot, advance, initial_item}
use Rattle.wb_recheck_theory.specs.declared.line.Line.{Line}
use Rattle.wb_recheck_theory.specs.Entries.{IsFollowed, opens, moves_on}
use Rattle.wb_recheck_theory.specs.Lines.{kernel_count, IsMoveOf}
use Rattle.wb_recheck_entries.specs.Inner.Steps.{IsOpened, IsProductionOf}

-- lists that are equal have the same first and the same others
pub heads : (x y : Symbol) (xs ys : List Symbol) → x ∷ xs ≡ y ∷ ys → x ≡ y
heads x y xs ys e = cc

pub tails : (x y : Symbol) (xs ys : List Symbol) → x ∷ xs ≡ y ∷ ys → xs ≡ ys
tails x y xs ys e = cc

-- an item with its dot at the left end is an initial one
at_left : (item : Item) → item.dot ≡ 0 → item ≡ initial_item item.production
at_left item e = ap (λ (d : ℕ). with_dot item.production d) e
  where
    with_dot : ℕ → ℕ → Item
    with_dot p d = record { production = p; dot = d }

module _ (g : GrammarView) (lines : List Line) (k : ℕ) (item : Item) (t k' : ℕ) (item' : Item) (t' : ℕ) where
  -- from an item with nothing after its dot nothing follows
  pub none_follows : after_dot g item ≡ [] → ¬ IsFollowed g lines k item t k' item' t'
  none_follows none (opens b rest q right is rule first same is_item) = (let e : [] ≡ Nonterminal b ∷ rest = sym none ∙ is in cc)
  none_follows none (moves_on x rest is lt is_move is_item same) = (let e : [] ≡ x ∷ rest = sym none ∙ is in cc)

  module _ (x : Symbol) (rest : List Symbol) (here : after_dot g item ≡ x ∷ rest) where
    -- an item with its dot further on follows by a move
    pub moved_follows : 0 < item'.dot → IsFollowed g lines k item t k' item' t' ↔
        (((item' ≡ advance item) × (t' ≡ t)) × ((k' < kernel_count lines) × IsMoveOf g lines k x k'))
    moved_follows some = (λ f. there f, λ ((is, same), (lt, move)). moves_on x rest here lt move is same)
      where
        there : IsFollowed g lines k item t k' item' t' →
            ((item' ≡ advance item) × (t' ≡ t)) × ((k' < kernel_count lines) × IsMoveOf g lines k x k')
        there (opens b rest' q right is rule first same is_item) =
            let zero_dot : item'.dot ≡ 0 = ap (λ (i : Item). i.dot) is_item in absurd (omega (arith, some, zero_dot))
        there (moves_on y rest' is lt is_move is_item same) =
            ((is_item, same), (lt, subst (λ z. IsMoveOf g lines k z k') (heads y x rest' rest (sym is ∙ here)) is_move))

    -- and an initial item by an opening
    pub opened_follows : item'.dot ≡ 0 → IsFollowed g lines k item t k' item' t' ↔
        ((k' ≡ k) × IsOpened g x item'.production × IsFirst g (rest ++ Terminal t ∷ []) t')
    opened_follows left = (λ f. there f, λ (same, opened, first). back x here same opened first)
      where
        there : IsFollowed g lines k item t k' item' t' →
            (k' ≡ k) × IsOpened g x item'.production × IsFirst g (rest ++ Terminal t ∷ []) t'
        there (opens b rest' q right is rule first same is_item) =
            let of : q ≡ item'.production = sym (ap (λ (i : Item). i.production) is_item) in (
              same,
              subst (λ z. IsOpened g z item'.production) (heads (Nonterminal b) x rest' rest (sym is ∙ here))
                  (subst (IsProductionOf g b) of (right, rule)),
              subst (λ z. IsFirst g (z ++ Terminal t ∷ []) t') (tails (Nonterminal b) x rest' rest (sym is ∙ here)) first,
            )
        there (moves_on y rest' is lt is_move is_item same) =
            let moved : item'.dot ≡ item.dot + 1 = ap (λ (i : Item). i.dot) is_item in absurd (omega (arith, left, moved))

        back : (y : Symbol) → after_dot g item ≡ y ∷ rest → k' ≡ k → IsOpened g y item'.production →
            IsFirst g (rest ++ Terminal t ∷ []) t' → IsFollowed g lines k item t k' item' t'
        back (Terminal u) is same opened first = absurd opened
        back (Nonterminal b) is same (right, rule) first =
            opens b rest item'.production right is rule first same (at_left item' left)
