-- Parts of items, one after the other.
use Rattle.std.proofs.Common.{◌≡◌, ◌+◌, ◌<◌, ◌≤◌, ℕ, ◌++◌, ◌∷◌, [], List, ap, ◌∙◌, refl, sym, subst, length, get_or, drop}
use Rattle.wb_text_tokens.specs.declared.token.Token.{Token}
use Rattle.wb_text_tokens.specs.declared.token.Token.TheVariants as t
use Rattle.wb_text_tokens.specs.declared.punctuation.Punctuation.TheVariants as p
use Rattle.wb_syntax.specs.declared.expression.Equation.{Equation}
use Rattle.wb_syntax.specs.declared.item.Item.{Item}
use Rattle.wb_syntax.specs.declared.pattern.Pattern.{Pattern}
use Rattle.wb_syntax.specs.Expression.{Expression}
use Rattle.wb_syntax_expressions.specs.Expression.{nodes_of}
use Rattle.wb_reader_printer.specs.Inner.Output.{Output, put, after}
use Rattle.wb_reader_printer.specs.Inner.ExpressionTokens.{expression_tokens}
use Rattle.wb_reader_printer.specs.Inner.ItemTokens.{AreLinesOf, AreItemTokens}
use Rattle.wb_reader_printer.specs.Inner.PartTokens.{AreEquationTokens, target_tokens}
use Rattle.wb_reader_printer.proofs.OutputLemmas.{after_both}
use Rattle.wb_lemmas.proofs.Parts.{drop_from, drop_past}

-- three parts
pub in_turn : (o p q r : Output) (front middle back : List Token) → p ≡ after o front → q ≡ after p middle → r ≡ after q back
    → r ≡ after o (front ++ (middle ++ back))
in_turn o p q r front middle back i j k =
    k ∙ (ap (λ (x : Output). after x back) (j ∙ ap (λ (x : Output). after x middle) i)
    ∙ (sym (after_both (after o front) middle back) ∙ sym (after_both o front (middle ++ back))))

-- the first equation and the others
first_equation : (list : List Equation) (x : Equation) (others : List Equation) (tokens : List Token) → list ≡ x ∷ others
    → AreEquationTokens list tokens
    → (e : Expression) × (rest : List Token) × (x.nodes ≡ nodes_of e) × AreEquationTokens others rest
    × (tokens ≡ target_tokens x.target ++ (expression_tokens e ++ t.Punctuation p.Semicolon ∷ rest))
first_equation list x others tokens q AreEquationTokens.nothing = cc
first_equation list x others tokens q (AreEquationTokens.next {equation = y} e {rest = ys} {tokens = rest} nodes are whole) =
    let here : y ≡ x = cc in
    let further : ys ≡ others = cc in (
      e,
      rest,
      ap (λ (z : Equation). z.nodes) (sym here) ∙ nodes,
      subst (λ (l : List Equation). AreEquationTokens l rest) further are,
      whole ∙ ap (λ (z : Equation). target_tokens z.target ++ (expression_tokens e ++ t.Punctuation p.Semicolon ∷ rest)) here,
    )

pub equation_at : (list : List Equation) (i : ℕ) (x : Equation) (tokens : List Token) → i < length list → x ≡ get_or list i x
    → AreEquationTokens (drop i list) tokens
    → (e : Expression) × (rest : List Token) × (x.nodes ≡ nodes_of e) × AreEquationTokens (drop (i + 1) list) rest
    × (tokens ≡ target_tokens x.target ++ (expression_tokens e ++ t.Punctuation p.Semicolon ∷ rest))
equation_at list i x tokens h q are = first_equation (drop i list) x (drop (i + 1) list) tokens (drop_from list i x h q) are

-- an equation more
pub equation_after : (o r : Output) (target e rest : List Token) → r ≡ put (after (after o target) e) (t.Punctuation p.Semicolon)
    → after r rest ≡ after o (target ++ (e ++ t.Punctuation p.Semicolon ∷ rest))
equation_after o r target e rest k =
    ap (λ (x : Output). after x rest) k ∙
    (sym (after_both (after o target) e (t.Punctuation p.Semicolon ∷ rest))
    ∙ sym (after_both o target (e ++ t.Punctuation p.Semicolon ∷ rest)))

-- no equation more
pub no_equation : (list : List Equation) (i : ℕ) (tokens : List Token) → length list ≤ i → AreEquationTokens (drop i list) tokens
    → tokens ≡ []
no_equation list i tokens h are = at (drop i list) tokens (drop_past list i h) are where
  at : (l : List Equation) (tokens : List Token) → l ≡ [] → AreEquationTokens l tokens → tokens ≡ []
  at l tokens q AreEquationTokens.nothing = refl
  at l tokens q (AreEquationTokens.next e nodes are whole) = cc

-- the first item and the others
first_item : (list : List (Item Pattern)) (x : Item Pattern) (others : List (Item Pattern)) (lines : List (List Token)) → list ≡ x ∷ others
    → AreLinesOf list lines
    → (tokens : List Token) × (rest : List (List Token)) × AreItemTokens x tokens × AreLinesOf others rest × (lines ≡ tokens ∷ rest)
first_item list x others lines q AreLinesOf.nothing = cc
first_item list x others lines q (AreLinesOf.next {item = y} {rest = ys} {tokens = tokens} {lines = rest} item are) =
    let here : y ≡ x = cc in
    let further : ys ≡ others = cc in (
      tokens,
      rest,
      subst (λ (z : Item Pattern). AreItemTokens z tokens) here item,
      subst (λ (l : List (Item Pattern)). AreLinesOf l rest) further are,
      refl,
    )

pub item_at : (list : List (Item Pattern)) (i : ℕ) (x : Item Pattern) (lines : List (List Token)) → i < length list → x ≡ get_or list i x
    → AreLinesOf (drop i list) lines
    → (tokens : List Token) × (rest : List (List Token)) × AreItemTokens x tokens × AreLinesOf (drop (i + 1) list) rest
    × (lines ≡ tokens ∷ rest)
item_at list i x lines h q are = first_item (drop i list) x (drop (i + 1) list) lines (drop_from list i x h q) are

-- no item more
pub no_item : (list : List (Item Pattern)) (i : ℕ) (lines : List (List Token)) → length list ≤ i → AreLinesOf (drop i list) lines
    → lines ≡ []
no_item list i lines h are = at (drop i list) lines (drop_past list i h) are where
  at : (l : List (Item Pattern)) (lines : List (List Token)) → l ≡ [] → AreLinesOf l lines → lines ≡ []
  at l lines q AreLinesOf.nothing = refl
  at l lines q (AreLinesOf.next item are) = cc
