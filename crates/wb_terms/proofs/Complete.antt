-- A term by its grammar is derived by the table, which makes of what was met before what is met in the term after it.
use Rattle.std.proofs.Common.{◌≡◌, ◌⊎◌, inl, inr, ℕ, ℤ, pos, negsuc, List, ◌∷◌, Bool as Truth, true, false, cond, refl, sym, subst}
use Rattle.std.specs.Prelude.{◌==◌}
use Rattle.wb_text_predictive.specs.declared.symbol.Symbol.{Symbol}
use Rattle.wb_text_predictive.specs.declared.symbol.Symbol.TheVariants.{Token, Nonterminal}
use Rattle.wb_text_predictive.specs.declared.table.Placed.{Placed}
use Rattle.wb_text_predictive.specs.Grammar.{Derives, token, expand, act}
use Rattle.wb_text_tokens.specs.declared.token.Token.{Token as Lexeme}
use Rattle.wb_text_tokens.specs.declared.token.Token.TheVariants as t
use Rattle.wb_terms.specs.declared.event.Event.{Event}
use Rattle.wb_terms.specs.declared.event.Event.TheVariants.{Begin, Int, Bool, Text}
use Rattle.wb_text_tokens.specs.declared.kind.TokenKind.{TokenKind}
use Rattle.wb_text_tokens.specs.declared.kind.TokenKind.TheVariants as k
use Rattle.wb_text_tokens.specs.declared.word.Word.TheVariants as words
use Rattle.wb_text_tokens.specs.declared.punctuation.Punctuation.TheVariants as p
use Rattle.wb_text_tokens.specs.Kinds.{kind_of}
use Rattle.wb_terms.specs.declared.rules.Part.{Part}
use Rattle.wb_terms.specs.declared.rules.Action.{Action}
use Rattle.wb_terms.specs.Term.{Term, Argument, Arguments}
use Rattle.wb_terms.specs.TermGrammar.{Tokens, Is, IsHead, IsTerm, AreArguments, AreMore, IsArgument, simple, owned, whole, nothing, some}
use Rattle.wb_terms.specs.TermGrammar.{ended, next, number, string, truth, untruth, below}
use Rattle.wb_terms.specs.Inner.Events.{shift, qualified_name, term_onto, argument_onto, arguments_onto}
use Rattle.wb_terms.specs.Inner.TermTable.{term_rights, term_grammar}

-- symbols of the table
abbrev pub Row : Type 0
Row = List (Symbol TokenKind Part Action)

-- the row derives the tokens, and makes of what was met this
abbrev pub Gives : Row → Tokens → List Event → List Event → Type 0
Gives row tokens a b = Derives term_grammar row tokens a b

-- a token is taken
take_token : (kind : TokenKind) (f : Row) (x : Placed Lexeme) (l : Lexeme) (v w : Tokens) (a b : List Event) → Is l x → kind_of l ≡ kind
    → w ≡ x ∷ v → Gives f v (shift l x.at x.end a) b → Gives (Token kind ∷ f) w a b
take_token kind f x l v w a b is of e d =
    token (subst (λ l. kind_of l ≡ kind) (sym is) of) (subst (λ l. Gives f v (shift l x.at x.end a) b) (sym is) d) e

-- a part without symbols
same_rest : (f : Row) (w rest : Tokens) (a b : List Event) → w ≡ rest → Gives f rest a b → Gives f w a b
same_rest f w rest a b e d = subst (λ w. Gives f w a b) (sym e) d

-- a name with its place
complete_head : (name : List ℕ) (place : ℕ) (w rest : Tokens) (f : Row) (a b : List Event) → IsHead name place w rest
    → Gives f rest (Begin name place ∷ a) b → Gives (Token k.Name ∷ Nonterminal Part.Owner ∷ f) w a b
unfolding term_rights
complete_head name place w rest f a b (simple {x = x} is at e) d =
    take_token k.Name _ x (t.Name name) rest w a b is refl e (expand 0 refl (subst (λ q. Gives f rest (Begin name q ∷ a) b) at d))
complete_head name place w rest f a b (owned {owner = owner} {second = second} {x = x} {colon = colon} {y = y} is mark its joined at e) d =
    let d' : Gives f rest (Begin (qualified_name owner second) x.at ∷ a) b =
    subst (λ q. Gives f rest (Begin (qualified_name owner second) q ∷ a) b) at (subst (λ n. Gives f rest (Begin n place ∷ a) b) joined d) in
    take_token k.Name _ x (t.Name owner) (colon ∷ y ∷ rest) w a b is refl e
    (expand 1 refl
    (take_token (k.Mark p.Colon) _ colon _ (y ∷ rest) _ _ b mark refl refl
    (take_token k.Name _ y (t.Name second) rest _ _ b its refl refl (act d'))))

-- a kind is one of the three of integers
abbrev IsIntegerKind : TokenKind → Type 0
IsIntegerKind kind = (kind ≡ k.One) ⊎ (kind ≡ k.Two) ⊎ (kind ≡ k.Number)

-- an integer is of one of them
integer_kinds : (z : ℤ) → IsIntegerKind (kind_of (t.Int z))
integer_kinds (pos n) = by_tests (n == 1) (n == 2)
  where
    by_tests : (c d : Truth) → IsIntegerKind (cond c k.One (cond d k.Two k.Number))
    by_tests true d = inl refl
    by_tests false true = inr (inl refl)
    by_tests false false = inr (inr refl)
integer_kinds (negsuc n) = inr (inr refl)

-- an argument that is a number
complete_number : (z : ℤ) (f : Row) (x : Placed Lexeme) (rest w : Tokens) (a b : List Event) → Is (t.Int z) x → w ≡ x ∷ rest
    → Gives f rest (Int z x.at ∷ a) b
    → Gives (Nonterminal Part.Argument ∷ f) w a b
unfolding term_rights
complete_number z f x rest w a b is e d = by_kind (integer_kinds z)
  where
    by_kind : IsIntegerKind (kind_of (t.Int z)) → Gives (Nonterminal Part.Argument ∷ f) w a b
    by_kind (inl of) = expand 0 refl (take_token k.One f x (t.Int z) rest w a b is of e d)
    by_kind (inr (inl of)) = expand 1 refl (take_token k.Two f x (t.Int z) rest w a b is of e d)
    by_kind (inr (inr of)) = expand 2 refl (take_token k.Number f x (t.Int z) rest w a b is of e d)

mutual
  unfolding term_rights

  -- a term
  pub complete_term : {t : Term} {w rest : Tokens} (f : Row) (a b : List Event) → IsTerm t w rest → Gives f rest (term_onto t a) b
      → Gives (Nonterminal Part.Term ∷ f) w a b
  complete_term {w = w} f a b
      (whole {name = name} {place = place} {arguments = arguments} {inner = inner} {rest = rest} {opening = opening} {closing = closing}
      head opens inside closes) d =
      expand 0 refl (complete_head name place w (opening ∷ inner) _ a b head
      (take_token (k.Mark p.OpenParenthesis) _ opening _ inner _ _ b opens refl refl
      (complete_arguments _ (Begin name place ∷ a) b inside
      (take_token (k.Mark p.CloseParenthesis) _ closing _ rest _ _ b closes refl refl (act d)))))

  -- arguments
  complete_arguments : {as' : Arguments} {w rest : Tokens} (f : Row) (a b : List Event) → AreArguments as' w rest
      → Gives f rest (arguments_onto as' a) b → Gives (Nonterminal Part.Arguments ∷ f) w a b
  complete_arguments {w = w} {rest = rest} f a b (nothing e) d = expand 0 refl (same_rest f w rest a b e d)
  complete_arguments f a b (some {a = c} first others) d =
      expand 1 refl (complete_argument _ a b first (complete_more f (argument_onto c a) b others d))

  -- more arguments
  complete_more : {as' : Arguments} {w rest : Tokens} (f : Row) (a b : List Event) → AreMore as' w rest
      → Gives f rest (arguments_onto as' a) b → Gives (Nonterminal Part.More ∷ f) w a b
  complete_more {w = w} {rest = rest} f a b (ended e) d = expand 0 refl (same_rest f w rest a b e d)
  complete_more {w = w} f a b (next {a = c} {first = first} {comma = comma} mark e one others) d =
      expand 1 refl (take_token (k.Mark p.Comma) _ comma _ first w a b mark refl e
      (complete_argument _ a b one (complete_more f (argument_onto c a) b others d)))

  -- an argument
  complete_argument : {c : Argument} {w rest : Tokens} (f : Row) (a b : List Event) → IsArgument c w rest
      → Gives f rest (argument_onto c a) b → Gives (Nonterminal Part.Argument ∷ f) w a b
  complete_argument {w = w} {rest = rest} f a b (number {z = z} {x = x} is at e) d =
      complete_number z f x rest w a b is e (subst (λ q. Gives f rest (Int z q ∷ a) b) at d)
  complete_argument {w = w} {rest = rest} f a b (string {s = s} {x = x} is at e) d =
      expand 3 refl (take_token k.String f x (t.Text s) rest w a b is refl e (subst (λ q. Gives f rest (Text s q ∷ a) b) at d))
  complete_argument {w = w} {rest = rest} f a b (truth {x = x} is at e) d =
      expand 4 refl (take_token (k.Word words.True) f x _ rest w a b is refl e (subst (λ q. Gives f rest (Bool true q ∷ a) b) at d))
  complete_argument {w = w} {rest = rest} f a b (untruth {x = x} is at e) d =
      expand 5 refl (take_token (k.Word words.False) f x _ rest w a b is refl e (subst (λ q. Gives f rest (Bool false q ∷ a) b) at d))
  complete_argument f a b (below inner) d = expand 6 refl (complete_term f a b inner d)
