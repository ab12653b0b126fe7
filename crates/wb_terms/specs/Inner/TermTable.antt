-- The grammar of terms as a table: its rules, and what each makes of what was met.
use Rattle.std.specs.Prelude.{List, [], ◌∷◌}
use Rattle.wb_text_predictive.specs.declared.symbol.Symbol.{Symbol}
use Rattle.wb_text_predictive.specs.declared.symbol.Symbol.TheVariants.{Token, Nonterminal, Act}
use Rattle.wb_text_predictive.specs.Grammar.{Grammar}
use Rattle.wb_text_tokens.specs.declared.token.Token.{Token as Lexeme}
use Rattle.wb_text_tokens.specs.declared.kind.TokenKind.{TokenKind}
use Rattle.wb_text_tokens.specs.declared.kind.TokenKind.TheVariants as k
use Rattle.wb_text_tokens.specs.declared.word.Word.TheVariants as w
use Rattle.wb_text_tokens.specs.declared.punctuation.Punctuation.TheVariants as p
use Rattle.wb_text_tokens.specs.Kinds.{kind_of}
use Rattle.wb_terms.specs.declared.event.Event.{Event}
use Rattle.wb_terms.specs.declared.rules.Part.{Part}
use Rattle.wb_terms.specs.declared.rules.Action.{Action}
use Rattle.wb_terms.specs.Inner.Events.{shift, act}

-- the right sides
unfoldable pub term_rights : Part → List (List (Symbol TokenKind Part Action))
term_rights Part.Term =
    (Token k.Name ∷ Nonterminal Part.Owner ∷ Token (k.Mark p.OpenParenthesis) ∷ Nonterminal Part.Arguments
    ∷ Token (k.Mark p.CloseParenthesis) ∷ Act Action.Close ∷ []) ∷ []
term_rights Part.Owner = [] ∷ (Token (k.Mark p.Colon) ∷ Token k.Name ∷ Act Action.Qualify ∷ []) ∷ []
term_rights Part.Arguments = [] ∷ (Nonterminal Part.Argument ∷ Nonterminal Part.More ∷ []) ∷ []
term_rights Part.More = [] ∷ (Token (k.Mark p.Comma) ∷ Nonterminal Part.Argument ∷ Nonterminal Part.More ∷ []) ∷ []
term_rights Part.Argument =
    (Token k.One ∷ []) ∷ (Token k.Two ∷ []) ∷ (Token k.Number ∷ []) ∷ (Token k.String ∷ []) ∷ (Token (k.Word w.True) ∷ [])
    ∷ (Token (k.Word w.False) ∷ []) ∷ (Nonterminal Part.Term ∷ []) ∷ []

-- the grammar
abbrev pub term_grammar : Grammar TokenKind Part Action Lexeme (List Event)
term_grammar = record { start = Part.Term; rights = term_rights; kind_of = kind_of; shift = shift; act = act }
