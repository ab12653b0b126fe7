-- The forms of items: the tokens with which they begin, and their right sides, both in one order.
use Rattle.std.specs.Prelude.{List, [], ◌∷◌}
use Rattle.wb_text_predictive.specs.declared.symbol.Symbol.{Symbol}
use Rattle.wb_text_predictive.specs.declared.symbol.Symbol.TheVariants.{Token, Nonterminal, Act}
use Rattle.wb_text_tokens.specs.declared.kind.TokenKind.{TokenKind}
use Rattle.wb_text_tokens.specs.declared.kind.TokenKind.TheVariants as kind
use Rattle.wb_text_tokens.specs.declared.word.Word.TheVariants as w
use Rattle.wb_text_tokens.specs.declared.punctuation.Punctuation.TheVariants as p
use Rattle.wb_syntax.specs.declared.pattern.Role.TheVariants as r
use Rattle.wb_syntax.specs.declared.production.ProductionRole.TheVariants as k
use Rattle.wb_reader_builder.specs.declared.actions.Action.{Action}
use Rattle.wb_reader_builder.specs.declared.items.ItemAction.{ItemAction}
use Rattle.wb_reader.specs.declared.part.Part.{Part}

-- the kinds with which an item begins
abbrev pub item_first : List TokenKind
item_first =
    kind.Word w.Terminal ∷ kind.Word w.Ignore ∷ kind.Word w.Marking ∷ kind.Word w.Concrete ∷ kind.Word w.Abstract
    ∷ kind.Word w.Aspect ∷ kind.Word w.Prefer ∷ kind.Word w.Nonterminal ∷ kind.Word w.Start ∷ kind.Word w.Extensible
    ∷ kind.Word w.Closed ∷ kind.Word w.Syn ∷ kind.Word w.Inh ∷ kind.Word w.Occurs ∷ kind.Word w.Forward ∷ []

-- the right sides of items of names alone
abbrev pub plain_right_sides : List (List (Symbol TokenKind Part Action))
plain_right_sides =
    (Token (kind.Word w.Prefer) ∷ Token kind.Name ∷ Token (kind.Word w.Over) ∷ Token kind.Name ∷ Token (kind.Mark p.Semicolon)
    ∷ Act (Action.Item ItemAction.Prefer) ∷ [])
    ∷ (Token (kind.Word w.Nonterminal) ∷ Token kind.Name ∷ Token (kind.Mark p.Semicolon) ∷ Act (Action.Item ItemAction.Nonterminal) ∷ [])
    ∷ (Token (kind.Word w.Start) ∷ Token kind.Name ∷ Token (kind.Mark p.Semicolon) ∷ Act (Action.Item ItemAction.Start) ∷ [])
    ∷ (Token (kind.Word w.Extensible) ∷ Token kind.Name ∷ Token (kind.Mark p.Semicolon) ∷ Act (Action.Item ItemAction.Extensible) ∷ [])
    ∷ (Token (kind.Word w.Closed) ∷ Token kind.Name ∷ Token (kind.Mark p.Semicolon) ∷ Act (Action.Item ItemAction.Closed) ∷ [])
    ∷ (Token (kind.Word w.Syn) ∷ Token kind.Name ∷ Token (kind.Mark p.Colon) ∷ Nonterminal Part.Kind ∷ Token (kind.Mark p.Semicolon)
    ∷ Act (Action.Item ItemAction.Synthesized) ∷ [])
    ∷ (Token (kind.Word w.Inh) ∷ Token kind.Name ∷ Token (kind.Mark p.Colon) ∷ Nonterminal Part.Kind ∷ Token (kind.Mark p.Semicolon)
    ∷ Act (Action.Item ItemAction.Inherited) ∷ [])
    ∷ (Token (kind.Word w.Occurs) ∷ Token kind.Name ∷ Token (kind.Word w.On) ∷ Token kind.Name ∷ Nonterminal Part.OptionalNeeds
    ∷ Token (kind.Mark p.Semicolon) ∷ Act (Action.Item ItemAction.Occurs) ∷ [])
    ∷ (Token (kind.Word w.Forward) ∷ Token (kind.Word w.On) ∷ Token kind.Name ∷ Nonterminal Part.Needs ∷ Token (kind.Mark p.Semicolon)
    ∷ Act (Action.Item ItemAction.ForwardOn) ∷ []) ∷ []

-- the right sides of items
abbrev pub item_right_sides : List (List (Symbol TokenKind Part Action))
item_right_sides =
    (Token (kind.Word w.Terminal) ∷ Token kind.Name ∷ Token kind.Regex ∷ Token (kind.Mark p.Semicolon)
    ∷ Act (Action.Item (ItemAction.Lexical r.Terminal)) ∷ [])
    ∷ (Token (kind.Word w.Ignore) ∷ Token kind.Name ∷ Token kind.Regex ∷ Token (kind.Mark p.Semicolon)
    ∷ Act (Action.Item (ItemAction.Lexical r.Ignore)) ∷ [])
    ∷ (Token (kind.Word w.Marking) ∷ Token kind.Name ∷ Token kind.Regex ∷ Token (kind.Mark p.Semicolon)
    ∷ Act (Action.Item (ItemAction.Lexical r.Marking)) ∷ [])
    ∷ (Token (kind.Word w.Concrete) ∷ Nonterminal Part.Production ∷ Act (Action.Item (ItemAction.ProductionItem k.Concrete)) ∷ [])
    ∷ (Token (kind.Word w.Abstract) ∷ Nonterminal Part.Production ∷ Act (Action.Item (ItemAction.ProductionItem k.Abstract)) ∷ [])
    ∷ (Token (kind.Word w.Aspect) ∷ Token kind.Name ∷ Nonterminal Part.Block ∷ Act (Action.Item ItemAction.Aspect) ∷ []) ∷ plain_right_sides
