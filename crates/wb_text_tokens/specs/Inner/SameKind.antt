-- The test whether two kinds of tokens are the same, as tables compute it.
use Rattle.std.specs.Prelude.{Bool}
use Rattle.wb_text_tokens.specs.contracts.kind.TokenKindPartialEq.TheImpl.{ghosts}
use Rattle.wb_text_tokens.specs.declared.kind.TokenKind.{TokenKind}

-- the test whether two kinds are the same
abbrev pub same_kind : TokenKind → TokenKind → Bool
same_kind = ghosts.eq
