-- Tokens added one after the other.
use Rattle.std.proofs.Common.{◌≡◌, ◌++◌, ◌∷◌, [], List, refl}
use Rattle.wb_text_tokens.specs.declared.token.Token.{Token}
use Rattle.wb_reader_printer.specs.Inner.Output.{Output, put, after}

-- some tokens and then others
pub after_both : (output : Output) (a b : List Token) → after output (a ++ b) ≡ after (after output a) b
after_both output [] b = refl
after_both output (token ∷ a) b = after_both (put output token) a b
