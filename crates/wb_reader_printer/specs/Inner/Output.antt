-- How tokens are added to a text, one after the other.
use Rattle.std.specs.Prelude.{ℕ, ◌||◌, Bool, true, List, [], ◌∷◌, ◌++◌, if◌then◌else◌}
use Rattle.wb_text_tokens.specs.declared.token.Token.{Token}
use Rattle.wb_syntax.specs.Canonical.{printed, follows_closely, leads_closely}

-- a text that is being written, and whether the next token is at its end without a space, as at the beginning of a line
pub record Output : Type 0 where
  pub text : List ℕ
  pub closely : Bool

-- one token more
unfoldable pub put : Output → Token → Output
put output token = record {
  text = output.text ++ ((if output.closely || follows_closely token then [] else 32 ∷ []) ++ printed token);
  closely = leads_closely token;
}

-- these tokens more
abbrev pub after : Output → List Token → Output
after output [] = output
after output (token ∷ tokens) = after (put output token) tokens

-- the end of the line more
unfoldable pub ended : Output → Output
ended output = record { text = output.text ++ 10 ∷ []; closely = true }

-- these lines more
abbrev pub after_lines : Output → List (List Token) → Output
after_lines output [] = output
after_lines output (tokens ∷ lines) = after_lines (ended (after output tokens)) lines
