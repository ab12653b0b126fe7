-- A reserved word that is next is the next token of the text.
use Rattle.std.proofs.Common.{◌≡◌, ℕ, List, subst}
use Rattle.wb_text_predictive.specs.declared.table.Next.{Next}
use Rattle.wb_text_predictive.specs.declared.table.Next.TheVariants as n
use Rattle.wb_text_predictive.specs.declared.table.Placed.{Placed}
use Rattle.wb_text_tokens.specs.NextToken.{IsNextIn, NextToken}
use Rattle.wb_text_tokens.specs.declared.token.Dialect.{Dialect}
use Rattle.wb_text_tokens.specs.declared.token.Token.{Token}
use Rattle.wb_text_tokens.specs.declared.token.Token.TheVariants.{Word as Reserved}
use Rattle.wb_text_tokens.specs.declared.word.Word.{Word}
use Rattle.wb_explain_lines.specs.Inner.Reserved.{IsReservedAt}

pub reserved_next : (next : Next Token) (placed : Placed Token) (word : Word) → next ≡ n.Found placed → placed.token ≡ Reserved word
    → (dialect : Dialect) (text : List ℕ) (from : ℕ) → IsNextIn dialect text from next → IsReservedAt dialect text from word
reserved_next next placed word found is dialect text from next_is = record {
  at = placed.at;
  end = placed.end;
  is = subst (λ (t : Token). NextToken dialect text from t placed.at placed.end) is (subst (IsNextIn dialect text from) found next_is);
}
