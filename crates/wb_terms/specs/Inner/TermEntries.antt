-- What is given of each nonterminal of the grammar of terms beside its rules. It is only checked.
use Rattle.std.specs.Prelude.{[], ◌∷◌, true, false}
use Rattle.wb_text_predictive.specs.Entries.{Entry}
use Rattle.wb_text_tokens.specs.declared.kind.TokenKind.{TokenKind}
use Rattle.wb_text_tokens.specs.declared.kind.TokenKind.TheVariants as k
use Rattle.wb_text_tokens.specs.declared.word.Word.TheVariants as w
use Rattle.wb_text_tokens.specs.declared.punctuation.Punctuation.TheVariants as p
use Rattle.wb_terms.specs.declared.rules.Part.{Part}

-- what is given of each nonterminal
unfoldable pub term_entries : Part → Entry TokenKind
term_entries Part.Term = record {
  kinds = (k.Name ∷ []) ∷ [];
  nullable = false;
  first = k.Name ∷ [];
  follow = k.Mark p.CloseParenthesis ∷ k.Mark p.Comma ∷ k.End ∷ [];
  rank = 1;
  weight = 1;
}
term_entries Part.Owner = record {
  kinds = (k.Mark p.OpenParenthesis ∷ []) ∷ (k.Mark p.Colon ∷ []) ∷ [];
  nullable = true;
  first = k.Mark p.Colon ∷ [];
  follow = k.Mark p.OpenParenthesis ∷ [];
  rank = 0;
  weight = 1;
}
term_entries Part.Arguments = record {
  kinds =
      (k.Mark p.CloseParenthesis ∷ [])
      ∷ (k.Name ∷ k.One ∷ k.Two ∷ k.Number ∷ k.String ∷ k.Word w.True ∷ k.Word w.False ∷ []) ∷ [];
  nullable = true;
  first = k.Name ∷ k.One ∷ k.Two ∷ k.Number ∷ k.String ∷ k.Word w.True ∷ k.Word w.False ∷ [];
  follow = k.Mark p.CloseParenthesis ∷ [];
  rank = 0;
  weight = 3;
}
term_entries Part.More = record {
  kinds = (k.Mark p.CloseParenthesis ∷ []) ∷ (k.Mark p.Comma ∷ []) ∷ [];
  nullable = true;
  first = k.Mark p.Comma ∷ [];
  follow = k.Mark p.CloseParenthesis ∷ [];
  rank = 0;
  weight = 1;
}
term_entries Part.Argument = record {
  kinds =
      (k.One ∷ []) ∷ (k.Two ∷ []) ∷ (k.Number ∷ []) ∷ (k.String ∷ []) ∷ (k.Word w.True ∷ []) ∷ (k.Word w.False ∷ [])
      ∷ (k.Name ∷ []) ∷ [];
  nullable = false;
  first = k.Name ∷ k.One ∷ k.Two ∷ k.Number ∷ k.String ∷ k.Word w.True ∷ k.Word w.False ∷ [];
  follow = k.Mark p.CloseParenthesis ∷ k.Mark p.Comma ∷ [];
  rank = 0;
  weight = 2;
}
