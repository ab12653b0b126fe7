-- The laws of the table of terms.
use Rattle.std.proofs.Common.{◌≡◌, true, refl}
use Rattle.wb_text_predictive.specs.Entries.{is_decided}
use Rattle.wb_text_predictive.specs.Kinds.{is_member}
use Rattle.wb_text_tokens.specs.declared.kind.TokenKind.TheVariants.{End}
use Rattle.wb_text_tokens.specs.Inner.SameKind.{same_kind}
use Rattle.wb_terms.specs.declared.rules.Part.{Part}
use Rattle.wb_terms.specs.Inner.TermTable.{term_rights}
use Rattle.wb_terms.specs.Inner.TermEntries.{term_entries}

-- one token of lookahead decides
pub term_decided : (n : Part) → is_decided same_kind End term_entries term_rights n ≡ true
unfolding term_rights term_entries
term_decided Part.Term = refl
term_decided Part.Owner = refl
term_decided Part.Arguments = refl
term_decided Part.More = refl
term_decided Part.Argument = refl

-- the end can follow a term
pub term_ends : is_member same_kind End (term_entries Part.Term).follow ≡ true
unfolding term_entries
term_ends = refl
