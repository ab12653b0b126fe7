-- The laws of the table of specifications.
use Rattle.std.proofs.Common.{◌≡◌, true, refl}
use Rattle.wb_text_predictive.specs.Entries.{is_decided}
use Rattle.wb_text_predictive.specs.Kinds.{is_member}
use Rattle.wb_text_tokens.specs.declared.kind.TokenKind.TheVariants.{End}
use Rattle.wb_text_tokens.specs.Inner.SameKind.{same_kind}
use Rattle.wb_reader.specs.declared.part.Part.{Part}
use Rattle.wb_reader.specs.Inner.LookaheadTable.{lookahead_table}
use Rattle.wb_reader.specs.Inner.RightSides.{right_sides}

-- one token of lookahead decides
pub spec_decided : (n : Part) → is_decided same_kind End lookahead_table right_sides n ≡ true
unfolding right_sides lookahead_table
spec_decided Part.File = refl
spec_decided Part.Format = refl
spec_decided Part.Header = refl
spec_decided Part.Items = refl
spec_decided Part.Item = refl
spec_decided Part.Production = refl
spec_decided Part.Kind = refl
spec_decided Part.OptionalNeeds = refl
spec_decided Part.Needs = refl
spec_decided Part.Names = refl
spec_decided Part.FurtherNames = refl
spec_decided Part.Children = refl
spec_decided Part.Block = refl
spec_decided Part.Equations = refl
spec_decided Part.Equation = refl
spec_decided Part.Value = refl
spec_decided Part.Expression = refl
spec_decided Part.Tail = refl
spec_decided Part.Read = refl
spec_decided Part.Arguments = refl
spec_decided Part.FurtherArguments = refl
spec_decided Part.Integer = refl

-- the end can follow a specification
pub spec_ends : is_member same_kind End (lookahead_table Part.File).follow ≡ true
unfolding lookahead_table
spec_ends = refl
