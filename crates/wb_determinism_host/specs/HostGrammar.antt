-- The grammar of a host.
use Rattle.std.specs.Prelude.{◌≡◌, Some}
use Rattle.wb_base.specs.Grammar.{GrammarView}
use Rattle.wb_syntax_resolved.specs.declared.resolved.ResolvedParts.{ResolvedParts}
use Rattle.wb_syntax_resolved.specs.Resolved.{IsResolved}

-- the parts are a resolved specification's, which has this grammar
pub record HasGrammar (r : ResolvedParts) (g : GrammarView) : Type 0 where
  pub resolved : IsResolved r
  pub grammar : r.grammar ≡ Some g
