-- The union of a certified host and extensions, each certified with the host alone.
use Rattle.std.specs.Prelude.{◌≡◌, List, map}
use Rattle.wb_base.specs.Grammar.{GrammarView}
use Rattle.wb_compose.specs.Kept.{ExtensionView}
use Rattle.wb_compose.specs.Lexicons.{lexicon_of}
use Rattle.wb_compose.specs.Joined.{AreCertifiedApart, Extended}
use Rattle.wb_compose.specs.Written.{written_in}
use Rattle.wb_scan_theory.specs.Facts.{IsLanguage}
use Rattle.wb_scan_theory.specs.Languages.{LanguageView}
use Rattle.wb_operations.specs.Operations.{OperationSignature}
use Rattle.wb_syntax_resolved.specs.declared.resolved.ResolvedParts.{ResolvedParts}
use Rattle.wb_compose_theory_grammar.specs.UnitedWorlds.{united}
use Rattle.wb_compose.specs.Languages.{IsUnitedLanguage}
use Rattle.wb_compose.specs.WrittenLanguages.{WrittenPiece, pieces_of}

-- certified extensions, each by the host with it alone
abbrev pub all_resolved : List ExtensionView → List ResolvedParts
all_resolved extensions = map (λ (e : ExtensionView). e.resolved) extensions

module _ (host : ResolvedParts) (operations : List OperationSignature) (extensions : List ResolvedParts) where
  -- the host has this grammar, and the extensions have these with it; the host is certified, and so is each extension
  pub record Union : Type 0 where
    pub grammar : GrammarView
    pub extended : List Extended
    pub extensions_are : map (λ (e : Extended). e.resolved) extended ≡ extensions
    pub certified : AreCertifiedApart host grammar operations extended

  -- the extensions of the union as they are written
  abbrev pub written_of : Union → List WrittenPiece
  written_of u = written_in u.grammar u.extended

  -- the grammar of the union
  abbrev pub united_of : Union → GrammarView
  united_of u = united u.grammar host.extensible (pieces_of (written_of u))

  -- the language is that of the union, and texts are parsed in it
  pub record IsLanguageOf (u : Union) (l : LanguageView) : Type 0 where
    pub of_union : IsUnitedLanguage u.grammar host.extensible (lexicon_of host u.grammar) (written_of u) l
    pub language : IsLanguage l
