-- What the laws say of a language in two numberings.
use Rattle.std.specs.Prelude.{◌≡◌, ◌↔◌, ℕ, List}
use Rattle.wb_base.specs.declared.symbol.Symbol.{Symbol}
use Rattle.wb_base.specs.Grammar.{GrammarView}
use Rattle.wb_grammar_theory.specs.Productions.{IsProduction}
use Rattle.wb_grammar_theory.specs.Trees.{Forest}
use Rattle.wb_scan_theory.specs.declared.stop_kind.StopKind.{StopKind}
use Rattle.wb_scan_theory.specs.Languages.{LanguageView}
use Rattle.wb_scan_theory.specs.Texts.{ParsesTo, StopsAt}
use Rattle.wb_terms.specs.Printed.{name_of}
use Rattle.wb_compose_theory.specs.Renamings.{Renaming}
use Rattle.wb_values.specs.Signature.{Signature}
use Rattle.wb_compose_theory_order.specs.Answers.{renamed_forest, renamed_kind}

-- a text has the same trees in both, in their numbers, and the same stops
pub record HasSameAnswers (r : Renaming) (l m : LanguageView) : Type 0 where
  pub trees : (text : List ℕ) (tree : Forest) → ParsesTo l text tree ↔ ParsesTo m text (renamed_forest r tree)
  pub stops : (text : List ℕ) (place : ℕ) (kind : StopKind) → StopsAt l text place kind ↔ StopsAt m text place (renamed_kind r kind)

-- each production of the grammar has in the one signatures the name that it has in the others under its new number
abbrev pub HasSameNames : Renaming → GrammarView → (signatures others : List Signature) → Type 0
HasSameNames r g signatures others =
    (p a : ℕ) (right : List Symbol) → IsProduction g p a right → name_of others (r.production p) ≡ name_of signatures p
