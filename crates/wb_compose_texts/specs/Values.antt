-- What comes of a text and an attribute in the language of a host with extensions: what comes of the attribute at the root of the text's
-- tree, or the stop of the text.
use Rattle.std.specs.Prelude.{◌≡◌, ℕ, List}
use Rattle.wb_grammar_theory.specs.Trees.{Forest}
use Rattle.wb_scan_theory.specs.Languages.{LanguageView}
use Rattle.wb_scan_theory.specs.Shown.{Shows}
use Rattle.wb_scan_theory.specs.Texts.{ParsesTo}
use Rattle.wb_operations.specs.Operations.{Operations}
use Rattle.wb_syntax_resolved.specs.declared.resolved.ResolvedParts.{ResolvedParts}
use Rattle.wb_eval_root.specs.Values.{IsTreeValue}
use Rattle.wb_eval_root.specs.declared.value.TreeValue.{TreeValue}
use Rattle.wb_compose_texts.specs.Answers.{StopsShown}
use Rattle.wb_compose_texts.specs.Names.{terminals_of}
use Rattle.wb_compose_texts.specs.Signatures.{signatures_of}
use Rattle.wb_compose_texts.specs.Unions.{IsLanguageOf, Union}
use Rattle.wb_values.specs.Tree.{Tree}
use Rattle.wb_compose_texts.specs.Roots.{IsAskedIn, attributes_in}
use Rattle.wb_compose_texts.specs.declared.value.TextValue.{TextValue}
use Rattle.wb_compose_texts.specs.declared.value.TextValue.TheVariants as answer

module _ (host : ResolvedParts) (operations : Operations) (extensions : List ResolvedParts) (text name : List ℕ) (steps : ℕ) where
  -- in the language the text has a tree, and this comes of the attribute at its root that is asked by the name, within so many steps
  pub record HasRootValue (u : Union host operations.signatures extensions) (l : LanguageView) (value : TreeValue) : Type 0 where
    pub root : Forest
    pub parses : ParsesTo l text root
    pub top : Tree
    pub shows : Shows top root
    pub attribute : ℕ
    pub asked : IsAskedIn host operations.signatures extensions u name attribute
    pub is : IsTreeValue (attributes_in host operations.signatures extensions u) operations top attribute steps value

  -- this comes of the text: what comes of the attribute at the root of its tree, or its stop
  abbrev pub IsValueIn : Union host operations.signatures extensions → LanguageView → TextValue → Type 0
  IsValueIn u l (answer.Tree value) = HasRootValue u l value
  IsValueIn u l (answer.Stopped place shown) = StopsShown (terminals_of host extensions) (signatures_of host extensions) l text place shown

  -- the host has with the extensions a language, in which this comes of the text
  pub record IsTextValue (value : TextValue) : Type 0 where
    pub whole : Union host operations.signatures extensions
    pub language : LanguageView
    pub is_language : IsLanguageOf host operations.signatures extensions whole language
    pub is : IsValueIn whole language value

-- a text, a name and a number of steps come to one thing at most
abbrev pub HasOneTextValue : ResolvedParts → Operations → List ResolvedParts → Type 0
HasOneTextValue host operations extensions =
    (text name : List ℕ) (steps : ℕ) (one other : TextValue) → IsTextValue host operations extensions text name steps one →
    IsTextValue host operations extensions text name steps other → one ≡ other
