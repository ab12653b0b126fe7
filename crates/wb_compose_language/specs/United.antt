-- The language of a host with its extensions, as they are lent.
use Rattle.std.specs.Prelude.{ℕ, List}
use Rattle.wb_scan_theory.specs.Languages.{LanguageView}
use Rattle.wb_compose_theory_language.specs.Languages.{AreWithdrawn, IsUnitedLanguage}
use Rattle.wb_compose_language.specs.declared.addition.Lent.{Lent}
use Rattle.wb_compose_language.specs.Lents.{all_in, own_in}

-- the language is that of the union
abbrev pub IsUnion : Lent → LanguageView → Type 0
IsUnion lent l = IsUnitedLanguage lent.grammar.now lent.extensible.now (own_in lent) (all_in lent) l

-- these are the union's markers without a bare form, by extension and then by number
abbrev pub HasWithdrawn : Lent → List ℕ → Type 0
HasWithdrawn lent withdrawn = AreWithdrawn lent.grammar.now lent.extensible.now (own_in lent) (all_in lent) withdrawn
