-- What a name or a label means, where declarations of the same thing that count are one.
use Rattle.std.specs.Prelude.{◌≡◌, ◌↔◌, ◌⊎◌, ℕ, List, Option, Some, None}
use Rattle.wb_syntax_resolved.specs.declared.attributes.Direction.{Direction}
use Rattle.wb_names_theory.specs.declared.declaration.Declaration.{Declaration}
use Rattle.wb_names_theory.specs.declared.declaration.Labelled.{Labelled}
use Rattle.wb_names_theory.specs.declared.declaration.Site.{Site}
use Rattle.wb_names_theory.specs.declared.declaration.Sort.{Sort}
use Rattle.wb_names_theory.specs.declared.declaration.Sort.TheVariants.{Terminal, Marker, Nonterminal}
use Rattle.wb_names_theory.specs.Meaning.{IsSymbol, IsAttribute, HasLabel, HasLeft, HasSite, IsTree}

-- the one value of which this holds, where there is one
abbrev pub IsOnly : {X : Type 0} → (X → Type 0) → Option X → Type 0
IsOnly {X} P None = (x : X) → ¬ P x
IsOnly {X} P (Some y) = (x : X) → P x ↔ (x ≡ y)

-- what a name is declared as
abbrev pub IsSortOf : List Declaration → List ℕ → Option Sort → Type 0
IsSortOf declared name found = IsOnly (IsSymbol declared name) found

-- which way the values of an attribute go
abbrev pub IsDirectionOf : List Declaration → List ℕ → Option Direction → Type 0
IsDirectionOf declared name found = IsOnly (IsAttribute declared name) found

-- what a label of a production is
abbrev pub IsLabelledAs : List Declaration → List ℕ → List ℕ → Option Labelled → Type 0
IsLabelledAs declared production l found = IsOnly (HasLabel declared production l) found

-- the nonterminal on the left of a production
abbrev pub IsLeftOf : List Declaration → List ℕ → Option (List ℕ) → Type 0
IsLeftOf declared production found = IsOnly (HasLeft declared production) found

-- the nonterminal of the tree at a site of a production
abbrev pub IsSiteOf : List Declaration → List ℕ → Site → Option (List ℕ) → Type 0
IsSiteOf declared production at found = IsOnly (HasSite declared production at) found

-- the nonterminal of the top of a production
abbrev pub IsTopOf : List Declaration → List ℕ → Option (List ℕ) → Type 0
IsTopOf declared production found = IsOnly (λ (n : List ℕ). HasLeft declared production n × IsSymbol declared n Nonterminal) found

-- the nonterminal of a name
abbrev pub IsNonterminalNamed : List Declaration → List ℕ → Option (List ℕ) → Type 0
IsNonterminalNamed declared name found = IsOnly (λ (n : List ℕ). (n ≡ name) × IsSymbol declared n Nonterminal) found

-- the nonterminal of which what has a label is a tree
abbrev pub IsTreeOf : List Declaration → Labelled → Option (List ℕ) → Type 0
IsTreeOf declared is found = IsOnly (IsTree declared is) found

-- the nonterminal of the tree of a label
abbrev pub IsLabelTreeOf : List Declaration → List ℕ → List ℕ → Option (List ℕ) → Type 0
IsLabelTreeOf declared production l found =
    IsOnly (λ (n : List ℕ). (is : Labelled) × HasLabel declared production l is × IsTree declared is n) found

-- the name is a terminal's or marker's
abbrev pub IsLexicalName : List Declaration → List ℕ → Type 0
IsLexicalName declared name = IsSymbol declared name Terminal ⊎ IsSymbol declared name Marker

-- the sort is that of terminals or markers
abbrev pub IsLexicalSort : Sort → Type 0
IsLexicalSort is = (is ≡ Terminal) ⊎ (is ≡ Marker)
