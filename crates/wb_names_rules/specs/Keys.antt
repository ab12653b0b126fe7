-- Keys: declarations have one key exactly where they are of the same thing.
use Rattle.std.specs.Prelude.{ℕ, List, [], ◌∷◌, ◌++◌, flat_map}
use Rattle.wb_names_theory.specs.declared.declaration.Declaration.{Declaration}
use Rattle.wb_names_theory.specs.declared.declaration.Declaration.TheVariants as d
use Rattle.wb_names_theory.specs.declared.declaration.Site.{Site}
use Rattle.wb_names_theory.specs.declared.declaration.Site.TheVariants as site

-- a text with a mark before each byte and another at its end, so that what comes after it is told apart
abbrev pub marked : List ℕ → List ℕ
marked text = flat_map (λ (b : ℕ). 1 ∷ b ∷ []) text ++ 0 ∷ []

-- a site as bytes
abbrev pub site_key : Site → List ℕ
site_key site.Top = 0 ∷ []
site_key site.Forward = 1 ∷ []
site_key (site.Label label) = 2 ∷ label

-- the number of a sort of declarations
abbrev pub tag_of : Declaration → ℕ
tag_of (d.Symbol name is) = 0
tag_of (d.Attribute name direction) = 1
tag_of (d.Occurrence attribute nonterminal) = 2
tag_of (d.Left production nonterminal) = 3
tag_of (d.Label production label is) = 4
tag_of (d.Equation production attribute at) = 5
tag_of (d.Forward production) = 6
tag_of (d.Start name) = 7
tag_of (d.Extensible name) = 8
tag_of (d.ForwardNeeds nonterminal) = 9
tag_of (d.Preference first second) = 10
tag_of (d.Closed name) = 11

-- what tells declarations of a sort apart
abbrev pub body_of : Declaration → List ℕ
body_of (d.Symbol name is) = name
body_of (d.Attribute name direction) = name
body_of (d.Occurrence attribute nonterminal) = marked attribute ++ nonterminal
body_of (d.Left production nonterminal) = production
body_of (d.Label production label is) = marked production ++ label
body_of (d.Equation production attribute at) = marked production ++ (marked attribute ++ site_key at)
body_of (d.Forward production) = production
body_of (d.Start name) = []
body_of (d.Extensible name) = name
body_of (d.Closed name) = name
body_of (d.ForwardNeeds nonterminal) = nonterminal
body_of (d.Preference first second) = marked first ++ second

-- the key of a declaration
abbrev pub key_of : Declaration → List ℕ
key_of declaration = tag_of declaration ∷ body_of declaration
