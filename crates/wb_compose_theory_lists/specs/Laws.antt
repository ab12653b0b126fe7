-- What the laws say.
use Rattle.std.specs.Prelude.{ℕ, List, [], ◌∷◌, All, map}
use Rattle.wb_base.specs.Different.{Differ}
use Rattle.wb_base.specs.Grammar.{GrammarView}
use Rattle.wb_compose_theory_grammar.specs.Unions.{union_of}
use Rattle.wb_compose_theory_attributes.specs.Unions.{Rooted, IsUnionOf}
use Rattle.wb_compose_theory_lists.specs.Additions.{Rows, Addition, HaveRoles, AreOnce, IsAddition}
use Rattle.wb_compose_theory_lists.specs.Grammars.{AreGrammars, IsUnionGrammar}
use Rattle.wb_compose_theory_lists.specs.United.{host_numbers, united_attribution}

-- the union of a host with these extensions, where the start is the host's nonterminal of this number
abbrev pub rooted : Rows → ℕ → List Addition → Rooted
rooted host start all =
    record { attributes = united_attribution host all; start = (host_numbers host all).nonterminal start }

-- the host alone, and the host with each extension alone
abbrev pub each_alone : Rows → ℕ → List Addition → List Rooted
each_alone host start all = map (λ (x : Addition). rooted host start (x ∷ [])) all

-- the host's rows have their roles and are there once, what extensions add is theirs, and their names differ
pub record AreAdded (host : Rows) (all : List Addition) : Type 0 where
  pub host_roles : HaveRoles host
  pub host_once : AreOnce host
  pub each : All IsAddition all
  pub differ : Differ (map (λ (x : Addition). x.name) all)

-- then it is the union of the host and of the host with each extension
abbrev pub IsUnited : Rows → ℕ → List Addition → Type 0
IsUnited host start all = AreAdded host all → IsUnionOf (rooted host start []) (each_alone host start all) (rooted host start all)

-- the union of the grammars of a host and of the host with each extension is the grammar of the union
abbrev pub HasUnionGrammar : Rows → GrammarView → List Addition → List GrammarView → Type 0
HasUnionGrammar host host_grammar all grammars =
    AreGrammars host host_grammar all grammars → IsUnionGrammar host all (union_of host_grammar grammars)
