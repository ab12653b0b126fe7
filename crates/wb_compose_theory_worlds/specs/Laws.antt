-- What the laws say of worlds.
use Rattle.std.specs.Prelude.{◌≡◌, ℕ, List, IsTrue}
use Rattle.wb_flow_theory.specs.Vertices.{Vertex}
use Rattle.wb_syntax_resolved.specs.declared.attributes.Direction.{Direction}
use Rattle.wb_syntax_resolved.specs.Expression.{Node}
use Rattle.wb_compose_theory_worlds.specs.Worlds.{Owner, World, Part, union, IsRuleIn}
use Rattle.wb_compose_theory_worlds.specs.Named.{IsNamed}
use Rattle.wb_compose_theory_worlds.specs.Parts.{AreWellDefinedApart, IsWellDefinedPart}

-- where the host is well defined, and each extension is with the host alone, their union is
abbrev pub IsUnionWellDefined : World → Type 0
IsUnionWellDefined w = IsNamed w → (n : ℕ) → AreWellDefinedApart w n → IsWellDefinedPart w (union n)

-- no two owners declare one occurrence, and in a part a vertex has one rule at most
pub record IsWrittenOnce (w : World) : Type 0 where
  pub occurrence : (d : Direction) (o other : Owner) (m a : ℕ) → IsTrue (w.declares d o m a) → IsTrue (w.declares d other m a) → o ≡ other
  pub rule : (part : Part) (p : ℕ) (v : Vertex) (e f : List Node) → IsRuleIn w part p v e → IsRuleIn w part p v f → e ≡ f
