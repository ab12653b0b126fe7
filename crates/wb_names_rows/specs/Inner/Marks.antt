-- What is marked for a row, for a grammar and for a base.
use Rattle.std.specs.Prelude.{◌≡◌, ◌<◌, ◌⊎◌, ◌↔◌, ◌∷◌, ◌++◌, ℕ, Bool, List, [], Option, Contains, flat_map, length, option_map}
use Rattle.std.specs.Prelude.{option_to_list}
use Rattle.wb_base.specs.declared.symbol.Kind.TheVariants as kind
use Rattle.wb_base.specs.Grammar.{GrammarView}
use Rattle.wb_syntax_resolved.specs.declared.production.Child.{Child}
use Rattle.wb_syntax_resolved.specs.declared.production.ChildKind.{ChildKind}
use Rattle.wb_syntax_resolved.specs.declared.production.ChildKind.TheVariants as child
use Rattle.wb_syntax_resolved.specs.declared.production.Production.{Production}
use Rattle.wb_syntax_resolved.specs.declared.production.ProductionRole.{ProductionRole}
use Rattle.wb_syntax_resolved.specs.declared.production.ProductionRole.TheVariants.{Concrete, Abstract}
use Rattle.wb_syntax_resolved.specs.declared.resolved.ResolvedParts.{ResolvedParts}
use Rattle.wb_names_rows.specs.Marks.{IsMarked}

-- of the numbers for which there are flags, exactly these are marked beside those that were
pub record Marks (numbers : List ℕ) (before after : List Bool) : Type 0 where
  pub len : length after ≡ length before
  pub exact : (k : ℕ) → k < length before → IsMarked after k ↔ (IsMarked before k ⊎ Contains numbers k)

-- the nonterminal that a child is a tree of
abbrev pub child_numbers : ChildKind → List ℕ
child_numbers (child.Value (kind.Tree n)) = n ∷ []
child_numbers other = []

-- the nonterminals in a concrete production
abbrev pub role_numbers : ProductionRole → Production → List ℕ
role_numbers Concrete p = p.left ∷ flat_map (λ (c : Child). child_numbers c.kind) p.children
role_numbers Abstract p = []

-- the start of a grammar, where there is one
abbrev pub start_numbers : Option GrammarView → List ℕ
start_numbers grammar = option_to_list (option_map (λ (g : GrammarView). g.start) grammar)

-- the nonterminals of a base's grammar
abbrev pub grammar_numbers : ResolvedParts → List ℕ
grammar_numbers r =
    start_numbers r.grammar ++ (r.extensible ++ flat_map (λ (p : Production). role_numbers p.role p) r.attributes.productions)
