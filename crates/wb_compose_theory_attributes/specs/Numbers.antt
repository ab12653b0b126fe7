-- New numbers for terminals, nonterminals, attributes, productions and locals, and what they make of the vertices of a flow graph.
use Rattle.std.specs.Prelude.{◌≡◌, ℕ}
use Rattle.wb_flow_theory.specs.Vertices.{Made, local, forward, Step, child, made, Vertex, top_synthesized, top_inherited, synthesized}
use Rattle.wb_flow_theory.specs.Vertices.{inherited, tree_of}

-- the new number of each terminal, nonterminal, attribute and production, and of each local of a production
pub record NumberMap : Type 0 where
  pub terminal : ℕ → ℕ
  pub nonterminal : ℕ → ℕ
  pub attribute : ℕ → ℕ
  pub production : ℕ → ℕ
  pub local_in : (production number : ℕ) → ℕ

-- no two numbers of nonterminals, attributes, productions or locals become one
pub record IsOneToOne (t : NumberMap) : Type 0 where
  pub nonterminal : (m n : ℕ) → t.nonterminal m ≡ t.nonterminal n → m ≡ n
  pub attribute : (a b : ℕ) → t.attribute a ≡ t.attribute b → a ≡ b
  pub production : (p q : ℕ) → t.production p ≡ t.production q → p ≡ q
  pub local_in : (p x y : ℕ) → t.local_in p x ≡ t.local_in p y → x ≡ y

-- what the new numbers make of a tree that an expression of the production makes, of a step down and of a vertex
abbrev pub new_made : NumberMap → ℕ → Made → Made
new_made t p (local x) = local (t.local_in p x)
new_made t p forward = forward

abbrev pub new_step : NumberMap → ℕ → Step → Step
new_step t p (child k) = child k
new_step t p (made m) = made (new_made t p m)

abbrev pub new_vertex : NumberMap → ℕ → Vertex → Vertex
new_vertex t p (top_synthesized a) = top_synthesized (t.attribute a)
new_vertex t p (top_inherited i) = top_inherited (t.attribute i)
new_vertex t p (synthesized s a) = synthesized (new_step t p s) (t.attribute a)
new_vertex t p (inherited s i) = inherited (new_step t p s) (t.attribute i)
new_vertex t p (tree_of m) = tree_of (new_made t p m)
