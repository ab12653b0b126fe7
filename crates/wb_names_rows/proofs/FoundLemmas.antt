-- What is found in a scope is what is written, in the numbers of its names.
use Rattle.std.proofs.Common.{◌≡◌, ℕ, List, Some, slice_get}
use Rattle.std.specs.List.{AllZip}
use Rattle.wb_lemmas.proofs.Zips.{zip_weaker}
use Rattle.wb_syntax_expressions.specs.declared.node.Node.TheVariants as part
use Rattle.wb_syntax_resolved.specs.declared.equation.Equation.{Equation}
use Rattle.wb_syntax_resolved.specs.declared.equation.Target.{Target}
use Rattle.wb_syntax_resolved.specs.declared.production.Forward.{Forward}
use Rattle.wb_syntax_resolved.specs.declared.production.Local.{Local}
use Rattle.wb_syntax_resolved.specs.Expression as by_number
use Rattle.wb_syntax.specs.declared.expression.Equation as written
use Rattle.wb_syntax.specs.declared.expression.Target as is_for
use Rattle.wb_syntax.specs.declared.expression.Target.TheVariants as g
use Rattle.wb_syntax.specs.Expression as by_name
use Rattle.wb_names_numbers_theory.specs.Numbering.{Numbering, Labels, IsNumber, IsPlace}
use Rattle.wb_names_numbers_theory.specs.Renaming.{IsRenamedNode}
use Rattle.wb_names_numbers_theory.specs.Written.{AreWrittenNodes, IsWrittenTarget, IsWrittenLocalTarget, IsWrittenEquation, IsWrittenLocal}
use Rattle.wb_names_numbers_theory.specs.Written.{IsWrittenForward}
use Rattle.wb_names_rows.specs.declared.scope.Scope.{Scope}
use Rattle.wb_names_rows.specs.declared.scope.ProductionLabels.{ProductionLabels}
use Rattle.wb_names_rows.specs.Nodes.{IsFoundNode, IsFoundTarget, IsFoundLocalTarget, IsFoundEquation, IsFoundLocal, IsFoundForward}
use Rattle.wb_names_rows.specs.Scope.{IsScope, AreLabels}
use Rattle.wb_names_rows.proofs.ScopeLemmas.{is_number, is_place}

module _ (s : Scope) (n : Numbering) (scope : IsScope s n) (labels : ProductionLabels) (of : Labels) (are : AreLabels labels of s.owner)
  where
    attribute : (name : List ℕ) (k : ℕ) → slice_get s.attributes k ≡ Some name → IsNumber n.attributes s.owner name k
    attribute = is_number s.attributes n.attributes s.owner scope.attributes

    production : (name : List ℕ) (k : ℕ) → slice_get s.productions k ≡ Some name → IsNumber n.productions s.owner name k
    production = is_number s.productions n.productions s.owner scope.productions

    -- a node
    found_node : (node : by_name.Node) (to : by_number.Node) → IsFoundNode s labels node to
        → IsRenamedNode (IsPlace of s.owner) (IsNumber n.attributes s.owner) (IsNumber n.productions s.owner) node to
    found_node (part.Label l) to e = (e.0, is_place labels of s.owner are l e.0 e.1, e.2)
    found_node (part.Read l a) to e = (e.0, e.1, is_place labels of s.owner are l e.0 e.2, attribute a e.1 e.3, e.4)
    found_node (part.Lexeme l) to e = (e.0, is_place labels of s.owner are l e.0 e.1, e.2)
    found_node (part.Top a) to e = (e.0, attribute a e.0 e.1, e.2)
    found_node (part.Forward a) to e = (e.0, attribute a e.0 e.1, e.2)
    found_node (part.Build p places) to e = (e.0, production p e.0 e.1, e.2)
    found_node node to e = e

    pub found_nodes : (nodes : List by_name.Node) (others : List by_number.Node) → AllZip (IsFoundNode s labels) nodes others
        → AreWrittenNodes n s.owner of nodes others
    found_nodes nodes others all = zip_weaker (IsFoundNode s labels)
        (IsRenamedNode (IsPlace of s.owner) (IsNumber n.attributes s.owner) (IsNumber n.productions s.owner)) found_node nodes others all

    found_target : (from : is_for.Target) (to : Target) → IsFoundTarget s labels from to → IsWrittenTarget n s.owner of from to
    found_target (g.Top a) to e = (e.0, attribute a e.0 e.1, e.2)
    found_target (g.Label l a) to e = (e.0, e.1, is_place labels of s.owner are l e.0 e.2, attribute a e.1 e.3, e.4)
    found_target (g.Forward a) to e = (e.0, attribute a e.0 e.1, e.2)
    found_target (g.Local l m) to e = absurd e
    found_target g.ForwardsTo to e = absurd e

    found_local_target : (from : is_for.Target) (l : List ℕ) (k : ℕ) → IsFoundLocalTarget s labels from l k
        → IsWrittenLocalTarget n s.owner from l k
    found_local_target (g.Local own m) l k e = (e.0, is_number s.nonterminals n.nonterminals s.owner scope.nonterminals m k e.1)
    found_local_target (g.Top a) l k e = absurd e
    found_local_target (g.Label other a) l k e = absurd e
    found_local_target (g.Forward a) l k e = absurd e
    found_local_target g.ForwardsTo l k e = absurd e

    -- an equation, a local and a forward
    pub found_equation : (q : written.Equation) (e : Equation) → IsFoundEquation s labels q e → IsWrittenEquation n s.owner of q e
    found_equation q e f = record {
      owner_is = f.owner;
      offset = f.offset;
      target = found_target q.target e.target f.target;
      nodes = found_nodes q.nodes e.nodes f.nodes;
    }

    pub found_local : (q : written.Equation) (l : Local) → IsFoundLocal s labels q l → IsWrittenLocal n s.owner of q l
    found_local q l f = record {
      owner_is = f.owner;
      offset = f.offset;
      target = found_local_target q.target l.label l.nonterminal f.target;
      nodes = found_nodes q.nodes l.nodes f.nodes;
    }

    pub found_forward : (q : written.Equation) (x : Forward) → IsFoundForward s labels q x → IsWrittenForward n s.owner of q x
    found_forward q x f = record { offset = f.offset; nodes = found_nodes q.nodes x.nodes f.nodes }
