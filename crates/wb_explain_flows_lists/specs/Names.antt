-- How productions, attributes and vertices are named: as reports name them, and as a file names them.
use Rattle.std.specs.Prelude.{ℕ, List, [], ◌++◌, Option, Some, None, slice_get}
use lib.Chars.{codes}
use Rattle.wb_flow.specs.declared.vertex.Vertex.{Vertex}
use Rattle.wb_flow.specs.declared.vertex.Vertex.TheVariants as v
use Rattle.wb_syntax_resolved.specs.declared.attributes.Attribute.{Attribute}
use Rattle.wb_syntax_resolved.specs.declared.attributes.Nonterminal.{Nonterminal}
use Rattle.wb_syntax_resolved.specs.declared.attribution.AttributionParts.{AttributionParts}
use Rattle.wb_syntax_resolved.specs.declared.production.Child.{Child}
use Rattle.wb_syntax_resolved.specs.declared.production.Local.{Local}
use Rattle.wb_syntax_resolved.specs.declared.production.Production.{Production}
use Rattle.wb_syntax_resolved.specs.Owners.{printed_name}

-- the name of an attribute, a production, a nonterminal in its owner's file
abbrev pub own_attribute : Option Attribute → List ℕ
own_attribute None = []
own_attribute (Some x) = x.name

abbrev pub own_production : Option Production → List ℕ
own_production None = []
own_production (Some p) = p.name

abbrev pub own_nonterminal : Option Nonterminal → List ℕ
own_nonterminal None = []
own_nonterminal (Some n) = n.name

-- the name of an attribute, the label of a child, and that of a local
abbrev pub attribute_text : List (List ℕ) → Option Attribute → List ℕ
attribute_text extensions None = []
attribute_text extensions (Some x) = printed_name extensions x.owner x.name

abbrev pub child_text : Option Child → List ℕ
child_text None = []
child_text (Some c) = c.label

abbrev pub local_text : List (List ℕ) → Option Local → List ℕ
local_text extensions None = []
local_text extensions (Some l) = printed_name extensions l.owner l.label

-- an attribute after a dot
abbrev pub dotted : AttributionParts → ℕ → List ℕ
dotted a x = codes "." ++ attribute_text a.extensions (slice_get a.attributes x)

-- a vertex of a production: an attribute of its left side, of a child, of a local or of the forwarded tree, or the tree itself
abbrev pub vertex_text : AttributionParts → Production → Vertex → List ℕ
vertex_text a p (v.Top x) = codes "top" ++ dotted a x
vertex_text a p (v.Child k x) = child_text (slice_get p.children k) ++ dotted a x
vertex_text a p (v.Local k x) = local_text a.extensions (slice_get p.locals k) ++ dotted a x
vertex_text a p (v.Forward x) = codes "forward" ++ dotted a x
vertex_text a p (v.LocalTree k) = local_text a.extensions (slice_get p.locals k)
vertex_text a p v.ForwardTree = codes "forward"

-- an attribute of a child or local, as a file names it that sees it
abbrev pub local_named : Option Local → List ℕ
local_named None = []
local_named (Some l) = l.label

abbrev pub vertex_named : AttributionParts → Production → Vertex → List ℕ
vertex_named a p (v.Child k x) = child_text (slice_get p.children k) ++ codes "." ++ own_attribute (slice_get a.attributes x)
vertex_named a p (v.Local k x) = local_named (slice_get p.locals k) ++ codes "." ++ own_attribute (slice_get a.attributes x)
vertex_named a p other = []

abbrev pub own_vertex : AttributionParts → Option Production → Vertex → List ℕ
own_vertex a None vertex = []
own_vertex a (Some p) vertex = vertex_named a p vertex
