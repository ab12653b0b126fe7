-- Parts of lines.
use Rattle.std.specs.Prelude.{ℕ, List, ◌++◌}
use Rattle.std.specs.List.{flat_map}
use Rattle.std.specs.Fmt.{decimal}
use lib.Chars.{codes}
use Rattle.wb_text_tokens.specs.Printing.{printed_text}
use Rattle.wb_report.specs.declared.shown.ShownAction.{ShownAction}
use Rattle.wb_report.specs.declared.shown.ShownAction.TheVariants as act
use Rattle.wb_report.specs.declared.shown.ShownConflict.{ShownConflict}
use Rattle.wb_report.specs.declared.shown.ShownItem.{ShownItem}
use Rattle.wb_report.specs.declared.shown.ShownStop.{ShownStop}
use Rattle.wb_report.specs.declared.shown.ShownStop.TheVariants as stop
use Rattle.wb_report.specs.declared.shown.ShownVertex.{ShownVertex}
use Rattle.wb_report.specs.declared.shown.ShownVertex.TheVariants as v

-- names, each after one space
abbrev pub spaced : List (List ℕ) → List ℕ
spaced names = flat_map (λ name. codes " " ++ name) names

-- an action: `shift`, `reduce` with the production, or `accept`
abbrev pub action_text : ShownAction → List ℕ
action_text act.Shift = codes "shift"
action_text (act.Reduce production) = codes "reduce " ++ production
action_text act.Accept = codes "accept"

-- the terminal of a conflict and its two actions
abbrev pub conflict_text : ShownConflict → List ℕ
conflict_text conflict =
    codes " on " ++ conflict.terminal ++ codes ": " ++ action_text conflict.first ++ codes " and " ++ action_text conflict.second

-- an item: the production, a stroke and the place of the dot
abbrev pub item_text : ShownItem → List ℕ
item_text item = item.production ++ codes "/" ++ decimal item.dot

-- an item and a terminal of its lookaheads
abbrev pub lookahead_text : ShownItem → List ℕ → List ℕ
lookahead_text item terminal = codes " item " ++ item_text item ++ codes " on " ++ terminal

-- two terminals that match a text
abbrev pub share_text : List ℕ → List ℕ → List ℕ → List ℕ
share_text left right text = left ++ codes " and " ++ right ++ codes " share " ++ printed_text text

-- why a text stops
abbrev pub stop_text : ShownStop → List ℕ
stop_text stop.NoToken = codes "no token"
stop_text (stop.Unexpected terminal) = codes "unexpected " ++ terminal

-- a vertex of a flow graph: an attribute of what has this name, or a tree by its own
abbrev pub vertex_text : ShownVertex → List ℕ
vertex_text (v.Top attribute) = codes "top." ++ attribute
vertex_text (v.Label label attribute) = label ++ codes "." ++ attribute
vertex_text (v.Forward attribute) = codes "forward." ++ attribute
vertex_text (v.LocalTree label) = label
vertex_text v.ForwardTree = codes "forward"

-- vertices, each after one space
abbrev pub vertices_text : List ShownVertex → List ℕ
vertices_text vertices = flat_map (λ vertex. codes " " ++ vertex_text vertex) vertices
