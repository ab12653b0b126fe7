-- What actions make of kinds, flow types, children, productions and equations.
use Rattle.std.specs.Prelude.{ℕ, List, [], ◌∷◌, ◌++◌, Some, None}
use Rattle.wb_syntax.specs.declared.production.NamedKind.{NamedKind}
use Rattle.wb_syntax.specs.declared.production.NamedKind.TheVariants as k
use Rattle.wb_syntax.specs.declared.expression.Target.{Target}
use Rattle.wb_syntax.specs.declared.expression.Target.TheVariants as g
use Rattle.wb_reader_builder.specs.declared.parts.PartAction.{PartAction}
use Rattle.wb_reader_builder.specs.declared.builder.SpecBuilder.{SpecBuilder}
use Rattle.wb_reader_builder.specs.Builder.{on_top}

-- a kind without a name
abbrev pub with_kind : NamedKind → SpecBuilder → SpecBuilder
with_kind kind v = record v { kinds = kind ∷ v.kinds }

-- the last name is a kind
abbrev pub with_named_kind : SpecBuilder → SpecBuilder
with_named_kind v = on_top v.names v (λ name rest. with_kind (k.Name name.bytes) (record v { names = rest }))

-- no flow type is written
abbrev pub with_no_needs : SpecBuilder → SpecBuilder
with_no_needs v = record v { needs = None ∷ v.needs }

-- the last list of names is a flow type
abbrev pub with_needs : SpecBuilder → SpecBuilder
with_needs v = on_top v.lists v (λ names rest. record v { lists = rest; needs = Some names ∷ v.needs })

-- a list of names begins
abbrev pub with_names : SpecBuilder → SpecBuilder
with_names v = record v { lists = [] ∷ v.lists }

-- the last name goes to the end of the last list
abbrev pub with_listed : SpecBuilder → SpecBuilder
with_listed v = on_top v.names v (λ name names. on_top v.lists (record v { names = names })
    (λ list lists. record v { names = names; lists = (list ++ name.bytes ∷ []) ∷ lists }))

-- a child of the last name and the last kind goes to the end of the last children
abbrev pub with_child : SpecBuilder → SpecBuilder
with_child v = on_top v.kinds v (λ kind kinds. on_top v.names (record v { kinds = kinds })
    (λ name names. on_top v.children (record v { kinds = kinds; names = names })
    (λ children rest. record v {
      kinds = kinds;
      names = names;
      children = (children ++ record { label = name.bytes; kind = kind } ∷ [])
          ∷ rest;
    })))

-- equations begin
abbrev pub with_equations : SpecBuilder → SpecBuilder
with_equations v = record v { equations = [] ∷ v.equations }

-- an equation for the last name begins at the last place
abbrev pub with_target : (List ℕ → Target) → SpecBuilder → SpecBuilder
with_target target v = on_top v.names v (λ name names. on_top v.starts (record v { names = names })
    (λ at starts. record v { names = names; starts = starts; targets = record { target = target name.bytes; at = at } ∷ v.targets }))

-- an equation for the last name of the name before it begins there
abbrev pub with_label_target : SpecBuilder → SpecBuilder
with_label_target v = on_top v.names v (λ attribute names. on_top names (record v { names = names })
    (λ label rest. record v { names = rest; targets = record { target = g.Label label.bytes attribute.bytes; at = label.at } ∷ v.targets }))

-- an equation for the local of the name before the last begins at the last place
abbrev pub with_local_target : SpecBuilder → SpecBuilder
with_local_target v = on_top v.names v (λ nonterminal names. on_top names (record v { names = names })
    (λ label rest. on_top v.starts (record v { names = rest })
    (λ at starts. record v {
      names = rest;
      starts = starts;
      targets = record { target = g.Local label.bytes nonterminal.bytes; at = at }
          ∷ v.targets;
    })))

-- an equation for the forwarded tree begins at the last place
abbrev pub with_forwards_to : SpecBuilder → SpecBuilder
with_forwards_to v =
    on_top v.starts v (λ at starts. record v { starts = starts; targets = record { target = g.ForwardsTo; at = at } ∷ v.targets })

-- an expression begins
abbrev pub with_nodes : SpecBuilder → SpecBuilder
with_nodes v = record v { nodes = [] ∷ v.nodes }

-- an equation of the last target and the last nodes goes to the end of the last equations
abbrev pub with_equation : SpecBuilder → SpecBuilder
with_equation v = on_top v.roots v (λ root roots. on_top v.nodes (record v { roots = roots })
    (λ nodes others. on_top v.targets (record v { roots = roots; nodes = others })
    (λ target targets. on_top v.equations (record v { roots = roots; nodes = others; targets = targets })
    (λ equations rest. record v {
      roots = roots;
      nodes = others;
      targets = targets;
      equations =
          (equations ++ record { offset = target.at; target = target.target; nodes = nodes } ∷ []) ∷ rest;
    }))))

-- what an action on kinds, flow types, children and equations makes of the parts
abbrev pub part_act : PartAction → SpecBuilder → SpecBuilder
part_act PartAction.IntKind v = with_kind k.Int v
part_act PartAction.BoolKind v = with_kind k.Bool v
part_act PartAction.TextKind v = with_kind k.Text v
part_act PartAction.NameKind v = with_named_kind v
part_act PartAction.NoNeeds v = with_no_needs v
part_act PartAction.SomeNeeds v = with_needs v
part_act PartAction.BeginNames v = with_names v
part_act PartAction.AddName v = with_listed v
part_act PartAction.AddChild v = with_child v
part_act PartAction.BeginEquations v = with_equations v
part_act PartAction.TopTarget v = with_target (λ a. g.Top a) v
part_act PartAction.LabelTarget v = with_label_target v
part_act PartAction.ForwardTarget v = with_target (λ a. g.Forward a) v
part_act PartAction.LocalTarget v = with_local_target v
part_act PartAction.ForwardsToTarget v = with_forwards_to v
part_act PartAction.BeginNodes v = with_nodes v
part_act PartAction.AddEquation v = with_equation v
