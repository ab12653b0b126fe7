-- What reserved words add to the parts, and what actions make of those of headers, items and productions.
use Rattle.std.specs.Prelude.{ℕ, ◌==◌, ℤ, pos, negsuc, List, [], ◌∷◌, ◌++◌, if◌then◌else◌}
use Rattle.wb_text_tokens.specs.declared.word.Word.{Word}
use Rattle.wb_text_tokens.specs.declared.word.Word.TheVariants as w
use Rattle.wb_syntax.specs.declared.header.Header.{Header}
use Rattle.wb_syntax.specs.declared.header.Header.TheVariants as h
use Rattle.wb_syntax.specs.declared.item.ItemForm.{ItemForm}
use Rattle.wb_syntax.specs.declared.item.ItemForm.TheVariants as f
use Rattle.wb_syntax.specs.declared.item.PlainForm.{PlainForm}
use Rattle.wb_syntax.specs.declared.item.PlainForm.TheVariants as i
use Rattle.wb_syntax.specs.declared.pattern.Role.{Role}
use Rattle.wb_syntax.specs.declared.pattern.WrittenPattern.{WrittenPattern}
use Rattle.wb_syntax.specs.declared.production.NamedKind.{NamedKind}
use Rattle.wb_syntax.specs.declared.production.ProductionRole.{ProductionRole}
use Rattle.wb_reader_builder.specs.declared.items.ItemAction.{ItemAction}
use Rattle.wb_reader_builder.specs.declared.builder.SpecBuilder.{SpecBuilder}
use Rattle.wb_reader_builder.specs.Builder.{with_start, on_top}

-- the place of a word is kept where it may begin an item, an equation or a read
abbrev pub word_shift : Word → ℕ → SpecBuilder → SpecBuilder
word_shift w.Abstract at v = with_start at v
word_shift w.Aspect at v = with_start at v
word_shift w.Closed at v = with_start at v
word_shift w.Concrete at v = with_start at v
word_shift w.Extensible at v = with_start at v
word_shift w.Forward at v = with_start at v
word_shift w.Forwards at v = with_start at v
word_shift w.Ignore at v = with_start at v
word_shift w.Inh at v = with_start at v
word_shift w.Local at v = with_start at v
word_shift w.Marking at v = with_start at v
word_shift w.Nonterminal at v = with_start at v
word_shift w.Occurs at v = with_start at v
word_shift w.Prefer at v = with_start at v
word_shift w.Start at v = with_start at v
word_shift w.Syn at v = with_start at v
word_shift w.Terminal at v = with_start at v
word_shift w.Top at v = with_start at v
word_shift word at v = v

-- the format of which this is the number, or 0 where it is of none that is known
abbrev pub format_of : ℤ → ℕ
format_of (pos n) = if n == 1 then 1 else if n == 2 then 2 else 0
format_of (negsuc n) = 0

-- the number of the format was read
abbrev pub with_begin : SpecBuilder → SpecBuilder
with_begin v = on_top v.integers v (λ value rest. record v { integers = rest; format = format_of value })

-- the specification has this name and this header
abbrev pub with_header : List ℕ → Header → SpecBuilder → SpecBuilder
with_header name header v = record v { name = name; header = header }

-- a header: the last name is the host's
abbrev pub with_host : SpecBuilder → SpecBuilder
with_host v = on_top v.names v (λ name rest. with_header name.bytes h.Host (record v { names = rest }))

-- a header: the name before the last is the extension's, and the last that of its host
abbrev pub with_extension : SpecBuilder → SpecBuilder
with_extension v = on_top v.names v (λ host names. on_top names (record v { names = names })
    (λ name rest. with_header name.bytes (h.Extension host.bytes) (record v { names = rest })))

-- the last place, and 0 where there is none
abbrev pub last_start : SpecBuilder → ℕ
last_start v = on_top v.starts 0 (λ at rest. at)

-- the parts without it
abbrev pub without_start : SpecBuilder → SpecBuilder
without_start v = on_top v.starts v (λ at rest. record v { starts = rest })

-- an item of this form, which began at the last place
abbrev pub with_item : ItemForm WrittenPattern → SpecBuilder → SpecBuilder
with_item form v =
    record (without_start v) { items = (without_start v).items ++ record { offset = last_start v; form = form } ∷ [] }

-- an item of the last name
abbrev pub with_named : (List ℕ → ItemForm WrittenPattern) → SpecBuilder → SpecBuilder
with_named form v = on_top v.names v (λ name rest. with_item (form name.bytes) (record v { names = rest }))

-- an item of the last two names
abbrev pub with_pair : (List ℕ → List ℕ → ItemForm WrittenPattern) → SpecBuilder → SpecBuilder
with_pair form v = on_top v.names v (λ second names. on_top names (record v { names = names })
    (λ first rest. with_item (form first.bytes second.bytes) (record v { names = rest })))

-- an item with the last regular expression and the last name
abbrev pub with_role : Role → SpecBuilder → SpecBuilder
with_role role v = on_top v.patterns v (λ pattern rest. with_named (λ name. f.Lexical role name pattern) (record v { patterns = rest }))

-- an attribute of the last name and the last kind
abbrev pub with_attribute : (List ℕ → NamedKind → PlainForm) → SpecBuilder → SpecBuilder
with_attribute form v = on_top v.kinds v (λ kind rest. with_named (λ name. f.Plain (form name kind)) (record v { kinds = rest }))

-- an occurrence of the attribute before the last name on the last, with the last flow type
abbrev pub with_occurs : SpecBuilder → SpecBuilder
with_occurs v = on_top v.needs v (λ needs rest.
    with_pair (λ attribute nonterminal. f.Plain (i.Occurs attribute nonterminal needs)) (record v { needs = rest }))

-- the last list of names is the flow type of what the productions of the last name forward to
abbrev pub with_forward_on : SpecBuilder → SpecBuilder
with_forward_on v = on_top v.lists v (λ needs rest. with_named (λ name. f.Plain (i.ForwardOn name needs)) (record v { lists = rest }))

-- children begin
abbrev pub with_children : SpecBuilder → SpecBuilder
with_children v = record v { children = [] ∷ v.children }

-- a production of the name before the last with the last on its left, and with the last children and equations
abbrev pub with_production : SpecBuilder → SpecBuilder
with_production v = on_top v.equations v (λ equations others. on_top v.children (record v { equations = others })
    (λ children rest. on_top v.names (record v { equations = others; children = rest })
    (λ left names. on_top names (record v { equations = others; children = rest; names = names })
    (λ name behind. record v {
      equations = others;
      children = rest;
      names = behind;
      productions = record
          { name = name.bytes; left = left.bytes; children = children; equations = equations } ∷ v.productions;
    }))))

-- an item with the last production
abbrev pub with_production_item : ProductionRole → SpecBuilder → SpecBuilder
with_production_item role v =
    on_top v.productions v (λ production rest. with_item (f.Production role production) (record v { productions = rest }))

-- further equations of the production of the last name
abbrev pub with_aspect : SpecBuilder → SpecBuilder
with_aspect v = on_top v.equations v (λ equations rest. with_named (λ name. f.Aspect name equations) (record v { equations = rest }))

-- what an action on headers, items and productions makes of the parts
abbrev pub item_act : ItemAction → SpecBuilder → SpecBuilder
item_act ItemAction.Begin v = with_begin v
item_act ItemAction.Host v = with_host v
item_act ItemAction.Extension v = with_extension v
item_act (ItemAction.Lexical role) v = with_role role v
item_act ItemAction.Prefer v = with_pair (λ first second. f.Plain (i.Prefer first second)) v
item_act ItemAction.Nonterminal v = with_named (λ name. f.Plain (i.Nonterminal name)) v
item_act ItemAction.Start v = with_named (λ name. f.Plain (i.Start name)) v
item_act ItemAction.Extensible v = with_named (λ name. f.Plain (i.Extensible name)) v
item_act ItemAction.Closed v = with_named (λ name. f.Plain (i.Closed name)) v
item_act ItemAction.Synthesized v = with_attribute (λ name kind. i.Synthesized name kind) v
item_act ItemAction.Inherited v = with_attribute (λ name kind. i.Inherited name kind) v
item_act ItemAction.Occurs v = with_occurs v
item_act ItemAction.ForwardOn v = with_forward_on v
item_act (ItemAction.ProductionItem role) v = with_production_item role v
item_act ItemAction.Aspect v = with_aspect v
item_act ItemAction.BeginChildren v = with_children v
item_act ItemAction.Production v = with_production v
