-- What each row or item adds to the names of a sort, what it says of a forward, and what it closes.
use Rattle.std.specs.Prelude.{ℕ, Bool, true, false, not, List, [], ◌∷◌, option_to_list}
use Rattle.wb_syntax_resolved.specs.declared.production.Production.{Production}
use Rattle.wb_syntax_resolved.specs.declared.production.ProductionRole.{ProductionRole}
use Rattle.wb_syntax_resolved.specs.declared.production.ProductionRole.TheVariants.{Concrete, Abstract}
use Rattle.wb_syntax.specs.declared.item.ItemForm.{ItemForm}
use Rattle.wb_syntax.specs.declared.item.ItemForm.TheVariants as f
use Rattle.wb_syntax.specs.declared.item.PlainForm.{PlainForm}
use Rattle.wb_syntax.specs.declared.item.PlainForm.TheVariants as i
use Rattle.wb_syntax.specs.declared.pattern.Pattern.{Pattern}
use Rattle.wb_names_theory.specs.Declarations.{closed_of}
use Rattle.wb_names_numbers_theory.specs.Rows.{production_role}

-- the attribute that an item declares
abbrev pub plain_attributes : PlainForm → List (List ℕ)
plain_attributes (i.Synthesized name kind) = name ∷ []
plain_attributes (i.Inherited name kind) = name ∷ []
plain_attributes other = []

abbrev pub form_attributes : ItemForm Pattern → List (List ℕ)
form_attributes (f.Plain plain) = plain_attributes plain
form_attributes (f.Lexical role name pattern) = []
form_attributes (f.Production role production) = []
form_attributes (f.Aspect name equations) = []

-- the role is the one that is wanted: concrete, or abstract
abbrev pub has_role : Bool → ProductionRole → Bool
has_role concrete Concrete = concrete
has_role concrete Abstract = not concrete

-- a name, where it is wanted
abbrev pub wanted_name : Bool → List ℕ → List (List ℕ)
wanted_name true name = name ∷ []
wanted_name false name = []

-- the name of a production, where its role is the one that is wanted
abbrev pub row_names : Bool → Production → List (List ℕ)
row_names concrete p = wanted_name (has_role concrete p.role) p.name

abbrev pub form_productions : Bool → ItemForm Pattern → List (List ℕ)
form_productions concrete (f.Production role p) = wanted_name (has_role concrete (production_role role)) p.name
form_productions concrete (f.Plain plain) = []
form_productions concrete (f.Lexical role name pattern) = []
form_productions concrete (f.Aspect name equations) = []

-- the nonterminal of whose forward an item says what it may need, and no bytes for any other item
abbrev pub plain_forwarder : PlainForm → List ℕ
plain_forwarder (i.ForwardOn nonterminal needs) = nonterminal
plain_forwarder other = []

abbrev pub form_forwarder : ItemForm Pattern → List ℕ
form_forwarder (f.Plain plain) = plain_forwarder plain
form_forwarder (f.Lexical role name pattern) = []
form_forwarder (f.Production role production) = []
form_forwarder (f.Aspect name equations) = []

-- what it may need
abbrev pub plain_needs : PlainForm → List (List ℕ)
plain_needs (i.ForwardOn nonterminal needs) = needs
plain_needs other = []

abbrev pub form_needs : ItemForm Pattern → List (List ℕ)
form_needs (f.Plain plain) = plain_needs plain
form_needs (f.Lexical role name pattern) = []
form_needs (f.Production role production) = []
form_needs (f.Aspect name equations) = []

-- the nonterminal that an item closes
abbrev pub form_closeds : ItemForm Pattern → List (List ℕ)
form_closeds (f.Plain plain) = option_to_list (closed_of plain)
form_closeds (f.Lexical role name pattern) = []
form_closeds (f.Production role production) = []
form_closeds (f.Aspect name equations) = []
