-- What is beside a row of the base or a declaration is one, where no name is there twice.
use Rattle.std.proofs.Common.{◌≡◌, ◌++◌, ℕ, Bool, true, false, List, Some, map, slice_get, ap, sym, refl}
use Rattle.std.proofs.Common.{◌∙◌}
use Rattle.std.specs.Prelude.{◌↔◌, IsTrue, option_map}
use Rattle.std.proofs.lemmas.Option.{slice_get-map}
use Rattle.wb_lemmas.proofs.Places.{append_keeps}
use Rattle.wb_lemmas.proofs.Zips.{one_zip}
use Rattle.wb_base.specs.declared.symbol.Kind.{Kind}
use Rattle.wb_base.specs.declared.symbol.Kind.TheVariants as kind
use Rattle.wb_syntax_resolved.specs.declared.attributes.Attribute.{Attribute}
use Rattle.wb_syntax_resolved.specs.declared.attributes.Nonterminal.{Nonterminal}
use Rattle.wb_syntax_resolved.specs.declared.attributes.Occurrence.{Occurrence}
use Rattle.wb_syntax_resolved.specs.declared.equation.Equation.{Equation}
use Rattle.wb_syntax_resolved.specs.declared.equation.Place.{Place}
use Rattle.wb_syntax_resolved.specs.declared.equation.Place.TheVariants as place
use Rattle.wb_syntax_resolved.specs.declared.equation.Target.{Target}
use Rattle.wb_syntax_resolved.specs.declared.equation.Target.TheVariants as target
use Rattle.wb_syntax_resolved.specs.declared.production.Child.{Child}
use Rattle.wb_syntax_resolved.specs.declared.production.ChildKind.{ChildKind}
use Rattle.wb_syntax_resolved.specs.declared.production.ChildKind.TheVariants as child
use Rattle.wb_syntax_resolved.specs.declared.production.Forward.{Forward}
use Rattle.wb_syntax_resolved.specs.declared.production.Local.{Local}
use Rattle.wb_syntax_resolved.specs.declared.terminal.Preference.{Preference}
use Rattle.wb_syntax_resolved.specs.declared.terminal.Terminal.{Terminal}
use Rattle.wb_syntax_resolved.specs.Expression as by_number
use Rattle.wb_syntax_resolved.specs.Once.{Entry, NamesDiffer}
use Rattle.wb_syntax_resolved.specs.Owners.{Sees}
use Rattle.wb_syntax.specs.declared.expression.Equation as written
use Rattle.wb_syntax.specs.declared.expression.Target as is_for
use Rattle.wb_syntax.specs.declared.expression.Target.TheVariants as g
use Rattle.wb_syntax.specs.declared.production.Child as named
use Rattle.wb_syntax.specs.declared.production.NamedKind.{NamedKind}
use Rattle.wb_syntax.specs.declared.production.NamedKind.TheVariants as k
use Rattle.wb_syntax.specs.Expression as by_name
use Rattle.wb_names_theory.specs.Declarations.{Items, LexicalDeclaration, AttributeDeclaration, OccurrenceDeclaration}
use Rattle.wb_names_theory.specs.Declarations.{PreferenceDeclaration}
use Rattle.wb_names_numbers_theory.specs.Numbering.{Numbering, Labels, IsNumber, IsPlace}
use Rattle.wb_names_numbers_theory.specs.Renaming.{IsRenamedNode}
use Rattle.wb_names_numbers_theory.specs.Written.{IsWrittenKind, IsWrittenTerminal, IsWrittenChildKind, IsWrittenChild, IsWrittenTarget}
use Rattle.wb_names_numbers_theory.specs.Written.{IsWrittenEquation, IsWrittenLocal, IsWrittenLocalTarget, IsWrittenForward}
use Rattle.wb_names_numbers_theory.specs.Written.{AreWrittenNodes}
use Rattle.wb_names_numbers_theory.specs.Rows.{IsTerminalRow, IsNonterminalRow, IsAttributeRow, IsOccurrenceRow, IsPreferenceRow}
use Rattle.wb_names_numbers_theory.proofs.NumberLemmas.{one_number, differ_left, differ_right, not_in_both}
use Rattle.wb_names_numbers_theory.proofs.RenamingLemmas.{one_node}

-- no name of a numbering is there twice where one owner sees it
pub record AreDistinct (n : Numbering) : Type 0 where
  pub symbols : NamesDiffer (n.terminals ++ (n.nonterminals ++ n.productions))
  pub attributes : NamesDiffer n.attributes

-- no label is, and this owner sees the production, which is another's or its own
pub record LabelsDiffer (labels : Labels) (producer owner : ℕ) : Type 0 where
  pub differ : NamesDiffer (map (λ (l : List ℕ). (producer, l)) labels.children ++ labels.locals)
  pub sees : Sees owner producer

-- records are the same where their parts are
pub same_terminal : (y z : Terminal) → y.name ≡ z.name → y.owner ≡ z.owner → y.kind ≡ z.kind → y.pattern ≡ z.pattern → y ≡ z
same_terminal y z a b c d = λ j. record { name = a j; owner = b j; kind = c j; pattern = d j }

pub same_nonterminal : (y z : Nonterminal) → y.name ≡ z.name → y.owner ≡ z.owner → y.closed ≡ z.closed
    → y.forward_needs ≡ z.forward_needs → y ≡ z
same_nonterminal y z a b c d = λ j. record { name = a j; owner = b j; closed = c j; forward_needs = d j }

-- truth values that tell the same are one
pub same_truth : {P : Type 0} (a b : Bool) → IsTrue a ↔ P → IsTrue b ↔ P → a ≡ b
same_truth true true f g = refl
same_truth true false f g = absurd (cc (g.1 (f.0 refl)))
same_truth false true f g = absurd (cc (f.1 (g.0 refl)))
same_truth false false f g = refl

pub same_attribute : (y z : Attribute) → y.name ≡ z.name → y.owner ≡ z.owner → y.direction ≡ z.direction → y.kind ≡ z.kind → y ≡ z
same_attribute y z a b c d = λ j. record { name = a j; owner = b j; direction = c j; kind = d j }

pub same_occurrence : (y z : Occurrence) → y.owner ≡ z.owner → y.attribute ≡ z.attribute → y.nonterminal ≡ z.nonterminal → y.needs ≡ z.needs
    → y ≡ z
same_occurrence y z a b c d = λ j. record { owner = a j; attribute = b j; nonterminal = c j; needs = d j }

pub same_preference : (y z : Preference) → y.first ≡ z.first → y.second ≡ z.second → y ≡ z
same_preference y z a b = λ j. record { first = a j; second = b j }

pub same_child : (y z : Child) → y.label ≡ z.label → y.kind ≡ z.kind → y ≡ z
same_child y z a b = λ j. record { label = a j; kind = b j }

pub same_equation : (y z : Equation) → y.owner ≡ z.owner → y.offset ≡ z.offset → y.target ≡ z.target → y.nodes ≡ z.nodes → y ≡ z
same_equation y z a b c d = λ j. record { owner = a j; offset = b j; target = c j; nodes = d j }

pub same_local : (y z : Local) → y.label ≡ z.label → y.owner ≡ z.owner → y.offset ≡ z.offset → y.nonterminal ≡ z.nonterminal
    → y.nodes ≡ z.nodes → y ≡ z
same_local y z a b c d e = λ j. record { label = a j; owner = b j; offset = c j; nonterminal = d j; nodes = e j }

pub same_forward : (y z : Forward) → y.offset ≡ z.offset → y.nodes ≡ z.nodes → y ≡ z
same_forward y z a b = λ j. record { offset = a j; nodes = b j }

-- numbers of one name
module _ (n : Numbering) (distinct : AreDistinct n) where
  pub terminals_differ : NamesDiffer n.terminals
  terminals_differ = differ_left n.terminals (n.nonterminals ++ n.productions) distinct.symbols

  pub others_differ : NamesDiffer (n.nonterminals ++ n.productions)
  others_differ = differ_right n.terminals (n.nonterminals ++ n.productions) distinct.symbols

  pub nonterminals_differ : NamesDiffer n.nonterminals
  nonterminals_differ = differ_left n.nonterminals n.productions others_differ

  pub productions_differ : NamesDiffer n.productions
  productions_differ = differ_right n.nonterminals n.productions others_differ

  -- a terminal isn't a nonterminal
  pub not_both : (owner : ℕ) (name : List ℕ) (k j : ℕ) → IsNumber n.terminals owner name k → IsNumber n.nonterminals owner name j → ⊥
  not_both owner name k j x y = not_in_both n.terminals (n.nonterminals ++ n.productions) distinct.symbols owner name k j x
      (record { other = y.other; is = append_keeps n.nonterminals n.productions j (y.other, name) y.is; seen = y.seen })

  module _ (owner : ℕ) where
    one_written_kind : (named : NamedKind) (x y : Kind) → IsWrittenKind n owner named x → IsWrittenKind n owner named y → x ≡ y
    one_written_kind k.Int x y e f = e ∙ sym f
    one_written_kind k.Bool x y e f = e ∙ sym f
    one_written_kind k.Text x y e f = e ∙ sym f
    one_written_kind (k.Name name) x y e f =
        e.2 ∙ (ap kind.Tree (one_number n.nonterminals nonterminals_differ owner name e.0 f.0 e.1 f.1) ∙ sym f.2)

    one_written_terminal : (named : NamedKind) (x y : ℕ) → IsWrittenTerminal n owner named x → IsWrittenTerminal n owner named y → x ≡ y
    one_written_terminal k.Int x y e f = absurd e
    one_written_terminal k.Bool x y e f = absurd e
    one_written_terminal k.Text x y e f = absurd e
    one_written_terminal (k.Name name) x y e f = one_number n.terminals terminals_differ owner name x y e f

    not_written_both : (named : NamedKind) (x : ℕ) (y : Kind) → IsWrittenTerminal n owner named x → IsWrittenKind n owner named y → ⊥
    not_written_both k.Int x y e f = e
    not_written_both k.Bool x y e f = e
    not_written_both k.Text x y e f = e
    not_written_both (k.Name name) x y e f = not_both owner name x f.0 e f.1

    one_written_child_kind : (named : NamedKind) (x y : ChildKind) → IsWrittenChildKind n owner named x
        → IsWrittenChildKind n owner named y → x ≡ y
    one_written_child_kind named (child.Terminal x) (child.Terminal y) e f = ap child.Terminal (one_written_terminal named x y e f)
    one_written_child_kind named (child.Terminal x) (child.Value y) e f = absurd (not_written_both named x y e f)
    one_written_child_kind named (child.Value x) (child.Terminal y) e f = absurd (not_written_both named y x f e)
    one_written_child_kind named (child.Value x) (child.Value y) e f = ap child.Value (one_written_kind named x y e f)

    pub one_written_child : (c : named.Child) (y z : Child) → IsWrittenChild n owner c y → IsWrittenChild n owner c z → y ≡ z
    one_written_child c y z e f =
        same_child y z (e.label ∙ sym f.label) (one_written_child_kind c.kind y.kind z.kind e.is_kind f.is_kind)

    pub one_terminal_row : (items : Items) (d : LexicalDeclaration) (y z : Terminal) → IsTerminalRow n owner items d y
        → IsTerminalRow n owner items d z → y ≡ z
    one_terminal_row items d y z e f =
        same_terminal y z (e.name ∙ sym f.name) (e.owner_is ∙ sym f.owner_is) (e.kind ∙ sym f.kind) (e.pattern ∙ sym f.pattern)

    pub one_nonterminal_row : (items : Items) (name : List ℕ) (y z : Nonterminal) → IsNonterminalRow n owner items name y
        → IsNonterminalRow n owner items name z → y ≡ z
    one_nonterminal_row items name y z e f =
        same_nonterminal y z (e.name_is ∙ sym f.name_is) (e.owner_is ∙ sym f.owner_is) (same_truth y.closed z.closed e.closed f.closed)
        (one_zip (IsNumber n.attributes owner) (λ a. one_number n.attributes distinct.attributes owner a) _ y.forward_needs z.forward_needs
        e.needs f.needs)

    pub one_attribute_row : (items : Items) (d : AttributeDeclaration) (y z : Attribute) → IsAttributeRow n owner items d y
        → IsAttributeRow n owner items d z → y ≡ z
    one_attribute_row items d y z e f =
        same_attribute y z (e.name ∙ sym f.name) (e.owner_is ∙ sym f.owner_is) (e.direction ∙ sym f.direction)
        (one_written_kind d.kind y.kind z.kind e.is_kind f.is_kind)

    pub one_occurrence_row : (items : Items) (d : OccurrenceDeclaration) (y z : Occurrence) → IsOccurrenceRow n owner items d y
        → IsOccurrenceRow n owner items d z → y ≡ z
    one_occurrence_row items d y z e f =
        same_occurrence y z (e.owner_is ∙ sym f.owner_is)
        (one_number n.attributes distinct.attributes owner d.attribute y.attribute z.attribute e.attribute f.attribute)
        (one_number n.nonterminals nonterminals_differ owner d.nonterminal y.nonterminal z.nonterminal e.nonterminal f.nonterminal)
        (one_zip (IsNumber n.attributes owner) (λ a. one_number n.attributes distinct.attributes owner a) _ y.needs z.needs e.needs f.needs)

    pub one_preference_row : (items : Items) (d : PreferenceDeclaration) (y z : Preference) → IsPreferenceRow n owner items d y
        → IsPreferenceRow n owner items d z → y ≡ z
    one_preference_row items d y z e f =
        same_preference y z (one_number n.terminals terminals_differ owner d.first y.first z.first e.first f.first)
        (one_number n.terminals terminals_differ owner d.second y.second z.second e.second f.second)

    pub one_nonterminal_number : (name : List ℕ) (k j : ℕ) → IsNumber n.nonterminals owner name k → IsNumber n.nonterminals owner name j
        → k ≡ j
    one_nonterminal_number name = one_number n.nonterminals nonterminals_differ owner name

    -- on a production with these labels
    module _ (labels : Labels) (producer : ℕ) (differ : LabelsDiffer labels producer owner) where
      abbrev entry_of : List ℕ → Entry
      entry_of l = (producer, l)

      -- a label of a child, as a number of all labels
      child_number : (label : List ℕ) (k : ℕ) → slice_get labels.children k ≡ Some label
          → IsNumber (map entry_of labels.children ++ labels.locals) owner label k
      child_number label k at = record {
        other = producer;
        is = append_keeps (map entry_of labels.children) labels.locals k (producer, label)
            (slice_get-map entry_of labels.children k ∙ ap (option_map entry_of) at);
        seen = differ.sees;
      }

      -- a child has no local's label
      apart : (label : List ℕ) (k j : ℕ) → slice_get labels.children k ≡ Some label → IsNumber labels.locals owner label j → ⊥
      apart label k j at f = not_in_both (map entry_of labels.children) labels.locals differ.differ owner label k j (record {
        other = producer;
        is = slice_get-map entry_of labels.children k ∙ ap (option_map entry_of) at;
        seen = differ.sees;
      }) f

      -- a label names one place
      pub one_place : (label : List ℕ) (x y : Place) → IsPlace labels owner label x → IsPlace labels owner label y → x ≡ y
      one_place label (place.Child k) (place.Child j) e f =
          ap place.Child (one_number (map entry_of labels.children ++ labels.locals) differ.differ owner label k j (child_number label k e)
          (child_number label j f))
      one_place label (place.Child k) (place.Local j) e f = absurd (apart label k j e f)
      one_place label (place.Local k) (place.Child j) e f = absurd (apart label j k f e)
      one_place label (place.Local k) (place.Local j) e f =
          ap place.Local (one_number labels.locals (differ_right (map entry_of labels.children) labels.locals differ.differ) owner label k j
          e f)

      one_written_nodes : (nodes : List by_name.Node) (xs ys : List by_number.Node) → AreWrittenNodes n owner labels nodes xs
          → AreWrittenNodes n owner labels nodes ys → xs ≡ ys
      one_written_nodes nodes xs ys e f =
          one_zip (IsRenamedNode (IsPlace labels owner) (IsNumber n.attributes owner) (IsNumber n.productions owner))
          (one_node (IsPlace labels owner) (IsNumber n.attributes owner) (IsNumber n.productions owner) one_place
          (λ a. one_number n.attributes distinct.attributes owner a) (λ p. one_number n.productions productions_differ owner p)) nodes xs ys
          e f

      one_written_target : (from : is_for.Target) (x y : Target) → IsWrittenTarget n owner labels from x
          → IsWrittenTarget n owner labels from y → x ≡ y
      one_written_target (g.Top attribute) x y e f =
          e.2 ∙ (ap target.Top (one_number n.attributes distinct.attributes owner attribute e.0 f.0 e.1 f.1) ∙ sym f.2)
      one_written_target (g.Label label attribute) x y e f =
          e.4 ∙ (ap (λ at. target.Place at e.1) (one_place label e.0 f.0 e.2 f.2)
          ∙ (ap (λ k. target.Place f.0 k) (one_number n.attributes distinct.attributes owner attribute e.1 f.1 e.3 f.3) ∙ sym f.4))
      one_written_target (g.Forward attribute) x y e f =
          e.2 ∙ (ap target.Forward (one_number n.attributes distinct.attributes owner attribute e.0 f.0 e.1 f.1) ∙ sym f.2)
      one_written_target (g.Local label nonterminal) x y e f = absurd e
      one_written_target g.ForwardsTo x y e f = absurd e

      pub one_written_equation : (w : written.Equation) (y z : Equation) → IsWrittenEquation n owner labels w y
          → IsWrittenEquation n owner labels w z → y ≡ z
      one_written_equation w y z e f =
          same_equation y z (e.owner_is ∙ sym f.owner_is) (e.offset ∙ sym f.offset)
          (one_written_target w.target y.target z.target e.target f.target) (one_written_nodes w.nodes y.nodes z.nodes e.nodes f.nodes)

      one_local_target : (from : is_for.Target) (l r : List ℕ) (x y : ℕ) → IsWrittenLocalTarget n owner from l x
          → IsWrittenLocalTarget n owner from r y → (l ≡ r) × (x ≡ y)
      one_local_target (g.Local label nonterminal) l r x y e f =
          (e.0 ∙ sym f.0, one_number n.nonterminals nonterminals_differ owner nonterminal x y e.1 f.1)
      one_local_target (g.Top attribute) l r x y e f = absurd e
      one_local_target (g.Label label attribute) l r x y e f = absurd e
      one_local_target (g.Forward attribute) l r x y e f = absurd e
      one_local_target g.ForwardsTo l r x y e f = absurd e

      pub one_written_local : (w : written.Equation) (y z : Local) → IsWrittenLocal n owner labels w y → IsWrittenLocal n owner labels w z
          → y ≡ z
      one_written_local w y z e f =
          let t = one_local_target w.target y.label z.label y.nonterminal z.nonterminal e.target f.target in
          same_local y z t.0 (e.owner_is ∙ sym f.owner_is) (e.offset ∙ sym f.offset) t.1
          (one_written_nodes w.nodes y.nodes z.nodes e.nodes f.nodes)

      pub one_written_forward : (w : written.Equation) (y z : Forward) → IsWrittenForward n owner labels w y
          → IsWrittenForward n owner labels w z → y ≡ z
      one_written_forward w y z e f =
          same_forward y z (e.offset ∙ sym f.offset) (one_written_nodes w.nodes y.nodes z.nodes e.nodes f.nodes)
