use Rattle.std.proofs.Common.{◌≡◌, ◌∙◌, ◌++◌, OnOk, Result, Ok, Err, ap, map}
use Rattle.wb_syntax_resolved.specs.Numbered.{signature_of}
use Rattle.wb_compose_attributes.specs.Inner.Gathered.{names_in}
use Rattle.wb_compose_attributes.proofs.lists.add_all.Goals as goal

-- what follows of a success
on_ok : {X E : Type 0} (r : Result X E) {P Q : Type 0} → OnOk r P → (P → Q) → OnOk r Q
on_ok (Ok x) known so = so known
on_ok (Err e) known so = tt

pub returns : goal.returns
returns c =
    let placed = c.args.placed.now in
    let rows = c.in_ok-add_following.ensures in
    on_ok c.add_names.result c.add_names.ensures (λ named.
    (let names : c.add_names.new.made.items ≡ names_in placed = named ∙ ap (λ z. z ++ names_in placed) rows.extensions in
    λ j. record {
      extensions = names j;
      nonterminals = rows.nonterminals j;
      attributes = rows.attributes j;
      occurrences = rows.occurrences j;
      productions = rows.productions j;
      signatures = map (signature_of (names j)) (rows.productions j);
    }))
