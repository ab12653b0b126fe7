use Rattle.std.proofs.Common.{◌≡◌, ◌++◌, ℕ, Contains, length, subst}
use Rattle.wb_names_theory.specs.Declarations.{nonterminals}
use Rattle.wb_names_numbers_theory.specs.Files.{grammar_names}
use Rattle.wb_names_symbols.specs.declared.nonterminals.Nonterminals.{Nonterminals}
use Rattle.wb_names_symbols.specs.Lent.{lent_file}
use Rattle.wb_names_symbols.specs.Inner.Nonterminals.{AddsApart, AddsJoined, IsDeclaredRow}
use Rattle.wb_names_symbols.proofs.JoinedLemmas.{ok_both}
use Rattle.wb_names_symbols.proofs.nonterminals.add_both.Goals as goal

pub returns : goal.returns
returns c =
    let items = c.args.file.now.items.now in
    let both = c.add_own.new.made in
    let all : Nonterminals = record { of_grammar = c.join.new.leading; others = c.join.new.following } in
    ok_both c.join.result (λ (count : ℕ). count ≡ length both.of_grammar.items)
    (λ (count : ℕ). all.of_grammar.items ≡ both.of_grammar.items ++ both.others.items)
    (λ (count : ℕ). AddsJoined (lent_file c.args.file.now) c.args.scope.now.attributes count c.args.made.now all)
    (λ count counted joined. record {
      both = both;
      adds = record {
        mid = c.add_base.new.made;
        base = c.in_ok-add_base.ensures;
        own = subst (λ (z : ℕ). AddsApart (Contains (grammar_names items)) (IsDeclaredRow z items c.args.scope.now.attributes)
            (nonterminals items) c.add_base.new.made c.add_own.new.made) c.requires.owner c.in_ok-add_own.ensures;
      };
      count_is = counted;
      joined = joined;
    })
    c.join.ensures.count c.join.ensures.joined
