use Rattle.std.proofs.Common.{◌≡◌, ◌<◌, ◌^◌, length, arith, rules}
use Rattle.wb_recheck_text.specs.Text.{certificate_text}
use Rattle.wb_recheck.proofs.SmallLemmas.{AreCountsSmall, entries_small, lines_small}
use Rattle.wb_recheck.proofs.text.printed.Goals as goal

pub returns-in-Ok : goal.returns-in-Ok
returns-in-Ok c =
    let g = c.args.grammar.now in
    let is = c.args.certificate.now in
    let written : c.print_certificate.new.out.items ≡ certificate_text is = search rules in
    let terminals : g.terminals < 2 ^ 64 = omega (arith, c.terminals-terminals.ensures, c.terminals-terminals) in
    let nonterminals : g.nonterminals < 2 ^ 64 = omega (arith, c.nonterminals-nonterminals.ensures, c.nonterminals-nonterminals) in
    let productions : length g.productions < 2 ^ 64 = omega (arith, c.productions-productions.ensures.count, c.productions-productions) in
    let lines : length is.lines < 2 ^ 64 = search rules in
    let entries : length is.entries < 2 ^ 64 = search rules in
    let small : AreCountsSmall g is.lines is.entries = record {
      ok = c.productions-productions.ensures.in_range;
      terminals = terminals;
      nonterminals = nonterminals;
      productions = productions;
      lines = lines;
      entries = entries;
    } in
    record {
      writable = record {
        names = c.requires.names;
        lines = lines_small small c.requires.written.certificate;
        entries = entries_small small c.requires.written.certificate c.requires.dots;
      };
      is = written;
    }
