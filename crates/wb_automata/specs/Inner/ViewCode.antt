-- A code of automata's views, by which a proof tells two of them apart: the model of an automaton asks for it.
use Rattle.std.specs.Prelude.{ℕ, List, Bool, refl}
use Rattle.std.specs.Coded.{Coded, code_by, coded×, coded_list, coded_ℕ, coded_bool}
use Rattle.wb_regex.specs.Tree.{Tree}
use Rattle.wb_regex.specs.Inner.TreeCode.{coded_tree}
use Rattle.wb_automata.specs.Automata.{AutomatonView, Path}

abbrev coded_path : Coded Path
coded_path = code_by (ℕ × List ℕ) (coded× coded_ℕ (coded_list coded_ℕ)) (λ p. (p.set, p.text)) (λ p. record { set = p.0; text = p.1 })
    (λ _. refl)

abbrev pub coded_automaton : Coded AutomatonView
coded_automaton = code_by (List Tree × (List (List Bool) × List Path))
    (coded× (coded_list coded_tree) (coded× (coded_list (coded_list coded_bool)) (coded_list coded_path)))
    (λ a. (a.terminals, (a.sets, a.paths))) (λ p. record { terminals = p.0; sets = p.1.0; paths = p.1.1 }) (λ _. refl)
