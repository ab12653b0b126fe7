use Rattle.std.proofs.Common.{◌∙◌, ◌∷◌, [], List, ℕ, ℤ, w64, refl, sym, ap, subst, rules}
use Rattle.std.specs.Prelude.{FitsSigned}
use Rattle.std.proofs.lemmas.Int.{to_z-of_z}
use Rattle.std.proofs.lemmas.Result.{on_ok_weaker}
use Rattle.wb_text_tokens.specs.declared.token.Token.TheVariants as t
use Rattle.wb_text_tokens.specs.declared.punctuation.Punctuation.TheVariants as p
use Rattle.wb_syntax_expressions.specs.declared.node.Node.TheVariants as n
use Rattle.wb_syntax_expressions.specs.Expression.{Int, Text, Truth, Label, Read, Lexeme, Top, Forward}
use Rattle.wb_text_tokens.specs.declared.word.Word.TheVariants as w
use Rattle.wb_reader_printer.specs.Inner.ExpressionTokens.{dotted}
use Rattle.wb_reader_printer.specs.Inner.Output.{Output, put, after}
use Rattle.wb_syntax_expressions.specs.Places.{AllStand}
use Rattle.wb_reader_printer.proofs.WalkLemmas.{leaf_of, build_put, call_put, if_put}
use Rattle.wb_reader_printer.proofs.expressions.visit.Goals as goal

pub returns-in-Int : goal.returns-in-Int
returns-in-Int c =
    let fits : FitsSigned w64 c.in-Int.value = search rules in
    on_ok_weaker c.int.result
    (λ puts nodes at h. leaf_of nodes at c.args.stack.now c.args.line.now _ (n.Int c.in-Int.value) (Int c.in-Int.value) (λ f q. q) refl
    (puts ∙ ap (λ (z : ℤ). put c.args.line.now (t.Int z)) (to_z-of_z w64 c.in-Int.value fits)) c.args.node.now c.in-Int.is h) c.int.ensures

pub returns-in-Text : goal.returns-in-Text
returns-in-Text c = on_ok_weaker c.string.result
    (λ puts nodes at h. leaf_of nodes at c.args.stack.now c.args.line.now _ (n.Text c.in-Text.text) (Text c.in-Text.text) (λ f q. q) refl
    (puts ∙ ap (λ (l : List ℕ). put c.args.line.now (t.Text l)) c.as_slice.ensures) c.args.node.now c.in-Text.is h) c.string.ensures

pub returns-in-Bool : goal.returns-in-Bool
returns-in-Bool c = on_ok_weaker c.write_truth.result
    (λ puts nodes at h. leaf_of nodes at c.args.stack.now c.args.line.now _ (n.Bool c.in-Bool.truth) (Truth c.in-Bool.truth) (λ f q. q) refl
    puts c.args.node.now c.in-Bool.is h) c.write_truth.ensures

pub returns-in-Label : goal.returns-in-Label
returns-in-Label c = on_ok_weaker c.name.result
    (λ puts nodes at h. leaf_of nodes at c.args.stack.now c.args.line.now _ (n.Label c.in-Label.label) (Label c.in-Label.label)
    (λ f q. q) refl
    (puts ∙ ap (λ (l : List ℕ). put c.args.line.now (t.Name l)) c.as_slice-in-Label.ensures) c.args.node.now c.in-Label.is h) c.name.ensures

pub returns-in-Read : goal.returns-in-Read
returns-in-Read c = on_ok_weaker c.write_read.result
    (λ puts nodes at h. leaf_of nodes at c.args.stack.now c.args.line.now _ (n.Read c.in-Read.label c.in-Read.attribute)
    (Read c.in-Read.label c.in-Read.attribute) (λ f q. q) refl
    (puts ∙ (ap
    (λ (l : List ℕ). after c.args.line.now (dotted (t.Name l) (t.Name c.as_slice-in-Read-2.result.now))) c.as_slice-in-Read.ensures
    ∙ ap (λ (l : List ℕ). after c.args.line.now
    (dotted (t.Name c.in-Read.label) (t.Name l))) c.as_slice-in-Read-2.ensures)) c.args.node.now c.in-Read.is h) c.write_read.ensures

pub returns-in-Lexeme : goal.returns-in-Lexeme
returns-in-Lexeme c = on_ok_weaker c.write_lexeme.result
    (λ puts nodes at h. leaf_of nodes at c.args.stack.now c.args.line.now _ (n.Lexeme c.in-Lexeme.label) (Lexeme c.in-Lexeme.label)
    (λ f q. q) refl
    (puts ∙ ap
    (λ (l : List ℕ). after c.args.line.now
    (dotted (t.Name l) (t.Word w.Lexeme))) c.as_slice-in-Lexeme.ensures) c.args.node.now c.in-Lexeme.is h) c.write_lexeme.ensures

pub returns-in-Top : goal.returns-in-Top
returns-in-Top c = on_ok_weaker c.write_attribute.result
    (λ puts nodes at h. leaf_of nodes at c.args.stack.now c.args.line.now _ (n.Top c.in-Top.attribute) (Top c.in-Top.attribute)
    (λ f q. q) refl
    (puts ∙ ap
    (λ (l : List ℕ). after c.args.line.now
    (dotted (t.Word w.Top) (t.Name l))) c.as_slice-in-Top.ensures) c.args.node.now c.in-Top.is h) c.write_attribute.ensures

pub returns-in-Forward : goal.returns-in-Forward
returns-in-Forward c = on_ok_weaker c.write_attribute-in-Forward.result
    (λ puts nodes at h. leaf_of nodes at c.args.stack.now c.args.line.now _ (n.Forward c.in-Forward.attribute)
    (Forward c.in-Forward.attribute) (λ f q. q) refl
    (puts ∙ ap
    (λ (l : List ℕ). after c.args.line.now
    (dotted (t.Word w.Forward) (t.Name l))) c.as_slice-in-Forward.ensures) c.args.node.now c.in-Forward.is h)
    c.write_attribute-in-Forward.ensures

pub returns-in-Build : goal.returns-in-Build
returns-in-Build c = on_ok_weaker c.begin_arguments.result
    (λ puts nodes at h.
    build_put nodes at c.in-Build.production c.in-Build.children _ c.args.stack.now _ c.args.line.now _ c.args.node.now c.in-Build.is puts.1
    (λ es all. (es, subst (λ (l : List ℕ). AllStand nodes l es) (sym c.as_slice-in-Build-2.ensures) all, refl, refl))
    (puts.0 ∙ ap (λ (l : List ℕ). after c.args.line.now (t.Name l ∷ t.Punctuation p.OpenParenthesis
    ∷ [])) c.as_slice-in-Build.ensures) h) c.begin_arguments.ensures

pub returns-in_ok-mark-in-Call : goal.returns-in_ok-mark-in-Call
returns-in_ok-mark-in-Call c = on_ok_weaker c.begin_arguments-in-Call.result
    (λ puts nodes at h.
    call_put nodes at c.in-Call.operation c.in-Call.arguments _ c.args.stack.now _ c.args.line.now _ c.args.node.now c.in-Call.is puts.1
    (λ es all. (es, subst (λ (l : List ℕ). AllStand nodes l es) (sym c.as_slice-in-Call-2.ensures) all, refl, refl))
    (puts.0 ∙ (ap (λ (l : List ℕ). after c.mark.new.self (t.Name l ∷ t.Punctuation p.OpenParenthesis ∷ [])) c.as_slice-in-Call.ensures
    ∙ ap (λ (o : Output). after o (t.Name c.in-Call.operation ∷ t.Punctuation p.OpenParenthesis
    ∷ [])) c.in_ok-mark-in-Call.ensures)) h) c.begin_arguments-in-Call.ensures

pub returns-in-If : goal.returns-in-If
returns-in-If c = on_ok_weaker c.begin_if.result
    (λ puts nodes at h.
    if_put nodes at c.in-If.condition c.in-If.holds c.in-If.fails c.args.stack.now _ c.args.line.now _ c.args.node.now c.in-If.is puts.1
    puts.0 h) c.begin_if.ensures
