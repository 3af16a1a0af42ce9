-- `line_text` meets its contract: by what the search of the book says.
use mathlib.Core.Path.{◌≡◌, ap, subst, ◌∙◌}
use mathlib.Core.List.{List}
use Prim.Native.Nat.{ℕ}
use lib.ListN.{take}
use Rattle.std.specs.Prelude.{Result}
use Rattle.book.specs.declared.Question.{Question}
use Rattle.line_text.specs.declared.growing.Text.{Text}
use Rattle.line_text.specs.Parts.{Holds, Says}
use Rattle.line_text.specs.Put.{put_answer, text_put}
use Rattle.line_text.specs.Line.{line_text}
use Rattle.line_text.specs.Text.{refused_text}
use Rattle.line_text.proofs.line_text.Goals as goal

pub returns-in-Ok : goal.returns-in-Ok
returns-in-Ok c =
    let a = c.args in
    let put = c.put_text in
    let text : Holds c.in-Ok.found (line_text a.bytes.now) =
    subst (λ (r : Result Text Question). Says r (line_text a.bytes.now)) c.in-Ok.is c.search_text.ensures in
    record {
      answer = put.ensures.answer ∙ ap (λ (t : List ℕ). put_answer t a.out.now) text.first;
      bytes = put.ensures.bytes ∙ ap (λ (t : List ℕ). text_put t a.out.now) text.first;
    }

pub returns-in-Err : goal.returns-in-Err
returns-in-Err c =
    let a = c.args in
    let put = c.put_text-in-Err in
    let e : take c.refused_text.result.len c.refused_text.result.bytes ≡ line_text a.bytes.now =
    c.refused_text.ensures.first ∙ ap (λ (q : ℕ). refused_text q) c.number.ensures ∙ subst (λ (r : Result Text Question). Says r (line_text a.bytes.now)) c.in-Err.is c.search_text.ensures in
    record {
      answer = put.ensures.answer ∙ ap (λ (t : List ℕ). put_answer t a.out.now) e;
      bytes = put.ensures.bytes ∙ ap (λ (t : List ℕ). text_put t a.out.now) e;
    }
