-- Document 01, "Questions put in turn": the first "no" is the answer, by number. 0 stands for "no question fails".
use Rattle.std.specs.Prelude.{Bool, true, false, ℕ, zero, suc, Result, Ok, Err}

infixr 10 ◌then◌
-- the question that fails first; `later` is a function, so that it is computed only where no earlier question fails
abbrev pub ◌then◌ : ℕ → (Unit {0} → ℕ) → ℕ
zero then later = later tt
suc question then later = suc question

-- one question, by its number, and whether the answer to it is yes
abbrev pub ask : ℕ → Bool → ℕ
ask question true = 0
ask question false = question

-- "a refusal returns only that number": what a call answers where no question fails, and else the number of the one that does
unfoldable pub answer_with : {A : Type 0} → ℕ → A → Result A ℕ
answer_with zero value = Ok value
answer_with (suc question) value = Err (suc question)

-- where there is nothing to answer beside
abbrev pub answer_to : ℕ → Result (Unit {0}) ℕ
answer_to question = answer_with question tt

-- "and changes nothing": what stood there before where a question fails, and else what the call puts there
abbrev pub unless_refused : {A : Type 0} → ℕ → A → A → A
unless_refused zero before result = result
unless_refused (suc question) before result = before
