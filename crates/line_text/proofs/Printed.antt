-- What the definitions give: the text of document 01 for K's example 1, a refusal, and the shortest and the longest number.
-- Assumes nothing.
use mathlib.Core.Path.{◌≡◌, refl}
use mathlib.Core.List.{[], ◌∷◌}
use Rattle.line_text.specs.Ascii.{ascii}
use Rattle.line_text.specs.Text.{digits_of, decimal, spaced, labelled, checkpoint_numbers, first_lines, found_text, refused_text}

pub example_one : found_text 3 (record { 0 = 1 } ∷ record { 0 = 2 } ∷ record { 0 = 2 } ∷ record { 0 = 0 } ∷ []) 1 2 10
    ≡ ascii "processes 3\nline 1 2 2\npassed 1\nrounds 2\nmessages 10\n"
unfolding digits_of decimal spaced labelled checkpoint_numbers first_lines found_text
example_one = refl

pub empty_book : refused_text 3 ≡ ascii "refused 3\n"
unfolding digits_of decimal spaced labelled refused_text
empty_book = refl

pub zero_shown : decimal 0 ≡ ascii "0"
unfolding digits_of decimal
zero_shown = refl

pub largest_shown : decimal 18446744073709551615 ≡ ascii "18446744073709551615"
unfolding digits_of decimal
largest_shown = refl
