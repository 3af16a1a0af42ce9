-- Document 01, "Program `line`": it "reads a book .., runs purpose 3 from process 1, lowest waiting strand first", and prints the
-- line; "a refused book prints one line".
use Rattle.std.specs.Prelude.{List, ℕ, zero, suc, replicate}
use Rattle.book.specs.Lent.{Tables}
use Rattle.book.specs.declared.Process.{Process}
use Rattle.book.specs.Bounds.{entries}
use Rattle.book.specs.Read.{read_question, tables_read}
use Rattle.searches.specs.Search.{set_searched, newer_searched, rounds_searched, messages_searched}
use Rattle.line_text.specs.Text.{found_text, refused_text}

-- the tables that the book is read into
abbrev pub table_inside : List ℕ
table_inside = replicate entries 0

-- the text of a search on tables
abbrev pub search_text : Tables → List ℕ
search_text tables =
    let first : Process = record { 0 = 1 } in
    found_text tables.shape.n (set_searched tables first 3) (newer_searched tables first 3)
    (rounds_searched tables first 3)
    (messages_searched tables first 3)

-- by the question that the read fails
abbrev pub text_by : ℕ → List ℕ → List ℕ
text_by zero bytes = search_text (tables_read bytes table_inside table_inside)
text_by (suc question) bytes = refused_text (suc question)

unfoldable pub line_text : List ℕ → List ℕ
line_text bytes = text_by (read_question bytes table_inside table_inside) bytes
