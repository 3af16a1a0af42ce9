-- What the exported read, find and start leave is what the calls inside leave, as words.
use mathlib.Core.Path.{◌≡◌, refl, sym, ap, ◌∙◌}
use mathlib.Core.Bool.{Bool, true, ◌&&◌}
use mathlib.Core.List.{List}
use Prim.Native.Nat.{ℕ, suc, ◌<◌}
use lib.ListN.{length}
use Rattle.book.specs.Lent.{lent}
use Rattle.book.specs.declared.Shape.{Shape}
use Rattle.book.specs.InTurn.{ask}
use Rattle.book.specs.Check.{tables_question}
use Rattle.book.specs.Read.{read_question}
use Rattle.book.proofs.Questions.{then_none, asked_yes, kept_passed}
use Rattle.line_theory.specs.Sets.{newer_than}
use Rattle.line_theory.specs.Search.{line}
use Rattle.line_theory.specs.OfTables.{view_of}
use Rattle.lists.proofs.Over.{length_tab, get_d_tab}
use Rattle.consistency.specs.Set.{chosen}
use Rattle.finder.specs.Line.{checkpoints, no_line, line_found, passed_found}
use Rattle.finder.proofs.Sixteen.{chosen_there}
use Rattle.book.specs.Names.{is_named, is_purpose}
use Rattle.session.specs.declared.Session.{Session}
use Rattle.session.specs.Steps.{begun, with_posted}
use Rattle.session.specs.Calls.{no_session, start_question, session_started}
use Rattle.session.specs.Turns.{Ongoing, started}
use Rattle.session_theory.proofs.Search.{IsSearch}
use Rattle.turns.proofs.Starting.{named_none}
use Rattle.words.specs.Words.{word, shape_length, set_length, wrong_length, is_long}
use Rattle.words.specs.Plain.{shape_in, shape_words, set_words}
use Rattle.words.specs.Session.{session_length, session_words}
use Rattle.recovery_line.specs.Machines.{as_process}
use Rattle.recovery_line.specs.Books.{shape_question, read_answer, read_shape, read_sent, read_received}
use Rattle.recovery_line.specs.Lines.{find_answer, find_line, find_passed}
use Rattle.recovery_line.specs.Sessions.{start_answer, start_session, start_strands}
use Rattle.demand3.specs.Statement.{IsAccepted, shape_left, view_left, tables_left}
use Rattle.demand3.proofs.Start.{search_of, read_search}
use Rattle.word_laws.specs.Values.{IsSession}
use Rattle.word_laws.proofs.Theorems.{shape_back}
use Rattle.demand3_words.specs.Statement.{Lent, AllAccept, shape_given, sent_given, received_given, size_given, line_given, passed_given, handed_by_start, view_given}
use Rattle.demand3_words.specs.Beside.{inside}
use Rattle.demand3_words.proofs.Kept.{start_is_session}
use Rattle.demand3_words.proofs.Handed.{handed, counts_sixteen}

-- ---- an accepted read

words_long : (shape : Shape) → length (shape_words shape) ≡ shape_length
unfolding shape_words
words_long shape = ap suc (length_tab 16 (word shape.counts))

words_size : (shape : Shape) → word (shape_words shape) 0 ≡ shape.n
unfolding shape_words
words_size shape = refl

module _ (b : Lent) (read : read_answer b.bytes b.shape b.sent b.received ≡ 0) where
  abbrev answer : ℕ
  answer = read_answer b.bytes b.shape b.sent b.received

  pub read_asked : read_question b.bytes b.sent b.received ≡ 0
  unfolding read_answer
  read_asked = (then_none (shape_question b.shape) (λ _. read_question b.bytes b.sent b.received) read).1

  shape_given_lem : shape_given b ≡ shape_words (shape_left (inside b))
  unfolding read_shape
  shape_given_lem = kept_passed answer b.shape (shape_words (shape_left (inside b))) read

  pub sent_given_lem : sent_given b ≡ (tables_left (inside b)).sent
  unfolding read_sent
  sent_given_lem = kept_passed answer b.sent (tables_left (inside b)).sent read

  pub received_given_lem : received_given b ≡ (tables_left (inside b)).received
  unfolding read_received
  received_given_lem = kept_passed answer b.received (tables_left (inside b)).received read

  pub shape_long : length (shape_given b) ≡ shape_length
  shape_long = ap length shape_given_lem ∙ words_long (shape_left (inside b))

  pub size_given_lem : size_given b ≡ (shape_left (inside b)).n
  size_given_lem = ap (λ (w : List ℕ). word w 0) shape_given_lem ∙ words_size (shape_left (inside b))

  pub shape_is : length (shape_left (inside b)).counts ≡ 16 → shape_in (shape_given b) ≡ shape_left (inside b)
  shape_is sixteen = ap shape_in shape_given_lem ∙ shape_back (shape_left (inside b)) sixteen

-- ---- all calls accepted

module _ (b : Lent) (a : AllAccept b) where
  -- what the start is asked
  abbrev given : Shape
  given = shape_in (shape_given b)

  abbrev question : ℕ
  question = start_question (lent given (sent_given b) (received_given b)) (as_process b.initiator) b.purpose b.strands

  start_asked : question ≡ 0
  unfolding start_answer
  start_asked =
      (then_none (ask wrong_length (is_long shape_length (shape_given b) && is_long session_length b.session)) (λ _. question) a.start).1

  asked_names : (is_named (size_given b) b.initiator ≡ true) × (is_purpose b.purpose ≡ true)
  unfolding shape_in
  asked_names =
      let names : Bool = is_named (size_given b) b.initiator in
      let both =
      then_none (ask 10 names) (λ _. ask 11 (is_purpose b.purpose))
      (named_none (lent given (sent_given b) (received_given b)) (as_process b.initiator) b.purpose b.strands start_asked) in
      (asked_yes 9 names both.0, asked_yes 10 (is_purpose b.purpose) both.1)

  pub is_named_lem : is_named (shape_left (inside b)).n b.initiator ≡ true
  is_named_lem = ap (λ (n : ℕ). is_named n b.initiator) (sym (size_given_lem b a.read)) ∙ asked_names.0

  pub is_search_lem : IsSearch (search_of (inside b))
  is_search_lem = read_search (inside b) (read_asked b a.read) is_named_lem asked_names.1

  -- the tables are the same
  pub shape_same : given ≡ shape_left (inside b)
  shape_same = shape_is b a.read is_search_lem.accepted.sixteen

  pub sent_same : sent_given b ≡ (tables_left (inside b)).sent
  sent_same = sent_given_lem b a.read

  pub received_same : received_given b ≡ (tables_left (inside b)).received
  received_same = received_given_lem b a.read

  pub view_same : view_given b ≡ view_left (inside b)
  view_same = λ i. view_of (lent (shape_same i) (sent_same i) (received_same i))

  -- and so the calls inside accept
  pub accepts : IsAccepted (inside b)
  accepts =
      let same : question
      ≡ start_question (tables_left (inside b)) (as_process b.initiator) b.purpose b.strands =
      λ i. start_question (lent (shape_same i) (sent_same i) (received_same i)) (as_process b.initiator) b.purpose b.strands in
      record { read = read_asked b a.read; start = sym same ∙ start_asked }

  -- ---- the start

  abbrev pub first : Ongoing
  first = started (lent given (sent_given b) (received_given b)) (as_process b.initiator) b.purpose b.strands

  pub first_is : IsSession first.session
  first_is =
      start_is_session (lent given (sent_given b) (received_given b)) (as_process b.initiator) b.purpose b.strands (counts_sixteen (shape_given b))

  pub first_lead : first.session.initiator ≡ as_process b.initiator
  unfolding session_started with_posted begun
  first_lead =
      let next = begun (lent given (sent_given b) (received_given b)) (as_process b.initiator) b.purpose in
      ap (λ (s : Session). s.initiator) (kept_passed question no_session (with_posted next) start_asked)

  abbrev start_answer_lem : ℕ
  start_answer_lem = start_answer (shape_given b) (sent_given b) (received_given b) b.initiator b.purpose b.session b.strands

  pub start_handed : handed_by_start b ≡ handed first
  unfolding start_session start_strands
  start_handed =
      let words = kept_passed start_answer_lem b.session (session_words first.session) a.start in
      let bytes = kept_passed start_answer_lem b.strands first.strands a.start in
      λ i. record { session = words i; strands = bytes i }

  -- ---- the line and T

  abbrev found : ℕ
  found = find_answer (shape_given b) (sent_given b) (received_given b) b.line

  tables_passed : tables_question (lent given (sent_given b) (received_given b)) ≡ 0
  unfolding find_answer
  tables_passed =
      (then_none (ask wrong_length (is_long shape_length (shape_given b) && is_long set_length b.line))
      (λ _. tables_question (lent given (sent_given b) (received_given b))) a.find).1

  abbrev its_line : ℕ → ℕ
  its_line = line (view_given b)

  line_words : line_given b ≡ set_words (checkpoints its_line)
  unfolding find_line line_found
  line_words =
      kept_passed found b.line (set_words (line_found (lent given (sent_given b) (received_given b)))) a.find
      ∙ ap set_words (kept_passed (tables_question (lent given (sent_given b) (received_given b))) no_line (checkpoints its_line) tables_passed)

  pub line_given_lem : (j : ℕ) → j < 16 → word (line_given b) j ≡ its_line j
  line_given_lem j h =
      ap (λ (w : List ℕ). word w j) line_words ∙ get_d_tab 16 (chosen (checkpoints its_line)) j 0 h ∙ chosen_there its_line j h

  pub passed_given_lem : passed_given b ≡ newer_than (view_given b) its_line
  unfolding find_passed passed_found
  passed_given_lem =
      kept_passed found b.passed (passed_found (lent given (sent_given b) (received_given b))) a.find
      ∙ kept_passed (tables_question (lent given (sent_given b) (received_given b))) 0 (newer_than (view_given b) its_line) tables_passed
