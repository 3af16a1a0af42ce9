-- What the calls on sets and the line answer and leave, by what the code finds out.
use mathlib.Core.Path.{◌≡◌, refl, sym, ap, ap₂, ◌∙◌}
use mathlib.Core.Bool.{◌&&◌}
use mathlib.Core.List.{List, [], ◌∷◌}
use mathlib.Core.Option as found
use Prim.Native.Nat.{ℕ}
use native.Mathlib.Omega.{arith}
use lib.ListN.{length, set}
use lib.Seq.{sets}
use Rattle.std.specs.Prelude.{Option, Some, None}
use Rattle.book.specs.Lent.{lent}
use Rattle.book.specs.declared.Shape.{Shape}
use Rattle.book.specs.declared.Process.{Process}
use Rattle.book.specs.declared.Checkpoint.{Checkpoint}
use Rattle.book.specs.declared.Count.{Count}
use Rattle.book.specs.Bounds.{most_processes}
use Rattle.book.specs.InTurn.{ask}
use Rattle.book.specs.Check.{tables_question}
use Rattle.lists.specs.Over.{numbered}
use Rattle.line_theory.specs.Sets.{first_fault}
use Rattle.line_theory.specs.OfTables.{view_of}
use Rattle.consistency.specs.Set.{chosen, test_question, shown_as}
use Rattle.consistency.specs.Known.{counters, column_question, offending, named_as}
use Rattle.finder.specs.declared.Line.{Line}
use Rattle.finder.specs.Line.{found_in}
use Rattle.words.specs.Words.{shape_length, set_length, pair_length, wrong_length, is_long}
use Rattle.words.specs.Plain.{shape_in, set_in, set_words, pair_words, counts_in}
use Rattle.recovery_line.specs.Lines.{test_answer, test_pair, column_answer, column_partner, find_answer, find_line, find_passed}
use Rattle.recovery_line.proofs.Shells.{two_long, wrong, asked, kept, put, set_put}

-- ---- test a set

-- two numbers stored in a slice of two
pub pair_put : (pair : List ℕ) → length pair ≡ 2 → {j p v w : ℕ} → v ≡ j → w ≡ p → set (set pair 0 v) 1 w ≡ (j ∷ (p ∷ []))
pair_put [] long e f = absurd (omega arith)
pair_put (a ∷ []) long e f = absurd (omega arith)
pair_put (a ∷ (b ∷ [])) long e f = ap₂ (λ (x y : ℕ). x ∷ (y ∷ [])) e f
pair_put (a ∷ (b ∷ (c ∷ l))) long e f = absurd (omega arith)

-- a pair as it is put, and as it is found
abbrev put_as : Option (Process × Process) → List ℕ
put_as None = 0 ∷ (0 ∷ [])
put_as (Some pair) = pair.0.0 ∷ (pair.1.0 ∷ [])

put_found : (pair : found.Option (ℕ × ℕ)) → put_as (shown_as pair) ≡ pair_words pair
put_found found.none = refl
put_found (found.some pair) = refl

module _ (shape sent received set pair : List ℕ) {q : ℕ}
    (same : q ≡ ask wrong_length (is_long shape_length shape && (is_long set_length set && is_long pair_length pair)))
  where
    abbrev inside : ℕ
    inside = test_question (lent (shape_in shape) sent received) (set_in set)

    abbrev pair_found : found.Option (ℕ × ℕ)
    pair_found = first_fault (view_of (lent (shape_in shape) sent received)) (chosen (set_in set))

    -- the answer, and what is left in the slice
    abbrev TestedSet : ℕ → List ℕ → Type 0
    TestedSet r after = (r ≡ test_answer shape sent received set pair) × (after ≡ test_pair shape sent received set pair)

    test_untouched : {r : ℕ} → r ≡ test_answer shape sent received set pair → (r ≡ 0 → ⊥) → TestedSet r pair
    unfolding test_pair
    test_untouched e some = (e, kept e pair _ some)

    pub test_wrong : (q ≡ 0 → ⊥) → TestedSet q pair
    unfolding test_answer
    test_wrong some = test_untouched (wrong same (λ _. inside) some) some

    module _ (none : q ≡ 0) {given : Shape} (given_is : given ≡ shape_in shape) {named : List Checkpoint} (named_is : named ≡ set_in set)
        {r : ℕ} (of_call : r ≡ test_question (lent given sent received) named)
      where
        test_answered : r ≡ test_answer shape sent received set pair
        unfolding test_answer
        test_answered = asked same (λ _. inside) none (of_call ∙ (λ t. test_question (lent (given_is t) sent received) (named_is t)))

        pub test_refused : (r ≡ 0 → ⊥) → TestedSet r pair
        test_refused some = test_untouched test_answered some

        pub test_shown : r ≡ 0 → {fault : Option (Process × Process)}
            → fault ≡ shown_as (first_fault (view_of (lent given sent received)) (chosen named))
            → {after : List ℕ} → after ≡ put_as fault → TestedSet 0 after
        unfolding test_pair
        test_shown zeroed e left =
            let is = e ∙ (λ t. shown_as (first_fault (view_of (lent (given_is t) sent received)) (chosen (named_is t)))) in
            (sym zeroed ∙ test_answered, put test_answered pair _ zeroed (left ∙ ap put_as is ∙ put_found pair_found))

-- ---- test one checkpoint

-- a partner as it is put, and as it is found
abbrev number_of : Option Process → ℕ
number_of None = 0
number_of (Some p) = p.0

number_found : (partner : found.Option ℕ) → number_of (named_as partner) ≡ numbered partner
number_found found.none = refl
number_found (found.some p) = refl

module _ (shape sent received : List ℕ) (process checkpoint : ℕ) (known : List ℕ) (partner : ℕ) {q : ℕ}
    (same : q ≡ ask wrong_length (is_long shape_length shape && is_long most_processes known))
  where
    abbrev asks : ℕ
    asks = column_question (lent (shape_in shape) sent received) process checkpoint

    abbrev partner_found : found.Option ℕ
    partner_found = offending (lent (shape_in shape) sent received) process checkpoint (counters (counts_in known))

    -- the answer, and the number that is left
    abbrev TestedColumn : ℕ → ℕ → Type 0
    TestedColumn r after =
        (r ≡ column_answer shape sent received process checkpoint known)
        × (after ≡ column_partner shape sent received process checkpoint known partner)

    column_untouched : {r : ℕ} → r ≡ column_answer shape sent received process checkpoint known → (r ≡ 0 → ⊥) → TestedColumn r partner
    unfolding column_partner
    column_untouched e some = (e, kept e partner _ some)

    pub column_wrong : (q ≡ 0 → ⊥) → TestedColumn q partner
    unfolding column_answer
    column_wrong some = column_untouched (wrong same (λ _. asks) some) some

    module _ (none : q ≡ 0) {given : Shape} (given_is : given ≡ shape_in shape) {counts : List Count} (counts_are : counts ≡ counts_in known)
        {j r : ℕ} (process_is : j ≡ process) (checkpoint_is : r ≡ checkpoint)
        {answer : ℕ} (of_call : answer ≡ column_question (lent given sent received) j r)
      where
        column_answered : answer ≡ column_answer shape sent received process checkpoint known
        unfolding column_answer
        column_answered =
            asked same (λ _. asks) none
            (of_call ∙ (λ t. column_question (lent (given_is t) sent received) (process_is t) (checkpoint_is t)))

        pub column_refused : (answer ≡ 0 → ⊥) → TestedColumn answer partner
        column_refused some = column_untouched column_answered some

        pub column_named : answer ≡ 0 → {found : Option Process} → found ≡ named_as (offending (lent given sent received) j r (counters counts))
            → {after : ℕ} → after ≡ number_of found → TestedColumn 0 after
        unfolding column_partner
        column_named zeroed e left =
            let is =
            e ∙ (λ t. named_as (offending (lent (given_is t) sent received) (process_is t) (checkpoint_is t) (counters (counts_are t)))) in
            (sym zeroed ∙ column_answered, put column_answered partner _ zeroed (left ∙ ap number_of is ∙ number_found partner_found))

-- ---- find the line

module _ (shape sent received line : List ℕ) (passed : ℕ) {q : ℕ}
    (same : q ≡ ask wrong_length (is_long shape_length shape && is_long set_length line))
  where
    abbrev Found : ℕ → List ℕ → ℕ → Type 0
    Found r line' passed' =
        (r ≡ find_answer shape sent received line)
        × ((line' ≡ find_line shape sent received line) × (passed' ≡ find_passed shape sent received line passed))

    find_untouched : {r : ℕ} → r ≡ find_answer shape sent received line → (r ≡ 0 → ⊥) → Found r line passed
    unfolding find_line find_passed
    find_untouched e some = (e, (kept e line _ some, kept e passed _ some))

    pub find_wrong : (q ≡ 0 → ⊥) → Found q line passed
    unfolding find_answer
    find_wrong some = find_untouched (wrong same (λ _. tables_question (lent (shape_in shape) sent received)) some) some

    module _ (none : q ≡ 0) {given : Shape} (given_is : given ≡ shape_in shape) {r : ℕ} (of_call : r ≡ tables_question (lent given sent received))
      where
        find_answered : r ≡ find_answer shape sent received line
        unfolding find_answer
        find_answered =
            asked same (λ _. tables_question (lent (shape_in shape) sent received)) none
            (of_call ∙ (λ t. tables_question (lent (given_is t) sent received)))

        pub find_refused : (r ≡ 0 → ⊥) → Found r line passed
        find_refused some = find_untouched find_answered some

        pub find_found : r ≡ 0 → {found : Line} → found ≡ found_in (lent given sent received)
            → {line' : List ℕ} → line' ≡ sets line 0 (set_words found.set) → {passed' : ℕ} → passed' ≡ found.passed → Found 0 line' passed'
        unfolding find_line find_passed
        find_found zeroed {found} e left left' =
            let place = set_put line (two_long shape_length set_length shape line same none).1 found.set left in
            let is = e ∙ (λ t. found_in (lent (given_is t) sent received)) in (
              sym zeroed ∙ find_answered,
              (
                put find_answered line _ zeroed (place ∙ ap (λ (l : Line). set_words l.set) is),
                put find_answered passed _ zeroed (left' ∙ ap (λ (l : Line). l.passed) is),
              ),
            )
