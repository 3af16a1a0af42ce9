-- What the calls of the two machines answer and leave, by what the code finds out.
use mathlib.Core.Path.{◌≡◌, sym, ap, ◌∙◌}
use mathlib.Core.Bool.{◌&&◌}
use mathlib.Core.List.{List}
use Prim.Native.Nat.{ℕ}
use lib.Seq.{sets}
use Rattle.book.specs.Lent.{lent}
use Rattle.book.specs.declared.Shape.{Shape}
use Rattle.book.specs.InTurn.{◌then◌, ask, unless_refused}
use Rattle.participant.specs.declared.Participant.{Participant}
use Rattle.participant.specs.declared.ParticipantAfter.{ParticipantAfter}
use Rattle.participant.specs.Calls as participant
use Rattle.initiator.specs.declared.Initiator.{Initiator}
use Rattle.initiator.specs.declared.InitiatorAfter.{InitiatorAfter}
use Rattle.initiator.specs.Calls as initiator
use Rattle.words.specs.Words.{shape_length, lengths_length, wrong_length, is_long}
use Rattle.words.specs.Plain.{shape_in, number_words}
use Rattle.words.specs.Participant.{participant_length, participant_words, participant_in}
use Rattle.words.specs.Initiator.{initiator_length, initiator_words, initiator_in}
use Rattle.state_words.proofs.Lengths.{length_participant, length_initiator}
use Rattle.recovery_line.specs.Machines.{as_process, participant_first_answer, participant_first_state, participant_receive_answer, participant_receive_state, participant_receive_out, participant_receive_lengths, initiator_begin_answer, initiator_begin_state, initiator_begin_out, initiator_begin_lengths, initiator_receive_answer, initiator_receive_state, initiator_receive_out, initiator_receive_lengths}
use Rattle.recovery_line.proofs.Shells.{two_long, three_long, wrong, asked, kept, put, through, put_whole, numbers_put}

-- ---- a participant's first state

module _ (shape sent received : List ℕ) (me inviter purpose : ℕ) (state : List ℕ) {q : ℕ}
    (same : q ≡ ask wrong_length (is_long shape_length shape && is_long participant_length state))
  where
    abbrev first_inside : ℕ
    first_inside = participant.first_question (lent (shape_in shape) sent received) me inviter purpose

    abbrev first_answer : ℕ
    first_answer = participant_first_answer shape sent received me inviter purpose state

    -- the answer, and what is left in the slice
    abbrev First : ℕ → List ℕ → Type 0
    First r state' = (r ≡ first_answer) × (state' ≡ participant_first_state shape sent received me inviter purpose state)

    first_untouched : {r : ℕ} → r ≡ first_answer → (r ≡ 0 → ⊥) → First r state
    unfolding participant_first_state
    first_untouched e some = (e, kept e state _ some)

    pub first_wrong : (q ≡ 0 → ⊥) → First q state
    unfolding participant_first_answer
    first_wrong some = first_untouched (wrong same (λ _. first_inside) some) some

    module _ (none : q ≡ 0) {given : Shape} (given_is : given ≡ shape_in shape) {p i : ℕ} (p_is : p ≡ me) (i_is : i ≡ inviter)
        {r : ℕ} (of_call : r ≡ participant.first_question (lent given sent received) p i purpose)
      where
        first_answered : r ≡ first_answer
        unfolding participant_first_answer
        first_answered =
            asked same (λ _. first_inside) none
            (of_call ∙ (λ t. participant.first_question (lent (given_is t) sent received) (p_is t) (i_is t) purpose))

        pub first_refused : (r ≡ 0 → ⊥) → First r state
        first_refused some = first_untouched first_answered some

        pub first_made : r ≡ 0 → {made : Participant} → made ≡ participant.first_state (lent given sent received) (as_process p) (as_process i) purpose
            → {state' : List ℕ} → state' ≡ sets state 0 (participant_words made) → First 0 state'
        unfolding participant_first_state
        first_made zeroed {made} e put_there =
            let long = (two_long shape_length participant_length shape state same none).1 in
            let there = put_whole (participant_words made) state (length_participant made) long put_there in
            let is = e ∙ (λ t. participant.first_state (lent (given_is t) sent received) (as_process (p_is t)) (as_process (i_is t)) purpose) in
            (sym zeroed ∙ first_answered, put first_answered state _ zeroed (there ∙ ap participant_words is))

-- ---- a step of either machine: its state and lengths are put, and the call inside writes to the buffer

-- `next`, `bytes` and `counts` are what it leaves where no question fails
module _ (long inside : ℕ) (state out lengths next bytes counts : List ℕ) {q : ℕ} (same : q ≡ long) where
  abbrev Stepped : ℕ → List ℕ → List ℕ → List ℕ → Type 0
  Stepped r state' out' lengths' =
      let answer : ℕ = long then λ _. inside in
      (r ≡ answer)
      × ((state' ≡ unless_refused answer state next)
      × ((out' ≡ unless_refused answer out (unless_refused inside out bytes)) × (lengths' ≡ unless_refused answer lengths counts)))

  step_wrong : (q ≡ 0 → ⊥) → Stepped q state out lengths
  step_wrong some =
      let e = wrong same (λ _. inside) some in
      (e, (kept e state next some, (kept e out (unless_refused inside out bytes) some, kept e lengths counts some)))

  module _ (none : q ≡ 0) {r : ℕ} (of_inside : r ≡ inside) {out' : List ℕ} (left : out' ≡ unless_refused inside out bytes) where
    step_refused : (r ≡ 0 → ⊥) → Stepped r state out' lengths
    step_refused some =
        let e = asked same (λ _. inside) none of_inside in (
          e,
          (kept e state next some, (through (long then λ _. inside) inside out bytes e of_inside left, kept e lengths counts some)),
        )

    step_done : r ≡ 0 → {state' lengths' : List ℕ} → state' ≡ next → lengths' ≡ counts → Stepped 0 state' out' lengths'
    step_done zeroed f g =
        let e = asked same (λ _. inside) none of_inside in (
          sym zeroed ∙ e,
          (
            put e state next zeroed f,
            (through (long then λ _. inside) inside out bytes e of_inside left, put e lengths counts zeroed g),
          ),
        )

-- ---- a participant receives a message

module _ (state shape sent received message out lengths : List ℕ) {q : ℕ}
    (same : q ≡ ask wrong_length (is_long shape_length shape && (is_long participant_length state && is_long lengths_length lengths)))
  where
    abbrev receive_long : ℕ
    receive_long = ask wrong_length (is_long shape_length shape && (is_long participant_length state && is_long lengths_length lengths))

    abbrev receive_inside : ℕ
    receive_inside = participant.receive_question (lent (shape_in shape) sent received) (participant_in state) message out

    abbrev Received : ℕ → List ℕ → List ℕ → List ℕ → Type 0
    Received r state' out' lengths' =
        (r ≡ participant_receive_answer state shape sent received message out lengths)
        × ((state' ≡ participant_receive_state state shape sent received message out lengths)
        × ((out' ≡ participant_receive_out state shape sent received message out lengths)
        × (lengths' ≡ participant_receive_lengths state shape sent received message out lengths)))

    pub receive_wrong : (q ≡ 0 → ⊥) → Received q state out lengths
    unfolding participant_receive_answer participant_receive_state participant_receive_out participant_receive_lengths participant.bytes_after
    receive_wrong some = step_wrong receive_long receive_inside state out lengths _ _ _ same some

    module _ (none : q ≡ 0) {given : Shape} (given_is : given ≡ shape_in shape) {machine : Participant} (machine_is : machine ≡ participant_in state)
        {r : ℕ} (of_call : r ≡ participant.receive_question (lent given sent received) machine message out)
        {out' : List ℕ} (left : out' ≡ participant.bytes_after (lent given sent received) machine message out)
      where
        of_receive : r ≡ receive_inside
        of_receive = of_call ∙ (λ t. participant.receive_question (lent (given_is t) sent received) (machine_is t) message out)

        receive_left : out' ≡ participant.bytes_after (lent (shape_in shape) sent received) (participant_in state) message out
        receive_left = left ∙ (λ t. participant.bytes_after (lent (given_is t) sent received) (machine_is t) message out)

        pub receive_refused : (r ≡ 0 → ⊥) → Received r state out' lengths
        unfolding participant_receive_answer participant_receive_state participant_receive_out participant_receive_lengths participant.bytes_after
        receive_refused some = step_refused receive_long receive_inside state out lengths _ _ _ same none of_receive receive_left some

        pub receive_done : r ≡ 0 → {after : ParticipantAfter}
            → after ≡ record {
              state = participant.state_after (lent given sent received) machine message out;
              lengths = participant.lengths_after (lent given sent received) machine message out;
            }
            → {state' : List ℕ} → state' ≡ sets state 0 (participant_words after.state)
            → {lengths' : List ℕ} → lengths' ≡ sets lengths 0 (number_words after.lengths) → Received 0 state' out' lengths'
        unfolding participant_receive_answer participant_receive_state participant_receive_out participant_receive_lengths participant.bytes_after
        receive_done zeroed {after} e put_there put_there' =
            let long = (three_long shape_length participant_length lengths_length shape state lengths same none).1 in
            let there = put_whole (participant_words after.state) state (length_participant after.state) long.0 put_there in
            let is = ap (λ (w : ParticipantAfter). w.state) e ∙ (λ t. participant.state_after (lent (given_is t) sent received) (machine_is t) message out) in
            let are = ap (λ (w : ParticipantAfter). w.lengths) e ∙ (λ t. participant.lengths_after (lent (given_is t) sent received) (machine_is t) message out) in
            step_done receive_long receive_inside state out lengths _ _ _ same none of_receive receive_left zeroed
            (there ∙ ap participant_words is) (numbers_put lengths long.1 after.lengths put_there' ∙ ap number_words are)

-- ---- an initiator begins

module _ (shape sent received : List ℕ) (me purpose : ℕ) (state out lengths : List ℕ) {q : ℕ}
    (same : q ≡ ask wrong_length (is_long shape_length shape && (is_long initiator_length state && is_long lengths_length lengths)))
  where
    abbrev begin_long : ℕ
    begin_long = ask wrong_length (is_long shape_length shape && (is_long initiator_length state && is_long lengths_length lengths))

    abbrev begin_inside : ℕ
    begin_inside = initiator.begin_question (lent (shape_in shape) sent received) (as_process me) purpose out

    abbrev Begun : ℕ → List ℕ → List ℕ → List ℕ → Type 0
    Begun r state' out' lengths' =
        (r ≡ initiator_begin_answer shape sent received me purpose state out lengths)
        × ((state' ≡ initiator_begin_state shape sent received me purpose state out lengths)
        × ((out' ≡ initiator_begin_out shape sent received me purpose state out lengths)
        × (lengths' ≡ initiator_begin_lengths shape sent received me purpose state out lengths)))

    pub begin_wrong : (q ≡ 0 → ⊥) → Begun q state out lengths
    unfolding initiator_begin_answer initiator_begin_state initiator_begin_out initiator_begin_lengths initiator.bytes_begun
    begin_wrong some = step_wrong begin_long begin_inside state out lengths _ _ _ same some

    module _ (none : q ≡ 0) {given : Shape} (given_is : given ≡ shape_in shape) {p : ℕ} (p_is : p ≡ me) {r : ℕ}
        (of_call : r ≡ initiator.begin_question (lent given sent received) (as_process p) purpose out)
        {out' : List ℕ} (left : out' ≡ initiator.bytes_begun (lent given sent received) (as_process p) purpose out)
      where
        of_begin : r ≡ begin_inside
        of_begin = of_call ∙ (λ t. initiator.begin_question (lent (given_is t) sent received) (as_process (p_is t)) purpose out)

        begin_left : out' ≡ initiator.bytes_begun (lent (shape_in shape) sent received) (as_process me) purpose out
        begin_left = left ∙ (λ t. initiator.bytes_begun (lent (given_is t) sent received) (as_process (p_is t)) purpose out)

        pub begin_refused : (r ≡ 0 → ⊥) → Begun r state out' lengths
        unfolding initiator_begin_answer initiator_begin_state initiator_begin_out initiator_begin_lengths initiator.bytes_begun
        begin_refused some = step_refused begin_long begin_inside state out lengths _ _ _ same none of_begin begin_left some

        pub begin_done : r ≡ 0 → {after : InitiatorAfter}
            → after ≡ record {
              state = initiator.state_begun (lent given sent received) (as_process p) purpose out;
              lengths = initiator.lengths_begun (lent given sent received) (as_process p) purpose out;
            }
            → {state' : List ℕ} → state' ≡ sets state 0 (initiator_words after.state)
            → {lengths' : List ℕ} → lengths' ≡ sets lengths 0 (number_words after.lengths) → Begun 0 state' out' lengths'
        unfolding initiator_begin_answer initiator_begin_state initiator_begin_out initiator_begin_lengths initiator.bytes_begun
        begin_done zeroed {after} e put_there put_there' =
            let long = (three_long shape_length initiator_length lengths_length shape state lengths same none).1 in
            let there = put_whole (initiator_words after.state) state (length_initiator after.state) long.0 put_there in
            let is = ap (λ (w : InitiatorAfter). w.state) e ∙ (λ t. initiator.state_begun (lent (given_is t) sent received) (as_process (p_is t)) purpose out) in
            let are = ap (λ (w : InitiatorAfter). w.lengths) e ∙ (λ t. initiator.lengths_begun (lent (given_is t) sent received) (as_process (p_is t)) purpose out) in
            step_done begin_long begin_inside state out lengths _ _ _ same none of_begin begin_left zeroed
            (there ∙ ap initiator_words is) (numbers_put lengths long.1 after.lengths put_there' ∙ ap number_words are)

-- ---- an initiator receives a report

module _ (state shape sent received message out lengths : List ℕ) {q : ℕ}
    (same : q ≡ ask wrong_length (is_long shape_length shape && (is_long initiator_length state && is_long lengths_length lengths)))
  where
    abbrev report_long : ℕ
    report_long = ask wrong_length (is_long shape_length shape && (is_long initiator_length state && is_long lengths_length lengths))

    abbrev report_inside : ℕ
    report_inside = initiator.receive_question (lent (shape_in shape) sent received) (initiator_in state) message out

    abbrev Reported : ℕ → List ℕ → List ℕ → List ℕ → Type 0
    Reported r state' out' lengths' =
        (r ≡ initiator_receive_answer state shape sent received message out lengths)
        × ((state' ≡ initiator_receive_state state shape sent received message out lengths)
        × ((out' ≡ initiator_receive_out state shape sent received message out lengths)
        × (lengths' ≡ initiator_receive_lengths state shape sent received message out lengths)))

    pub report_wrong : (q ≡ 0 → ⊥) → Reported q state out lengths
    unfolding initiator_receive_answer initiator_receive_state initiator_receive_out initiator_receive_lengths initiator.bytes_after
    report_wrong some = step_wrong report_long report_inside state out lengths _ _ _ same some

    module _ (none : q ≡ 0) {given : Shape} (given_is : given ≡ shape_in shape) {machine : Initiator} (machine_is : machine ≡ initiator_in state)
        {r : ℕ} (of_call : r ≡ initiator.receive_question (lent given sent received) machine message out)
        {out' : List ℕ} (left : out' ≡ initiator.bytes_after (lent given sent received) machine message out)
      where
        of_report : r ≡ report_inside
        of_report = of_call ∙ (λ t. initiator.receive_question (lent (given_is t) sent received) (machine_is t) message out)

        report_left : out' ≡ initiator.bytes_after (lent (shape_in shape) sent received) (initiator_in state) message out
        report_left = left ∙ (λ t. initiator.bytes_after (lent (given_is t) sent received) (machine_is t) message out)

        pub report_refused : (r ≡ 0 → ⊥) → Reported r state out' lengths
        unfolding initiator_receive_answer initiator_receive_state initiator_receive_out initiator_receive_lengths initiator.bytes_after
        report_refused some = step_refused report_long report_inside state out lengths _ _ _ same none of_report report_left some

        pub report_done : r ≡ 0 → {after : InitiatorAfter}
            → after ≡ record {
              state = initiator.state_after (lent given sent received) machine message out;
              lengths = initiator.lengths_after (lent given sent received) machine message out;
            }
            → {state' : List ℕ} → state' ≡ sets state 0 (initiator_words after.state)
            → {lengths' : List ℕ} → lengths' ≡ sets lengths 0 (number_words after.lengths) → Reported 0 state' out' lengths'
        unfolding initiator_receive_answer initiator_receive_state initiator_receive_out initiator_receive_lengths initiator.bytes_after
        report_done zeroed {after} e put_there put_there' =
            let long = (three_long shape_length initiator_length lengths_length shape state lengths same none).1 in
            let there = put_whole (initiator_words after.state) state (length_initiator after.state) long.0 put_there in
            let is = ap (λ (w : InitiatorAfter). w.state) e ∙ (λ t. initiator.state_after (lent (given_is t) sent received) (machine_is t) message out) in
            let are = ap (λ (w : InitiatorAfter). w.lengths) e ∙ (λ t. initiator.lengths_after (lent (given_is t) sent received) (machine_is t) message out) in
            step_done report_long report_inside state out lengths _ _ _ same none of_report report_left zeroed
            (there ∙ ap initiator_words is) (numbers_put lengths long.1 after.lengths put_there' ∙ ap number_words are)
