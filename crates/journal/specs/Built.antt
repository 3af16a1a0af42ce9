-- Document 02, E1: the book that a journal's events build. "Checkpoint 1 of every process is there from the start", and holds zeros;
-- checkpoint r of process j, r from 2, is made by j's (r − 1)-th checkpoint event and holds how many messages j had sent to each
-- partner and received from each before it. What comes after a process's last checkpoint is not in the book.
use Rattle.std.specs.Prelude.{List, [], ◌∷◌, ℕ, suc, ◌-◌, eqb}
use Rattle.lists.specs.Pick.{pick}
use Rattle.line_theory.specs.Sets.{View}
use Rattle.shown.specs.Shown.{book_shown}
use Rattle.book.specs.Layout.{Book}
use Rattle.journal.specs.declared.Event.{Event}
use Rattle.journal.specs.Counting.{is_checkpoint, sendings, receipts, checkpoint_count}

-- the events up to process j's k-th checkpoint event, which is itself no sending and no receipt; none up to a 0-th
unfoldable pub up_to_checkpoint : ℕ → ℕ → List Event → List Event
up_to_checkpoint j k [] = []
up_to_checkpoint j k (e ∷ es) = pick (eqb k 0) [] (e ∷ up_to_checkpoint j (k - pick (is_checkpoint j e) 1 0) es)

-- the counters of each checkpoint, by counting; the view's processes and partners count from 0, its checkpoints from 1
abbrev pub view_built : ℕ → List Event → View
view_built n es =
    record {
      n = n;
      count = λ j. checkpoint_count (suc j) es;
      S = λ j r p. sendings (suc j) (suc p) (up_to_checkpoint (suc j) (r - 1) es);
      R = λ j r p. receipts (suc j) (suc p) (up_to_checkpoint (suc j) (r - 1) es);
    }

-- the book built
abbrev pub book_built : ℕ → List Event → Book
book_built n es = book_shown (view_built n es)
