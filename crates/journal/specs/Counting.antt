-- Document 02, E1: "On each channel, messages sent equal those received plus those underway, each counted over the journal's events".
-- Processes count from 1, as in the journal.
use Rattle.std.specs.Prelude.{Bool, false, ◌&&◌, not, List, [], ◌∷◌, ℕ, suc, ◌+◌, leb, eqb}
use Rattle.lists.specs.Over.{sum_to}
use Rattle.lists.specs.Pick.{pick}
use Rattle.journal.specs.declared.Event.{Event}
use Rattle.journal.specs.declared.Event.TheVariants.{Sent, Received, Checkpointed}

-- is it a sending by process j to process p?
abbrev pub is_sending : ℕ → ℕ → Event → Bool
is_sending j p (Sent process partner) = eqb process.0 j && eqb partner.0 p
is_sending j p (Received process partner) = false
is_sending j p (Checkpointed process) = false

-- is it a receipt by process j from process p?
abbrev pub is_receipt : ℕ → ℕ → Event → Bool
is_receipt j p (Sent process partner) = false
is_receipt j p (Received process partner) = eqb process.0 j && eqb partner.0 p
is_receipt j p (Checkpointed process) = false

-- is it a checkpoint of process j?
abbrev pub is_checkpoint : ℕ → Event → Bool
is_checkpoint j (Sent process partner) = false
is_checkpoint j (Received process partner) = false
is_checkpoint j (Checkpointed process) = eqb process.0 j

-- how many events are such
unfoldable pub how_many : (Event → Bool) → List Event → ℕ
how_many such [] = 0
how_many such (e ∷ es) = pick (such e) 1 0 + how_many such es

abbrev pub sendings : ℕ → ℕ → List Event → ℕ
sendings j p es = how_many (is_sending j p) es

abbrev pub receipts : ℕ → ℕ → List Event → ℕ
receipts j p es = how_many (is_receipt j p) es

abbrev pub checkpoint_events : ℕ → List Event → ℕ
checkpoint_events j es = how_many (is_checkpoint j) es

-- how many checkpoints process j has: "Checkpoint 1 of every process is there from the start."
abbrev pub checkpoint_count : ℕ → List Event → ℕ
checkpoint_count j es = 1 + checkpoint_events j es

-- "the k-th sending is underway until the channel's k-th receipt": after these events, on the channel from process p to process j, k
-- from 1: it was sent, and the k-th receipt has not come
abbrev pub is_underway : ℕ → ℕ → List Event → ℕ → Bool
is_underway p j es k = leb k (sendings p j es) && not (leb k (receipts j p es))

-- how many messages are underway on the channel
unfoldable pub underway : ℕ → ℕ → List Event → ℕ
underway p j es = sum_to (sendings p j es) (λ k. pick (is_underway p j es (suc k)) 1 0)
