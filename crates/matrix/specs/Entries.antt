-- What differs between two rows of entries, what news changes, and tests of rows.
use Rattle.std.specs.Prelude.{Bool, not, ◌||◌, List, ℕ, ltb, leb, eqb}
use Rattle.book.specs.declared.Count.{Count}
use Rattle.book.specs.Bounds.{mark, most_processes}
use Rattle.lists.specs.Over.{all_to}
use Rattle.consistency.specs.Known.{counters}
use Rattle.lists.specs.Pick.{pick}
use Rattle.matrix.specs.Matrix.{as_row, is_pair}

-- News is a row of entries that says something of some processes: the mark stands where it says nothing. A counter is never
-- the mark.
abbrev pub is_news : ℕ → Bool
is_news v = not (eqb v mark)

-- "each sent counter that differs from what it last reported", "the differing entries only": news of the entries of `now`
-- that differ from those of `held`
abbrev pub differing : ℕ → ℕ → ℕ
differing now' held = pick (eqb now' held) mark now'

abbrev pub diff : List Count → List Count → List Count
diff now' held = as_row (λ p. differing (counters now' p) (counters held p))

-- every entry for which the message carries a value changes to the value received (K 5.2, step 5; 5.3, step 6)
abbrev pub changed : ℕ → ℕ → ℕ
changed held news = pick (is_news news) news held

abbrev pub patch : List Count → List Count → List Count
patch held news = as_row (λ p. changed (counters held p) (counters news p))

-- the entries are the same
unfoldable pub same : List Count → List Count → Bool
same a b = all_to most_processes (λ p. eqb (counters a p) (counters b p))

-- "The diagonal and the entries of absent processes are zero", in what process j sent (or was sent).
unfoldable pub rest_zero : ℕ → ℕ → List Count → Bool
rest_zero n j a = all_to most_processes (λ p. is_pair n j p || eqb (counters a p) 0)

-- the entries from a place on are zero
unfoldable pub zero_from : ℕ → List Count → Bool
zero_from from a = all_to most_processes (λ p. ltb p from || eqb (counters a p) 0)

-- no entry is above the other row's
unfoldable pub none_above : List Count → List Count → Bool
none_above a b = all_to most_processes (λ p. leb (counters a p) (counters b p))

-- question 16: "Is each counter lower than the entry now held ..?" The counters are those that the news names.
unfoldable pub all_lower : List Count → List Count → Bool
all_lower news held = all_to most_processes (λ p. not (is_news (counters news p)) || ltb (counters news p) (counters held p))
