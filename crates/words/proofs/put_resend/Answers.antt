-- `put_resend` meets its contract.
use Rattle.lists.proofs.Over.{length_tab}
use Rattle.words.specs.Words.{matrix_length, count_words}
use Rattle.words.specs.Plain.{resend_words}
use Rattle.words.proofs.Storing.{sets_then}
use Rattle.words.proofs.put_resend.Goals as goal

pub returns : goal.returns
unfolding resend_words
returns c = let a = c.args in
    sets_then (count_words matrix_length a.resend.first) (count_words matrix_length a.resend.last) a.words.now a.at
    c.put_counts.ensures (simp length_tab) c.put_counts-2.ensures
