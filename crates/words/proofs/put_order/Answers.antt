-- `put_order` meets its contract.
use mathlib.Core.List.{◌++◌}
use native.Mathlib.Omega.{arith}
use lib.ListN.{length-append}
use Rattle.lists.proofs.Over.{length_tab}
use Rattle.words.specs.Words.{order_before_at, order_after_at}
use Rattle.words.specs.Plain.{set_words, number_words, resend_words, order_words}
use Rattle.words.proofs.Storing.{sets_then, sets_all, resend_long}
use Rattle.words.proofs.put_order.Goals as goal

pub returns : goal.returns
unfolding order_words
returns c = let a = c.args in
    let from = set_words a.order.from in
    let before = number_words a.order.before in
    let after = number_words a.order.after in
    let resend = resend_words a.order.resend in
    sets_all (from ++ (before ++ (after ++ resend))) a.words.now
    (simp (length-append, length_tab) (omega (arith, c.requires, resend_long a.order.resend)))
    (sets_then from (before ++ (after ++ resend)) a.words.now 0 c.put_set.ensures (simp length_tab)
    (sets_then before (after ++ resend) c.put_set.new.words order_before_at c.put_numbers.ensures (simp length_tab)
    (sets_then after resend c.put_numbers.new.words order_after_at c.put_numbers-2.ensures (simp length_tab)
    c.put_resend.ensures)))
