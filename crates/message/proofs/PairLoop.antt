-- The loop over pairs, pass by pass, and the count before them.
use Rattle.std.specs.Prelude.{Option, Some, None}
use mathlib.Core.Path.{◌≡◌, refl, sym, ap, ◌∙◌}
use mathlib.Core.Bool.{Bool, true, false, ◌&&◌, not, and-true}
use mathlib.Core.List.{List, [], ◌∷◌}
use Prim.Native.Nat.{ℕ, zero, suc, ◌+◌, ◌-◌, ◌≤◌, ◌<◌}
use native.Mathlib.Omega.{arith}
use lib.ListN.{length, set, length-set}
use lib.Dec.{ltb, leb, eqb}
use borrow.Author.Tests.{ltb-true, leb-true, eq-eqb, ne_eqb}
use Rattle.varint.specs.Number.{read_number}
use Rattle.varint.specs.Sequence.{Numbers}
use Rattle.varint.proofs.Reading.{read_past}
use Rattle.varint.proofs.Sequence.{numbers_none, numbers_more}
use Rattle.book.specs.declared.Count.{Count}
use Rattle.book.specs.Bounds.{groups, largest, mark}
use Rattle.lists.specs.Pick.{pick}
use Rattle.lists.proofs.Tests.{and_both, and_first, and_second}
use Rattle.book.specs.Read.{numbers_from}
use Rattle.message.specs.Layout.{no_news}
use Rattle.message.specs.Formed.{pair_formed, pairs_formed, news_in, counted_formed, news_counted}
use Rattle.message.specs.Parts.{counted_read, pairs_read}
use Rattle.message.proofs.Found.{finds, finds_none}

-- what a formed pair is
pub pair_in : (n end last process counter : ℕ) → pair_formed n end last process counter ≡ true
    → (last < process) × (process ≤ n) × (counter < mark)
unfolding pair_formed
pair_in n end last process counter e =
    let a = and_both (ltb last process) _ e in
    let b = and_both (leb process n) _ a.1 in
    let d = and_both (not (eqb process end)) _ b.1 in
    (ltb-true last process a.0, leb-true process n b.0, ltb-true counter mark d.1)

-- ---- the equations of the pairs

pairs_short : (n end last count : ℕ) → pairs_formed n end last (suc count) [] ≡ false
unfolding pairs_formed
pairs_short n end last count = refl

pairs_half : (n end last count process : ℕ) → pairs_formed n end last (suc count) (process ∷ []) ≡ false
unfolding pairs_formed
pairs_half n end last count process = refl

pairs_more : (n end last count process counter : ℕ) (numbers : List ℕ)
    → pairs_formed n end last (suc count) (process ∷ counter ∷ numbers)
    ≡ (pair_formed n end last process counter && pairs_formed n end process count numbers)
unfolding pairs_formed
pairs_more n end last count process counter numbers = refl

pairs_done : (n end last : ℕ) → pairs_formed n end last zero [] ≡ true
unfolding pairs_formed
pairs_done n end last = refl

pairs_over : (n end last v : ℕ) (numbers : List ℕ) → pairs_formed n end last zero (v ∷ numbers) ≡ false
unfolding pairs_formed
pairs_over n end last v numbers = refl

news_none : (news : List Count) → news_in news [] ≡ news
unfolding news_in
news_none news = refl

news_more : (news : List Count) (process counter : ℕ) (numbers : List ℕ)
    → news_in news (process ∷ counter ∷ numbers) ≡ news_in (set news (process - 1) (record { 0 = counter })) numbers
unfolding news_in
news_more news process counter numbers = refl

-- ---- the passes

-- k pairs are read: what is left to ask is asked of the numbers that follow, and what they carry goes into the news
pub record Sofar (n end : ℕ) (s : List ℕ) (at count : ℕ) (news : List Count) (last next k : ℕ) : Type 0 where
  pub within : k ≤ count
  pub long : length news ≡ 16
  pub stops : (numbers_from s at).stop ≡ (numbers_from s next).stop
  pub asked : pairs_formed n end 0 count (numbers_from s at).found ≡ pairs_formed n end last (count - k) (numbers_from s next).found
  pub carried : news_in no_news (numbers_from s at).found ≡ news_in news (numbers_from s next).found

pub sofar_begun : (n end : ℕ) (s : List ℕ) (at count : ℕ) (news : List Count) → news ≡ no_news → length news ≡ 16
    → Sofar n end s at count news 0 at 0
sofar_begun n end s at count news e long =
    let all : count - 0 ≡ count = omega arith in
    record {
      within = omega arith;
      long = long;
      stops = refl;
      asked = ap (λ (m : ℕ). pairs_formed n end 0 m (numbers_from s at).found) (sym all);
      carried = ap (λ (l : List Count). news_in l (numbers_from s at).found) (sym e);
    }

-- the pairs are not formed
not_counted : (n end : ℕ) (s : List ℕ) (at count : ℕ) → pairs_formed n end 0 count (numbers_from s at).found ≡ false
    → None ≡ counted_read n end s at count
not_counted n end s at count e = finds_none _ (and_second (eqb (numbers_from s at).stop (length s)) _ e)

module _ (n end : ℕ) (s : List ℕ) (at count : ℕ) (news : List Count) (last next k : ℕ) (inv : Sofar n end s at count news last next k) where
  module _ (h : k < count) where
    one_more_lem : count - k ≡ suc (count - (k + 1))
    one_more_lem = omega arith

    left_asked : (numbers : List ℕ) → (numbers_from s next).found ≡ numbers
        → pairs_formed n end 0 count (numbers_from s at).found ≡ pairs_formed n end last (suc (count - (k + 1))) numbers
    left_asked numbers e =
        inv.asked ∙ ap (λ (m : ℕ). pairs_formed n end last m (numbers_from s next).found) one_more_lem
        ∙ ap (pairs_formed n end last (suc (count - (k + 1)))) e

    -- no process stands there
    pub sofar_short : read_number groups largest s next ≡ None → None ≡ counted_read n end s at count
    sofar_short none =
        not_counted n end s at count
        (left_asked [] (ap (λ (ns : Numbers). ns.found) (numbers_none groups largest s next none)) ∙ pairs_short n end last (count - (k + 1)))

    module _ (process middle : ℕ) (first : read_number groups largest s next ≡ Some (process, middle)) where
      -- no counter stands there
      pub sofar_half : read_number groups largest s middle ≡ None → None ≡ counted_read n end s at count
      sofar_half none =
          not_counted n end s at count
          (left_asked (process ∷ [])
          (ap (λ (ns : Numbers). ns.found) (numbers_more groups largest s next process middle first)
          ∙ ap (λ (ns : Numbers). process ∷ ns.found) (numbers_none groups largest s middle none))
          ∙ pairs_half n end last (count - (k + 1)) process)

      module _ (counter after : ℕ) (second : read_number groups largest s middle ≡ Some (counter, after)) where
        both : numbers_from s next
            ≡ record { found = process ∷ counter ∷ (numbers_from s after).found; stop = (numbers_from s after).stop }
        both =
            numbers_more groups largest s next process middle first
            ∙ ap {B = Numbers} (λ (ns : Numbers). record { found = process ∷ ns.found; stop = ns.stop })
            (numbers_more groups largest s middle counter after second)

        step : pairs_formed n end 0 count (numbers_from s at).found
            ≡ (pair_formed n end last process counter && pairs_formed n end process (count - (k + 1)) (numbers_from s after).found)
        step =
            left_asked (process ∷ counter ∷ (numbers_from s after).found) (ap (λ (ns : Numbers). ns.found) both)
            ∙ pairs_more n end last (count - (k + 1)) process counter (numbers_from s after).found

        -- the pair is not formed
        pub sofar_refused : pair_formed n end last process counter ≡ false → None ≡ counted_read n end s at count
        sofar_refused e = not_counted n end s at count (step ∙ and_first (pair_formed n end last process counter) _ e)

        -- it is
        pub sofar_more : pair_formed n end last process counter ≡ true → (entry : Count) → entry.0 ≡ counter
            → Sofar n end s at count (set news (process - 1) entry) process after (k + 1)
        sofar_more e entry is =
            record {
              within = omega arith;
              long = simp length-set inv.long;
              stops = inv.stops ∙ ap (λ (ns : Numbers). ns.stop) both;
              asked = step ∙ ap (λ (b : Bool). b && pairs_formed n end process (count - (k + 1)) (numbers_from s after).found) e;
              carried = inv.carried ∙ ap (λ (ns : Numbers). news_in news ns.found) both
                  ∙ news_more news process counter (numbers_from s after).found
                  ∙ ap (λ (v : ℕ). news_in (set news (process - 1) (record { 0 = v })) (numbers_from s after).found) (sym is);
            }

  -- all are read
  module _ (h : count ≤ k) where
    none_left : count - k ≡ 0
    none_left = omega arith

    left_over : (numbers : List ℕ) → (numbers_from s next).found ≡ numbers
        → pairs_formed n end 0 count (numbers_from s at).found ≡ pairs_formed n end last zero numbers
    left_over numbers e =
        inv.asked ∙ ap (λ (m : ℕ). pairs_formed n end last m (numbers_from s next).found) none_left ∙ ap (pairs_formed n end last zero) e

    -- something follows them: a number, or what is none
    pub sofar_over : (next ≡ length s → ⊥) → None ≡ counted_read n end s at count
    sofar_over goes_on = go (read_number groups largest s next) refl
      where
        go : (r : Option (ℕ × ℕ)) → read_number groups largest s next ≡ r → None ≡ counted_read n end s at count
        go None e =
            let stop : (numbers_from s at).stop ≡ next = inv.stops ∙ ap (λ (ns : Numbers). ns.stop) (numbers_none groups largest s next e) in
            finds_none _ (and_first (eqb (numbers_from s at).stop (length s)) _ (rw stop (ne_eqb next (length s) goes_on)))
        go (Some (v, after)) e =
            not_counted n end s at count
            (left_over (v ∷ (numbers_from s after).found) (ap (λ (ns : Numbers). ns.found) (numbers_more groups largest s next v after e))
            ∙ pairs_over n end last v (numbers_from s after).found)

    -- the bytes end with them
    pub sofar_ended : next ≡ length s → Some news ≡ counted_read n end s at count
    sofar_ended ends =
        let rest : numbers_from s next ≡ record { found = []; stop = next }
        = numbers_none groups largest s next (read_past groups largest s next (omega arith)) in
        let stop : (numbers_from s at).stop ≡ length s = inv.stops ∙ ap (λ (ns : Numbers). ns.stop) rest ∙ ends in
        let all : pairs_formed n end 0 count (numbers_from s at).found ≡ true
        = left_over [] (ap (λ (ns : Numbers). ns.found) rest) ∙ pairs_done n end last in
        finds (ap (λ (b : Bool). eqb (numbers_from s at).stop (length s) && b) all ∙ and-true (eqb (numbers_from s at).stop (length s)) ∙ eq-eqb (numbers_from s at).stop (length s) stop)
        (sym (inv.carried ∙ ap (λ (ns : Numbers). news_in news ns.found) rest ∙ news_none news))

-- ---- the count before the pairs

pub no_count : (n end : ℕ) (s : List ℕ) (at : ℕ) → read_number groups largest s at ≡ None → None ≡ pairs_read n end s at
no_count n end s at none =
    finds_none _
    (ap (λ (ns : Numbers). eqb ns.stop (length s) && counted_formed n end ns.found) (numbers_none groups largest s at none)
    ∙ and_second (eqb at (length s)) false refl)

pub count_first : (n end : ℕ) (s : List ℕ) (at count first : ℕ) {read : Option (List Count)} → read_number groups largest s at ≡ Some (count, first)
    → read ≡ counted_read n end s first count → read ≡ pairs_read n end s at
count_first n end s at count first e counted =
    counted
    ∙ sym (ap (λ (ns : Numbers). pick (eqb ns.stop (length s) && counted_formed n end ns.found) (Some (news_counted ns.found)) None)
    (numbers_more groups largest s at count first e))
