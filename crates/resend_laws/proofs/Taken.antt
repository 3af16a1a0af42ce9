-- Entries taken into a list: those of a list make it again, and those that pass their questions are the entries of the list that they make.
use mathlib.Core.Path.{◌≡◌, refl, sym, ap, subst, ◌∙◌}
use mathlib.Core.Bool.{Bool, true, false, true≢false}
use mathlib.Core.List.{List, [], ◌∷◌, ◌++◌, append-nil, append_assoc}
use Prim.Native.Nat.{ℕ, zero, suc, ◌+◌, ◌/◌, ◌%◌, ◌≤◌, ◌<◌}
use native.Mathlib.Decide.{ℕ_discrete}
use native.Mathlib.Omega.{arith}
use lib.ListN.{length, set, length-set, length-replicate}
use lib.Seq.{ext_get_or, get_or-set_same, get_or-set_other}
use Rattle.book.specs.declared.Count.{Count}
use Rattle.book.specs.Bounds.{largest}
use Rattle.book.proofs.Values.{tally, tally_of}
use Rattle.lists.proofs.Over.{replicate_at}
use Rattle.consistency.specs.Known.{counters}
use Rattle.restart.specs.declared.Resend.{Resend}
use Rattle.restart.specs.Calls.{no_resend}
use Rattle.resend.specs.Layout.{has_entry, entries_to, entry_count_to, channel_at, with_entry, entries_in}
use Rattle.resend.specs.Questions.{entries_question}
use Rattle.resend.proofs.Entries.{taken_none, taken_more, written_none}
use Rattle.resend_laws.specs.Lists.{IsEntry, IsList}
use Rattle.resend_laws.proofs.Asked.{AtMost, behind, IsBehind, Entry, entry_behind, asked_induction, asked_length, none_behind}
use Rattle.resend_laws.proofs.Written.{no_entry, zero_none, some_has, to_some, to_length, to_stay, to_ext, entries_from, from_none, from_some}

-- ---- a list by its entries

abbrev pub first : Resend → ℕ → ℕ
first list = counters list.first

abbrev pub last : Resend → ℕ → ℕ
last list = counters list.last

-- both matrices are whole
pub record IsLong (list : Resend) : Type 0 where
  pub firsts : length list.first ≡ 256
  pub lasts : length list.last ≡ 256

same_matrix : (l m : List Count) → length l ≡ 256 → length m ≡ 256 → ((i : ℕ) → i < 256 → counters l i ≡ counters m i) → l ≡ m
same_matrix l m long long' same = ext_get_or (tally 0) l m (long ∙ sym long') (λ i h. tally_of (same i (omega (arith, long))))

-- two lists with the same entries
pub same_list : (x y : Resend) → IsLong x → IsLong y → ((i : ℕ) → i < 256 → (first x i ≡ first y i) × (last x i ≡ last y i)) → x ≡ y
same_list x y long long' same =
    let firsts : x.first ≡ y.first = same_matrix x.first y.first long.firsts long'.firsts (λ i h. (same i h).0) in
    let lasts : x.last ≡ y.last = same_matrix x.last y.last long.lasts long'.lasts (λ i h. (same i h).1) in
    ap {B = Resend} (λ (m : List Count). record { first = m; last = x.last }) firsts
    ∙ ap {B = Resend} (λ (m : List Count). record { first = y.first; last = m }) lasts

-- ---- a list with one entry set

set_here : (l : List Count) (q v : ℕ) → q < length l → counters (set l q (tally v)) q ≡ v
set_here l q v h = ap (λ (r : Count). r.0) (get_or-set_same l q (tally v) (tally 0) h)

set_there : (l : List Count) (q i v : ℕ) → (i ≡ q → ⊥) → counters (set l q (tally v)) i ≡ counters l i
set_there l q i v ne = ap (λ (r : Count). r.0) (get_or-set_other l q i (tally v) (tally 0) ne)

module _ (list : Resend) (long : IsLong list) (a b f l : ℕ) where
  with_long : IsLong (with_entry list a b f l)
  with_long = record {
    firsts = length-set list.first (channel_at a b) (tally f) ∙ long.firsts;
    lasts = length-set list.last (channel_at a b) (tally l) ∙ long.lasts;
  }

  with_here : channel_at a b < 256
      → (first (with_entry list a b f l) (channel_at a b) ≡ f) × (last (with_entry list a b f l) (channel_at a b) ≡ l)
  with_here h = (
    set_here list.first (channel_at a b) f (omega (arith, long.firsts)),
    set_here list.last (channel_at a b) l (omega (arith, long.lasts)),
  )

  with_there : (i : ℕ) → (i ≡ channel_at a b → ⊥)
      → (first (with_entry list a b f l) i ≡ first list i) × (last (with_entry list a b f l) i ≡ last list i)
  with_there i ne = (set_there list.first (channel_at a b) i f ne, set_there list.last (channel_at a b) i l ne)

-- ---- nothing to send again

none_long : IsLong no_resend
none_long = record { firsts = length-replicate 256 (tally 0); lasts = length-replicate 256 (tally 0) }

none_zero : (i : ℕ) → (first no_resend i ≡ 0) × (last no_resend i ≡ 0)
none_zero i =
    let e : counters no_resend.first i ≡ 0 = ap (λ (r : Count). r.0) (replicate_at 256 (tally 0) i) in (e, e)

-- ---- the entries of a list make it again

-- the first k entries are those of f and l, the others none
record Told (f l : ℕ → ℕ) (k : ℕ) (list : Resend) : Type 0 where
  long : IsLong list
  before : (i : ℕ) → i < k → (first list i ≡ f i) × (last list i ≡ l i)
  after : (i : ℕ) → k ≤ i → i < 256 → (first list i ≡ 0) × (last list i ≡ 0)

module _ (f l : ℕ → ℕ) where
  told_none : Told f l 0 no_resend
  told_none = record { long = none_long; before = λ i h. absurd (omega arith); after = λ i a b. none_zero i }

  told_same : (k : ℕ) (list : Resend) → k < 256 → f k ≡ 0 → l k ≡ 0 → Told f l k list → Told f l (suc k) list
  told_same k list h e e' told = record {
    long = told.long;
    before = λ i m. elim (ℕ_discrete i k) [
      | yes q ↦ let z = told.after k (omega arith) h in rw q (z.0 ∙ sym e, z.1 ∙ sym e')
      | no ne ↦ told.before i (omega arith)
    ];
    after = λ i a b. told.after i (omega arith) b;
  }

  told_more : (k a b : ℕ) (list : Resend) → k < 256 → channel_at a b ≡ k → Told f l k list → Told f l (suc k) (with_entry list a b (f k) (l k))
  told_more k a b list h at told = record {
    long = with_long list told.long a b (f k) (l k);
    before = λ i m. elim (ℕ_discrete i k) [
      | yes q ↦ here i (q ∙ sym at)
      | no ne ↦
          let same = with_there list told.long a b (f k) (l k) i (λ e. absurd (omega arith)) in
          let was = told.before i (omega arith) in
          (same.0 ∙ was.0, same.1 ∙ was.1)
    ];
    after = λ i m o.
        let same = with_there list told.long a b (f k) (l k) i (λ e. absurd (omega arith)) in
        let was = told.after i (omega arith) o in
        (same.0 ∙ was.0, same.1 ∙ was.1);
  }
    where
      here : (i : ℕ) → i ≡ channel_at a b
          → (first (with_entry list a b (f k) (l k)) i ≡ f i) × (last (with_entry list a b (f k) (l k)) i ≡ l i)
      here i e =
          let at_it = with_here list told.long a b (f k) (l k) (omega arith) in
          let place : k ≡ i = omega arith in
          (ap (first (with_entry list a b (f k) (l k))) e ∙ at_it.0 ∙ ap f place, ap (last (with_entry list a b (f k) (l k))) e ∙ at_it.1 ∙ ap l place)

  module _ (none : (i : ℕ) → i < 256 → has_entry (f i) ≡ false → l i ≡ 0) where
    told_from : (k i : ℕ) (list : Resend) → i + k ≡ 256 → Told f l i list → Told f l 256 (entries_in list (entries_from i k f l))
    unfolding entries_from
    told_from zero i list all told = let e : i ≡ 256 = omega arith in rw (taken_none list) (subst (λ (k : ℕ). Told f l k list) e told)
    told_from (suc k) i list all told = go (has_entry (f i)) refl (told_from k (suc i))
      where
        go : (t : Bool) → has_entry (f i) ≡ t
            → ((next : Resend) → suc i + k ≡ 256 → Told f l (suc i) next → Told f l 256 (entries_in next (entries_from (suc i) k f l)))
            → Told f l 256 (entries_in list (entries_from i (suc k) f l))
        go false e ih =
            rw (from_none f l i k e).0
            (ih list (omega arith) (told_same i list (omega arith) (no_entry (f i) e) (none i (omega arith) e) told))
        go true e ih =
            let a : ℕ = suc (i / 16) in
            let b : ℕ = suc (i % 16) in
            let place : channel_at a b ≡ i = omega arith in
            rw ((from_some f l i k e).0, taken_more list a b (f i) (l i) (entries_from (suc i) k f l))
            (ih (with_entry list a b (f i) (l i)) (omega arith) (told_more i a b list (omega arith) place told))

-- taken into a list of none
pub list_back : (list : Resend) → IsLong list → ((i : ℕ) → i < 256 → has_entry (first list i) ≡ false → last list i ≡ 0)
    → entries_in no_resend (entries_from 0 256 (first list) (last list)) ≡ list
list_back list long none =
    let told = told_from (first list) (last list) none 256 0 no_resend refl (told_none (first list) (last list)) in
    same_list (entries_in no_resend (entries_from 0 256 (first list) (last list))) list told.long long told.before

-- ---- and back

-- the entries of a list that entries were taken into: it had none from their place on
taken_entries : (n : ℕ) → n ≤ 16 → (ended : Bool) (s r count : ℕ) (xs : List ℕ) → IsBehind s r → entries_question n s r count ended xs ≡ 0
    → (list : Resend) → IsLong list → ((i : ℕ) → behind s r ≤ i → i < 256 → first list i ≡ 0) → behind s r ≤ 256
    → entries_to 256 (first (entries_in list xs)) (last (entries_in list xs)) ≡ entries_to (behind s r) (first list) (last list) ++ xs
taken_entries n few ended s r count xs at h =
    asked_induction n few ended
    (λ place c ys. (list : Resend) → IsLong list → ((i : ℕ) → place ≤ i → i < 256 → first list i ≡ 0) → place ≤ 256
    → entries_to 256 (first (entries_in list ys)) (last (entries_in list ys)) ≡ entries_to place (first list) (last list) ++ ys)
    (λ place e list long none within.
    rw (taken_none list) (to_stay (first list) (last list) place 256 within none ∙ sym (append-nil (entries_to place (first list) (last list)))))
    (λ place c a b f l ys e ih list long none within. more place a b f l ys e ih list long none)
    s r count xs at h
  where
    more : (place a b f l : ℕ) (ys : List ℕ) → Entry n place a b f l
        → ((list : Resend) → IsLong list → ((i : ℕ) → suc (channel_at a b) ≤ i → i < 256 → first list i ≡ 0) → suc (channel_at a b) ≤ 256
        → entries_to 256 (first (entries_in list ys)) (last (entries_in list ys)) ≡ entries_to (suc (channel_at a b)) (first list) (last list) ++ ys)
        → (list : Resend) → IsLong list → ((i : ℕ) → place ≤ i → i < 256 → first list i ≡ 0)
        → entries_to 256 (first (entries_in list (a ∷ b ∷ f ∷ l ∷ ys))) (last (entries_in list (a ∷ b ∷ f ∷ l ∷ ys)))
        ≡ entries_to place (first list) (last list) ++ a ∷ b ∷ f ∷ l ∷ ys
    more place a b f l ys e ih list long none =
        let q : ℕ = channel_at a b in
        let inside : q < 256 = (entry_behind n place a b f l few e).2 in
        let next : Resend = with_entry list a b f l in
        let here = with_here list long a b f l inside in
        let sender : suc (q / 16) ≡ a = omega (arith, e.from.0, e.to.0, e.to.1) in
        let receiver : suc (q % 16) ≡ b = omega (arith, e.from.0, e.to.0, e.to.1) in
        let was : entries_to q (first next) (last next) ≡ entries_to place (first list) (last list)
        = to_ext q (first next) (first list) (last next) (last list) (λ i m. with_there list long a b f l i (λ eq. absurd (omega arith)))
        ∙ to_stay (first list) (last list) place q e.rising (λ i m o. none i m (omega arith)) in
        let has : has_entry (first next q) ≡ true = some_has (first next q) (omega (arith, here.0, e.some)) in
        let both : entries_to (suc q) (first next) (last next) ≡ entries_to place (first list) (last list) ++ a ∷ b ∷ f ∷ l ∷ []
        = to_some (first next) (last next) q has ∙ rw (was, sender, receiver, here.0, here.1) in
        rw (taken_more list a b f l ys)
        (ih next (with_long list long a b f l)
        (λ i m o. (with_there list long a b f l i (λ eq. absurd (omega arith))).0 ∙ none i (omega (arith, e.rising)) o) inside
        ∙ (ap (λ (zs : List ℕ). zs ++ ys) both ∙ append_assoc (entries_to place (first list) (last list)) (a ∷ b ∷ f ∷ l ∷ []) ys))

-- entries that pass are those of the list that they make, and so is their count
pub entries_back : (n : ℕ) → n ≤ 16 → (ended : Bool) (count : ℕ) (xs : List ℕ) → entries_question n 0 0 count ended xs ≡ 0
    → let list : Resend = entries_in no_resend xs in
    (entries_to 256 (first list) (last list) ≡ xs) × (entry_count_to 256 (first list) ≡ count)
entries_back n few ended count xs h =
    let list : Resend = entries_in no_resend xs in
    let same : entries_to 256 (first list) (last list) ≡ xs
    = taken_entries n few ended 0 0 count xs none_behind h no_resend none_long (λ i m o. (none_zero i).0) (omega arith)
    ∙ ap (λ (zs : List ℕ). zs ++ xs) (written_none (first no_resend) (last no_resend)) in
    (same, omega (arith, to_length (first list) (last list) 256, ap length same, asked_length n few ended 0 0 count xs none_behind h))

-- ---- the list that they make

none_is_list : (n : ℕ) → IsList n no_resend
none_is_list n = record {
  firsts = none_long.firsts;
  lasts = none_long.lasts;
  none = λ i m e. (none_zero i).1;
  some = λ i m e. absurd (true≢false (sym e ∙ zero_none (first no_resend i) (none_zero i).0));
}

-- one entry more
with_is_list : (n place a b f l : ℕ) (list : Resend) → n ≤ 16 → Entry n place a b f l → l ≤ largest → IsList n list
    → IsList n (with_entry list a b f l)
with_is_list n place a b f l list few e most is = record {
  firsts = (with_long list long a b f l).firsts;
  lasts = (with_long list long a b f l).lasts;
  none = λ i m no'. elim (ℕ_discrete i (channel_at a b)) [
    | yes q ↦ absurd (omega (arith, no_entry (first next i) no', ap (first next) q, here.0, e.some))
    | no ne ↦
        let same = with_there list long a b f l i ne in
        same.1 ∙ is.none i m (rw same.0 at no')
  ];
  some = λ i m yes'. elim (ℕ_discrete i (channel_at a b)) [
    | yes q ↦ rw (q, here.0, here.1) entry
    | no ne ↦
        let same = with_there list long a b f l i ne in
        rw (same.0, same.1) (is.some i m (rw same.0 at yes'))
  ];
}
  where
    next : Resend
    next = with_entry list a b f l

    long : IsLong list
    long = record { firsts = is.firsts; lasts = is.lasts }

    here : (first (with_entry list a b f l) (channel_at a b) ≡ f) × (last (with_entry list a b f l) (channel_at a b) ≡ l)
    here = with_here list long a b f l (entry_behind n place a b f l few e).2

    entry : IsEntry n (channel_at a b) f l
    entry =
        let from = e.from in
        let to = e.to in
        record {
          sender = omega arith;
          receiver = omega arith;
          other = λ same. e.other (omega arith);
          rising = e.ordered;
          most = most;
        }

pub taken_is_list : (n : ℕ) → n ≤ 16 → (ended : Bool) (count : ℕ) (xs : List ℕ) → entries_question n 0 0 count ended xs ≡ 0 → AtMost largest xs
    → IsList n (entries_in no_resend xs)
taken_is_list n few ended count xs h most =
    asked_induction n few ended (λ place c ys. AtMost largest ys → (list : Resend) → IsList n list → IsList n (entries_in list ys))
    (λ place e none list is. rw (taken_none list) is)
    (λ place c a b f l ys e ih small list is.
    rw (taken_more list a b f l ys)
    (ih (λ i m. small (suc (suc (suc (suc i)))) (omega arith)) (with_entry list a b f l)
    (with_is_list n place a b f l list few e (small 3 (omega arith)) is)))
    0 0 count xs none_behind h most no_resend (none_is_list n)
