-- A list channel by channel, from process a to process b, and the messages that it names there.
use mathlib.Core.Path.{◌≡◌, refl, sym, ap, ◌∙◌}
use mathlib.Core.Bool.{Bool, true, false, true≢false}
use mathlib.Core.List.{List, [], ◌∷◌, ◌++◌, append-nil}
use Prim.Native.Nat.{ℕ, zero, suc, ◌+◌, ◌-◌, ◌*◌, ◌/◌, ◌%◌, ◌≤◌, ◌<◌}
use native.Mathlib.Decide.{dec_lt}
use native.Mathlib.Omega.{arith}
use borrow.Author.Tests.{lt-ltb, le-ltb}
use lib.ListN.{length, drop, get_or}
use lib.Seq.{drop-append_seam}
use Rattle.book.specs.declared.Count.{Count}
use Rattle.book.specs.Bounds.{largest}
use Rattle.lists.specs.Over.{tab_from}
use Rattle.lists.specs.Pick.{pick}
use Rattle.consistency.specs.Known.{counters}
use Rattle.matrix.specs.Matrix.{entry}
use Rattle.restart.specs.declared.Resend.{Resend}
use Rattle.restart.specs.Plan.{first_missing, last_missing}
use Rattle.resend.specs.Layout.{has_entry}
use Rattle.resend_laws.specs.Lists.{IsList, messages, first_on, last_on}
use Rattle.resend_laws.proofs.Written.{no_entry, some_has}
use Rattle.resend_laws.proofs.Taken.{IsLong, same_list}

-- ---- a list by its channels

pub record OnChannel (n a b first last : ℕ) : Type 0 where
  pub none : has_entry first ≡ false → last ≡ 0
  pub some : has_entry first ≡ true → (a < n) × (b < n) × (a ≡ b → ⊥) × (first ≤ last) × (last ≤ largest)

-- a place in a matrix is that of a channel
at_channel : (l : List Count) (i : ℕ) → counters l i ≡ entry l (i / 16) (i % 16)
at_channel l i = let e : i ≡ i / 16 * 16 + i % 16 = omega arith in ap (counters l) e

pub channels_list : (n : ℕ) (list : Resend) → IsLong list
    → ((a b : ℕ) → a < 16 → b < 16 → OnChannel n a b (first_on list a b) (last_on list a b)) → IsList n list
channels_list n list long on = record {
  firsts = long.firsts;
  lasts = long.lasts;
  none = λ i h e. at_channel list.last i ∙ (on (i / 16) (i % 16) (omega arith) (omega arith)).none (rw (at_channel list.first i) at e);
  some = λ i h e.
      let is = (on (i / 16) (i % 16) (omega arith) (omega arith)).some (rw (at_channel list.first i) at e) in
      rw (at_channel list.first i, at_channel list.last i)
      (record { sender = is.0; receiver = is.1; other = is.2; rising = is.3; most = is.4 });
}

pub list_channel : (n : ℕ) (list : Resend) → IsList n list → (a b : ℕ) → a < 16 → b < 16
    → OnChannel n a b (first_on list a b) (last_on list a b)
list_channel n list is a b h o =
    let i : ℕ = a * 16 + b in
    let down : i / 16 ≡ a = omega arith in
    let across : i % 16 ≡ b = omega arith in
    record {
      none = is.none i (omega arith);
      some = λ e.
          let at = is.some i (omega arith) e in (
            omega (arith, at.sender),
            omega (arith, at.receiver),
            λ same. at.other (omega arith),
            at.rising,
            at.most,
          );
    }

-- none for absent processes
pub channel_absent : (n a b first last : ℕ) → OnChannel n a b first last → (a < n → b < n → ⊥) → (first ≡ 0) × (last ≡ 0)
channel_absent n a b first last on absent = go (has_entry first) refl
  where
    go : (t : Bool) → has_entry first ≡ t → (first ≡ 0) × (last ≡ 0)
    go true e = let is = on.some e in absurd (absent is.0 is.1)
    go false e = (no_entry first e, on.none e)

-- two lists with the same entries on every channel
pub same_channels : (x y : Resend) → IsLong x → IsLong y
    → ((a b : ℕ) → a < 16 → b < 16 → (first_on x a b ≡ first_on y a b) × (last_on x a b ≡ last_on y a b)) → x ≡ y
same_channels x y long long' same =
    same_list x y long long' (λ i h.
    let at = same (i / 16) (i % 16) (omega arith) (omega arith) in (
      at_channel x.first i ∙ at.0 ∙ sym (at_channel y.first i),
      at_channel x.last i ∙ at.1 ∙ sym (at_channel y.last i),
    ))

-- ---- the messages of a channel

-- one run after another
tab_join : (i k m : ℕ) (f : ℕ → ℕ) → tab_from i k f ++ tab_from (i + k) m f ≡ tab_from i (k + m) f
unfolding tab_from
tab_join i zero m f =
    let e : i + 0 ≡ i = omega arith in
    let e' : 0 + m ≡ m = omega arith in
    rw (e, e')
tab_join i (suc k) m f =
    let e : i + suc k ≡ suc i + k = omega arith in
    let e' : suc k + m ≡ suc (k + m) = omega arith in
    rw (e, e') (ap (λ (l : List ℕ). f i ∷ l) (tab_join (suc i) k m f))

tab_length : (i k : ℕ) (f : ℕ → ℕ) → length (tab_from i k f) ≡ k
unfolding tab_from
tab_length i zero f = refl
tab_length i (suc k) f = let ih = tab_length (suc i) k f in omega arith

tab_first : (i k : ℕ) (f : ℕ → ℕ) → get_or (tab_from i (suc k) f) 0 0 ≡ f i
unfolding tab_from
tab_first i k f = refl

abbrev run : ℕ → ℕ → List ℕ
run first k = tab_from first k (λ i. i)

messages_join : (r s : ℕ) → r ≤ s → messages 1 r ++ messages (r + 1) s ≡ messages 1 s
messages_join r s h =
    let before : messages 1 r ≡ run 1 r = ap (run 1) (omega arith) in
    let length_on : s + 1 - (r + 1) ≡ s - r = omega arith in
    let from_on : r + 1 ≡ 1 + r = omega arith in
    let on : messages (r + 1) s ≡ run (1 + r) (s - r) = ap (run (r + 1)) length_on ∙ ap (λ (i : ℕ). run i (s - r)) from_on in
    let all : r + (s - r) ≡ s + 1 - 1 = omega arith in
    ap (λ (l : List ℕ). l ++ messages (r + 1) s) before
    ∙ ap (λ (l : List ℕ). run 1 r ++ l) on
    ∙ tab_join 1 r (s - r) (λ i. i)
    ∙ ap (run 1) all

module _ (first last : ℕ) (h : first ≤ last) where
  messages_length : length (messages first last) ≡ last + 1 - first
  messages_length = tab_length first (last + 1 - first) (λ i. i)

  messages_first : get_or (messages first last) 0 0 ≡ first
  messages_first =
      let e : last + 1 - first ≡ suc (last - first) = omega arith in
      ap (λ (k : ℕ). get_or (run first k) 0 0) e ∙ tab_first first (last - first) (λ i. i)

-- messages after the same others are the same
pub same_rest : (p x y : List ℕ) → p ++ x ≡ p ++ y → x ≡ y
same_rest p x y e = sym (drop-append_seam p x) ∙ ap (drop (length p)) e ∙ drop-append_seam p y

-- the entries of two lists that name the same messages
pub same_messages : (n a b f l f' l' : ℕ) → OnChannel n a b f l → OnChannel n a b f' l'
    → pick (has_entry f) (messages f l) [] ≡ pick (has_entry f') (messages f' l') [] → (f ≡ f') × (l ≡ l')
same_messages n a b f l f' l' on on' same = go (has_entry f) refl (has_entry f') refl
  where
    go : (t : Bool) → has_entry f ≡ t → (u : Bool) → has_entry f' ≡ u → (f ≡ f') × (l ≡ l')
    go true e true e' =
        let h : f ≤ l = (on.some e).3 in
        let h' : f' ≤ l' = (on'.some e').3 in
        let eq : messages f l ≡ messages f' l' = rw (e, e') at same in
        let begins : f ≡ f' = sym (messages_first f l h) ∙ ap (λ (z : List ℕ). get_or z 0 0) eq ∙ messages_first f' l' h' in
        (begins, omega (arith, messages_length f l h, messages_length f' l' h', ap length eq))
    go true e false e' =
        let h : f ≤ l = (on.some e).3 in
        let eq : messages f l ≡ [] = rw (e, e') at same in
        absurd (omega (arith, messages_length f l h, ap length eq))
    go false e true e' =
        let h' : f' ≤ l' = (on'.some e').3 in
        let eq : [] ≡ messages f' l' = rw (e, e') at same in
        absurd (omega (arith, messages_length f' l' h', ap length eq))
    go false e false e' = (no_entry f e ∙ sym (no_entry f' e'), on.none e ∙ sym (on'.none e'))

-- ---- what is missing

-- one past the received count to the sent count, or nothing
pub missing_completes : (r s : ℕ) → r ≤ s
    → messages 1 r ++ pick (has_entry (first_missing r s)) (messages (first_missing r s) (last_missing r s)) [] ≡ messages 1 s
missing_completes r s h =
    elim (dec_lt r s) [
      | yes m ↦ rw (lt-ltb r s m, some_has (r + 1) (omega arith)) (messages_join r s h)
      | no m ↦ let e : r ≡ s = omega arith in rw (le-ltb r s (omega arith), e) (append-nil (messages 1 s))
    ]

pub missing_exactly : (r s : ℕ) → r ≤ s
    → (has_entry (first_missing r s) ≡ true → (r < s) × (first_missing r s ≡ r + 1) × (last_missing r s ≡ s))
    × (has_entry (first_missing r s) ≡ false → r ≡ s)
missing_exactly r s h =
    elim (dec_lt r s) [
      | yes m ↦ rw (lt-ltb r s m) (λ e. (m, refl, refl), λ e. absurd (true≢false (sym (some_has (r + 1) (omega arith)) ∙ e)))
      | no m ↦ rw (le-ltb r s (omega arith)) (λ e. absurd (true≢false (sym e)), λ e. omega arith)
    ]

pub missing_channel : (n a b r s : ℕ) → a < n → b < n → (a ≡ b → r ≡ s) → s ≤ largest → OnChannel n a b (first_missing r s) (last_missing r s)
missing_channel n a b r s h o own most =
    elim (dec_lt r s) [
      | yes m ↦
          let other : (a ≡ b → ⊥) = λ e. absurd (omega (arith, own e)) in
          rw (lt-ltb r s m)
          (record {
            none = λ e. absurd (true≢false (sym (some_has (r + 1) (omega arith)) ∙ e));
            some = λ e. (h, o, other, omega arith, most);
          })
      | no m ↦ rw (le-ltb r s (omega arith)) (record { none = λ e. refl; some = λ e. absurd (true≢false (sym e)) })
    ]
