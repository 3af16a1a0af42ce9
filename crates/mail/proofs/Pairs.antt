-- The pairs of a message as parts, one for each process: two numbers, or nothing.
use mathlib.Core.Path.{◌≡◌, refl, sym, ap, subst, ◌∙◌}
use mathlib.Core.List.{List, [], ◌++◌, append-nil}
use Prim.Native.Nat.{ℕ, suc, ◌+◌, ◌^◌, ◌≤◌, ◌<◌}
use native.Mathlib.Numerals.{add-one}
use native.Mathlib.Omega.{arith}
use borrow.Author.Tests.{eq-eqb, ne_eqb}
use lib.ListN.{length, length-append}
use Rattle.varint.specs.Number.{encode}
use Rattle.varint.specs.Sequence.{encode_all}
use Rattle.varint.proofs.WriteTurns.{size_most}
use Rattle.varint.proofs.Sequence.{encode_all_append}
use Rattle.book.specs.Bounds.{mark}
use Rattle.matrix.specs.Entries.{is_news}
use Rattle.message.specs.Layout.{one_pair, pairs_to}
use Rattle.mail.specs.Sizes.{number_most, pair_most}
use Rattle.mail.proofs.Turns.{Parts, Stored, stored_none, stored_more, stored_long}

-- the bytes of the pairs of the first k processes, and those of one process
abbrev pub pair_bytes : (ℕ → ℕ) → ℕ → List ℕ
pair_bytes news k = encode_all (pairs_to k news)

unfoldable pub pair_of : (ℕ → ℕ) → ℕ → List ℕ
pair_of news k = encode_all (one_pair (is_news (news k)) (suc k) (news k))

pub pair_parts : (news : ℕ → ℕ) → Parts (pair_bytes news) (pair_of news)
unfolding pairs_to pair_of encode_all
pair_parts news =
    record {
      none = refl;
      more = λ k. rw (add-one k) (encode_all_append (pairs_to k news) (one_pair (is_news (news k)) (suc k) (news k)));
    }

module _ (news : ℕ → ℕ) (k : ℕ) where
  module _ (differs : news k ≡ mark → ⊥) where
    -- a process of which there is news
    pair_there : pair_of news k ≡ encode (k + 1) ++ encode (news k)
    unfolding pair_of encode_all
    pair_there =
        rw (add-one k, ne_eqb (news k) mark differs)
        (ap (λ (l : List ℕ). encode (suc k) ++ l) (append-nil (encode (news k))))

    pair_long : length (pair_of news k) ≡ length (encode (k + 1)) + length (encode (news k))
    pair_long = ap length pair_there ∙ length-append (encode (k + 1)) (encode (news k))

    -- there is room for the process, and then for the counter
    pub process_room : (out : List ℕ) (next : ℕ) → next + length (pair_of news k) ≤ length out → next + length (encode (k + 1)) ≤ length out
    process_room out next h = omega (arith, pair_long)

    module _ {counter : ℕ} (e : counter ≡ news k) where
      pub pair_size : {a b : ℕ} → a ≡ length (encode (k + 1)) → b ≡ length (encode counter) → a + b ≡ length (pair_of news k)
      pair_size f g = omega (arith, pair_long, ap (λ (v : ℕ). length (encode v)) e)

      pub counter_room : (out : List ℕ) (next : ℕ) {out' : List ℕ} {next' : ℕ} → next + length (pair_of news k) ≤ length out
          → Stored (encode (k + 1)) out next out' next' → next' + length (encode counter) ≤ length out'
      counter_room out next h w =
          omega (arith, pair_long, ap (λ (v : ℕ). length (encode v)) e, w.0, stored_long (encode (k + 1)) out next w)

      pub pair_stored : (out : List ℕ) (next : ℕ) {out' out'' : List ℕ} {next' end : ℕ} → Stored (encode (k + 1)) out next out' next'
          → Stored (encode counter) out' next' out'' end → Stored (pair_of news k) out next out'' end
      pair_stored out next {out'} {out''} {next'} {end} v w =
          subst (λ (l : List ℕ). Stored l out next out'' end) (sym pair_there)
          (stored_more (encode (k + 1)) (encode (news k)) out next v
          (subst (λ (n : ℕ). Stored (encode n) out' next' out'' end) e w))

  -- a process of which there is none
  pub no_pair : news k ≡ mark → pair_of news k ≡ []
  unfolding pair_of encode_all
  no_pair equal = rw (eq-eqb (news k) mark equal)

  pub no_pair_stored : news k ≡ mark → (out : List ℕ) (next : ℕ) → Stored (pair_of news k) out next out next
  no_pair_stored equal out next = subst (λ (l : List ℕ). Stored l out next out next) (sym (no_pair equal)) (stored_none out next)

-- a number of 64 bits
pub number_few : (v : ℕ) {n : ℕ} → v < 2 ^ 64 → n ≡ length (encode v) → n ≤ number_most
number_few v h e = rw e (size_most v h)

-- a process and a counter, of 64 bits each
pub pair_few : {process counter a b : ℕ} → process < 2 ^ 64 → counter < 2 ^ 64 → a ≡ length (encode process) → b ≡ length (encode counter)
    → a + b ≤ pair_most
pair_few {process} {counter} h m e f =
    omega (arith, size_most process h, size_most counter m)
