-- When a head is formed, and the numbers that hold one.
use Rattle.std.specs.Prelude.{Some, None}
use mathlib.Core.Path.{◌≡◌, refl, ap, ◌∙◌}
use mathlib.Core.Bool.{true, false, ◌||◌, not}
use mathlib.Core.List.{List, ◌∷◌}
use Prim.Native.Nat.{ℕ}
use lib.Dec.{eqb}
use borrow.Author.Tests.{ne_eqb}
use Rattle.varint.specs.Number.{read_number}
use Rattle.varint.specs.Sequence.{Numbers}
use Rattle.varint.proofs.Sequence.{numbers_none, numbers_more}
use Rattle.book.specs.Bounds.{groups, largest}
use Rattle.lists.proofs.Tests.{and_first, and_second}
use Rattle.book.specs.Read.{numbers_from}
use Rattle.book.specs.Names.{is_purpose, is_named}
use Rattle.message.specs.Formed.{is_kind, head_formed, begin_formed}
use Rattle.message.specs.Parts.{HeadFound}

-- ---- the three numbers

pub is_kind_1 : (kind : ℕ) → kind ≡ 1 → is_kind kind ≡ true
is_kind_1 kind e = rw e

pub is_kind_2 : (kind : ℕ) → kind ≡ 2 → is_kind kind ≡ true
is_kind_2 kind e = rw e

module _ (n kind purpose sender : ℕ) where
  pub head_no_kind : (kind ≡ 1 → ⊥) → (kind ≡ 2 → ⊥) → head_formed n kind purpose sender ≡ false
  unfolding head_formed
  head_no_kind h k = rw (ne_eqb kind 1 h, ne_eqb kind 2 k)

  pub head_no_purpose : is_purpose purpose ≡ false → head_formed n kind purpose sender ≡ false
  unfolding head_formed
  head_no_purpose e = and_second (is_kind kind) _ (and_first (is_purpose purpose) _ e)

  pub head_no_sender : is_named n sender ≡ false → head_formed n kind purpose sender ≡ false
  unfolding head_formed
  head_no_sender e = and_second (is_kind kind) _ (and_second (is_purpose purpose) _ (and_first (is_named n sender) _ e))

  -- what is left to ask is whether purpose 2 stands in an invitation
  pub head_last : is_kind kind ≡ true → is_purpose purpose ≡ true → is_named n sender ≡ true
      → head_formed n kind purpose sender ≡ (not (eqb purpose 2) || eqb kind 1)
  unfolding head_formed
  head_last k p m = rw (k, p, m)

-- ---- a head in bytes

module _ (n : ℕ) (s : List ℕ) where
  pub no_first : read_number groups largest s 0 ≡ None → begin_formed n (numbers_from s 0).found ≡ false
  no_first none =
      ap (λ (ns : Numbers). begin_formed n ns.found) (numbers_none groups largest s 0 none) ∙ head_no_purpose n 0 0 0 refl

  module _ (kind second : ℕ) (first : read_number groups largest s 0 ≡ Some (kind, second)) where
    begin_one : numbers_from s 0 ≡ record { found = kind ∷ (numbers_from s second).found; stop = (numbers_from s second).stop }
    begin_one = numbers_more groups largest s 0 kind second first

    pub no_second : read_number groups largest s second ≡ None → begin_formed n (numbers_from s 0).found ≡ false
    no_second none =
        ap (λ (ns : Numbers). begin_formed n ns.found) begin_one
        ∙ ap (λ (ns : Numbers). begin_formed n (kind ∷ ns.found)) (numbers_none groups largest s second none)
        ∙ head_no_purpose n kind 0 0 refl

    module _ (purpose third : ℕ) (then' : read_number groups largest s second ≡ Some (purpose, third)) where
      begin_two : numbers_from s 0
          ≡ record { found = kind ∷ purpose ∷ (numbers_from s third).found; stop = (numbers_from s third).stop }
      begin_two =
          begin_one
          ∙ ap {B = Numbers} (λ (ns : Numbers). record { found = kind ∷ ns.found; stop = ns.stop })
          (numbers_more groups largest s second purpose third then')

      pub no_third : read_number groups largest s third ≡ None → begin_formed n (numbers_from s 0).found ≡ false
      no_third none =
          ap (λ (ns : Numbers). begin_formed n ns.found) begin_two
          ∙ ap (λ (ns : Numbers). begin_formed n (kind ∷ purpose ∷ ns.found)) (numbers_none groups largest s third none)
          ∙ head_no_sender n kind purpose 0 refl

      module _ (sender next : ℕ) (last : read_number groups largest s third ≡ Some (sender, next)) where
        begin_three : numbers_from s 0
            ≡ record { found = kind ∷ purpose ∷ sender ∷ (numbers_from s next).found; stop = (numbers_from s next).stop }
        begin_three =
            begin_two
            ∙ ap {B = Numbers} (λ (ns : Numbers). record { found = kind ∷ purpose ∷ ns.found; stop = ns.stop })
            (numbers_more groups largest s third sender next last)

        pub not_formed : head_formed n kind purpose sender ≡ false → begin_formed n (numbers_from s 0).found ≡ false
        not_formed e = ap (λ (ns : Numbers). begin_formed n ns.found) begin_three ∙ e

        pub head_found : head_formed n kind purpose sender ≡ true
            → HeadFound n s (Some (record { kind = kind; purpose = purpose; sender = record { 0 = sender } }, next))
        head_found e = (begin_three, e)
