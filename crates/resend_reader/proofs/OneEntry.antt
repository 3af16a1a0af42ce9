-- The four numbers of an entry at a place.
use Rattle.std.specs.Prelude.{Some, None}
use mathlib.Core.Path.{◌≡◌, sym, ap, subst, ◌∙◌}
use mathlib.Core.List.{List, [], ◌∷◌}
use Prim.Native.Nat.{ℕ, ◌<◌}
use native.Mathlib.Omega.{arith}
use lib.ListN.{length}
use Rattle.varint.specs.Number.{read_number}
use Rattle.varint.specs.Sequence.{Numbers}
use Rattle.varint.proofs.Reading.{read_next}
use Rattle.varint.proofs.Sequence.{numbers_none, numbers_more}
use Rattle.book.specs.Bounds.{groups, largest}
use Rattle.book.specs.Read.{numbers_from}
use Rattle.resend_reader.specs.Parts.{EntryFound}

module _ (s : List ℕ) (at : ℕ) where
  not_four : (ns : Numbers) → numbers_from s at ≡ ns → length ns.found < 4 → length (numbers_from s at).found < 4
  not_four ns e h = subst (λ (ns : Numbers). length ns.found < 4) (sym e) h

  pub no_sender : read_number groups largest s at ≡ None → length (numbers_from s at).found < 4
  no_sender none = not_four (record { found = []; stop = at }) (numbers_none groups largest s at none) (omega arith)

  module _ (sender second : ℕ) (read_sender : read_number groups largest s at ≡ Some (sender, second)) where
    one : numbers_from s at ≡ record { found = sender ∷ (numbers_from s second).found; stop = (numbers_from s second).stop }
    one = numbers_more groups largest s at sender second read_sender

    pub no_receiver : read_number groups largest s second ≡ None → length (numbers_from s at).found < 4
    no_receiver none =
        not_four (record { found = sender ∷ []; stop = second })
        (one ∙ ap {B = Numbers} (λ (ns : Numbers). record { found = sender ∷ ns.found; stop = ns.stop }) (numbers_none groups largest s second none))
        (omega arith)

    module _ (receiver third : ℕ) (read_receiver : read_number groups largest s second ≡ Some (receiver, third)) where
      two : numbers_from s at
          ≡ record { found = sender ∷ receiver ∷ (numbers_from s third).found; stop = (numbers_from s third).stop }
      two =
          one
          ∙ ap {B = Numbers} (λ (ns : Numbers). record { found = sender ∷ ns.found; stop = ns.stop })
          (numbers_more groups largest s second receiver third read_receiver)

      pub no_first : read_number groups largest s third ≡ None → length (numbers_from s at).found < 4
      no_first none =
          not_four (record { found = sender ∷ receiver ∷ []; stop = third })
          (two
          ∙ ap {B = Numbers} (λ (ns : Numbers). record { found = sender ∷ receiver ∷ ns.found; stop = ns.stop })
          (numbers_none groups largest s third none))
          (omega arith)

      module _ (first fourth : ℕ) (read_first : read_number groups largest s third ≡ Some (first, fourth)) where
        three : numbers_from s at
            ≡ record { found = sender ∷ receiver ∷ first ∷ (numbers_from s fourth).found; stop = (numbers_from s fourth).stop }
        three =
            two
            ∙ ap {B = Numbers} (λ (ns : Numbers). record { found = sender ∷ receiver ∷ ns.found; stop = ns.stop })
            (numbers_more groups largest s third first fourth read_first)

        pub no_last : read_number groups largest s fourth ≡ None → length (numbers_from s at).found < 4
        no_last none =
            not_four (record { found = sender ∷ receiver ∷ first ∷ []; stop = fourth })
            (three
            ∙ ap {B = Numbers} (λ (ns : Numbers). record { found = sender ∷ receiver ∷ first ∷ ns.found; stop = ns.stop })
            (numbers_none groups largest s fourth none))
            (omega arith)

        pub entry_found : (last next : ℕ) → read_number groups largest s fourth ≡ Some (last, next)
            → EntryFound s at (Some (record { sender = sender; receiver = receiver; first = first; last = last }, next))
        entry_found last next read_last = (
          three
              ∙ ap {B = Numbers} (λ (ns : Numbers). record { found = sender ∷ receiver ∷ first ∷ ns.found; stop = ns.stop })
              (numbers_more groups largest s fourth last next read_last),
          (read_next groups largest s third first fourth read_first).2,
          (read_next groups largest s fourth last next read_last).2,
        )
