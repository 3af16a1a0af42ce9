-- Events whose numbers have one byte each, as those of a journal that passes have.
use Rattle.std.specs.Prelude.{Option, Some, None}
use mathlib.Core.Path.{◌≡◌, refl, sym, ap, subst, ◌∙◌}
use mathlib.Core.Bool.{true}
use mathlib.Core.List.{List, [], ◌∷◌, ◌++◌}
use Prim.Native.Nat.{ℕ, suc, ◌+◌, ◌≤◌, ◌<◌}
use native.Mathlib.Omega.{arith}
use lib.ListN.{length, get_or}
use Rattle.varint.specs.Number.{read_number}
use Rattle.varint.specs.Sequence.{Numbers}
use Rattle.varint.proofs.Sequence.{numbers_none, numbers_more}
use Rattle.varint.proofs.Reading.{read_next, read_small}
use Rattle.book.specs.Bounds.{most_processes}
use Rattle.journal.specs.declared.Event.{Event}
use Rattle.journal.specs.declared.Event.TheVariants.{Sent, Received, Checkpointed}
use Rattle.journal.specs.Bounds.{journal_groups, journal_largest}
use Rattle.journal.specs.Events.{event_numbers}
use Rattle.journal.specs.Calls.{numbers_logged}
use Rattle.journal.specs.Questions.{event_named}
use Rattle.journal.specs.Parts.{StandsAt, NamedAt}
use Rattle.journal.proofs.Numbers.{HasNumbers, first_numbers}
use Rattle.journal.proofs.Events.{one_byte, is_checkpoint, is_sending, is_receipt}
use Rattle.journal.proofs.Passed.{Differs, DiffersIn, first_differs, process_named, partner_named}

module _ (s : List ℕ) where
  -- a number of one byte, and the numbers after it
  pub record OneByte (at v : ℕ) (more : List ℕ) : Type 0 where
    pub inside : at < length s
    pub value : get_or s at 0 ≡ v
    pub read : read_number journal_groups journal_largest s at ≡ Some (get_or s at 0, at + 1)
    pub after : (numbers_logged s (at + 1)).found ≡ more

  number_first : (at v : ℕ) (more : List ℕ) → v < 128 → (numbers_logged s at).found ≡ v ∷ more → OneByte at v more
  number_first at v more small is = go (read_number journal_groups journal_largest s at) refl
    where
      go : (r : Option (ℕ × ℕ)) → read_number journal_groups journal_largest s at ≡ r → OneByte at v more
      go None e =
          let none : (numbers_logged s at).found ≡ [] = ap (λ (ns : Numbers). ns.found) (numbers_none journal_groups journal_largest s at e) in
          let z : ◌≡◌ {A = ℕ} 0 (suc (length more)) = ap length (sym none ∙ is) in
          absurd (omega (arith, z))
      go (Some (w, next)) e =
          let found : (numbers_logged s at).found ≡ w ∷ (numbers_logged s next).found
          = ap (λ (ns : Numbers). ns.found) (numbers_more journal_groups journal_largest s at w next e) in
          let both : w ∷ (numbers_logged s next).found ≡ v ∷ more = sym found ∙ is in
          let same : w ≡ v = cc in
          let tail : (numbers_logged s next).found ≡ more = cc in
          let byte = read_small journal_groups journal_largest s at w next e (omega arith) in
          let on = read_next journal_groups journal_largest s at w next e in
          record {
            inside = omega (arith, on.0, on.1);
            value = byte.0 ∙ same;
            read = rw (byte.0, ← byte.1) e;
            after = rw byte.1 at tail;
          }

  -- kind and process
  pub record HeadBytes (at : ℕ) : Type 0 where
    pub inside : at + 1 < length s
    pub kind : read_number journal_groups journal_largest s at ≡ Some (get_or s at 0, at + 1)
    pub process : read_number journal_groups journal_largest s (at + 1) ≡ Some (get_or s (at + 1) 0, at + 2)

  -- and the partner
  pub record PartnerByte (at : ℕ) : Type 0 where
    pub inside : at + 2 < length s
    pub read : read_number journal_groups journal_largest s (at + 2) ≡ Some (get_or s (at + 2) 0, at + 3)
    pub differs : get_or s (at + 2) 0 ≡ get_or s (at + 1) 0 → ⊥

  -- an event stands where its bytes do
  module _ (at : ℕ) (head : HeadBytes at) where
    pub checkpoint_stands : get_or s at 0 ≡ 3 → StandsAt s at (Checkpointed (record { 0 = get_or s (at + 1) 0 })) (at + 2)
    checkpoint_stands is = is_checkpoint s at (get_or s at 0) (at + 1) head.kind (get_or s (at + 1) 0) (at + 2) head.process is

    module _ (byte : PartnerByte at) where
      pub sending_stands : get_or s at 0 ≡ 1
          → StandsAt s at (Sent (record { 0 = get_or s (at + 1) 0 }) (record { 0 = get_or s (at + 2) 0 })) (at + 3)
      sending_stands is =
          is_sending s at (get_or s at 0) (at + 1) head.kind (get_or s (at + 1) 0) (at + 2) head.process (get_or s (at + 2) 0) (at + 3) byte.read is
          byte.differs

      pub receipt_stands : get_or s at 0 ≡ 2
          → StandsAt s at (Received (record { 0 = get_or s (at + 1) 0 }) (record { 0 = get_or s (at + 2) 0 })) (at + 3)
      receipt_stands is =
          is_receipt s at (get_or s at 0) (at + 1) head.kind (get_or s (at + 1) 0) (at + 2) head.process (get_or s (at + 2) 0) (at + 3) byte.read is
          byte.differs

  -- ---- bytes below 128

  module _ (at : ℕ) (inside : at + 2 < length s) where
    second : at + 1 + 1 ≡ at + 2
    second = omega arith

    third : at + 2 + 1 ≡ at + 3
    third = omega arith

    pub head_bytes : get_or s at 0 < 128 → get_or s (at + 1) 0 < 128 → HeadBytes at
    head_bytes a b =
        record {
          inside = omega arith;
          kind = one_byte s at (omega arith) a;
          process = rw second at (one_byte s (at + 1) (omega arith) b);
        }

    pub partner_byte : get_or s (at + 2) 0 < 128 → (get_or s (at + 2) 0 ≡ get_or s (at + 1) 0 → ⊥) → PartnerByte at
    partner_byte c differs =
        record {
          inside = inside;
          read = rw third at (one_byte s (at + 2) inside c);
          differs = differs;
        }

  -- ---- an event that is known to stand there

  pub record EventBytes (at : ℕ) : Type 0 where
    pub head : HeadBytes at
    pub partner : (get_or s at 0 ≡ 3 → ⊥) → PartnerByte at
    pub received : (get_or s at 0 ≡ 3 → ⊥) → (get_or s at 0 ≡ 1 → ⊥) → get_or s at 0 ≡ 2

  message_bytes : (at kind process partner : ℕ) (rest : List ℕ) → kind < 128 → process < 128 → partner < 128 → (process ≡ partner → ⊥)
      → ((kind ≡ 1 → ⊥) → kind ≡ 2) → (numbers_logged s at).found ≡ kind ∷ process ∷ partner ∷ rest → EventBytes at
  message_bytes at kind process partner rest a b c differ received is =
      let one = number_first at kind (process ∷ partner ∷ rest) a is in
      let two = number_first (at + 1) process (partner ∷ rest) b one.after in
      let third : at + 1 + 1 ≡ at + 2 = omega arith in
      let three = number_first (at + 2) partner rest c (rw third at two.after) in
      let fourth : at + 2 + 1 ≡ at + 3 = omega arith in
      record {
        head = record { inside = two.inside; kind = one.read; process = rw third at two.read };
        partner = λ _. record {
          inside = three.inside;
          read = rw fourth at three.read;
          differs = λ same. differ (sym two.value ∙ sym same ∙ three.value);
        };
        received = λ _ other. one.value ∙ received (λ same. other (one.value ∙ same));
      }

  checkpoint_bytes : (at process : ℕ) (rest : List ℕ) → process < 128 → (numbers_logged s at).found ≡ 3 ∷ process ∷ rest → EventBytes at
  checkpoint_bytes at process rest b is =
      let one = number_first at 3 (process ∷ rest) (omega arith) is in
      let two = number_first (at + 1) process rest b one.after in
      let third : at + 1 + 1 ≡ at + 2 = omega arith in
      record {
        head = record { inside = two.inside; kind = one.read; process = rw third at two.read };
        partner = λ other. absurd (other one.value);
        received = λ other _. absurd (other one.value);
      }

  module _ (n : ℕ) (few : n ≤ most_processes) (at : ℕ) (rest : List ℕ) where
    by_event : (e : Event) → event_named n e ≡ true → (numbers_logged s at).found ≡ event_numbers e ++ rest → Differs e → EventBytes at
    by_event (Sent process partner) named is differ =
        let j = process_named n (Sent process partner) named in
        let p = partner_named n (Sent process partner) few named in
        message_bytes at 1 process.0 partner.0 rest (omega arith) (omega (arith, j.1)) (omega (arith, p.1)) differ
        (λ other. absurd (other refl)) is
    by_event (Received process partner) named is differ =
        let j = process_named n (Received process partner) named in
        let p = partner_named n (Received process partner) few named in
        message_bytes at 2 process.0 partner.0 rest (omega arith) (omega (arith, j.1)) (omega (arith, p.1)) differ (λ other. refl) is
    by_event (Checkpointed process) named is differ =
        let j = process_named n (Checkpointed process) named in checkpoint_bytes at process.0 rest (omega (arith, j.1)) is

  pub event_bytes : (at : ℕ) → NamedAt s at → EventBytes at
  event_bytes at stands =
      let vs : List ℕ = (numbers_logged s at).found in
      by_event stands.n stands.few at stands.rest stands.event stands.named
      (subst (HasNumbers vs) stands.begins (first_numbers vs)) (subst DiffersIn stands.begins (first_differs vs))
