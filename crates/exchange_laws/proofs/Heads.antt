-- The heads of the messages that machines send.
use mathlib.Core.Path.{◌≡◌, refl}
use mathlib.Core.Bool.{true, false, not, or-true}
use Prim.Native.Nat.{ℕ}
use borrow.Author.Tests.{not-true}
use lib.Dec.{eqb}
use Rattle.lists.proofs.Tests.{and_both}
use Rattle.book.specs.Names.{is_purpose, is_named}
use Rattle.message.specs.Formed.{head_formed}
use Rattle.machine_laws.proofs.Messages.{head_out}
use Rattle.exchange_laws.specs.Ends.{is_search}

pub search_in : (purpose : ℕ) → is_search purpose ≡ true → (is_purpose purpose ≡ true) × (eqb purpose 2 ≡ false)
search_in purpose h =
    let b = and_both (is_purpose purpose) (not (eqb purpose 2)) h in (b.0, not-true (eqb purpose 2) b.1)

module _ (n purpose sender : ℕ) where
  -- an invitation may have any purpose
  pub invitation_head_lem : is_purpose purpose ≡ true → is_named n sender ≡ true → head_formed n 1 purpose sender ≡ true
  invitation_head_lem is named = head_out n 1 purpose sender refl is named (or-true (not (eqb purpose 2)))

  -- and every other message that of a search
  pub other_head_lem : is_search purpose ≡ true → is_named n sender ≡ true → head_formed n 2 purpose sender ≡ true
  other_head_lem searches named =
      let b = search_in purpose searches in
      head_out n 2 purpose sender refl b.0 named (rw b.1)
