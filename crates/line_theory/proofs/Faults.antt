-- The first pair at fault in a set, and the lowest partner that offends one checkpoint.
use mathlib.Core.Path.{◌≡◌, sym, subst, ◌∙◌}
use mathlib.Core.Bool.{Bool, false}
use Prim.Native.Nat.{ℕ, ◌≤◌, ◌<◌}
use native.Mathlib.Decide.{ℕ_discrete}
use native.Mathlib.Omega.{arith}
use borrow.Author.Tests.{lt-ltb, ltb-true, ltb-false, le-ltb, eq-eqb, ne_eqb}
use lib.Dec.{ltb}
use Rattle.lists.specs.Over.{lowest}
use Rattle.lists.proofs.Lowest.{lowest_some, lowest_none, lowest_found, lowest_ext, pair_some, pair_none, pair_found}
use Rattle.line_theory.specs.Sets.{View, IsBook, IsSet, Consistent, received_more, at_fault}
use Rattle.line_theory.specs.Search.{lowest_offending, sent_to}
use Rattle.line_theory.specs.Statements.{
  PairIsFirst,
  NoPairIsConsistent,
  PartnerIsLowest,
  NoneOffendsIsPermitted,
  PartnerIsOther,
  PartnerIsKnown,
  PairNamesPartner,
}
use Rattle.line_theory.proofs.Tests.{permitted_in, permitted_out}

-- ---- a set

module _ (v : View) (c : ℕ → ℕ) where
  fine_at_most : (j p : ℕ) → at_fault v c j p ≡ false → (j ≡ p → ⊥) → v.R j (c j) p ≤ v.S p (c p) j
  fine_at_most j p h other =
      let k : received_more v c j p ≡ false = rw (ne_eqb j p other) at h in
      ltb-false (v.S p (c p) j) (v.R j (c j) p) k

  consistent_fine : Consistent v c → (j p : ℕ) → j < v.n → p < v.n → at_fault v c j p ≡ false
  consistent_fine h j p m n = elim (ℕ_discrete j p) [
    | yes e ↦ rw (eq-eqb j p e)
    | no e ↦ rw (ne_eqb j p e, le-ltb (v.S p (c p) j) (v.R j (c j) p) (h j p m n e))
  ]

pub pair_is_first : PairIsFirst
pair_is_first v c j p = (
  λ e.
      let at = pair_found v.n _ e in
      record { first = at.first; second = at.second; fault = at.here; lower_j = at.lower_first; lower_p = at.lower_second },
  λ at.
      pair_some v.n (at_fault v c) j p
      record { first = at.first; second = at.second; here = at.fault; lower_first = at.lower_j; lower_second = at.lower_p },
)

pub no_pair_is_consistent : NoPairIsConsistent
no_pair_is_consistent v c = (
  λ e j p m n other. fine_at_most v c j p (pair_found v.n (at_fault v c) e j p m n) other,
  λ h. pair_none v.n (at_fault v c) (consistent_fine v c h),
)

-- ---- one checkpoint

abbrev offends : (ℕ → ℕ) → (ℕ → ℕ) → ℕ → Bool
offends row known p = ltb (known p) (row p)

pub partner_is_lowest : PartnerIsLowest
partner_is_lowest n row known p = (
  λ e.
      let at = lowest_found n (offends row known) e in
      record {
        partner = at.below;
        more = ltb-true (known p) (row p) at.here;
        lower = λ q h. ltb-false (known q) (row q) (at.before q h);
      },
  λ at.
      lowest_some n (offends row known) p
      record {
        below = at.partner;
        here = lt-ltb (known p) (row p) at.more;
        before = λ q h. le-ltb (known q) (row q) (at.lower q h);
      },
)

pub none_offends_is_permitted : NoneOffendsIsPermitted
none_offends_is_permitted n row known = (
  λ e. permitted_out n row known (λ p m. ltb-false (known p) (row p) (lowest_found n (offends row known) e p m)),
  λ h. lowest_none n (offends row known) (λ p m. le-ltb (known p) (row p) (permitted_in n row known h p m)),
)

-- In a book the lowest partner with which a process is at fault is the lowest that offends its checkpoint: it has received
-- nothing from itself.
pub fault_is_offending : (m : ℕ) (v : View) (c : ℕ → ℕ) (j : ℕ) → IsBook m v → IsSet v c → j < v.n
    → lowest v.n (at_fault v c j) ≡ lowest_offending v.n (v.R j (c j)) (sent_to v c j)
fault_is_offending m v c j book there k =
    lowest_ext v.n (at_fault v c j) (offends (v.R j (c j)) (sent_to v c j)) (λ p l. elim (ℕ_discrete j p) [
      | yes e ↦
          let none : v.R j (c j) p ≡ 0 = subst (λ (q : ℕ). v.R j (c j) q ≡ 0) e (book.own j (c j) k (there.some j k) (there.among j k)).1 in
          rw (eq-eqb j p e, le-ltb (v.S p (c p) j) (v.R j (c j) p) (omega arith))
      | no e ↦ rw (ne_eqb j p e)
    ])

pub pair_names_partner : PairNamesPartner
pair_names_partner m v c j p book there = (
  λ e.
      let at = (pair_is_first v c j p).0 e in (
        at.first,
        sym (fault_is_offending m v c j book there at.first)
            ∙ lowest_some v.n (at_fault v c j) p record { below = at.second; here = at.fault; before = at.lower_p },
        λ i h.
            sym (fault_is_offending m v c i book there (omega (arith, at.first)))
            ∙ lowest_none v.n (at_fault v c i) (λ q l. at.lower_j i q h l),
      ),
  λ named.
      let at = lowest_found v.n (at_fault v c j) (fault_is_offending m v c j book there named.0 ∙ named.1) in
      (pair_is_first v c j p).1
      record {
        first = named.0;
        second = at.below;
        fault = at.here;
        lower_j = λ i q h l.
            lowest_found v.n (at_fault v c i) (fault_is_offending m v c i book there (omega (arith, named.0)) ∙ named.2 i h) q l;
        lower_p = at.before;
      },
)

pub partner_is_other : PartnerIsOther
partner_is_other m v j r p known book i some_r few e same =
    let at = (partner_is_lowest v.n (v.R j r) known p).0 e in
    let own : v.R j r p ≡ 0 = subst (λ (q : ℕ). v.R j r q ≡ 0) (sym same) (book.own j r i some_r few).1 in
    omega (arith, at.more)

pub partner_is_known : PartnerIsKnown
partner_is_known m v j r p known book i some_r few e =
    let at = (partner_is_lowest v.n (v.R j r) known p).0 e in
    omega (arith, at.more, book.received j r p i at.partner some_r few)
