-- The first pair of a set at fault, from the tests of its checkpoints.
use mathlib.Core.Path.{◌≡◌, sym, ap, subst, ◌∙◌}
use mathlib.Core.Option as found
use Prim.Native.Nat.{ℕ, suc, ◌+◌, ◌-◌, ◌<◌}
use native.Mathlib.Numerals.{add-one}
use Rattle.std.specs.Prelude.{Option, Some, None}
use Rattle.book.specs.declared.Process.{Process}
use Rattle.lists.proofs.Before.{Before}
use Rattle.line_theory.specs.Sets.{View, IsBook, IsSet, first_fault}
use Rattle.line_theory.specs.Search.{lowest_offending, sent_to}
use Rattle.line_theory.proofs.Tests.{permits_consistent}
use Rattle.line_theory.proofs.Theorems.{no_pair_is_consistent, none_offends_is_permitted, pair_names_partner}
use Rattle.consistency.specs.Set.{shown_as}
use Rattle.consistency.specs.Given.{in_set}
use Rattle.consistency.proofs.Permits.{from_one}
use Rattle.consistency.proofs.Answers.{partner_named, nobody_named}

-- nobody offends process j's checkpoint in a set
abbrev pub NoneOffends : View → (ℕ → ℕ) → ℕ → Type 0
NoneOffends v c j = lowest_offending v.n (v.R j (c j)) (sent_to v c j) ≡ found.none

-- where no process before j is at fault, and j is with p: the pair shown
pub pair_shown : {m : ℕ} {v : View} {c : ℕ → ℕ} (j : ℕ) (a : Option Process) (p : Process) → IsBook m v → IsSet v c
    → Before v.n (NoneOffends v c) j → j < v.n → a ≡ Some p → a ≡ in_set v c (j + 1 - 1)
    → Some (record { 0 = j + 1 }, p) ≡ shown_as (first_fault v c)
pair_shown {m} {v} {c} j a p book is_set before i e told =
    let here : a ≡ in_set v c j = subst (λ (k : ℕ). a ≡ in_set v c k) (from_one j) told in
    let (q, at, named) = partner_named (lowest_offending v.n (v.R j (c j)) (sent_to v c j)) p (sym e ∙ here) in
    let first : first_fault v c ≡ found.some (j, q) = (pair_names_partner m v c j q book is_set).1 (i, at, before.so_far) in
    ap (λ (x : ℕ). Some (record { 0 = x }, p)) (add-one j)
    ∙ ap (λ (x : Process). Some (record { 0 = suc j }, x)) named
    ∙ sym (ap shown_as first)

-- process j is at fault with nobody
pub pair_none : (v : View) (c : ℕ → ℕ) (j : ℕ) (a : Option Process) → a ≡ None → a ≡ in_set v c (j + 1 - 1) → NoneOffends v c j
pair_none v c j a e told =
    nobody_named (lowest_offending v.n (v.R j (c j)) (sent_to v c j))
    (sym e ∙ subst (λ (k : ℕ). a ≡ in_set v c k) (from_one j) told)

-- nobody is
pub pairs_none : (v : View) (c : ℕ → ℕ) → ((j : ℕ) → j < v.n → NoneOffends v c j) → None ≡ shown_as (first_fault v c)
pairs_none v c h =
    sym (ap shown_as ((no_pair_is_consistent v c).1 (permits_consistent v c (λ j i.
    (none_offends_is_permitted v.n (v.R j (c j)) (sent_to v c j)).0 (h j i)))))
