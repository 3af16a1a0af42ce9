-- A search keeps its invariant, and so does a restart.
use mathlib.Core.Path.{◌≡◌, refl, sym, ap, subst, ◌∙◌}
use mathlib.Core.Bool.{Bool, true, false}
use mathlib.Core.List.{List, []}
use mathlib.Core.Logic.{◌⊎◌, inl, inr}
use Prim.Native.Nat.{ℕ, ◌≤◌}
use native.Mathlib.Omega.{arith}
use lib.ListN.{length}
use lib.Dec.{eqb}
use Rattle.lists.specs.Pick.{pick}
use Rattle.exchange_laws.specs.Ends.{is_search}
use Rattle.strands.specs.Strands.{slot_size}
use Rattle.session.specs.declared.Session.{Session}
use Rattle.session.specs.declared.Turned.{Turned}
use Rattle.session.specs.declared.Waiting.{Waiting}
use Rattle.session.specs.declared.Waiting.TheVariants.{Nothing, Asking, Ending, Report}
use Rattle.session.specs.Held.{held}
use Rattle.session.specs.Steps.{deliver_down, deliver_up, deliver, with_posted}
use Rattle.session_theory.proofs.Search.{Search, IsSearch, size, is_part}
use Rattle.session_theory.proofs.Invariant.{Placed, Laid, box_after, Phase, quiet, reported, asked, InPhase, Waits, Closing, Finished, Restarts, Going, Over}
use Rattle.session_theory.proofs.Facts.{few}
use Rattle.session_theory.proofs.Moves.{Passes, goes_down, goes_up, ToParticipants, WaitsTell, EndsTell, holding}
use Rattle.session_theory.proofs.Few.{most_few}
use Rattle.session_fit.proofs.Theorems.{waits_fit, ends_fit}
use Rattle.search_turns.proofs.Theorems.{down_goes, end_goes}
use Rattle.search_rounds.proofs.Theorems.{up_goes}
use Rattle.demand3.proofs.Turn.{goes}
use Rattle.demand3.proofs.Kept.{Delivers, Delivery, Kept}

-- what holds of a search, and of a restart
abbrev pub InSearch : Search → Session → (ℕ → List ℕ) → Type 0
InSearch g s box = Going g s box ⊎ Over g s box

abbrev pub InRestart : Search → Session → (ℕ → List ℕ) → Type 0
InRestart g s box = (open' : ℕ → Bool) × Restarts g s box open'

module _ (g : Search) (s : Session) (k : ℕ) where
  down_delivers : (b : List ℕ) → Delivers s k (goes_down g s k b)
  unfolding deliver_down
  down_delivers b = record { leader = refl; lengths = refl; delivered = refl }

  up_delivers : (b : List ℕ) → Delivers s k (goes_up g s k b)
  unfolding deliver_up
  up_delivers b = record { leader = refl; lengths = refl; delivered = refl }

  pub goes_as : (b : List ℕ) (w : Waiting) → held (size g) s k b ≡ w → goes g s k b ≡ deliver g.tables s k b w
  goes_as b w e = ap (λ (v : Waiting). deliver g.tables s k b v) e

  delivery :
      (Inv : Session → (ℕ → List ℕ) → Type 0) (box : ℕ → List ℕ) (u : Turned) → goes g s k (box k) ≡ u
      → 1 ≤ length (box k) → Delivers s k u → ToParticipants g u.outgoing
      → Inv (with_posted u) (box_after u.outgoing k box) → Delivery g Inv s box k
  delivery Inv box u e some delivers to_parts after =
      record {
        some = some;
        delivers = subst (λ (t : Turned). Delivers s k t) (sym e) delivers;
        to_parts = subst (λ (t : Turned). ToParticipants g t.outgoing) (sym e) to_parts;
        after = subst (λ (t : Turned). Inv (with_posted t) (box_after t.outgoing k box)) (sym e) after;
      }

module _ (g : Search) (is : IsSearch g) where
  module _ (searching : is_search g.purpose ≡ true) where
    module _ (s : Session) (strands : List ℕ) (box : ℕ → List ℕ) where
      pub waits_tell : (phase : ℕ → Phase) (ahead : ℕ) → Waits g s box phase ahead → WaitsTell g s strands box phase
      waits_tell phase ahead w = waits_fit g s strands box phase ahead is searching w

      pub over_tell : (open' : ℕ → Bool) → Finished g s box open' → EndsTell g s strands box open'
      over_tell open' f =
          ends_fit g s strands box open' is (omega (arith, f.deliveries_left, most_few g is)) f.ends

    module _ (s : Session) (box : ℕ → List ℕ) (k : ℕ) (there : is_part g k ≡ true) where
      abbrev Result : Type 0
      Result = (box k ≡ []) ⊎ Delivery g (InSearch g) s box k

      waits_moves : (phase : ℕ → Phase) (ahead : ℕ) → Waits g s box phase ahead → (f : Phase) → phase k ≡ f → Result
      waits_moves phase ahead w quiet e =
          inl (subst (λ (f : Phase). InPhase g s k (box k) f) e (w.in_phase k there)).empty
      waits_moves phase ahead w reported e =
          let told = waits_tell s [] box phase ahead w in
          let next = up_goes g s box phase ahead k is searching w there e in
          inr (delivery g s k (InSearch g) box (goes_up g s k (box k))
          (goes_as g s k (box k) Report (told.holds k there ∙ ap holding e))
          (told.some k there (λ q. reported_quiet (sym e ∙ q))) (up_delivers g s k (box k)) next.0 next.1)
        where
          reported_quiet : reported ≡ quiet → ⊥
          reported_quiet q = let z : ◌≡◌ {A = ℕ} 0 1 = cc in omega arith
      waits_moves phase ahead w asked e =
          let told = waits_tell s [] box phase ahead w in
          let next = down_goes g s box phase ahead k is searching w there e in
          inr (delivery g s k (InSearch g) box (goes_down g s k (box k))
          (goes_as g s k (box k) Asking (told.holds k there ∙ ap holding e))
          (told.some k there (λ q. asked_quiet (sym e ∙ q))) (down_delivers g s k (box k)) next.0
          (inl ((λ q. pick (eqb q k) reported (phase q)), ahead, next.1)))
        where
          asked_quiet : asked ≡ quiet → ⊥
          asked_quiet q = let z : ◌≡◌ {A = ℕ} 0 1 = cc in omega arith

      over_moves : (open' : ℕ → Bool) → Finished g s box open' → (v : Bool) → open' k ≡ v → Result
      over_moves open' f false e =
          inl (subst (λ (v : Bool). Closing g s k (box k) v) e (f.ends.closing k there)).empty
      over_moves open' f true e =
          let told = over_tell s [] box open' f in
          let next = end_goes g s box open' k is f.ends there e in
          inr (delivery g s k (InSearch g) box (goes_down g s k (box k))
          (goes_as g s k (box k) Ending (told.holds k there ∙ ap (λ (v : Bool). pick v Ending Nothing) e))
          (told.some k there e) (down_delivers g s k (box k)) next.0
          (inr ((λ q. pick (eqb q k) false (open' q)), next.2 searching f)))

    pub search_kept : Kept g (InSearch g)
    search_kept = record { placed = placed; passes = passes; short = short; moves = moves }
      where
        placed : (s : Session) (box : ℕ → List ℕ) → InSearch g s box → Placed g s
        placed s box (inl w) = w.2.placed
        placed s box (inr f) = f.1.ends.placed

        passes : (s : Session) (strands : List ℕ) (box : ℕ → List ℕ) → InSearch g s box → Laid g s strands box
            → Passes g s strands
        passes s strands box (inl w) laid = (waits_tell s strands box w.0 w.1 w.2).passes laid
        passes s strands box (inr f) laid = (over_tell s strands box f.0 f.1).passes laid

        short : (s : Session) (box : ℕ → List ℕ) → InSearch g s box → (k : ℕ) → is_part g k ≡ true
            → length (box k) ≤ slot_size (size g)
        short s box (inl w) = (waits_tell s [] box w.0 w.1 w.2).short
        short s box (inr f) = (over_tell s [] box f.0 f.1).short

        moves : (s : Session) (box : ℕ → List ℕ) (k : ℕ) → InSearch g s box → is_part g k ≡ true
            → (box k ≡ []) ⊎ Delivery g (InSearch g) s box k
        moves s box k (inl w) there = waits_moves s box k there w.0 w.1 w.2 (w.0 k) refl
        moves s box k (inr f) there = over_moves s box k there f.0 f.1 (f.0 k) refl

  module _ (restarts : g.purpose ≡ 2) where
    module _ (s : Session) (strands : List ℕ) (box : ℕ → List ℕ) where
      pub restart_tell : (open' : ℕ → Bool) → Restarts g s box open' → EndsTell g s strands box open'
      restart_tell open' r =
          let size_few : size g ≤ 16 = few g is in
          let d = r.deliveries in
          ends_fit g s strands box open' is (omega arith) r.ends

    module _ (s : Session) (box : ℕ → List ℕ) (k : ℕ) (there : is_part g k ≡ true) where
      restart_moves : (open' : ℕ → Bool) → Restarts g s box open' → (v : Bool) → open' k ≡ v
          → (box k ≡ []) ⊎ Delivery g (InRestart g) s box k
      restart_moves open' r false e =
          inl (subst (λ (v : Bool). Closing g s k (box k) v) e (r.ends.closing k there)).empty
      restart_moves open' r true e =
          let told = restart_tell s [] box open' r in
          let next = end_goes g s box open' k is r.ends there e in
          inr (delivery g s k (InRestart g) box (goes_down g s k (box k))
          (goes_as g s k (box k) Ending (told.holds k there ∙ ap (λ (v : Bool). pick v Ending Nothing) e))
          (told.some k there e) (down_delivers g s k (box k)) next.0
          ((λ q. pick (eqb q k) false (open' q)), next.3 restarts r))

    pub restart_kept : Kept g (InRestart g)
    restart_kept =
        record {
          placed = λ s box r. r.1.ends.placed;
          passes = λ s strands box r laid. (restart_tell s strands box r.0 r.1).passes laid;
          short = λ s box r. (restart_tell s [] box r.0 r.1).short;
          moves = λ s box k r there. restart_moves s box k there r.0 r.1 (r.0 k) refl;
        }
