-- The state that the code carries stands for the prices passed: it is what the definitions say of them.
use Prim.Native.Nat.{ℕ, suc, ◌+◌, ◌-◌, ◌≤◌, ◌<◌}
use native.Mathlib.Omega.{arith}
use mathlib.Core.Path.{◌≡◌, refl, sym, ap, ◌∙◌, subst}
use mathlib.Core.Logic.{◌⊎◌, inl, inr}
use mathlib.Core.List.{List}
use mathlib.Core.Bool.{Bool, true, false, ◌||◌}
use lib.IntN.{ℤ, pos, nat_abs}
use lib.ListN.{length, get_or, take}
use lib.Seq.{take-suc, take_all}
use Rattle.lists.specs.Lists.{any}
use Rattle.lists.proofs.Members.{or_second, some_any, get_d_in}
use Rattle.sigma.specs.Changes.{change_of, changes, previous, is_zero, is_beyond, bad_prices}
use Rattle.sigma.specs.Sigmas.{sigmas}
use Rattle.sigma.proofs.Changes.{Told}
use Rattle.std.proofs.lemmas.Bool.{cases_lt}
use Rattle.sigma.proofs.Lists.{length_changes, length_previous, length_sigmas, changes-at, previous-at, sigmas-at}
use Rattle.std.specs.Prelude.{is_some}
use Rattle.volatile.specs.declared.State.{State}
use Rattle.volatile.specs.Periods.{is_in, is_early, periods}
use Rattle.volatile.specs.Internal.{pushed, phase_after, state, sigma_with, judged, state_after, fresh, Ready, early}
use Rattle.volatile.proofs.Periods.{any_snoc, early_later}
use Rattle.volatile.proofs.Windows.{Holds, roomy, pushed-holds, average_is, fresh_holds}
use Rattle.volatile.proofs.Phases.{Phased, phased_none, phase-after}
use Rattle.volatile.proofs.Steps.{first_two, from_third}

-- none of the front, and not the next one
any_next : (p : ℤ → Bool) (xs : List ℤ) (i : ℕ) → i < length xs → any p (take i xs) ≡ false
    → p (get_or xs i (pos 0)) ≡ false → any p (take (suc i) xs) ≡ false
any_next p xs i h e f =
    ap (any p) (take-suc xs i (pos 0) h) ∙ any_snoc p (take i xs) (get_or xs i (pos 0)) ∙ rw (e, f) refl

pub fresh-early : early fresh.phase ≡ false
unfolding fresh
fresh-early = refl

module _ (prices : List ℤ) (threshold : ℕ) where
  abbrev rs : List ℤ
  rs = changes prices

  abbrev list : List ℕ
  list = sigmas rs

  list_length : length list ≡ length prices - 3
  list_length = let a = length_sigmas rs in let b = length_changes prices in omega arith

  -- after i of the R
  pub record Represents (i : ℕ) (s : State) : Type 0 where
    pub older_is : 2 ≤ i → s.older ≡ get_or rs (i - 2) (pos 0)
    pub newer_is : 1 ≤ i → s.newer ≡ get_or rs (i - 1) (pos 0)
    pub older_small : nat_abs s.older ≤ 1000000
    pub newer_small : nat_abs s.newer ≤ 1000000
    pub holds : Holds list s.window
    pub day_is : s.window.day ≡ i - 2
    pub phased : Phased list threshold (i - 2) s.phase
    pub no_zero : any is_zero (take i (previous prices)) ≡ false
    pub no_beyond : any is_beyond (take i rs) ≡ false

  pub fresh-represents : Represents 0 fresh
  unfolding fresh any
  fresh-represents =
      record {
        older_is = λ h. absurd (omega arith);
        newer_is = λ h. absurd (omega arith);
        older_small = omega arith;
        newer_small = omega arith;
        holds = fresh_holds list;
        day_is = refl;
        phased = phased_none list threshold;
        no_zero = refl;
        no_beyond = refl;
      }

  module _ (i : ℕ) (s : State) (represents : Represents i s) (more : suc i < length prices) (fits : length prices < 9223372036854775807) where
    pub ready : Ready s
    ready =
        let n = list_length in
        let d = represents.day_is in
        record {
          older = represents.older_small;
          newer = represents.newer_small;
          room = roomy list s.window represents.holds (omega arith) (omega arith);
        }

    module _ (r : ℤ) (told : Told (get_or prices i (pos 0)) (get_or prices (suc i) (pos 0)) r) (not-early : early s.phase ≡ false) where
      change_is : r ≡ get_or rs i (pos 0)
      change_is = told.is ∙ sym (changes-at prices i more)

      no_zero_next : any is_zero (take (suc i) (previous prices)) ≡ false
      no_zero_next =
          let n = length_previous prices in
          any_next is_zero (previous prices) i (omega arith) represents.no_zero (ap is_zero (previous-at prices i more) ∙ told.not_zero)

      no_beyond_next : any is_beyond (take (suc i) rs) ≡ false
      no_beyond_next =
          let n = length_changes prices in
          any_next is_beyond rs i (omega arith) represents.no_beyond (ap is_beyond (changes-at prices i more) ∙ told.not_beyond)

      -- the first two R have no sigma
      without : i < 2 → Represents (suc i) (state s.newer r s.window s.phase)
      without l =
          let none : suc i - 2 ≡ i - 2 = omega arith in
          record {
            older_is = λ h.
                represents.newer_is (omega arith) ∙ (let e : i - 1 ≡ suc i - 2 = omega arith in ap (λ (k : ℕ). get_or rs k (pos 0)) e);
            newer_is = λ h. change_is ∙ (let e : i ≡ suc i - 1 = omega arith in ap (λ (k : ℕ). get_or rs k (pos 0)) e);
            older_small = represents.newer_small;
            newer_small = told.small;
            holds = represents.holds;
            day_is = represents.day_is ∙ sym none;
            phased = subst (λ (d : ℕ). Phased list threshold d s.phase) (sym none) represents.phased;
            no_zero = no_zero_next;
            no_beyond = no_beyond_next;
          }

      -- the others have one
      module _ (l : 2 ≤ i) where
        abbrev sigma : ℕ
        sigma = sigma_with s r

        sigma-at : sigma ≡ get_or list (i - 2) 0
        sigma-at =
            let n = length_changes prices in
            let one : i - 1 ≡ suc (i - 2) = omega arith in
            let two : i ≡ suc (suc (i - 2)) = omega arith in
            let a = represents.older_is l in
            let b = represents.newer_is (omega arith) ∙ ap (λ (k : ℕ). get_or rs k (pos 0)) one in
            let c = change_is ∙ ap (λ (k : ℕ). get_or rs k (pos 0)) two in
            sym (sigmas-at rs (i - 2) (omega arith) ∙ cc)

        next_day : s.window.day + 1 ≡ suc (i - 2)
        next_day = let d = represents.day_is in omega arith

        with-sigma : sigma < 4194304 → Represents (suc i) (judged s r threshold)
        unfolding judged pushed
        with-sigma small =
            let n = list_length in
            let d = represents.day_is in
            let has : i - 2 < length list = omega arith in
            let held : Holds list (pushed s.window sigma) =
            pushed-holds list s.window represents.holds (omega arith) sigma (omega arith)
            (sigma-at ∙ ap (λ (k : ℕ). get_or list k 0) (sym d)) small in
            let next : suc i - 2 ≡ suc (i - 2) = omega arith in
            record {
              older_is = λ h.
                  represents.newer_is (omega arith) ∙ (let e : i - 1 ≡ suc i - 2 = omega arith in ap (λ (k : ℕ). get_or rs k (pos 0)) e);
              newer_is = λ h. change_is ∙ (let e : i ≡ suc i - 1 = omega arith in ap (λ (k : ℕ). get_or rs k (pos 0)) e);
              older_small = represents.newer_small;
              newer_small = told.small;
              holds = held;
              day_is = next_day ∙ sym next;
              phased =
                  subst (λ (k : ℕ). Phased list threshold k (phase_after s.phase s.window.day sigma threshold (pushed s.window sigma).sum))
                  (sym next)
                  (subst (λ (k : ℕ). Phased list threshold (suc (i - 2)) (phase_after s.phase k sigma threshold (pushed s.window sigma).sum))
                  (sym d)
                  (phase-after list threshold (i - 2) has sigma (pushed s.window sigma).sum sigma-at
                  (λ t. average_is list (pushed s.window sigma) held (suc (i - 2)) (sym next_day) t) s.phase represents.phased not-early));
              no_zero = no_zero_next;
              no_beyond = no_beyond_next;
            }

      pub turn_represents : (2 ≤ i → sigma_with s r < 4194304) → Represents (suc i) (state_after s i r threshold)
      turn_represents small = go (cases_lt i 2)
        where
          go : (i < 2) ⊎ (2 ≤ i) → Represents (suc i) (state_after s i r threshold)
          go (inl h) = subst (Represents (suc i)) (first_two s i r threshold h) (without h)
          go (inr h) = subst (Represents (suc i)) (from_third s i r threshold h) (with-sigma h (small h))

  -- ---- the ways out

  in_list : (p : ℤ → Bool) (xs : List ℤ) (i : ℕ) → i < length xs → p (get_or xs i (pos 0)) ≡ true → any p xs ≡ true
  in_list p xs i h e = some_any p (get_d_in xs i (pos 0) h) e

  -- a price that refuses
  pub bad_at : (i : ℕ) → suc i < length prices
      → (is_zero (get_or prices i (pos 0)) || is_beyond (change_of (get_or prices i (pos 0)) (get_or prices (suc i) (pos 0)))) ≡ true
      → bad_prices prices ≡ true
  unfolding bad_prices
  bad_at i more e = go (is_zero (get_or prices i (pos 0))) refl
    where
      go : (b : Bool) → is_zero (get_or prices i (pos 0)) ≡ b → (any is_zero (previous prices) || any is_beyond (changes prices)) ≡ true
      go true h =
          let n = length_previous prices in
          rw (in_list is_zero (previous prices) i (omega arith) (ap is_zero (previous-at prices i more) ∙ h)) refl
      go false h =
          let n = length_changes prices in
          or_second (any is_zero (previous prices))
          (in_list is_beyond (changes prices) i (omega arith) (ap is_beyond (changes-at prices i more) ∙ (rw h at e)))

  -- a period that began early
  pub early-at : (i : ℕ) (s : State) → Represents i s → i < length prices → early s.phase ≡ true
      → any is_early (periods list threshold (length list)) ≡ true
  early-at i s represents more e =
      let n = list_length in
      let same : length list ≡ i - 2 + (length list - (i - 2)) = omega arith in
      ap (λ (d : ℕ). any is_early (periods list threshold d)) same
      ∙ early_later list threshold (i - 2) (length list - (i - 2)) (represents.phased.early_is ∙ e)

  -- the prices' end
  module _ (i : ℕ) (s : State) (represents : Represents i s) (end : i ≡ length prices - 1) where
    at-end : i - 2 ≡ length list
    at-end = let n = list_length in omega arith

    pub end_good : bad_prices prices ≡ false
    unfolding bad_prices
    end_good =
        let n = length_previous prices in
        let m = length_changes prices in
        rw (
          rw (take_all i (previous prices) (omega arith)) at represents.no_zero,
          rw (take_all i rs (omega arith)) at represents.no_beyond,
        )
        refl

    pub end-early : early s.phase ≡ false → any is_early (periods list threshold (length list)) ≡ false
    end-early e = ap (λ (d : ℕ). any is_early (periods list threshold d)) (sym at-end) ∙ represents.phased.early_is ∙ e

    pub end-inside : is_some s.phase ≡ any (is_in (length list)) (periods list threshold (length list))
    end-inside = represents.phased.is ∙ ap (λ (d : ℕ). any (is_in d) (periods list threshold d)) at-end
