-- The ring of thirty sigmas holds the last thirty of a list, with zeros before the first.
use Prim.Native.Nat.{ℕ, zero, suc, ◌+◌, ◌-◌, ◌*◌, ◌/◌, ◌%◌, ◌≤◌, ◌<◌}
use native.Mathlib.Omega.{arith}
use native.Mathlib.Numerals.{add-one}
use mathlib.Core.Path.{◌≡◌, refl, sym, ap, ◌∙◌}
use mathlib.Core.Logic.{◌⊎◌, inl, inr}
use mathlib.Core.List.{List, [], ◌∷◌, ◌++◌}
use lib.ListN.{length, get_or, take, drop, set, replicate, length-append, length-set, length-drop, get_or-replicate, get_or-append}
use lib.Seq.{take-suc, drop-cons, get_or-drop, get_or-append-add, drop-append-add, get_or-set_same, get_or-set_other}
use Rattle.lists.specs.Lists.{sum}
use Rattle.std.proofs.lemmas.Bool.{cases_lt}
use Rattle.volatile.specs.declared.Window.{Window}
use Rattle.volatile.specs.Periods.{average}
use Rattle.volatile.specs.Internal.{oldest, pushed, Roomy}

-- ---- sums of a part of a list

sum-snoc : (xs : List ℕ) (y : ℕ) → sum (xs ++ (y ∷ [])) ≡ sum xs + y
unfolding sum
sum-snoc [] y = omega arith
sum-snoc (x ∷ xs) y = omega (arith, sum-snoc xs y)

module _ (l : List ℕ) (d : ℕ) where
  sum-least : (n : ℕ) → d < length l → get_or l d 0 ≤ sum (take (suc n) (drop d l))
  unfolding sum
  sum-least n h = rw (drop-cons l d 0 h) (omega arith)

  -- one element on: the next comes in, the first goes out
  sum_slide : (n : ℕ) → d + n < length l
      → sum (take n (drop d l)) + get_or l (d + n) 0 ≡ get_or l d 0 + sum (take n (drop (suc d) l))
  unfolding sum
  sum_slide n h =
      let inside : n < length (drop d l) = simp length-drop (omega arith) in
      sym
      (ap sum (take-suc (drop d l) n 0 inside) ∙ sum-snoc (take n (drop d l)) (get_or (drop d l) n 0)
      ∙ ap (λ (x : ℕ). sum (take n (drop d l)) + x) (get_or-drop d l n 0))
      ∙ ap (λ (k : List ℕ). sum (take (suc n) k)) (drop-cons l d 0 (omega arith))

sum_most : (n most : ℕ) (l : List ℕ) → ((j : ℕ) → j < n → get_or l j 0 < most) → sum (take n l) ≤ n * most
unfolding sum
sum_most zero most l h = omega arith
sum_most (suc n) most [] h = omega arith
sum_most (suc n) most (x ∷ xs) h =
    omega (arith, h 0 (omega arith), sum_most n most xs (λ j k. h (suc j) (omega arith)))

-- ---- the list with thirty zeros before it

module _ (s : List ℕ) where
  abbrev padded : List ℕ
  padded = replicate 30 0 ++ s

  padded-length : length padded ≡ 30 + length s
  padded-length = length-append (replicate 30 0) s

  padded-at : (j : ℕ) → get_or padded (30 + j) 0 ≡ get_or s j 0
  padded-at j = get_or-append-add (replicate 30 0) s j 0

  padded_small : (d most : ℕ) → 0 < most → ((j : ℕ) → j < d → get_or s j 0 < most) → (j : ℕ) → j < d + 30 → get_or padded j 0 < most
  padded_small d most z h j k = go (cases_lt j 30)
    where
      go : (j < 30) ⊎ (30 ≤ j) → get_or padded j 0 < most
      go (inl l) =
          rw (get_or-append (replicate 30 0) s 0 j l ∙ get_or-replicate 30 j 0 0 l) z
      go (inr l) =
          let same : j ≡ 30 + (j - 30) = omega arith in
          rw same (rw (padded-at (j - 30)) (h (j - 30) (omega arith)))

  -- the ring holds the thirty before its day, and their sum
  pub record Holds (w : Window) : Type 0 where
    pub places : length w.recent ≡ 30
    pub ring : (j : ℕ) → w.day ≤ j → j < w.day + 30 → get_or w.recent (j % 30) 0 ≡ get_or padded j 0
    pub sum_is : w.sum ≡ sum (take 30 (drop w.day padded))
    pub small : (j : ℕ) → j < w.day → get_or s j 0 < 4194304

  module _ (w : Window) (holds : Holds w) (within : w.day ≤ length s) where
    oldest_is : oldest w ≡ get_or padded w.day 0
    oldest_is = holds.ring w.day (omega arith) (omega arith)

    pub roomy : w.day < 9223372036854775807 → Roomy w
    roomy d =
        let n = padded-length in
        let h = holds.sum_is in
        record {
          places = holds.places;
          within = omega (arith, oldest_is, sum-least padded w.day 29 (omega arith));
          small = omega (arith, sum_most 30 4194304 (drop w.day padded) each);
          days = d;
        }
      where
        each : (j : ℕ) → j < 30 → get_or (drop w.day padded) j 0 < 4194304
        each j k =
            rw (get_or-drop w.day padded j 0)
            (padded_small w.day 4194304 (omega arith) holds.small (w.day + j) (omega arith))

    module _ (sigma : ℕ) (has : w.day < length s) (is : sigma ≡ get_or s w.day 0) (least : sigma < 4194304) where
      abbrev at : ℕ
      at = w.day % 30

      entered : (j : ℕ) → w.day + 1 ≤ j → j < w.day + 1 + 30 → get_or (set w.recent at sigma) (j % 30) 0 ≡ get_or padded j 0
      entered j l u = go (cases_lt j (w.day + 30))
        where
          go : (j < w.day + 30) ⊎ (w.day + 30 ≤ j) → get_or (set w.recent at sigma) (j % 30) 0 ≡ get_or padded j 0
          go (inl k) =
              get_or-set_other w.recent at (j % 30) sigma 0 (λ e. omega arith) ∙ holds.ring j (omega arith) k
          go (inr k) =
              let same : j ≡ 30 + w.day = omega arith in
              let turn : j % 30 ≡ at = omega arith in
              let n = holds.places in
              ap (λ (i : ℕ). get_or (set w.recent at sigma) i 0) turn
              ∙ get_or-set_same w.recent at sigma 0 (omega arith) ∙ is ∙ sym (padded-at w.day)
              ∙ sym (ap (λ (i : ℕ). get_or padded i 0) same)

      slid : w.sum + sigma - oldest w ≡ sum (take 30 (drop (w.day + 1) padded))
      slid =
          let n = padded-length in
          let slide = sum_slide padded w.day 30 (omega arith) in
          let next : get_or padded (w.day + 30) 0 ≡ sigma =
          (let same : w.day + 30 ≡ 30 + w.day = omega arith in ap (λ (i : ℕ). get_or padded i 0) same) ∙ padded-at w.day ∙ sym is in
          let o = oldest_is in
          let h = holds.sum_is in
          let one : drop (w.day + 1) padded ≡ drop (suc w.day) padded = ap (λ (i : ℕ). drop i padded) (add-one w.day) in
          let goal : w.sum + sigma - oldest w ≡ sum (take 30 (drop (suc w.day) padded)) = omega arith in
          goal ∙ sym (ap (λ (k : List ℕ). sum (take 30 k)) one)

      smaller : (j : ℕ) → j < w.day + 1 → get_or s j 0 < 4194304
      smaller j k = go (cases_lt j w.day)
        where
          go : (j < w.day) ⊎ (w.day ≤ j) → get_or s j 0 < 4194304
          go (inl l) = holds.small j l
          go (inr l) =
              let same : j ≡ w.day = omega arith in
              rw same (rw (sym is) least)

      pub pushed-holds : Holds (pushed w sigma)
      unfolding pushed
      pushed-holds =
          record {
            places = length-set w.recent at sigma ∙ holds.places;
            ring = entered;
            sum_is = slid;
            small = smaller;
          }

  -- with thirty sigmas before the day, a thirtieth of the sum is the average
  pub average_is : (w : Window) → Holds w → (first : ℕ) → first ≡ w.day → 30 ≤ first → w.sum / 30 ≡ average s first
  unfolding average
  average_is w holds first e h =
      ap (λ (n : ℕ). n / 30)
      (holds.sum_is
      ∙ ap (λ (k : List ℕ). sum (take 30 k))
      (ap (λ (i : ℕ). drop i padded) (sym e ∙ (let split : first ≡ 30 + (first - 30) = omega arith in split))
      ∙ drop-append-add (replicate 30 0) s (first - 30)))

-- no sigma yet
pub fresh_holds : (s : List ℕ) → Holds s (record { recent = replicate 30 0; day = 0; sum = 0 })
unfolding sum
fresh_holds s =
    record {
      places = refl;
      ring = λ j l u.
          (let small : j % 30 ≡ j = omega arith in ap (λ (i : ℕ). get_or (replicate 30 0) i 0) small)
          ∙ sym (get_or-append (replicate 30 0) s 0 j u);
      sum_is = refl;
      small = λ j l. absurd (omega arith);
    }
