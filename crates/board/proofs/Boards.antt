-- A board's answer by the tests of its numbers, and that two different answers never show the same.
use Prim.Native.Nat.{ℕ, ◌*◌, ◌%◌, ◌≤◌, ◌<◌}
use native.Mathlib.Omega.{arith}
use native.Mathlib.Nat.{mul-le-mul}
use mathlib.Core.Path.{◌≡◌, refl, sym, ap, ◌∙◌}
use mathlib.Core.List.{List, [], ◌∷◌}
use mathlib.Core.Bool.{Bool, true, false, ◌&&◌}
use lib.Dec.{eqb}
use lib.ListN.{length, get_or}
use Rattle.lists.specs.Lists.{within, every}
use Rattle.rules.specs.Rows.{good_length}
use Rattle.rules.specs.Answers.{Outcome, accepted, refused}
use Rattle.rules.specs.Causes.{first_number}
use Rattle.rules.specs.Boards.{length_in, board_length, good_quantum_of, good_board, reaches, board_met, judged}
use Rattle.lists.proofs.Lists.{both}
use Rattle.rules.proofs.Refusals.{within-parts}
use Rattle.std.specs.Prelude.{Result, Ok, Err}
use Rattle.rules.specs.declared.Refusal.{Refusal}
use Rattle.rules.proofs.Answers.{not_refused, number-names}
use Rattle.board.specs.Answers.{shown_board}
use Rattle.board.specs.Internal.{numbers_good, shares_met}
use Rattle.board.proofs.Fronts.{every_is}

-- ---- a share of a length fits

pub share_most : (share l : ℕ) → share ≤ 100 → l ≤ 86400000 → share * l ≤ 8640000000
share_most share l h k = mul-le-mul h k

pub shares_most : (share l n : ℕ) → share ≤ 100 → l ≤ 86400000 → n ≤ 32 → share * l * n ≤ 276480000000
shares_most share l n h k i = mul-le-mul (share_most share l h k) i

-- ---- the answer

regroup : (a b c d : Bool) → a && b && c && d ≡ a && b && (c && d)
regroup true true c d = refl
regroup true false c d = refl
regroup false b c d = refl

first-length : (ss : List (List ℕ)) → 0 < length ss → board_length ss ≡ length_in (get_or ss 0 [])
first-length [] h = absurd (omega arith)
first-length (s ∷ ss) h = refl

pub record Bounds (l first second : ℕ) : Type 0 where
  pub length_most : l ≤ 86400000
  pub first_most : first ≤ 100
  pub second_most : second ≤ 100

-- by the test of the number of strikes
module _ (first second : ℕ) (strikes : List (List ℕ)) (size : Bool) (s : size ≡ within 1 32 (length strikes)) where
  pub size_refused : size ≡ false → refused 18 ≡ judged first second strikes
  unfolding judged good_board first_number
  size_refused e = simp (sym s ∙ e)

  pub size_bounds : size ≡ true → (1 ≤ length strikes) × (length strikes ≤ 32)
  size_bounds e = within-parts 1 32 (length strikes) (sym s ∙ e)

  -- and by that of the numbers, l being the first strike's
  module _ (sized : size ≡ true) (l : ℕ) (e : l ≡ length_in (get_or strikes 0 [])) (good : Bool)
      (g : good ≡ numbers_good l first second strikes) where
    length_is : board_length strikes ≡ l
    length_is = first-length strikes (size_bounds sized).0 ∙ sym e

    good_is : good_board first second strikes ≡ good
    unfolding good_board
    good_is =
        rw (length_is, sym s ∙ sized, ← every_is (good_quantum_of l) strikes)
        (regroup (good_length l) (every (good_quantum_of l) strikes) (within 1 100 first) (within 1 100 second) ∙ sym g)

    pub numbers_refused : good ≡ false → refused 18 ≡ judged first second strikes
    unfolding judged first_number
    numbers_refused f = simp (good_is ∙ f)

    pub numbers_bounds : good ≡ true → Bounds l first second
    numbers_bounds f =
        let quanta = good_length l && every (good_quantum_of l) strikes in
        let all = both quanta (within 1 100 first && within 1 100 second) (sym g ∙ f) in
        let lengths = both (good_length l) (every (good_quantum_of l) strikes) all.0 in
        let shares = both (within 1 100 first) (within 1 100 second) all.1 in
        record {
          length_most = (within-parts 1000 86400000 l (both (within 1000 86400000 l) (eqb (l % 1000) 0) lengths.0).0).1;
          first_most = (within-parts 1 100 first shares.0).1;
          second_most = (within-parts 1 100 second shares.1).1;
        }

    pub answered : good ≡ true → (met : Bool) → met ≡ shares_met l first second strikes → accepted met ≡ judged first second strikes
    unfolding judged first_number board_met
    answered f met m = rw (good_is ∙ f, length_is) (ap accepted (m ∙ rw (every_is (reaches first l) strikes) refl))

-- ---- two different answers never show the same

same-verdict : (a b : Bool) → ◌≡◌ {A = Outcome Bool} (accepted a) (accepted b) → a ≡ b
same-verdict a b e = cc

same-number : (m n : ℕ) → ◌≡◌ {A = Outcome Bool} (refused m) (refused n) → m ≡ n
same-number m n e = cc

pub board_shown : (a b : Result Bool Refusal) → shown_board a ≡ shown_board b → a ≡ b
board_shown (Ok a) (Ok b) e = ap Ok (same-verdict a b e)
board_shown (Ok a) (Err s) e = absurd (not_refused _ _ e)
board_shown (Err r) (Ok b) e = absurd (not_refused _ _ (sym e))
board_shown (Err r) (Err s) e = ap Err (number-names r s (same-number _ _ e))
