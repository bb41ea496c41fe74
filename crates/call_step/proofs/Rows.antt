-- A row of another length than seven is refused by 1 whatever it holds, so one such row may replace another.
use Rattle.std.specs.Prelude.{if◌then◌else◌}
use Prim.Native.Nat.{ℕ}
use native.Mathlib.Omega.{arith}
use mathlib.Core.Path.{◌≡◌, refl, sym, ap, subst, ◌∙◌}
use mathlib.Core.List.{List, []}
use mathlib.Core.Bool.{Bool, true, false}
use borrow.Author.Tests.{ne_eqb, eqb-true, eqb-false}
use lib.Dec.{eqb}
use lib.ListN.{length, take}
use lib.Seq.{take_all}
use Rattle.rules.specs.declared.Opening.{Opening}
use Rattle.rules.specs.Terms.{paper}
use Rattle.rules.specs.Answers.{Outcome, Reply, refused}
use Rattle.rules.specs.Calls.{Book, Open}
use Rattle.rules.specs.Causes.{first_number, causes, refusal_of}
use Rattle.rules.specs.Book.{answer_of, step}
use Rattle.rules.proofs.Bounds.{after-snoc}
use Rattle.month.specs.declared.Month.{Month}
use Rattle.month.specs.Represents.{month_of, Answered}

module _ (day : ℕ) (opening : Opening) where
  module _ (b : Book) (ws : List ℕ) (h : length ws ≡ 7 → ⊥) where
    by_1 : refusal_of paper b (Open ws day opening) ≡ 1
    unfolding refusal_of causes first_number
    by_1 = rw (ne_eqb (length ws) 7 h) refl

    pub answer_is : answer_of paper b (Open ws day opening) ≡ refused 1
    unfolding answer_of
    answer_is = rw by_1 refl

    pub step_is : step paper b (Open ws day opening) ≡ b
    unfolding step
    step_is = rw by_1 refl

  module _ {m next : Month} {shown : Outcome Reply} where
    other_row : (vs ws : List ℕ) → (length vs ≡ 7 → ⊥) → (length ws ≡ 7 → ⊥)
        → Answered m (Open vs day opening) next shown → Answered m (Open ws day opening) next shown
    other_row vs ws h k a =
        record {
          month = λ calls is.
              a.month calls is
              ∙ ap month_of
              (after-snoc paper calls (Open vs day opening) ∙ step_is _ vs h ∙ sym (after-snoc paper calls (Open ws day opening) ∙ step_is _ ws k));
          answer = λ calls is. a.answer calls is ∙ answer_is _ vs h ∙ sym (answer_is _ ws k);
        }

    -- seven words are handed on where the row has seven, and none where it has not
    pub handed : (n : ℕ) (row ws : List ℕ) → n ≡ (if eqb (length ws) 7 then 7 else 0) → (length ws ≡ 7 → row ≡ ws)
        → Answered m (Open (take n row) day opening) next shown → Answered m (Open ws day opening) next shown
    handed n row ws e r a = go (eqb (length ws) 7) refl e
      where
        go : (seven : Bool) → eqb (length ws) 7 ≡ seven → n ≡ (if seven then 7 else 0) → Answered m (Open ws day opening) next shown
        go true t f =
            let s = eqb-true (length ws) 7 t in
            let p : take n row ≡ ws = ap (λ (k : ℕ). take k row) f ∙ ap (take 7) (r s) ∙ take_all 7 ws (omega arith) in
            subst (λ (l : List ℕ). Answered m (Open l day opening) next shown) p a
        go false t f =
            other_row [] ws (λ z. omega arith) (eqb-false (length ws) 7 t)
            (subst (λ (k : ℕ). Answered m (Open (take k row) day opening) next shown) f a)
