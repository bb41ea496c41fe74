-- An open in place: a row of another length than seven is refused by 1 whatever it holds, so that one such row may take another's place.
use Rattle.std.specs.Prelude.{if◌then◌else◌}
use Prim.Native.Nat.{ℕ}
use native.Mathlib.Omega.{arith}
use mathlib.Core.Path.{◌≡◌, refl, sym, ap, subst, ◌∙◌}
use mathlib.Core.List.{List, [], ◌∷◌, ◌++◌}
use mathlib.Core.Bool.{Bool, true, false}
use borrow.Author.Tests.{eqb-true, eqb-false}
use lib.Dec.{eqb}
use lib.ListN.{length, take, drop}
use lib.Seq.{take_all}
use Rattle.rules.specs.declared.Opening.{Opening}
use Rattle.rules.specs.Terms.{paper}
use Rattle.rules.specs.Calls.{Book, Open}
use Rattle.rules.proofs.Bounds.{after-snoc}
use Rattle.month.specs.Represents.{month_of}
use Rattle.month.specs.Words.{month_words}
use Rattle.month_in_place.specs.Events.{ChangesMonth}
use Rattle.call_step.proofs.Rows.{answer_is, step_is}

module _ (day : ℕ) (opening : Opening) (words words' : List ℕ) (refusal : ℕ) where
  other_row : (vs ws : List ℕ) → (length vs ≡ 7 → ⊥) → (length ws ≡ 7 → ⊥)
      → ChangesMonth words (Open vs day opening) words' refusal → ChangesMonth words (Open ws day opening) words' refusal
  other_row vs ws h k a =
      record {
        month = λ calls is.
            a.month calls is
            ∙ ap (λ (b : Book). month_words (month_of b) ++ drop 2464 words)
            (after-snoc paper calls (Open vs day opening) ∙ step_is day opening _ vs h ∙ sym (after-snoc paper calls (Open ws day opening) ∙ step_is day opening _ ws k));
        answer = λ calls is. a.answer calls is ∙ answer_is day opening _ vs h ∙ sym (answer_is day opening _ ws k);
      }

  -- seven words are handed on where the row has seven, and none where it has not
  pub handed_changes : (n : ℕ) (row ws : List ℕ) → n ≡ (if eqb (length ws) 7 then 7 else 0) → (length ws ≡ 7 → row ≡ ws)
      → ChangesMonth words (Open (take n row) day opening) words' refusal → ChangesMonth words (Open ws day opening) words' refusal
  handed_changes n row ws e r a = go (eqb (length ws) 7) refl e
    where
      go : (seven : Bool) → eqb (length ws) 7 ≡ seven → n ≡ (if seven then 7 else 0) → ChangesMonth words (Open ws day opening) words' refusal
      go true t f =
          let s = eqb-true (length ws) 7 t in
          let p : take n row ≡ ws = ap (λ (k : ℕ). take k row) f ∙ ap (take 7) (r s) ∙ take_all 7 ws (omega arith) in
          subst (λ (l : List ℕ). ChangesMonth words (Open l day opening) words' refusal) p a
      go false t f =
          other_row [] ws (λ z. omega arith) (eqb-false (length ws) 7 t)
          (subst (λ (k : ℕ). ChangesMonth words (Open (take k row) day opening) words' refusal) f a)
