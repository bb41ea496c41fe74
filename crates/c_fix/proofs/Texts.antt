-- A FIX message as words, read and to be written.
use Prim.Native.Nat.{ℕ, ◌≤◌, ◌<◌}
use mathlib.Core.Path.{◌≡◌, refl, sym, ap, ◌∙◌}
use mathlib.Core.Bool.{Bool, true, false, not}
use mathlib.Core.List.{List, ◌∷◌}
use lib.ListN.{length, get_or, take}
use borrow.Author.Tests.{lt-ltb, le-ltb, eq-eqb, ne_eqb, not-true, not-false}
use Rattle.rules.specs.declared.Side.{Side}
use Rattle.rules.specs.declared.Steps.{Steps}
use Rattle.lists.specs.Lists.{within}
use Rattle.rules.specs.Units.{steps, contracts}
use Rattle.rules.specs.Answers.{accepted, refused}
use Rattle.rules.specs.Records.{signed_of}
use Rattle.rules.specs.Messages.{new_order, cancel_order, replace_order, write_message}
use Rattle.words.specs.Sides.{side_by}
use Rattle.fix_reader.specs.declared.Message.{Message}
use Rattle.fix_reader.specs.Answers.{values_shown}
use Rattle.c_fix.specs.Messages.{message_words, message_for, text_for}

-- ---- read
pub order_words_lem : (kind id orig volume sw side pw price : ℕ) (time ws : List ℕ) → ws ≡ kind ∷ id ∷ orig ∷ sw ∷ volume ∷ pw ∷ time
    → sw ≡ side → pw ≡ price → ws ≡ kind ∷ id ∷ orig ∷ side ∷ volume ∷ price ∷ time
order_words_lem kind id orig volume sw side pw price time ws e a b = e ∙ (λ i. kind ∷ id ∷ orig ∷ a i ∷ volume ∷ b i ∷ time)

pub as_read : (read said : Message) → read ≡ said → accepted (message_words (values_shown said)) ≡ accepted (message_words (values_shown read))
as_read read said h = ap (λ (m : Message). accepted (message_words (values_shown m))) (sym h)

-- ---- to be written
module _ (ws sixty : List ℕ) where
  pub too_few : length ws < 6 → refused 3 ≡ text_for (message_for ws sixty)
  unfolding message_for
  too_few h = rw (lt-ltb (length ws) 6 h) refl

  module _ (long : 6 ≤ length ws) where
    pub a_cancel : get_or ws 0 0 ≡ 2 → write_message (cancel_order (get_or ws 1 0) (get_or ws 2 0) sixty) ≡ text_for (message_for ws sixty)
    unfolding message_for
    a_cancel k = rw (le-ltb (length ws) 6 long, eq-eqb (get_or ws 0 0) 2 k) refl

    module _ (other : get_or ws 0 0 ≡ 2 → ⊥) (good : Bool) (is : good ≡ within 1 2 (get_or ws 3 0)) where
      pub no_side : good ≡ false → refused 3 ≡ text_for (message_for ws sixty)
      unfolding message_for
      no_side h = rw (le-ltb (length ws) 6 long, ne_eqb (get_or ws 0 0) 2 other, sym is ∙ h) refl

      module _ (h : good ≡ true) (price : Steps) (same : price ≡ steps (signed_of (get_or ws 5 0))) (side : Side) (which : side ≡ side_by (get_or ws 3 0)) where
        pub a-new : get_or ws 0 0 ≡ 1
            → write_message (new_order (get_or ws 1 0) side (contracts (get_or ws 4 0)) price sixty) ≡ text_for (message_for ws sixty)
        unfolding message_for
        a-new k =
            (λ i. write_message (new_order (get_or ws 1 0) (which i) (contracts (get_or ws 4 0)) (same i) sixty))
            ∙ rw (le-ltb (length ws) 6 long, ne_eqb (get_or ws 0 0) 2 other, sym is ∙ h, eq-eqb (get_or ws 0 0) 1 k) refl

        pub a_replace : (get_or ws 0 0 ≡ 1 → ⊥) → get_or ws 0 0 ≡ 3
            → write_message (replace_order (get_or ws 1 0) (get_or ws 2 0) side (contracts (get_or ws 4 0)) price sixty) ≡ text_for (message_for ws sixty)
        unfolding message_for
        a_replace l k =
            (λ i. write_message (replace_order (get_or ws 1 0) (get_or ws 2 0) (which i) (contracts (get_or ws 4 0)) (same i) sixty))
            ∙ rw (le-ltb (length ws) 6 long, ne_eqb (get_or ws 0 0) 2 other, sym is ∙ h, ne_eqb (get_or ws 0 0) 1 l, eq-eqb (get_or ws 0 0) 3 k) refl

        pub no_kind : (get_or ws 0 0 ≡ 1 → ⊥) → (get_or ws 0 0 ≡ 3 → ⊥) → refused 3 ≡ text_for (message_for ws sixty)
        unfolding message_for
        no_kind l k =
            rw (le-ltb (length ws) 6 long, ne_eqb (get_or ws 0 0) 2 other, sym is ∙ h, ne_eqb (get_or ws 0 0) 1 l, ne_eqb (get_or ws 0 0) 3 k) refl
