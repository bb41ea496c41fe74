-- What the fields of a record say, by their kind.
use Rattle.std.specs.Prelude.{if◌then◌else◌}
use Prim.Native.Nat.{ℕ, zero, suc, ◌≤◌}
use native.Mathlib.Omega.{arith}
use mathlib.Core.Path.{◌≡◌, refl, sym, ap, ◌∙◌}
use mathlib.Core.Bool.{Bool, true, false, true≢false}
use borrow.Author.Tests.{eqb-true, eqb-false}
use lib.Dec.{eqb}
use Rattle.rules.specs.declared.Event.TheVariants.{Add, Amend, Cancel, Deal}
use Rattle.rules.specs.declared.Side.TheVariants.{Buy, Sell}
use Rattle.lists.specs.Lists.{within}
use Rattle.rules.specs.Answers.{accepted}
use Rattle.rules.specs.Records.{unused_zero}
use Rattle.lists.proofs.Lists.{both}
use Rattle.rules.proofs.Refusals.{within-parts}
use Rattle.record.specs.declared.Fields.{Fields}
use Rattle.record.specs.Fields.{numbers, good_fields, read_fields}
use Rattle.record.proofs.Reading.{good_other, buy_of, sell_of, amend_of_lem, cancel_of_lem, deal_of, says}
use Rattle.book.specs.Internal.{order_by, Lessens, add_of}

-- the kind that is left
five : (n : ℕ) → 1 ≤ n → n ≤ 6 → within 1 2 n ≡ false → (n ≡ 3 → ⊥) → (n ≡ 4 → ⊥) → (n ≡ 6 → ⊥) → n ≡ 5
five zero l m a c d f = absurd (omega (arith, l))
five (suc zero) l m a c d f = absurd (true≢false a)
five (suc (suc zero)) l m a c d f = absurd (true≢false a)
five (suc (suc (suc zero))) l m a c d f = absurd (c refl)
five (suc (suc (suc (suc zero)))) l m a c d f = absurd (d refl)
five (suc (suc (suc (suc (suc zero))))) l m a c d f = refl
five (suc (suc (suc (suc (suc (suc zero)))))) l m a c d f = absurd (f refl)
five (suc (suc (suc (suc (suc (suc (suc n))))))) l m a c d f = absurd (omega (arith, m))

two : (n : ℕ) → 1 ≤ n → n ≤ 2 → (n ≡ 1 → ⊥) → n ≡ 2
two zero l m a = absurd (omega (arith, l))
two (suc zero) l m a = absurd (a refl)
two (suc (suc zero)) l m a = refl
two (suc (suc (suc n))) l m a = absurd (omega (arith, m))

module _ (f : Fields) where
  -- an add's and an amendment's take all fields
  full : (n : ℕ) → f.kind ≡ n → 1 ≤ n → n ≤ 3 → within 1 6 n ≡ true → good_fields f ≡ true
  full n k l m h =
      sym
      (good_other f (λ (e : f.kind ≡ 4). omega (arith, k, m, e)) (λ (e : f.kind ≡ 5). omega (arith, k, m, e)) (λ (e : f.kind ≡ 6). omega (arith, k, m, e))
      (sym (ap (within 1 6) k ∙ h)))

  pub says_amend : f.kind ≡ 3 → accepted (Amend f.t f.id f.price f.volume) ≡ read_fields f
  says_amend k = says f (full 3 k (omega arith) (omega arith) refl) (amend_of_lem f k)

  pub says_add : within 1 2 f.kind ≡ true → accepted (add_of f.t (order_by f)) ≡ read_fields f
  says_add h = go (eqb f.kind 1) refl
    where
      go : (b : Bool) → eqb f.kind 1 ≡ b → accepted (add_of f.t (order_by f)) ≡ read_fields f
      go true e =
          let k = eqb-true f.kind 1 e in
          says f (full 1 k (omega arith) (omega arith) refl)
          (buy_of f (ap (λ (b : Bool). Add f.t f.id (if b then Buy else Sell) f.price f.volume) e) k)
      go false e =
          let p = within-parts 1 2 f.kind h in
          let k : f.kind ≡ 2 = two f.kind p.0 p.1 (eqb-false f.kind 1 e) in
          says f (full 2 k (omega arith) (omega arith) refl)
          (sell_of f (ap (λ (b : Bool). Add f.t f.id (if b then Buy else Sell) f.price f.volume) e) k)

  pub says_cancel : good_fields f ≡ true → f.kind ≡ 4 → accepted (Cancel f.t f.id) ≡ read_fields f
  says_cancel g k = says f g (cancel_of_lem f k)

  pub says_deal : good_fields f ≡ true → Lessens f → (f.kind ≡ 4 → ⊥) → accepted (Deal f.t f.id f.volume) ≡ read_fields f
  unfolding good_fields
  says_deal g l other =
      let p = within-parts 1 6 f.kind (both (within 1 6 f.kind) (unused_zero (numbers f)) g).0 in
      says f g (deal_of f (five f.kind p.0 p.1 l.no_add l.no_amend other l.no_tick))
