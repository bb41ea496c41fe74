-- The amendment and the count: equal prices are each at most the other.
use Rattle.std.proofs.Common.{◌≡◌, ℕ, ℤ, pos, negsuc, Bool, true, false, ◌&&◌, eqb, ltb, leb, is_eq, Less, Greater, Equal, refl, ap, ◌∙◌}
use mathlib.Core.Bool.{cond}
use borrow.Author.Tests.{leb-true, leb-false, lt-ltb, le-ltb}
use native.Mathlib.Nat.{le_of_lt}
use Rattle.std.specs.Ordering.{int_eq}
use Rattle.std.proofs.Math.Bool.{and_assoc}
use Rattle.rules.specs.Causes.{good_ticket, same_price}
use Rattle.ticket.proofs.is_present.Goals as goal

-- neither below the other
abbrev meet : Bool → Bool → Bool
meet x y = is_eq (cond x Less (cond y Greater Equal))

same-number : (m n : ℕ) → meet (ltb m n) (ltb n m) ≡ (leb m n && leb n m)
same-number m n = go (leb m n) (leb n m) refl refl
  where
    go : (x y : Bool) → leb m n ≡ x → leb n m ≡ y → meet (ltb m n) (ltb n m) ≡ (leb m n && leb n m)
    go true true h k = rw (le-ltb n m (leb-true m n h), le-ltb m n (leb-true n m k), h, k) refl
    go true false h k = rw (lt-ltb m n (leb-false n m k), h, k) refl
    go false y h k = rw (lt-ltb n m (leb-false m n h), le-ltb m n (le_of_lt (leb-false m n h)), h) refl

same-price : (p q : ℤ) → int_eq p q ≡ same_price p q
same-price (pos m) (pos n) = same-number m n
same-price (pos m) (negsuc n) = refl
same-price (negsuc m) (pos n) = refl
same-price (negsuc m) (negsuc n) = same-number n m

regrouped : (a b c d : Bool) → (a && (b && (c && d))) ≡ (a && b && c && d)
regrouped a b c d = rw (and_assoc (a && b) c d, and_assoc a b (c && d)) refl

pub returns : goal.returns
unfolding good_ticket
returns c =
    let t = c.args.ticket.amendment in
    let a = c.args.amendment in
    ap (λ (x : Bool). x && eqb c.args.ticket.count c.args.count)
    (c.eq.ensures
    ∙ ap (λ (x : Bool). eqb t.t.0 a.t.0 && (eqb t.id a.id && (x && eqb t.volume.0 a.volume.0))) (same-price t.price.0 a.price.0)
    ∙ regrouped (eqb t.t.0 a.t.0) (eqb t.id a.id) (same_price t.price.0 a.price.0) (eqb t.volume.0 a.volume.0))
