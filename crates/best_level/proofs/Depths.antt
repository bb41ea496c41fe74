-- What a level holds, and what it holds after a change.
use Prim.Native.Nat.{ℕ, ◌+◌, ◌-◌, ◌*◌, ◌≤◌}
use native.Mathlib.Omega.{arith}
use mathlib.Core.Path.{◌≡◌, refl, sym, ap, ◌∙◌}
use mathlib.Core.List.{List, [], ◌∷◌, Memᴰ}
use mathlib.Core.Bool.{Bool}
use lib.Dec.{leb, ltb, eqb}
use lib.ListN.{length, length-map}
use Rattle.lists.specs.Lists.{sum}
use Rattle.best_quote.specs.declared.Level.{Level}
use Rattle.best_quote.specs.Levels.{held, level_at, Columns}
use Rattle.best_quote.proofs.Levels.{held_most, level_split}
use Rattle.order_side.specs.declared.Change.{Change}
use Rattle.order_side.specs.Slots.{Slot, keys_of, volumes_of, held_in, level_in, GoodSlots}
use Rattle.order_side.specs.Internal.{volume_where, Changed}
use Rattle.best_level.specs.Internal.{IsLevel, SumFits}

-- ---- a level of some columns

-- it is that of its own key
pub own_level : (ks vs : List ℕ) (k : ℕ) (l : Level) → l ≡ level_at ks vs k → l ≡ level_at ks vs l.key
unfolding level_at
own_level ks vs k l e = e ∙ ap (level_at ks vs) (sym (ap (λ (x : Level). x.key) e))

pub level_small : (ks vs : List ℕ) (l : Level) → Columns ks vs → l ≡ level_at ks vs l.key → l.before + l.at ≤ 64000000
unfolding level_at
level_small ks vs l h e =
    let before : l.before ≡ held (ltb l.key) ks vs = ap (λ (x : Level). x.before) e in
    let at : l.at ≡ held (eqb l.key) ks vs = ap (λ (x : Level). x.at) e in
    omega (arith, before, at, level_split l.key ks vs, held_most (leb l.key) ks vs, h.small)

-- ---- the contracts of a side's orders

volumes_most : (slots : List Slot) → ((s : Slot) → Memᴰ s slots → s.volume ≤ 1000000) → sum (volumes_of slots) ≤ length slots * 1000000
unfolding sum
volumes_most [] h = omega arith
volumes_most (s ∷ slots) h =
    omega (arith, h s (Memᴰ.head refl), volumes_most slots (λ x m. h x (Memᴰ.tail m)))

pub slots_columns : (slots : List Slot) → GoodSlots slots → Columns (keys_of slots) (volumes_of slots)
slots_columns slots g =
    record {
      even = length-map slots (λ (s : Slot). s.key) ∙ sym (length-map slots (λ (s : Slot). s.volume));
      small = omega (arith, volumes_most slots g.volume_most, g.few);
    }

held_small : (t : ℕ → Bool) (slots : List Slot) → GoodSlots slots → held_in t slots ≤ 64000000
held_small t slots g = omega (arith, held_most t (keys_of slots) (volumes_of slots), (slots_columns slots g).small)

-- ---- after a change

-- what a sum of the orders gains and loses
module _ (t : ℕ → Bool) (c : Change) (before after : List Slot) (n gained lost : ℕ) (good : GoodSlots after) (h : Changed c before after)
    (was : n ≡ held_in t before) (g : gained ≡ volume_where t c.key c.volume.0) (l : lost ≡ volume_where t c.old c.held.0) where
  pub lasting : SumFits n gained lost
  lasting = record { enough = omega (arith, h t, was, g, l); small = omega (arith, h t, was, g, l, held_small t after good) }

  pub changed-held : n + gained - lost ≡ held_in t after
  changed-held = omega (arith, h t, was, g, l)

module _ (before : List Slot) (l : Level) (is : IsLevel before l) where
  pub before_is : l.before ≡ held_in (ltb l.key) before
  unfolding level_at
  before_is = ap (λ (x : Level). x.before) is

  pub at_is : l.at ≡ held_in (eqb l.key) before
  unfolding level_at
  at_is = ap (λ (x : Level). x.at) is

-- a level by its three numbers
pub level_of_lem : (slots : List Slot) (k b a : ℕ) → b ≡ held_in (ltb k) slots → a ≡ held_in (eqb k) slots
    → ◌≡◌ {A = Level} (record { key = k; before = b; at = a }) (level_in slots k)
unfolding level_at
level_of_lem slots k b a e f = λ i. record { key = k; before = e i; at = f i }
