-- The words of a side whose orders have changed: the level in them, and the front of their columns of keys and volumes.
use Rattle.std.specs.Prelude.{if◌then◌else◌}
use Prim.Native.Nat.{ℕ, zero, suc, ◌+◌, ◌-◌, ◌≤◌}
use native.Mathlib.Omega.{arith}
use mathlib.Core.Path.{◌≡◌, refl, ap, ◌∙◌}
use mathlib.Core.List.{List, [], ◌∷◌, ◌++◌, Memᴰ}
use mathlib.Core.Bool.{Bool, false}
use lib.Dec.{leb, eqb}
use borrow.Author.Tests.{ne_eqb}
use lib.ListN.{length, get_or, take, drop, replicate, length-append, length-map, length-replicate}
use Rattle.lists.specs.Lists.{sum}
use Rattle.lists.proofs.Lists.{sum-append}
use Rattle.best_quote.specs.declared.Level.{Level}
use Rattle.best_quote.specs.Levels.{held, enough, level_at, level_of, best_key, Columns, Searchable}
use Rattle.best_quote.specs.Sums.{key_sums, downward}
use Rattle.best_quote.proofs.Levels.{held_blanks, level_at_blanks, level_of_blanks, best_key_blanks}
use Rattle.order_side.specs.declared.Change.{Change}
use Rattle.order_side.specs.Slots.{Slot, keys_of, volumes_of, held_in, level_in, best_in, best_key_in, kept_in, GoodSlots}
use Rattle.order_side.specs.Internal.{StaleLevel}
use Rattle.order_side.proofs.Columns.{padded-at}
use Rattle.order_side.proofs.Words.{kept-key, kept_large, words_length, count_is, key_is, before_is, at_is, keys-taken, volumes-taken}
use Rattle.best_level.specs.CandidateKeys.{keys_from}
use Rattle.best_level.specs.Internal.{level_read, IsLevel}
use Rattle.best_level.proofs.Depths.{own_level, slots_columns}
use Rattle.best_level.proofs.Blanks.{small_blanks, search_blanks, from_blanks}

-- ---- the columns of the orders, with blanks after them

blanks_sum : (n : ℕ) → sum (replicate n 0) ≡ 0
unfolding sum
blanks_sum zero = refl
blanks_sum (suc n) = omega (arith, blanks_sum n)

pub keys_most : (slots : List Slot) → ((s : Slot) → Memᴰ s slots → s.key ≤ 2000000001) → (i : ℕ) → get_or (keys_of slots) i 0 ≤ 2000000001
keys_most [] h i = omega arith
keys_most (s ∷ slots) h zero = h s (Memᴰ.head refl)
keys_most (s ∷ slots) h (suc i) = keys_most slots (λ x m. h x (Memᴰ.tail m)) i

module _ (slots : List Slot) (g : GoodSlots slots) (n : ℕ) where
  with_columns : Columns (keys_of slots ++ replicate n 0) (volumes_of slots ++ replicate n 0)
  with_columns =
      let c = slots_columns slots g in
      record {
        even = omega (arith, c.even, length-append (keys_of slots) (replicate n 0), length-append (volumes_of slots) (replicate n 0));
        small = omega (arith, c.small, sum-append (volumes_of slots) (replicate n 0), blanks_sum n);
      }

  with_searchable : (start : ℕ) → length slots + n ≤ 64 → start ≤ 2000000001
      → Searchable (keys_of slots ++ replicate n 0) (volumes_of slots ++ replicate n 0) start
  with_searchable start h s =
      record {
        columns = with_columns;
        few = omega (arith, length-append (keys_of slots) (replicate n 0), length-map slots (λ (x : Slot). x.key), length-replicate {A = ℕ} n 0);
        keys = λ i. omega (arith, padded-at (keys_of slots) n i, keys_most slots g.key_most i);
        start_most = s;
      }

zero_held : (slots : List Slot) → ((s : Slot) → Memᴰ s slots → 1 ≤ s.key) → held_in (eqb 0) slots ≡ 0
unfolding held
zero_held [] h = refl
zero_held (s ∷ slots) h =
    let other : eqb 0 s.key ≡ false = ne_eqb 0 s.key (λ (e : 0 ≡ s.key). let k = h s (Memᴰ.head refl) in omega (arith, e)) in
    let none : (if eqb 0 s.key then s.volume else 0) ≡ 0 = ap (λ (b : Bool). if b then s.volume else 0) other in
    omega (arith, none, zero_held slots (λ x m. h x (Memᴰ.tail m)))

-- ---- the words of the orders after a change

module _ (words : List ℕ) (c : Change) (minimum : ℕ) (m : StaleLevel words c minimum) where
  pub moving_length : length words ≡ 256
  moving_length = words_length words m.after (kept_in minimum m.before) m.good.few m.is

  pub moving_count : get_or words 192 0 ≡ length m.after
  moving_count = count_is words m.after (kept_in minimum m.before) m.good.few m.is

  pub moving_few : get_or words 192 0 ≤ 64
  moving_few = omega (arith, moving_count, m.good.few)

  -- they hold a level of the orders before the change
  pub moving_level : level_read words ≡ kept_in minimum m.before
  moving_level =
      let l = kept_in minimum m.before in
      λ i. record {
        key = key_is words m.after l m.good.few m.is i;
        before = before_is words m.after l m.good.few m.is i;
        at = at_is words m.after l m.good.few m.is i;
      }

  -- .. the best one, where the side was no small one
  pub carried : leb (length m.before) 4 ≡ false → (l : Level) → l ≡ level_read words → IsLevel m.before l
  unfolding level_of
  carried many l e =
      let ks = keys_of m.before in
      let vs = volumes_of m.before in
      own_level ks vs (best_key minimum ks vs) l (e ∙ moving_level ∙ kept_large minimum m.before many)

  pub carried_key : get_or words 193 0 ≡ best_key_in minimum m.before
  carried_key = ap (λ (l : Level). l.key) moving_level ∙ kept-key minimum m.before

  -- the front of the columns, of n and k words that are as many
  module _ (to n k : ℕ) (en : n ≡ to) (ek : k ≡ to) (more : get_or words 192 0 ≤ to) (most : to ≤ 64) where
    pub keys-part : take n (drop 64 words) ≡ keys_of m.after ++ replicate (to - length m.after) 0
    keys-part =
        ap (λ (j : ℕ). take j (drop 64 words)) en
        ∙ keys-taken words m.after (kept_in minimum m.before) m.good.few m.is to (omega (arith, moving_count)) most

    pub volumes-part : take k (drop 128 words) ≡ volumes_of m.after ++ replicate (to - length m.after) 0
    volumes-part =
        ap (λ (j : ℕ). take j (drop 128 words)) ek
        ∙ volumes-taken words m.after (kept_in minimum m.before) m.good.few m.is to (omega (arith, moving_count)) most

    even : length (keys_of m.after) ≡ length (volumes_of m.after)
    even = (slots_columns m.after m.good).even

    pub part_columns : Columns (take n (drop 64 words)) (take k (drop 128 words))
    part_columns = rw (keys-part, volumes-part) (with_columns m.after m.good (to - length m.after))

    pub part_searchable : (start : ℕ) → start ≤ 2000000001 → Searchable (take n (drop 64 words)) (take k (drop 128 words)) start
    part_searchable start h =
        rw (keys-part, volumes-part) (with_searchable m.after m.good (to - length m.after) start (omega (arith, moving_count)) h)

    pub part_held : (t : ℕ → Bool) → held t (take n (drop 64 words)) (take k (drop 128 words)) ≡ held_in t m.after
    part_held t =
        rw (keys-part, volumes-part) (held_blanks (keys_of m.after) (volumes_of m.after) even (to - length m.after) t)

    -- no order has the key of none
    pub part_none : held (eqb 0) (take n (drop 64 words)) (take k (drop 128 words)) ≡ 0
    part_none = part_held (eqb 0) ∙ zero_held m.after m.good.key_least

    pub part_level : (key : ℕ) → level_at (take n (drop 64 words)) (take k (drop 128 words)) key ≡ level_in m.after key
    part_level key =
        rw (keys-part, volumes-part) (level_at_blanks (keys_of m.after) (volumes_of m.after) even (to - length m.after) key)

    pub part-best-key : best_key minimum (take n (drop 64 words)) (take k (drop 128 words)) ≡ best_key minimum (keys_of m.after) (volumes_of m.after)
    part-best-key =
        rw (keys-part, volumes-part) (best_key_blanks (keys_of m.after) (volumes_of m.after) even (to - length m.after) minimum)

    pub part-best : level_of minimum (take n (drop 64 words)) (take k (drop 128 words)) ≡ best_in minimum m.after
    part-best =
        rw (keys-part, volumes-part) (level_of_blanks (keys_of m.after) (volumes_of m.after) even (to - length m.after) minimum)

    -- W3's number: of all orders sorted by price, of all orders, and of the candidates from an old level on
    pub part_small : key_sums (enough minimum (take n (drop 64 words)) (take k (drop 128 words))) 0 (downward (take n (drop 64 words)))
        ≡ key_sums (enough minimum (keys_of m.after) (volumes_of m.after)) 0 (downward (keys_of m.after))
    part_small =
        rw (keys-part, volumes-part) (small_blanks (keys_of m.after) (volumes_of m.after) even (to - length m.after) minimum)

    pub part_search : key_sums (enough minimum (take n (drop 64 words)) (take k (drop 128 words))) 0 (take n (drop 64 words))
        ≡ key_sums (enough minimum (keys_of m.after) (volumes_of m.after)) 0 (keys_of m.after)
    part_search =
        rw (keys-part, volumes-part) (search_blanks (keys_of m.after) (volumes_of m.after) even (to - length m.after) minimum)

    pub part_from : (key : ℕ) (old : Level)
        → key_sums (enough minimum (take n (drop 64 words)) (take k (drop 128 words))) 0 (keys_from minimum (take n (drop 64 words)) (take k (drop 128 words)) key old)
        ≡ key_sums (enough minimum (keys_of m.after) (volumes_of m.after)) 0 (keys_from minimum (keys_of m.after) (volumes_of m.after) key old)
    part_from key old =
        rw (keys-part, volumes-part) (from_blanks (keys_of m.after) (volumes_of m.after) even (to - length m.after) minimum key old)
