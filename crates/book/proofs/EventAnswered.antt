-- The table after an event: with the best level of its side moved, it represents the orders after it.
use Rattle.std.specs.Prelude.{if◌then◌else◌}
use Prim.Native.Nat.{ℕ, zero, suc, ◌≤◌, ◌<◌}
use native.Mathlib.Omega.{arith}
use mathlib.Core.Path.{◌≡◌, refl, sym, ap, ◌∙◌}
use mathlib.Core.Bool.{Bool, true, false}
use mathlib.Core.List.{List, map, map-map}
use lib.ListN.{length}
use Rattle.rules.specs.declared.Order.{Order}
use Rattle.rules.specs.declared.Event.{Event}
use Rattle.rules.specs.declared.Row.{Row}
use Rattle.rules.specs.declared.SpreadRule.{SpreadRule}
use Rattle.rules.specs.Orders.{has_id, apply}
use Rattle.rules.specs.declared.Refusal.{Refusal}
use Rattle.rules.specs.declared.Refusal.TheVariants.{RowNotSevenWords, RowWordOutOfRange, ArgumentOutOfRange, CellFilled, CellBlank, QuantumOpen, NoQuantumOpen, TimeBackwards, TimePastEnd, IdLive, IdNotLive, PriceOrVolumeOutOfRange, TooManyOrders, DealAboveLeft, BadRecord, BufferShort, LapseLimitOutOfRange, StrikesOutOfRange, WrongTicket, FrameWrong, FieldWrong}
use Rattle.rules.specs.Answers.{number_of, Outcome, accepted, refused}
use Rattle.rules.specs.Kept.{orders_keep}
use Rattle.price_keys.specs.Widest.{WidestFor}
use Rattle.rules.specs.declared.Side.{Side}
use Rattle.rules.specs.declared.Side.TheVariants.{Buy, Sell}
use Rattle.rules.specs.Search.{sums_for}
use Rattle.lists.proofs.Lists.{kept_in_lem}
use Rattle.best_quote.specs.Levels.{enough}
use Rattle.best_quote.specs.Sums.{key_sums}
use Rattle.order_side.specs.Slots.{Slot, slot_of, side_of, keys_of, volumes_of, best_key_in, kept_in}
use Rattle.best_level.specs.declared.Requoted.{Requoted}
use Rattle.best_level.specs.Candidates.{keys_in, volumes_in, candidates}
use Rattle.best_level.specs.CandidateKeys.{changed_key, candidate_keys}
use Rattle.best_level.specs.Requotes.{sums_in, Requotes}
use Rattle.best_level.proofs.Candidates.{candidate_sums}
use Rattle.order_side.specs.Internal.{StaleLevel}
use Rattle.order_side.proofs.Words.{words_length}
use Rattle.order_table.specs.Table.{of_side, slots_in, side_in, table_of, GoodOrders}
use Rattle.book.specs.Events.{id_of, changed_by, sent_to}
use Rattle.book.specs.EventAnswered.{sums_between, FieldsAnswered}
use Rattle.order_table.specs.Internal.{side_at, other, joined}
use Rattle.book.specs.Internal.{applied_to, Answer, answer, no_change, Applied, AppliedRead, keeps_by}
use Rattle.order_table.proofs.Table.{joined-part, joined-put}
use Rattle.order_table.proofs.Orders.{good_slots}
use Rattle.order_table.proofs.Quotes.{keeps_is, same_keeps, slots_orders}
use Rattle.order_table.proofs.Orders.{lent, put_back}

-- the two halves by the number of either
both_halves : (n minimum : ℕ) (live : List Order) → n < 2 → joined n (side_in minimum (side_at n) live) (side_in minimum (other (side_at n)) live) ≡ table_of minimum live
unfolding table_of
both_halves zero minimum live h = refl
both_halves (suc zero) minimum live h = refl
both_halves (suc (suc n)) minimum live h = absurd (omega arith)

module _ (e : Event) (minimum : ℕ) (live : List Order) (good : GoodOrders live) (mid : List ℕ) (r : Answer) (t : Applied e minimum live mid r) where
  few_others : length (slots_in (other (side_at r.s)) (sent_to r.refusal live e)) ≤ 64
  few_others = omega (arith, ap length t.others, (good_slots (other (side_at r.s)) live good).few)

  own : List ℕ
  own = side_of (slots_in (side_at r.s) (sent_to r.refusal live e)) (kept_in minimum (slots_in (side_at r.s) live))

  others : List ℕ
  others = side_in minimum (other (side_at r.s)) (sent_to r.refusal live e)

  size-own : length own ≡ 256
  unfolding own
  size-own = words_length own (slots_in (side_at r.s) (sent_to r.refusal live e)) (kept_in minimum (slots_in (side_at r.s) live)) t.good.few refl

  size-others : length others ≡ 256
  unfolding others
  size-others =
      words_length others (slots_in (other (side_at r.s)) (sent_to r.refusal live e)) (kept_in minimum (slots_in (other (side_at r.s)) (sent_to r.refusal live e)))
      few_others refl

  mid_is : mid ≡ joined r.s own others
  unfolding own others applied_to
  mid_is = t.table

  -- the half to requote
  pub moving : StaleLevel (lent r.s mid) r.change minimum
  unfolding own
  moving =
      record {
        before = slots_in (side_at r.s) live;
        after = slots_in (side_at r.s) (sent_to r.refusal live e);
        good_before = good_slots (side_at r.s) live good;
        good = t.good;
        changed = t.answers;
        grown = t.grown;
        is = ap (lent r.s) mid_is ∙ joined-part own others size-own size-others r.s t.number;
      }

  pub sent_is : (half : List ℕ) (q : Requoted) → ((m : StaleLevel (lent r.s mid) r.change minimum) → Requotes minimum m.before m.after r.change half q)
      → put_back r.s mid half ≡ table_of minimum (sent_to r.refusal live e)
  unfolding moving others
  sent_is half q moved =
      ap (λ (w : List ℕ). put_back r.s w half) mid_is
      ∙ joined-put own others size-own size-others r.s half t.number
      ∙ ap (λ (w : List ℕ). joined r.s w others) (moved moving).words
      ∙ both_halves r.s minimum (sent_to r.refusal live e) t.number

  -- a refused event leaves the table
  pub stays_is : 0 < r.refusal → mid ≡ table_of minimum (sent_to r.refusal live e)
  unfolding applied_to
  stays_is h = t.table ∙ go r.refusal h
    where
      go : (n : ℕ) → 0 < n
          → joined r.s (side_of (slots_in (side_at r.s) (sent_to n live e)) (kept_in minimum (slots_in (side_at r.s) live)))
          (side_in minimum (other (side_at r.s)) (sent_to n live e))
          ≡ table_of minimum (sent_to n live e)
      go zero h = absurd (omega arith)
      go (suc n) h = both_halves r.s minimum live t.number

  module _ (half : List ℕ) (q : Requoted)
      (moved : (m : StaleLevel (lent r.s mid) r.change minimum) → Requotes minimum m.before m.after r.change half q) where
    -- where the best key of its side stays, both stay
    pub keys_stay : q.moves ≡ false → (s : Side) → best_key_in minimum (slots_in s (sent_to r.refusal live e)) ≡ best_key_in minimum (slots_in s live)
    unfolding moving
    keys_stay h s = go r.s t.number ((moved moving).stays h) (ap (best_key_in minimum) t.others) s
      where
        go : (n : ℕ) → n < 2
            → best_key_in minimum (slots_in (side_at n) (sent_to r.refusal live e)) ≡ best_key_in minimum (slots_in (side_at n) live)
            → best_key_in minimum (slots_in (other (side_at n)) (sent_to r.refusal live e)) ≡ best_key_in minimum (slots_in (other (side_at n)) live)
            → (s : Side) → best_key_in minimum (slots_in s (sent_to r.refusal live e)) ≡ best_key_in minimum (slots_in s live)
        go zero l own others Buy = own
        go zero l own others Sell = others
        go (suc n) l own others Buy = others
        go (suc n) l own others Sell = own

    -- an accepted event
    module _ (none : r.refusal ≡ 0) (good-after : GoodOrders (apply live e)) where
      after_is : sent_to r.refusal live e ≡ apply live e
      after_is = ap (λ (n : ℕ). sent_to n live e) none

      -- W3's number, in keys and in orders
      pub taken_sums : 1 ≤ minimum → q.sums ≡ sums_between minimum e live (apply live e)
      unfolding moving sums_between
      taken_sums some =
          let side = side_at r.s in
          let before = of_side side live in
          let after = of_side side (apply live e) in
          let own : slots_in side (sent_to r.refusal live e) ≡ slots_in side (apply live e) = ap (slots_in side) after_is in
          let keys : (l : List Order) → keys_of (map (slot_of side) l) ≡ keys_in side l = λ l. map-map (λ (x : Slot). x.key) (slot_of side) l in
          let volumes : (l : List Order) → volumes_of (map (slot_of side) l) ≡ volumes_in l = λ l. map-map (λ (x : Slot). x.volume) (slot_of side) l in
          let columns = slots_orders side (apply live e) good-after in
          (moved moving).sums
          ∙ (λ i. sums_in minimum (slots_in side live) (own i) (t.key none i))
          ∙ (λ i.
          key_sums (enough minimum (keys_of (slots_in side (apply live e))) (volumes_of (slots_in side (apply live e)))) 0
          (candidate_keys minimum (keys before i) (volumes before i) (keys after i) (volumes after i) (changed_key side (changed_by e after))))
          ∙ sym
          (candidate_sums side minimum before after (changed_by e after) some (record { sided = columns.sided; prices = columns.prices })
          (λ o m. (kept_in_lem (has_id (id_of e)) after m).0) (keys_of (slots_in side (apply live e))) (volumes_of (slots_in side (apply live e))) columns)
          ∙ ap
          (λ (s : Side).
          sums_for s minimum (of_side s (apply live e)) (candidates s minimum (of_side s live) (of_side s (apply live e)) (changed_by e (of_side s (apply live e)))))
          (sym (t.side none))

      -- whether the quote is kept after it: by the keys, or as before where they stay
      pub taken_keeps : (row : Row) (spread : SpreadRule) (widest keeping keeps : ℕ) → minimum ≡ row.minimum.0 → WidestFor row spread widest
          → keeping ≡ (if orders_keep row spread live then 1 else 0) → keeps ≡ (if q.moves then keeps_by widest (put_back r.s mid half) else keeping)
          → keeps ≡ (if orders_keep row spread (apply live e) then 1 else 0)
      taken_keeps row spread widest keeping keeps least law was is = go q.moves refl is
        where
          exit_is : put_back r.s mid half ≡ table_of row.minimum.0 (apply live e)
          exit_is =
              sent_is half q moved ∙ ap (table_of minimum) after_is ∙ ap (λ (n : ℕ). table_of n (apply live e)) least

          go : (b : Bool) → q.moves ≡ b → keeps ≡ (if b then keeps_by widest (put_back r.s mid half) else keeping)
              → keeps ≡ (if orders_keep row spread (apply live e) then 1 else 0)
          go true b k = keeps_is (put_back r.s mid half) row spread (apply live e) good-after exit_is widest keeps law k
          go false b k =
              k ∙ was
              ∙ ap (λ (x : Bool). if x then 1 else 0)
              (sym (same_keeps minimum row spread live (apply live e) good good-after least widest law
              (λ s. ap (λ (l : List Order). best_key_in minimum (slots_in s l)) (sym after_is) ∙ keys_stay b s)))

-- ---- the fields of a record

-- what they do to the orders, for all live orders that the table represents
abbrev Told : Outcome Event → ℕ → List ℕ → List ℕ → Answer → Type 0
Told o minimum entry mid r = (live : List Order) → GoodOrders live → entry ≡ table_of minimum live → AppliedRead o minimum live entry mid r

pub read_number : (o : Outcome Event) (minimum : ℕ) (live : List Order) (entry mid : List ℕ) (r : Answer) → AppliedRead o minimum live entry mid r → r.s < 2
read_number (accepted e) minimum live entry mid r t = t.number
read_number (refused n) minimum live entry mid r t =
    let z : r.s ≡ 0 = ap (λ (a : Answer). a.s) t.0 in
    omega (arith, z)

-- fields that are not refused say an event: 15 is the only number that refuses fields
not_refused : (n : ℕ) (r : Answer) → r ≡ answer n 0 no_change → n ≡ 15 → r.refusal ≡ 0 → ⊥
not_refused n r e fifteen z =
    let k : r.refusal ≡ n = ap (λ (a : Answer). a.refusal) e in
    omega (arith, k, fifteen, z)

pub read_moving : (o : Outcome Event) (minimum : ℕ) (live : List Order) → GoodOrders live → (entry mid : List ℕ) (r : Answer)
    → AppliedRead o minimum live entry mid r → ((n : ℕ) → o ≡ refused n → n ≡ 15) → r.refusal ≡ 0 → StaleLevel (lent r.s mid) r.change minimum
read_moving (accepted e) minimum live good entry mid r t fifteen z = moving e minimum live good mid r t
read_moving (refused n) minimum live good entry mid r t fifteen z = absurd (not_refused n r t.0 (fifteen n refl) z)

refused_stays : (n : ℕ) (live : List Order) (e : Event) → 0 < n → sent_to n live e ≡ live
refused_stays zero live e h = absurd (omega arith)
refused_stays (suc n) live e h = refl

-- each refusal has a number above 0
pub refusal_some : (r : Refusal) → 0 < number_of r
refusal_some RowNotSevenWords = omega arith
refusal_some RowWordOutOfRange = omega arith
refusal_some ArgumentOutOfRange = omega arith
refusal_some CellFilled = omega arith
refusal_some CellBlank = omega arith
refusal_some QuantumOpen = omega arith
refusal_some NoQuantumOpen = omega arith
refusal_some TimeBackwards = omega arith
refusal_some TimePastEnd = omega arith
refusal_some IdLive = omega arith
refusal_some IdNotLive = omega arith
refusal_some PriceOrVolumeOutOfRange = omega arith
refusal_some TooManyOrders = omega arith
refusal_some DealAboveLeft = omega arith
refusal_some BadRecord = omega arith
refusal_some BufferShort = omega arith
refusal_some LapseLimitOutOfRange = omega arith
refusal_some StrikesOutOfRange = omega arith
refusal_some WrongTicket = omega arith
refusal_some FrameWrong = omega arith
refusal_some FieldWrong = omega arith

pub refused_sends : (o : Outcome Event) (minimum widest keeping : ℕ) (entry mid : List ℕ) (r : Answer) → Told o minimum entry mid r
    → (live : List Order) → GoodOrders live → entry ≡ table_of minimum live → 0 < r.refusal
    → FieldsAnswered o minimum widest keeping entry mid (record { refusal = r.refusal; keeps = keeping; sums = 0 })
refused_sends (accepted e) minimum widest keeping entry mid r told live good is h =
    record {
      sends =
          record {
            refusal = λ live good is. (told live good is).refusal;
            table = λ live good is. stays_is e minimum live good mid r (told live good is) h;
          };
      keeps = λ row spread live good after is least law was.
          was ∙ ap (λ (l : List Order). if orders_keep row spread l then 1 else 0) (sym (refused_stays r.refusal live e h));
      sums = λ live good after is none. absurd (omega (arith, none, h));
      none = λ l. refl;
    }
refused_sends (refused n) minimum widest keeping entry mid r told live good is h =
    let t = told live good is in
    ((λ i. record { refusal = (t.0 i).refusal; keeps = keeping; sums = 0 }), t.1)

pub taken_sends : (o : Outcome Event) (minimum widest keeping : ℕ) (entry mid : List ℕ) (r : Answer) → Told o minimum entry mid r
    → ((n : ℕ) → o ≡ refused n → n ≡ 15) → (live : List Order) → GoodOrders live → entry ≡ table_of minimum live → r.refusal ≡ 0 → 1 ≤ minimum
    → (half : List ℕ) (q : Requoted)
    → ((m : StaleLevel (lent r.s mid) r.change minimum) → Requotes minimum m.before m.after r.change half q)
    → (keeps : ℕ) → keeps ≡ (if q.moves then keeps_by widest (put_back r.s mid half) else keeping)
    → FieldsAnswered o minimum widest keeping entry (put_back r.s mid half) (record { refusal = 0; keeps = keeps; sums = q.sums })
taken_sends (accepted e) minimum widest keeping entry mid r told fifteen live good is none some half q moved keeps k =
    record {
      sends =
          record {
            refusal = λ live good is. sym none ∙ (told live good is).refusal;
            table = λ live good is.
                sent_is e minimum live good mid r (told live good is) half q moved ∙ ap (λ (n : ℕ). table_of minimum (sent_to n live e)) none;
          };
      keeps = λ row spread live good after is least law was.
          taken_keeps e minimum live good mid r (told live good is) half q moved none after row spread widest keeping keeps least law was k;
      sums = λ live good after is zero. taken_sums e minimum live good mid r (told live good is) half q moved none after some;
      none = λ h. absurd (omega (arith, h));
    }
taken_sends (refused n) minimum widest keeping entry mid r told fifteen live good is none some half q moved keeps k =
    absurd (not_refused n r (told live good is).0 (fifteen n refl) none)
