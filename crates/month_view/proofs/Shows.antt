-- The view of an open quantum, from its words, and of a month, from its own.
use Rattle.std.specs.Prelude.{if◌then◌else◌}
use Prim.Native.Nat.{ℕ, ◌+◌, ◌*◌, ◌-◌, ◌≤◌, ◌<◌}
use native.Mathlib.Omega.{arith}
use native.Mathlib.Nat.{le_refl}
use mathlib.Core.Path.{◌≡◌, refl, sym, ap, subst, ◌∙◌}
use mathlib.Core.Bool.{Bool, true, false, true≢false}
use mathlib.Core.List.{List, [], ◌∷◌, ◌++◌, append_assoc}
use lib.Dec.{leb}
use lib.IntN.{pos}
use lib.Signed.{le_z}
use lib.ListN.{length, get_or, take, drop, replicate, length-append, length-map, length-drop}
use lib.Seq.{length-take-le, take_all, take_at, drop_at, drop-drop}
use borrow.Author.Tests.{le-leb, lt-leb}
use Rattle.rules.specs.declared.Order.{Order}
use Rattle.rules.specs.declared.Row.{Row}
use Rattle.rules.specs.declared.SpreadRule.{SpreadRule}
use Rattle.rules.specs.declared.SpreadRule.TheVariants.{Settled, OfStrike}
use Rattle.rules.specs.declared.Event.{Event}
use Rattle.rules.specs.Terms.{paper}
use Rattle.rules.specs.Places.{day_at}
use Rattle.rules.specs.Orders.{live, present}
use Rattle.rules.specs.States.{state_word, orders_state, state_at}
use Rattle.rules.specs.Bounds.{EventBounds}
use Rattle.rules.specs.Calls.{Call, Running, Idle, Quoting, is_open}
use Rattle.rules.specs.Book.{after}
use Rattle.rules.proofs.States.{state_at-now}
use Rattle.rules.proofs.Bounds.{bounds}
use Rattle.lent.proofs.Parts.{next-part}
use Rattle.price_keys.specs.Widest.{WidestFor}
use Rattle.order_side.specs.Slots.{column}
use Rattle.order_table.specs.Table.{table_of, GoodOrders}
use Rattle.order_arrivals.specs.Arrivals.{ids_in, arrivals_of}
use Rattle.order_arrivals.specs.Notes.{row_words, spread_words, notes_of}
use Rattle.order_arrivals.proofs.Notes.{arrivals_length}
use Rattle.clock.specs.Clocks.{widest_for, duty_of, clock_of}
use Rattle.events.specs.Represents.{table_after}
use Rattle.quantum.specs.Represents.{quantum_of}
use Rattle.quantum.specs.Words.{quantum_words, Sized}
use Rattle.events.proofs.Represents.{good_orders, widest_is}
use Rattle.quantum.proofs.Words.{of_sized, table_part, notes-behind}
use Rattle.month.specs.Represents.{month_of}
use Rattle.month.proofs.Fields.{closed_is, opened}
use Rattle.month.proofs.Words.{month-fits, month-length, word_in_lem, quantum_in_lem}
use Rattle.month_in_place.proofs.Months.{flag_off, flag_on, flag_is}
use Rattle.month.specs.Words.{words_after}
use Rattle.month_in_place.specs.Entry.{may_be_month}
use Rattle.month_in_place.proofs.Entry.{month_passes}
use Rattle.std.proofs.Common.{Result, Ok, Err}
use Rattle.month_view.specs.declared.ViewError.{ViewError}
use Rattle.month_view.specs.declared.ViewError.TheVariants.{WordsShort, NoMonth, BufferShort}
use Rattle.month_view.specs.Views.{orders_words, head_words, quoting_words, view_words, Shown, Views}
use Rattle.month_view.specs.Internal.{head_from, Listed}
use Rattle.month_view.proofs.Orders.{orders_length}

-- ---- in a lent buffer

pub fits : (view before behind : List ℕ) (n : ℕ) → n ≡ length view → n ≤ length before → behind ≡ view ++ drop n before → Shown view before behind (Ok n)
fits view before behind n e h b =
    let room : leb (length view) (length before) ≡ true = le-leb (length view) (length before) (omega (arith, e, h)) in
    record {
      answer = ap (λ (k : ℕ). Ok k) e ∙ ap (λ (t : Bool). if t then Ok (length view) else Err BufferShort) (sym room);
      buffer = b ∙ ap (λ (m : ℕ). view ++ drop m before) e ∙ ap (λ (t : Bool). if t then view ++ drop (length view) before else before) (sym room);
    }

pub falls : (view before : List ℕ) → length before < length view → Shown view before before (Err BufferShort)
falls view before h =
    let none : leb (length view) (length before) ≡ false = lt-leb (length view) (length before) h in
    record {
      answer = ap (λ (t : Bool). if t then Ok (length view) else Err BufferShort) (sym none);
      buffer = ap (λ (t : Bool). if t then view ++ drop (length view) before else before) (sym none);
    }

-- ---- the words of an open quantum

spread-length : (s : SpreadRule) → length (spread_words s) ≡ 5
spread-length (Settled sp) = refl
spread-length (OfStrike s) = refl

module _ (q : List ℕ) (row : Row) (spread : SpreadRule) (events : List Event) (g : EventBounds row events) (is : q ≡ quantum_words (quantum_of row spread events)) where
  sized : Sized (quantum_of row spread events)
  sized = of_sized row spread events g

  pub good : GoodOrders (live events)
  good = good_orders row events g

  pub table_is : take 512 (drop 10 q) ≡ table_of row.minimum.0 (live events)
  unfolding quantum_of
  table_is = table_part q (quantum_of row spread events) is sized

  notes_are : drop 522 q ≡ notes_of row spread (live events)
  unfolding quantum_of
  notes_are = notes-behind q (quantum_of row spread events) is sized

  row-part : take 12 (drop 586 q) ≡ row_words row ++ spread_words spread
  unfolding notes_of
  row-part =
      ap (take 12) (sym (drop-drop 64 522 q))
      ∙ ap (λ (l : List ℕ). take 12 (drop 64 l)) notes_are
      ∙ ap (take 12) (drop_at (arrivals_of (live events)) (row_words row ++ spread_words spread) 64 (arrivals_length (live events) g.few))
      ∙ take_all 12 (row_words row ++ spread_words spread) (omega (arith, spread-length spread))

  pub ids_part : (k : ℕ) → k ≡ length (live events) → take k (drop 522 q) ≡ ids_in (live events)
  unfolding notes_of arrivals_of column
  ids_part k e =
      let ids = ids_in (live events) in
      let blank : List ℕ = replicate (64 - length ids) 0 in
      let rest = row_words row ++ spread_words spread in
      ap (take k) notes_are
      ∙ ap (take k) (append_assoc ids blank rest)
      ∙ take_at ids (blank ++ rest) k (length-map (live events) (λ (o : Order). o.id) ∙ sym e)

  abbrev pub listed : (k : ℕ) → k ≡ length (live events) → Listed (take 512 (drop 10 q)) (take k (drop 522 q))
  listed k e = record { minimum = row.minimum.0; live = live events; good = good; is = table_is; are = ids_part k e }

  widest_word : get_or q 2 0 ≡ widest_for row spread
  unfolding quantum_words quantum_of duty_of
  widest_word = ap (λ (l : List ℕ). get_or l 2 0) is

  pub widest_law : WidestFor row spread (get_or q 2 0)
  unfolding duty_of
  widest_law d =
      ap (λ (n : ℕ). le_z d (pos n)) widest_word
      ∙ widest_is row spread events (duty_of row spread) (clock_of row spread events) (table_after row events)
      (record { bounds = g; duty_is = refl; clock_is = refl; table_is = refl }) d

  state-now : (s : ℕ) → s ≡ state_word (orders_state row spread (live events)) → s ≡ state_word (state_at row spread events (present events))
  state-now s e = e ∙ ap state_word (sym (state_at-now row spread events g.ordered (present events) (le_refl (present events))))

  module _ (day allowed : ℕ) where
    head_is : (state count : ℕ) → state ≡ state_word (orders_state row spread (live events)) → count ≡ length (live events)
        → head_from day allowed state count q ≡ head_words day allowed row spread events
    unfolding head_words
    head_is state count s c = λ i.
        (day ∷ []) ++ (row-part i ++ (allowed ∷ widest_word i ∷ state-now state s i ∷ c i ∷ []))

    head-length : length (head_words day allowed row spread events) ≡ 17
    unfolding head_words
    head-length =
        let last = allowed ∷ widest_for row spread ∷ state_word (state_at row spread events (present events)) ∷ length (live events) ∷ [] in
        omega (arith, length-append (row_words row ++ spread_words spread) last, spread-length spread)

    view_length : length (quoting_words day allowed row spread events) ≡ 17 + 4 * length (live events)
    unfolding quoting_words
    view_length =
        length-append (head_words day allowed row spread events) (orders_words (live events)) ∙ omega (arith, head-length, orders_length (live events))

    module _ (count : ℕ) (c : count ≡ length (live events)) (before : List ℕ) where
      pub shows_short : length before < 17 + 4 * count → Shown (quoting_words day allowed row spread events) before before (Err BufferShort)
      shows_short h = falls (quoting_words day allowed row spread events) before (omega (arith, h, c, view_length))

      module _ (state : ℕ) (s : state ≡ state_word (orders_state row spread (live events))) (h : 17 + 4 * count ≤ length before) (head orders : List ℕ)
          (first : head ≡ head_from day allowed state count q) (rest : orders ≡ orders_words (live events)) where
        laid : (k : ℕ) → 17 + k ≡ 17 + 4 * count
            → take 17 (head ++ drop 17 before) ++ (orders ++ drop k (drop 17 (head ++ drop 17 before)))
            ≡ quoting_words day allowed row spread events ++ drop (17 + 4 * count) before
        unfolding quoting_words
        laid k e =
            let all = first ∙ head_is state count s c in
            next-part (head ++ drop 17 before) head (drop 17 before) orders 17 k refl (ap length all ∙ head-length)
            ∙ (λ i. (all i ++ rest i) ++ drop-drop k 17 before i)
            ∙ ap (λ (n : ℕ). (head_words day allowed row spread events ++ orders_words (live events)) ++ drop n before) e

        pub shows_all : (k : ℕ) → 17 + k ≡ 17 + 4 * count
            → Shown (quoting_words day allowed row spread events) before
            (take 17 (head ++ drop 17 before) ++ (orders ++ drop k (drop 17 (head ++ drop 17 before)))) (Ok (17 + 4 * count))
        shows_all k e = fits (quoting_words day allowed row spread events) before _ (17 + 4 * count) (omega (arith, c, view_length)) h (laid k e)

-- room for the orders after the words in front of them
pub front_length : (day allowed state count : ℕ) (q : List ℕ) → length q ≡ 598 → length (head_from day allowed state count q) ≡ 17
front_length day allowed state count q h =
    let last = allowed ∷ get_or q 2 0 ∷ state ∷ count ∷ [] in
    omega (arith, length-append (take 12 (drop 586 q)) last, length-take-le 12 (drop 586 q) (omega (arith, h, length-drop 586 q)))

pub orders_room : (head before : List ℕ) (count k : ℕ) → length head ≡ 17 → 17 + 4 * count ≤ length before → k ≡ 4 * count
    → length (take k (drop 17 (head ++ drop 17 before))) ≡ 4 * count
orders_room head before count k h room e =
    ap (λ (l : List ℕ). length (take k l)) (drop_at head (drop 17 before) 17 h) ∙ length-take-le k (drop 17 before) (omega (arith, room, e, length-drop 17 before)) ∙ e

-- ---- the words of a month

idle_is : (r : Running) → is_open r ≡ false → r ≡ Idle
idle_is Idle h = refl
idle_is (Quoting place row opening events) h = absurd (true≢false h)

module _ (ws : List ℕ) where
  no_month : length ws < 2464 → (calls : List Call) → take 2464 ws ≡ words_after calls → ⊥
  no_month h calls is =
      omega (arith, h, ap length (sym (take_all 2464 ws (omega (arith, h))) ∙ is), month-length (month_of (after paper calls)) (month-fits calls))

  module _ (before : List ℕ) where
    pub views_short : length ws < 2464 → Views ws before before (Err WordsShort)
    views_short h =
        record {
          short = λ l. (refl, refl);
          foreign = λ l e. absurd (omega (arith, h, l));
          shown = λ calls is. absurd (no_month h calls is);
        }

    pub views_foreign : 2464 ≤ length ws → may_be_month ws ≡ false → Views ws before before (Err NoMonth)
    views_foreign h e =
        record {
          short = λ l. absurd (omega (arith, h, l));
          foreign = λ l f. (refl, refl);
          shown = λ calls is. absurd (true≢false (sym (month_passes ws h (record { calls = calls; is = is })) ∙ e));
        }

    pub views_none : 2464 ≤ length ws → may_be_month ws ≡ true → get_or ws 0 0 ≡ 0 → Views ws before before (Ok 0)
    views_none h m z =
        record {
          short = λ l. absurd (omega (arith, h, l));
          foreign = λ l f. absurd (true≢false (sym m ∙ f));
          shown = λ calls is.
              let b = after paper calls in
              let off = flag_off (month_of b).running (sym (flag_is ws calls is) ∙ z) in
              subst (λ (r : Running). Shown (view_words r) before before (Ok 0)) (sym (idle_is b.running (closed_is (month_of b) b refl off)))
              (fits [] before before 0 refl (omega arith) refl);
        }

    pub views_open : 2464 ≤ length ws → may_be_month ws ≡ true → (get_or ws 0 0 ≡ 0 → ⊥) → (behind : List ℕ) (r : Result ℕ ViewError)
        → ((row : Row) (spread : SpreadRule) (events : List Event) → EventBounds row events → take 598 (drop 6 ws) ≡ quantum_words (quantum_of row spread events)
        → Shown (quoting_words (day_at (get_or ws 1 0)) (get_or ws 3 0) row spread events) before behind r)
        → Views ws before behind r
    views_open h m z behind r shows = record { short = λ l. absurd (omega (arith, h, l)); foreign = λ l f. absurd (true≢false (sym m ∙ f)); shown = shown }
      where
        shown : (calls : List Call) → take 2464 ws ≡ words_after calls → Shown (view_words (after paper calls).running) before behind r
        shown calls is =
            let b = after paper calls in
            let m = month_of b in
            let f = month-fits calls in
            let o = opened m b (bounds paper calls) refl (flag_on m.running (λ e. z (flag_is ws calls is ∙ e))) in
            let place : get_or ws 1 0 ≡ o.place = word_in_lem ws m f is 1 (omega arith) ∙ o.at in
            let allowed : get_or ws 3 0 ≡ o.opening.allowed = word_in_lem ws m f is 3 (omega arith) ∙ o.allowed in
            subst (λ (x : Running). Shown (view_words x) before behind r) (sym o.running)
            (subst (λ (l : List ℕ). Shown l before behind r) (λ i. quoting_words (day_at (place i)) (allowed i) o.row o.opening.spread o.events)
            (shows o.row o.opening.spread o.events o.bounds.events_good (quantum_in_lem ws m f is ∙ ap quantum_words o.quantum)))
