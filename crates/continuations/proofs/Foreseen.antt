-- The outlook's answers hold of every list of events and a close that the book accepts. The cell that they leave is worked out from the
-- milliseconds that are kept then, which are those of before below the present.
use Rattle.std.specs.Prelude.{if◌then◌else◌, None, Option, Some}
use Prim.Native.Nat.{ℕ, ◌+◌, ◌-◌, ◌≤◌, ◌<◌}
use native.Mathlib.Omega.{arith}
use mathlib.Core.Path.{◌≡◌, refl, sym, ap, ◌∙◌, subst}
use mathlib.Core.List.{List, [], ◌∷◌, ◌++◌, map}
use mathlib.Core.Bool.{Bool, true, false, true≢false, false≢true, ◌&&◌, ◌||◌}
use lib.Dec.{leb, eqb}
use lib.ListN.{length}
use lib.Seq.{get_or-set_same}
use borrow.Author.Tests.{eqb-true, eq-eqb, ne_eqb, le-leb, lt-leb, leb-true, leb-false}
use Rattle.rules.specs.declared.Kopecks.{Kopecks}
use Rattle.rules.specs.declared.Millis.{Millis}
use Rattle.rules.specs.declared.Opening.{Opening}
use Rattle.rules.specs.declared.Row.{Row}
use Rattle.rules.specs.declared.Cell.{Cell}
use Rattle.rules.specs.declared.Event.{Event}
use Rattle.lists.specs.Lists.{count_below}
use Rattle.rules.specs.Terms.{paper}
use Rattle.rules.specs.Units.{millis, kopecks, good_charge}
use Rattle.rules.specs.Cells.{blank_cell, cell_at}
use Rattle.rules.specs.Orders.{live, present}
use Rattle.rules.specs.Kept.{orders_keep, up_to, kept_at, kept_below}
use Rattle.rules.specs.Lapses.{lapses, lapses_below, within_lapse_limit}
use Rattle.rules.specs.Pay.{met, weight_by, cell_met, cell_weight}
use Rattle.rules.specs.Outlook.{can_keep, full_need_of, resting_till, cell_of, cell_resting, is_never, may_so, latest_rest, full_need, weight_resting, weight_keeping, outlook_of}
use Rattle.rules.specs.Calls.{Send, Close, Running, Quoting, Book, is_open}
use Rattle.rules.specs.Changes.{noted_all, closed_cell}
use Rattle.rules.specs.Book.{run, after}
use Rattle.rules.specs.Replies.{outlook_in}
use Rattle.rules.specs.Histories.{NoneRefused}
use Rattle.rules.specs.Bounds.{BookBounds, RunningBounds, OpenBounds}
use Rattle.lists.proofs.Lists.{both, and}
use Rattle.lists.proofs.Counting.{count_ext, count_le, count_none}
use Rattle.lists.proofs.Members.{or_second}
use Rattle.rules.proofs.Kept.{kept_at-now}
use Rattle.rules.proofs.Refusals.{InTurn, passes_call}
use Rattle.rules.proofs.Histories.{none-parts, parts_none, sent, closes, sends_pass}
use Rattle.rules.proofs.Bounds.{ReadBounds, bounds, read_bounds}
use Rattle.continuations.specs.Continuations.{ending, cell_left, kept_of_rest, lapses_of_rest, cancel_all, back_at, full_weight, Foresees, Outlooks}
use Rattle.continuations.proofs.Latest.{LatestPassing, latest-found, latest_passes, never_passes}
use Rattle.continuations.proofs.Cells.{same_cell, resting_below, resting_from, best_is_keeping, kept_more, count_from_lem, count_all, lapses_added, lapses-kept, may_lapse_lem, within_fewer, enough-met, met-enough}
use Rattle.continuations.proofs.Weights.{weighs-more, full_needs, full_weighs, full_meets, full_verdict}
use Rattle.continuations.proofs.Events.{turn_bounds, turn_below, all_cancelled, none_keep, Back, back_at_lem, nothing_keeps}

or_first : (a c : Bool) → c ≡ false → (a || c) ≡ true → a ≡ true
or_first true c e h = refl
or_first false c e h = absurd (false≢true (sym e ∙ h))

or_swap : (a c : Bool) → (a || c) ≡ true → (c || a) ≡ true
or_swap true c h = or_second c refl
or_swap false true h = refl
or_swap false false h = h

abbrev number_of : Option Millis → ℕ
number_of None = 0
number_of (Some n) = n.0

at-parts : (c : Bool) (k : ℕ) (n : Millis) → (if c then Some (millis k) else None) ≡ Some n → (c ≡ true) × (k ≡ n.0)
at-parts true k n e = (refl, ap number_of e)
at-parts false k n e = absurd (true≢false (ap is_never e))

never_part : (c : Bool) (k : ℕ) → (if c then Some (millis k) else None) ≡ None → c ≡ false
never_part true k e = absurd (false≢true (ap is_never e))
never_part false k e = refl

module _ (b : Book) (place : ℕ) (row : Row) (opening : Opening) (events : List Event) (runs : b.running ≡ Quoting place row opening events) (g : BookBounds paper b) where
  abbrev t : ℕ
  t = present events

  abbrev whole : ℕ
  whole = row.length.0

  -- the kept milliseconds of before, and with what follows
  abbrev kept : ℕ → Bool
  kept = kept_at row opening.spread events

  abbrev then' : List Event → ℕ → Bool
  then' more = kept_at row opening.spread (events ++ more)

  quantum : OpenBounds paper place row opening events
  quantum = subst (RunningBounds paper) runs g.running

  ends : t ≤ whole
  ends = quantum.events_good.ends

  good : ReadBounds paper row
  good = read_bounds paper opening.spread row quantum.row_good

  some : 1 ≤ whole
  some = omega (arith, good.length_least)

  -- ---- the cell that is left

  passing : (more : List Event) (active passive : Kopecks) → NoneRefused paper b (ending more active passive) → InTurn row events more
  passing more active passive h =
      sends_pass paper place row opening b events more runs (none-parts paper b (map Send more) (Close active passive ∷ []) h).0

  left_is : (more : List Event) (active passive : Kopecks) → NoneRefused paper b (ending more active passive)
      → cell_left b place more active passive ≡ closed_cell row opening (events ++ more) active passive
  left_is more active passive h =
      ap (λ (cells : List Cell). cell_at cells place) (closes paper place row opening b events more active passive runs h)
      ∙ get_or-set_same b.cells place (closed_cell row opening (events ++ more) active passive) blank_cell (omega (arith, g.all_cells, quantum.inside))

  -- its verdict and weight are those of the milliseconds that are kept
  met_is : (more : List Event) (active passive : Kopecks) → NoneRefused paper b (ending more active passive)
      → cell_met paper (cell_left b place more active passive) ≡ cell_met paper (cell_of row opening (then' more))
  unfolding kept_below lapses_below
  met_is more active passive h = ap (cell_met paper) (left_is more active passive h)

  weight_is : (more : List Event) (active passive : Kopecks) → NoneRefused paper b (ending more active passive)
      → cell_weight paper (cell_left b place more active passive) ≡ cell_weight paper (cell_of row opening (then' more))
  unfolding kept_below lapses_below
  weight_is more active passive h = ap (cell_weight paper) (left_is more active passive h)

  few_is : (more : List Event) (active passive : Kopecks) → NoneRefused paper b (ending more active passive)
      → within_lapse_limit opening.allowed (length (lapses (then' more) whole)) ≡ within_lapse_limit opening.allowed (cell_left b place more active passive).lapses
  unfolding lapses_below
  few_is more active passive h = ap (λ (c : Cell). within_lapse_limit opening.allowed c.lapses) (sym (left_is more active passive h))

  -- ---- resting and keeping, as lists of events

  -- the same milliseconds as if nothing more, or everything, were kept from the present on
  as_resting : (s : ℕ) (more : List Event) → InTurn row events more → ((m : ℕ) → t ≤ m → m < whole → then' more m ≡ leb s m)
      → cell_of row opening (then' more) ≡ cell_resting row opening events s
  unfolding cell_resting
  as_resting s more p h = same_cell row opening (then' more) (resting_till kept t s) (λ m l. go m l (leb t m) refl)
    where
      go : (m : ℕ) → m < whole → (c : Bool) → leb t m ≡ c → then' more m ≡ resting_till kept t s m
      go m l true e = let late = leb-true t m e in h m late l ∙ sym (resting_from kept t s m late)
      go m l false e =
          let early = leb-false t m e in
          turn_below row opening.spread events more p m early ∙ sym (resting_below kept t s m early)

  -- from the last event's time on the orders keep or do not keep
  from_last : (more : List Event) (keeps : Bool) (s : ℕ) → InTurn row events more → present (events ++ more) ≡ s
      → orders_keep row opening.spread (live (events ++ more)) ≡ keeps → (m : ℕ) → s ≤ m → then' more m ≡ keeps
  from_last more keeps s p time k m l =
      kept_at-now row opening.spread (events ++ more) (turn_bounds row events more quantum.events_good p).ordered m (omega (arith, time)) ∙ k

  -- accepted, with a close after them
  accepted-ending : (more : List Event) → InTurn row events more → NoneRefused paper b (ending more (kopecks 0) (kopecks 0))
  unfolding good_charge
  accepted-ending more p =
      let s = sent paper b place row opening events more runs p in
      let opened : (run paper b (map Send more)).running ≡ Quoting place row opening (events ++ more) =
      ap (λ (c : Book). c.running) s.book ∙ ap (λ (r : Running). noted_all r more) runs in
      parts_none paper b (map Send more) (Close (kopecks 0) (kopecks 0) ∷ []) s.none
      (passes_call paper (run paper b (map Send more)) (Close (kopecks 0) (kopecks 0)) (record { active_good = refl; passive_good = refl; quoting = ap is_open opened }), tt)

  -- every live order cancelled: as if nothing more were kept
  rests : InTurn row events (cancel_all events)
  rests = (all_cancelled row events quantum.events_good).passes

  rested : cell_of row opening (then' (cancel_all events)) ≡ cell_resting row opening events whole
  rested =
      let c = all_cancelled row events quantum.events_good in
      let silent = from_last (cancel_all events) false t rests c.time (ap (orders_keep row opening.spread) c.none ∙ none_keep row opening.spread) in
      as_resting whole (cancel_all events) rests (λ m l u. silent m l ∙ sym (lt-leb whole m u))

  abbrev can : Bool
  can = can_keep row opening.spread

  -- .. and a quote put at s: as if everything from s on were, where anything can
  back : (s : ℕ) → t ≤ s → s ≤ whole → Back row opening.spread events (back_at row events s) s
  back = back_at_lem row opening.spread events quantum.events_good good.minimum_least good.minimum_most

  returned : (s : ℕ) → t ≤ s → s ≤ whole → (eqb s whole || can) ≡ true
      → cell_of row opening (then' (back_at row events s)) ≡ cell_resting row opening events s
  returned s low high h = as_resting s (back_at row events s) q.passes (λ m l u. go m l u (leb s m) refl)
    where
      q : Back row opening.spread events (back_at row events s) s
      q = back s low high

      go : (m : ℕ) → t ≤ m → m < whole → (c : Bool) → leb s m ≡ c → then' (back_at row events s) m ≡ c
      go m l u false e = q.silent m l (leb-false s m e)
      go m l u true e =
          let late = leb-true s m e in
          let able = or_first can (eqb s whole) (ne_eqb s whole (λ f. absurd (omega (arith, f)))) (or_swap (eqb s whole) can h) in
          from_last (back_at row events s) true s q.passes q.time (q.keeps ∙ able) m late

  -- ---- lost or not

  -- where nothing can be kept, whatever follows is as if nothing more were
  hopeless : can ≡ false → (more : List Event) → InTurn row events more → cell_of row opening (then' more) ≡ cell_resting row opening events whole
  unfolding kept_at
  hopeless h more p =
      as_resting whole more p (λ m l u. nothing_keeps row opening.spread h (live (up_to m (events ++ more))) ∙ sym (lt-leb whole m u))

  -- and where it can, nothing that rests until s is better than keeping everything from s on
  keeping_best : (s : ℕ) → t ≤ s → (more : List Event) → InTurn row events more → ((m : ℕ) → t ≤ m → m < s → then' more m ≡ false)
      → cell_met paper (cell_of row opening (then' more)) ≡ true → cell_met paper (cell_resting row opening events s) ≡ true
  unfolding cell_resting
  keeping_best s low more p = best_is_keeping row opening kept (then' more) t s low (λ m l. turn_below row opening.spread events more p m l)

  -- where no rest until s or later leaves a met cell, nothing that rests until s does
  failing : (s : ℕ) → t ≤ s → s ≤ whole → ((r : ℕ) → s ≤ r → r ≤ whole → may_so paper row opening events r ≡ false)
      → (more : List Event) → InTurn row events more → ((m : ℕ) → t ≤ m → m < s → then' more m ≡ false)
      → cell_met paper (cell_of row opening (then' more)) ≡ false
  unfolding may_so
  failing s low high none more p rested = go can refl (cell_met paper (cell_of row opening (then' more))) refl
    where
      go : (c : Bool) → can ≡ c → (v : Bool) → cell_met paper (cell_of row opening (then' more)) ≡ v → v ≡ false
      go c e false v = refl
      go true e true v =
          let may : (eqb s whole || can) && cell_met paper (cell_resting row opening events s) ≡ true =
          and (or_second (eqb s whole) e) (keeping_best s low more p rested v) in
          absurd (false≢true (sym (none s (omega arith) high) ∙ may))
      go false e true v =
          let met = ap (cell_met paper) (sym (hopeless e more p)) ∙ v in
          let may : (eqb whole whole || can) && cell_met paper (cell_resting row opening events whole) ≡ true =
          and (ap (λ (x : Bool). x || can) (eq-eqb whole whole refl)) met in
          absurd (false≢true (sym (none whole high (omega arith)) ∙ may))

  failed : is_never (latest_rest paper row opening events) ≡ true → (more : List Event) → InTurn row events more
      → cell_met paper (cell_of row opening (then' more)) ≡ false
  unfolding latest_rest
  failed h more p =
      failing t (omega arith) ends
      (λ r low high. never_passes (may_so paper row opening events) t (whole - t) h r low (omega (arith, high, ends)))
      more p (λ m l u. absurd (omega (arith, l, u)))

  -- a list that leaves a met cell
  record Winning (more : List Event) : Type 0 where
    passes : InTurn row events more
    wins : cell_met paper (cell_of row opening (then' more)) ≡ true

  winning : (s : ℕ) → t ≤ s → s ≤ whole → may_so paper row opening events s ≡ true → Winning (back_at row events s)
  unfolding may_so
  winning s low high may =
      let (able, met) = both (eqb s whole || can) (cell_met paper (cell_resting row opening events s)) may in
      record { passes = (back s low high).passes; wins = ap (cell_met paper) (returned s low high able) ∙ met }

  won : is_never (latest_rest paper row opening events) ≡ false → (more : List Event) × Winning more
  unfolding latest_rest
  won h =
      let (s, low, high, may) = latest_passes (may_so paper row opening events) t (whole - t) h in
      (back_at row events s, winning s low (omega (arith, high, ends)) may)

  -- ---- until when

  abbrev Latest : Option Millis → Type 0
  Latest = LatestPassing (may_so paper row opening events) t (whole - t)

  latest_by : (s : Millis) → latest_rest paper row opening events ≡ Some s → Latest (Some s)
  unfolding latest_rest
  latest_by s e = subst Latest e (latest-found (may_so paper row opening events) t (whole - t))

  in_time : (s : Millis) → latest_rest paper row opening events ≡ Some s → Winning (back_at row events s.0)
  in_time s e =
      let (low, high, may, none) = latest_by s e in
      winning s.0 low (omega (arith, high, ends)) may

  too_late : (s : Millis) → latest_rest paper row opening events ≡ Some s → (until : ℕ) → s.0 < until → until ≤ whole
      → (more : List Event) → InTurn row events more → ((m : ℕ) → t ≤ m → m < until → then' more m ≡ false)
      → cell_met paper (cell_of row opening (then' more)) ≡ false
  too_late s e until later inside more p =
      let (low, high, may, none) = latest_by s e in
      failing until (omega (arith, low, later)) inside
      (λ r l u. none r (omega (arith, later, l)) (omega (arith, u, ends))) more p

  -- ---- how many are needed

  split : (more : List Event) → InTurn row events more
      → count_below (then' more) whole ≡ kept_below row opening.spread events t + kept_of_rest row opening.spread events more
  unfolding kept_below
  split more p =
      let all : whole ≡ t + (whole - t) = omega (arith, ends) in
      ap (count_below (then' more)) all
      ∙ count_from_lem (then' more) t (whole - t)
      ∙ ap (λ (n : ℕ). n + count_below (λ (d : ℕ). then' more (t + d)) (whole - t)) (count_ext (then' more) kept t (λ m l. turn_below row opening.spread events more p m l))

  -- the share alone decides, where lapses do not
  by_share : (more : List Event) → InTurn row events more → cell_met paper (cell_of row opening (then' more)) ≡ true
      → met paper (kept_below row opening.spread events t + kept_of_rest row opening.spread events more) whole row.share ≡ true
  by_share more p h =
      ap (λ (n : ℕ). met paper n whole row.share) (sym (split more p))
      ∙ (both (met paper (count_below (then' more) whole) whole row.share) (within_lapse_limit opening.allowed _) h).0

  by_share_alone : (more : List Event) → InTurn row events more → within_lapse_limit opening.allowed (length (lapses (then' more) whole)) ≡ true
      → met paper (kept_below row opening.spread events t + kept_of_rest row opening.spread events more) whole row.share ≡ true
      → cell_met paper (cell_of row opening (then' more)) ≡ true
  by_share_alone more p few h = and (ap (λ (n : ℕ). met paper n whole row.share) (split more p) ∙ h) few

  -- ---- the weight if all is kept

  -- a quote put at once
  at_once : InTurn row events (back_at row events t)
  at_once = (back t (omega arith) ends).passes

  abbrev weight_if : Bool → ℕ
  weight_if c = if c then cell_weight paper (cell_resting row opening events t) else cell_weight paper (cell_resting row opening events whole)

  keeping_is : (c : Bool) → can ≡ c → weight_keeping paper row opening events ≡ weight_if c
  unfolding weight_keeping weight_resting
  keeping_is c e = ap weight_if e

  all-kept : (more : List Event) → InTurn row events more → ((m : ℕ) → t ≤ m → m < whole → then' more m ≡ true)
      → cell_weight paper (cell_of row opening (then' more)) ≡ weight_keeping paper row opening events
  all-kept more p h = go can refl
    where
      go : (c : Bool) → can ≡ c → cell_weight paper (cell_of row opening (then' more)) ≡ weight_keeping paper row opening events
      go true e = ap (cell_weight paper) (as_resting t more p (λ m l u. h m l u ∙ sym (le-leb t m l))) ∙ sym (keeping_is true e)
      go false e = ap (cell_weight paper) (hopeless e more p) ∙ sym (keeping_is false e)

  kept-now : cell_weight paper (cell_of row opening (then' (back_at row events t))) ≡ weight_keeping paper row opening events
  kept-now = go can refl
    where
      go : (c : Bool) → can ≡ c → cell_weight paper (cell_of row opening (then' (back_at row events t))) ≡ weight_keeping paper row opening events
      go true e = ap (cell_weight paper) (returned t (omega arith) ends (or_second (eqb t whole) e)) ∙ sym (keeping_is true e)
      go false e = ap (cell_weight paper) (hopeless e (back_at row events t) at_once) ∙ sym (keeping_is false e)

  -- nothing that follows has more weight
  no_heavier : (more : List Event) → InTurn row events more
      → cell_weight paper (cell_of row opening (then' more)) ≤ cell_weight paper (cell_resting row opening events t)
  unfolding cell_resting
  no_heavier more p =
      let same : ((m : ℕ) → m < t → then' more m ≡ kept m) = λ m l. turn_below row opening.spread events more p m l in
      let nothing : ((m : ℕ) → t ≤ m → m < t → then' more m ≡ false) = λ m l u. absurd (omega (arith, l, u)) in
      weighs-more (cell_met paper (cell_of row opening (then' more))) (cell_met paper (cell_of row opening (resting_till kept t t))) (count_below (then' more) whole)
      (count_below (resting_till kept t t) whole) whole row.share some good.share_most
      (kept_more row opening kept (then' more) t t (omega arith) same nothing whole)
      (best_is_keeping row opening kept (then' more) t t (omega arith) same nothing)

  at_most : (more : List Event) → InTurn row events more → cell_weight paper (cell_of row opening (then' more)) ≤ weight_keeping paper row opening events
  at_most more p = go can refl
    where
      go : (c : Bool) → can ≡ c → cell_weight paper (cell_of row opening (then' more)) ≤ weight_keeping paper row opening events
      go true e = omega (arith, no_heavier more p, keeping_is true e)
      go false e = omega (arith, ap (cell_weight paper) (hopeless e more p), keeping_is false e)

  -- ---- lapses

  begun : (more : List Event) → InTurn row events more
      → length (lapses (then' more) whole) ≡ lapses_below row opening.spread events t + lapses_of_rest row opening.spread events more
  unfolding lapses_below
  begun more p =
      let all : whole ≡ t + (whole - t) = omega (arith, ends) in
      ap (λ (n : ℕ). length (lapses (then' more) n)) all
      ∙ lapses_added kept (then' more) t (λ m l. turn_below row opening.spread events more p m l) (whole - t)

  -- ---- the full weight

  abbrev so_far : ℕ
  so_far = kept_below row opening.spread events t

  abbrev of_rest : List Event → ℕ
  of_rest more = kept_of_rest row opening.spread events more

  -- how many more it needs
  abbrev lacks : ℕ
  lacks = full_need_of so_far whole

  weight-parts : (more : List Event) → InTurn row events more
      → cell_weight paper (cell_of row opening (then' more))
      ≡ weight_by paper (cell_met paper (cell_of row opening (then' more))) (so_far + of_rest more) whole row.share
  weight-parts more p =
      ap (λ (n : ℕ). weight_by paper (cell_met paper (cell_of row opening (then' more))) n whole row.share) (split more p)

  full_lacks : (more : List Event) → InTurn row events more → cell_weight paper (cell_of row opening (then' more)) ≡ full_weight → lacks ≤ of_rest more
  full_lacks more p h =
      full_needs so_far (of_rest more) whole row.share some good.share_most (cell_met paper (cell_of row opening (then' more)))
      (sym (weight-parts more p) ∙ h)

  lacks_full : (more : List Event) → InTurn row events more → within_lapse_limit opening.allowed (length (lapses (then' more) whole)) ≡ true
      → lacks ≤ of_rest more → cell_weight paper (cell_of row opening (then' more)) ≡ full_weight
  lacks_full more p few h =
      let m = full_meets so_far (of_rest more) whole row.share some good.share_most h in
      weight-parts more p
      ∙ full_weighs so_far (of_rest more) whole row.share some good.share_most h (cell_met paper (cell_of row opening (then' more))) (by_share_alone more p few m)

  -- whether it can be reached
  abbrev may_full : Bool
  may_full =
      leb lacks (whole - t) && within_lapse_limit opening.allowed (lapses_below row opening.spread events t) && (eqb lacks 0 || can)

  may_parts : may_full ≡ true
      → (lacks ≤ whole - t) × (within_lapse_limit opening.allowed (lapses_below row opening.spread events t) ≡ true) × ((eqb lacks 0 || can) ≡ true)
  may_parts h =
      let (a, b) = both _ (eqb lacks 0 || can) h in
      let (c, d) = both (leb lacks (whole - t)) (within_lapse_limit opening.allowed (lapses_below row opening.spread events t)) a in
      (leb-true lacks (whole - t) c, d, b)

  -- nothing is kept where nothing can be
  none_kept : can ≡ false → (es : List Event) (m : ℕ) → kept_at row opening.spread es m ≡ false
  unfolding kept_at
  none_kept h es m = nothing_keeps row opening.spread h (live (up_to m es))

  all_of_rest : can ≡ true → of_rest (back_at row events t) ≡ whole - t
  all_of_rest e =
      let q = back t (omega arith) ends in
      count_all (λ (d : ℕ). then' (back_at row events t) (t + d)) (whole - t)
      (λ d l. from_last (back_at row events t) true t q.passes q.time (q.keeps ∙ e) (t + d) (omega arith))

  few_at-once : can ≡ true → length (lapses (then' (back_at row events t)) whole) ≡ lapses_below row opening.spread events t
  unfolding lapses_below
  few_at-once e =
      let q = back t (omega arith) ends in
      let all : whole ≡ t + (whole - t) = omega (arith, ends) in
      ap (λ (n : ℕ). length (lapses (then' (back_at row events t)) n)) all
      ∙ lapses-kept kept (then' (back_at row events t)) t (λ m l. turn_below row opening.spread events (back_at row events t) q.passes m l) (whole - t)
      (λ m l u. from_last (back_at row events t) true t q.passes q.time (q.keeps ∙ e) m l)

  able : may_full ≡ true → can ≡ true
  unfolding kept_below
  able h = go can refl
    where
      go : (c : Bool) → can ≡ c → c ≡ true
      go true e = refl
      go false e =
          let nothing : lacks ≡ 0 = eqb-true lacks 0 (or_first (eqb lacks 0) can e (may_parts h).2) in
          let none = count_none kept t (λ m l. none_kept e events m) in
          absurd (omega (arith, nothing, none, good.length_least))

  reached : may_full ≡ true → (lacks ≤ of_rest (back_at row events t)) × (cell_weight paper (cell_of row opening (then' (back_at row events t))) ≡ full_weight)
  reached h =
      let (most, few, Some-or) = may_parts h in
      let e = able h in
      let enough : lacks ≤ of_rest (back_at row events t) = omega (arith, most, all_of_rest e) in
      (enough, lacks_full (back_at row events t) at_once (ap (within_lapse_limit opening.allowed) (few_at-once e) ∙ few) enough)

  -- what leaves it shows that it can be
  shown : (more : List Event) → InTurn row events more → cell_weight paper (cell_of row opening (then' more)) ≡ full_weight → may_full ≡ true
  shown more p h =
      let enough = full_lacks more p h in
      let verdict = full_verdict (cell_met paper (cell_of row opening (then' more))) (count_below (then' more) whole) whole row.share h in
      let few = (both (met paper (count_below (then' more) whole) whole row.share) _ verdict).1 in
      let most = count_le (λ (d : ℕ). then' more (t + d)) (whole - t) in
      and
      (and (le-leb lacks (whole - t) (omega (arith, enough, most)))
      (within_fewer opening.allowed (lapses_below row opening.spread events t) (length (lapses (then' more) whole)) (omega (arith, begun more p)) few))
      (go can refl enough)
    where
      go : (c : Bool) → can ≡ c → lacks ≤ of_rest more → (eqb lacks 0 || c) ≡ true
      go true e enough = or_second (eqb lacks 0) refl
      go false e enough =
          let none = count_none (λ (d : ℕ). then' more (t + d)) (whole - t) (λ d l. none_kept e (events ++ more) (t + d)) in
          ap (λ (b : Bool). b || false) (eq-eqb lacks 0 (omega (arith, enough, none)))

  full_at : (n : Millis) → full_need paper row opening events ≡ Some n → (may_full ≡ true) × (lacks ≡ n.0)
  unfolding full_need
  full_at n e = at-parts may_full lacks n e

  full_none : full_need paper row opening events ≡ None → may_full ≡ false
  unfolding full_need
  full_none e = never_part may_full lacks e

  -- ---- all of it

  foreseen : Foresees b place row opening events (outlook_of paper row opening events)
  unfolding outlook_of weight_resting
  foreseen =
      record {
        lost = λ h more active passive n. met_is more active passive n ∙ failed h more (passing more active passive n);
        winnable = λ h.
            let (more, w) = won h in
            let n = accepted-ending more w.passes in
            (more, n, met_is more (kopecks 0) (kopecks 0) n ∙ w.wins);
        needed = λ more active passive n m.
            let p = passing more active passive n in
            met-enough _ _ whole row.share (by_share more p (sym (met_is more active passive n) ∙ m));
        enough = λ more active passive n few h.
            let p = passing more active passive n in
            met_is more active passive n ∙ by_share_alone more p (few_is more active passive n ∙ few) (enough-met _ _ whole row.share h);
        by_met = λ s e.
            let w = in_time s e in
            let n = accepted-ending (back_at row events s.0) w.passes in
            (n, met_is (back_at row events s.0) (kopecks 0) (kopecks 0) n ∙ w.wins);
        by_latest = λ s e until later inside more active passive n h.
            met_is more active passive n ∙ too_late s e until later inside more (passing more active passive n) h;
        by_never = λ e more active passive n. met_is more active passive n ∙ failed (ap is_never e) more (passing more active passive n);
        full_reached = λ n e.
            let (may, is) = full_at n e in
            let (enough, weighs) = reached may in (
              subst (λ (k : ℕ). k ≤ of_rest (back_at row events t)) is enough,
              weight_is (back_at row events t) (kopecks 0) (kopecks 0) (accepted-ending (back_at row events t) at_once) ∙ weighs,
            );
        full_needed = λ n e more active passive a h.
            subst (λ (k : ℕ). k ≤ of_rest more) (full_at n e).1
            (full_lacks more (passing more active passive a) (sym (weight_is more active passive a) ∙ h));
        full_enough = λ n e more active passive a few h.
            weight_is more active passive a
            ∙ lacks_full more (passing more active passive a) (few_is more active passive a ∙ few) (subst (λ (k : ℕ). k ≤ of_rest more) (sym (full_at n e).1) h);
        full_never = λ e more active passive a h.
            true≢false (sym (shown more (passing more active passive a) (sym (weight_is more active passive a) ∙ h)) ∙ full_none e);
        few_lapses = λ more active passive n.
            let p = passing more active passive n in
            sym (few_is more active passive n)
            ∙ ap (within_lapse_limit opening.allowed) (begun more p)
            ∙ may_lapse_lem opening.allowed (lapses_below row opening.spread events t) (lapses_of_rest row opening.spread events more);
        accepted = accepted-ending (cancel_all events) rests;
        rest = met_is (cancel_all events) (kopecks 0) (kopecks 0) (accepted-ending (cancel_all events) rests) ∙ ap (cell_met paper) rested;
        resting = weight_is (cancel_all events) (kopecks 0) (kopecks 0) (accepted-ending (cancel_all events) rests) ∙ ap (cell_weight paper) rested;
        back_accepted = accepted-ending (back_at row events t) at_once;
        keeping_now = weight_is (back_at row events t) (kopecks 0) (kopecks 0) (accepted-ending (back_at row events t) at_once) ∙ kept-now;
        keeping_most = λ more active passive n.
            let p = passing more active passive n in
            omega (arith, at_most more p, weight_is more active passive n);
        keeping = λ more active passive n h. weight_is more active passive n ∙ all-kept more (passing more active passive n) h;
      }

-- For every list of calls that leaves a quantum open.
pub outlooks : Outlooks
unfolding outlook_in
outlooks calls place row opening events runs =
    let b = after paper calls in
    subst (Foresees b place row opening events) (sym (ap (outlook_in paper) runs)) (foreseen b place row opening events runs (bounds paper calls))
