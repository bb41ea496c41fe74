-- The plain book keeps its bounds after every list of calls, and an open quantum's events keep theirs.
use Prim.Native.Nat.{ℕ, zero, suc, ◌%◌, ◌≤◌}
use native.Mathlib.Omega.{arith}
use mathlib.Core.Path.{◌≡◌, refl, sym, ap, ◌∙◌, subst}
use mathlib.Core.Logic.{⊎_elim}
use mathlib.Core.List.Memᴰ
use mathlib.Core.List.{List, [], ◌∷◌, ◌++◌, append-nil, append_assoc, Memᴰ}
use mathlib.Core.Bool.{true, false≢true}
use lib.Dec.{leb, eqb}
use lib.ListN.{length, set, length-set, length-replicate}
use borrow.Author.Tests.{leb-true, le-leb, eqb-true}
use Rattle.rules.specs.declared.Opening.{Opening}
use Rattle.rules.specs.declared.Steps.{Steps}
use Rattle.rules.specs.declared.Contracts.{Contracts}
use Rattle.rules.specs.declared.Kopecks.{Kopecks}
use Rattle.rules.specs.declared.Order.{Order}
use Rattle.rules.specs.declared.Row.{Row}
use Rattle.rules.specs.declared.Cell.{Cell}
use Rattle.rules.specs.declared.SpreadRule.{SpreadRule}
use Rattle.rules.specs.declared.SpreadRule.TheVariants.{Settled, OfStrike}
use Rattle.rules.specs.declared.Event.{Event}
use Rattle.rules.specs.declared.Event.TheVariants.{Add, Amend, Cancel, Deal, Tick}
use Rattle.lists.specs.Lists.{within}
use Rattle.rules.specs.Terms.{Terms}
use Rattle.rules.specs.Units.{good_price, good_volume, good_charge}
use Rattle.rules.specs.Rows.{good_expiry, good_quantum, good_length, row_of, good_row, as_read, good_row_for}
use Rattle.rules.specs.Cells.{blank_cell, good_cell, place_of, cell_at}
use Rattle.rules.specs.Orders.{lessened_order, apply, apply_all, live, time_from, present}
use Rattle.rules.specs.Calls.{Call, Open, Send, Message, Ask, Commit, Close, Drop, Charge, Withdraw, Look, Report, Outlook, Running, Idle, Quoting, Book, fresh_book, amend_of}
use Rattle.rules.specs.Causes.{good_settlement, good_spread_rule, event_refusal, refusal_of}
use Rattle.rules.specs.MessageCalls.{message_in, events_of}
use Rattle.rules.specs.Changes.{noted, noted_all, closed_cell, closed, charged, changed}
use Rattle.rules.specs.Book.{step_by, step, run, after}
use Rattle.rules.specs.Bounds.{Distinct, EventBounds, OpenBounds, RunningBounds, CellBounds, BookBounds}
use Rattle.lists.proofs.Lists.{both, and}
use Rattle.lists.proofs.Members.{get_d_in, in_set, in_replicate}
use Rattle.rules.proofs.Orders.{live-snoc, present-snoc, amended_price, amended_volume, lessened_price, lessened_volume, length_add, distinct_add, all-add, length_amend, distinct_amend, all_amend, length_cancel, distinct_cancel, in_cancel, length_deal, distinct_deal, all_deal}
use Rattle.rules.proofs.Kept.{ordered_snoc, kept-le}
pub use Rattle.rules.proofs.Places.{place_small, cell_small}
use Rattle.rules.proofs.Refusals.{within-parts, TraderPasses, EventPasses, event_passes, SendPasses, InTurn, TurnPasses, message_turns, CallPasses, call_passes}

-- ---- tests as numbers

pub volume_bounds : (v : ℕ) → good_volume v ≡ true → (1 ≤ v) × (v ≤ 1000000)
unfolding good_volume
volume_bounds v e = within-parts 1 1000000 v e

bounds_volume : (v : ℕ) → 1 ≤ v → v ≤ 1000000 → good_volume v ≡ true
unfolding good_volume
bounds_volume v l h = and (le-leb 1 v l) (le-leb v 1000000 h)

charge_bound : (terms : Terms) (c : ℕ) → good_charge terms c ≡ true → c ≤ terms.most_charge
unfolding good_charge
charge_bound terms c e = leb-true c terms.most_charge e

pub record RowBounds (terms : Terms) (row : Row) : Type 0 where
  pub expiry_least : 1 ≤ row.expiry
  pub expiry_most : row.expiry ≤ 2
  pub quantum_most : row.quantum ≤ 2
  pub length_least : 1000 ≤ row.length.0
  pub length_most : row.length.0 ≤ 86400000
  pub length_whole : row.length.0 % 1000 ≡ 0
  pub minimum_least : 1 ≤ row.minimum.0
  pub minimum_most : row.minimum.0 ≤ 100000
  pub a_most : row.a ≤ 100000
  pub b_most : row.b ≤ 1000000
  pub share_least : 1 ≤ row.share
  pub share_most : row.share ≤ terms.most_share

pub row_bounds : (terms : Terms) (row : Row) → good_row terms row ≡ true → RowBounds terms row
unfolding good_row
row_bounds terms row e =
    let h1 = both _ (within 1 terms.most_share row.share) e in
    let h2 = both _ (leb row.b 1000000) h1.0 in
    let h3 = both _ (leb row.a 100000) h2.0 in
    let h4 = both _ (within 1 100000 row.minimum.0) h3.0 in
    let h5 = both _ (good_length row.length.0) h4.0 in
    let h6 = both (good_expiry row.expiry) (good_quantum row.quantum) h5.0 in
    let h7 = both (within 1000 86400000 row.length.0) (eqb (row.length.0 % 1000) 0) h5.1 in
    let share = within-parts 1 terms.most_share row.share h1.1 in
    let minimum = within-parts 1 100000 row.minimum.0 h4.1 in
    let expiry = within-parts 1 2 row.expiry h6.0 in
    let long = within-parts 1000 86400000 row.length.0 h7.0 in
    record {
      expiry_least = expiry.0;
      expiry_most = expiry.1;
      quantum_most = leb-true row.quantum 2 h6.1;
      length_least = long.0;
      length_most = long.1;
      length_whole = eqb-true (row.length.0 % 1000) 0 h7.1;
      minimum_least = minimum.0;
      minimum_most = minimum.1;
      a_most = leb-true row.a 100000 h3.1;
      b_most = leb-true row.b 1000000 h2.1;
      share_least = share.0;
      share_most = share.1;
    }

-- what is read of a row: all but a and b, which a strike leaves unread
pub record ReadBounds (terms : Terms) (row : Row) : Type 0 where
  pub expiry_least : 1 ≤ row.expiry
  pub expiry_most : row.expiry ≤ 2
  pub quantum_most : row.quantum ≤ 2
  pub length_least : 1000 ≤ row.length.0
  pub length_most : row.length.0 ≤ 86400000
  pub minimum_least : 1 ≤ row.minimum.0
  pub minimum_most : row.minimum.0 ≤ 100000
  pub share_least : 1 ≤ row.share
  pub share_most : row.share ≤ terms.most_share

-- whatever a and b replace the row's
read_part : (terms : Terms) (row : Row) (a b : ℕ)
    → RowBounds terms
    (record { expiry = row.expiry; quantum = row.quantum; length = row.length; minimum = row.minimum; a = a; b = b; share = row.share })
    → ReadBounds terms row
read_part terms row a b r =
    record {
      expiry_least = r.expiry_least;
      expiry_most = r.expiry_most;
      quantum_most = r.quantum_most;
      length_least = r.length_least;
      length_most = r.length_most;
      minimum_least = r.minimum_least;
      minimum_most = r.minimum_most;
      share_least = r.share_least;
      share_most = r.share_most;
    }

pub read_bounds : (terms : Terms) (spread : SpreadRule) (row : Row) → good_row_for terms spread row ≡ true → ReadBounds terms row
unfolding good_row_for
read_bounds terms (Settled sp) row e = read_part terms row row.a row.b (row_bounds terms row e)
read_bounds terms (OfStrike s) row e = read_part terms row 0 0 (row_bounds terms (as_read (OfStrike s) row) e)

-- ---- the live orders after an event that has passed

few_more : (os : List Order) (e : Event) → TraderPasses os e → length os ≤ 64 → length (apply os e) ≤ 64
unfolding apply
few_more os (Add t id side price volume) p h = omega (arith, length_add os t id side price volume, p.room)
few_more os (Amend t id price volume) p h = omega (arith, length_amend os t id price volume)
few_more os (Cancel t id) p h = omega (arith, length_cancel os t id)
few_more os (Deal t id volume) p h = omega (arith, length_deal os t id volume)
few_more os (Tick t) p h = h

distinct_more : (os : List Order) (e : Event) → TraderPasses os e → Distinct os → Distinct (apply os e)
unfolding apply
distinct_more os (Add t id side price volume) p d = distinct_add os t id side price volume d p.fresh
distinct_more os (Amend t id price volume) p d = distinct_amend os t id price volume d
distinct_more os (Cancel t id) p d = distinct_cancel os t id d
distinct_more os (Deal t id volume) p d = distinct_deal os t id volume d
distinct_more os (Tick t) p d = d

abbrev Priced : Order → Type 0
Priced o = good_price o.price.0 ≡ true

prices_more : (os : List Order) (e : Event) → TraderPasses os e → ((o : Order) → Memᴰ o os → good_price o.price.0 ≡ true)
    → (o : Order) → Memᴰ o (apply os e) → good_price o.price.0 ≡ true
unfolding apply
prices_more os (Add t id side price volume) p h = all-add os t id side price volume Priced h p.price_good
prices_more os (Amend t id price volume) p h =
    all_amend os t id price volume Priced (λ o m. amended_price id price volume o (λ (s : Steps). good_price s.0 ≡ true) p.price_good (h o m))
prices_more os (Cancel t id) p h = λ o m. h o (in_cancel os t id o m).0
prices_more os (Deal t id volume) p h =
    all_deal os t id volume Priced (λ o m l. ap (λ (s : Steps). good_price s.0) (lessened_price id volume.0 o) ∙ h o m)
prices_more os (Tick t) p h = h

abbrev Sized : Order → Type 0
Sized o = good_volume o.volume.0 ≡ true

volumes-more : (os : List Order) (e : Event) → TraderPasses os e → ((o : Order) → Memᴰ o os → good_volume o.volume.0 ≡ true)
    → (o : Order) → Memᴰ o (apply os e) → good_volume o.volume.0 ≡ true
unfolding apply
volumes-more os (Add t id side price volume) p h = all-add os t id side price volume Sized h p.volume_good
volumes-more os (Amend t id price volume) p h =
    all_amend os t id price volume Sized (λ o m. amended_volume id price volume o (λ (s : Contracts). good_volume s.0 ≡ true) p.volume_good (h o m))
volumes-more os (Cancel t id) p h = λ o m. h o (in_cancel os t id o m).0
volumes-more os (Deal t id volume) p h = all_deal os t id volume Sized less
  where
    less : (o : Order) → Memᴰ o os → 1 ≤ (lessened_order id volume.0 o).volume.0 → good_volume (lessened_order id volume.0 o).volume.0 ≡ true
    less o m l =
        let (minimum, most) = volume_bounds o.volume.0 (h o m) in
        bounds_volume (lessened_order id volume.0 o).volume.0 l (omega (arith, lessened_volume id volume.0 o))
volumes-more os (Tick t) p h = h

-- ---- an open quantum's events

pub event_bounds_none : (row : Row) → EventBounds row []
unfolding live apply_all present time_from
event_bounds_none row =
    record {
      few = omega arith;
      distinct = tt;
      prices = λ o m. absurd (Memᴰ.not-nil m);
      volumes = λ o m. absurd (Memᴰ.not-nil m);
      ordered = tt;
      ends = omega arith;
    }

event_bounds_passed : (row : Row) (es : List Event) (e : Event) → EventBounds row es → EventPasses row es e → EventBounds row (es ++ (e ∷ []))
event_bounds_passed row es e g p =
    record {
      few = rw live-snoc (few_more (live es) e p.trader g.few);
      distinct = rw live-snoc (distinct_more (live es) e p.trader g.distinct);
      prices = rw live-snoc (prices_more (live es) e p.trader g.prices);
      volumes = rw live-snoc (volumes-more (live es) e p.trader g.volumes);
      ordered = ordered_snoc es e g.ordered p.onward;
      ends = rw present-snoc p.inside;
    }

-- events in turn
event_bounds_turn : (row : Row) (es more : List Event) → EventBounds row es → InTurn row es more → EventBounds row (es ++ more)
event_bounds_turn row es [] g p = subst (EventBounds row) (sym (append-nil es)) g
event_bounds_turn row es (e ∷ more) g p =
    subst (EventBounds row) (append_assoc es (e ∷ []) more) (event_bounds_turn row (es ++ (e ∷ [])) more (event_bounds_passed row es e g p.0) p.1)

pub event_bounds_more : (row : Row) (es : List Event) (e : Event) → EventBounds row es → event_refusal row es e ≡ 0 → EventBounds row (es ++ (e ∷ []))
event_bounds_more row es e g h = event_bounds_passed row es e g (event_passes row es e h)

-- ---- the open quantum

module _ (terms : Terms) where
  opened : (words : List ℕ) (day : ℕ) (opening : Opening) → good_row_for terms opening.spread (row_of words) ≡ true → within 1 31 day ≡ true
      → good_settlement opening.spread ≡ true → good_spread_rule opening.spread ≡ true
      → OpenBounds terms (place_of day (row_of words).expiry (row_of words).quantum) (row_of words) opening []
  opened words day opening good d p s =
      let r = read_bounds terms opening.spread (row_of words) good in
      record {
        inside = place_small day (row_of words).expiry (row_of words).quantum (within-parts 1 31 day d).1 r.expiry_most r.quantum_most;
        row_good = good;
        price_good = p;
        spread_good = s;
        events_good = event_bounds_none (row_of words);
        kept = kept-le (row_of words) opening.spread [] (present []);
      }

  noted_bounds : (r : Running) (es : List Event) → RunningBounds terms r → TurnPasses r es → RunningBounds terms (noted_all r es)
  noted_bounds Idle es g p = tt
  noted_bounds (Quoting place row opening events) es g p =
      record {
        inside = g.inside;
        row_good = g.row_good;
        price_good = g.price_good;
        spread_good = g.spread_good;
        events_good = event_bounds_turn row events es g.events_good p;
        kept = kept-le row opening.spread (events ++ es) (present (events ++ es));
      }

  sent_bounds : (r : Running) (e : Event) → RunningBounds terms r → SendPasses r e → RunningBounds terms (noted r e)
  sent_bounds Idle e g p = tt
  sent_bounds (Quoting place row opening events) e g p = noted_bounds (Quoting place row opening events) (e ∷ []) g (p, tt)

-- ---- a filled cell

module _ (terms : Terms) where
  abbrev Filled : Cell → Type 0
  Filled c = c.filled ≡ true → CellBounds terms c

  filled-set : (cells : List Cell) (i : ℕ) (x : Cell) → ((c : Cell) → Memᴰ c cells → c.filled ≡ true → CellBounds terms c) → Filled x
      → (c : Cell) → Memᴰ c (set cells i x) → c.filled ≡ true → CellBounds terms c
  filled-set cells i x old new c m = ⊎_elim (λ e. subst Filled (sym e) new) (old c) (in_set cells i x m)

  filled_blank : Filled blank_cell
  filled_blank e = absurd (false≢true e)

  filled-closed : (row : Row) (opening : Opening) (events : List Event) (active passive : Kopecks) → good_row_for terms opening.spread row ≡ true
      → good_charge terms active.0 ≡ true → good_charge terms passive.0 ≡ true → Filled (closed_cell row opening events active passive)
  filled-closed row opening events active passive good a p e =
      let r = read_bounds terms opening.spread row good in
      record {
        length_least = r.length_least;
        length_most = r.length_most;
        share_least = r.share_least;
        share_most = r.share_most;
        kept_most = kept-le row opening.spread events row.length.0;
        active_most = charge_bound terms active.0 a;
        passive_most = charge_bound terms passive.0 p;
      }

  filled-charged : (c : Cell) (active passive : Kopecks) → CellBounds terms c → good_charge terms active.0 ≡ true
      → good_charge terms passive.0 ≡ true → Filled (charged active passive c)
  filled-charged c active passive r a p e =
      record {
        length_least = r.length_least;
        length_most = r.length_most;
        share_least = r.share_least;
        share_most = r.share_most;
        kept_most = r.kept_most;
        active_most = charge_bound terms active.0 a;
        passive_most = charge_bound terms passive.0 p;
      }

  closed-length : (r : Running) (active passive : Kopecks) (cells : List Cell) → length (closed r active passive cells) ≡ length cells
  closed-length Idle active passive cells = refl
  closed-length (Quoting place row opening events) active passive cells = length-set cells place (closed_cell row opening events active passive)

  closed-filled : (r : Running) (active passive : Kopecks) (cells : List Cell) → RunningBounds terms r
      → good_charge terms active.0 ≡ true → good_charge terms passive.0 ≡ true
      → ((c : Cell) → Memᴰ c cells → c.filled ≡ true → CellBounds terms c)
      → (c : Cell) → Memᴰ c (closed r active passive cells) → c.filled ≡ true → CellBounds terms c
  closed-filled Idle active passive cells g a p old = old
  closed-filled (Quoting place row opening events) active passive cells g a p old =
      filled-set cells place (closed_cell row opening events active passive) old (filled-closed row opening events active passive g.row_good a p)

  -- ---- the book, call by call

  -- the named cell is one of the book's
  cell_in : (b : Book) (day expiry quantum : ℕ) → BookBounds terms b → good_cell day expiry quantum ≡ true
      → Memᴰ (cell_at b.cells (place_of day expiry quantum)) b.cells
  cell_in b day expiry quantum g h =
      get_d_in b.cells (place_of day expiry quantum) blank_cell (omega (arith, g.all_cells, cell_small day expiry quantum h))

  bounds_changed : (b : Book) (c : Call) → BookBounds terms b → CallPasses terms b c → BookBounds terms (changed b c)
  unfolding changed events_of
  bounds_changed b (Open words day opening) g p =
      record {
        all_cells = g.all_cells;
        filled = g.filled;
        running = opened terms words day opening p.row_good p.day_good p.price_good p.spread_good;
      }
  bounds_changed b (Send e) g p =
      record { all_cells = g.all_cells; filled = g.filled; running = sent_bounds terms b.running e g.running p }
  bounds_changed b (Message start bytes) g p =
      record {
        all_cells = g.all_cells;
        filled = g.filled;
        running = noted_bounds terms b.running (events_of start bytes) g.running (message_turns b.running (message_in start bytes) p);
      }
  bounds_changed b (Ask a) g p = g
  bounds_changed b (Commit a ticket) g p =
      record { all_cells = g.all_cells; filled = g.filled; running = sent_bounds terms b.running (amend_of a) g.running p.sent }
  bounds_changed b (Close active passive) g p =
      record {
        all_cells = closed-length b.running active passive b.cells ∙ g.all_cells;
        filled = closed-filled b.running active passive b.cells g.running p.active_good p.passive_good g.filled;
        running = tt;
      }
  bounds_changed b Drop g p = record { all_cells = g.all_cells; filled = g.filled; running = tt }
  bounds_changed b (Charge day expiry quantum active passive) g p =
      let place = place_of day expiry quantum in
      let old = g.filled (cell_at b.cells place) (cell_in b day expiry quantum g p.cell_good) p.filled in
      let new = charged active passive (cell_at b.cells place) in
      record {
        all_cells = length-set b.cells place new ∙ g.all_cells;
        filled = filled-set b.cells place new g.filled (filled-charged (cell_at b.cells place) active passive old p.active_good p.passive_good);
        running = g.running;
      }
  bounds_changed b (Withdraw day expiry quantum) g p =
      let place = place_of day expiry quantum in
      record {
        all_cells = length-set b.cells place blank_cell ∙ g.all_cells;
        filled = filled-set b.cells place blank_cell g.filled filled_blank;
        running = g.running;
      }
  bounds_changed b (Look day expiry quantum) g p = g
  bounds_changed b Report g p = g
  bounds_changed b Outlook g p = g

  bounds_step : (b : Book) (c : Call) → BookBounds terms b → BookBounds terms (step terms b c)
  unfolding step
  bounds_step b c g = go (refusal_of terms b c) refl
    where
      go : (n : ℕ) → refusal_of terms b c ≡ n → BookBounds terms (step_by terms n b c)
      go zero h = bounds_changed b c g (call_passes terms b c h)
      go (suc n) h = g

  bounds_run : (b : Book) (calls : List Call) → BookBounds terms b → BookBounds terms (run terms b calls)
  unfolding run
  bounds_run b [] g = g
  bounds_run b (c ∷ cs) g = bounds_run (step terms b c) cs (bounds_step b c g)

  bounds_fresh : BookBounds terms fresh_book
  unfolding fresh_book
  bounds_fresh =
      record {
        all_cells = length-replicate 186 blank_cell;
        filled = λ c m. subst Filled (sym (in_replicate 186 blank_cell m)) filled_blank;
        running = tt;
      }

  -- the theorem: after every list of calls
  pub bounds : (calls : List Call) → BookBounds terms (after terms calls)
  unfolding after
  bounds calls = bounds_run fresh_book calls bounds_fresh

  run-snoc : (b : Book) (calls : List Call) (c : Call) → run terms b (calls ++ (c ∷ [])) ≡ step terms (run terms b calls) c
  unfolding run
  run-snoc b [] c = refl
  run-snoc b (d ∷ cs) c = run-snoc (step terms b d) cs c

  pub after-snoc : (calls : List Call) (c : Call) → after terms (calls ++ (c ∷ [])) ≡ step terms (after terms calls) c
  unfolding after
  after-snoc calls c = run-snoc fresh_book calls c
