-- The month's fields and the book that it represents.
use Prim.Native.Nat.{ℕ, ◌<◌}
use mathlib.Core.Path.{◌≡◌, refl, ap, sym, ◌∙◌, subst}
use mathlib.Core.Bool.{true, false, false≢true}
use mathlib.Core.List.{List, [], Memᴰ}
use native.Mathlib.Omega.{arith}
use borrow.Author.Tests.{le-leb}
use lib.ListN.{length}
use Rattle.rules.specs.declared.Row.{Row}
use Rattle.rules.specs.declared.SpreadRule.{SpreadRule}
use Rattle.rules.specs.declared.Opening.{Opening}
use Rattle.rules.specs.declared.Cell.{Cell}
use Rattle.rules.specs.declared.Event.{Event}
use Rattle.lists.specs.Lists.{within}
use Rattle.rules.specs.Terms.{paper}
use Rattle.rules.specs.Rows.{good_row_for}
use Rattle.rules.specs.Cells.{good_cell, cell_at, blank_cell, blank_cells}
use Rattle.rules.specs.Calls.{Running, Idle, Quoting, Book, is_open, fresh_book}
use Rattle.rules.specs.Book.{run, after}
use Rattle.rules.specs.Bounds.{OpenBounds, RunningBounds, CellBounds, BookBounds}
use Rattle.lists.proofs.Lists.{and}
use Rattle.lists.proofs.Members.{get_d_in}
use Rattle.rules.proofs.Bounds.{bounds, read_bounds}
use Rattle.quantum.specs.declared.Quantum.{Quantum}
use Rattle.quantum.specs.Represents as S
use Rattle.fix_events.specs.Answers as Q
use Rattle.fix_events.specs.Answers.{EventsBounded, InBook}
use Rattle.fix_events.proofs.Answers.{quantum_reached as reached}
use Rattle.quantum.specs.Represents.{quantum_of}
use Rattle.month.specs.declared.Month.{Month}
use Rattle.quantum.specs.Represents.{quantum_in}
use Rattle.month.specs.Represents.{place_in, share_in, allowed_in, month_of, Reached}

module _ (m : Month) (b : Book) (is : m ≡ month_of b) where
  pub running_is : m.running ≡ is_open b.running
  unfolding month_of
  running_is = ap (λ (x : Month). x.running) is

  pub quantum_is : m.quantum ≡ quantum_in b.running
  unfolding month_of
  quantum_is = ap (λ (x : Month). x.quantum) is

  pub place_is : m.place ≡ place_in b.running
  unfolding month_of
  place_is = ap (λ (x : Month). x.place) is

  pub share_is : m.share ≡ share_in b.running
  unfolding month_of
  share_is = ap (λ (x : Month). x.share) is

  pub allowed_is : m.allowed ≡ allowed_in b.running
  unfolding month_of
  allowed_is = ap (λ (x : Month). x.allowed) is

  pub count_is : m.count ≡ b.count
  unfolding month_of
  count_is = ap (λ (x : Month). x.count) is

  pub cells_are : m.cells ≡ b.cells
  unfolding month_of
  cells_are = ap (λ (x : Month). x.cells) is

  pub closed_is : m.running ≡ false → is_open b.running ≡ false
  closed_is h = sym running_is ∙ h

  pub open_is : m.running ≡ true → is_open b.running ≡ true
  open_is h = sym running_is ∙ h

-- the open quantum
pub record Opened (m : Month) (b : Book) : Type 0 where
  pub place : ℕ
  pub row : Row
  pub opening : Opening
  pub events : List Event
  pub running : b.running ≡ Quoting place row opening events
  pub bounds : OpenBounds paper place row opening events
  pub quantum : m.quantum ≡ quantum_of row opening.spread events
  pub at : m.place ≡ place
  pub share : m.share ≡ row.share
  pub allowed : m.allowed ≡ opening.allowed

pub opened : (m : Month) (b : Book) → BookBounds paper b → m ≡ month_of b → m.running ≡ true → Opened m b
opened m b g is h = go b.running refl g.running
  where
    go : (r : Running) → b.running ≡ r → RunningBounds paper r → Opened m b
    go Idle e s = absurd (false≢true (sym (ap is_open e) ∙ open_is m b is h))
    go (Quoting place row opening events) e s =
        record {
          place = place;
          row = row;
          opening = opening;
          events = events;
          running = e;
          bounds = s;
          quantum = quantum_is m b is ∙ ap quantum_in e;
          at = place_is m b is ∙ ap place_in e;
          share = share_is m b is ∙ ap share_in e;
          allowed = allowed_is m b is ∙ ap allowed_in e;
        }

-- the month's quantum, open or not, is the book's
pub in_book : (m : Month) (b : Book) → BookBounds paper b → m ≡ month_of b → InBook m.quantum m.running b
in_book m b g is = record { bounded = go b.running g.running; is = quantum_is m b is; open_is = running_is m b is }
  where
    go : (r : Running) → RunningBounds paper r → EventsBounded r
    go Idle s = tt
    go (Quoting place row opening events) s = ((read_bounds paper opening.spread row s.row_good).minimum_least, s.events_good)

pub held : (m : Month) → Reached m → Q.Reached m.quantum m.running
held m r = record { book = after paper r.calls; in_book = in_book m (after paper r.calls) (bounds paper r.calls) r.is }

pub quantum_reached : (m : Month) → Reached m → S.Reached m.quantum
quantum_reached m r = reached m.quantum m.running (held m r)

pub all_cells : (m : Month) → Reached m → length m.cells ≡ 186
all_cells m r = ap length (cells_are m (after paper r.calls) r.is) ∙ (bounds paper r.calls).all_cells

place_small : (r : Running) → RunningBounds paper r → place_in r < 186
place_small Idle s = omega arith
place_small (Quoting place row opening events) s = s.inside

pub place_inside : (m : Month) → Reached m → m.place < 186
place_inside m r =
    let b = after paper r.calls in
    omega (arith, place_is m b r.is, place_small b.running (bounds paper r.calls).running)

-- every filled cell is in its bounds
pub cells_good : (m : Month) → Reached m → (c : Cell) → Memᴰ c m.cells → c.filled ≡ true → CellBounds paper c
cells_good m r c k h =
    let b = after paper r.calls in
    (bounds paper r.calls).filled c (subst (Memᴰ c) (cells_are m b r.is) k) h

-- the cell at a place of a good month, where it is filled
pub cell_good : (m : Month) → Reached m → (place : ℕ) → place < 186 → (c : Cell) → c ≡ cell_at m.cells place → c.filled ≡ true → CellBounds paper c
cell_good m r place h c e f =
    let n = all_cells m r in
    cells_good m r c (subst (λ (x : Cell). Memᴰ x m.cells) (sym e) (get_d_in m.cells place blank_cell (omega arith))) f

-- the fresh month
pub fresh_is : (q : Quantum) (cells : List Cell) → q ≡ quantum_in Idle → cells ≡ blank_cells
    → ◌≡◌ {A = Month} (record { running = false; place = 0; share = 0; allowed = 0; count = 0; quantum = q; cells = cells }) (month_of (after paper []))
unfolding month_of after run fresh_book
fresh_is q cells e f = λ i. record { running = false; place = 0; share = 0; allowed = 0; count = 0; quantum = e i; cells = f i }

-- a good row and a day name a cell
pub row-names : (row : Row) (day : ℕ) (spread : SpreadRule) → good_row_for paper spread row ≡ true → within 1 31 day ≡ true → good_cell day row.expiry row.quantum ≡ true
row-names row day spread g h =
    let r = read_bounds paper spread row g in
    and (and h (and (le-leb 1 row.expiry r.expiry_least) (le-leb row.expiry 2 r.expiry_most))) (le-leb row.quantum 2 r.quantum_most)
