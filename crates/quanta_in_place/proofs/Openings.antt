-- Open and close on a month's words, from what they do to the month.
use Prim.Native.Nat.{ℕ, suc, ◌≤◌}
use native.Mathlib.Omega.{arith}
use mathlib.Core.Path.{◌≡◌, refl, sym, ap, ◌∙◌, subst}
use mathlib.Core.Bool.{Bool, true, false, ◌&&◌}
use mathlib.Core.List.{List, [], ◌∷◌, ◌++◌}
use lib.ListN.{length, get_or, take, drop, set, length-append, length-drop, length-set}
use lib.Seq.{length-take-le}
use Rattle.rules.specs.declared.Cell.{Cell}
use Rattle.rules.specs.declared.Kopecks.{Kopecks}
use Rattle.rules.specs.declared.Row.{Row}
use Rattle.rules.specs.declared.SpreadRule.{SpreadRule}
use Rattle.rules.specs.declared.Opening.{Opening}
use Rattle.rules.specs.declared.Event.{Event}
use Rattle.lists.specs.Lists.{within}
use Rattle.rules.specs.Terms.{paper}
use Rattle.rules.specs.Rows.{row_of, good_row_for}
use Rattle.rules.specs.Cells.{place_of, cell_at}
use Rattle.rules.specs.Kept.{kept_below}
use Rattle.rules.specs.Lapses.{lapses_below, good_lapse_limit}
use Rattle.rules.specs.Causes.{first_number, row_causes, read_row, good_charges, good_settlement, good_spread_rule}
use Rattle.rules.specs.Answers.{refused}
use Rattle.rules.specs.Calls.{Call, Close, Open, Idle}
use Rattle.rules.specs.Bounds.{EventBounds}
use Rattle.rules.proofs.Answers.{refused_by}
use Rattle.lent.specs.Words.{cells_words}
use Rattle.lent.proofs.Back.{cells_length}
use Rattle.clock.specs.declared.Duty.{Duty}
use Rattle.clock.specs.declared.Clock.{Clock}
use Rattle.clock.specs.declared.Totals.{Totals}
use Rattle.clock.specs.Clocks.{duty_of, clock_of, Onward}
use Rattle.clock.specs.Words.{duty_words, clock_words}
use Rattle.clock.proofs.Clocks.{time_is, length_of_lem, onward}
use Rattle.quantum.specs.Represents.{quantum_of, quantum_in}
use Rattle.quantum.proofs.Answers.{represents-all}
use Rattle.month.specs.declared.Month.{Month}
use Rattle.month.specs.Represents.{Answered}
use Rattle.month.specs.Internal.{with_cell, without_quantum, counted}
use Rattle.month.specs.Words.{month_words, words_after, HoldsMonth}
use Rattle.month.proofs.Fields.{quantum_reached}
use Rattle.month.proofs.Calls.{ReadAs, open_unread, open_range, open_filled, open_running, open_allowed, open_strike, open_done, close_range, close_idle, close_done}
use Rattle.month.proofs.Words.{month-fits, word_in_lem, cells_in}
use Rattle.month_in_place.specs.Events.{ChangesMonth}
use Rattle.month_in_place.proofs.Months.{whole}
use Rattle.quanta_in_place.specs.Internal.{restarted}
use Rattle.quanta_in_place.proofs.Parts.{celled, with_cell-fits, celled_is, restarted_is, duty-at, clock-at}
use Rattle.quanta_in_place.proofs.Quanta.{month_after, changes, stays, idle, on}

-- ---- close

pub close_out : (ws : List ℕ) (active passive : Kopecks) (n : ℕ) → n ≡ 3 → good_charges paper active passive ≡ false → ChangesMonth ws (Close active passive) ws n
close_out ws active passive n t h = stays ws (Close active passive) n 3 t (λ calls is. close_range (month_after calls) active passive h)

pub close_none : (ws : List ℕ) (active passive : Kopecks) (n : ℕ) → n ≡ 7 → good_charges paper active passive ≡ true → get_or ws 0 0 ≡ 0 → ChangesMonth ws (Close active passive) ws n
close_none ws active passive n t g h =
    stays ws (Close active passive) n 7 t (λ calls is. close_idle (month_after calls) active passive g (idle ws h calls is))

-- there is room for the month's words whatever cell is put
pub close_room : (ws part : List ℕ) (place : ℕ) (c : Cell) → HoldsMonth ws → 2464 ≤ length ws
    → ((cells : List Cell) → take 1860 (drop 604 ws) ≡ cells_words cells → part ≡ cells_words (set cells place c)) → 2464 ≤ length (celled ws part)
close_room ws part place c h l put =
    let m = month_after h.calls in
    let f = month-fits h.calls in
    let size : length part ≡ 1860 =
    ap length (put m.cells (cells_in ws m f h.is)) ∙ cells_length (set m.cells place c) ∙ omega (arith, length-set m.cells place c, f.cells) in
    omega (
      arith,
      l,
      size,
      length-append (take 604 ws) (part ++ drop 1860 (drop 604 ws)),
      length-take-le 604 ws (omega (arith, l)),
      length-append part (drop 1860 (drop 604 ws)),
      length-drop 1860 (drop 604 ws),
      length-drop 604 ws,
    )

module _ (ws : List ℕ) (duty : Duty) (clock : Clock) (read-duty : (d : Duty) → take 3 (drop 6 ws) ≡ duty_words d → duty ≡ d)
    (read-clock : (k : Clock) → take 5 (drop 9 ws) ≡ clock_words k → clock ≡ k) where
  module _ (calls : List Call) (is : take 2464 ws ≡ words_after calls) where
    abbrev month : Month
    month = month_after calls

    duty_is : duty ≡ month.quantum.duty
    duty_is = read-duty _ (duty-at ws (drop 2464 ws) month (month-fits calls) (whole ws calls is))

    clock_is : clock ≡ month.quantum.clock
    clock_is = read-clock _ (clock-at ws (drop 2464 ws) month (month-fits calls) (whole ws calls is))

  pub close_onward : HoldsMonth ws → Onward clock duty.length
  close_onward h =
      let m = month_after h.calls in
      let p = quantum_reached m (record { calls = h.calls; is = refl }) in
      let r = represents-all p.row p.sp p.events m.quantum p.is p.bounds in
      let d = duty_is h.calls h.is ∙ r.duty_is in
      let k = clock_is h.calls h.is ∙ r.clock_is in
      onward p.row p.sp p.events clock k duty.length
      (omega (arith, time_is p.row p.sp p.events clock k, length_of_lem p.row p.sp duty d, p.bounds.ends))

  module _ (active passive : Kopecks) (totals : Totals)
      (ended : (row : Row) (sp : SpreadRule) (events : List Event) → EventBounds row events → duty ≡ duty_of row sp → clock ≡ clock_of row sp events
      → (totals.kept.0 ≡ kept_below row sp events row.length.0) × (totals.lapses ≡ lapses_below row sp events row.length.0))
    where
      -- the cell that the quantum leaves
      abbrev pub leaves : ℕ → ℕ → Cell
      leaves share allowed =
          record {
            filled = true;
            kept = totals.kept;
            length = duty.length;
            share = share;
            allowed = allowed;
            lapses = totals.lapses;
            active = active;
            passive = passive;
          }

      pub close_goes : (get_or ws 0 0 ≡ 0 → ⊥) → good_charges paper active passive ≡ true → (place : ℕ) → place ≡ get_or ws 1 0 → (part : List ℕ)
          → ((cells : List Cell) → take 1860 (drop 604 ws) ≡ cells_words cells → part ≡ cells_words (set cells place (leaves (get_or ws 2 0) (get_or ws 3 0))))
          → (ws' : List ℕ) → ws' ≡ restarted (celled ws part) (0 ∷ 0 ∷ 0 ∷ 0 ∷ []) (quantum_in Idle) → ChangesMonth ws (Close active passive) ws' 0
      close_goes h g place p part put ws' e =
          changes ws (Close active passive) ws' 0
          (λ calls is.
          let m = month_after calls in
          let f = month-fits calls in
          let word = word_in_lem ws m f is in
          let cell = leaves m.share m.allowed in
          let part_is : part ≡ cells_words (set m.cells m.place cell) =
          put m.cells (cells_in ws m f is)
          ∙ (λ i. cells_words (set m.cells ((p ∙ word 1 (omega arith)) i) (leaves (word 2 (omega arith) i) (word 3 (omega arith) i)))) in
          let laid : celled ws part ≡ month_words (with_cell m m.place cell) ++ drop 2464 ws =
          celled_is ws (drop 2464 ws) m f (whole ws calls is) part (set m.cells m.place cell) part_is in
          record {
            next = counted (without_quantum (with_cell m m.place cell));
            answered =
                close_done m active passive g (on ws h calls is) totals duty.length
                (λ row sp events b q.
                let r = represents-all row sp events m.quantum q b in
                ended row sp events b (duty_is calls is ∙ r.duty_is) (clock_is calls is ∙ r.clock_is))
                (ap (λ (d : Duty). d.length) (duty_is calls is));
            words = e ∙ restarted_is (celled ws part) (drop 2464 ws) (with_cell m m.place cell) (with_cell-fits m f m.place cell) laid false 0 0 0 (quantum_in Idle);
          })

-- ---- open

-- the row was not read
pub open_unread_words : (ws words : List ℕ) (day : ℕ) (opening : Opening) (n k : ℕ) → n ≡ k → refused k ≡ read_row paper opening.spread words → ChangesMonth ws (Open words day opening) ws n
unfolding read_row
open_unread_words ws words day opening n k t e =
    let (j, x, f) = refused_by (first_number (row_causes paper opening.spread words)) k (row_of words) e in
    stays ws (Open words day opening) n (suc j) (t ∙ f)
    (λ calls is.
    subst (λ (i : ℕ). Answered (month_after calls) (Open words day opening) (month_after calls) (refused i)) f
    (open_unread (month_after calls) words day opening k e))

module _ (ws words : List ℕ) (row : Row) (day : ℕ) (opening : Opening) (read : ReadAs opening.spread words row) (n : ℕ) where
  pub open_out : n ≡ 3 → (within 1 31 day && good_settlement opening.spread) ≡ false → ChangesMonth ws (Open words day opening) ws n
  open_out t h = stays ws (Open words day opening) n 3 t (λ calls is. open_range (month_after calls) words row day opening read h)

  module _ (h : (within 1 31 day && good_settlement opening.spread) ≡ true) (place : ℕ) (p : place ≡ place_of day row.expiry row.quantum) (c : Cell)
      (at : (cells : List Cell) → take 1860 (drop 604 ws) ≡ cells_words cells → c ≡ cell_at cells place) where
    filled_is : (b : Bool) → c.filled ≡ b → (calls : List Call) → take 2464 ws ≡ words_after calls → (cell_at (month_after calls).cells (place_of day row.expiry row.quantum)).filled ≡ b
    filled_is b f calls is =
        let m = month_after calls in
        ap (λ (k : ℕ). (cell_at m.cells k).filled) (sym p) ∙ sym (ap (λ (x : Cell). x.filled) (at m.cells (cells_in ws m (month-fits calls) is))) ∙ f

    pub open_full : n ≡ 4 → c.filled ≡ true → ChangesMonth ws (Open words day opening) ws n
    open_full t f = stays ws (Open words day opening) n 4 t (λ calls is. open_filled (month_after calls) words row day opening read h (filled_is true f calls is))

    module _ (f : c.filled ≡ false) where
      pub open_on : n ≡ 6 → (get_or ws 0 0 ≡ 0 → ⊥) → ChangesMonth ws (Open words day opening) ws n
      open_on t l =
          stays ws (Open words day opening) n 6 t (λ calls is. open_running (month_after calls) words row day opening read h (filled_is false f calls is) (on ws l calls is))

      module _ (l : get_or ws 0 0 ≡ 0) where
        pub open_unlimited : n ≡ 17 → good_lapse_limit opening.allowed ≡ false → ChangesMonth ws (Open words day opening) ws n
        open_unlimited t g =
            stays ws (Open words day opening) n 17 t
            (λ calls is. open_allowed (month_after calls) words row day opening read h (filled_is false f calls is) (idle ws l calls is) g)

        module _ (g : good_lapse_limit opening.allowed ≡ true) where
          pub open_strikes : n ≡ 18 → good_spread_rule opening.spread ≡ false → ChangesMonth ws (Open words day opening) ws n
          open_strikes t s =
              stays ws (Open words day opening) n 18 t
              (λ calls is. open_strike (month_after calls) words row day opening read h (filled_is false f calls is) (idle ws l calls is) g s)

          pub open_goes : good_spread_rule opening.spread ≡ true → (ws' : List ℕ)
              → ws' ≡ restarted ws (1 ∷ place ∷ row.share ∷ opening.allowed ∷ []) (quantum_of row opening.spread []) → ChangesMonth ws (Open words day opening) ws' 0
          open_goes s ws' e =
              changes ws (Open words day opening) ws' 0
              (λ calls is.
              let m = month_after calls in
              let q = quantum_of row opening.spread [] in
              record {
                next = counted (record { running = true; place = place; share = row.share; allowed = opening.allowed; count = m.count; quantum = q; cells = m.cells });
                answered = open_done m words row day opening read h (filled_is false f calls is) (idle ws l calls is) g s q place refl p;
                words = e ∙ restarted_is ws (drop 2464 ws) m (month-fits calls) (whole ws calls is) true place row.share opening.allowed q;
              })
