-- The theorem: a quantum's cell in any month in which its place is blank is the one that it leaves in a fresh month. Its open is checked
-- against its own cell and the open quantum, the calls inside and its close against the open quantum alone, and only its close writes a
-- cell: its own.
use Prim.Native.Nat.{ℕ, zero, suc, ◌<◌}
use native.Mathlib.Omega.{arith}
use mathlib.Core.Path.{◌≡◌, refl, sym, ap, ◌∙◌, subst}
use mathlib.Core.Logic.{◌≢◌, ◌⊎◌, inl, inr, ⊎_elim}
use mathlib.Core.List.Memᴰ
use mathlib.Core.List.Permᴰ
use mathlib.Core.List.{List, [], ◌∷◌, ◌++◌, append_assoc, append-nil, Memᴰ, Permᴰ}
use mathlib.Core.Bool.{Bool, true, false, true≢false, false≢true, not, ◌&&◌}
use lib.Dec.{ltb}
use lib.ListN.{length, set, get_or-eq_default}
use lib.Seq.{get_or-set_same, get_or-set_other}
use borrow.Author.Tests.{ltb-true, ltb-false}
use Rattle.rules.specs.declared.Opening.{Opening}
use Rattle.rules.specs.declared.Kopecks.{Kopecks}
use Rattle.rules.specs.declared.Cell.{Cell}
use Rattle.rules.specs.declared.Event.{Event}
use Rattle.lists.specs.Lists.{within, All}
use Rattle.rules.specs.Terms.{Terms}
use Rattle.rules.specs.Rows.{row_of}
use Rattle.rules.specs.Cells.{blank_cell, place_of, cell_at}
use Rattle.rules.specs.Lapses.{good_lapse_limit}
use Rattle.rules.specs.Pay.{all_failures, fee}
use Rattle.rules.specs.MessageCalls as M
use Rattle.rules.specs.Calls.{Call, Open, Send, Message, Ask, Commit, Close, Drop, Charge, Withdraw, Look, Report, Outlook, Running, Idle, Quoting, Book, fresh_book, is_open, amend_of}
use Rattle.rules.specs.Causes.{cause, first_number, good_settlement, good_spread_rule, good_charges, row_causes, causes, refusal_of}
use Rattle.rules.specs.Changes.{noted_all, closed_cell, closed, charged, changed}
use Rattle.rules.specs.Book.{step_by, step, run, after}
use Rattle.rules.specs.Histories.{refusals_from}
use Rattle.lists.proofs.Members.{get_d_in, in_set, in_replicate}
use Rattle.rules.proofs.Histories.{run-append}
use Rattle.rules.proofs.Refusals.{within-parts, CallPasses, call_passes}
use Rattle.rules.proofs.Bounds.{bounds, read_bounds, place_small}
use Rattle.requests.specs.DayOrder.{Inside, event, message, ask, commit, look, report, outlook, call_of, Whole, calls_in, joined, place_in, anywhere, Anywhere}
use Rattle.requests.specs.OwnMonth.{SameAlone, CellAsAlone, Apart, Chargeable, refusals_alone, EachAsAlone, MonthAsAlone, AnyOrder}
use Rattle.requests.proofs.DayOrder.{to_end, one_same, left-same, closed_same, fresh-length, fresh_idle, fresh_cell, named, perm_in, lists_same}

-- ---- a cell that is not filled is the blank one

abbrev Blank : Cell → Type 0
Blank c = c.filled ≡ false → c ≡ blank_cell

abbrev Blanks : List Cell → Type 0
Blanks cells = (c : Cell) → Memᴰ c cells → Blank c

blanks_set : (cells : List Cell) (i : ℕ) (x : Cell) → Blanks cells → Blank x → Blanks (set cells i x)
blanks_set cells i x old new c m = ⊎_elim (λ e. subst Blank (sym e) new) (old c) (in_set cells i x m)

blanks_closed : (r : Running) (active passive : Kopecks) (cells : List Cell) → Blanks cells → Blanks (closed r active passive cells)
blanks_closed Idle active passive cells old = old
blanks_closed (Quoting place row opening events) active passive cells old =
    blanks_set cells place (closed_cell row opening events active passive) old (λ h. absurd (true≢false h))

module _ (terms : Terms) where
  blanks_changed : (b : Book) (c : Call) → CallPasses terms b c → Blanks b.cells → Blanks (changed b c).cells
  unfolding changed
  blanks_changed b (Open words day opening) p old = old
  blanks_changed b (Send e) p old = old
  blanks_changed b (Message start bytes) p old = old
  blanks_changed b (Ask a) p old = old
  blanks_changed b (Commit a ticket) p old = old
  blanks_changed b (Close active passive) p old = blanks_closed b.running active passive b.cells old
  blanks_changed b Drop p old = old
  blanks_changed b (Charge day expiry quantum active passive) p old =
      let place = place_of day expiry quantum in
      blanks_set b.cells place (charged active passive (cell_at b.cells place)) old (λ h. absurd (true≢false (sym p.filled ∙ h)))
  blanks_changed b (Withdraw day expiry quantum) p old = blanks_set b.cells (place_of day expiry quantum) blank_cell old (λ h. refl)
  blanks_changed b (Look day expiry quantum) p old = old
  blanks_changed b Report p old = old
  blanks_changed b Outlook p old = old

  blanks_step : (b : Book) (c : Call) → Blanks b.cells → Blanks (step terms b c).cells
  unfolding step
  blanks_step b c old = go (refusal_of terms b c) refl
    where
      go : (n : ℕ) → refusal_of terms b c ≡ n → Blanks (step_by terms n b c).cells
      go zero h = blanks_changed b c (call_passes terms b c h) old
      go (suc n) h = old

  blanks_run : (b : Book) (calls : List Call) → Blanks b.cells → Blanks (run terms b calls).cells
  unfolding run
  blanks_run b [] old = old
  blanks_run b (c ∷ cs) old = blanks_run (step terms b c) cs (blanks_step b c old)

blanks_fresh : Blanks fresh_book.cells
unfolding fresh_book
blanks_fresh c m h = in_replicate 186 blank_cell m

blank_at : (cells : List Cell) (i : ℕ) → Blanks cells → Blank (cell_at cells i)
blank_at cells i all h = go (ltb i (length cells)) refl
  where
    go : (t : Bool) → ltb i (length cells) ≡ t → cell_at cells i ≡ blank_cell
    go true e = all (cell_at cells i) (get_d_in cells i blank_cell (ltb-true i (length cells) e)) h
    go false e = get_or-eq_default cells blank_cell {n = i} (ltb-false i (length cells) e)

blank_after : (terms : Terms) (calls : List Call) (i : ℕ) → Blank (cell_at (after terms calls).cells i)
unfolding after
blank_after terms calls i = blank_at (run terms fresh_book calls).cells i (blanks_run terms fresh_book calls blanks_fresh)

-- ---- the open quantum's place

-- where a quantum is open, it is the one of this place
abbrev At : ℕ → Running → Type 0
At place Idle = Unit {0}
At place (Quoting p row opening events) = (p ≡ place) × (place < 186)

noted-at : (place : ℕ) (r : Running) (es : List Event) → At place r → At place (noted_all r es)
noted-at place Idle es h = tt
noted-at place (Quoting p row opening events) es h = h

inside-at : (place : ℕ) (b : Book) (c : Inside) → At place b.running → At place (changed b (call_of c)).running
unfolding changed
inside-at place b (event e) h = noted-at place b.running (e ∷ []) h
inside-at place b (message start bytes) h = noted-at place b.running (M.events_of start bytes) h
inside-at place b (ask a) h = h
inside-at place b (commit a ticket) h = noted-at place b.running (amend_of a ∷ []) h
inside-at place b (look day expiry quantum) h = h
inside-at place b report h = h
inside-at place b outlook h = h

inside_cells : (b : Book) (c : Inside) → (changed b (call_of c)).cells ≡ b.cells
unfolding changed
inside_cells b (event e) = refl
inside_cells b (message start bytes) = refl
inside_cells b (ask a) = refl
inside_cells b (commit a ticket) = refl
inside_cells b (look day expiry quantum) = refl
inside_cells b report = refl
inside_cells b outlook = refl

module _ (place : ℕ) (active passive : Kopecks) where
  -- a close writes the cell of that place
  closed_here : (r : Running) (cells alone : List Cell) → At place r → length cells ≡ 186 → length alone ≡ 186
      → cell_at cells place ≡ cell_at alone place → cell_at (closed r active passive cells) place ≡ cell_at (closed r active passive alone) place
  closed_here Idle cells alone h l k same = same
  closed_here (Quoting p row opening events) cells alone h l k same = put cells l ∙ sym (put alone k)
    where
      put : (cs : List Cell) → length cs ≡ 186 → cell_at (set cs p (closed_cell row opening events active passive)) place ≡ closed_cell row opening events active passive
      put cs m =
          ap (λ (i : ℕ). cell_at (set cs i (closed_cell row opening events active passive)) place) h.0
          ∙ get_or-set_same cs place (closed_cell row opening events active passive) blank_cell (omega (arith, h.1, m))

  -- and no other
  closed_elsewhere : (r : Running) (cells : List Cell) (i : ℕ) → At place r → place ≢ i → cell_at (closed r active passive cells) i ≡ cell_at cells i
  closed_elsewhere Idle cells i h n = refl
  closed_elsewhere (Quoting p row opening events) cells i h n =
      get_or-set_other cells p i (closed_cell row opening events active passive) blank_cell (λ e. n (sym h.0 ∙ sym e))

-- ---- the same calls on two books

module _ (terms : Terms) where
  -- a call that leaves the cells as they are when it is accepted
  cells_stay : (b : Book) (c : Call) → (changed b c).cells ≡ b.cells → (step terms b c).cells ≡ b.cells
  unfolding step
  cells_stay b c h = go (refusal_of terms b c)
    where
      go : (n : ℕ) → (step_by terms n b c).cells ≡ b.cells
      go zero = h
      go (suc n) = refl

  -- a call that both books refuse by the same number
  module _ (b d : Book) (c : Call) (same : refusal_of terms b c ≡ refusal_of terms d c) where
    running-same : b.running ≡ d.running → (changed b c).running ≡ (changed d c).running → (step terms b c).running ≡ (step terms d c).running
    unfolding step
    running-same r k = ap (λ (n : ℕ). (step_by terms n b c).running) same ∙ go (refusal_of terms d c)
      where
        go : (n : ℕ) → (step_by terms n b c).running ≡ (step_by terms n d c).running
        go zero = k
        go (suc n) = r

    cell_same : (i : ℕ) → cell_at b.cells i ≡ cell_at d.cells i → cell_at (changed b c).cells i ≡ cell_at (changed d c).cells i
        → cell_at (step terms b c).cells i ≡ cell_at (step terms d c).cells i
    unfolding step
    cell_same i r k = ap (λ (n : ℕ). cell_at (step_by terms n b c).cells i) same ∙ go (refusal_of terms d c)
      where
        go : (n : ℕ) → cell_at (step_by terms n b c).cells i ≡ cell_at (step_by terms n d c).cells i
        go zero = k
        go (suc n) = r

  cell_stays : (b : Book) (c : Call) (i : ℕ) → cell_at (changed b c).cells i ≡ cell_at b.cells i → cell_at (step terms b c).cells i ≡ cell_at b.cells i
  unfolding step
  cell_stays b c i h = go (refusal_of terms b c)
    where
      go : (n : ℕ) → cell_at (step_by terms n b c).cells i ≡ cell_at b.cells i
      go zero = h
      go (suc n) = refl

  at_stays : (place : ℕ) (b : Book) (c : Call) → At place b.running → (refusal_of terms b c ≡ 0 → At place (changed b c).running)
      → At place (step terms b c).running
  unfolding step
  at_stays place b c h k = go (refusal_of terms b c) refl
    where
      go : (n : ℕ) → refusal_of terms b c ≡ n → At place (step_by terms n b c).running
      go zero e = k e
      go (suc n) e = h

  module _ (place : ℕ) where
    -- the same quantum open, of that place, and the same cell there
    record Alike (b d : Book) : Type 0 where
      running : b.running ≡ d.running
      here : At place b.running
      cell : cell_at b.cells place ≡ cell_at d.cells place
      long : length b.cells ≡ 186
      alone : length d.cells ≡ 186

    -- what the calls then do
    record Ends (b d : Book) (calls : List Call) : Type 0 where
      refusals : refusals_from terms b calls ≡ refusals_from terms d calls
      running : (run terms b calls).running ≡ (run terms d calls).running
      cell : cell_at (run terms b calls).cells place ≡ cell_at (run terms d calls).cells place
      others : (i : ℕ) → place ≢ i → cell_at (run terms b calls).cells i ≡ cell_at b.cells i

    -- a call that writes no cell, and then the others
    alike_more : (b d : Book) (c : Call) → Alike b d → refusal_of terms b c ≡ refusal_of terms d c → (changed b c).running ≡ (changed d c).running
        → (changed b c).cells ≡ b.cells → (changed d c).cells ≡ d.cells → (refusal_of terms b c ≡ 0 → At place (changed b c).running)
        → Alike (step terms b c) (step terms d c)
    alike_more b d c a same left kept kept-alone at =
        let cells = cells_stay b c kept in
        let alone = cells_stay d c kept-alone in
        record {
          running = running-same b d c same a.running left;
          here = at_stays place b c a.here at;
          cell = ap (λ (l : List Cell). cell_at l place) cells ∙ a.cell ∙ ap (λ (l : List Cell). cell_at l place) (sym alone);
          long = ap length cells ∙ a.long;
          alone = ap length alone ∙ a.alone;
        }

    ends_more : (b d : Book) (c : Call) (cs : List Call) → refusal_of terms b c ≡ refusal_of terms d c → (changed b c).cells ≡ b.cells
        → Ends (step terms b c) (step terms d c) cs → Ends b d (c ∷ cs)
    unfolding run refusals_from
    ends_more b d c cs same kept e =
        let rest = e.refusals in
        record {
          refusals = λ j. same j ∷ rest j;
          running = e.running;
          cell = e.cell;
          others = λ i n. e.others i n ∙ ap (λ (l : List Cell). cell_at l i) (cells_stay b c kept);
        }

    ends_close : (b d : Book) (active passive : Kopecks) → Alike b d → Ends b d (Close active passive ∷ [])
    unfolding run refusals_from changed
    ends_close b d active passive a =
        let c = Close active passive in
        let same = closed_same terms b d a.running active passive in
        let here = closed_here place active passive b.running b.cells d.cells a.here a.long a.alone a.cell in
        record {
          refusals = λ j. same j ∷ [];
          running = running-same b d c same a.running refl;
          cell = cell_same b d c same place a.cell (here ∙ ap (λ (r : Running). cell_at (closed r active passive d.cells) place) a.running);
          others = λ i n. cell_stays b c i (closed_elsewhere place active passive b.running b.cells i a.here n);
        }

    ends-inside : (b d : Book) (active passive : Kopecks) (inside : List Inside) → Alike b d → All (λ (c : Inside). anywhere c ≡ true) inside
        → Ends b d (to_end inside active passive)
    ends-inside b d active passive [] a free = ends_close b d active passive a
    ends-inside b d active passive (c ∷ cs) a free =
        let same = one_same terms b d a.running c free.0 in
        let next =
        alike_more b d (call_of c) a same (left-same terms b d a.running c) (inside_cells b c) (inside_cells d c)
        (λ h. inside-at place b c a.here) in
        ends_more b d (call_of c) (to_end cs active passive) same (inside_cells b c)
        (ends-inside (step terms b (call_of c)) (step terms d (call_of c)) active passive cs next free.1)

  -- ---- the whole quantum

  -- its open is checked against its own cell and whether a quantum is open
  open_same : (b d : Book) (words : List ℕ) (day : ℕ) (opening : Opening) → b.running ≡ d.running
      → cell_at b.cells (place_of day (row_of words).expiry (row_of words).quantum) ≡ cell_at d.cells (place_of day (row_of words).expiry (row_of words).quantum)
      → refusal_of terms b (Open words day opening) ≡ refusal_of terms d (Open words day opening)
  unfolding refusal_of causes
  open_same b d words day opening running cell = λ j.
      first_number
      (row_causes terms opening.spread words
      ++ (cause 3 (not (within 1 31 day && good_settlement opening.spread))
      ∷ cause 4 (cell j).filled
      ∷ cause 6 (is_open (running j))
      ∷ cause 17 (not (good_lapse_limit opening.allowed))
      ∷ cause 18 (not (good_spread_rule opening.spread))
      ∷ []))

  open_at : (b : Book) (q : Whole) → refusal_of terms b (Open q.words q.day q.opening) ≡ 0
      → At (place_in q) (changed b (Open q.words q.day q.opening)).running
  unfolding changed
  open_at b q h =
      let p = call_passes terms b (Open q.words q.day q.opening) h in
      let row = row_of q.words in
      let r = read_bounds terms q.opening.spread row p.row_good in
      (refl, place_small q.day row.expiry row.quantum (within-parts 1 31 q.day p.day_good).1 r.expiry_most r.quantum_most)

  ends-whole : (b d : Book) (q : Whole) → Alike (place_in q) b d → Anywhere q → Ends (place_in q) b d (calls_in q)
  unfolding changed
  ends-whole b d q a free =
      let c = Open q.words q.day q.opening in
      let same = open_same b d q.words q.day q.opening a.running a.cell in
      let next = alike_more (place_in q) b d c a same refl refl refl (open_at b q) in
      ends_more (place_in q) b d c (to_end q.inside q.active q.passive) same refl
      (ends-inside (place_in q) (step terms b c) (step terms d c) q.active q.passive q.inside next free)

  refusals_append : (b : Book) (cs ds : List Call) → refusals_from terms b (cs ++ ds) ≡ refusals_from terms b cs ++ refusals_from terms (run terms b cs) ds
  unfolding refusals_from run
  refusals_append b [] ds = refl
  refusals_append b (c ∷ cs) ds = ap (λ (l : List ℕ). refusal_of terms b c ∷ l) (refusals_append (step terms b c) cs ds)

  pub cell_as_alone : CellAsAlone terms
  unfolding after
  cell_as_alone before q free idle blank =
      let b = run terms fresh_book before in
      let joined = run-append terms fresh_book before (calls_in q) in
      let alike : Alike (place_in q) b fresh_book =
      record {
        running = idle ∙ sym fresh_idle;
        here = subst (At (place_in q)) (sym idle) tt;
        cell = blank_after terms before (place_in q) blank ∙ sym (fresh_cell (place_in q));
        long = (bounds terms before).all_cells;
        alone = fresh-length;
      } in
      let e = ends-whole b fresh_book q alike free in
      record {
        cell = ap (λ (s : Book). cell_at s.cells (place_in q)) joined ∙ e.cell;
        others = λ i n. ap (λ (s : Book). cell_at s.cells i) joined ∙ e.others i n;
        refusals = refusals_append fresh_book before (calls_in q) ∙ ap (λ (l : List ℕ). refusals_from terms fresh_book before ++ l) e.refusals;
        running = ap (λ (s : Book). s.running) joined ∙ e.running;
      }

-- ---- a month of quanta

module _ {A : Type 0} where
  all_both : {P Q R : A → Type 0} (xs : List A) → ((x : A) → P x → Q x → R x) → All P xs → All Q xs → All R xs
  all_both [] f p q = tt
  all_both (x ∷ xs) f p q = (f x p.0 q.0, all_both xs f p.1 q.1)

  all_of : {P : A → Type 0} (xs : List A) → ((x : A) → P x) → All P xs
  all_of [] f = tt
  all_of (x ∷ xs) f = (f x, all_of xs f)

-- with good charges a close is refused only where no quantum is open
close_refused : (good : Bool) (r : Running) (n : ℕ) → good ≡ true → first_number (cause 3 (not good) ∷ cause 7 (not (is_open r)) ∷ []) ≡ suc n → r ≡ Idle
unfolding first_number
close_refused true Idle n e h = refl
close_refused true (Quoting place row opening events) n e h = absurd (omega (arith, h))
close_refused false r n e h = absurd (false≢true e)

module _ (terms : Terms) where
  close_idle : (b : Book) (active passive : Kopecks) → good_charges terms active passive ≡ true → (step terms b (Close active passive)).running ≡ Idle
  unfolding step refusal_of causes changed
  close_idle b active passive good = go (refusal_of terms b (Close active passive)) refl
    where
      go : (n : ℕ) → refusal_of terms b (Close active passive) ≡ n → (step_by terms n b (Close active passive)).running ≡ Idle
      go zero h = refl
      go (suc n) h = close_refused (good_charges terms active passive) b.running n good h

  idle_end : (b : Book) (inside : List Inside) (active passive : Kopecks) → good_charges terms active passive ≡ true
      → (run terms b (to_end inside active passive)).running ≡ Idle
  unfolding run
  idle_end b [] active passive good = close_idle b active passive good
  idle_end b (c ∷ cs) active passive good = idle_end (step terms b (call_of c)) cs active passive good

  idle_after : (before : List Call) (q : Whole) → Chargeable terms q → (after terms (before ++ calls_in q)).running ≡ Idle
  unfolding after run
  idle_after before q good =
      ap (λ (s : Book). s.running) (run-append terms fresh_book before (calls_in q))
      ∙ idle_end (step terms (run terms fresh_book before) (Open q.words q.day q.opening)) q.inside q.active q.passive good

  -- quanta after any calls that leave none open
  record Month (before : List Call) (qs : List Whole) : Type 0 where
    cells : {p : Whole} → Memᴰ p qs
        → cell_at (after terms (before ++ joined qs)).cells (place_in p) ≡ cell_at (after terms (calls_in p)).cells (place_in p)
    others : (i : ℕ) → All (λ (q : Whole). place_in q ≢ i) qs → cell_at (after terms (before ++ joined qs)).cells i ≡ cell_at (after terms before).cells i
    refusals : refusals_from terms fresh_book (before ++ joined qs) ≡ refusals_from terms fresh_book before ++ refusals_alone terms qs
    idle : (after terms (before ++ joined qs)).running ≡ Idle

  abbrev BlankAfter : List Call → Whole → Type 0
  BlankAfter before q = (cell_at (after terms before).cells (place_in q)).filled ≡ false

  month-none : (before : List Call) → (after terms before).running ≡ Idle → Month before []
  unfolding joined refusals_alone
  month-none before idle =
      record {
        cells = λ {p} m. absurd (Memᴰ.not-nil m);
        others = λ i n. ap (λ (l : List Call). cell_at (after terms l).cells i) (append-nil before);
        refusals = ap (refusals_from terms fresh_book) (append-nil before) ∙ sym (append-nil (refusals_from terms fresh_book before));
        idle = ap (λ (l : List Call). (after terms l).running) (append-nil before) ∙ idle;
      }

  month-more : (before : List Call) (q : Whole) (qs : List Whole) → Apart (q ∷ qs) → SameAlone terms before q → Month (before ++ calls_in q) qs
      → Month before (q ∷ qs)
  unfolding joined refusals_alone
  month-more before q qs apart first rest =
      let longer = sym (append_assoc before (calls_in q) (joined qs)) in
      let alone = refusals_from terms fresh_book (calls_in q) in
      record {
        cells = λ {p} m. ap (λ (l : List Call). cell_at (after terms l).cells (place_in p)) longer ∙ found m;
        others = λ i n. ap (λ (l : List Call). cell_at (after terms l).cells i) longer ∙ rest.others i n.1 ∙ first.others i n.0;
        refusals =
            ap (refusals_from terms fresh_book) longer
            ∙ rest.refusals
            ∙ ap (λ (l : List ℕ). l ++ refusals_alone terms qs) first.refusals
            ∙ append_assoc (refusals_from terms fresh_book before) alone (refusals_alone terms qs);
        idle = ap (λ (l : List Call). (after terms l).running) longer ∙ rest.idle;
      }
    where
      elsewhere : All (λ (p : Whole). place_in p ≢ place_in q) qs
      elsewhere = all_both qs (λ p n m e. n (sym e)) apart.0 apart.0

      found : {p : Whole} → Memᴰ p (q ∷ qs)
          → cell_at (after terms ((before ++ calls_in q) ++ joined qs)).cells (place_in p) ≡ cell_at (after terms (calls_in p)).cells (place_in p)
      found (Memᴰ.head e) =
          subst (λ (x : Whole). cell_at (after terms ((before ++ calls_in q) ++ joined qs)).cells (place_in x) ≡ cell_at (after terms (calls_in x)).cells (place_in x))
          (sym e) (rest.others (place_in q) elsewhere ∙ first.cell)
      found (Memᴰ.tail m) = rest.cells m

  month : (before : List Call) (qs : List Whole) → (after terms before).running ≡ Idle → All (BlankAfter before) qs → All Anywhere qs
      → All (Chargeable terms) qs → Apart qs → Month before qs
  month before [] idle blank free good apart = month-none before idle
  month before (q ∷ qs) idle blank free good apart =
      let first = cell_as_alone terms before q free.0 idle blank.0 in
      let still = all_both qs (λ p n h. ap (λ (c : Cell). c.filled) (first.others (place_in p) n) ∙ h) apart.0 blank.1 in
      month-more before q qs apart first
      (month (before ++ calls_in q) qs (idle_after before q good.0) still free.1 good.1 apart.1)

  pub each_as_alone : EachAsAlone terms
  unfolding after run refusals_from
  each_as_alone qs free good apart =
      let m = month [] qs fresh_idle (all_of qs (λ q. ap (λ (c : Cell). c.filled) (fresh_cell (place_in q)))) free good apart in
      record {
        cells = λ q h. m.cells h;
        others = λ i n. m.others i n ∙ fresh_cell i;
        refusals = m.refusals;
        idle = m.idle;
      }

-- ---- in any order

module _ {A : Type 0} where
  all_in : (P : A → Type 0) {x : A} {xs : List A} → All P xs → Memᴰ x xs → P x
  all_in P h (Memᴰ.head e) = subst P (sym e) h.0
  all_in P h (Memᴰ.tail m) = all_in P h.1 m

  in_all : {P : A → Type 0} (xs : List A) → ((x : A) → Memᴰ x xs → P x) → All P xs
  in_all [] h = tt
  in_all (x ∷ xs) h = (h x (Memᴰ.head refl), in_all xs (λ y m. h y (Memᴰ.tail m)))

  all_perm : (P : A → Type 0) {xs ys : List A} → Permᴰ xs ys → All P xs → All P ys
  all_perm P {xs} {ys} p h = in_all ys (λ x m. all_in P h (perm_in (Permᴰ.symm p) m))

-- none of them names the place of this one
abbrev Off : Whole → List Whole → Type 0
Off q qs = All (λ (p : Whole). place_in q ≢ place_in p) qs

off_perm : {q r : Whole} {xs ys : List Whole} → q ≡ r → Permᴰ xs ys → Off q xs → Off r ys
off_perm {q} {r} {xs} {ys} e p h = subst (λ (w : Whole). Off w ys) e (all_perm (λ (x : Whole). place_in q ≢ place_in x) p h)

apart_perm : {xs ys : List Whole} → Permᴰ xs ys → Apart xs → Apart ys
apart_perm Permᴰ.nil a = a
apart_perm (Permᴰ.cons e p) a = (off_perm e p a.0, apart_perm p a.1)
apart_perm (Permᴰ.swap {l} e f) a = (
  (λ h. a.0.0 (ap place_in e ∙ sym h ∙ sym (ap place_in f)), subst (λ (z : Whole). Off z l) f a.1.0),
  (subst (λ (z : Whole). Off z l) e a.0.1, a.1.1),
)
apart_perm (Permᴰ.trans p q) a = apart_perm q (apart_perm p a)

module _ (terms : Terms) where
  same_at : (first second : List Whole) → Permᴰ first second → MonthAsAlone terms first → MonthAsAlone terms second
      → (i : ℕ) → cell_at (after terms (joined first)).cells i ≡ cell_at (after terms (joined second)).cells i
  same_at first second p f s i = go (named first i)
    where
      go : ((q : Whole) × Memᴰ q first × (place_in q ≡ i)) ⊎ ((q : Whole) → Memᴰ q first → place_in q ≢ i)
          → cell_at (after terms (joined first)).cells i ≡ cell_at (after terms (joined second)).cells i
      go (inl (q, m, e)) =
          subst (λ (k : ℕ). cell_at (after terms (joined first)).cells k ≡ cell_at (after terms (joined second)).cells k) e
          (f.cells q m ∙ sym (s.cells q (perm_in p m)))
      go (inr none) = f.others i (in_all first none) ∙ sym (s.others i (in_all second (λ q m. none q (perm_in (Permᴰ.symm p) m))))

  pub any_order : AnyOrder terms
  any_order first second p free good apart =
      let f = each_as_alone terms first free good apart in
      let s = each_as_alone terms second (all_perm Anywhere p free) (all_perm (Chargeable terms) p good) (apart_perm p apart) in
      let long = (bounds terms (joined first)).all_cells ∙ sym (bounds terms (joined second)).all_cells in
      let same = lists_same (after terms (joined first)).cells (after terms (joined second)).cells blank_cell long (same_at first second p f s) in
      record { cells = same; failures = ap (all_failures terms) same; fee = ap (fee terms) same }
