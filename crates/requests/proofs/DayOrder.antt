-- The theorem: whole quanta filled in another order leave the same book. A whole quantum that is not refused does one thing to the book,
-- told by its own calls alone: it puts a filled cell into a blank place. So each place holds the cell of the quantum that names it, in
-- whatever order they came.
use Rattle.std.specs.Prelude.{if◌then◌else◌}
use Prim.Native.Nat.{ℕ, zero, suc, ◌+◌, ◌≤◌, ◌<◌}
use native.Mathlib.Omega.{arith}
use mathlib.Core.Path.{◌≡◌, refl, sym, ap, ◌∙◌, subst}
use mathlib.Core.Logic.{◌≢◌, ◌⊎◌, inl, inr}
use mathlib.Core.List.Memᴰ
use mathlib.Core.List.Permᴰ
use mathlib.Core.List.{List, [], ◌∷◌, ◌++◌, map, append_assoc, append-nil, Memᴰ, Permᴰ}
use mathlib.Core.Bool.{Bool, true, false, true≢false, false≢true, not}
use lib.Dec.{eqb}
use lib.ListN.{length, get_or, set, drop, replicate, length-set, length-replicate}
use lib.Seq.{get_or-set_same, get_or-set_other}
use borrow.Author.Tests.{eqb-true, eq-eqb, eqb-false}
use Rattle.rules.specs.declared.Opening.{Opening}
use Rattle.rules.specs.declared.Kopecks.{Kopecks}
use Rattle.rules.specs.declared.Row.{Row}
use Rattle.rules.specs.declared.Cell.{Cell}
use Rattle.rules.specs.declared.Event.{Event}
use Rattle.lists.specs.Lists.{sum, All}
use Rattle.rules.specs.Terms.{Terms}
use Rattle.rules.specs.Rows.{row_of}
use Rattle.rules.specs.Cells.{blank_cell, place_of, cell_at}
use Rattle.rules.specs.Pay.{all_failures, fee}
use Rattle.rules.specs.MessageCalls.{message_in}
use Rattle.rules.specs.MessageCalls as M
use Rattle.rules.specs.Calls.{Call, Open, Close, counts, Running, Idle, Quoting, Book, fresh_book, is_open, amend_of}
use Rattle.rules.specs.Causes.{cause, first_number, send_causes, message_causes, good_charges, causes, refusal_of}
use Rattle.rules.specs.Changes.{noted, noted_all, closed_cell, following, count_after, changed}
use Rattle.rules.specs.Book.{step, run, after}
use Rattle.rules.specs.Histories.{refusals_from, NoneRefused}
use Rattle.requests.specs.DayOrder.{Inside, event, message, ask, commit, look, report, outlook, call_of, Whole, calls_in, joined, place_in, events_of, events_in, cell_in, counted_in, filed_by, Filed, Rearranged, anywhere, Anywhere, AcceptedToo}
use Rattle.rules.proofs.Histories.{run-append, none-parts, parts_none}
use Rattle.rules.proofs.Refusals.{within-parts, OpenPasses, call_passes, passes_call, step-accepted}
use Rattle.rules.proofs.Bounds.{read_bounds, place_small}

-- ---- a list of accepted calls

-- each call taken as accepted
abbrev taken : Book → List Call → Book
taken b [] = b
taken b (c ∷ cs) = taken (changed b c) cs

-- some calls counted, and then more
count_more : (m n count : ℕ) → count_after (m + n) count ≡ count_after n (count_after m count)
count_more zero n count = let e : 0 + n ≡ n = omega arith in ap (λ (k : ℕ). count_after k count) e
count_more (suc m) n count =
    let e : suc m + n ≡ suc (m + n) = omega arith in
    ap (λ (k : ℕ). count_after k count) e ∙ count_more m n (following count)

abbrev pub to_end : List Inside → Kopecks → Kopecks → List Call
to_end inside active passive = map call_of inside ++ (Close active passive ∷ [])

module _ (place : ℕ) (row : Row) (opening : Opening) where
  abbrev during : List Event → List Cell → ℕ → Book
  during es cells count = record { running = Quoting place row opening es; cells = cells; count = count }

  -- an accepted call inside adds its events
  taken-one : (es : List Event) (cells : List Cell) (count : ℕ) (c : Inside)
      → changed (during es cells count) (call_of c) ≡ during (es ++ events_of c) cells (count_after (counts (call_of c)) count)
  unfolding changed
  taken-one es cells count (event e) = refl
  taken-one es cells count (message start bytes) = refl
  taken-one es cells count (ask a) = ap (λ (x : List Event). during x cells count) (sym (append-nil es))
  taken-one es cells count (commit a ticket) = refl
  taken-one es cells count (look day expiry quantum) = ap (λ (x : List Event). during x cells count) (sym (append-nil es))
  taken-one es cells count report = ap (λ (x : List Event). during x cells count) (sym (append-nil es))
  taken-one es cells count outlook = ap (λ (x : List Event). during x cells count) (sym (append-nil es))

  module _ (active passive : Kopecks) where
    -- with these events the close's cell, and the count
    abbrev ended : List Cell → List Event → ℕ → Book
    ended cells es count =
        record { running = Idle; cells = set cells place (closed_cell row opening es active passive); count = count }

    taken-inside : (es : List Event) (cells : List Cell) (count : ℕ) (inside : List Inside)
        → taken (during es cells count) (to_end inside active passive)
        ≡ ended cells (es ++ events_in inside) (count_after (sum (map counts (to_end inside active passive))) count)
    unfolding changed events_in sum
    taken-inside es cells count [] = ap (λ (x : List Event). ended cells x (following count)) (sym (append-nil es))
    taken-inside es cells count (c ∷ cs) =
        let counted = count_after (counts (call_of c)) count in
        let events = append_assoc es (events_of c) (events_in cs) in
        let number = sym (count_more (counts (call_of c)) (sum (map counts (to_end cs active passive))) count) in
        ap (λ (b : Book). taken b (to_end cs active passive)) (taken-one es cells count c)
        ∙ taken-inside (es ++ events_of c) cells counted cs
        ∙ λ i. ended cells (events i) (number i)

taken-whole : (b : Book) (q : Whole) → taken b (calls_in q) ≡ filed_by b q
unfolding changed sum
taken-whole b q =
    let inside = to_end q.inside q.active q.passive in
    let number = sym (count_more 1 (sum (map counts inside)) b.count) in
    taken-inside (place_in q) (row_of q.words) q.opening q.active q.passive [] b.cells (following b.count) q.inside
    ∙ λ i. record { running = Idle; cells = set b.cells (place_in q) (cell_in q); count = number i }

-- ---- the heart

module _ (terms : Terms) where
  abbrev Accepted : Book → List Call → Type 0
  Accepted b [] = Unit {0}
  Accepted b (c ∷ cs) = (refusal_of terms b c ≡ 0) × Accepted (changed b c) cs

  accepted_of : (b : Book) (cs : List Call) → NoneRefused terms b cs → Accepted b cs
  accepted_of b [] h = tt
  accepted_of b (c ∷ cs) h =
      (h.0, accepted_of (changed b c) cs (subst (λ (x : Book). NoneRefused terms x cs) (step-accepted terms b c h.0) h.1))

  of_accepted : (b : Book) (cs : List Call) → Accepted b cs → NoneRefused terms b cs
  of_accepted b [] h = tt
  of_accepted b (c ∷ cs) h =
      (h.0, subst (λ (x : Book). NoneRefused terms x cs) (sym (step-accepted terms b c h.0)) (of_accepted (changed b c) cs h.1))

  run-taken : (b : Book) (cs : List Call) → Accepted b cs → run terms b cs ≡ taken b cs
  unfolding run
  run-taken b [] h = refl
  run-taken b (c ∷ cs) h = ap (λ (x : Book). run terms x cs) (step-accepted terms b c h.0) ∙ run-taken (changed b c) cs h.1

  pub filed : (b : Book) (q : Whole) → NoneRefused terms b (calls_in q) → Filed terms b q
  filed b q h =
      let p = call_passes terms b (Open q.words q.day q.opening) h.0 in
      let row = row_of q.words in
      let r = read_bounds terms q.opening.spread row p.row_good in
      record {
        inside = place_small q.day row.expiry row.quantum (within-parts 1 31 q.day p.day_good).1 r.expiry_most r.quantum_most;
        blank = p.blank;
        filled = refl;
        book = run-taken b (calls_in q) (accepted_of b (calls_in q) h) ∙ taken-whole b q;
      }

-- what is refused nowhere, by the numbers
pub zeros_accepted : (terms : Terms) (b : Book) (calls : List Call) → refusals_from terms b calls ≡ replicate (length calls) 0 → NoneRefused terms b calls
unfolding refusals_from
zeros_accepted terms b [] h = tt
zeros_accepted terms b (c ∷ cs) h =
    (ap (λ (ns : List ℕ). get_or ns 0 0) h, zeros_accepted terms (step terms b c) cs (ap (λ (ns : List ℕ). drop 1 ns) h))

pub accepted_zeros : (terms : Terms) (b : Book) (calls : List Call) → NoneRefused terms b calls → refusals_from terms b calls ≡ replicate (length calls) 0
unfolding refusals_from
accepted_zeros terms b [] h = refl
accepted_zeros terms b (c ∷ cs) h =
    let first = h.0 in
    let rest = accepted_zeros terms (step terms b c) cs h.1 in
    λ i. first i ∷ rest i

-- ---- quanta one after the other

filed_all : Book → List Whole → Book
filed_all b [] = b
filed_all b (q ∷ qs) = filed_all (filed_by b q) qs

-- each finds its place blank
pub record Fit (b : Book) (q : Whole) : Type 0 where
  pub inside : place_in q < 186
  pub blank : (cell_at b.cells (place_in q)).filled ≡ false

abbrev Fits : Book → List Whole → Type 0
Fits b [] = Unit {0}
Fits b (q ∷ qs) = Fit b q × Fits (filed_by b q) qs

module _ (terms : Terms) where
  fit_of : (b : Book) (q : Whole) → Filed terms b q → Fit b q
  fit_of b q f = record { inside = f.inside; blank = f.blank }

  fits_of : (b : Book) (qs : List Whole) → NoneRefused terms b (joined qs) → Fits b qs × (run terms b (joined qs) ≡ filed_all b qs)
  unfolding joined filed_all run
  fits_of b [] h = (tt, refl)
  fits_of b (q ∷ qs) h =
      let (x, y) = none-parts terms b (calls_in q) (joined qs) h in
      let f = filed terms b q x in
      let (z, same) = fits_of (filed_by b q) qs (subst (λ (c : Book). NoneRefused terms c (joined qs)) f.book y) in (
        (fit_of b q f, z),
        run-append terms b (calls_in q) (joined qs) ∙ ap (λ (c : Book). run terms c (joined qs)) f.book ∙ same,
      )

filed_length : (b : Book) (q : Whole) → length (filed_by b q).cells ≡ length b.cells
filed_length b q = length-set b.cells (place_in q) (cell_in q)

all-length : (b : Book) (qs : List Whole) → length (filed_all b qs).cells ≡ length b.cells
unfolding filed_all
all-length b [] = refl
all-length b (q ∷ qs) = all-length (filed_by b q) qs ∙ filed_length b q

-- a place that the quantum does not name
elsewhere : (b : Book) (q : Whole) (i : ℕ) → place_in q ≢ i → cell_at (filed_by b q).cells i ≡ cell_at b.cells i
elsewhere b q i differs = get_or-set_other b.cells (place_in q) i (cell_in q) blank_cell (λ e. differs (sym e))

-- a filled cell stays as it is
stays : (b : Book) (qs : List Whole) (i : ℕ) → Fits b qs → (cell_at b.cells i).filled ≡ true
    → cell_at (filed_all b qs).cells i ≡ cell_at b.cells i
unfolding filed_all
stays b [] i f h = refl
stays b (q ∷ qs) i f h = stays (filed_by b q) qs i f.1 (ap (λ (c : Cell). c.filled) other ∙ h) ∙ other
  where
    other : cell_at (filed_by b q).cells i ≡ cell_at b.cells i
    other = elsewhere b q i (λ e. true≢false (sym h ∙ ap (λ (k : ℕ). (cell_at b.cells k).filled) (sym e) ∙ f.0.blank))

-- each quantum's place holds its cell
lands : {q : Whole} {qs : List Whole} (b : Book) → length b.cells ≡ 186 → Fits b qs → Memᴰ q qs
    → cell_at (filed_all b qs).cells (place_in q) ≡ cell_in q
unfolding filed_all
lands {q} b l f (Memᴰ.head {x = p} {xs = qs} e) = subst (λ (x : Whole). cell_at (filed_all (filed_by b p) qs).cells (place_in x) ≡ cell_in x) (sym e) (kept ∙ put)
  where
    put : cell_at (filed_by b p).cells (place_in p) ≡ cell_in p
    put = get_or-set_same b.cells (place_in p) (cell_in p) blank_cell (omega (arith, f.0.inside, l))

    kept : cell_at (filed_all (filed_by b p) qs).cells (place_in p) ≡ cell_at (filed_by b p).cells (place_in p)
    kept = stays (filed_by b p) qs (place_in p) f.1 (ap (λ (c : Cell). c.filled) put)
lands {q} b l f (Memᴰ.tail {x = p} {xs = qs} m) = lands (filed_by b p) (filed_length b p ∙ l) f.1 m

-- a place that none names is as it was
untouched : (b : Book) (qs : List Whole) (i : ℕ) → ((q : Whole) → Memᴰ q qs → place_in q ≢ i)
    → cell_at (filed_all b qs).cells i ≡ cell_at b.cells i
unfolding filed_all
untouched b [] i none = refl
untouched b (q ∷ qs) i none =
    untouched (filed_by b q) qs i (λ p m. none p (Memᴰ.tail m)) ∙ elsewhere b q i (none q (Memᴰ.head refl))

pub named : (qs : List Whole) (i : ℕ)
    → ((q : Whole) × Memᴰ q qs × (place_in q ≡ i)) ⊎ ((q : Whole) → Memᴰ q qs → place_in q ≢ i)
named [] i = inr (λ q m. absurd (Memᴰ.not-nil m))
named (p ∷ qs) i = go (eqb (place_in p) i) refl (named qs i)
  where
    further : place_in p ≢ i → ((q : Whole) → Memᴰ q qs → place_in q ≢ i) → {q : Whole} → Memᴰ q (p ∷ qs) → place_in q ≢ i
    further n none (Memᴰ.head e) = λ h. n (sym (ap place_in e) ∙ h)
    further n none (Memᴰ.tail m) = none _ m

    go : (b : Bool) → eqb (place_in p) i ≡ b → ((q : Whole) × Memᴰ q qs × (place_in q ≡ i)) ⊎ ((q : Whole) → Memᴰ q qs → place_in q ≢ i)
        → ((q : Whole) × Memᴰ q (p ∷ qs) × (place_in q ≡ i)) ⊎ ((q : Whole) → Memᴰ q (p ∷ qs) → place_in q ≢ i)
    go true e r = inl (p, Memᴰ.head refl, eqb-true (place_in p) i e)
    go false e (inl (q, m, h)) = inl (q, Memᴰ.tail m, h)
    go false e (inr none) = inr (λ q m. further (eqb-false (place_in p) i e) none m)

-- ---- permutations

module _ {A : Type 0} where
  pub perm_in : {x : A} {xs ys : List A} → Permᴰ xs ys → Memᴰ x xs → Memᴰ x ys
  perm_in Permᴰ.nil m = m
  perm_in (Permᴰ.cons e p) (Memᴰ.head q) = Memᴰ.head (q ∙ e)
  perm_in (Permᴰ.cons e p) (Memᴰ.tail m) = Memᴰ.tail (perm_in p m)
  perm_in (Permᴰ.swap e f) (Memᴰ.head q) = Memᴰ.tail (Memᴰ.head (q ∙ e))
  perm_in (Permᴰ.swap e f) (Memᴰ.tail (Memᴰ.head q)) = Memᴰ.head (q ∙ f)
  perm_in (Permᴰ.swap e f) (Memᴰ.tail (Memᴰ.tail m)) = Memᴰ.tail (Memᴰ.tail m)
  perm_in (Permᴰ.trans p q) m = perm_in q (perm_in p m)

  -- a sum does not depend on the order
  perm_sum : (f : A → ℕ) {xs ys : List A} → Permᴰ xs ys → sum (map f xs) ≡ sum (map f ys)
  unfolding sum
  perm_sum f Permᴰ.nil = refl
  perm_sum f (Permᴰ.cons e p) = omega (arith, ap f e, perm_sum f p)
  perm_sum f (Permᴰ.swap e g) = omega (arith, ap f e, ap f g)
  perm_sum f (Permᴰ.trans p q) = perm_sum f p ∙ perm_sum f q

  -- two lists with the same elements at the same places
  pub lists_same : (xs ys : List A) (d : A) → length xs ≡ length ys → ((i : ℕ) → get_or xs i d ≡ get_or ys i d) → xs ≡ ys
  lists_same [] [] d l h = refl
  lists_same [] (y ∷ ys) d l h = absurd (omega (arith, l))
  lists_same (x ∷ xs) [] d l h = absurd (omega (arith, l))
  lists_same (x ∷ xs) (y ∷ ys) d l h =
      let rest : length xs ≡ length ys = omega (arith, l) in
      let front = h 0 in
      let behind = lists_same xs ys d rest (λ i. h (suc i)) in
      λ i. front i ∷ behind i

-- ---- the theorem

all-counted : (b : Book) (qs : List Whole) → (filed_all b qs).count ≡ count_after (sum (map counted_in qs)) b.count
unfolding filed_all sum
all-counted b [] = refl
all-counted b (q ∷ qs) = all-counted (filed_by b q) qs ∙ sym (count_more (counted_in q) (sum (map counted_in qs)) b.count)

all_idle : (b : Book) (qs : List Whole) → b.running ≡ Idle → (filed_all b qs).running ≡ Idle
unfolding filed_all
all_idle b [] h = h
all_idle b (q ∷ qs) h = all_idle (filed_by b q) qs refl

module _ (b : Book) (l : length b.cells ≡ 186) (idle : b.running ≡ Idle) (first second : List Whole)
    (f : Fits b first) (s : Fits b second) (p : Permᴰ first second) where
  same_at : (i : ℕ) → cell_at (filed_all b first).cells i ≡ cell_at (filed_all b second).cells i
  same_at i = go (named first i)
    where
      go : ((q : Whole) × Memᴰ q first × (place_in q ≡ i)) ⊎ ((q : Whole) → Memᴰ q first → place_in q ≢ i)
          → cell_at (filed_all b first).cells i ≡ cell_at (filed_all b second).cells i
      go (inl (q, m, e)) =
          subst (λ (k : ℕ). cell_at (filed_all b first).cells k ≡ cell_at (filed_all b second).cells k) e
          (lands b l f m ∙ sym (lands b l s (perm_in p m)))
      go (inr none) =
          untouched b first i none ∙ sym (untouched b second i (λ q m. none q (perm_in (Permᴰ.symm p) m)))

  same_filed : filed_all b first ≡ filed_all b second
  same_filed =
      let running = all_idle b first idle ∙ sym (all_idle b second idle) in
      let cells = lists_same (filed_all b first).cells (filed_all b second).cells blank_cell (all-length b first ∙ sym (all-length b second)) same_at in
      let count = all-counted b first ∙ ap (λ (n : ℕ). count_after n b.count) (perm_sum counted_in p) ∙ sym (all-counted b second) in
      λ i. record { running = running i; cells = cells i; count = count i }

pub fresh-length : length fresh_book.cells ≡ 186
unfolding fresh_book
fresh-length = length-replicate 186 blank_cell

pub fresh_idle : fresh_book.running ≡ Idle
unfolding fresh_book
fresh_idle = refl

pub rearranged : (terms : Terms) → Rearranged terms
unfolding after
rearranged terms first second h p k =
    let (f, is) = fits_of terms fresh_book first h in
    let (s, too) = fits_of terms fresh_book second k in
    let same = is ∙ same_filed fresh_book fresh-length fresh_idle first second f s p ∙ sym too in
    record {
      book = same;
      idle = ap (λ (b : Book). b.running) is ∙ all_idle fresh_book first fresh_idle;
      cells = ap (λ (b : Book). b.cells) same;
      failures = ap (λ (b : Book). all_failures terms b.cells) same;
      fee = ap (λ (b : Book). fee terms b.cells) same;
    }

-- ---- with neither a commit nor a look, the other order is not refused either

module _ (terms : Terms) where
  -- such a call is decided by the open quantum alone
  pub one_same : (b d : Book) → b.running ≡ d.running → (c : Inside) → anywhere c ≡ true
      → refusal_of terms b (call_of c) ≡ refusal_of terms d (call_of c)
  unfolding refusal_of causes
  one_same b d same (event e) h = ap (λ (r : Running). first_number (send_causes r e)) same
  one_same b d same (message start bytes) h = ap (λ (r : Running). first_number (message_causes r (message_in start bytes))) same
  one_same b d same (ask a) h = ap (λ (r : Running). first_number (send_causes r (amend_of a))) same
  one_same b d same (commit a ticket) h = absurd (false≢true h)
  one_same b d same (look day expiry quantum) h = absurd (false≢true h)
  one_same b d same report h = refl
  one_same b d same outlook h = ap (λ (r : Running). first_number (cause 7 (not (is_open r)) ∷ [])) same

  -- and leaves the same one open
  pub left-same : (b d : Book) → b.running ≡ d.running → (c : Inside) → (changed b (call_of c)).running ≡ (changed d (call_of c)).running
  unfolding changed
  left-same b d same (event e) = ap (λ (r : Running). noted r e) same
  left-same b d same (message start bytes) = ap (λ (r : Running). noted_all r (M.events_of start bytes)) same
  left-same b d same (ask a) = same
  left-same b d same (commit a ticket) = ap (λ (r : Running). noted r (amend_of a)) same
  left-same b d same (look day expiry quantum) = same
  left-same b d same report = same
  left-same b d same outlook = same

  pub closed_same : (b d : Book) → b.running ≡ d.running → (active passive : Kopecks)
      → refusal_of terms b (Close active passive) ≡ refusal_of terms d (Close active passive)
  unfolding refusal_of causes
  closed_same b d same active passive =
      ap (λ (r : Running). first_number (cause 3 (not (good_charges terms active passive)) ∷ cause 7 (not (is_open r)) ∷ [])) same

  inside_too : (b d : Book) (active passive : Kopecks) (inside : List Inside) → b.running ≡ d.running
      → All (λ (c : Inside). anywhere c ≡ true) inside → Accepted terms b (to_end inside active passive) → Accepted terms d (to_end inside active passive)
  inside_too b d active passive [] same a k = (sym (closed_same b d same active passive) ∙ k.0, tt)
  inside_too b d active passive (c ∷ cs) same a k = (
    sym (one_same b d same c a.0) ∙ k.0,
    inside_too (changed b (call_of c)) (changed d (call_of c)) active passive cs (left-same b d same c) a.1 k.1,
  )

  open_too : (b d : Book) (words : List ℕ) (day : ℕ) (opening : Opening) → is_open d.running ≡ false
      → (cell_at d.cells (place_of day (row_of words).expiry (row_of words).quantum)).filled ≡ false
      → OpenPasses terms b words day opening → OpenPasses terms d words day opening
  open_too b d words day opening idle blank p =
      record {
        seven = p.seven;
        row_good = p.row_good;
        day_good = p.day_good;
        price_good = p.price_good;
        blank = blank;
        idle = idle;
        allowed_good = p.allowed_good;
        spread_good = p.spread_good;
      }

  -- it is accepted by every book with no quantum open and its place blank
  whole_too : (b d : Book) (q : Whole) → Anywhere q → NoneRefused terms b (calls_in q) → d.running ≡ Idle
      → (cell_at d.cells (place_in q)).filled ≡ false → NoneRefused terms d (calls_in q)
  unfolding changed
  whole_too b d q a n idle blank =
      let c = Open q.words q.day q.opening in
      let k = accepted_of terms b (calls_in q) n in
      of_accepted terms d (calls_in q) (
        passes_call terms d c (open_too b d q.words q.day q.opening (ap is_open idle) blank (call_passes terms b c k.0)),
        inside_too (changed b c) (changed d c) q.active q.passive q.inside refl a k.1,
      )

-- how many quanta name a place, the one whose cell is there included: at most one
abbrev one : Bool → ℕ
one b = if b then 1 else 0

abbrev names : ℕ → Whole → ℕ
names i q = one (eqb (place_in q) i)

abbrev Room : Book → List Whole → Type 0
Room b qs = (i : ℕ) → one (cell_at b.cells i).filled + sum (map (names i) qs) ≤ 1

one_small : (b : Bool) → one b ≤ 1
one_small true = omega arith
one_small false = omega arith

one_none : (b : Bool) → one b ≤ 0 → b ≡ false
one_none true h = absurd (omega (arith, h))
one_none false h = refl

one_more : (b : Book) (q : Whole) (i : ℕ) → length b.cells ≡ 186 → Fit b q
    → one (cell_at (filed_by b q).cells i).filled ≡ one (cell_at b.cells i).filled + names i q
one_more b q i l f = go (eqb (place_in q) i) refl
  where
    go : (t : Bool) → eqb (place_in q) i ≡ t → one (cell_at (filed_by b q).cells i).filled ≡ one (cell_at b.cells i).filled + one t
    go true e =
        let here = eqb-true (place_in q) i e in
        let put = get_or-set_same b.cells (place_in q) (cell_in q) blank_cell (omega (arith, f.inside, l)) in
        subst (λ (k : ℕ). one (cell_at (filed_by b q).cells k).filled ≡ one (cell_at b.cells k).filled + 1) here
        (ap (λ (c : Cell). one c.filled) put ∙ sym (ap (λ (t : Bool). one t + 1) f.blank))
    go false e =
        let same = ap (λ (c : Cell). one c.filled) (elsewhere b q i (eqb-false (place_in q) i e)) in
        omega (arith, same)

fits_room : (b : Book) (qs : List Whole) → length b.cells ≡ 186 → Fits b qs → Room b qs
unfolding sum
fits_room b [] l f i = omega (arith, one_small (cell_at b.cells i).filled)
fits_room b (q ∷ qs) l f i =
    omega (arith, fits_room (filed_by b q) qs (filed_length b q ∙ l) f.1 i, one_more b q i l f.0)

-- a quantum with neither, accepted by a fresh book
pub record Own (terms : Terms) (q : Whole) : Type 0 where
  pub free : Anywhere q
  pub accepted : NoneRefused terms fresh_book (calls_in q)

pub fresh_cell : (i : ℕ) → cell_at fresh_book.cells i ≡ blank_cell
unfolding fresh_book
fresh_cell i = blank_at 186 i
  where
    blank_at : (n i : ℕ) → get_or (replicate n blank_cell) i blank_cell ≡ blank_cell
    blank_at zero i = refl
    blank_at (suc n) zero = refl
    blank_at (suc n) (suc i) = blank_at n i

fresh_blank : (i : ℕ) → (cell_at fresh_book.cells i).filled ≡ false
fresh_blank i = ap (λ (c : Cell). c.filled) (fresh_cell i)

module _ (terms : Terms) where
  owns : (b : Book) (qs : List Whole) → All Anywhere qs → NoneRefused terms b (joined qs) → {q : Whole} → Memᴰ q qs → Own terms q
  unfolding joined
  owns b [] a n m = absurd (Memᴰ.not-nil m)
  owns b (p ∷ qs) a n {q} (Memᴰ.head e) =
      let x = (none-parts terms b (calls_in p) (joined qs) n).0 in
      subst (Own terms) (sym e)
      (record { free = a.0; accepted = whole_too terms b fresh_book p a.0 x fresh_idle (fresh_blank (place_in p)) })
  owns b (p ∷ qs) a n (Memᴰ.tail m) =
      owns (run terms b (calls_in p)) qs a.1 (none-parts terms b (calls_in p) (joined qs) n).1 m

  room_accepts : (b : Book) (qs : List Whole) → length b.cells ≡ 186 → b.running ≡ Idle → Room b qs
      → ((q : Whole) → Memᴰ q qs → Own terms q) → NoneRefused terms b (joined qs)
  unfolding joined sum
  room_accepts b [] l idle r o = tt
  room_accepts b (q ∷ qs) l idle r o =
      let own = o q (Memᴰ.head refl) in
      let itself = ap one (eq-eqb (place_in q) (place_in q) refl) in
      let blank = one_none (cell_at b.cells (place_in q)).filled (omega (arith, r (place_in q), itself)) in
      let n = whole_too terms fresh_book b q own.free own.accepted idle blank in
      let f = filed terms b q n in
      let fit = fit_of terms b q f in
      let rest = room_accepts (filed_by b q) qs (filed_length b q ∙ l) refl (λ i. omega (arith, r i, one_more b q i l fit)) (λ p m. o p (Memᴰ.tail m)) in
      parts_none terms b (calls_in q) (joined qs) n (subst (λ (c : Book). NoneRefused terms c (joined qs)) (sym f.book) rest)

  pub accepted_too : AcceptedToo terms
  accepted_too first second h p a =
      let (f, is) = fits_of terms fresh_book first h in
      let r = fits_room fresh_book first fresh-length f in
      room_accepts fresh_book second fresh-length fresh_idle
      (λ i. omega (arith, r i, perm_sum (names i) p))
      (λ q m. owns fresh_book first a h (perm_in (Permᴰ.symm p) m))
