-- Records on the words of a month, from what they do to the quantum's words: with none open, and with one.
use Rattle.std.specs.Prelude.{if◌then◌else◌}
use Prim.Native.Nat.{ℕ, ◌+◌, ◌*◌, ◌≤◌}
use native.Mathlib.Omega.{arith}
use mathlib.Core.Path.{◌≡◌, refl, sym, ap, ◌∙◌, subst}
use mathlib.Core.Bool.{Bool, true, false}
use mathlib.Core.List.{List, [], ◌∷◌, ◌++◌, append_assoc, append-nil}
use lib.Dec.{eqb}
use lib.ListN.{length, get_or, take, drop, take-append-drop, length-map}
use lib.Seq.{drop_at}
use borrow.Author.Tests.{eqb-true, eqb-false}
use Rattle.rules.specs.declared.Row.{Row}
use Rattle.rules.specs.declared.Opening.{Opening}
use Rattle.rules.specs.declared.Cell.{Cell}
use Rattle.rules.specs.declared.Event.{Event}
use Rattle.rules.specs.Terms.{paper}
use Rattle.rules.specs.Calls.{Call, Send, Book, is_open, fresh_book}
use Rattle.rules.specs.Changes.{count_after}
use Rattle.rules.specs.Book.{run, after}
use Rattle.rules.specs.Records.{read_record}
use Rattle.rules.specs.Session.{records_of, record_refusal, read_step}
use Rattle.rules.proofs.Bounds.{bounds}
use Rattle.rules.proofs.Histories.{run-append}
use Rattle.record_runs.proofs.Walks.{records_none, records_some}
use Rattle.lent.specs.Words.{flag_word, low, high, cells_words}
use Rattle.lent.proofs.Back.{wide_back}
use Rattle.quantum.specs.Represents.{quantum_of}
use Rattle.quantum.specs.Words.{quantum_words}
use Rattle.quantum.proofs.Words.{quantum_length}
use Rattle.month.specs.declared.Month.{Month}
use Rattle.month.specs.Represents.{month_of}
use Rattle.month.specs.Words.{month_words, Fits, words_after}
use Rattle.month.proofs.Fields.{Opened, opened}
use Rattle.month.proofs.Words.{month-fits, head_of, quantum_in_lem}
use Rattle.month_in_place.proofs.Months.{stepped, counting, flag_off, flag_on, flag_is, whole}
use Rattle.records_in_place.specs.declared.Taken.{Taken}
use Rattle.records_in_place.specs.Records.{most_sent, Sent, sent_refusal, sent_before, sent_from, records_sent, SendsRecords}
use Rattle.records_in_place.specs.Internal.{events_from, RunsQuantum}
use Rattle.records_in_place.proofs.Books.{book_at, calls_of, together}

-- the book after more calls
after_more : (calls more : List Call) → after paper (calls ++ more) ≡ run paper (after paper calls) more
unfolding after
after_more calls more = run-append paper fresh_book calls more

-- ---- none open

idle_first : (b : Book) (r : List ℕ) (rs : List (List ℕ)) → is_open b.running ≡ false → sent_from most_sent 1 b (r ∷ rs) ≡ record { calls = []; refusal = 7 }
unfolding sent_from sent_refusal
idle_first b r rs h =
    ap (λ (o : Bool). sent_before (if o then record_refusal paper most_sent 1 b r else 7) (read_record r) (sent_from most_sent 2 (read_step paper (read_record r) b) rs)) h

no_records : (b : Book) → sent_from most_sent 1 b [] ≡ record { calls = []; refusal = 0 }
unfolding sent_from
no_records b = refl

idle_sent : (b : Book) (bytes : List ℕ) → is_open b.running ≡ false → records_sent b bytes ≡ record { calls = []; refusal = if eqb (length bytes) 0 then 0 else 7 }
idle_sent b bytes h = go (eqb (length bytes) 0) refl
  where
    some : (n : ℕ) → (n ≡ 0 → ⊥) → 1 ≤ n
    some n h = omega (arith, h)

    go : (o : Bool) → eqb (length bytes) 0 ≡ o → records_sent b bytes ≡ record { calls = []; refusal = if o then 0 else 7 }
    go true e = ap (sent_from most_sent 1 b) (records_none bytes (eqb-true (length bytes) 0 e)) ∙ no_records b
    go false e = ap (sent_from most_sent 1 b) (records_some bytes (some (length bytes) (eqb-false (length bytes) 0 e))) ∙ idle_first b (take 20 bytes) (records_of (drop 20 bytes)) h

module _ (ws bytes : List ℕ) (h : get_or ws 0 0 ≡ 0) (r : Taken) (c : r.count ≡ 0) (k : r.refusal ≡ (if eqb (length bytes) 0 then 0 else 7)) where
  closed : (calls : List Call) → take 2464 ws ≡ words_after calls → is_open (after paper calls).running ≡ false
  unfolding month_of
  closed calls is = flag_off (is_open (after paper calls).running) (sym (flag_is ws calls is) ∙ h)

  pub sends_none : SendsRecords ws bytes ws r
  sends_none =
      record {
        month = λ calls is.
            whole ws calls is
            ∙ ap (λ (l : List Call). words_after l ++ drop 2464 ws) (sym (append-nil calls))
            ∙ ap (λ (s : Sent). words_after (calls ++ s.calls) ++ drop 2464 ws) (sym (idle_sent (after paper calls) bytes (closed calls is)));
        count = λ calls is. c ∙ ap (λ (s : Sent). length s.calls) (sym (idle_sent (after paper calls) bytes (closed calls is)));
        refusal = λ calls is. k ∙ ap (λ (s : Sent). s.refusal) (sym (idle_sent (after paper calls) bytes (closed calls is)));
      }

-- ---- one open: the words of a month in their parts

module _ (ws : List ℕ) (place : ℕ) (row : Row) (opening : Opening) (cells : List Cell) (es : List Event) (count : ℕ)
    (is : take 2464 ws ≡ month_words (month_of (book_at place row opening cells es count))) (fits : Fits (month_of (book_at place row opening cells es count))) where
  abbrev four : List ℕ
  four = 1 ∷ place ∷ row.share ∷ opening.allowed ∷ []

  abbrev old : List ℕ
  old = quantum_words (quantum_of row opening.spread es)

  abbrev behind : List ℕ
  behind = cells_words cells ++ drop 2464 ws

  in_parts : ws ≡ four ++ (low count ∷ high count ∷ (old ++ behind))
  unfolding month_words month_of
  in_parts =
      sym (take-append-drop 2464 ws)
      ∙ ap (λ (l : List ℕ). l ++ drop 2464 ws) is
      ∙ ap (λ (l : List ℕ). four ++ (low count ∷ high count ∷ l)) (append_assoc old (cells_words cells) (drop 2464 ws))

  abbrev counted_by : List ℕ → ℕ
  counted_by l = get_or (take 2 (drop 4 l)) 0 0 + 4294967296 * get_or (take 2 (drop 4 l)) 1 0

  count_is : (quantum : List ℕ) → counted_by (stepped ws quantum) ≡ count
  count_is quantum = ap (λ (l : List ℕ). counted_by (stepped l quantum)) in_parts ∙ wide_back count

  old-length : length old ≡ 598
  unfolding month_of
  old-length = quantum_length (quantum_of row opening.spread es) fits.quantum

  pub laid : (quantum two : List ℕ) (events : List Event) (n : ℕ) → quantum ≡ quantum_words (quantum_of row opening.spread (es ++ events))
      → two ≡ low (count_after n (counted_by (stepped ws quantum))) ∷ high (count_after n (counted_by (stepped ws quantum))) ∷ []
      → counting (stepped ws quantum) two ≡ month_words (month_of (book_at place row opening cells (es ++ events) (count_after n count))) ++ drop 2464 ws
  unfolding month_words month_of
  laid quantum two events n q t =
      let both : two ≡ low (count_after n count) ∷ high (count_after n count) ∷ [] =
      t ∙ ap (λ (x : ℕ). low (count_after n x) ∷ high (count_after n x) ∷ []) (count_is quantum) in
      let new = quantum_words (quantum_of row opening.spread (es ++ events)) in
      ap (λ (l : List ℕ). counting (stepped l quantum) two) in_parts
      ∙ (λ i. four ++ (both i ++ (q i ++ drop_at old behind 598 old-length i)))
      ∙ ap (λ (l : List ℕ). four ++ (low (count_after n count) ∷ high (count_after n count) ∷ l)) (sym (append_assoc new (cells_words cells) (drop 2464 ws)))

-- ---- .. and the records

module _ (ws bytes quantum : List ℕ) (h : get_or ws 0 0 ≡ 0 → ⊥) (r : Taken) (runs : RunsQuantum (take 598 (drop 6 ws)) bytes quantum r) (two : List ℕ)
    (t : two
    ≡ low (count_after r.count (get_or (take 2 (drop 4 (stepped ws quantum))) 0 0 + 4294967296 * get_or (take 2 (drop 4 (stepped ws quantum))) 1 0))
    ∷ high (count_after r.count (get_or (take 2 (drop 4 (stepped ws quantum))) 0 0 + 4294967296 * get_or (take 2 (drop 4 (stepped ws quantum))) 1 0)) ∷ []) where
  module _ (calls : List Call) (is : take 2464 ws ≡ words_after calls) where
    abbrev b : Book
    b = after paper calls

    o : Opened (month_of b) b
    o = opened (month_of b) b (bounds paper calls) refl (flag_on _ (λ z. h (flag_is ws calls is ∙ z)))

    abbrev book : List Event → ℕ → Book
    book es count = book_at o.place o.row o.opening b.cells es count

    book_is : b ≡ book o.events b.count
    book_is = λ i. record { running = o.running i; cells = b.cells; count = b.count }

    abbrev gone : List Event
    gone = (events_from o.row 1 o.events (records_of bytes)).events

    part_is : take 598 (drop 6 ws) ≡ quantum_words (quantum_of o.row o.opening.spread o.events)
    part_is = quantum_in_lem ws (month_of b) (month-fits calls) is ∙ ap quantum_words o.quantum

    sent_is : records_sent b bytes ≡ record { calls = calls_of gone; refusal = (events_from o.row 1 o.events (records_of bytes)).refusal }
    sent_is =
        ap (λ (x : Book). records_sent x bytes) book_is ∙ (together o.place o.row o.opening b.cells (records_of bytes) 1 o.events b.count).sent

    many : r.count ≡ length gone
    many = runs.count o.row o.opening.spread o.events o.bounds.events_good part_is

    book-after : after paper (calls ++ calls_of gone) ≡ book (o.events ++ gone) (count_after r.count b.count)
    book-after =
        after_more calls (calls_of gone)
        ∙ ap (λ (x : Book). run paper x (calls_of gone)) book_is
        ∙ (together o.place o.row o.opening b.cells (records_of bytes) 1 o.events b.count).after
        ∙ ap (λ (n : ℕ). book (o.events ++ gone) (count_after n b.count)) (sym many)

    month_after : counting (stepped ws quantum) two ≡ words_after (calls ++ (records_sent b bytes).calls) ++ drop 2464 ws
    month_after =
        laid ws o.place o.row o.opening b.cells o.events b.count
        (is ∙ ap (λ (x : Book). month_words (month_of x)) book_is) (subst (λ (x : Book). Fits (month_of x)) book_is (month-fits calls)) quantum two gone r.count
        (runs.words_after o.row o.opening.spread o.events o.bounds.events_good part_is) t
        ∙ ap (λ (x : Book). month_words (month_of x) ++ drop 2464 ws) (sym book-after)
        ∙ ap (λ (s : Sent). words_after (calls ++ s.calls) ++ drop 2464 ws) (sym sent_is)

    count_after_lem : r.count ≡ length (records_sent b bytes).calls
    count_after_lem = many ∙ sym (length-map gone (λ (e : Event). Send e)) ∙ ap (λ (s : Sent). length s.calls) (sym sent_is)

    refusal-after : r.refusal ≡ (records_sent b bytes).refusal
    refusal-after =
        runs.refusal o.row o.opening.spread o.events o.bounds.events_good part_is ∙ ap (λ (s : Sent). s.refusal) (sym sent_is)

  pub sends_some : SendsRecords ws bytes (counting (stepped ws quantum) two) r
  sends_some = record { month = month_after; count = count_after_lem; refusal = refusal-after }
