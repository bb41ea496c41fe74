-- The loop over the records on the words of an open quantum: how it starts, one turn, and each way out.
use Rattle.std.specs.Prelude.{if◌then◌else◌}
use Prim.Native.Nat.{ℕ, zero, suc, ◌+◌, ◌*◌, ◌/◌, ◌≤◌, ◌<◌}
use native.Mathlib.Omega.{arith}
use mathlib.Core.Path.{◌≡◌, refl, sym, ap, ◌∙◌, subst}
use mathlib.Core.List.{List, [], ◌∷◌, ◌++◌, append_assoc, append-nil}
use mathlib.Core.Bool.{Bool, true, false}
use lib.Dec.{ltb}
use lib.ListN.{length, take, drop, length-append, length-take, length-drop}
use lib.Seq.{drop-drop}
use borrow.Author.Tests.{le-ltb, lt-ltb, ltb-true, ltb-false}
use Rattle.rules.specs.declared.Row.{Row}
use Rattle.rules.specs.declared.SpreadRule.{SpreadRule}
use Rattle.rules.specs.declared.Event.{Event}
use Rattle.rules.specs.Answers.{Outcome, accepted, refused}
use Rattle.rules.specs.Bounds.{EventBounds}
use Rattle.rules.specs.Causes.{event_refusal}
use Rattle.rules.specs.Records.{read_record}
use Rattle.rules.specs.Session.{records_of}
use Rattle.rules.proofs.Bounds.{event_bounds_more}
use Rattle.record_runs.specs.Internal.{refusal_by, followed}
use Rattle.record_runs.proofs.Walks.{records_none, records_some, short_record, fifteen_only}
use Rattle.events.specs.Represents.{taken}
use Rattle.quantum.specs.Represents.{quantum_of}
use Rattle.quantum.specs.Words.{quantum_words}
use Rattle.quantum.proofs.Words.{quantum_length, of_sized}
use Rattle.quantum_in_place.specs.Events.{HoldsQuantum, StepsWords, StepsRead}
use Rattle.records_in_place.specs.declared.Taken.{Taken}
use Rattle.records_in_place.specs.Records.{most_sent}
use Rattle.records_in_place.specs.Internal.{Gone, gone, events_in, gone_before, gone_after, refusal_at, events_from, RunsQuantum, RunState, RunStates}

-- ---- what is left of the records, from a byte on

module _ (row : Row) (es : List Event) (bytes : List ℕ) (at place : ℕ) where
  abbrev this : List ℕ
  this = take 20 (drop at bytes)

  abbrev rest : List (List ℕ)
  rest = records_of (drop 20 (drop at bytes))

  left-none : length bytes ≤ at → events_from row place es (records_of (drop at bytes)) ≡ gone [] 0
  unfolding events_from
  left-none l = ap (events_from row place es) (records_none (drop at bytes) (omega (arith, length-drop at bytes)))

  module _ (l : at < length bytes) where
    left_some : events_from row place es (records_of (drop at bytes)) ≡ events_from row place es (this ∷ rest)
    left_some = ap (events_from row place es) (records_some (drop at bytes) (omega (arith, length-drop at bytes)))

    left_stops : (n : ℕ) → refusal_at row place es (read_record this) ≡ suc n → events_from row place es (records_of (drop at bytes)) ≡ gone [] (suc n)
    unfolding events_from
    left_stops n e = left_some ∙ ap (λ (k : ℕ). gone_before k (read_record this) (events_from row (suc place) (followed es (read_record this)) rest)) e

    left_goes : (e : Event) → refusal_at row place es (read_record this) ≡ 0 → read_record this ≡ accepted e
        → events_from row place es (records_of (drop at bytes)) ≡ gone_after (e ∷ []) (events_from row (suc place) (es ++ (e ∷ [])) rest)
    unfolding events_from
    left_goes e z h = left_some ∙ (λ i. gone_before (z i) (h i) (events_from row (suc place) (followed es (h i)) rest))

    in_limit : place ≤ most_sent → refusal_at row place es (read_record this) ≡ refusal_by row es (read_record this)
    in_limit p = ap (λ (b : Bool). if b then 15 else refusal_by row es (read_record this)) (le-ltb most_sent place p)

    -- the record past the limit, or fewer than 20 bytes
    left_short : (place ≤ most_sent → length bytes < at + 20) → events_from row place es (records_of (drop at bytes)) ≡ gone [] 15
    left_short h = left_stops 14 (go (ltb most_sent place) refl)
      where
        few : place ≤ most_sent → length this < 20
        few p = let k = h p in omega (arith, length-take 20 (drop at bytes), length-drop at bytes)

        go : (b : Bool) → ltb most_sent place ≡ b → refusal_at row place es (read_record this) ≡ 15
        go true e = ap (λ (b : Bool). if b then 15 else refusal_by row es (read_record this)) e
        go false e =
            let p = ltb-false most_sent place e in
            in_limit p ∙ ap (refusal_by row es) (short_record this (few p))

-- ---- the loop

module _ (start bytes : List ℕ) where
  pub run_start : RunStates start bytes start 0
  run_start row sp es g is =
      let none = sym (append-nil es) in
      record {
        events = [];
        bounds = subst (EventBounds row) none g;
        is = is ∙ ap (λ (l : List Event). quantum_words (quantum_of row sp l)) none;
        many = refl;
        runs = ap (λ (l : List Event). events_from row 1 l (records_of bytes)) none;
      }

  module _ (words : List ℕ) (at : ℕ) (states : RunStates start bytes words at) where
    -- the words are those of a quantum
    pub run-held : HoldsQuantum start → HoldsQuantum words
    run-held h =
        let r = h.reached in
        let s = states r.row r.sp r.events r.bounds (h.is ∙ ap quantum_words r.is) in
        record {
          quantum = quantum_of r.row r.sp (r.events ++ s.events);
          reached = record { row = r.row; sp = r.sp; events = r.events ++ s.events; some = r.some; bounds = s.bounds; is = refl };
          is = s.is;
        }

    -- ---- how it ends

    module _ (words' : List ℕ) (n : ℕ) (r : Taken) (c : r.count ≡ at / 20) (k : r.refusal ≡ n)
        (same : (row : Row) (sp : SpreadRule) (es : List Event) (g : EventBounds row es) (is : start ≡ quantum_words (quantum_of row sp es))
        → words' ≡ quantum_words (quantum_of row sp (es ++ (states row sp es g is).events)))
        (left : (row : Row) (sp : SpreadRule) (es : List Event) (g : EventBounds row es) (is : start ≡ quantum_words (quantum_of row sp es))
        → events_from row (at / 20 + 1) (es ++ (states row sp es g is).events) (records_of (drop at bytes)) ≡ gone [] n) where
      ends : RunsQuantum start bytes words' r
      ends =
          record {
            words_after = λ row sp es g is. same row sp es g is ∙ ap (λ (x : Gone). quantum_words (quantum_of row sp (es ++ x.events))) (sym (all row sp es g is));
            count = λ row sp es g is.
                let s = states row sp es g is in
                let many : at / 20 ≡ length s.events = omega (arith, s.many) in
                c ∙ many ∙ ap (λ (x : Gone). length x.events) (sym (all row sp es g is));
            refusal = λ row sp es g is. k ∙ ap (λ (x : Gone). x.refusal) (sym (all row sp es g is));
          }
        where
          all : (row : Row) (sp : SpreadRule) (es : List Event) (g : EventBounds row es) (is : start ≡ quantum_words (quantum_of row sp es))
              → events_from row 1 es (records_of bytes) ≡ gone (states row sp es g is).events n
          all row sp es g is =
              let s = states row sp es g is in
              s.runs ∙ ap (gone_after s.events) (left row sp es g is) ∙ ap (λ (l : List Event). gone l n) (append-nil s.events)

    pub run_done : (r : Taken) → r.count ≡ at / 20 → r.refusal ≡ 0 → length bytes ≤ at → RunsQuantum start bytes words r
    run_done r c k l =
        ends words 0 r c k (λ row sp es g is. (states row sp es g is).is)
        (λ row sp es g is. left-none row (es ++ (states row sp es g is).events) bytes at (at / 20 + 1) l)

    pub run_short : (r : Taken) → r.count ≡ at / 20 → r.refusal ≡ 15 → at < length bytes → (at / 20 + 1 ≤ most_sent → length bytes < at + 20) → RunsQuantum start bytes words r
    run_short r c k l h =
        ends words 15 r c k (λ row sp es g is. (states row sp es g is).is)
        (λ row sp es g is. left_short row (es ++ (states row sp es g is).events) bytes at (at / 20 + 1) l h)

    -- ---- a record

    module _ (l : at < length bytes) (p : at / 20 + 1 ≤ most_sent) (words' : List ℕ) (n : ℕ) where
      abbrev said : Outcome Event
      said = read_record (take 20 (drop at bytes))

      module _ (row : Row) (sp : SpreadRule) (es : List Event) (g : EventBounds row es) (is : start ≡ quantum_words (quantum_of row sp es)) where
        abbrev s : RunState row sp es bytes words at
        s = states row sp es g is

        abbrev now : List Event
        now = es ++ s.events

        -- its number
        judged : (o : Outcome Event) → StepsRead words o words' n → refusal_by row now o ≡ n
        judged (accepted e) d = sym (d.number row sp now s.bounds s.is)
        judged (refused k) d = sym d.0

        number_is : StepsRead words said words' n → refusal_at row (at / 20 + 1) now said ≡ n
        number_is d = in_limit row now bytes at (at / 20 + 1) l p ∙ judged said d

        -- a refused one leaves the words
        stays : (o : Outcome Event) (j : ℕ) → n ≡ suc j → StepsRead words o words' n → words' ≡ quantum_words (quantum_of row sp now)
        stays (accepted e) j k d =
            d.words_after row sp now s.bounds s.is
            ∙ ap (λ (x : ℕ). quantum_words (quantum_of row sp (taken x now e))) (judged (accepted e) d ∙ k)
        stays (refused m) j k d = d.1 ∙ s.is

        -- one that is taken
        goes : (e : Event) → said ≡ accepted e → n ≡ 0 → StepsRead words said words' n → RunState row sp es bytes words' (at + 20)
        goes e h z d =
            let next : at / 20 + 1 + 1 ≡ (at + 20) / 20 + 1 = omega arith in
            let one : suc (at / 20 + 1) ≡ at / 20 + 1 + 1 = omega arith in
            let more = append_assoc es s.events (e ∷ []) in
            let w : StepsWords words e words' n = subst (λ (o : Outcome Event). StepsRead words o words' n) h d in
            let none : event_refusal row now e ≡ 0 = judged (accepted e) w ∙ z in
            record {
              events = s.events ++ (e ∷ []);
              bounds = subst (EventBounds row) more (event_bounds_more row now e s.bounds none);
              is =
                  w.words_after row sp now s.bounds s.is
                  ∙ ap (λ (x : ℕ). quantum_words (quantum_of row sp (taken x now e))) none
                  ∙ ap (λ (x : List Event). quantum_words (quantum_of row sp x)) more;
              many = omega (arith, s.many, length-append s.events (e ∷ []));
              runs =
                  s.runs
                  ∙ ap (gone_after s.events) (left_goes row now bytes at (at / 20 + 1) l e (number_is d ∙ z) h)
                  ∙ ap (λ (x : List Event). gone x (events_from row (suc (at / 20 + 1)) (now ++ (e ∷ [])) (records_of (drop 20 (drop at bytes)))).refusal)
                  (sym (append_assoc s.events (e ∷ []) (events_from row (suc (at / 20 + 1)) (now ++ (e ∷ [])) (records_of (drop 20 (drop at bytes)))).events))
                  ∙ (λ i. gone_after (s.events ++ (e ∷ [])) (events_from row ((one ∙ next) i) (more i) (records_of (drop-drop 20 at bytes i))));
            }

        goes_by : (o : Outcome Event) → said ≡ o → n ≡ 0 → StepsRead words said words' n → RunState row sp es bytes words' (at + 20)
        goes_by (accepted e) h z d = goes e h z d
        goes_by (refused k) h z d =
            let x : n ≡ k = (subst (λ (o : Outcome Event). StepsRead words o words' n) h d).0 in
            absurd (omega (arith, x, z, fifteen_only (take 20 (drop at bytes)) k h))

      pub run_on : n ≤ 0 → StepsRead words said words' n → RunStates start bytes words' (at + 20)
      run_on u d row sp es g is = let z : n ≡ 0 = omega arith in goes_by row sp es g is said refl z d

      pub run_stops : (r : Taken) → r.count ≡ at / 20 → r.refusal ≡ n → 0 < n → StepsRead words said words' n → RunsQuantum start bytes words' r
      run_stops r c k u d = go n refl
        where
          go : (m : ℕ) → n ≡ m → RunsQuantum start bytes words' r
          go zero z = absurd (omega arith)
          go (suc j) z =
              ends words' (suc j) r c (k ∙ z) (λ row sp es g is. stays row sp es g is said j z d)
              (λ row sp es g is.
              left_stops row (es ++ (states row sp es g is).events) bytes at (at / 20 + 1) l j (number_is row sp es g is d ∙ z))
