-- What a session run to its end writes: the kept stretches of its records' events, word by word. So its pairs are the fewest.
use Rattle.std.specs.Prelude.{if◌then◌else◌}
use Prim.Native.Nat.{ℕ, zero, suc, ◌*◌}
use native.Mathlib.Omega.{arith}
use mathlib.Core.Path.{◌≡◌, refl, sym, ap, ◌∙◌}
use mathlib.Core.List.{List, [], ◌∷◌, ◌++◌, append_assoc, append-nil, map}
use mathlib.Core.Bool.{Bool, true, false}
use lib.Dec.{ltb}
use lib.ListN.{length, take, drop}
use lib.Seq.{take-length, take-append_seam}
use Rattle.rules.specs.declared.Steps.{Steps}
use Rattle.rules.specs.declared.Row.{Row}
use Rattle.rules.specs.declared.SpreadRule.{SpreadRule}
use Rattle.rules.specs.declared.SpreadRule.TheVariants.{Settled}
use Rattle.rules.specs.declared.Event.{Event}
use Rattle.rules.specs.Terms.{Terms}
use Rattle.rules.specs.Rows.{row_of}
use Rattle.rules.specs.Cells.{place_of}
use Rattle.rules.specs.Stretches.{Stretch, kept_stretches, pair_words}
use Rattle.rules.specs.Answers.{Outcome, accepted, refused}
use Rattle.rules.specs.Calls.{Open, Send, Running, Quoting, Book, fresh_book}
use Rattle.rules.specs.Causes.{refusal_of}
use Rattle.rules.specs.Changes.{noted, changed}
use Rattle.rules.specs.Book.{step}
use Rattle.rules.specs.Records.{good_record, event_of, fields_of, read_record}
use Rattle.rules.specs.Session.{Ran, Session, records_of, stretches_in, without_lapse_limit, unless, read_refusal, record_refusal, read_step, closing, run_records, session, is_short, ran, front, buffer_after}
use Rattle.rules.specs.Fewest.{FewestKept, pairs_in, FewestWritten}
use Rattle.rules.proofs.Refusals.{step-accepted}
use Rattle.rules.proofs.Stretches.{pair_words-length}
use Rattle.rules.proofs.Fewest.{fewest_kept}

-- ---- the pairs of a run

-- a record that is no event is refused by 15
unread : (bytes : List ℕ) (n : ℕ) → read_record bytes ≡ refused n → n ≡ 15
unfolding read_record
unread bytes n e = go (good_record bytes) e
  where
    go : (b : Bool) → (if b then accepted (event_of (fields_of bytes)) else refused 15) ≡ refused n → n ≡ 15
    go true e = let z : ◌≡◌ {A = ℕ} 0 1 = cc in absurd (omega arith)
    go false e = cc

-- a run that goes on to its end is not stopped here
unless-whole : (n place : ℕ) (next : Session) (k w : ℕ) (ss : List Stretch) → unless n place next ≡ Session.accepted k w ss → (n ≡ 0) × (next ≡ Session.accepted k w ss)
unless-whole zero place next k w ss e = (refl, e)
unless-whole (suc n) place next k w ss e = let z : ◌≡◌ {A = ℕ} 0 1 = cc in absurd (omega arith)

-- the pairs are the kept stretches of the events so far and those of the records
record KeptPairs (row : Row) (sp : Steps) (events : List Event) (rs : List (List ℕ)) (ss : List Stretch) : Type 0 where
  further : List Event
  read : map read_record rs ≡ map accepted further
  pairs : kept_stretches row (Settled sp) (events ++ further) ≡ ss

module _ (terms : Terms) (most cell : ℕ) (row : Row) (sp : Steps) (k w : ℕ) (ss : List Stretch) where
  -- an accepted event goes to the end of the list
  sent : (place : ℕ) (events : List Event) (e : Event) (b : Book) → b.running ≡ Quoting place row (without_lapse_limit sp) events → refusal_of terms b (Send e) ≡ 0
      → (step terms b (Send e)).running ≡ Quoting place row (without_lapse_limit sp) (events ++ (e ∷ []))
  unfolding changed
  sent place events e b h z = ap (λ (c : Book). c.running) (step-accepted terms b (Send e) z) ∙ ap (λ (r : Running). noted r e) h

  ending : (b : Book) → closing terms cell b ≡ Session.accepted k w ss → stretches_in b.running ≡ ss
  unfolding closing
  ending b e = cc

  not_past : (b : Bool) (n : ℕ) → (if b then 15 else n) ≡ 0 → n ≡ 0
  not_past true n e = absurd (omega arith)
  not_past false n e = e

  runs_kept : (rs : List (List ℕ)) (place at : ℕ) (b : Book) (events : List Event) → b.running ≡ Quoting at row (without_lapse_limit sp) events
      → run_records terms most cell place b rs ≡ Session.accepted k w ss → KeptPairs row sp events rs ss
  unfolding run_records record_refusal
  runs_kept [] place at b events h e =
      record {
        further = [];
        read = refl;
        pairs = ap (kept_stretches row (Settled sp)) (append-nil events) ∙ ap stretches_in (sym h) ∙ ending b e;
      }
  runs_kept (r ∷ rs) place at b events h e =
      let (none, next) = unless-whole (record_refusal terms most place b r) place _ k w ss e in
      go (read_record r) refl (not_past (ltb most place) (read_refusal terms (read_record r) b) none) next
      (λ b' more h' e'. runs_kept rs (suc place) at b' more h' e')
    where
      go : (o : Outcome Event) → read_record r ≡ o → read_refusal terms o b ≡ 0 → run_records terms most cell (suc place) (read_step terms o b) rs ≡ Session.accepted k w ss
          → ((b' : Book) (more : List Event) → b'.running ≡ Quoting at row (without_lapse_limit sp) more → run_records terms most cell (suc place) b' rs ≡ Session.accepted k w ss → KeptPairs row sp more rs ss)
          → KeptPairs row sp events (r ∷ rs) ss
      go (refused n) o z next on = absurd (let f = unread r n o in omega arith)
      go (accepted x) o z next on =
          let t = on (step terms b (Send x)) (events ++ (x ∷ [])) (sent at events x b h z) next in
          record {
            further = x ∷ t.further;
            read = λ i. o i ∷ t.read i;
            pairs = ap (kept_stretches row (Settled sp)) (sym (append_assoc events (x ∷ []) t.further)) ∙ t.pairs;
          }

module _ (terms : Terms) (most : ℕ) (words : List ℕ) (sp : Steps) (bytes : List ℕ) where
  opened : refusal_of terms fresh_book (Open words 1 (without_lapse_limit sp)) ≡ 0
      → (step terms fresh_book (Open words 1 (without_lapse_limit sp))).running ≡ Quoting (place_of 1 (row_of words).expiry (row_of words).quantum) (row_of words) (without_lapse_limit sp) []
  unfolding changed
  opened z = ap (λ (c : Book). c.running) (step-accepted terms fresh_book (Open words 1 (without_lapse_limit sp)) z)

  session-kept : (k w : ℕ) (ss : List Stretch) → session terms most words sp bytes ≡ Session.accepted k w ss → KeptPairs (row_of words) sp [] (records_of bytes) ss
  unfolding session
  session-kept k w ss e =
      let cell = place_of 1 (row_of words).expiry (row_of words).quantum in
      let (none, next) = unless-whole (refusal_of terms fresh_book (Open words 1 (without_lapse_limit sp))) 0 _ k w ss e in
      runs_kept terms most cell (row_of words) sp k w ss (records_of bytes) 1 cell (step terms fresh_book (Open words 1 (without_lapse_limit sp))) [] (opened none) next

-- ---- the pairs as words

pairs_back : (ss : List Stretch) → pairs_in (pair_words ss) ≡ ss
unfolding pairs_in pair_words
pairs_back [] = refl
pairs_back (s ∷ ss) = ap {B = List Stretch} (λ l. s ∷ l) (pairs_back ss)

-- a run that is not refused, with a buffer of n words
record Done (n : ℕ) (s : Session) (pairs : ℕ) : Type 0 where
  kept : ℕ
  weight : ℕ
  stretches : List Stretch
  ends : s ≡ Session.accepted kept weight stretches
  number : length stretches ≡ pairs
  words : front n s ≡ pair_words stretches

done : (n : ℕ) (s : Session) (k w pairs : ℕ) → ran n s ≡ Ran.accepted k w pairs → Done n s pairs
unfolding ran front
done n (Session.accepted a b ss) k w pairs e = go (is_short n ss) refl e
  where
    go : (short : Bool) → is_short n ss ≡ short → (if short then Ran.refused 16 0 else Ran.accepted a b (length ss)) ≡ Ran.accepted k w pairs → Done n (Session.accepted a b ss) pairs
    go true f e = let z : ◌≡◌ {A = ℕ} 0 1 = cc in absurd (omega arith)
    go false f e = record { kept = a; weight = b; stretches = ss; ends = refl; number = cc; words = rw f refl }
done n (Session.refused a b) k w pairs e = let z : ◌≡◌ {A = ℕ} 0 1 = cc in absurd (omega arith)

-- ---- the theorem, of words

fewest_too : (row : Row) (sp : SpreadRule) (events : List Event) (ss ts : List Stretch) → ss ≡ ts → FewestKept row sp events ss → FewestKept row sp events ts
fewest_too row sp events ss ts e h = rw (← e) h

module _ (terms : Terms) (most : ℕ) (words : List ℕ) (sp : Steps) (bytes : List ℕ) (n k w pairs : ℕ)
    (h : ran n (session terms most words sp bytes) ≡ Ran.accepted k w pairs) where
  -- as many words as twice the pairs
  front_length : length (front n (session terms most words sp bytes)) ≡ 2 * pairs
  front_length =
      let d = done n (session terms most words sp bytes) k w pairs h in
      omega (arith, ap length d.words, pair_words-length d.stretches, d.number)

  -- whatever starts with the front part
  starts_fewest : (buffer : List ℕ) → take (2 * pairs) buffer ≡ front n (session terms most words sp bytes) → FewestWritten words sp bytes pairs buffer
  starts_fewest buffer e =
      let d = done n (session terms most words sp bytes) k w pairs h in
      let t = session-kept terms most words sp bytes d.kept d.weight d.stretches d.ends in
      let ours : d.stretches ≡ pairs_in (take (2 * pairs) buffer) = sym (ap pairs_in (e ∙ d.words) ∙ pairs_back d.stretches) in
      record {
        events = t.further;
        read = t.read;
        number = ap length (sym ours) ∙ d.number;
        fewest = fewest_too (row_of words) (Settled sp) t.further _ _ (t.pairs ∙ ours) (fewest_kept (row_of words) (Settled sp) t.further);
      }

  pub front_fewest : FewestWritten words sp bytes pairs (front n (session terms most words sp bytes))
  front_fewest =
      let s = session terms most words sp bytes in
      starts_fewest (front n s) (ap (λ (m : ℕ). take m (front n s)) (sym front_length) ∙ take-length (front n s))

pub buffer_fewest : (terms : Terms) (most : ℕ) (words : List ℕ) (sp : Steps) (bytes buffer : List ℕ) (k w pairs : ℕ)
    → ran (length buffer) (session terms most words sp bytes) ≡ Ran.accepted k w pairs
    → FewestWritten words sp bytes pairs (buffer_after buffer (session terms most words sp bytes))
unfolding buffer_after
buffer_fewest terms most words sp bytes buffer k w pairs h =
    let s = session terms most words sp bytes in
    let n = length buffer in
    let rest = drop (length (front n s)) buffer in
    starts_fewest terms most words sp bytes n k w pairs h (front n s ++ rest)
    (ap (λ (m : ℕ). take m (front n s ++ rest)) (sym (front_length terms most words sp bytes n k w pairs h)) ∙ take-append_seam (front n s) rest)
