-- Every list of calls can be written: the calls read from the words of a list are that list, and all its words are read.
use Prim.Native.Nat.{ℕ, zero, suc, ◌+◌, ◌-◌, ◌*◌, ◌/◌, ◌<◌}
use native.Mathlib.Omega.{arith}
use mathlib.Core.Path.{◌≡◌, refl, sym, ap, ◌∙◌}
use mathlib.Core.List.{List, [], ◌∷◌, ◌++◌, append_assoc}
use lib.IntN.{ℤ}
use lib.ListN.{length, get_or, take, drop, length-append}
use lib.Seq.{take_at, drop_at, take-append-add, get_or-append-add, drop-append_seam}
use Rattle.rules.specs.declared.Side.{Side}
use Rattle.rules.specs.declared.Side.TheVariants.{Buy, Sell}
use Rattle.rules.specs.declared.SpreadRule.{SpreadRule}
use Rattle.rules.specs.declared.SpreadRule.TheVariants.{Settled, OfStrike}
use Rattle.rules.specs.declared.Amendment.{Amendment}
use Rattle.rules.specs.declared.Kopecks.{Kopecks}
use Rattle.rules.specs.declared.Event.{Event}
use Rattle.rules.specs.declared.Event.TheVariants.{Add, Amend, Cancel, Deal, Tick}
use Rattle.rules.specs.Units.{steps, kopecks}
use Rattle.rules.specs.Records.{add_kind, signed_of, unsigned_of}
use Rattle.rules.specs.Widths.{Word, SignedWord, Fits, Bytes}
use Rattle.rules.specs.Calls.{Call, Open, Send, Message, Ask, Commit, Close, Drop, Charge, Withdraw, Look, Report, Outlook}
use Rattle.rules.proofs.Records.{signed_unsigned, unsigned_fits}
use Rattle.words.specs.Bytes.{bytes_of}
use Rattle.words.proofs.Bytes.{words_length}
use Rattle.words.proofs.Back.{bytes_append, bytes_back, words_fit as words-in-fit}
use Rattle.call_blocks.specs.Kinds.{add_due, due, due_at, block_size, call_of}
use Rattle.call_blocks.specs.Reading.{calls_of, words_read}
use Rattle.lent.specs.Words.{low, high}
use Rattle.lent.proofs.Back.{wide_back}
use Rattle.call_blocks.specs.Writing.{event_words, open_kind, opening_words, filled, words_of, script_of, Words, Wide, SpreadRuleFits, AmendmentFits, CallFits, AllFit}
use Rattle.call_blocks.proofs.Reading.{whole, short, calls-none, calls-more, words_none, words_more}

-- ---- the size

event_due : (e : Event) (rest : List ℕ) → due_at (event_words e ++ rest) ≡ length (event_words e)
unfolding event_words due add_due
event_due (Add t id Buy price volume) rest = refl
event_due (Add t id Sell price volume) rest = refl
event_due (Amend t id price volume) rest = refl
event_due (Cancel t id) rest = refl
event_due (Deal t id volume) rest = refl
event_due (Tick t) rest = refl

open_due : (words : List ℕ) (day : ℕ) (spread : SpreadRule) (allowed : ℕ) (rest : List ℕ)
    → due_at (open_kind spread ∷ length words ∷ ((words ++ (day ∷ opening_words spread allowed)) ++ rest))
    ≡ suc (suc (length (words ++ (day ∷ opening_words spread allowed))))
unfolding due
open_due words day (Settled sp) allowed rest = rw (length-append words (day ∷ opening_words (Settled sp) allowed)) (omega arith)
open_due words day (OfStrike s) allowed rest = rw (length-append words (day ∷ opening_words (OfStrike s) allowed)) (omega arith)

-- the number of words that hold so many bytes
filled-length : (bytes : List ℕ) → length (filled bytes) ≡ (length bytes + 3) / 4
filled-length bytes = words_length (bytes ++ (0 ∷ 0 ∷ 0 ∷ [])) ∙ ap (λ (n : ℕ). n / 4) (length-append bytes (0 ∷ 0 ∷ 0 ∷ []))

message_due : (start bytes : List ℕ) → 3 + (length start + length bytes + 3) / 4 ≡ suc (suc (suc (length (filled (start ++ bytes)))))
message_due start bytes = omega (arith, filled-length (start ++ bytes), length-append start bytes)

call-due : (c : Call) (rest : List ℕ) → due_at (words_of c ++ rest) ≡ length (words_of c)
unfolding words_of due
call-due (Open words day opening) rest = open_due words day opening.spread opening.allowed rest
call-due (Send e) rest = event_due e rest
call-due (Message start bytes) rest = message_due start bytes
call-due (Ask a) rest = refl
call-due (Commit a ticket) rest = refl
call-due (Close active passive) rest = refl
call-due Drop rest = refl
call-due (Charge day expiry quantum active passive) rest = refl
call-due (Withdraw day expiry quantum) rest = refl
call-due (Look day expiry quantum) rest = refl
call-due Report rest = refl
call-due Outlook rest = refl

pub size_of : (c : Call) (rest : List ℕ) → block_size (words_of c ++ rest) ≡ length (words_of c)
size_of c rest =
    whole (words_of c ++ rest) (length (words_of c)) (call-due c rest)
    (rw (length-append (words_of c) rest) (omega arith))

event_some : (e : Event) → 0 < length (event_words e)
unfolding event_words
event_some (Add t id side price volume) = omega arith
event_some (Amend t id price volume) = omega arith
event_some (Cancel t id) = omega arith
event_some (Deal t id volume) = omega arith
event_some (Tick t) = omega arith

call_some : (c : Call) → 0 < length (words_of c)
unfolding words_of
call_some (Open words day opening) = omega arith
call_some (Send e) = event_some e
call_some (Message start bytes) = omega arith
call_some (Ask a) = omega arith
call_some (Commit a ticket) = omega arith
call_some (Close active passive) = omega arith
call_some Drop = omega arith
call_some (Charge day expiry quantum active passive) = omega arith
call_some (Withdraw day expiry quantum) = omega arith
call_some (Look day expiry quantum) = omega arith
call_some Report = omega arith
call_some Outlook = omega arith

-- ---- the call

charge_back : (k : Kopecks) → kopecks (low k.0 + 4294967296 * high k.0) ≡ k
charge_back k = ap kopecks (wide_back k.0)

-- an amendment whose price comes back
amendment_back : (a : Amendment) → SignedWord a.price.0
    → ◌≡◌ {A = Amendment} (record { t = a.t; id = a.id; price = steps (signed_of (unsigned_of a.price.0)); volume = a.volume }) a
amendment_back a h = ap (λ (z : ℤ). record { t = a.t; id = a.id; price = steps z; volume = a.volume }) (signed_unsigned a.price.0 h)

event_back : (e : Event) → Fits e → (rest : List ℕ) → call_of (event_words e ++ rest) ≡ Send e
unfolding event_words call_of
event_back (Add t id Buy price volume) h rest = ap (λ z. Send (Add t id Buy (steps z) volume)) (signed_unsigned price.0 h.2)
event_back (Add t id Sell price volume) h rest = ap (λ z. Send (Add t id Sell (steps z) volume)) (signed_unsigned price.0 h.2)
event_back (Amend t id price volume) h rest = ap (λ z. Send (Amend t id (steps z) volume)) (signed_unsigned price.0 h.2)
event_back (Cancel t id) h rest = refl
event_back (Deal t id volume) h rest = refl
event_back (Tick t) h rest = refl

-- the words of an open: the kind, the row's words, the day, what else it is given
module _ (kind : ℕ) (words : List ℕ) (day : ℕ) (opening rest : List ℕ) where
  abbrev behind : List ℕ
  behind = (words ++ (day ∷ opening)) ++ rest

  behind_is : behind ≡ words ++ (day ∷ (opening ++ rest))
  behind_is = append_assoc words (day ∷ opening) rest

  row_words : take (length words) behind ≡ words
  row_words = rw behind_is (take_at words (day ∷ (opening ++ rest)) (length words) refl)

  -- the i-th word after the row: the day, then what open is given
  opening_word : (i : ℕ) → get_or (kind ∷ length words ∷ behind) (2 + length words + i) 0 ≡ get_or (day ∷ (opening ++ rest)) i 0
  opening_word i =
      let e : 2 + length words + i ≡ suc (suc (length words + i)) = omega arith in
      rw (e, behind_is) (get_or-append-add words (day ∷ (opening ++ rest)) i 0)

  -- the same, at a place that is so many after the row
  word-at : (j i : ℕ) → j ≡ 2 + length words + i → get_or (kind ∷ length words ∷ behind) j 0 ≡ get_or (day ∷ (opening ++ rest)) i 0
  word-at j i e = ap (λ (k : ℕ). get_or (kind ∷ length words ∷ behind) k 0) e ∙ opening_word i

open_back : (words : List ℕ) (day : ℕ) (spread : SpreadRule) (allowed : ℕ) → SpreadRuleFits spread → (rest : List ℕ)
    → call_of (open_kind spread ∷ length words ∷ ((words ++ (day ∷ opening_words spread allowed)) ++ rest)) ≡ Open words day (record { spread = spread; allowed = allowed })
unfolding call_of
open_back words day (Settled sp) allowed h rest =
    let n = length words in
    let opening = unsigned_of sp.0 ∷ allowed ∷ [] in
    let price = ap (λ (w : ℕ). steps (signed_of w)) (word-at 1 words day opening rest (3 + n) 1 (omega arith)) ∙ ap steps (signed_unsigned sp.0 h) in
    λ i.
    Open (row_words 1 words day opening rest i) (word-at 1 words day opening rest (2 + n) 0 (omega arith) i)
    (record { spread = Settled (price i); allowed = word-at 1 words day opening rest (3 + n + 1) 2 (omega arith) i })
open_back words day (OfStrike s) allowed h rest =
    let n = length words in
    let opening = s.a ∷ s.difference ∷ s.days ∷ s.b ∷ allowed ∷ [] in
    λ i.
    Open (row_words 13 words day opening rest i) (word-at 13 words day opening rest (2 + n) 0 (omega arith) i)
    (record {
      spread =
          OfStrike
          (record {
            a = word-at 13 words day opening rest (3 + n) 1 (omega arith) i;
            difference = word-at 13 words day opening rest (3 + n + 1) 2 (omega arith) i;
            days = word-at 13 words day opening rest (3 + n + 2) 3 (omega arith) i;
            b = word-at 13 words day opening rest (3 + n + 3) 4 (omega arith) i;
          });
      allowed = word-at 13 words day opening rest (3 + n + 4) 5 (omega arith) i;
    })

-- what holds of each number of two lists holds of each number of both
each_of : (P : ℕ → Type 0) (xs ys : List ℕ) → ((i : ℕ) → P (get_or xs i 0)) → ((i : ℕ) → P (get_or ys i 0)) → (i : ℕ) → P (get_or (xs ++ ys) i 0)
each_of P [] ys h k i = k i
each_of P (x ∷ xs) ys h k zero = h 0
each_of P (x ∷ xs) ys h k (suc i) = each_of P xs ys (λ j. h (suc j)) k i

zeros : Bytes (0 ∷ 0 ∷ 0 ∷ [])
zeros zero = omega arith
zeros (suc zero) = omega arith
zeros (suc (suc zero)) = omega arith
zeros (suc (suc (suc i))) = omega arith

filled_bytes : (bytes : List ℕ) → Bytes bytes → Bytes (bytes ++ (0 ∷ 0 ∷ 0 ∷ []))
filled_bytes bytes h = each_of (λ (n : ℕ). n < 256) bytes (0 ∷ 0 ∷ 0 ∷ []) h zeros

both_bytes : (start bytes : List ℕ) → Bytes start → Bytes bytes → Bytes (start ++ bytes)
both_bytes start bytes hs hb = each_of (λ (n : ℕ). n < 256) start bytes hs hb

-- the bytes of a message's words: the start, the message, and what fills them up and follows
module _ (start bytes rest : List ℕ) (hs : Bytes start) (hb : Bytes bytes) where
  abbrev both : List ℕ
  both = start ++ bytes

  abbrev filling : ℕ
  filling = 4 * ((length both + 3) / 4) - length both

  abbrev tail : List ℕ
  tail = take filling (0 ∷ 0 ∷ 0 ∷ []) ++ bytes_of rest

  behind-both : bytes_of (filled both) ≡ both ++ take filling (0 ∷ 0 ∷ 0 ∷ [])
  behind-both =
      let e : 4 * (length (both ++ (0 ∷ 0 ∷ 0 ∷ [])) / 4) ≡ length both + filling = rw (length-append both (0 ∷ 0 ∷ 0 ∷ [])) (omega arith) in
      bytes_back (both ++ (0 ∷ 0 ∷ 0 ∷ [])) (filled_bytes both (both_bytes start bytes hs hb))
      ∙ ap (λ (k : ℕ). take k (both ++ (0 ∷ 0 ∷ 0 ∷ []))) e
      ∙ take-append-add both (0 ∷ 0 ∷ 0 ∷ []) filling

  parts : bytes_of (filled both ++ rest) ≡ start ++ (bytes ++ tail)
  parts =
      bytes_append (filled both) rest
      ∙ ap (λ (l : List ℕ). l ++ bytes_of rest) behind-both
      ∙ append_assoc both (take filling (0 ∷ 0 ∷ 0 ∷ [])) (bytes_of rest)
      ∙ append_assoc start bytes tail

  message_back : call_of (16 ∷ length start ∷ length bytes ∷ (filled both ++ rest)) ≡ Message start bytes
  unfolding call_of
  message_back =
      let s : take (length start) (bytes_of (filled both ++ rest)) ≡ start =
      ap (take (length start)) parts ∙ take_at start (bytes ++ tail) (length start) refl
      in
      let m : take (length bytes) (drop (length start) (bytes_of (filled both ++ rest))) ≡ bytes =
      ap (λ (l : List ℕ). take (length bytes) (drop (length start) l)) parts
      ∙ ap (take (length bytes)) (drop_at start (bytes ++ tail) (length start) refl)
      ∙ take_at bytes tail (length bytes) refl
      in
      λ i. Message (s i) (m i)

pub call_back : (c : Call) → CallFits c → (rest : List ℕ) → call_of (words_of c ++ rest) ≡ c
unfolding words_of call_of
call_back (Open words day opening) h rest = open_back words day opening.spread opening.allowed h.3 rest
call_back (Send e) h rest = event_back e h rest
call_back (Message start bytes) h rest = message_back start bytes rest h.2 h.3
call_back (Ask a) h rest = ap Ask (amendment_back a h.2)
call_back (Commit a ticket) h rest =
    λ i.
    Commit (amendment_back a h.0.2 i)
    (record { amendment = amendment_back ticket.amendment h.1.2 i; count = wide_back ticket.count i })
call_back (Close active passive) h rest = rw (charge_back active, charge_back passive) refl
call_back Drop h rest = refl
call_back (Charge day expiry quantum active passive) h rest = rw (charge_back active, charge_back passive) refl
call_back (Withdraw day expiry quantum) h rest = refl
call_back (Look day expiry quantum) h rest = refl
call_back Report h rest = refl
call_back Outlook h rest = refl

-- ---- the list

module _ (c : Call) (cs : List Call) (h : CallFits c) where
  some : block_size (words_of c ++ script_of cs) ≡ 0 → ⊥
  some e = omega (arith, size_of c (script_of cs), call_some c)

  behind_block : drop (block_size (words_of c ++ script_of cs)) (words_of c ++ script_of cs) ≡ script_of cs
  behind_block = rw (size_of c (script_of cs)) (drop-append_seam (words_of c) (script_of cs))

  calls-cons : calls_of (words_of c ++ script_of cs) ≡ c ∷ calls_of (script_of cs)
  calls-cons =
      calls-more (words_of c ++ script_of cs) some
      ∙ rw (behind_block, call_back c h (script_of cs)) refl

  words_cons : words_read (words_of c ++ script_of cs) ≡ length (words_of c) + words_read (script_of cs)
  words_cons =
      words_more (words_of c ++ script_of cs) some
      ∙ rw (behind_block, size_of c (script_of cs)) refl

-- The calls read from the words of a list are that list, for every list of calls whose numbers fit their types ..
pub read_back : (calls : List Call) → AllFit calls → calls_of (script_of calls) ≡ calls
unfolding script_of
read_back [] h = calls-none [] (short [] (omega arith))
read_back (c ∷ cs) h = calls-cons c cs h.0 ∙ ap (λ l. c ∷ l) (read_back cs h.1)

-- .. and all the words are read.
pub all_read : (calls : List Call) → AllFit calls → words_read (script_of calls) ≡ length (script_of calls)
unfolding script_of
all_read [] h = words_none [] (short [] (omega arith))
all_read (c ∷ cs) h =
    words_cons c cs h.0 ∙ ap (λ k. length (words_of c) + k) (all_read cs h.1) ∙ sym (length-append (words_of c) (script_of cs))

-- ---- the words

record Fine (ws : List ℕ) : Type 0 where
  all : Words ws

none : Fine []
none = record { all = λ i. omega arith }

at_each : (w : ℕ) (ws : List ℕ) → Word w → Words ws → Words (w ∷ ws)
at_each w ws h k zero = h
at_each w ws h k (suc i) = k i

put : {w : ℕ} {ws : List ℕ} → Word w → Fine ws → Fine (w ∷ ws)
put {w} {ws} h k = record { all = at_each w ws h k.all }

joined : (xs ys : List ℕ) → Words xs → Fine ys → Fine (xs ++ ys)
joined xs ys h k = record { all = each_of Word xs ys h k.all }

side_fits : (side : Side) → Word (add_kind side)
side_fits Buy = omega arith
side_fits Sell = omega arith

wide_words : {n : ℕ} {ws : List ℕ} → Wide n → Fine ws → Fine (low n ∷ high n ∷ ws)
wide_words h w = put (omega arith) (put (omega arith) w)

spread_words_lem : (spread : SpreadRule) (allowed : ℕ) → SpreadRuleFits spread → Word allowed → Fine (opening_words spread allowed)
spread_words_lem (Settled sp) allowed h l = put (unsigned_fits sp.0 h) (put l none)
spread_words_lem (OfStrike s) allowed h l = put h.0 (put h.1 (put h.2 (put h.3 (put l none))))

kind_fits : (spread : SpreadRule) → Word (open_kind spread)
kind_fits (Settled sp) = omega arith
kind_fits (OfStrike s) = omega arith

amendment_words : (a : Amendment) {ws : List ℕ} → AmendmentFits a → Fine ws → Fine (a.t.0 ∷ a.id ∷ unsigned_of a.price.0 ∷ a.volume.0 ∷ ws)
amendment_words a h w = put h.0 (put h.1 (put (unsigned_fits a.price.0 h.2) (put h.3 w)))

event_fits : (e : Event) → Fits e → Fine (event_words e)
unfolding event_words
event_fits (Add t id side price volume) h =
    put (omega arith) (put h.0 (put h.1 (put (side_fits side) (put (unsigned_fits price.0 h.2) (put h.3 none)))))
event_fits (Amend t id price volume) h =
    put (omega arith) (put h.0 (put h.1 (put (unsigned_fits price.0 h.2) (put h.3 none))))
event_fits (Cancel t id) h = put (omega arith) (put h.0 (put h.1 none))
event_fits (Deal t id volume) h = put (omega arith) (put h.0 (put h.1 (put h.2 none)))
event_fits (Tick t) h = put (omega arith) (put h none)

call_fits : (c : Call) → CallFits c → Fine (words_of c)
unfolding words_of
call_fits (Open words day opening) h =
    put (kind_fits opening.spread)
    (put h.0 (joined words (day ∷ opening_words opening.spread opening.allowed) h.1 (put h.2 (spread_words_lem opening.spread opening.allowed h.3 h.4))))
call_fits (Send e) h = event_fits e h
call_fits (Message start bytes) h =
    put (omega arith) (put h.0 (put h.1 (record { all = words-in-fit ((start ++ bytes) ++ (0 ∷ 0 ∷ 0 ∷ [])) (filled_bytes (start ++ bytes) (both_bytes start bytes h.2 h.3)) })))
call_fits (Ask a) h = put (omega arith) (amendment_words a h none)
call_fits (Commit a ticket) h =
    put (omega arith) (amendment_words a h.0 (amendment_words ticket.amendment h.1 (wide_words h.2 none)))
call_fits (Close active passive) h = put (omega arith) (wide_words h.0 (wide_words h.1 none))
call_fits Drop h = put (omega arith) none
call_fits (Charge day expiry quantum active passive) h =
    put (omega arith) (put h.0 (put h.1 (put h.2 (wide_words h.3 (wide_words h.4 none)))))
call_fits (Withdraw day expiry quantum) h = put (omega arith) (put h.0 (put h.1 (put h.2 none)))
call_fits (Look day expiry quantum) h = put (omega arith) (put h.0 (put h.1 (put h.2 none)))
call_fits Report h = put (omega arith) none
call_fits Outlook h = put (omega arith) none

script_fits : (calls : List Call) → AllFit calls → Fine (script_of calls)
unfolding script_of
script_fits [] h = none
script_fits (c ∷ cs) h = joined (words_of c) (script_of cs) (call_fits c h.0).all (script_fits cs h.1)

-- What is written are 32-bit words.
pub words_fit : (calls : List Call) → AllFit calls → Words (script_of calls)
words_fit calls h = (script_fits calls h).all
