-- Laws of event records, up to the round trip at the end: an event that is written and read is the same event, and a record that is
-- read and written is the same record.
use Rattle.std.specs.Prelude.{if◌then◌else◌}
use Prim.Native.Nat.{ℕ, zero, suc, ◌+◌, ◌-◌, ◌*◌, ◌/◌, ◌%◌, ◌≤◌, ◌<◌}
use native.Mathlib.Omega.{arith}
use mathlib.Core.Path.{◌≡◌, refl, sym, ap, ◌∙◌}
use mathlib.Core.List.{List, [], ◌∷◌, ◌++◌, append-nil}
use mathlib.Core.Bool.{Bool, true, false, false≢true, ◌&&◌}
use borrow.Author.Tests.{lt-ltb, le-ltb, ltb-true, ltb-false, le-leb, leb-true, eqb-true}
use lib.Dec.{leb, ltb, eqb}
use lib.IntN.{ℤ, pos, negsuc}
use lib.ListN.{length, get_or, take, drop, length-take, get_or-eq_default}
use lib.Seq.{length-take-le, drop-cons, drop-length, get_or-take}
use Rattle.rules.specs.declared.Side.TheVariants.{Buy, Sell}
use Rattle.rules.specs.declared.Event.{Event}
use Rattle.rules.specs.declared.Event.TheVariants.{Add, Amend, Cancel, Deal, Tick}
use Rattle.lists.specs.Lists.{within}
use Rattle.rules.specs.Units.{steps}
use Rattle.rules.specs.Answers.{accepted, refused}
use Rattle.rules.specs.Records.{word_at, word_bytes, signed_of, unsigned_of, Fields, fields, event_fields, field_bytes, record_of, fields_of, event_of, unused_zero, padding_zero, good_record, read_record}
use Rattle.rules.specs.Widths.{Word, SignedWord, Fits, Bytes}
use Rattle.lists.proofs.Lists.{both, and}
use Rattle.rules.proofs.Answers.{not_refused}

-- ---- words and their bytes

-- the bytes of a word make the word
from_digits : (w q r s a b c d : ℕ) → w ≡ 256 * q + a → q ≡ 256 * r + b → r ≡ 256 * s + c → s ≡ d
    → a + 256 * b + 65536 * c + 16777216 * d ≡ w
from_digits w q r s a b c d h k l m = omega arith

pub word_of_bytes : (w : ℕ) → Word w → w % 256 + 256 * (w / 256 % 256) + 65536 * (w / 65536 % 256) + 16777216 * (w / 16777216 % 256) ≡ w
word_of_bytes w h =
    let p : w / 65536 ≡ w / 256 / 256 = omega arith in
    let q : w / 16777216 ≡ w / 65536 / 256 = omega arith in
    from_digits w (w / 256) (w / 65536) (w / 16777216) (w % 256) (w / 256 % 256) (w / 65536 % 256) (w / 16777216 % 256) (omega arith)
    (omega arith) (omega arith) (omega arith)

-- the bytes of a word that is made of four bytes are those
module _ (a b c d : ℕ) (ha : a < 256) (hb : b < 256) (hc : c < 256) (hd : d < 256) where
  byte_0 : (a + 256 * b + 65536 * c + 16777216 * d) % 256 ≡ a
  byte_0 = omega arith

  byte_1 : (a + 256 * b + 65536 * c + 16777216 * d) / 256 % 256 ≡ b
  byte_1 = omega arith

  byte_2 : (a + 256 * b + 65536 * c + 16777216 * d) / 65536 % 256 ≡ c
  byte_2 = omega arith

  byte_3 : (a + 256 * b + 65536 * c + 16777216 * d) / 16777216 % 256 ≡ d
  byte_3 = omega arith

  pub word_fits : Word (a + 256 * b + 65536 * c + 16777216 * d)
  word_fits = omega arith

  pub bytes_of-word : word_bytes (a + 256 * b + 65536 * c + 16777216 * d) ≡ a ∷ b ∷ c ∷ d ∷ []
  unfolding word_bytes
  bytes_of-word = rw (byte_0, byte_1, byte_2, byte_3) refl

-- ---- two's complement

by_half : (w : ℕ) (b : Bool) → Word w → unsigned_of (if b then pos w else negsuc (4294967295 - w)) ≡ w
unfolding unsigned_of
by_half w true h = refl
by_half w false h = omega arith

pub unsigned_signed : (w : ℕ) → Word w → unsigned_of (signed_of w) ≡ w
unfolding signed_of
unsigned_signed w h = by_half w (ltb w 2147483648) h

pub signed_unsigned : (z : ℤ) → SignedWord z → signed_of (unsigned_of z) ≡ z
unfolding unsigned_of signed_of
signed_unsigned (pos n) h = rw (lt-ltb n 2147483648 h) refl
signed_unsigned (negsuc n) h =
    let t : 2147483648 ≤ 4294967295 - n = omega arith in
    let e : 4294967295 - (4294967295 - n) ≡ n = omega arith in
    rw (le-ltb (4294967295 - n) 2147483648 t) (ap negsuc e)

-- ---- an event and its fields

-- every number of the fields is a word
record Words (f : Fields) : Type 0 where
  t : Word f.t
  id : Word f.id
  price : Word f.price
  volume : Word f.volume

pub unsigned_fits : (z : ℤ) → SignedWord z → Word (unsigned_of z)
unfolding unsigned_of
unsigned_fits (pos n) h = omega arith
unsigned_fits (negsuc n) h = omega arith

event_words_lem : (e : Event) → Fits e → Words (event_fields e)
unfolding event_fields
event_words_lem (Add t id side price volume) h =
    record { t = h.0; id = h.1; price = unsigned_fits price.0 h.2; volume = h.3 }
event_words_lem (Amend t id price volume) h =
    record { t = h.0; id = h.1; price = unsigned_fits price.0 h.2; volume = h.3 }
event_words_lem (Cancel t id) h = record { t = h.0; id = h.1; price = omega arith; volume = omega arith }
event_words_lem (Deal t id volume) h = record { t = h.0; id = h.1; price = omega arith; volume = h.2 }
event_words_lem (Tick t) h = record { t = h; id = omega arith; price = omega arith; volume = omega arith }

-- the fields of an event are good ones, and say the event
event_kind : (e : Event) → within 1 6 (event_fields e).kind ≡ true
unfolding event_fields
event_kind (Add t id Buy price volume) = refl
event_kind (Add t id Sell price volume) = refl
event_kind (Amend t id price volume) = refl
event_kind (Cancel t id) = refl
event_kind (Deal t id volume) = refl
event_kind (Tick t) = refl

event_unused : (e : Event) → unused_zero (event_fields e) ≡ true
unfolding event_fields unused_zero
event_unused (Add t id Buy price volume) = refl
event_unused (Add t id Sell price volume) = refl
event_unused (Amend t id price volume) = refl
event_unused (Cancel t id) = refl
event_unused (Deal t id volume) = refl
event_unused (Tick t) = refl

event_of-fields : (e : Event) → Fits e → event_of (event_fields e) ≡ e
unfolding event_fields event_of
event_of-fields (Add t id Buy price volume) h = ap (λ z. Add t id Buy (steps z) volume) (signed_unsigned price.0 h.2)
event_of-fields (Add t id Sell price volume) h = ap (λ z. Add t id Sell (steps z) volume) (signed_unsigned price.0 h.2)
event_of-fields (Amend t id price volume) h = ap (λ z. Amend t id (steps z) volume) (signed_unsigned price.0 h.2)
event_of-fields (Cancel t id) h = refl
event_of-fields (Deal t id volume) h = refl
event_of-fields (Tick t) h = refl

-- good fields are those of the event that they say
zeros : (a b : ℕ) → eqb a 0 && eqb b 0 ≡ true → (a ≡ 0) × (b ≡ 0)
zeros a b h = let k = both (eqb a 0) (eqb b 0) h in (eqb-true a 0 k.0, eqb-true b 0 k.1)

zeros_3 : (a b c : ℕ) → eqb a 0 && eqb b 0 && eqb c 0 ≡ true → (a ≡ 0) × (b ≡ 0) × (c ≡ 0)
zeros_3 a b c h =
    let k = both (eqb a 0 && eqb b 0) (eqb c 0) h in
    let l = zeros a b k.0 in
    (l.0, l.1, eqb-true c 0 k.1)

seventh : (n : ℕ) → within 1 6 (suc (suc (suc (suc (suc (suc (suc n))))))) ≡ true → ⊥
seventh n h =
    let k = suc (suc (suc (suc (suc (suc (suc n)))))) in
    let l : k ≤ 6 = leb-true k 6 (both (leb 1 k) (leb k 6) h).1 in
    omega arith

fields_of_event : (k t id price volume : ℕ) → Word price → within 1 6 k ≡ true → unused_zero (fields k t id price volume) ≡ true
    → event_fields (event_of (fields k t id price volume)) ≡ fields k t id price volume
unfolding event_fields event_of unused_zero
fields_of_event zero t id price volume h k u = absurd (false≢true k)
fields_of_event (suc zero) t id price volume h k u = rw (unsigned_signed price h) refl
fields_of_event (suc (suc zero)) t id price volume h k u = rw (unsigned_signed price h) refl
fields_of_event (suc (suc (suc zero))) t id price volume h k u = rw (unsigned_signed price h) refl
fields_of_event (suc (suc (suc (suc zero)))) t id price volume h k u = let z = zeros price volume u in rw (z.0, z.1) refl
fields_of_event (suc (suc (suc (suc (suc zero))))) t id price volume h k u = rw (eqb-true price 0 u) refl
fields_of_event (suc (suc (suc (suc (suc (suc zero)))))) t id price volume h k u =
    let z = zeros_3 id price volume u in
    rw (z.0, z.1, z.2) refl
fields_of_event (suc (suc (suc (suc (suc (suc (suc n))))))) t id price volume h k u = absurd (seventh n k)

-- ---- fields and their bytes

fields_of_bytes : (f : Fields) → Words f → fields_of (field_bytes f) ≡ f
unfolding fields_of field_bytes word_bytes
fields_of_bytes f h =
    rw
    (word_of_bytes f.t h.t, word_of_bytes f.id h.id, word_of_bytes f.price h.price, word_of_bytes f.volume h.volume)
    refl

-- the elements from a place on, one by one
at : (bytes : List ℕ) (i j : ℕ) → j ≡ i + 1 → i < length bytes → drop i bytes ≡ get_or bytes i 0 ∷ drop j bytes
at bytes i j e h = let s : j ≡ suc i = omega arith in rw s (drop-cons bytes i 0 h)

four : (bytes : List ℕ) (i : ℕ) → i + 4 ≤ length bytes
    → drop i bytes ≡ get_or bytes i 0 ∷ get_or bytes (i + 1) 0 ∷ get_or bytes (i + 2) 0 ∷ get_or bytes (i + 3) 0 ∷ drop (i + 4) bytes
four bytes i h =
    rw (
      at bytes i (i + 1) refl (omega arith),
      at bytes (i + 1) (i + 2) (omega arith) (omega arith),
      at bytes (i + 2) (i + 3) (omega arith)
          (omega arith),
      at bytes (i + 3) (i + 4) (omega arith) (omega arith),
    )
    refl

padded : {bytes : List ℕ} {k a b c : ℕ} (rest : List ℕ) → bytes ≡ k ∷ a ∷ b ∷ c ∷ rest → a ≡ 0 → b ≡ 0 → c ≡ 0
    → k ∷ 0 ∷ 0 ∷ 0 ∷ rest ≡ bytes
padded rest e p q r = rw (e, p, q, r) refl

module _ (bytes : List ℕ) (all : Bytes bytes) where
  word-at-fits : (i : ℕ) → Word (word_at bytes i)
  word-at-fits i =
      word_fits (get_or bytes i 0) (get_or bytes (i + 1) 0) (get_or bytes (i + 2) 0) (get_or bytes (i + 3) 0) (all i) (all (i + 1)) (all (i + 2))
      (all (i + 3))

  -- a word's bytes where the word is
  word_back : (i : ℕ) → i + 4 ≤ length bytes → word_bytes (word_at bytes i) ++ drop (i + 4) bytes ≡ drop i bytes
  word_back i h =
      rw
      (bytes_of-word (get_or bytes i 0) (get_or bytes (i + 1) 0) (get_or bytes (i + 2) 0) (get_or bytes (i + 3) 0) (all i) (all (i + 1))
      (all (i + 2)) (all (i + 3)))
      (sym (four bytes i h))

  last_word : length bytes ≡ 20 → word_bytes (word_at bytes 16) ≡ drop 16 bytes
  last_word h =
      let none : drop 20 bytes ≡ [] = rw h at (drop-length bytes) in
      let back : word_bytes (word_at bytes 16) ++ drop 20 bytes ≡ drop 16 bytes = word_back 16 (omega arith) in
      sym (append-nil (word_bytes (word_at bytes 16))) ∙ ap (λ l. word_bytes (word_at bytes 16) ++ l) (sym none) ∙ back

  first-four : length bytes ≡ 20 → padding_zero bytes ≡ true → get_or bytes 0 0 ∷ 0 ∷ 0 ∷ 0 ∷ drop 4 bytes ≡ bytes
  unfolding padding_zero
  first-four h z =
      let p = zeros_3 (get_or bytes 1 0) (get_or bytes 2 0) (get_or bytes 3 0) z in
      padded (drop 4 bytes) (four bytes 0 (omega arith)) p.0 p.1 p.2

  record_back : length bytes ≡ 20 → padding_zero bytes ≡ true → field_bytes (fields_of bytes) ≡ bytes
  unfolding field_bytes fields_of
  record_back h z =
      let a : word_bytes (word_at bytes 12) ++ drop 16 bytes ≡ drop 12 bytes = word_back 12 (omega arith) in
      let b : word_bytes (word_at bytes 8) ++ drop 12 bytes ≡ drop 8 bytes = word_back 8 (omega arith) in
      let c : word_bytes (word_at bytes 4) ++ drop 8 bytes ≡ drop 4 bytes = word_back 4 (omega arith) in
      rw (last_word h, a, b, c) (first-four h z)

-- ---- a good record

good_fields_lem : (f : Fields) → Words f → within 1 6 f.kind ≡ true → unused_zero f ≡ true → good_record (field_bytes f) ≡ true
unfolding good_record field_bytes word_bytes padding_zero
good_fields_lem f w k u = and (and (and {a = true} refl k) refl) (ap unused_zero (fields_of_bytes f w) ∙ u)

-- what makes a record good
record Good (bytes : List ℕ) : Type 0 where
  kind : within 1 6 (get_or bytes 0 0) ≡ true
  padding : padding_zero bytes ≡ true
  unused : unused_zero (fields_of bytes) ≡ true

good : (bytes : List ℕ) → good_record bytes ≡ true → Good bytes
unfolding good_record
good bytes h =
    let a = leb 20 (length bytes) in
    let b = within 1 6 (get_or bytes 0 0) in
    let c = padding_zero bytes in
    let x = both (a && b && c) (unused_zero (fields_of bytes)) h in
    let y = both (a && b) c x.0 in
    record { kind = (both a b y.0).1; padding = y.1; unused = x.1 }

said_back : (bytes : List ℕ) → Bytes bytes → Good bytes → event_fields (event_of (fields_of bytes)) ≡ fields_of bytes
unfolding fields_of
said_back bytes all g =
    fields_of_event (get_or bytes 0 0) (word_at bytes 4) (word_at bytes 8) (word_at bytes 12) (word_at bytes 16) (word-at-fits bytes all 12)
    g.kind g.unused

good_back : (bytes : List ℕ) → Bytes bytes → length bytes ≡ 20 → Good bytes → record_of (event_of (fields_of bytes)) ≡ bytes
unfolding record_of
good_back bytes all h g = ap field_bytes (said_back bytes all g) ∙ record_back bytes all h g.padding

by_test : (bytes : List ℕ) (e : Event) (b : Bool) → good_record bytes ≡ b
    → (if b then accepted (event_of (fields_of bytes)) else refused 15) ≡ accepted e → Good bytes × (event_of (fields_of bytes) ≡ e)
by_test bytes e true g r = (good bytes g, cc)
by_test bytes e false g r = absurd (not_refused e 15 (sym r))

accepted_good : (bytes : List ℕ) (e : Event) → read_record bytes ≡ accepted e → Good bytes × (event_of (fields_of bytes) ≡ e)
unfolding read_record
accepted_good bytes e r = by_test bytes e (good_record bytes) refl r

-- ---- the round trip

-- an event that is written and read is that event
pub read_written : (e : Event) → Fits e → read_record (record_of e) ≡ accepted e
unfolding read_record record_of
read_written e h =
    let w = event_words_lem e h in
    rw (good_fields_lem (event_fields e) w (event_kind e) (event_unused e), fields_of_bytes (event_fields e) w, event_of-fields e h) refl

-- a record that is read and written is that record
written_whole : (bytes : List ℕ) → Bytes bytes → length bytes ≡ 20 → (e : Event) → read_record bytes ≡ accepted e → record_of e ≡ bytes
written_whole bytes all h e r =
    let g = accepted_good bytes e r in
    ap record_of (sym g.1) ∙ good_back bytes all h g.0

bytes_front : (bytes : List ℕ) → Bytes bytes → Bytes (take 20 bytes)
bytes_front bytes all i = go (ltb i 20) refl
  where
    go : (b : Bool) → ltb i 20 ≡ b → get_or (take 20 bytes) i 0 < 256
    go true e = omega (arith, get_or-take 20 bytes i 0 (ltb-true i 20 e), all i)
    go false e =
        omega (arith, get_or-eq_default (take 20 bytes) 0 {n = i} (omega (arith, length-take 20 bytes, ltb-false i 20 e)))

-- only the first 20 bytes are looked at
module _ (bytes : List ℕ) (long : 20 ≤ length bytes) where
  front_at : (i : ℕ) → i < 20 → get_or (take 20 bytes) i 0 ≡ get_or bytes i 0
  front_at i h = get_or-take 20 bytes i 0 h

  front-word : (i : ℕ) → i + 3 < 20 → word_at (take 20 bytes) i ≡ word_at bytes i
  front-word i h = λ j.
      front_at i (omega arith) j + 256 * front_at (i + 1) (omega arith) j + 65536 * front_at (i + 2) (omega arith) j + 16777216 * front_at (i + 3) (omega arith) j

  front-fields : fields_of (take 20 bytes) ≡ fields_of bytes
  unfolding fields_of
  front-fields = λ j.
      fields (front_at 0 (omega arith) j) (front-word 4 (omega arith) j) (front-word 8 (omega arith) j) (front-word 12 (omega arith) j) (front-word 16 (omega arith) j)

  front_length : length (take 20 bytes) ≡ 20
  front_length = length-take-le 20 bytes long

  front_long : leb 20 (length (take 20 bytes)) ≡ leb 20 (length bytes)
  front_long = le-leb 20 (length (take 20 bytes)) (omega (arith, front_length)) ∙ sym (le-leb 20 (length bytes) long)

  front_good : good_record (take 20 bytes) ≡ good_record bytes
  unfolding good_record padding_zero
  front_good = λ j.
      front_long j && within 1 6 (front_at 0 (omega arith) j)
      && (eqb (front_at 1 (omega arith) j) 0 && eqb (front_at 2 (omega arith) j) 0 && eqb (front_at 3 (omega arith) j) 0)
      && unused_zero (front-fields j)

  front_read : read_record (take 20 bytes) ≡ read_record bytes
  unfolding read_record
  front_read = λ j. if front_good j then accepted (event_of (front-fields j)) else refused 15

-- a record that is read and written is that record, and so are the first 20 bytes of a longer part
pub written_read : (bytes : List ℕ) → Bytes bytes → 20 ≤ length bytes → (e : Event) → read_record bytes ≡ accepted e → record_of e ≡ take 20 bytes
written_read bytes all h e r =
    written_whole (take 20 bytes) (bytes_front bytes all) (front_length bytes h) e (front_read bytes h ∙ r)
