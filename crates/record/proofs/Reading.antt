-- The laws that the reader's functions use.
use Rattle.std.specs.Prelude.{if◌then◌else◌}
use Prim.Native.Nat.{ℕ, ◌+◌, ◌*◌, ◌≤◌, ◌<◌}
use native.Mathlib.Omega.{arith}
use mathlib.Core.Path.{◌≡◌, refl, ap, sym, ◌∙◌}
use mathlib.Core.List.{List}
use mathlib.Core.Bool.{Bool, true, false, ◌&&◌, and-true, and-false, false≢true}
use borrow.Author.Tests.{ne_eqb, le-leb, lt-leb, leb-true, eqb-true, eq-eqb}
use lib.Dec.{eqb, leb}
use lib.ListN.{length, get_or}
use Rattle.rules.specs.declared.Steps.{Steps}
use Rattle.rules.specs.declared.Side.TheVariants.{Buy, Sell}
use Rattle.rules.specs.declared.Event.{Event}
use Rattle.rules.specs.declared.Event.TheVariants.{Add, Amend, Cancel, Deal, Tick}
use Rattle.lists.specs.Lists.{within}
use Rattle.rules.specs.Units.{millis, steps, contracts}
use Rattle.rules.specs.Widths.{Word}
use Rattle.rules.specs.Orders.{time_of}
use Rattle.rules.specs.Answers.{Outcome, accepted, refused}
use Rattle.rules.specs.Records.{word_at, signed_of, unsigned_of, fields_of, event_of, unused_zero, padding_zero, good_record, read_record}
use Rattle.lists.proofs.Lists.{both}
use Rattle.rules.proofs.Records.{unsigned_signed}
use Rattle.record.specs.declared.Fields.{Fields}
use Rattle.record.specs.Fields.{fields_in, fields_for, good_fields, event_by, read_fields}

-- the words at their places
pub fields_are : (bytes : List ℕ) {kind t id : ℕ} {price : Steps} {volume : ℕ} → kind ≡ word_at bytes 0 → t ≡ word_at bytes 4 → id ≡ word_at bytes 8
    → price ≡ steps (signed_of (word_at bytes 12)) → volume ≡ word_at bytes 16
    → ◌≡◌ {A = Fields} (record { kind = kind; t = millis t; id = id; price = price; volume = contracts volume }) (fields_in bytes)
unfolding fields_in
fields_are bytes k t i p v = λ j. record { kind = k j; t = millis (t j); id = i j; price = p j; volume = contracts (v j) }

-- ---- good fields, by their kind
module _ (f : Fields) where
  pub good_tick : {a b c : Bool} → f.kind ≡ 6 → a ≡ eqb f.id 0 → b ≡ eqb (unsigned_of f.price.0) 0 → c ≡ eqb f.volume.0 0
      → a && b && c ≡ good_fields f
  unfolding good_fields unused_zero
  good_tick e h k l = rw (e, h, k, l) refl

  pub good_other : {a : Bool} → (f.kind ≡ 4 → ⊥) → (f.kind ≡ 5 → ⊥) → (f.kind ≡ 6 → ⊥) → a ≡ within 1 6 f.kind → a ≡ good_fields f
  unfolding good_fields unused_zero
  good_other x y z h = rw (ne_eqb f.kind 4 x, ne_eqb f.kind 5 y, ne_eqb f.kind 6 z) (h ∙ sym (and-true (within 1 6 f.kind)))

-- ---- the event of each kind
module _ (f : Fields) where
  pub buy_of : {e : Event} → e ≡ Add f.t f.id Buy f.price f.volume → f.kind ≡ 1 → e ≡ event_by f
  unfolding event_by
  buy_of h k = rw k h

  pub sell_of : {e : Event} → e ≡ Add f.t f.id Sell f.price f.volume → f.kind ≡ 2 → e ≡ event_by f
  unfolding event_by
  sell_of h k = rw k h

  pub amend_of_lem : f.kind ≡ 3 → Amend f.t f.id f.price f.volume ≡ event_by f
  unfolding event_by
  amend_of_lem k = rw k refl

  pub cancel_of_lem : f.kind ≡ 4 → Cancel f.t f.id ≡ event_by f
  unfolding event_by
  cancel_of_lem k = rw k refl

  pub deal_of : f.kind ≡ 5 → Deal f.t f.id f.volume ≡ event_by f
  unfolding event_by
  deal_of k = rw k refl

-- ---- what fields say, by the test
module _ (f : Fields) where
  pub says : good_fields f ≡ true → {e : Event} → e ≡ event_by f → accepted e ≡ read_fields f
  unfolding read_fields
  says h k = rw (h, k) refl

  pub says_not : good_fields f ≡ false → ◌≡◌ {A = Outcome Event} (refused 15) (read_fields f)
  unfolding read_fields
  says_not h = rw h refl

  -- 15 is the only number that refuses them
  pub only_fifteen : (n : ℕ) → read_fields f ≡ refused n → n ≡ 15
  unfolding read_fields
  only_fifteen n = go (good_fields f)
    where
      go : (b : Bool) → (if b then accepted (event_by f) else refused 15) ≡ refused n → n ≡ 15
      go true e = let z : ◌≡◌ {A = ℕ} 0 1 = cc in absurd (omega arith)
      go false e = cc

  pub tick_by : f.kind ≡ 6 → Tick f.t ≡ event_by f
  unfolding event_by
  tick_by k = rw k refl

  -- the event has the fields' time
  pub time_by : f.t.0 ≡ time_of (event_by f)
  unfolding event_by
  time_by = go (eqb f.kind 1) (eqb f.kind 2) (eqb f.kind 3) (eqb f.kind 4) (eqb f.kind 5)
    where
      go : (a b c d e : Bool)
          → f.t.0
          ≡ time_of
          (if a then Add f.t f.id Buy f.price f.volume else if b then Add f.t f.id Sell f.price f.volume
          else if c then Amend f.t f.id f.price f.volume else if d then Cancel f.t f.id
          else if e then Deal f.t f.id f.volume else Tick f.t)
      go true b c d e = refl
      go false true c d e = refl
      go false false true d e = refl
      go false false false true e = refl
      go false false false false true = refl
      go false false false false false = refl

  pub timed : (e : Event) → read_fields f ≡ accepted e → f.t.0 ≡ time_of e
  unfolding read_fields
  timed e = go (good_fields f)
    where
      go : (b : Bool) → (if b then accepted (event_by f) else refused 15) ≡ accepted e → f.t.0 ≡ time_of e
      go true h = let same : event_by f ≡ e = cc in time_by ∙ ap time_of same
      go false h = let z : ◌≡◌ {A = ℕ} 0 1 = cc in absurd (omega arith)

-- the fields of an event say it
pub fields_say : (e : Event) → read_fields (fields_for e) ≡ accepted e
unfolding read_fields good_fields event_by unused_zero unsigned_of
fields_say (Add t id Buy price volume) = refl
fields_say (Add t id Sell price volume) = refl
fields_say (Amend t id price volume) = refl
fields_say (Cancel t id) = refl
fields_say (Deal t id volume) = refl
fields_say (Tick t) = refl

-- ---- the fields of a record say what the record does

-- the first word is its low byte where the padding is zero, and no kind where not
padded : (a b c d : ℕ) → eqb b 0 && eqb c 0 && eqb d 0 ≡ true → a + 256 * b + 65536 * c + 16777216 * d ≡ a
padded a b c d h =
    let k = both (eqb b 0 && eqb c 0) (eqb d 0) h in
    let l = both (eqb b 0) (eqb c 0) k.0 in
    let x = eqb-true b 0 l.0 in
    let y = eqb-true c 0 l.1 in
    let z = eqb-true d 0 k.1 in
    omega arith

small : (a b c d : ℕ) → a + 256 * b + 65536 * c + 16777216 * d ≤ 6 → eqb b 0 && eqb c 0 && eqb d 0 ≡ true
small a b c d h = rw (eq-eqb b 0 (omega (arith, h)), eq-eqb c 0 (omega (arith, h)), eq-eqb d 0 (omega (arith, h))) refl

module _ (bytes : List ℕ) (long : 20 ≤ length bytes) (fits : Word (word_at bytes 12)) where
  abbrev first : ℕ
  first = word_at bytes 0

  -- the padding is zero
  kind_alone : padding_zero bytes ≡ true → read_fields (fields_in bytes) ≡ read_record bytes
  unfolding read_fields good_fields event_by fields_in read_record good_record event_of fields_of padding_zero
  kind_alone h =
      rw
      (h, le-leb 20 (length bytes) long, padded (get_or bytes 0 0) (get_or bytes 1 0) (get_or bytes 2 0) (get_or bytes 3 0) h, unsigned_signed (word_at bytes 12) fits, and-true (within 1 6 (get_or bytes 0 0)))
      refl

  -- it is not
  no_kind : padding_zero bytes ≡ false → within 1 6 first ≡ false
  unfolding padding_zero
  no_kind h = go (leb first 6) refl
    where
      go : (b : Bool) → leb first 6 ≡ b → leb 1 first && b ≡ false
      go false e = and-false (leb 1 first)
      go true e =
          absurd (false≢true (sym h ∙ (small (get_or bytes 0 0) (get_or bytes 1 0) (get_or bytes 2 0) (get_or bytes 3 0) (leb-true first 6 e))))

  kind_broken : padding_zero bytes ≡ false → read_fields (fields_in bytes) ≡ read_record bytes
  unfolding read_fields good_fields fields_in read_record good_record
  kind_broken h = rw (no_kind h, h, le-leb 20 (length bytes) long, and-false (within 1 6 (get_or bytes 0 0))) refl

  pub fields_read : read_fields (fields_in bytes) ≡ read_record bytes
  fields_read = go (padding_zero bytes) refl
    where
      go : (b : Bool) → padding_zero bytes ≡ b → read_fields (fields_in bytes) ≡ read_record bytes
      go true e = kind_alone e
      go false e = kind_broken e

-- a record cut short
pub cut_short : (bytes : List ℕ) → length bytes < 20 → ◌≡◌ {A = Outcome Event} (refused 15) (read_record bytes)
unfolding read_record good_record
cut_short bytes h = rw (lt-leb 20 (length bytes) h) refl
