-- What every message that was read keeps: its time is a time, and its numbers are of 32 bits.
use Rattle.std.specs.Prelude.{if◌then◌else◌, Option, None, Some}
use Prim.Native.Nat.{ℕ, zero, suc}
use native.Mathlib.Omega.{arith}
use mathlib.Core.Path.{◌≡◌, refl, subst, sym, ap, ◌∙◌}
use mathlib.Core.Bool.{Bool, true, false}
use mathlib.Core.List.{List, [], ◌∷◌}
use borrow.Author.Tests.{ltb-true}
use lib.Dec.{ltb, eqb}
use lib.IntN.{ℤ, pos, negsuc}
use Rattle.rules.specs.declared.Timestamp.{Timestamp}
use Rattle.rules.specs.Units.{steps, contracts}
use Rattle.rules.specs.Widths.{Word, SignedWord}
use Rattle.rules.specs.Answers.{Outcome, accepted, refused}
use Rattle.rules.specs.Digits.{in_digits, word_within, word_in, positive, negative, steps_in}
use Rattle.rules.specs.Dates.{time_in, Moment, moment_from}
use Rattle.rules.specs.Fields.{Field, values_of}
use Rattle.rules.specs.Frame.{Kind, new, cancel, replace, Body, body_in}
use Rattle.rules.specs.declared.Side.{Side}
use Rattle.rules.specs.Messages.{id_tag, orig_tag, side_tag, volume_tag, price_tag, time_tag, side_in, Message, new_order, cancel_order, replace_order, once, ◌>>=◌, message_of, readable, read_body, read_message, time_of, with_time}
use Rattle.rules.specs.MessageCalls.{timed_from, timed, message_in}
use Rattle.fix_dates.specs.Times.{Timed}
use Rattle.fix_dates.proofs.Reading.{timed as time_timed}

-- ---- one value
none_some : {A : Type 0} {a : A} → None ≡ Some a → ⊥
none_some e = let z : ◌≡◌ {A = ℕ} 0 1 = cc in omega arith

-- what holds of all that is read holds of the one value
once-holds : {A : Type 0} (P : A → Type 0) (read : List ℕ → Option A) → ((v : List ℕ) (a : A) → read v ≡ Some a → P a)
    → (vs : List (List ℕ)) (a : A) → once read vs ≡ Some a → P a
once-holds P read h [] a e = absurd (none_some e)
once-holds P read h (v ∷ []) a e = h v a e
once-holds P read h (v ∷ w ∷ vs) a e = absurd (none_some e)

-- ---- numbers
word_fits : (v : List ℕ) (n : ℕ) → word_in v ≡ Some n → Word n
unfolding word_in
word_fits v n e = by (in_digits v) e
  where
    small : (m : ℕ) (t : Bool) → ltb m 4294967296 ≡ t → (if t then Some m else None) ≡ Some n → Word n
    small m true h e = let is : m ≡ n = cc in subst Word is (ltb-true m 4294967296 h)
    small m false h e = absurd (none_some e)

    by : (o : Option ℕ) → word_within o ≡ Some n → Word n
    by None e = absurd (none_some e)
    by (Some m) e = small m (ltb m 4294967296) refl e

steps_fit : (v : List ℕ) (z : ℤ) → steps_in v ≡ Some z → SignedWord z
unfolding steps_in
steps_fit [] z e = absurd (none_some e)
steps_fit (b ∷ bs) z e = by (eqb b 45) e
  where
    up : (m : ℕ) (t : Bool) → ltb m 2147483648 ≡ t → (if t then Some (pos m) else None) ≡ Some z → SignedWord z
    up m true h e = let is : pos m ≡ z = cc in subst SignedWord is (ltb-true m 2147483648 h)
    up m false h e = absurd (none_some e)

    down : (m : ℕ) (t : Bool) → ltb m 2147483648 ≡ t → (if t then Some (negsuc m) else None) ≡ Some z → SignedWord z
    down m true h e = let is : negsuc m ≡ z = cc in subst SignedWord is (ltb-true m 2147483648 h)
    down m false h e = absurd (none_some e)

    positives : (o : Option ℕ) → positive o ≡ Some z → SignedWord z
    positives None e = absurd (none_some e)
    positives (Some m) e = up m (ltb m 2147483648) refl e

    negatives : (o : Option ℕ) → negative o ≡ Some z → SignedWord z
    negatives None e = absurd (none_some e)
    negatives (Some zero) e = absurd (none_some e)
    negatives (Some (suc m)) e = down m (ltb m 2147483648) refl e

    by : (t : Bool) → (if t then negative (in_digits bs) else positive (in_digits (b ∷ bs))) ≡ Some z → SignedWord z
    by true e = negatives (in_digits bs) e
    by false e = positives (in_digits (b ∷ bs)) e

-- ---- a message
abbrev pub MessageFits : Message Timestamp → Type 0
MessageFits (new_order id side volume price time) = Word id × Word volume.0 × SignedWord price.0 × Timed time
MessageFits (cancel_order id orig time) = Word id × Word orig × Timed time
MessageFits (replace_order id orig side volume price time) = Word id × Word orig × Word volume.0 × SignedWord price.0 × Timed time

some_is : {A : Type 0} {a b : A} → Some a ≡ Some b → a ≡ b
some_is e = cc

-- each of its values in turn
new-fits : (i : Option ℕ) (s : Option Side) (v : Option ℕ) (p : Option ℤ) (t : Option Timestamp) (m : Message Timestamp)
    → ((n : ℕ) → i ≡ Some n → Word n) → ((n : ℕ) → v ≡ Some n → Word n) → ((z : ℤ) → p ≡ Some z → SignedWord z) → ((x : Timestamp) → t ≡ Some x → Timed x)
    → (i >>= λ id. s >>= λ side. v >>= λ volume. p >>= λ price. t >>= λ time. Some (new_order id side (contracts volume) (steps price) time)) ≡ Some m
    → MessageFits m
new-fits None s v p t m a b c d e = absurd (none_some e)
new-fits (Some i) None v p t m a b c d e = absurd (none_some e)
new-fits (Some i) (Some s) None p t m a b c d e = absurd (none_some e)
new-fits (Some i) (Some s) (Some v) None t m a b c d e = absurd (none_some e)
new-fits (Some i) (Some s) (Some v) (Some p) None m a b c d e = absurd (none_some e)
new-fits (Some i) (Some s) (Some v) (Some p) (Some t) m a b c d e =
    let f : MessageFits (new_order i s (contracts v) (steps p) t) = (a i refl, b v refl, c p refl, d t refl) in
    subst MessageFits (some_is e) f

cancel_fits : (i o : Option ℕ) (t : Option Timestamp) (m : Message Timestamp)
    → ((n : ℕ) → i ≡ Some n → Word n) → ((n : ℕ) → o ≡ Some n → Word n) → ((x : Timestamp) → t ≡ Some x → Timed x)
    → (i >>= λ id. o >>= λ orig. t >>= λ time. Some (cancel_order id orig time)) ≡ Some m
    → MessageFits m
cancel_fits None o t m a b c e = absurd (none_some e)
cancel_fits (Some i) None t m a b c e = absurd (none_some e)
cancel_fits (Some i) (Some o) None m a b c e = absurd (none_some e)
cancel_fits (Some i) (Some o) (Some t) m a b c e =
    let f : MessageFits (cancel_order i o t) = (a i refl, b o refl, c t refl) in
    subst MessageFits (some_is e) f

replace_fits : (i o : Option ℕ) (s : Option Side) (v : Option ℕ) (p : Option ℤ) (t : Option Timestamp) (m : Message Timestamp)
    → ((n : ℕ) → i ≡ Some n → Word n) → ((n : ℕ) → o ≡ Some n → Word n) → ((n : ℕ) → v ≡ Some n → Word n) → ((z : ℤ) → p ≡ Some z → SignedWord z)
    → ((x : Timestamp) → t ≡ Some x → Timed x)
    → (i >>= λ id. o >>= λ orig. s >>= λ side. v >>= λ volume. p >>= λ price. t >>= λ time. Some (replace_order id orig side (contracts volume) (steps price) time)) ≡ Some m
    → MessageFits m
replace_fits None o s v p t m a b c d f e = absurd (none_some e)
replace_fits (Some i) None s v p t m a b c d f e = absurd (none_some e)
replace_fits (Some i) (Some o) None v p t m a b c d f e = absurd (none_some e)
replace_fits (Some i) (Some o) (Some s) None p t m a b c d f e = absurd (none_some e)
replace_fits (Some i) (Some o) (Some s) (Some v) None t m a b c d f e = absurd (none_some e)
replace_fits (Some i) (Some o) (Some s) (Some v) (Some p) None m a b c d f e = absurd (none_some e)
replace_fits (Some i) (Some o) (Some s) (Some v) (Some p) (Some t) m a b c d f e =
    let g : MessageFits (replace_order i o s (contracts v) (steps p) t) = (a i refl, b o refl, c v refl, d p refl, f t refl) in
    subst MessageFits (some_is e) g

one_word : (vs : List (List ℕ)) (n : ℕ) → once word_in vs ≡ Some n → Word n
one_word = once-holds Word word_in word_fits

one_price : (vs : List (List ℕ)) (z : ℤ) → once steps_in vs ≡ Some z → SignedWord z
one_price = once-holds SignedWord steps_in steps_fit

one_time : (vs : List (List ℕ)) (t : Timestamp) → once time_in vs ≡ Some t → Timed t
one_time = once-holds Timed time_in time_timed

body_fits : (k : Kind) (fs : List Field) (m : Message Timestamp) → message_of k fs ≡ Some m → MessageFits m
unfolding message_of
body_fits new fs m e =
    new-fits (once word_in (values_of id_tag fs)) (once side_in (values_of side_tag fs)) (once word_in (values_of volume_tag fs)) (once steps_in (values_of price_tag fs))
    (once time_in (values_of time_tag fs)) m (one_word (values_of id_tag fs)) (one_word (values_of volume_tag fs)) (one_price (values_of price_tag fs)) (one_time (values_of time_tag fs)) e
body_fits cancel fs m e =
    cancel_fits (once word_in (values_of id_tag fs)) (once word_in (values_of orig_tag fs)) (once time_in (values_of time_tag fs)) m (one_word (values_of id_tag fs))
    (one_word (values_of orig_tag fs)) (one_time (values_of time_tag fs)) e
body_fits replace fs m e =
    replace_fits (once word_in (values_of id_tag fs)) (once word_in (values_of orig_tag fs)) (once side_in (values_of side_tag fs)) (once word_in (values_of volume_tag fs))
    (once steps_in (values_of price_tag fs)) (once time_in (values_of time_tag fs)) m (one_word (values_of id_tag fs)) (one_word (values_of orig_tag fs))
    (one_word (values_of volume_tag fs)) (one_price (values_of price_tag fs)) (one_time (values_of time_tag fs)) e

refused_accepted : {A : Type 0} {n : ℕ} {a : A} → refused n ≡ accepted a → ⊥
refused_accepted e = let z : ◌≡◌ {A = ℕ} 0 1 = cc in omega arith

pub read_fits : (b : List ℕ) (m : Message Timestamp) → read_message b ≡ accepted m → MessageFits m
unfolding read_message
read_fits b m e = by (body_in b) e
  where
    inner : (o : Option (Message Timestamp)) (k : Kind) (fs : List Field) → message_of k fs ≡ o → readable o ≡ accepted m → MessageFits m
    inner None k fs q e = absurd (refused_accepted e)
    inner (Some x) k fs q e = let is : x ≡ m = cc in subst MessageFits is (body_fits k fs x q)

    by : (o : Option Body) → read_body o ≡ accepted m → MessageFits m
    by None e = absurd (refused_accepted e)
    by (Some body) e = inner (message_of body.kind body.fields) body.kind body.fields refl e

pub read_timed : (b : List ℕ) (m : Message Timestamp) → read_message b ≡ accepted m → Timed (time_of m)
read_timed b m e = by m (read_fits b m e)
  where
    by : (m : Message Timestamp) → MessageFits m → Timed (time_of m)
    by (new_order id side volume price time) f = f.3
    by (cancel_order id orig time) f = f.2
    by (replace_order id orig side volume price time) f = f.4

-- ---- a message at its time from the start
-- the message at a time, or why its time is none
abbrev at_time : (Moment → Message Moment) → Outcome Moment → Outcome (Message Moment)
at_time say (refused n) = refused n
at_time say (accepted t) = accepted (say t)

pub read_at : (start bytes : List ℕ) (m : Message Timestamp) (when : Outcome Moment) → accepted m ≡ read_message bytes
    → when ≡ moment_from (time_in start) (Some (time_of m)) → at_time (with_time m) when ≡ message_in start bytes
unfolding message_in
read_at start bytes m when r w = ap (at_time (with_time m)) w ∙ sym (go (time_in start)) ∙ ap (timed start) r
  where
    go : (o : Option Timestamp) → timed_from o m ≡ at_time (with_time m) (moment_from o (Some (time_of m)))
    go None = refl
    go (Some s) = refl

pub unread_is : (start bytes : List ℕ) (n : ℕ) → refused n ≡ read_message bytes → refused n ≡ message_in start bytes
unfolding message_in
unread_is start bytes n r = ap (timed start) r
