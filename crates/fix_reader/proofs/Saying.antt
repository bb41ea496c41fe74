-- The values of a message one after the other: the first that is missing makes it unreadable.
use Rattle.std.proofs.Common.{Option, None, Some, option_map}
use Prim.Native.Nat.{ℕ}
use mathlib.Core.Path.{◌≡◌, refl, ◌∙◌}
use mathlib.Core.List.{List}
use lib.IntN.{ℤ}
use Rattle.rules.specs.declared.Side.{Side}
use Rattle.rules.specs.declared.Contracts.{Contracts}
use Rattle.rules.specs.declared.Steps.{Steps}
use Rattle.rules.specs.declared.Timestamp.{Timestamp}
use Rattle.rules.specs.Units.{steps, contracts}
use Rattle.rules.specs.Digits.{word_in, steps_in}
use Rattle.rules.specs.Dates.{time_in}
use Rattle.rules.specs.Fields.{Field, values_of}
use Rattle.rules.specs.Frame.{new, cancel, replace}
use Rattle.rules.specs.Messages.{id_tag, orig_tag, side_tag, volume_tag, price_tag, time_tag, Message, new_order, cancel_order, replace_order, once, side_in, ◌>>=◌, message_of}
use Rattle.fix_reader.specs.declared.Terms.{Terms}
use Rattle.fix_reader.specs.Internal.{terms_by, terms_in}

-- ---- 54, 38 and 44
abbrev terms_of : Option Side → Option ℕ → Option Steps → Option Terms
terms_of s v p = s >>= λ side. v >>= λ volume. p >>= λ price. Some (record { side = side; volume = contracts volume; price = price })

priced : (s : Option Side) (v : Option ℕ) (p : Option ℤ) → terms_of s v (option_map steps p) ≡ terms_by s v p
priced None v p = refl
priced (Some s) None p = refl
priced (Some s) (Some v) None = refl
priced (Some s) (Some v) (Some p) = refl

pub terms_say : (fs : List Field) (s : Option Side) (v : Option ℕ) (p : Option Steps) → s ≡ once side_in (values_of side_tag fs) → v ≡ once word_in (values_of volume_tag fs)
    → p ≡ option_map steps (once steps_in (values_of price_tag fs)) → terms_of s v p ≡ terms_in fs
unfolding terms_in
terms_say fs s v p a b c =
    (λ j. terms_of (a j) (b j) (c j))
    ∙ priced (once side_in (values_of side_tag fs)) (once word_in (values_of volume_tag fs)) (once steps_in (values_of price_tag fs))

-- the three in a row, or together
grouped : {X : Type 0} (s : Option Side) (v : Option ℕ) (p : Option ℤ) (f : Side → Contracts → Steps → Option X)
    → (terms_by s v p >>= λ t. f t.side t.volume t.price) ≡ (s >>= λ side. v >>= λ volume. p >>= λ price. f side (contracts volume) (steps price))
grouped None v p f = refl
grouped (Some s) None p f = refl
grouped (Some s) (Some v) None f = refl
grouped (Some s) (Some v) (Some p) f = refl

-- ---- a message
abbrev new_by : Option ℕ → Option Terms → Option Timestamp → Option (Message Timestamp)
new_by i o t = i >>= λ id. o >>= λ x. t >>= λ time. Some (new_order id x.side x.volume x.price time)

abbrev cancel_by : Option ℕ → Option ℕ → Option Timestamp → Option (Message Timestamp)
cancel_by i o t = i >>= λ id. o >>= λ orig. t >>= λ time. Some (cancel_order id orig time)

abbrev replace_by : Option ℕ → Option ℕ → Option Terms → Option Timestamp → Option (Message Timestamp)
replace_by i g o t = i >>= λ id. g >>= λ orig. o >>= λ x. t >>= λ time. Some (replace_order id orig x.side x.volume x.price time)

module _ (fs : List Field) where
  new_is : new_by (once word_in (values_of id_tag fs)) (terms_in fs) (once time_in (values_of time_tag fs)) ≡ message_of new fs
  unfolding message_of terms_in
  new_is = by (once word_in (values_of id_tag fs))
    where
      by : (i : Option ℕ)
          → new_by i (terms_by (once side_in (values_of side_tag fs)) (once word_in (values_of volume_tag fs)) (once steps_in (values_of price_tag fs))) (once time_in (values_of time_tag fs))
          ≡ (i >>= λ id. once side_in (values_of side_tag fs) >>= λ side. once word_in (values_of volume_tag fs) >>= λ volume. once steps_in (values_of price_tag fs) >>= λ price. once time_in (values_of time_tag fs) >>= λ time. Some (new_order id side (contracts volume) (steps price) time))
      by None = refl
      by (Some id) = grouped (once side_in (values_of side_tag fs)) (once word_in (values_of volume_tag fs)) (once steps_in (values_of price_tag fs)) (λ s v p. once time_in (values_of time_tag fs) >>= λ time. Some (new_order id s v p time))

  replace_is : replace_by (once word_in (values_of id_tag fs)) (once word_in (values_of orig_tag fs)) (terms_in fs) (once time_in (values_of time_tag fs)) ≡ message_of replace fs
  unfolding message_of terms_in
  replace_is = by (once word_in (values_of id_tag fs)) (once word_in (values_of orig_tag fs))
    where
      by : (i g : Option ℕ)
          → replace_by i g (terms_by (once side_in (values_of side_tag fs)) (once word_in (values_of volume_tag fs)) (once steps_in (values_of price_tag fs))) (once time_in (values_of time_tag fs))
          ≡ (i >>= λ id. g >>= λ orig. once side_in (values_of side_tag fs) >>= λ side. once word_in (values_of volume_tag fs) >>= λ volume. once steps_in (values_of price_tag fs) >>= λ price. once time_in (values_of time_tag fs) >>= λ time. Some (replace_order id orig side (contracts volume) (steps price) time))
      by None g = refl
      by (Some id) None = refl
      by (Some id) (Some orig) = grouped (once side_in (values_of side_tag fs)) (once word_in (values_of volume_tag fs)) (once steps_in (values_of price_tag fs)) (λ s v p. once time_in (values_of time_tag fs) >>= λ time. Some (replace_order id orig s v p time))

  -- what is answered, by the values that the code holds
  pub new_says : (i : Option ℕ) (o : Option Terms) (t : Option Timestamp) → i ≡ once word_in (values_of id_tag fs) → o ≡ terms_in fs → t ≡ once time_in (values_of time_tag fs)
      → new_by i o t ≡ message_of new fs
  new_says i o t a b c = (λ j. new_by (a j) (b j) (c j)) ∙ new_is

  pub cancel_says : (i o : Option ℕ) (t : Option Timestamp) → i ≡ once word_in (values_of id_tag fs) → o ≡ once word_in (values_of orig_tag fs) → t ≡ once time_in (values_of time_tag fs)
      → cancel_by i o t ≡ message_of cancel fs
  unfolding message_of
  cancel_says i o t a b c = λ j. cancel_by (a j) (b j) (c j)

  pub replace_says : (i g : Option ℕ) (o : Option Terms) (t : Option Timestamp) → i ≡ once word_in (values_of id_tag fs) → g ≡ once word_in (values_of orig_tag fs)
      → o ≡ terms_in fs → t ≡ once time_in (values_of time_tag fs)
      → replace_by i g o t ≡ message_of replace fs
  replace_says i g o t a b c d = (λ j. replace_by (a j) (b j) (c j) (d j)) ∙ replace_is
