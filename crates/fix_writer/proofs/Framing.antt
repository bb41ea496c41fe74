-- The frame laid around the fields, and the text that is answered.
use Rattle.std.specs.Prelude.{if◌then◌else◌, Option, None, Some, is_some, Ok, Err}
use Prim.Native.Nat.{ℕ, ◌-◌, ◌%◌, ◌≤◌}
use native.Mathlib.Omega.{arith}
use mathlib.Core.Path.{◌≡◌, refl, sym, ap, subst, ◌∙◌}
use mathlib.Core.Bool.{Bool, true, false, ◌&&◌, true≢false}
use mathlib.Core.List.{List, [], ◌∷◌, ◌++◌, append_assoc, append-nil}
use lib.ListN.{length, take, replicate, length-append, length-replicate}
use lib.Seq.{take-append_seam, drop-append_seam}
use Rattle.rules.specs.declared.Side.{Side}
use Rattle.rules.specs.declared.Contracts.{Contracts}
use Rattle.rules.specs.declared.Steps.{Steps}
use Rattle.rules.specs.declared.Timestamp.{Timestamp}
use Rattle.lists.specs.Lists.{sum}
use Rattle.rules.specs.Answers.{accepted, refused}
use Rattle.rules.specs.declared.Refusal.TheVariants.{FieldWrong}
use borrow.Author.Rules.{rules}
use Rattle.rules.specs.Digits.{decimal_of, three_digits}
use Rattle.rules.specs.Dates.{form, has_form, parts_of, good_date, good_clock, time_in}
use Rattle.rules.specs.Fields.{Field, field_bytes, fields_bytes}
use Rattle.rules.specs.Frame.{version_tag, length_tag, type_tag, checksum_tag, version, new, cancel, replace, kind_text}
use Rattle.rules.specs.Messages.{Message, new_order, cancel_order, replace_order, id_tag, orig_tag, time_tag, terms_fields, kind_of, time_of, field_with, written_fields, checked_by, counted_by, message_bytes, written_by, write_message}
use Rattle.fix_dates.proofs.Forms.{form-length}
use Rattle.fix_writer.specs.declared.MessageText.{MessageText}
use Rattle.fix_writer.specs.Answers.{Writes}
use Rattle.fix_writer.specs.Internal.{Laid, head_bytes, tail_bytes, framed_bytes, text_of, is_time}
use Rattle.fix_writer.proofs.Laying.{join, named, before, whole, whole-front, zeros_left}
use Rattle.fix_writer.proofs.Decimals.{two_digits}

-- ---- 8 and 9 before the fields, 10 behind
pub head-length : (n : ℕ) → 10 ≤ n → n ≤ 99 → length (head_bytes n) ≡ 15
unfolding head_bytes field_bytes
head-length n h g = omega (arith, two_digits n h g, length-append (decimal_of n) (1 ∷ []))

-- what was laid in, from zeros
pub record Text (n : ℕ) (t : List ℕ) (len : ℕ) (e : List ℕ) : Type 0 where
  pub most : length t ≤ n
  pub bytes : e ≡ t ++ replicate (n - length t) 0
  pub long : len ≡ length t

text_of_lem : (n : ℕ) (t : List ℕ) (len : ℕ) (e : List ℕ) → Laid (replicate n 0) 0 t len e → Text n t len e
text_of_lem n t len e a =
    record {
      most = omega (arith, a.fits, length-replicate {A = ℕ} n 0);
      bytes = whole (replicate n 0) t len e a ∙ ap (λ (l : List ℕ). t ++ l) (zeros_left (length t) n);
      long = omega (arith, a.place);
    }

module _ (n : ℕ) (start mid fin : List ℕ) (end r len s : ℕ) (body : List ℕ) where
  pub closing : 25 ≤ end → end ≤ 107 → Laid start 0 (head_bytes (end - 15)) r mid → s ≡ sum (take end mid) % 256
      → Laid mid end (field_bytes (field_with checksum_tag (three_digits s))) len fin → Laid (replicate n 0) 15 body end start
      → Text n (framed_bytes body) len fin
  unfolding framed_bytes tail_bytes
  closing low high head sums tail laid =
      let size : end - 15 ≡ length body = omega (arith, laid.place) in
      let fifteen : length (head_bytes (length body)) ≡ 15 = head-length (length body) (omega (arith, laid.place)) (omega (arith, laid.place)) in
      let fifteen' : length (head_bytes (end - 15)) ≡ 15 = head-length (end - 15) (omega arith) (omega arith) in
      let next : r ≡ 15 = omega (arith, head.place) in
      let head' : Laid start 0 (head_bytes (length body)) 15 mid = subst (λ (k : ℕ). Laid start 0 (head_bytes k) 15 mid) size (subst (λ (k : ℕ). Laid start 0 (head_bytes (end - 15)) k mid) next head) in
      let front : List ℕ = head_bytes (length body) ++ body in
      let all : Laid (replicate n 0) 0 front end mid = before (replicate n 0) 15 end (head_bytes (length body)) body start mid fifteen laid head' in
      let says : s ≡ sum front % 256 = sums ∙ ap (λ (l : List ℕ). sum l % 256) (whole-front (replicate n 0) front end mid all) in
      text_of_lem n (front ++ tail_bytes front) len fin
      (join (replicate n 0) 0 all (named mid end (ap (λ (k : ℕ). field_bytes (field_with checksum_tag (three_digits k))) says) tail))

pub closed_text : (t : List ℕ) (len : ℕ) (e : List ℕ) → Text 114 t len e
    → (◌≡◌ {A = MessageText} (record { bytes = e; length = len }) (text_of t)) × (length t ≤ 114)
closed_text t len e a = ((λ i. record { bytes = a.bytes i; length = a.long i }), a.most)

-- ---- the definition says the same bytes
pub fields-append : (fs gs : List Field) → fields_bytes (fs ++ gs) ≡ fields_bytes fs ++ fields_bytes gs
unfolding fields_bytes
fields-append [] gs = refl
fields-append (f ∷ fs) gs = ap (λ (l : List ℕ). field_bytes f ++ l) (fields-append fs gs) ∙ sym (append_assoc (field_bytes f) (fields_bytes fs) (fields_bytes gs))

regroup_4 : (a b c d : List ℕ) → ((a ++ b) ++ c) ++ d ≡ a ++ (b ++ (c ++ d))
regroup_4 a b c d = simp append_assoc

regroup_5 : (a b c d e : List ℕ) → (((a ++ b) ++ c) ++ d) ++ e ≡ a ++ (b ++ (c ++ (d ++ e)))
regroup_5 a b c d e = simp append_assoc

-- the fields from 35 to 60
unfoldable pub body_bytes : Message (List ℕ) → List ℕ
body_bytes m = fields_bytes (field_with type_tag (kind_text (kind_of m)) ∷ written_fields m)

module _ (id orig : ℕ) (side : Side) (volume : Contracts) (price : Steps) (sixty : List ℕ) where
  last_fields : (fs : List Field) → fields_bytes fs ++ fields_bytes (field_with time_tag sixty ∷ []) ≡ fields_bytes (fs ++ (field_with time_tag sixty ∷ []))
  last_fields fs = sym (fields-append fs (field_with time_tag sixty ∷ []))

  pub new_body : ((field_bytes (field_with type_tag (kind_text new)) ++ field_bytes (field_with id_tag (decimal_of id))) ++ fields_bytes (terms_fields side volume price))
      ++ fields_bytes (field_with time_tag sixty ∷ []) ≡ body_bytes (new_order id side volume price sixty)
  unfolding body_bytes written_fields fields_bytes
  new_body =
      regroup_4 (field_bytes (field_with type_tag (kind_text new))) (field_bytes (field_with id_tag (decimal_of id))) (fields_bytes (terms_fields side volume price)) (fields_bytes (field_with time_tag sixty ∷ []))
      ∙ ap (λ (l : List ℕ). field_bytes (field_with type_tag (kind_text new)) ++ (field_bytes (field_with id_tag (decimal_of id)) ++ l)) (last_fields (terms_fields side volume price))

  pub cancel_body : ((field_bytes (field_with type_tag (kind_text cancel)) ++ field_bytes (field_with id_tag (decimal_of id))) ++ field_bytes (field_with orig_tag (decimal_of orig)))
      ++ fields_bytes (field_with time_tag sixty ∷ []) ≡ body_bytes (cancel_order id orig sixty)
  unfolding body_bytes written_fields fields_bytes
  cancel_body =
      regroup_4 (field_bytes (field_with type_tag (kind_text cancel))) (field_bytes (field_with id_tag (decimal_of id))) (field_bytes (field_with orig_tag (decimal_of orig))) (fields_bytes (field_with time_tag sixty ∷ []))

  pub replace_body : (((field_bytes (field_with type_tag (kind_text replace)) ++ field_bytes (field_with id_tag (decimal_of id))) ++ field_bytes (field_with orig_tag (decimal_of orig)))
      ++ fields_bytes (terms_fields side volume price)) ++ fields_bytes (field_with time_tag sixty ∷ []) ≡ body_bytes (replace_order id orig side volume price sixty)
  unfolding body_bytes written_fields fields_bytes
  replace_body =
      regroup_5 (field_bytes (field_with type_tag (kind_text replace))) (field_bytes (field_with id_tag (decimal_of id))) (field_bytes (field_with orig_tag (decimal_of orig))) (fields_bytes (terms_fields side volume price))
      (fields_bytes (field_with time_tag sixty ∷ []))
      ∙ ap (λ (l : List ℕ). field_bytes (field_with type_tag (kind_text replace)) ++ (field_bytes (field_with id_tag (decimal_of id)) ++ (field_bytes (field_with orig_tag (decimal_of orig)) ++ l)))
      (last_fields (terms_fields side volume price))

counted_is : (fs : List Field) → fields_bytes (counted_by fs) ≡ head_bytes (length (fields_bytes fs)) ++ fields_bytes fs
unfolding fields_bytes head_bytes
counted_is fs = sym (append_assoc (field_bytes (field_with version_tag version)) (field_bytes (field_with length_tag (decimal_of (length (fields_bytes fs))))) (fields_bytes fs))

checked_is : (fs : List Field) → checked_by fs ≡ fields_bytes fs ++ tail_bytes (fields_bytes fs)
unfolding tail_bytes fields_bytes
checked_is fs =
    let last : Field = field_with checksum_tag (three_digits (sum (fields_bytes fs) % 256)) in
    fields-append fs (last ∷ []) ∙ ap (λ (l : List ℕ). fields_bytes fs ++ l) (append-nil (field_bytes last))

pub message_is : (m : Message (List ℕ)) → message_bytes m ≡ framed_bytes (body_bytes m)
unfolding message_bytes framed_bytes body_bytes
message_is m =
    let fs : List Field = field_with type_tag (kind_text (kind_of m)) ∷ written_fields m in
    checked_is (counted_by fs) ∙ ap (λ (l : List ℕ). l ++ tail_bytes l) (counted_is fs)

-- ---- what is answered
formed_of : (v : List ℕ) (g : Bool) → has_form form v ≡ g → is_some (if g && (good_date (parts_of v) && good_clock (parts_of v)) then Some (parts_of v) else None) ≡ true → g ≡ true
formed_of v true e h = refl
formed_of v false e h = absurd (true≢false (sym h))

pub time_formed : (v : List ℕ) → is_time v ≡ true → has_form form v ≡ true
unfolding is_time time_in
time_formed v h = formed_of v (has_form form v) refl h

pub time_length : (v : List ℕ) → is_time v ≡ true → length v ≡ 21
time_length v h = form-length form v (time_formed v h)

module _ (m : Message (List ℕ)) where
  written_by_lem : (o : Option Timestamp) (b : List ℕ) → is_some o ≡ true → accepted b ≡ written_by o b
  written_by_lem None b h = absurd (true≢false (sym h))
  written_by_lem (Some t) b h = refl

  refused_by : (o : Option Timestamp) (b : List ℕ) → is_some o ≡ false → refused 21 ≡ written_by o b
  refused_by None b h = refl
  refused_by (Some t) b h = absurd (true≢false h)

  pub written : (t : MessageText) → is_time (time_of m) ≡ true → t ≡ text_of (message_bytes m) → length (message_bytes m) ≤ 114 → Writes m (Ok t)
  unfolding write_message is_time
  written t h e most =
      subst (λ (t : MessageText). Writes m (Ok t)) (sym e)
      (record {
        shows = ap accepted (take-append_seam (message_bytes m) (replicate (114 - length (message_bytes m)) 0)) ∙ written_by_lem (time_in (time_of m)) (message_bytes m) h;
        text =
            record {
              long = omega (arith, length-append (message_bytes m) (replicate (114 - length (message_bytes m)) 0), length-replicate {A = ℕ} (114 - length (message_bytes m)) 0);
              most = most;
              zeros = drop-append_seam (message_bytes m) (replicate (114 - length (message_bytes m)) 0);
            };
      })

  pub unwritten : is_time (time_of m) ≡ false → Writes m (Err FieldWrong)
  unfolding write_message is_time
  unwritten h = record { shows = refused_by (time_in (time_of m)) (message_bytes m) h; text = search rules }

  -- from the bytes that are closed
  pub answered : (t : MessageText) (body : List ℕ) → is_time (time_of m) ≡ true → body ≡ body_bytes m
      → (t ≡ text_of (framed_bytes body)) × (length (framed_bytes body) ≤ 114) → Writes m (Ok t)
  answered t body h e c =
      let is : framed_bytes body ≡ message_bytes m = ap framed_bytes e ∙ sym (message_is m) in
      written t h (c.0 ∙ ap text_of is) (subst (λ (l : List ℕ). length l ≤ 114) is c.1)
