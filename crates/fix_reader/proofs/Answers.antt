-- Two different answers never show the same number and values.
use Rattle.std.proofs.Common.{◌≡◌, ℕ, refl, sym, ap, ◌∙◌, Result, Ok, Err, Option, None, Some}
use Rattle.rules.specs.declared.Refusal.{Refusal}
use Rattle.rules.specs.declared.Timestamp.{Timestamp}
use Rattle.rules.specs.Answers.{Outcome, accepted, refused}
use Rattle.rules.specs.Messages as M
use Rattle.rules.proofs.Answers.{number-names, not_refused}
use Rattle.fix_reader.specs.declared.Message.{Message}
use Rattle.fix_reader.specs.declared.Message.TheVariants as R
use Rattle.fix_reader.specs.Answers.{values_shown, shown_message}

-- the message that has them
read_back : M.Message Timestamp → Message
read_back (M.new_order id side volume price time) = R.New id side volume price time
read_back (M.cancel_order id orig time) = R.Cancel id orig time
read_back (M.replace_order id orig side volume price time) = R.Replace id orig side volume price time

named : (m : Message) → read_back (values_shown m) ≡ m
unfolding read_back
named (R.New id side volume price time) = refl
named (R.Cancel id orig time) = refl
named (R.Replace id orig side volume price time) = refl

answer_in : Outcome (M.Message Timestamp) → Option Message
answer_in (accepted m) = Some (read_back m)
answer_in (refused n) = None

number_in : Outcome (M.Message Timestamp) → ℕ
number_in (accepted m) = 0
number_in (refused n) = n

some_is : {a b : Message} → Some a ≡ Some b → a ≡ b
some_is q = cc

pub message_told : (r s : Result Message Refusal) → shown_message r ≡ shown_message s → r ≡ s
unfolding answer_in number_in
message_told (Ok a) (Ok b) e = ap Ok (sym (named a) ∙ some_is (ap answer_in e) ∙ named b)
message_told (Ok a) (Err s) e = absurd (not_refused _ _ e)
message_told (Err r) (Ok b) e = absurd (not_refused _ _ (sym e))
message_told (Err r) (Err s) e = ap Err (number-names r s (ap number_in e))
