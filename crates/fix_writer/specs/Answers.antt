-- What the writer of messages answers.
use Rattle.std.specs.Prelude.{ℕ, ◌-◌, ◌≤◌, ◌≡◌, List, length, take, drop, replicate, Result, IfOk}
use Rattle.rules.specs.declared.Refusal.{Refusal}
use Rattle.rules.specs.Answers.{Outcome, shown}
use Rattle.rules.specs.Messages.{Message, write_message}
use Rattle.fix_writer.specs.declared.MessageText.{MessageText}

-- the bytes up to the length; "a 60 not so formed is code 21"
abbrev pub shown_text : Result MessageText Refusal → Outcome (List ℕ)
shown_text = shown (λ t. take t.length t.bytes)

-- "answered by value, at most 114 bytes": those past the length are 0
pub record IsText (t : MessageText) : Type 0 where
  pub long : length t.bytes ≡ 114
  pub most : t.length ≤ 114
  pub zeros : drop t.length t.bytes ≡ replicate (114 - t.length) 0

pub record Writes (m : Message (List ℕ)) (r : Result MessageText Refusal) : Type 0 where
  pub shows : shown_text r ≡ write_message m
  pub text : IfOk r IsText
