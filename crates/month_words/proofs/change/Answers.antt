-- One arm a call; a call that shows something is none of these.
use Prim.Native.Nat.{ℕ}
use mathlib.Core.Path.{refl, sym, ap, subst, ◌∙◌}
use mathlib.Core.Bool.{true≢false}
use Rattle.rules.specs.Calls.{Call}
use Rattle.words.specs.Bytes.{words_in}
use Rattle.call_blocks.specs.Decoded.{call_with}
use Rattle.month_in_place.specs.Events.{ChangesMonth}
use Rattle.month_words.proofs.Hints.{untouched, changes_leave, of_call}
use Rattle.month_words.proofs.Tags.{tags_shown}
use borrow.Author.Rules.{rules}
use Rattle.month_words.proofs.change.Goals as goal

pub returns-in-Open : goal.returns-in-Open
returns-in-Open c =
    let x = c.«open» in
    let k = ap (call_with (words_in c.args.bytes.now)) c.in-Open.is in
    λ e. (subst (λ (y : Call). ChangesMonth c.args.words.now y x.new.words x.result) (sym k) x.ensures, untouched c.args.words.now _ c.args.hints.now)

pub returns-in-Send : goal.returns-in-Send
returns-in-Send c =
    let k = ap (call_with (words_in c.args.bytes.now)) c.in-Send.is in
    λ e. (
      subst (λ (y : Call). ChangesMonth c.args.words.now y c.event.new.words c.event.result) (sym k) c.event.ensures.0,
      of_call c.args.words.now _ _ c.args.hints.now c.event.new.hints (sym k) (changes_leave c.args.words.now _ c.event.new.words c.event.result c.args.hints.now c.event.new.hints refl c.event.ensures.0 c.event.ensures.1),
    )

pub returns-in-Message : goal.returns-in-Message
returns-in-Message c =
    let k = ap (call_with (words_in c.args.bytes.now)) c.in-Message.is in
    λ e. (
      subst (λ (y : Call). ChangesMonth c.args.words.now y c.message.new.words c.message.result) (sym k) c.message.ensures.0,
      of_call c.args.words.now _ _ c.args.hints.now c.message.new.hints (sym k) (changes_leave c.args.words.now _ c.message.new.words c.message.result c.args.hints.now c.message.new.hints refl c.message.ensures.0 c.message.ensures.1),
    )

pub returns-in-Commit : goal.returns-in-Commit
returns-in-Commit c =
    let k = ap (call_with (words_in c.args.bytes.now)) c.in-Commit.is in
    λ e. (
      subst (λ (y : Call). ChangesMonth c.args.words.now y c.commit.new.words c.commit.result) (sym k) c.commit.ensures.0,
      of_call c.args.words.now _ _ c.args.hints.now c.commit.new.hints (sym k) (changes_leave c.args.words.now _ c.commit.new.words c.commit.result c.args.hints.now c.commit.new.hints refl c.commit.ensures.0 c.commit.ensures.1),
    )

pub returns-in-Close : goal.returns-in-Close
returns-in-Close c =
    let k = ap (call_with (words_in c.args.bytes.now)) c.in-Close.is in
    λ e. (subst (λ (y : Call). ChangesMonth c.args.words.now y c.close.new.words c.close.result) (sym k) c.close.ensures, untouched c.args.words.now _ c.args.hints.now)

pub returns-in-Drop : goal.returns-in-Drop
returns-in-Drop c =
    let k = ap (call_with (words_in c.args.bytes.now)) c.in-Drop.is in
    λ e. (subst (λ (y : Call). ChangesMonth c.args.words.now y c.drop.new.words c.drop.result) (sym k) c.drop.ensures, untouched c.args.words.now _ c.args.hints.now)

pub returns-in-Charge : goal.returns-in-Charge
returns-in-Charge c =
    let k = ap (call_with (words_in c.args.bytes.now)) c.in-Charge.is in
    λ e. (subst (λ (y : Call). ChangesMonth c.args.words.now y c.charge.new.words c.charge.result) (sym k) c.charge.ensures, untouched c.args.words.now _ c.args.hints.now)

pub returns-in-Withdraw : goal.returns-in-Withdraw
returns-in-Withdraw c =
    let k = ap (call_with (words_in c.args.bytes.now)) c.in-Withdraw.is in
    λ e. (subst (λ (y : Call). ChangesMonth c.args.words.now y c.withdraw.new.words c.withdraw.result) (sym k) c.withdraw.ensures, untouched c.args.words.now _ c.args.hints.now)

pub returns-in_default : goal.returns-in_default
returns-in_default c =
    λ e. absurd (true≢false (sym (tags_shown c.args.said c.in_default.in_default-own.keys9) ∙ e))
