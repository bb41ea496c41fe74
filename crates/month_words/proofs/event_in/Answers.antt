-- By the kind and the number of bytes.
use Rattle.month_words.proofs.Events.{is_long, says_amend, says_tick, says_added, says_cancel, says_deal}
use borrow.Author.Rules.{rules}
use Rattle.month_words.proofs.event_in.Goals as goal

pub amend_in-requires : goal.amend_in-requires
amend_in-requires c = is_long c.args.bytes.now c.word-kind.result 3 20 c.if-kind-n.true

pub returns-then-kind-n : goal.returns-then-kind-n
returns-then-kind-n c =
    says_amend c.args.bytes.now c.amend_in.result c.word-kind.result c.word-kind.ensures c.if-kind-n.true c.amend_in.ensures

pub tick_in-requires : goal.tick_in-requires
tick_in-requires c = is_long c.args.bytes.now c.word-kind.result 6 8 c.if-kind-n-2.true

pub returns-then-kind-n-2 : goal.returns-then-kind-n-2
returns-then-kind-n-2 c =
    says_tick c.args.bytes.now c.tick_in.result c.word-kind.result c.word-kind.ensures c.if-kind-n-2.true c.tick_in.ensures

pub add_in-requires : goal.add_in-requires
add_in-requires c = is_long c.args.bytes.now c.word-kind.result 2 24 c.if-kind-n-3.true

pub returns-then-kind-n-3 : goal.returns-then-kind-n-3
returns-then-kind-n-3 c =
    says_added c.args.bytes.now c.word-kind.result c.word-kind.ensures c.if-kind-n-3.true c.add_in.result c.add_in.ensures

pub cancel_in-requires : goal.cancel_in-requires
cancel_in-requires c = is_long c.args.bytes.now c.word-kind.result 4 12 c.if-kind-n-4.true

pub returns-then-kind-n-4 : goal.returns-then-kind-n-4
returns-then-kind-n-4 c =
    says_cancel c.args.bytes.now c.cancel_in.result c.word-kind.result c.word-kind.ensures c.if-kind-n-4.true c.cancel_in.ensures

pub deal_in-requires : goal.deal_in-requires
deal_in-requires c = is_long c.args.bytes.now c.word-kind.result 5 16 c.if-kind-n-5.true

pub returns-then-kind-n-5 : goal.returns-then-kind-n-5
returns-then-kind-n-5 c =
    says_deal c.args.bytes.now c.deal_in.result c.word-kind.result c.word-kind.ensures c.if-kind-n-5.true c.deal_in.ensures
