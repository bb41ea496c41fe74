-- Which keys are there, then D against 1 and the limit.
use Rattle.price_keys.proofs.Spread.{state_no_bid, state_no_ask, state_crossed, state_wide, state-kept}
use Rattle.price_keys.proofs.keys_state.Goals as goal

pub returns-then-bid-eq0 : goal.returns-then-bid-eq0
returns-then-bid-eq0 c =
    let a = c.args in
    state_no_bid a.widest a.bid a.ask c.if-bid-eq0.true c.absent_bid.result c.absent_bid.ensures

pub returns-then-ask-eq0 : goal.returns-then-ask-eq0
returns-then-ask-eq0 c =
    let a = c.args in
    state_no_ask a.widest a.bid a.ask c.if-bid-eq0.false c.if-ask-eq0.true

pub returns-then-both-gt2000000001 : goal.returns-then-both-gt2000000001
returns-then-both-gt2000000001 c =
    let a = c.args in
    state_crossed a.widest a.bid a.ask c.if-bid-eq0.false c.if-ask-eq0.false c.if-both-gt2000000001.true

pub returns-then-both-widest-lt2000000002 : goal.returns-then-both-widest-lt2000000002
returns-then-both-widest-lt2000000002 c =
    let a = c.args in
    state_wide a.widest a.bid a.ask c.if-bid-eq0.false c.if-ask-eq0.false c.if-both-gt2000000001.false c.if-both-widest-lt2000000002.true

pub returns : goal.returns
returns c =
    let a = c.args in
    state-kept a.widest a.bid a.ask c.if-bid-eq0.false c.if-ask-eq0.false c.if-both-gt2000000001.false c.if-both-widest-lt2000000002.false
