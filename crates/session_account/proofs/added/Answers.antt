-- Each state's time with what counts for it.
use Rattle.session_account.proofs.added.Goals as goal

pub returns : goal.returns
returns c = λ i.
    record {
      kept = c.longer.ensures i;
      no_bid = c.longer-2.ensures i;
      no_ask = c.longer-3.ensures i;
      neither = c.longer-4.ensures i;
      crossed = c.longer-5.ensures i;
      wide = c.longer-6.ensures i;
    }
