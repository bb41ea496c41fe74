-- What a decoded block says: the call, whose row (an open's) or bytes (a message's) are among the block's words.
use Rattle.std.specs.Prelude.{ℕ, List}
use Rattle.rules.specs.Calls as B
use Rattle.call_blocks.specs.declared.Decoded.{Decoded}
use Rattle.call_blocks.specs.declared.Decoded.TheVariants as D
use Rattle.call_blocks.specs.Kinds.{row_at, start_at, message_at}

-- the call, with the block's words given
abbrev pub call_with : List ℕ → Decoded → B.Call
call_with ws (D.Open day opening) = B.Open (row_at ws) day opening
call_with ws (D.Send e) = B.Send e
call_with ws D.Message = B.Message (start_at ws) (message_at ws)
call_with ws (D.Ask a) = B.Ask a
call_with ws (D.Commit a ticket) = B.Commit a ticket
call_with ws (D.Close active passive) = B.Close active passive
call_with ws D.Drop = B.Drop
call_with ws (D.Charge day expiry quantum active passive) = B.Charge day expiry quantum active passive
call_with ws (D.Withdraw day expiry quantum) = B.Withdraw day expiry quantum
call_with ws (D.Look day expiry quantum) = B.Look day expiry quantum
call_with ws D.Report = B.Report
call_with ws D.Outlook = B.Outlook
